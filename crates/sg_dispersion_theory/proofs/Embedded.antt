-- Fractions and whole numbers among the values of any depth, and lists of coefficients that have values.
--   Valued d args            some element has a value at args, so that there is a number for each variable
--   has_one, has_nat, has_whole    1 and whole numbers have themselves as values, wherever some element has a value
--   embedded d q             the fraction q as a value of depth d; `has_embedded` says that it has the value q
--   none                     0 has the value 0
--   pairwise_at              the values of all coefficients, those past the end too
--   pairwise-embedded, pairwise-moved    the values of fractions embedded, of the coefficients of a polynomial moved by a number
--   monic_values             the values of a monic polynomial are a monic polynomial of the same degree
use Rattle.std.proofs.Common.{◌≡◌, ℕ, zero, suc, refl, sym, ◌∙◌, ap, subst, List, [], ◌∷◌, map, ℤ, pos, negsuc}
use Rattle.sg_algebra.specs.Coefficients.{coef}
use Rattle.sg_algebra.proofs.Ring.{nat}
use Rattle.sg_algebra.proofs.Solver.{ring, reads}
use Rattle.sg_algebra.proofs.PolynomialRing.{PolyR}
use Rattle.sg_algebra.proofs.Degree.{Monic, poly_one_ne}
use Rattle.sg_algebra.proofs.Shift.{moved}
use Rattle.sg_algebra.proofs.Value.{Value, ◌*ᵛ◌, ◌/ᵛ◌, zero_value, one_value}
use Rattle.sg_algebra.proofs.ValueField.{ValueR, ValueD, value_one_ne, value_quotient}
use Rattle.sg_algebra.proofs.OverValue.{over_value-self}
use Rattle.sg_algebra.proofs.Rational.{whole_value}
use Rattle.sg_algebra.proofs.Embedding.{constant_value}
use Rattle.sg_algebra.proofs.Place.{Pairwise, HasValue, value_at}
use Rattle.sg_algebra.proofs.Places.{has_laws, has_zero, has_unique, has_add, has_neg, pairwise-add, pairwise-mul}

pub record Valued (d : ℕ) (args : List ℤ) : Type 0 where
  pub item : Value d
  pub value : Value 0
  pub has : HasValue d item args value

-- a polynomial with a value other than 0 has a coefficient, so the numbers before the last are as many as there have to be
some_value : (d : ℕ) (args : List ℤ) (a : ℤ) (p : List (Value d)) (w : List (Value 0)) → Pairwise (λ c v. HasValue d c args v) p w → ¬ (value_at w a ≡ zero_value) → Valued d args
some_value d args a [] [] h n = absurd (n refl)
some_value d args a [] (v ∷ w) h n = absurd h
some_value d args a (c ∷ p) [] h n = absurd h
some_value d args a (c ∷ p) (v ∷ w) h n = record { item = c; value = v; has = h.0 }

constant_at : (v : Value 0) (a : ℤ) → value_at (v ∷ []) a ≡ v
constant_at v a = ring (ValueR 0) (v ∷ whole_value 0 a ∷ []) (search reads depth 16) refl

one_at : (a : ℤ) → ¬ (value_at (one_value ∷ []) a ≡ zero_value)
one_at a z = value_one_ne 0 (sym (constant_at one_value a) ∙ z)

over_one : (v : Value 0) (a : ℤ) → v ≡ value_at (v ∷ []) a /ᵛ value_at (one_value ∷ []) a
over_one v a = value_quotient (value_at (v ∷ []) a) (value_at (one_value ∷ []) a) v (one_at a)
    (ap (λ w. v *ᵛ w) (constant_at one_value a) ∙ ring (ValueR 0) (v ∷ whole_value 0 a ∷ []) (search reads depth 16) refl)

pub has_one : (d : ℕ) (args : List ℤ) → Valued d args → HasValue d one_value args one_value
has_one zero args s = (s.has.0, refl)
has_one (suc d) args s =
    let h = s.has in
    let k = has_one d h.before (some_value d h.before h.last h.lower h.lower_values h.lowers h.defined) in
    record {
      before = h.before;
      last = h.last;
      upper = one_value ∷ [];
      lower = one_value ∷ [];
      upper_values = one_value ∷ [];
      lower_values = one_value ∷ [];
      arguments = h.arguments;
      quotient = sym (over_value-self d (one_value ∷ []) (poly_one_ne (ValueD d)));
      uppers = (k, tt);
      lowers = (k, tt);
      defined = one_at h.last;
      value = over_one one_value h.last;
    }

abbrev pub embedded : (d : ℕ) → Value 0 → Value d
embedded zero q = q
embedded (suc d) q = constant_value d (embedded d q)

pub has_embedded : (d : ℕ) (args : List ℤ) (q : Value 0) → Valued d args → HasValue d (embedded d q) args q
has_embedded zero args q s = (s.has.0, refl)
has_embedded (suc d) args q s =
    let h = s.has in
    let k = some_value d h.before h.last h.lower h.lower_values h.lowers h.defined in
    record {
      before = h.before;
      last = h.last;
      upper = embedded d q ∷ [];
      lower = one_value ∷ [];
      upper_values = q ∷ [];
      lower_values = one_value ∷ [];
      arguments = h.arguments;
      quotient = refl;
      uppers = (has_embedded d h.before q k, tt);
      lowers = (has_one d h.before k, tt);
      defined = one_at h.last;
      value = over_one q h.last;
    }

module _ (d : ℕ) (args : List ℤ) (s : Valued d args) where
  abbrev Has : Value d → Value 0 → Type 0
  Has x v = HasValue d x args v

  pub none : HasValue d zero_value args zero_value
  none = has_zero d args s.item s.item s.value s.value s.has

  pub has_nat : (n : ℕ) → HasValue d (nat (ValueR d) n) args (nat (ValueR 0) n)
  has_nat zero = none
  has_nat (suc n) = has_add d args (nat (ValueR d) n) one_value (nat (ValueR 0) n) one_value (has_nat n) (has_one d args s)

  pub has_whole : (m : ℤ) → HasValue d (whole_value d m) args (whole_value 0 m)
  has_whole (pos n) = has_nat n
  has_whole (negsuc n) = has_neg d args (nat (ValueR d) (suc n)) s.item (nat (ValueR 0) (suc n)) s.value (has_nat (suc n))

  -- ---- Polynomials whose coefficients have values

  pub pairwise_at : (p : List (Value d)) (u : List (Value 0)) → Pairwise Has p u → (n : ℕ) → HasValue d (coef (ValueR d) p n) args (coef (ValueR 0) u n)
  pairwise_at [] [] h n = none
  pairwise_at [] (v ∷ u) h n = absurd h
  pairwise_at (x ∷ p) [] h n = absurd h
  pairwise_at (x ∷ p) (v ∷ u) h zero = h.0
  pairwise_at (x ∷ p) (v ∷ u) h (suc n) = pairwise_at p u h.1 n

  pub pairwise-embedded : (u : List (Value 0)) → Pairwise Has (map (embedded d) u) u
  pairwise-embedded [] = tt
  pairwise-embedded (v ∷ u) = (has_embedded d args v s, pairwise-embedded u)

  pub pairwise-moved : (β : Value d) (γ : Value 0) → Has β γ → (p : List (Value d)) (u : List (Value 0)) → Pairwise Has p u → Pairwise Has (moved (ValueR d) β p) (moved (ValueR 0) γ u)
  pairwise-moved β γ e [] [] h = tt
  pairwise-moved β γ e [] (v ∷ u) h = absurd h
  pairwise-moved β γ e (x ∷ p) [] h = absurd h
  pairwise-moved β γ e (x ∷ p) (v ∷ u) h =
      pairwise-add Has (has_laws d args) (x ∷ []) ((PolyR (ValueR d)).◌⊠◌ (β ∷ one_value ∷ []) (moved (ValueR d) β p)) (v ∷ []) ((PolyR (ValueR 0)).◌⊠◌ (γ ∷ one_value ∷ []) (moved (ValueR 0) γ u)) (h.0, tt)
      (pairwise-mul Has (has_laws d args) (β ∷ one_value ∷ []) (moved (ValueR d) β p) (γ ∷ one_value ∷ []) (moved (ValueR 0) γ u) (e, (has_one d args s, tt)) (pairwise-moved β γ e p u h.1))

  pub monic_values : (n : ℕ) (p : List (Value d)) (u : List (Value 0)) → Pairwise Has p u → Monic (ValueR d) n p → Monic (ValueR 0) n u
  monic_values n p u h m = record { top = same n one_value one_value m.top (has_one d args s); ends = λ i l. same i zero_value zero_value (m.ends i l) none }
    where
      same : (i : ℕ) (x : Value d) (v : Value 0) → coef (ValueR d) p i ≡ x → Has x v → coef (ValueR 0) u i ≡ v
      same i x v e k = has_unique d args x x (coef (ValueR 0) u i) v (subst (λ (z : Value d). Has z (coef (ValueR 0) u i)) e (pairwise_at p u h i)) k
