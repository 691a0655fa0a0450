-- The values of terms as they are found.
--   found-some, found-none     what is found, as one clause for each case
--   found-both             of two parts
--   found-powers, found-term, found-terms       of a product of powers, a term, a list of terms
--   found-coefficient      of a rational function
--   power-inverse          a negative power
use Rattle.std.proofs.Common.{◌≡◌, ℕ, Option, Some, None, IfSome, IfNone, ℤ, pos, ◌<ℤ◌, unsigned_abs, refl, sym, ap, subst, ◌∙◌, List, [], ◌∷◌, map}
use Rattle.sg_algebra.proofs.PolynomialLowest.{monic_ne}
use Rattle.sg_algebra.proofs.Rational.{whole_value}
use Rattle.sg_algebra.proofs.Ring.{pow}
use Rattle.sg_algebra.proofs.Solver.{ring, reads}
use Rattle.sg_algebra.proofs.Value.{Value, ◌+ᵛ◌, ◌*ᵛ◌, ◌/ᵛ◌, inv_value, zero_value, one_value}
use Rattle.sg_algebra.proofs.ValueField.{ValueR, ValueD}
use Rattle.sg_poly.specs.Polynomials.{polynomial_at}
use Rattle.sg_ratfun.specs.Fractions.{ratio, quotient_at}
use Rattle.sg_ratfun.specs.Reduced.{IsReduced}
use Rattle.sg_tower_theory.proofs.Flat.{Term}
use Rattle.sg_value_theory.proofs.Elements.{IsQuotientAt}
use Rattle.sg_build.specs.Found.{Finds, IsBoth}
use Rattle.sg_build.specs.TermValues.{IsPowerOf, ArePowers, IsTermAt, AreTermsAt}
use Rattle.sg_build.proofs.LowestValues.{no-value}
use Rattle.sg_build.proofs.TermParts.{power-negative}

module _ {K : Type 0} {d : ℕ} (v : K → Value d) where
  pub found-some : (P Q : Value d → Type 0) (o : Option K) → ((w : Value d) → P w → Q w) → Finds v P o → IfSome o (λ x. Q (v x))
  found-some P Q (Some x) f h = f (v x) h
  found-some P Q None f h = tt

  pub found-none : (P : Value d → Type 0) (Q : Type 0) (o : Option K) → (((w : Value d) → ¬ P w) → Q) → Finds v P o → IfNone o Q
  found-none P Q (Some x) f h = tt
  found-none P Q None f h = f h

  -- what is found for two parts is found for what they make
  found-both : (op : Value d → Value d → Value d) (P Q R : Value d → Type 0) → ((a b : Value d) → P a → Q b → R (op a b)) → ((w : Value d) → R w → ((a : Value d) × P a) × ((b : Value d) × Q b))
      → (x y o : Option K) → Finds v P x → Finds v Q y → IsBoth v op x y o → Finds v R o
  found-both op P Q R join parts (Some x) (Some y) (Some r) h i e = subst R (sym e) (join (v x) (v y) h i)
  found-both op P Q R join parts (Some x) (Some y) None h i e = absurd e
  found-both op P Q R join parts (Some x) None (Some r) h i e = absurd e
  found-both op P Q R join parts (Some x) None None h i e = λ w u. let b = (parts w u).1 in i b.0 b.1
  found-both op P Q R join parts None y (Some r) h i e = absurd e
  found-both op P Q R join parts None y None h i e = λ w u. let a = (parts w u).0 in h a.0 a.1

  pub found-powers : (a : Value d) (as' : List (Value d)) (e : ℤ) (es : List ℤ) (x y o : Option K) → Finds v (IsPowerOf a e) x → Finds v (ArePowers as' es) y → IsBoth v ◌*ᵛ◌ x y o → Finds v (ArePowers (a ∷ as') (e ∷ es)) o
  found-powers a as' e es = found-both ◌*ᵛ◌ (IsPowerOf a e) (ArePowers as' es) (ArePowers (a ∷ as') (e ∷ es)) (λ p q h i. (p, q, h, i, refl)) (λ w u. ((u.0, u.2), (u.1, u.3)))

  pub found-term : (k : ℤ) (vs : List (Value d)) (t : Term d) (x y o : Option K) → Finds v (IsQuotientAt k t.coefficient) x → Finds v (ArePowers vs t.exponents) y → IsBoth v ◌*ᵛ◌ x y o → Finds v (IsTermAt k vs t) o
  found-term k vs t = found-both ◌*ᵛ◌ (IsQuotientAt k t.coefficient) (ArePowers vs t.exponents) (IsTermAt k vs t) (λ p q h i. (p, q, h, i, refl)) (λ w u. ((u.0, u.2), (u.1, u.3)))

  pub found-terms : (k : ℤ) (vs : List (Value d)) (t : Term d) (ts : List (Term d)) (x y o : Option K) → Finds v (IsTermAt k vs t) x → Finds v (AreTermsAt k vs ts) y → IsBoth v ◌+ᵛ◌ x y o → Finds v (AreTermsAt k vs (t ∷ ts)) o
  found-terms k vs t ts = found-both ◌+ᵛ◌ (IsTermAt k vs t) (AreTermsAt k vs ts) (AreTermsAt k vs (t ∷ ts)) (λ p q h i. (p, q, h, i, refl)) (λ w u. ((u.0, u.2), (u.1, u.3)))

  -- what `value` answers for a rational function in lowest terms
  pub found-coefficient : (k : ℤ) (at : Value d) (r : List K × List K) (o : Option K) → at ≡ whole_value d k → IsReduced (map v r.0) (map v r.1)
      → IfSome o (λ c. v c ≡ quotient_at v r.0 r.1 at) → IfSome o (λ _. ¬ (polynomial_at v r.1 at ≡ zero_value)) → IfNone o (polynomial_at v r.1 at ≡ zero_value) → Finds v (IsQuotientAt k (ratio v r)) o
  found-coefficient k at r (Some c) e reduced value defined none = record {
    upper = map v r.0;
    lower = map v r.1;
    quotient = refl;
    defined = λ z. defined (ap (polynomial_at v r.1) e ∙ z);
    value = value ∙ ap (quotient_at v r.0 r.1) e;
  }
  found-coefficient k at r None e reduced value defined none =
      no-value d k (map v r.0) (map v r.1) (monic_ne (ValueD d) reduced.monic.0 (map v r.1) reduced.monic.1) reduced.coprime (ap (polynomial_at v r.1) (sym e) ∙ none)

module _ {d : ℕ} where
  pub power-inverse : (v o i a : Value d) (e : ℤ) → e <ℤ pos 0 → ¬ (v ≡ zero_value) → o ≡ one_value → i ≡ o /ᵛ v → a ≡ pow (ValueR d) i (unsigned_abs e) → IsPowerOf v e a
  power-inverse v o i a e l n h j k =
      power-negative v a e l n (k ∙ ap (λ b. pow (ValueR d) b (unsigned_abs e)) (j ∙ ap (λ b. b /ᵛ v) h ∙ alone (inv_value v)))
    where
      alone : (b : Value d) → one_value *ᵛ b ≡ b
      alone b = ring (ValueR d) (b ∷ []) (search reads depth 12) refl
