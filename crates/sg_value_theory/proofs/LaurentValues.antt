-- The values of Laurent polynomials in one product x, where x has a value t other than 0.
--   laurent_values D V t n     they are an evaluation
--   laurent-constant           an element of the domain has its own value
use Rattle.std.proofs.Common.{◌≡◌, ℕ, zero, suc, ◌+◌, refl, sym, ap, ap₂, ◌∙◌, List, [], ◌∷◌}
use Rattle.sg_algebra.specs.Ring.{Ring, Domain}
use Rattle.sg_algebra.proofs.Ring.{pow, pow-add}
use Rattle.sg_algebra.proofs.Solver.{ring, by, scale, reads}
use Rattle.sg_algebra.proofs.PolynomialRing.{PolyR, X}
use Rattle.sg_algebra.proofs.Value.{Value, ◌+ᵛ◌, ◌*ᵛ◌, neg_value, inv_value, zero_value, one_value}
use Rattle.sg_algebra.proofs.ValueField.{ValueR, value_mul-inv}
use Rattle.sg_tower_theory.proofs.Laurent.{Laurent, LaurentR, constantsH}
use Rattle.sg_value_theory.proofs.Evaluation.{Evaluation, pow_has}
use Rattle.sg_value_theory.proofs.Elements.{IsLaurentAt}
use Rattle.sg_value_theory.proofs.Polynomials.{raised, raised-constant, raised-variable, at_zero}

module _ {d : ℕ} (t u : Value d) (tu : t *ᵛ u ≡ one_value) where
  pub unit_pow : (n : ℕ) → pow (ValueR d) t n *ᵛ pow (ValueR d) u n ≡ one_value
  unit_pow zero = ring (ValueR d) [] (search reads depth 12) refl
  unit_pow (suc n) = by (ValueR d) (pow (ValueR d) t n ∷ pow (ValueR d) u n ∷ t ∷ u ∷ []) ((ValueR d).mul_cong (unit_pow n) tu) (search reads depth 16) refl

module _ (D : Domain) {d : ℕ} (V : Evaluation D.R d) (t : Value d) (nonzero : ¬ (t ≡ zero_value)) where
  open D use {R}
  open R use {A, O, I}
  open PolyR R use {◌≈◌ as ◌≋◌, ◌⊞◌ as ◌⊕◌, ◌⊠◌ as ◌⊗◌, ⊟ as ⊖}

  abbrev P : Ring
  P = PolyR R

  abbrev L : Ring
  L = LaurentR D

  abbrev W : Evaluation P d
  W = raised R V t

  abbrev u : Value d
  u = inv_value t

  abbrev At : Laurent D → Value d → Type 0
  At x v = IsLaurentAt D V.Has t x v

  power : ℕ → List A
  power n = pow P (X R) n

  tu : t *ᵛ u ≡ one_value
  tu = value_mul-inv d t nonzero

  pub power_has : (n : ℕ) → W.Has (pow P (X R) n) (pow (ValueR d) t n)
  power_has n = pow_has W (X R) t n (raised-variable R V t)

  raised_has : (p : List A) (v : Value d) (n : ℕ) → W.Has p v → W.Has (p ⊗ pow P (X R) n) (v *ᵛ pow (ValueR d) t n)
  raised_has p v n h = W.mul_has p (pow P (X R) n) v (pow (ValueR d) t n) h (power_has n)

  pub laurent_same : (x y : Laurent D) (v : Value d) → L.◌≈◌ x y → At x v → At y v
  laurent_same x y v e h = record { upper = h.upper; lag = h.lag; same = L.trans (L.symm e) h.same; upper_value = h.upper_value; upper_has = h.upper_has; value = h.value }

  pub laurent_unique : (x : Laurent D) (v w : Value d) → At x v → At x w → v ≡ w
  laurent_unique x v w h j =
      h.value ∙ same h.upper_value j.upper_value (pow (ValueR d) t h.lag) (pow (ValueR d) u h.lag) (pow (ValueR d) t j.lag) (pow (ValueR d) u j.lag) (unit_pow t u tu h.lag) (unit_pow t u tu j.lag)
      (W.unique (j.upper ⊗ pow P (X R) h.lag) (h.upper_value *ᵛ pow (ValueR d) t j.lag) (j.upper_value *ᵛ pow (ValueR d) t h.lag)
      (W.same (h.upper ⊗ pow P (X R) j.lag) (j.upper ⊗ pow P (X R) h.lag) (h.upper_value *ᵛ pow (ValueR d) t j.lag) (L.trans (L.symm h.same) j.same).image.cross (raised_has h.upper h.upper_value j.lag h.upper_has))
      (raised_has j.upper j.upper_value h.lag j.upper_has))
      ∙ sym j.value
    where
      same : (a b tm um tn un : Value d) → tm *ᵛ um ≡ one_value → tn *ᵛ un ≡ one_value → a *ᵛ tn ≡ b *ᵛ tm → a *ᵛ um ≡ b *ᵛ un
      same a b tm um tn un e f g = by (ValueR d) (a ∷ b ∷ tm ∷ um ∷ tn ∷ un ∷ [])
          ((ValueR d).add_cong (scale (ValueR d) (um *ᵛ un) g) ((ValueR d).add_cong (scale (ValueR d) (neg_value (a *ᵛ um)) f) (scale (ValueR d) (b *ᵛ un) e))) (search reads depth 20 fits 5000) refl

  pub laurent_add : (x y : Laurent D) (v w : Value d) → At x v → At y w → At (L.◌⊞◌ x y) (v +ᵛ w)
  laurent_add x y v w h j = record {
    upper = h.upper ⊗ pow P (X R) j.lag ⊕ j.upper ⊗ pow P (X R) h.lag;
    lag = h.lag + j.lag;
    same = L.add_cong h.same j.same;
    upper_value = h.upper_value *ᵛ pow (ValueR d) t j.lag +ᵛ j.upper_value *ᵛ pow (ValueR d) t h.lag;
    upper_has = W.add_has (h.upper ⊗ pow P (X R) j.lag) (j.upper ⊗ pow P (X R) h.lag) (h.upper_value *ᵛ pow (ValueR d) t j.lag) (j.upper_value *ᵛ pow (ValueR d) t h.lag) (raised_has h.upper h.upper_value j.lag h.upper_has) (raised_has j.upper j.upper_value h.lag j.upper_has);
    value = ap₂ ◌+ᵛ◌ h.value j.value ∙ same h.upper_value j.upper_value (pow (ValueR d) t h.lag) (pow (ValueR d) u h.lag) (pow (ValueR d) t j.lag) (pow (ValueR d) u j.lag) (unit_pow t u tu h.lag) (unit_pow t u tu j.lag)
        ∙ ap (λ z. (h.upper_value *ᵛ pow (ValueR d) t j.lag +ᵛ j.upper_value *ᵛ pow (ValueR d) t h.lag) *ᵛ z) (sym (pow-add (ValueR d) u h.lag j.lag));
  }
    where
      same : (a b tm um tn un : Value d) → tm *ᵛ um ≡ one_value → tn *ᵛ un ≡ one_value → a *ᵛ um +ᵛ b *ᵛ un ≡ (a *ᵛ tn +ᵛ b *ᵛ tm) *ᵛ (um *ᵛ un)
      same a b tm um tn un e f = by (ValueR d) (a ∷ b ∷ tm ∷ um ∷ tn ∷ un ∷ [])
          ((ValueR d).add_cong (scale (ValueR d) (neg_value (a *ᵛ um)) f) (scale (ValueR d) (neg_value (b *ᵛ un)) e)) (search reads depth 20 fits 5000) refl

  pub laurent_neg : (x : Laurent D) (v : Value d) → At x v → At (L.⊟ x) (neg_value v)
  laurent_neg x v h = record {
    upper = ⊖ h.upper;
    lag = h.lag;
    same = L.neg_cong h.same;
    upper_value = neg_value h.upper_value;
    upper_has = W.neg_has h.upper h.upper_value h.upper_has;
    value = ap neg_value h.value ∙ ring (ValueR d) (h.upper_value ∷ pow (ValueR d) u h.lag ∷ []) (search reads depth 16) refl;
  }

  pub laurent_mul : (x y : Laurent D) (v w : Value d) → At x v → At y w → At (L.◌⊠◌ x y) (v *ᵛ w)
  laurent_mul x y v w h j = record {
    upper = h.upper ⊗ j.upper;
    lag = h.lag + j.lag;
    same = L.mul_cong h.same j.same;
    upper_value = h.upper_value *ᵛ j.upper_value;
    upper_has = W.mul_has h.upper j.upper h.upper_value j.upper_value h.upper_has j.upper_has;
    value = ap₂ ◌*ᵛ◌ h.value j.value ∙ same h.upper_value (pow (ValueR d) u h.lag) j.upper_value (pow (ValueR d) u j.lag) ∙ ap (λ z. (h.upper_value *ᵛ j.upper_value) *ᵛ z) (sym (pow-add (ValueR d) u h.lag j.lag));
  }
    where
      same : (a b c e : Value d) → (a *ᵛ b) *ᵛ (c *ᵛ e) ≡ (a *ᵛ c) *ᵛ (b *ᵛ e)
      same a b c e = ring (ValueR d) (a ∷ b ∷ c ∷ e ∷ []) (search reads depth 16) refl

  over_one : (v : Value d) → v ≡ v *ᵛ one_value
  over_one v = ring (ValueR d) (v ∷ []) (search reads depth 12) refl

  pub laurent-constant : (c : A) (v : Value d) → V.Has c v → At ((constantsH D).on c) v
  laurent-constant c v h = record { upper = c ∷ []; lag = 0; same = L.rfl; upper_value = v; upper_has = raised-constant R V t c v h; value = over_one v }

  pub laurent_zero : At L.O zero_value
  laurent_zero = record { upper = []; lag = 0; same = L.rfl; upper_value = zero_value; upper_has = at_zero R V t; value = over_one zero_value }

  pub laurent_one : At L.I one_value
  laurent_one = laurent-constant I one_value V.one_has

  abbrev pub laurent_values : Evaluation L d
  laurent_values = record {
    Has = IsLaurentAt D V.Has t;
    same = laurent_same;
    unique = laurent_unique;
    zero_has = laurent_zero;
    one_has = laurent_one;
    add_has = laurent_add;
    neg_has = laurent_neg;
    mul_has = laurent_mul;
  }
