-- One place further, with one product x going to α x.
--   laurent-moves      what has a value one place further has it, shifted, here
use Rattle.std.proofs.Common.{◌≡◌, ℕ, zero, suc, refl, sym, ap, ◌∙◌, List, [], ◌∷◌}
use Rattle.sg_algebra.specs.Ring.{Ring, Domain, Hom}
use Rattle.sg_algebra.specs.Coefficients.{eval}
use Rattle.sg_algebra.proofs.Ring.{pow}
use Rattle.sg_algebra.proofs.Solver.{ring, by, scale, reads}
use Rattle.sg_algebra.proofs.PolynomialRing.{PolyR}
use Rattle.sg_algebra.proofs.Value.{Value, ◌*ᵛ◌, neg_value, inv_value, zero_value, one_value}
use Rattle.sg_algebra.proofs.ValueField.{ValueR, value_mul-inv}
use Rattle.sg_algebra.proofs.Place.{Pairwise}
use Rattle.sg_tower_theory.proofs.Laurent.{Laurent, LaurentR}
use Rattle.sg_tower_theory.proofs.LaurentShift.{scaledH, shifted, shiftedH}
use Rattle.sg_value_theory.proofs.Evaluation.{Evaluation, pow_has}
use Rattle.sg_value_theory.proofs.Elements.{IsPolynomialAt, IsLaurentAt}
use Rattle.sg_value_theory.proofs.Polynomials.{raised, raised-constant, at_same, at_add, at_mul, at_zero}

module _ (D : Domain) (σ : Hom D.R D.R) (α β : D.R.A) (unit : D.R.◌≈◌ (D.R.◌⊠◌ α β) D.R.I) {d : ℕ} (V V' : Evaluation D.R d) (moves : (x : D.R.A) (v : Value d) → V'.Has x v → V.Has (σ.on x) v)
    (t t' a b : Value d) (has_factor : V.Has α a) (has_inverse : V.Has β b) (grows : t' ≡ a *ᵛ t) (nonzero : ¬ (t ≡ zero_value)) (nonzero' : ¬ (t' ≡ zero_value)) where
  open D use {R}
  open R use {A, O, I}
  open PolyR R use {◌≈◌ as ◌≋◌, ◌⊞◌ as ◌⊕◌, ◌⊠◌ as ◌⊗◌}

  abbrev P : Ring
  P = PolyR R

  abbrev L : Ring
  L = LaurentR D

  abbrev W : Evaluation P d
  W = raised R V t

  point-has : IsPolynomialAt R V.Has t (O ∷ α ∷ []) t'
  point-has = record {
    coefficients = O ∷ α ∷ [];
    values = zero_value ∷ a ∷ [];
    same = P.rfl;
    each = (V.zero_has, (has_factor, tt));
    value = by (ValueR d) (t' ∷ t ∷ a ∷ []) grows (search reads depth 16) refl;
  }

  scaled-moves : (cs : List A) (vs : List (Value d)) → Pairwise V'.Has cs vs → IsPolynomialAt R V.Has t ((scaledH D σ α β unit).on cs) (eval (ValueR d) vs t')
  scaled-moves [] [] h = at_zero R V t
  scaled-moves [] (v ∷ vs) h = absurd h
  scaled-moves (c ∷ cs) [] h = absurd h
  scaled-moves (c ∷ cs) (v ∷ vs) h =
      at_add R V t (σ.on c ∷ []) ((O ∷ α ∷ []) ⊗ (scaledH D σ α β unit).on cs) v (t' *ᵛ eval (ValueR d) vs t')
      (raised-constant R V t (σ.on c) v (moves c v h.0))
      (at_mul R V t (O ∷ α ∷ []) ((scaledH D σ α β unit).on cs) t' (eval (ValueR d) vs t') point-has (scaled-moves cs vs h.1))

  product : a *ᵛ b ≡ one_value
  product = V.unique I (a *ᵛ b) one_value (V.same (R.◌⊠◌ α β) I (a *ᵛ b) unit (V.mul_has α β a b has_factor has_inverse)) V.one_has

  -- the inverse value at the next place
  inverse : b *ᵛ inv_value t ≡ inv_value t'
  inverse = step a b t (inv_value t) t' (inv_value t') product (value_mul-inv d t nonzero) (value_mul-inv d t' nonzero') grows
    where
      step : (a b t u t' u' : Value d) → a *ᵛ b ≡ one_value → t *ᵛ u ≡ one_value → t' *ᵛ u' ≡ one_value → t' ≡ a *ᵛ t → b *ᵛ u ≡ u'
      step a b t u t' u' e f g h = by (ValueR d) (a ∷ b ∷ t ∷ u ∷ t' ∷ u' ∷ [])
          ((ValueR d).add_cong (scale (ValueR d) (neg_value (b *ᵛ u)) g) ((ValueR d).add_cong (scale (ValueR d) (u' *ᵛ (b *ᵛ u)) h) ((ValueR d).add_cong (scale (ValueR d) ((t *ᵛ u) *ᵛ u') e) (scale (ValueR d) u' f)))) (search reads depth 20 fits 5000) refl

  powers : (m : ℕ) → pow (ValueR d) b m *ᵛ pow (ValueR d) (inv_value t) m ≡ pow (ValueR d) (inv_value t') m
  powers zero = ring (ValueR d) [] (search reads depth 12) refl
  powers (suc m) = by (ValueR d) (pow (ValueR d) b m ∷ pow (ValueR d) (inv_value t) m ∷ pow (ValueR d) (inv_value t') m ∷ b ∷ inv_value t ∷ inv_value t' ∷ []) ((ValueR d).mul_cong (powers m) inverse) (search reads depth 20) refl

  pub laurent-moves : (x : Laurent D) (v : Value d) → IsLaurentAt D V'.Has t' x v → IsLaurentAt D V.Has t (shifted D σ α β unit x) v
  laurent-moves x v h = record {
    upper = scaled ⊗ pow P (β ∷ []) h.lag;
    lag = h.lag;
    same = (shiftedH D σ α β unit).on_cong x (record { poly = h.upper; lag = h.lag }) h.same;
    upper_value = e *ᵛ pow (ValueR d) b h.lag;
    upper_has = W.mul_has scaled (pow P (β ∷ []) h.lag) e (pow (ValueR d) b h.lag)
        (at_same R V t ((scaledH D σ α β unit).on h.upper_has.coefficients) scaled e ((scaledH D σ α β unit).on_cong h.upper_has.coefficients h.upper (P.symm h.upper_has.same)) (scaled-moves h.upper_has.coefficients h.upper_has.values h.upper_has.each))
        (pow_has W (β ∷ []) b h.lag (raised-constant R V t β b has_inverse));
    value = h.value ∙ ap (λ z. z *ᵛ pow (ValueR d) (inv_value t') h.lag) h.upper_has.value ∙ ap (λ z. e *ᵛ z) (sym (powers h.lag)) ∙ sym (ValueR d).mul_assoc;
  }
    where
      scaled : List A
      scaled = (scaledH D σ α β unit).on h.upper

      e : Value d
      e = eval (ValueR d) h.upper_has.values t'
