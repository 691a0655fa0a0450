-- The three kinds of steps of the refinement of factors, and a turn of its loop.
--   unit_step      a factor that is 1 is dropped
--   move_step      a factor that meets none that stand
--   split_step     a factor that meets one that stands
--   turn_falls, turn_kept    a turn of the loop: the weight falls, and the products stay alike
use Rattle.std.proofs.Common.{◌≡◌, ℕ, zero, suc, ◌+◌, ◌-◌, ◌*◌, ◌≤◌, ◌<◌, refl, sym, ap, ap₂, ◌∙◌, List, [], ◌∷◌, ◌++◌, map, length, get_or, All, arith}
use Rattle.std.specs.List.{remove}
use Rattle.std.proofs.lemmas.List.Elements.{All-push}
use Rattle.std.proofs.lemmas.List.Quantifiers.{all_pairs_push, all_pairs_remove}
use Rattle.sg_algebra.proofs.Solver.{ring, reads}
use Rattle.sg_algebra.proofs.Field.{domain, product_ne}
use Rattle.sg_algebra.proofs.Divides.{Divides}
use Rattle.sg_algebra.proofs.Value.{Value, ◌*ᵛ◌, one_value}
use Rattle.sg_algebra.proofs.ValueField.{ValueR, ValueF, value_one_ne}
use Rattle.sg_algebra.proofs.Polynomial.{PolynomialR, poly, same_poly, coefficient, one_polynomial, EndsNonzero}
use Rattle.sg_poly.specs.Divisors.{IsMonic}
use Rattle.sg_first_order_theory.proofs.ValueFractions.{whole, whole-one}
use Rattle.sg_constant.proofs.Taken.{monic_short, monic_long}
use Rattle.sg_constant.proofs.Reaching.{monic_unit}
use Rattle.sg_relations_theory.proofs.PowerLaws.{one-power, power_cong}
use Rattle.sg_relations_theory.proofs.Similar.{similar_same, similar_refl, similar_trans, similar-mul}
use Rattle.sg_relations.specs.declared.factors.Factor.{Factor}
use Rattle.sg_relations.specs.declared.factors.Shifts.{Shifts}
use Rattle.sg_relations.specs.Factors.{field_map, AreAlike, exponent, HasWidth, size, base_of, factor_at, product_at, IsFactor, IsProper, AreUnmet, ArePairwise, waiting_weight, standing_weight, IsSplit, IsStep}
use Rattle.sg_relations.proofs.Steps.{All-remove}
use Rattle.sg_relations.proofs.Splitting.{product-push, product-remove, waiting-remove, standing-push, standing-remove, factors_some}

module _ {d : ℕ} where
  pub long_proper : (p : List (Value d)) → IsMonic p → EndsNonzero p → 1 < length p → ¬ Divides (PolynomialR d) (poly p) one_polynomial
  long_proper p m e l h = past m.0 (monic_long p m e l) (sym m.1.top ∙ same_poly p (one_value ∷ []) (monic_unit p m h) m.0)
    where
      past : (n : ℕ) → 0 < n → one_value ≡ coefficient (one_value {d = d} ∷ []) n → ⊥
      past zero l e = absurd (omega arith)
      past (suc n) l e = value_one_ne d e

module _ {K : Type 0} {d : ℕ} (v : K → Value d) (s : Shifts) (n : ℕ) where
  abbrev T : Type 0
  T = Value (suc d)

  module _ (w : Factor K) (W S : List (Factor K)) (monic : All (IsFactor v) W) (proper : All (IsProper v) S) (pairwise : ArePairwise v s S) (own : IsFactor v w) (own_width : HasWidth n w) (waiting_width : All (HasWidth n) W) (standing_width : All (HasWidth n) S) where
    pub unit_step : length (map v w.base) ≤ 1 → IsStep v s n w W S W S
    unit_step l = record {
      monic = monic;
      proper = proper;
      waiting_width = waiting_width;
      standing_width = standing_width;
      pairwise = pairwise;
      kept = λ i. similar_same (ValueF (suc d)) (field_map s d) (product_at v W i *ᵛ product_at v S i) (product_at v W i *ᵛ product_at v S i) ((factor_at v w i *ᵛ product_at v W i) *ᵛ product_at v S i) (product_at v W i *ᵛ product_at v S i)
          (ring (ValueR (suc d)) (product_at v W i ∷ product_at v S i ∷ []) (search reads depth 12) refl ∙ ap (λ (y : T). (y *ᵛ product_at v W i) *ᵛ product_at v S i) (sym (one i))) refl
          (similar_refl (ValueF (suc d)) (field_map s d) (product_at v W i *ᵛ product_at v S i));
      falls = less (3 * (size (map v w.base) - 1)) (waiting_weight v W) (standing_weight v S);
    }
      where
        one : (i : ℕ) → factor_at v w i ≡ one_value
        one i = power_cong (ValueF (suc d)) (whole (base_of v w)) one_value (exponent w i) (ap whole (monic_short (map v w.base) own l) ∙ whole-one) ∙ one-power (ValueF (suc d)) (exponent w i)

        less : (a b c : ℕ) → b + c < ((a + 1) + b) + c
        less a b c = omega arith

    pub move_step : 1 < length (map v w.base) → EndsNonzero (map v w.base) → All (AreUnmet v s w.base) S → IsStep v s n w W S W (S ++ w ∷ [])
    move_step l ends far = record {
      monic = monic;
      proper = All-push (IsProper v) S w proper (record { monic = own; proper = long_proper (map v w.base) own ends l });
      waiting_width = waiting_width;
      standing_width = All-push (HasWidth n) S w standing_width own_width;
      pairwise = all_pairs_push (λ (a b : Factor K). AreUnmet v s b.base a) S w pairwise far;
      kept = λ i. similar_same (ValueF (suc d)) (field_map s d) ((factor_at v w i *ᵛ product_at v W i) *ᵛ product_at v S i) ((factor_at v w i *ᵛ product_at v W i) *ᵛ product_at v S i) ((factor_at v w i *ᵛ product_at v W i) *ᵛ product_at v S i) (product_at v W i *ᵛ product_at v (S ++ w ∷ []) i)
          refl (ring (ValueR (suc d)) (factor_at v w i ∷ product_at v W i ∷ product_at v S i ∷ []) (search reads depth 12) refl ∙ ap (λ (y : T). product_at v W i *ᵛ y) (sym (product-push v S w i)))
          (similar_refl (ValueF (suc d)) (field_map s d) ((factor_at v w i *ᵛ product_at v W i) *ᵛ product_at v S i));
      falls = less (3 * (size (map v w.base) - 1)) (waiting_weight v W) (standing_weight v S) (standing_weight v (S ++ w ∷ [])) (standing-push v S w);
    }
      where
        less : (a b c e : ℕ) → e ≡ a + c → b + e < ((a + 1) + b) + c
        less a b c e h = omega (arith, h)

    pub split_step : (j : ℕ) (b : Factor K) (W' : List (Factor K)) → j < length S → b ≡ get_or S j b → IsSplit v s n w b W W' → IsStep v s n w W S W' (remove S j)
    split_step j b W' inside is_b h = record {
      monic = h.monic monic;
      proper = All-remove (IsProper v) S j proper;
      waiting_width = h.width waiting_width;
      standing_width = All-remove (HasWidth n) S j standing_width;
      pairwise = all_pairs_remove (λ (a b : Factor K). AreUnmet v s b.base a) S j inside pairwise;
      kept = λ i. similar_same (ValueF (suc d)) (field_map s d) ((factor_at v w i *ᵛ (factor_at v b i *ᵛ product_at v W i)) *ᵛ product_at v (remove S j) i) (product_at v W' i *ᵛ product_at v (remove S j) i)
          ((factor_at v w i *ᵛ product_at v W i) *ᵛ product_at v S i) (product_at v W' i *ᵛ product_at v (remove S j) i)
          (ring (ValueR (suc d)) (factor_at v w i ∷ factor_at v b i ∷ product_at v W i ∷ product_at v (remove S j) i ∷ []) (search reads depth 12) refl ∙ ap (λ (y : T). (factor_at v w i *ᵛ product_at v W i) *ᵛ y) (standing i)) refl
          (similar-mul (ValueF (suc d)) (field_map s d) (factor_at v w i *ᵛ (factor_at v b i *ᵛ product_at v W i)) (product_at v W' i) (product_at v (remove S j) i) (product_at v (remove S j) i) (h.kept i) (similar_refl (ValueF (suc d)) (field_map s d) (product_at v (remove S j) i)));
      falls = less (3 * (size (map v w.base) - 1)) (3 * (size (map v b.base) - 1)) (waiting_weight v W) (waiting_weight v W') (standing_weight v S) (standing_weight v (remove S j)) h.falls
          (ap (λ (c : Factor K). 3 * (size (map v c.base) - 1) + standing_weight v (remove S j)) is_b ∙ standing-remove v S j b inside);
    }
      where
        standing : (i : ℕ) → factor_at v b i *ᵛ product_at v (remove S j) i ≡ product_at v S i
        standing i = ap (λ (c : Factor K). factor_at v c i *ᵛ product_at v (remove S j) i) is_b ∙ product-remove v S j b i inside

        less : (a b c e f g : ℕ) → e < ((a + 1) + b) + c → b + g ≡ f → e + g < ((a + 1) + c) + f
        less a b c e f g h k = omega (arith, h, k)

  -- ---- A turn of the loop

  module _ (W S W1 W2 S2 : List (Factor K)) (w : Factor K) (j : ℕ) (inside : j < length W) (is_w : w ≡ get_or W j w) (rest : W1 ≡ remove W j) (step : IsStep v s n w W1 S W2 S2) where
    pub turn_falls : waiting_weight v W2 + standing_weight v S2 < waiting_weight v W + standing_weight v S
    turn_falls = less (3 * (size (map v w.base) - 1) + 1) (waiting_weight v W1) (waiting_weight v W) (standing_weight v S) (waiting_weight v W2 + standing_weight v S2)
        (ap₂ (λ (c : Factor K) (V : List (Factor K)). (3 * (size (map v c.base) - 1) + 1) + waiting_weight v V) is_w rest ∙ waiting-remove v W j w inside) step.falls
      where
        less : (a b c e f : ℕ) → a + b ≡ c → f < (a + b) + e → f < c + e
        less a b c e f h k = omega (arith, h, k)

    pub turn_kept : All (IsFactor v) W → All (IsProper v) S → (x : T) (i : ℕ) → AreAlike s x (product_at v W i *ᵛ product_at v S i) → AreAlike s x (product_at v W2 i *ᵛ product_at v S2 i)
    turn_kept monic proper x i h = similar_trans (ValueF (suc d)) (field_map s d) x (product_at v W i *ᵛ product_at v S i) (product_at v W2 i *ᵛ product_at v S2 i) h
        (similar_same (ValueF (suc d)) (field_map s d) ((factor_at v w i *ᵛ product_at v W1 i) *ᵛ product_at v S i) (product_at v W2 i *ᵛ product_at v S2 i) (product_at v W i *ᵛ product_at v S i) (product_at v W2 i *ᵛ product_at v S2 i)
        (ap (λ (y : T). y *ᵛ product_at v S i) (ap₂ (λ (c : Factor K) (V : List (Factor K)). factor_at v c i *ᵛ product_at v V i) is_w rest ∙ product-remove v W j w i inside)) refl (step.kept i))
        (product_ne (domain (ValueF (suc d))) (factors_some v W i monic) (factors_some v S i (λ k c l. (proper k c l).monic)))
