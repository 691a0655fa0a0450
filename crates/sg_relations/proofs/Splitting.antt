-- A split of two monic polynomials by the greatest common divisor of w(k) and b(k + m).
--   monic_moved           a monic polynomial at k + m is monic, of the same size
--   monic_quotient        a monic polynomial over a monic divisor is monic, and the degrees add up
--   product-push, product-remove     what a factor adds to the product
--   factors_some          a product of powers of monic polynomials isn't 0
--   split_is              the split, with the sum of the exponents at the divisor
use Rattle.std.proofs.Common.{◌≡◌, ℕ, zero, suc, ◌+◌, ◌-◌, ◌*◌, ◌<◌, refl, sym, subst, ap, ap₂, ◌∙◌, List, [], ◌∷◌, ◌++◌, map, length, get_or, All, ℤ, pos, ◌+ℤ◌, ◌-ℤ◌, neg_ℤ, arith}
use Rattle.std.proofs.lemmas.Int.{ints}
use Rattle.std.specs.List.{remove}
use Rattle.std.proofs.lemmas.List.Elements.{All-push}
use Rattle.sg_algebra.specs.Coefficients.{poly_mul}
use Rattle.sg_algebra.proofs.Solver.{ring, reads}
use Rattle.sg_algebra.proofs.Field.{domain, product_ne}
use Rattle.sg_algebra.proofs.Divides.{dvd_on, dvd_same, identity}
use Rattle.sg_algebra.proofs.Degree.{Degree, Monic, degree_same, degree_unique, degree-mul, coef-mul_top}
use Rattle.sg_algebra.proofs.Shift.{moved, twist-top, twist-past}
use Rattle.sg_algebra.proofs.Value.{Value, ◌*ᵛ◌, one_value}
use Rattle.sg_algebra.proofs.ValueField.{ValueR, ValueF, ValueD, value_one_ne}
use Rattle.sg_algebra.proofs.Rational.{whole_value}
use Rattle.sg_algebra.proofs.Polynomial.{Polynomial, PolynomialR, PolynomialD, poly, poly_same, same_list, poly-mul, coefficient, zero_polynomial, ◌*ᵖ◌}
use Rattle.sg_dispersion_theory.proofs.Listed.{poly_degree}
use Rattle.sg_poly.specs.Divisors.{◌∣ᵖ◌, IsMonic, IsGcd}
use Rattle.sg_poly.proofs.Dividers.{monic_some}
use Rattle.sg_spread.specs.Shifts.{Meets}
use Rattle.sg_spread.proofs.Meeting.{constant_divisor}
use Rattle.sg_algebra.proofs.ShiftValue.{shift_valueH}
use Rattle.sg_first_order_theory.proofs.Next.{nextH, moved_polynomial, moved_polynomial-poly, moved-iter_next}
use Rattle.sg_first_order_theory.proofs.ValueFractions.{whole, whole-mul, value_fractions}
use Rattle.sg_reduction_theory.proofs.Images.{moved_undone, moved_polynomialH}
use Rattle.sg_constant.proofs.Taken.{size_degree, monic_degree}
use Rattle.sg_constant.proofs.Plans.{part_some}
use Rattle.sg_tower_theory.specs.Powers.{power}
use Rattle.sg_relations_theory.specs.Rows.{sum_row}
use Rattle.sg_relations_theory.proofs.PowerLaws.{Some, power_ne}
use Rattle.sg_relations_theory.proofs.RatioTheorem.{inside}
use Rattle.sg_relations_theory.proofs.Generators.{ι_some}
use Rattle.sg_relations_theory.proofs.Similar.{Similar, similar_same, similar_refl, similar-mul}
use Rattle.sg_relations_theory.proofs.SplitColumns.{split_columns}
use Rattle.sg_relations_theory.proofs.ShiftedSimilar.{shifted_similar}
use Rattle.sg_relations.specs.declared.factors.Factor.{Factor}
use Rattle.sg_relations.specs.declared.factors.Shifts.{Shifts}
use Rattle.sg_relations.specs.declared.factors.Shifts.TheVariants.{All as Every, Zero}
use Rattle.sg_relations.specs.Factors.{field_map, AreAlike, exponent, HasWidth, size, base_of, factor_at, product_at, IsFactor, IsShift, waiting_weight, standing_weight, IsSplit}

module _ {d : ℕ} where
  pub moved_zero : (b : List (Value d)) → poly (moved (ValueR d) (whole_value d (pos 0)) b) ≡ poly b
  moved_zero b = moved-iter_next 0 b

  pub monic_moved : (m : ℤ) (p q : List (Value d)) → IsMonic p → poly q ≡ poly (moved (ValueR d) (whole_value d m) p) → (r : IsMonic q) × (size q ≡ size p)
  monic_moved m p q h e = ((h.0, top), size_degree h.0 q (monic_degree q (h.0, top)) ∙ sym (size_degree h.0 p (monic_degree p h)))
    where
      after : List (Value d)
      after = moved (ValueR d) (whole_value d m) p

      same : (i : ℕ) → coefficient q i ≡ coefficient after i
      same i = (same_list q after e).image.at i

      top : Monic (ValueR d) h.0 q
      top = record {
        top = same h.0 ∙ twist-top (ValueR d) (identity (ValueR d)) (whole_value d m) h.0 p h.1.ends ∙ h.1.top;
        ends = λ i l. same i ∙ twist-past (ValueR d) (identity (ValueR d)) (whole_value d m) h.0 p h.1.ends i l;
      }

  pub monic_quotient : (p q r : List (Value d)) → IsMonic p → IsMonic r → poly p ≡ poly q *ᵖ poly r → (m : IsMonic q) × (size p - 1 ≡ (size q - 1) + (size r - 1))
  monic_quotient p q r hp hr e = at (poly_degree q (part_some (poly p) (poly q) (poly r) e (monic_some p hp)).0)
    where
      n : ℕ
      n = hr.0

      same : (i : ℕ) → coefficient (poly_mul (ValueR d) q r) i ≡ coefficient p i
      same i = (same_list (poly_mul (ValueR d) q r) p (poly-mul q r ∙ sym e)).image.at i

      one_right : (x : Value d) → x ≡ x *ᵛ one_value
      one_right x = ring (ValueR d) (x ∷ []) (search reads depth 12) refl

      at : (m : ℕ) × Degree (ValueR d) m q → (k : IsMonic q) × (size p - 1 ≡ (size q - 1) + (size r - 1))
      at (m, g) = ((m, record { top = lead; ends = g.ends }), sizes (size p) (size q) (size r) (size_degree hp.0 p (monic_degree p hp)) (size_degree m q g) (size_degree n r (monic_degree r hr)))
        where
          degree_p : hp.0 ≡ m + n
          degree_p = degree_unique (ValueR d) hp.0 (m + n) p (monic_degree p hp)
              (degree_same (ValueR d) (m + n) (poly_mul (ValueR d) q r) p (same_list (poly_mul (ValueR d) q r) p (poly-mul q r ∙ sym e)) (degree-mul (ValueD d) m n q r g (monic_degree r hr)))

          lead : coefficient q m ≡ one_value
          lead = one_right (coefficient q m) ∙ ap (λ y. coefficient q m *ᵛ y) (sym hr.1.top) ∙ sym (coef-mul_top (ValueR d) m n q r g.ends hr.1.ends) ∙ same (m + n)
              ∙ subst (λ (k : ℕ). coefficient p k ≡ one_value) degree_p hp.1.top

          sizes : (a b c : ℕ) → a ≡ suc hp.0 → b ≡ suc m → c ≡ suc n → a - 1 ≡ (b - 1) + (c - 1)
          sizes a b c h k l = omega (arith, h, k, l, degree_p)

  -- what has a divisor that is no constant isn't 1
  pub no_small : (a b g : List (Value d)) (m : ℤ) → Meets a b m → IsMonic g → IsGcd (poly g) (poly a) (poly (moved (ValueR d) (whole_value d m) b)) → 1 < size g
  no_small a b g m k h c = go h.0 refl
    where
      at : (n : ℕ) → h.0 ≡ n → (i : ℕ) → n ≡ 0 → coefficient g i ≡ coefficient (one_value ∷ []) i
      at n e zero z = subst (λ (j : ℕ). coefficient g j ≡ one_value) (e ∙ z) h.1.top
      at n e (suc i) z = h.1.ends (suc i) (omega (arith, e, z))

      go : (n : ℕ) → h.0 ≡ n → 1 < size g
      go zero e = absurd (let y = constant_divisor k.common one_value (value_one_ne d) (subst (λ (x : Polynomial d). k.common ∣ᵖ x) (poly_same g (one_value ∷ []) (λ i. at zero e i refl)) (c.greatest k.common k.left k.right)) in k.positive y.0 y.1)
      go (suc n) e = above (size g) (size_degree h.0 g (monic_degree g h))
        where
          above : (s : ℕ) → s ≡ suc h.0 → 1 < s
          above s q = omega (arith, q, e)

  pub whole_some : (x : Polynomial d) → ¬ (x ≡ zero_polynomial) → Some (ValueF (suc d)) (whole x)
  whole_some x h = ι_some (PolynomialD d) (nextH d) (ValueF (suc d)) (inside (value_fractions d)) x h

exponent-sum : (a b : List ℤ) (i : ℕ) → get_or (sum_row a b) i (pos 0) ≡ get_or a i (pos 0) +ℤ get_or b i (pos 0)
exponent-sum [] b i = sym (lib.IntN.+ℤ_idl (get_or b i (pos 0)))
exponent-sum (x ∷ a) [] i = sym (lib.IntN.+ℤ_idr (get_or (x ∷ a) i (pos 0)))
exponent-sum (x ∷ a) (y ∷ b) zero = refl
exponent-sum (x ∷ a) (y ∷ b) (suc i) = exponent-sum a b i

length-sum : (a b : List ℤ) → length a ≡ length b → length (sum_row a b) ≡ length a
length-sum [] [] e = refl
length-sum [] (y ∷ b) e = absurd (omega arith)
length-sum (x ∷ a) [] e = absurd (omega arith)
length-sum (x ∷ a) (y ∷ b) e = ap suc (length-sum a b (omega arith))

minus_neg : (m : ℤ) → pos 0 -ℤ m ≡ neg_ℤ m
minus_neg m = omega (arith, ints)

module _ {K : Type 0} {d : ℕ} (v : K → Value d) where
  pub product-push : (cs : List (Factor K)) (c : Factor K) (i : ℕ) → product_at v (cs ++ c ∷ []) i ≡ factor_at v c i *ᵛ product_at v cs i
  product-push [] c i = refl
  product-push (x ∷ cs) c i = ap (λ y. factor_at v x i *ᵛ y) (product-push cs c i) ∙ ring (ValueR (suc d)) (factor_at v x i ∷ factor_at v c i ∷ product_at v cs i ∷ []) (search reads depth 12) refl

  pub product-remove : (cs : List (Factor K)) (j : ℕ) (c : Factor K) (i : ℕ) → j < length cs → factor_at v (get_or cs j c) i *ᵛ product_at v (remove cs j) i ≡ product_at v cs i
  product-remove [] j c i l = absurd (omega arith)
  product-remove (x ∷ cs) zero c i l = refl
  product-remove (x ∷ cs) (suc j) c i l = ring (ValueR (suc d)) (factor_at v (get_or cs j c) i ∷ factor_at v x i ∷ product_at v (remove cs j) i ∷ []) (search reads depth 12) refl
      ∙ ap (λ y. factor_at v x i *ᵛ y) (product-remove cs j c i (omega arith))

  pub waiting-push : (cs : List (Factor K)) (c : Factor K) → waiting_weight v (cs ++ c ∷ []) ≡ (3 * (size (map v c.base) - 1) + 1) + waiting_weight v cs
  waiting-push [] c = refl
  waiting-push (x ∷ cs) c = rw (waiting-push cs c) (omega arith)

  pub standing-push : (cs : List (Factor K)) (c : Factor K) → standing_weight v (cs ++ c ∷ []) ≡ 3 * (size (map v c.base) - 1) + standing_weight v cs
  standing-push [] c = refl
  standing-push (x ∷ cs) c = rw (standing-push cs c) (omega arith)

  pub standing-remove : (cs : List (Factor K)) (j : ℕ) (c : Factor K) → j < length cs → 3 * (size (map v (get_or cs j c).base) - 1) + standing_weight v (remove cs j) ≡ standing_weight v cs
  standing-remove [] j c l = absurd (omega arith)
  standing-remove (x ∷ cs) zero c l = refl
  standing-remove (x ∷ cs) (suc j) c l = let e = standing-remove cs j c (omega arith) in omega arith

  pub waiting-remove : (cs : List (Factor K)) (j : ℕ) (c : Factor K) → j < length cs → (3 * (size (map v (get_or cs j c).base) - 1) + 1) + waiting_weight v (remove cs j) ≡ waiting_weight v cs
  waiting-remove [] j c l = absurd (omega arith)
  waiting-remove (x ∷ cs) zero c l = refl
  waiting-remove (x ∷ cs) (suc j) c l = let e = waiting-remove cs j c (omega arith) in omega arith

  pub factor_some : (c : Factor K) (i : ℕ) → IsFactor v c → Some (ValueF (suc d)) (factor_at v c i)
  factor_some c i h = power_ne (ValueF (suc d)) (whole (base_of v c)) (exponent c i) (whole_some (base_of v c) (monic_some (map v c.base) h))

  pub factors_some : (cs : List (Factor K)) (i : ℕ) → All (IsFactor v) cs → Some (ValueF (suc d)) (product_at v cs i)
  factors_some [] i h = value_one_ne (suc d)
  factors_some (c ∷ cs) i h = product_ne (domain (ValueF (suc d))) (factor_some c i (h 0 c (omega arith))) (factors_some cs i (λ k x l. h (suc k) x (omega arith)))

  module _ (s : Shifts) (m : ℤ) (w b g' b' w' : Factor K) (W : List (Factor K)) (here : List K) (shift : IsShift s m) (w_monic : IsFactor v w) (b_monic : IsFactor v b) (widths : length w.exps ≡ length b.exps)
      (met : Meets (map v w.base) (map v b.base) m) (common : IsGcd (base_of v g') (base_of v w) (poly (moved (ValueR d) (whole_value d m) (map v b.base)))) (g_monic : IsFactor v g')
      (back : poly (map v here) ≡ poly (moved (ValueR d) (whole_value d (pos 0 -ℤ m)) (map v g'.base)))
      (g_exps : g'.exps ≡ sum_row w.exps b.exps) (b_exps : b'.exps ≡ b.exps) (w_exps : w'.exps ≡ w.exps)
      (w_is : base_of v w ≡ base_of v w' *ᵖ base_of v g') (b_is : base_of v b ≡ base_of v b' *ᵖ poly (map v here)) where
    here_monic : (r : IsMonic (map v here)) × (size (map v here) ≡ size (map v g'.base))
    here_monic = monic_moved (pos 0 -ℤ m) (map v g'.base) (map v here) g_monic back

    w_rest : (r : IsMonic (map v w'.base)) × (size (map v w.base) - 1 ≡ (size (map v w'.base) - 1) + (size (map v g'.base) - 1))
    w_rest = monic_quotient (map v w.base) (map v w'.base) (map v g'.base) w_monic g_monic w_is

    b_rest : (r : IsMonic (map v b'.base)) × (size (map v b.base) - 1 ≡ (size (map v b'.base) - 1) + (size (map v here) - 1))
    b_rest = monic_quotient (map v b.base) (map v b'.base) (map v here) b_monic here_monic.0 b_is

    g_some : ¬ (base_of v g' ≡ zero_polynomial)
    g_some = monic_some (map v g'.base) g_monic

    here_some : ¬ (poly (map v here) ≡ zero_polynomial)
    here_some = monic_some (map v here) here_monic.0

    alike : (s : Shifts) → IsShift s m → Similar (ValueF (suc d)) (field_map s d) (whole (poly (map v here))) (whole (base_of v g'))
    alike Every h = similar_same (ValueF (suc d)) (shift_valueH d) (whole (poly (moved (ValueR d) (whole_value d (pos 0 -ℤ m)) (map v g'.base)))) (whole (base_of v g')) (whole (poly (map v here))) (whole (base_of v g'))
        (ap whole (sym back)) refl (shifted_similar (pos 0 -ℤ m) (map v g'.base) g_some (λ z. here_some (back ∙ z)))
    alike Zero h = similar_same (ValueF (suc d)) (identity (ValueR (suc d))) (whole (base_of v g')) (whole (base_of v g')) (whole (poly (map v here))) (whole (base_of v g'))
        (ap whole (sym (back ∙ subst (λ (z : ℤ). poly (moved (ValueR d) (whole_value d z) (map v g'.base)) ≡ base_of v g') (sym (nothing m h)) (moved_zero (map v g'.base))))) refl
        (similar_refl (ValueF (suc d)) (identity (ValueR (suc d))) (whole (base_of v g')))
      where
        nothing : (m : ℤ) → m ≡ pos 0 → pos 0 -ℤ m ≡ pos 0
        nothing m e = omega (arith, ints, e)

    abbrev T : Type 0
    T = Value (suc d)

    both : (i : ℕ) → AreAlike s (factor_at v w i *ᵛ factor_at v b i) (factor_at v w' i *ᵛ (factor_at v b' i *ᵛ factor_at v g' i))
    both i = similar_same (ValueF (suc d)) (field_map s d) (factor_at v w i *ᵛ factor_at v b i) (power (ValueF (suc d)) (whole (base_of v w')) (exponent w i) *ᵛ (power (ValueF (suc d)) (whole (base_of v b')) (exponent b i) *ᵛ power (ValueF (suc d)) (whole (base_of v g')) (exponent w i +ℤ exponent b i)))
        (factor_at v w i *ᵛ factor_at v b i) (factor_at v w' i *ᵛ (factor_at v b' i *ᵛ factor_at v g' i)) refl
        (ap₂ ◌*ᵛ◌ (ap (λ (r : List ℤ). power (ValueF (suc d)) (whole (base_of v w')) (get_or r i (pos 0))) (sym w_exps))
        (ap₂ ◌*ᵛ◌ (ap (λ (r : List ℤ). power (ValueF (suc d)) (whole (base_of v b')) (get_or r i (pos 0))) (sym b_exps))
        (ap (power (ValueF (suc d)) (whole (base_of v g'))) (sym (exponent-sum w.exps b.exps i) ∙ ap (λ (r : List ℤ). get_or r i (pos 0)) (sym g_exps)))))
        (split_columns (ValueF (suc d)) (field_map s d) (whole (base_of v w)) (whole (base_of v b)) (whole (base_of v w')) (whole (base_of v b')) (whole (base_of v g')) (whole (poly (map v here)))
        (whole_some (base_of v w') (monic_some (map v w'.base) w_rest.0)) (whole_some (base_of v b') (monic_some (map v b'.base) b_rest.0)) (whole_some (base_of v g') g_some) (whole_some (poly (map v here)) here_some)
        (ap whole w_is ∙ whole-mul (base_of v w') (base_of v g') ∙ turn (whole (base_of v w')) (whole (base_of v g'))) (ap whole b_is ∙ whole-mul (base_of v b') (poly (map v here)) ∙ turn (whole (base_of v b')) (whole (poly (map v here))))
        (alike s shift) (exponent w i) (exponent b i))
      where
        turn : (x y : T) → x *ᵛ y ≡ y *ᵛ x
        turn x y = ring (ValueR (suc d)) (x ∷ y ∷ []) (search reads depth 12) refl

    abbrev after : List (Factor K)
    after = ((W ++ g' ∷ []) ++ b' ∷ []) ++ w' ∷ []

    kept : (i : ℕ) → AreAlike s (factor_at v w i *ᵛ (factor_at v b i *ᵛ product_at v W i)) (product_at v after i)
    kept i = similar_same (ValueF (suc d)) (field_map s d) ((factor_at v w i *ᵛ factor_at v b i) *ᵛ product_at v W i) ((factor_at v w' i *ᵛ (factor_at v b' i *ᵛ factor_at v g' i)) *ᵛ product_at v W i)
        (factor_at v w i *ᵛ (factor_at v b i *ᵛ product_at v W i)) (product_at v after i)
        (ring (ValueR (suc d)) (factor_at v w i ∷ factor_at v b i ∷ product_at v W i ∷ []) (search reads depth 12) refl)
        (ring (ValueR (suc d)) (factor_at v w' i ∷ factor_at v b' i ∷ factor_at v g' i ∷ product_at v W i ∷ []) (search reads depth 12) refl
        ∙ sym (product-push ((W ++ g' ∷ []) ++ b' ∷ []) w' i ∙ ap (λ (y : T). factor_at v w' i *ᵛ y) (product-push (W ++ g' ∷ []) b' i ∙ ap (λ (y : T). factor_at v b' i *ᵛ y) (product-push W g' i))))
        (similar-mul (ValueF (suc d)) (field_map s d) (factor_at v w i *ᵛ factor_at v b i) (factor_at v w' i *ᵛ (factor_at v b' i *ᵛ factor_at v g' i)) (product_at v W i) (product_at v W i) (both i)
        (similar_refl (ValueF (suc d)) (field_map s d) (product_at v W i)))

    falls : waiting_weight v after < ((3 * (size (map v w.base) - 1) + 1) + 3 * (size (map v b.base) - 1)) + waiting_weight v W
    falls = less (size (map v w.base)) (size (map v b.base)) (size (map v w'.base)) (size (map v b'.base)) (size (map v g'.base)) (size (map v here)) (waiting_weight v W) (waiting_weight v (W ++ g' ∷ [])) (waiting_weight v ((W ++ g' ∷ []) ++ b' ∷ [])) (waiting_weight v after)
        w_rest.1 b_rest.1 here_monic.1 (no_small (map v w.base) (map v b.base) (map v g'.base) m met g_monic common) (waiting-push W g') (waiting-push (W ++ g' ∷ []) b') (waiting-push ((W ++ g' ∷ []) ++ b' ∷ []) w')
      where
        less : (w b w' b' g h V1 V2 V3 V4 : ℕ) → w - 1 ≡ (w' - 1) + (g - 1) → b - 1 ≡ (b' - 1) + (h - 1) → h ≡ g → 1 < g → V2 ≡ (3 * (g - 1) + 1) + V1 → V3 ≡ (3 * (b' - 1) + 1) + V2 → V4 ≡ (3 * (w' - 1) + 1) + V3
            → V4 < ((3 * (w - 1) + 1) + 3 * (b - 1)) + V1
        less w b w' b' g h V1 V2 V3 V4 e1 e2 e3 l e4 e5 e6 = omega arith

    pub split_is : IsSplit v s (length w.exps) w b W after
    split_is = record {
      monic = λ h. All-push (IsFactor v) ((W ++ g' ∷ []) ++ b' ∷ []) w' (All-push (IsFactor v) (W ++ g' ∷ []) b' (All-push (IsFactor v) W g' h g_monic) b_rest.0) w_rest.0;
      width = λ h. All-push (HasWidth (length w.exps)) ((W ++ g' ∷ []) ++ b' ∷ []) w' (All-push (HasWidth (length w.exps)) (W ++ g' ∷ []) b' (All-push (HasWidth (length w.exps)) W g' h (ap length g_exps ∙ length-sum w.exps b.exps widths)) (ap length b_exps ∙ sym widths)) (ap length w_exps);
      kept = kept;
      falls = falls;
    }

module _ {d : ℕ} where
  -- the common divisor, moved back, divides the second polynomial
  pub back_divides : (b g here : List (Value d)) (m : ℤ) → poly g ∣ᵖ poly (moved (ValueR d) (whole_value d m) b) → poly here ≡ poly (moved (ValueR d) (whole_value d (pos 0 -ℤ m)) g) → poly here ∣ᵖ poly b
  back_divides b g here m h e = dvd_same (PolynomialR d) (moved_polynomial (neg_ℤ m) (poly g)) (moved_polynomial (neg_ℤ m) (moved_polynomial m (poly b))) (poly here) (poly b)
      (moved_polynomial-poly (neg_ℤ m) g ∙ ap (λ (z : ℤ). poly (moved (ValueR d) (whole_value d z) g)) (sym (minus_neg m)) ∙ sym e) (moved_undone m (poly b))
      (dvd_on (PolynomialR d) (PolynomialR d) (moved_polynomialH (neg_ℤ m)) (poly g) (moved_polynomial m (poly b)) (subst (λ (x : Polynomial d). poly g ∣ᵖ x) (sym (moved_polynomial-poly m b)) h))
