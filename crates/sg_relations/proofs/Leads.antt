-- Constants times quotients of monic polynomials.
--   lead_found            a fraction in lowest terms, its leading coefficient and monic polynomials
--   lead_powers           products of powers of them
--   lead_one              one that is 1 has the constant 1; one that is -1 has -1
--   leads_sign            a product of powers of fractions is 1 or -1 only where that of their leading coefficients is
use Rattle.std.proofs.Common.{◌≡◌, ℕ, zero, suc, ◌+◌, ◌-◌, ◌<◌, ◌≤◌, refl, sym, subst, ap, ap₂, ◌∙◌, List, [], ◌∷◌, map, length, All, ◌⊎◌, inl, inr, ◌↔◌, ℤ, pos, negsuc, arith}
use Rattle.sg_algebra.specs.Coefficients.{poly_mul}
use Rattle.sg_algebra.proofs.Ring.{pow}
use Rattle.sg_algebra.proofs.Solver.{by, ring, scale, reads}
use Rattle.sg_algebra.proofs.Degree.{coef-mul_top, coef-mul_past}
use Rattle.sg_algebra.proofs.Value.{Value, ◌*ᵛ◌, inv_value, neg_value, one_value, zero_value}
use Rattle.sg_algebra.proofs.ValueField.{ValueR, ValueF, value_mul-inv, value_one_ne}
use Rattle.sg_algebra.proofs.Embedding.{constant_value, constant_valueH, over_value-quotient}
use Rattle.sg_algebra.proofs.Polynomial.{PolynomialR, poly, poly-mul, same_poly, coefficient, constant, EndsNonzero, ◌*ᵖ◌}
use Rattle.sg_poly.specs.Divisors.{IsMonic}
use Rattle.sg_poly.proofs.Dividers.{monic_some, monic_is, constants}
use Rattle.sg_ratfun.specs.Fractions.{ratio}
use Rattle.sg_first_order_theory.proofs.ValueFractions.{whole, whole-mul, whole_same}
use Rattle.sg_reduction_theory.proofs.Moves.{whole-constant}
use Rattle.sg_tower_theory.specs.Powers.{power, powers}
use Rattle.sg_relations_theory.specs.Relations.{IsSign}
use Rattle.sg_relations_theory.proofs.PowerLaws.{Some}
use Rattle.sg_relations.specs.Parts.{lead, IsLead}
use Rattle.sg_relations.proofs.Splitting.{whole_some}
use Rattle.sg_relations.proofs.Grown.{lead_is, ratio_upper, ratio_parts}

module _ {d : ℕ} where
  abbrev C : Value d → Value (suc d)
  C c = constant_value d c

  pub monic_product : (p q : List (Value d)) → IsMonic p → IsMonic q → IsMonic (poly_mul (ValueR d) p q)
  monic_product p q a b = (
    a.0 + b.0,
    record {
      top = coef-mul_top (ValueR d) a.0 b.0 p q a.1.ends b.1.ends ∙ ap₂ (λ (x y : Value d). x *ᵛ y) a.1.top b.1.top ∙ ring (ValueR d) [] (search reads depth 12) refl;
      ends = coef-mul_past (ValueR d) a.0 b.0 p q a.1.ends b.1.ends;
    },
  )

  monic_unit : IsMonic (one_value {d = d} ∷ [])
  monic_unit = (0, record { top = refl; ends = λ i l. none i l })
    where
      none : (i : ℕ) → 0 < i → coefficient (one_value {d = d} ∷ []) i ≡ zero_value
      none zero l = absurd (omega arith)
      none (suc i) l = refl

  lead-unit : IsLead {d = d} one_value one_value
  lead-unit = record { upper = one_value ∷ []; lower = one_value ∷ []; upper_monic = monic_unit; lower_monic = monic_unit; is = ap (λ (y : Value (suc d)). y *ᵛ whole (poly (one_value ∷ []))) (sym ((constant_valueH d).on-one)) }

  lead-mul : (c e : Value d) (x y : Value (suc d)) → IsLead c x → IsLead e y → IsLead (c *ᵛ e) (x *ᵛ y)
  lead-mul c e x y a b = record {
    upper = poly_mul (ValueR d) a.upper b.upper;
    lower = poly_mul (ValueR d) a.lower b.lower;
    upper_monic = monic_product a.upper b.upper a.upper_monic b.upper_monic;
    lower_monic = monic_product a.lower b.lower a.lower_monic b.lower_monic;
    is = ap (λ (z : Value (suc d)). (x *ᵛ y) *ᵛ z) (both a.lower b.lower) ∙ four x y (whole (poly a.lower)) (whole (poly b.lower)) ∙ ap₂ (λ (s t : Value (suc d)). s *ᵛ t) a.is b.is
        ∙ four (C c) (whole (poly a.upper)) (C e) (whole (poly b.upper)) ∙ ap₂ (λ (s t : Value (suc d)). s *ᵛ t) (sym ((constant_valueH d).on-mul c e)) (sym (both a.upper b.upper));
  }
    where
      both : (p q : List (Value d)) → whole (poly (poly_mul (ValueR d) p q)) ≡ whole (poly p) *ᵛ whole (poly q)
      both p q = ap whole (poly-mul p q) ∙ whole-mul (poly p) (poly q)

      four : (s t u w : Value (suc d)) → (s *ᵛ t) *ᵛ (u *ᵛ w) ≡ (s *ᵛ u) *ᵛ (t *ᵛ w)
      four s t u w = ring (ValueR (suc d)) (s ∷ t ∷ u ∷ w ∷ []) (search reads depth 12) refl

  lead-inverse : (c : Value d) (x : Value (suc d)) → Some (ValueF d) c → Some (ValueF (suc d)) x → IsLead c x → IsLead (inv_value c) (inv_value x)
  lead-inverse c x cs xs a = record {
    upper = a.lower;
    lower = a.upper;
    upper_monic = a.lower_monic;
    lower_monic = a.upper_monic;
    is = turned x (inv_value x) (C c) (C (inv_value c)) (whole (poly a.upper)) (whole (poly a.lower)) (value_mul-inv (suc d) x xs)
        (sym ((constant_valueH d).on-mul c (inv_value c)) ∙ ap C (value_mul-inv d c cs) ∙ (constant_valueH d).on-one) a.is;
  }
    where
      -- x L = c U: from this, times i j, where x i = 1 and c j = 1: i U = j L
      turned : (x i c j u l : Value (suc d)) → x *ᵛ i ≡ one_value → c *ᵛ j ≡ one_value → x *ᵛ l ≡ c *ᵛ u → i *ᵛ u ≡ j *ᵛ l
      turned x i c j u l p q e = one_left (i *ᵛ u) ∙ ap (λ (y : Value (suc d)). y *ᵛ (i *ᵛ u)) (sym q) ∙ first c j i u ∙ ap (λ (y : Value (suc d)). (j *ᵛ i) *ᵛ y) (sym e) ∙ second j i x l ∙ ap (λ (y : Value (suc d)). y *ᵛ (j *ᵛ l)) p ∙ sym (one_left (j *ᵛ l))
        where
          one_left : (y : Value (suc d)) → y ≡ one_value *ᵛ y
          one_left y = ring (ValueR (suc d)) (y ∷ []) (search reads depth 12) refl

          first : (c j i u : Value (suc d)) → (c *ᵛ j) *ᵛ (i *ᵛ u) ≡ (j *ᵛ i) *ᵛ (c *ᵛ u)
          first c j i u = ring (ValueR (suc d)) (c ∷ j ∷ i ∷ u ∷ []) (search reads depth 12) refl

          second : (j i x l : Value (suc d)) → (j *ᵛ i) *ᵛ (x *ᵛ l) ≡ (x *ᵛ i) *ᵛ (j *ᵛ l)
          second j i x l = ring (ValueR (suc d)) (j ∷ i ∷ x ∷ l ∷ []) (search reads depth 12) refl

  lead-pow : (c : Value d) (x : Value (suc d)) (n : ℕ) → IsLead c x → IsLead (pow (ValueR d) c n) (pow (ValueR (suc d)) x n)
  lead-pow c x zero a = lead-unit
  lead-pow c x (suc n) a = lead-mul (pow (ValueR d) c n) c (pow (ValueR (suc d)) x n) x (lead-pow c x n a) a

  lead-power : (c : Value d) (x : Value (suc d)) (e : ℤ) → Some (ValueF d) c → Some (ValueF (suc d)) x → IsLead c x → IsLead (power (ValueF d) c e) (power (ValueF (suc d)) x e)
  lead-power c x (pos n) cs xs a = lead-pow c x n a
  lead-power c x (negsuc n) cs xs a = lead-pow (inv_value c) (inv_value x) (suc n) (lead-inverse c x cs xs a)

  -- the constant of 1 is 1
  pub lead_one : (c : Value d) (x : Value (suc d)) → IsLead c x → x ≡ one_value → c ≡ one_value
  lead_one c x a e = go (two a.lower_monic.0 a.upper_monic.0)
    where
      one_left : (y : Value (suc d)) → one_value *ᵛ y ≡ y
      one_left y = ring (ValueR (suc d)) (y ∷ []) (search reads depth 12) refl

      same : poly a.lower ≡ poly (poly_mul (ValueR d) (c ∷ []) a.upper)
      same = whole_same (poly a.lower) (poly (poly_mul (ValueR d) (c ∷ []) a.upper)) (sym (one_left (whole (poly a.lower))) ∙ ap (λ (y : Value (suc d)). y *ᵛ whole (poly a.lower)) (sym e) ∙ a.is
          ∙ ap (λ (y : Value (suc d)). y *ᵛ whole (poly a.upper)) (sym (whole-constant c)) ∙ sym (whole-mul (constant c) (poly a.upper)) ∙ ap whole (sym (poly-mul (c ∷ []) a.upper)))

      at : (i : ℕ) → coefficient a.lower i ≡ c *ᵛ coefficient a.upper i
      at i = same_poly a.lower (poly_mul (ValueR d) (c ∷ []) a.upper) same i ∙ Rattle.sg_algebra.proofs.PolynomialRing.coef-scale (ValueR d) c a.upper i

      two : (m n : ℕ) → (m ≡ n) ⊎ ((m < n) ⊎ (n < m))
      two m n = grind arith

      right_one : (y : Value d) → y *ᵛ one_value ≡ y
      right_one y = ring (ValueR d) (y ∷ []) (search reads depth 12) refl

      right_zero : (y : Value d) → y *ᵛ zero_value ≡ zero_value
      right_zero y = ring (ValueR d) (y ∷ []) (search reads depth 12) refl

      left_zero : (y : Value d) → zero_value *ᵛ y ≡ zero_value
      left_zero y = ring (ValueR d) (y ∷ []) (search reads depth 12) refl

      go : (a.lower_monic.0 ≡ a.upper_monic.0) ⊎ ((a.lower_monic.0 < a.upper_monic.0) ⊎ (a.upper_monic.0 < a.lower_monic.0)) → c ≡ one_value
      go (inl q) = sym (right_one c) ∙ ap (λ (y : Value d). c *ᵛ y) (sym a.upper_monic.1.top) ∙ sym (at a.upper_monic.0) ∙ ap (coefficient a.lower) (sym q) ∙ a.lower_monic.1.top
      go (inr (inl l)) = absurd (value_one_ne d (sym a.lower_monic.1.top ∙ at a.lower_monic.0 ∙ ap (λ (y : Value d). y *ᵛ coefficient a.upper a.lower_monic.0) none ∙ left_zero (coefficient a.upper a.lower_monic.0)))
        where
          none : c ≡ zero_value
          none = sym (right_one c) ∙ ap (λ (y : Value d). c *ᵛ y) (sym a.upper_monic.1.top) ∙ sym (at a.upper_monic.0) ∙ a.lower_monic.1.ends a.upper_monic.0 l
      go (inr (inr l)) = absurd (value_one_ne d (sym a.lower_monic.1.top ∙ at a.lower_monic.0 ∙ ap (λ (y : Value d). c *ᵛ y) (a.upper_monic.1.ends a.lower_monic.0 l) ∙ right_zero c))

  lead-neg : (c : Value d) (x : Value (suc d)) → IsLead c x → IsLead (neg_value c) (neg_value x)
  lead-neg c x a = record {
    upper = a.upper;
    lower = a.lower;
    upper_monic = a.upper_monic;
    lower_monic = a.lower_monic;
    is = minus x (whole (poly a.lower)) ∙ ap neg_value a.is ∙ sym (minus (C c) (whole (poly a.upper))) ∙ ap (λ (y : Value (suc d)). y *ᵛ whole (poly a.upper)) (sym (Rattle.sg_algebra.proofs.Divides.on-neg (ValueR d) (ValueR (suc d)) (constant_valueH d) c));
  }
    where
      minus : (y z : Value (suc d)) → neg_value y *ᵛ z ≡ neg_value (y *ᵛ z)
      minus y z = ring (ValueR (suc d)) (y ∷ z ∷ []) (search reads depth 12) refl

  pub lead_minus : (c : Value d) (x : Value (suc d)) → IsLead c x → x ≡ neg_value one_value → c ≡ neg_value one_value
  lead_minus c x a e = undo c ∙ ap neg_value (lead_one (neg_value c) (neg_value x) (lead-neg c x a) (ap neg_value e ∙ ring (ValueR (suc d)) [] (search reads depth 12) refl))
    where
      undo : (y : Value d) → y ≡ neg_value (neg_value y)
      undo y = ring (ValueR d) (y ∷ []) (search reads depth 12) refl

module _ {K : Type 0} {d : ℕ} (v : K → Value d) where
  pub lead_found : (p : List K) (r : List K × List K) → IsMonic (map v r.1) → ¬ (ratio v r ≡ zero_value) → EndsNonzero (map v p) → poly (map v p) ≡ poly (map v r.0) → IsLead (lead v r) (ratio v r)
  lead_found p r m some ends same = record {
    upper = poly_mul (ValueR d) (inv_value l ∷ []) (map v p);
    lower = map v r.1;
    upper_monic = monic_is (map v p) (poly_mul (ValueR d) (inv_value l ∷ []) (map v p)) (length p - 1) (poly-mul (inv_value l ∷ []) (map v p)) is.1 beyond;
    lower_monic = m;
    is = ap (λ (y : Value (suc d)). y *ᵛ whole (poly (map v r.1))) (ratio_parts v r m) ∙ undone (whole (poly (map v r.0))) (whole (poly (map v r.1))) (whole_some (poly (map v r.1)) (monic_some (map v r.1) m))
        ∙ sym (ap (λ (c : Value d). constant_value d c *ᵛ whole (poly (poly_mul (ValueR d) (inv_value l ∷ []) (map v p)))) (sym is.0) ∙ ap₂ (λ (s t : Value (suc d)). s *ᵛ t) (sym (whole-constant l)) (ap whole (poly-mul (inv_value l ∷ []) (map v p)))
        ∙ sym (whole-mul (constant l) (constant (inv_value l) *ᵖ poly (map v p))) ∙ ap whole (again ∙ same));
  }
    where
      l : Value d
      l = coefficient (map v p) (length p - 1)

      is : (l ≡ lead v r) × (¬ (l ≡ zero_value))
      is = lead_is v p r ends same (ratio_upper (map v r.0) (map v r.1) m some)

      beyond : (i : ℕ) → length p - 1 < i → coefficient (map v p) i ≡ zero_value
      beyond i q = Rattle.sg_relations.proofs.Grown.past (map v p) i (subst (λ (n : ℕ). n ≤ i) (sym (Rattle.sg_algebra.proofs.Lists.length_map v p)) (omega (arith, q)))

      undone : (x y : Value (suc d)) → Some (ValueF (suc d)) y → (x *ᵛ inv_value y) *ᵛ y ≡ x
      undone x y s = by (ValueR (suc d)) (x ∷ y ∷ inv_value y ∷ []) (scale (ValueR (suc d)) x (value_mul-inv (suc d) y s)) (search reads depth 16) refl

      again : constant l *ᵖ (constant (inv_value l) *ᵖ poly (map v p)) ≡ poly (map v p)
      again = by (PolynomialR d) (constant l ∷ constant (inv_value l) ∷ poly (map v p) ∷ []) (scale (PolynomialR d) (poly (map v p)) (constants l (inv_value l) (value_mul-inv d l is.1))) (search reads depth 16) refl

  abbrev P : List (List K × List K) → List ℤ → Value (suc d)
  P rs es = powers (ValueF (suc d)) (map (ratio v) rs) es

  abbrev Q : List (List K × List K) → List ℤ → Value d
  Q rs es = powers (ValueF d) (map (lead v) rs) es

  some_lead : (c : Value d) (x : Value (suc d)) → IsLead c x → Some (ValueF (suc d)) x → Some (ValueF d) c
  some_lead c x a h z = h (zero_factor (ap (λ (e : Value d). constant_value d e *ᵛ whole (poly a.upper)) z ∙ ap (λ (y : Value (suc d)). y *ᵛ whole (poly a.upper)) (Rattle.sg_algebra.proofs.Divides.on-O (ValueR d) (ValueR (suc d)) (constant_valueH d)) ∙ left_zero (whole (poly a.upper))))
    where
      left_zero : (y : Value (suc d)) → zero_value *ᵛ y ≡ zero_value
      left_zero y = ring (ValueR (suc d)) (y ∷ []) (search reads depth 12) refl

      zero_factor : constant_value d c *ᵛ whole (poly a.upper) ≡ zero_value → x ≡ zero_value
      zero_factor e = sym (undone x (whole (poly a.lower)) (whole_some (poly a.lower) (monic_some a.lower a.lower_monic))) ∙ ap (λ (y : Value (suc d)). y *ᵛ inv_value (whole (poly a.lower))) (a.is ∙ e) ∙ left_zero (inv_value (whole (poly a.lower)))
        where
          undone : (x y : Value (suc d)) → Some (ValueF (suc d)) y → (x *ᵛ y) *ᵛ inv_value y ≡ x
          undone x y s = by (ValueR (suc d)) (x ∷ y ∷ inv_value y ∷ []) (scale (ValueR (suc d)) x (value_mul-inv (suc d) y s)) (search reads depth 16) refl

  lead_powers : (rs : List (List K × List K)) (es : List ℤ) → All (λ r. IsLead (lead v r) (ratio v r)) rs → All (λ r. ¬ (ratio v r ≡ zero_value)) rs → IsLead (Q rs es) (P rs es)
  lead_powers [] es a s = lead-unit
  lead_powers (r ∷ rs) [] a s = lead-unit
  lead_powers (r ∷ rs) (e ∷ es) a s =
      let first : IsLead (lead v r) (ratio v r) = a 0 r (omega arith) in
      let some : Some (ValueF (suc d)) (ratio v r) = s 0 r (omega arith) in
      lead-mul (power (ValueF d) (lead v r) e) (Q rs es) (power (ValueF (suc d)) (ratio v r) e) (P rs es)
      (lead-power (lead v r) (ratio v r) e (some_lead (lead v r) (ratio v r) first some) some first)
      (lead_powers rs es (λ k x l. a (suc k) x (omega arith)) (λ k x l. s (suc k) x (omega arith)))

  pub leads_sign : (rs : List (List K × List K)) (es : List ℤ) → All (λ r. IsLead (lead v r) (ratio v r)) rs → All (λ r. ¬ (ratio v r ≡ zero_value)) rs → IsSign (P rs es) → IsSign (Q rs es)
  leads_sign rs es a s (inl e) = inl (lead_one (Q rs es) (P rs es) (lead_powers rs es a s) e)
  leads_sign rs es a s (inr e) = inr (lead_minus (Q rs es) (P rs es) (lead_powers rs es a s) e)

  -- which of the two it is
  pub leads_minus : (rs : List (List K × List K)) (es : List ℤ) → All (λ r. IsLead (lead v r) (ratio v r)) rs → All (λ r. ¬ (ratio v r ≡ zero_value)) rs → IsSign (P rs es)
      → (Q rs es ≡ neg_value one_value) ↔ (P rs es ≡ neg_value one_value)
  leads_minus rs es a s h = (to h, λ e. lead_minus (Q rs es) (P rs es) (lead_powers rs es a s) e)
    where
      to : IsSign (P rs es) → Q rs es ≡ neg_value one_value → P rs es ≡ neg_value one_value
      to (inr e) q = e
      to (inl e) q = absurd (below_not_one (sym q ∙ lead_one (Q rs es) (P rs es) (lead_powers rs es a s) e))
        where
          below_not_one : ¬ (neg_value (one_value {d = d}) ≡ one_value)
          below_not_one e = Rattle.sg_algebra.proofs.Embedding.numeral_ne d 2 (omega arith) (by (ValueR d) [] (sym e) (search reads depth 16) refl)

  -- the leading coefficients aren't 0
  pub leads_some : (rs : List (List K × List K)) (ls : List K) → map v ls ≡ map (lead v) rs → All (λ r. IsLead (lead v r) (ratio v r)) rs → All (λ r. ¬ (ratio v r ≡ zero_value)) rs → All (λ x. ¬ (v x ≡ zero_value)) ls
  leads_some rs [] e a s k x l = absurd (omega arith)
  leads_some [] (y ∷ ls) e a s k x l = cc
  leads_some (r ∷ rs) (y ∷ ls) e a s zero x l = let q : v y ≡ lead v r = cc in λ z. some_lead (lead v r) (ratio v r) (a 0 r (omega arith)) (s 0 r (omega arith)) (sym q ∙ z)
  leads_some (r ∷ rs) (y ∷ ls) e a s (suc k) x l = let q : map v ls ≡ map (lead v) rs = cc in leads_some rs ls q (λ j t p. a (suc j) t (omega arith)) (λ j t p. s (suc j) t (omega arith)) k x (omega arith)
