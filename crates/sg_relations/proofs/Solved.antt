-- The ratio, solved for as a first-order equation without right sides.
--   inverse_some          a factor with an inverse isn't 0
--   solutions_some        where there is a ratio, a basis of the solutions isn't empty
--   solution_is           its first one is a ratio
--   over_value_is, over_monic      a rational function over its leading coefficient
--   over_ratio            it is a ratio too
use Rattle.std.proofs.Common.{◌≡◌, ℕ, zero, suc, ◌-◌, ◌<◌, refl, sym, subst, ap, ap₂, ◌∙◌, List, [], ◌∷◌, map, length, get_or, arith}
use Rattle.sg_algebra.specs.Coefficients.{poly_mul}
use Rattle.sg_algebra.proofs.Solver.{by, ring, scale, reads}
use Rattle.sg_algebra.proofs.Divides.{on-O}
use Rattle.sg_algebra.proofs.Value.{Value, ◌+ᵛ◌, ◌-ᵛ◌, ◌*ᵛ◌, inv_value, zero_value, one_value}
use Rattle.sg_algebra.proofs.ValueField.{ValueR, value_mul-inv, value_one_ne}
use Rattle.sg_algebra.proofs.ShiftValue.{shift_value, shift_valueH}
use Rattle.sg_algebra.proofs.Embedding.{constant_value, constant_valueH, over_value-quotient}
use Rattle.sg_algebra.proofs.Polynomial.{Polynomial, poly, poly_cong, poly-mul, coefficient, constant, EndsNonzero, ◌*ᵖ◌}
use Rattle.sg_poly.specs.Divisors.{IsMonic}
use Rattle.sg_poly.proofs.Dividers.{monic_some}
use Rattle.sg_ratfun.specs.Fractions.{ratio, quotient_of}
use Rattle.sg_first_order_theory.proofs.ValueFractions.{whole, whole-mul, whole-poly, whole_same}
use Rattle.sg_first_order_theory.specs.Solutions.{Pair, Solves, sum_values, Combination, IsBasis}
use Rattle.sg_reduction_theory.proofs.Moves.{whole-constant}
use Rattle.sg_relations_theory.specs.Relations.{IsRatio}
use Rattle.sg_relations.specs.Parts.{lead}
use Rattle.sg_relations.specs.Relating.{IsMonicFraction}
use Rattle.sg_relations.proofs.Splitting.{whole_some, monic_quotient}
use Rattle.sg_relations.proofs.Grown.{lead_is, ratio_upper, ratio_parts}
use Rattle.sg_relations.proofs.Leads.{monic_product}

module _ {d : ℕ} where
  pub inverse_some : (a p : Value (suc d)) → a *ᵛ p ≡ one_value → ¬ (a ≡ zero_value)
  inverse_some a p e z = value_one_ne (suc d) (sym e ∙ ap (λ (y : Value (suc d)). y *ᵛ p) z ∙ ring (ValueR (suc d)) (p ∷ []) (search reads depth 12) refl)

  solves : (a p r : Value (suc d)) (c : ℕ → Value d) → a *ᵛ p ≡ one_value → IsRatio p r → Solves a [] c r
  solves a p r c e h = ap (λ (y : Value (suc d)). a *ᵛ y -ᵛ r) h.is ∙ turn a p r ∙ ap (λ (y : Value (suc d)). y *ᵛ r -ᵛ r) e ∙ ring (ValueR (suc d)) (r ∷ []) (search reads depth 12) refl
    where
      turn : (a p r : Value (suc d)) → a *ᵛ (p *ᵛ r) -ᵛ r ≡ (a *ᵛ p) *ᵛ r -ᵛ r
      turn a p r = ring (ValueR (suc d)) (a ∷ p ∷ r ∷ []) (search reads depth 12) refl

  solved : (a p g : Value (suc d)) (c : ℕ → Value d) → a *ᵛ p ≡ one_value → Solves a [] c g → shift_value d g ≡ p *ᵛ g
  solved a p g c e h = one_left (shift_value d g) ∙ ap (λ (y : Value (suc d)). y *ᵛ shift_value d g) (sym e) ∙ turn a p (shift_value d g) ∙ ap (λ (y : Value (suc d)). p *ᵛ y) same
    where
      one_left : (y : Value (suc d)) → y ≡ one_value *ᵛ y
      one_left y = ring (ValueR (suc d)) (y ∷ []) (search reads depth 12) refl

      turn : (a p y : Value (suc d)) → (a *ᵛ p) *ᵛ y ≡ p *ᵛ (a *ᵛ y)
      turn a p y = ring (ValueR (suc d)) (a ∷ p ∷ y ∷ []) (search reads depth 12) refl

      same : a *ᵛ shift_value d g ≡ g
      same = by (ValueR (suc d)) (a ∷ shift_value d g ∷ g ∷ []) h (search reads depth 16) refl

  zeros : (ps : List (Pair d)) → sum_values (λ l. zero_value) ps ≡ zero_value
  zeros [] = refl
  zeros (p ∷ ps) = ap₂ (λ (x y : Value (suc d)). x *ᵛ p.value +ᵛ y) (on-O (ValueR d) (ValueR (suc d)) (constant_valueH d)) (zeros ps) ∙ ring (ValueR (suc d)) (p.value ∷ []) (search reads depth 12) refl

  abbrev only_first : ℕ → Value d
  only_first zero = one_value
  only_first (suc l) = zero_value

  module _ {X : Type 0} (f : X → Pair d) (a p : Value (suc d)) (e : a *ᵛ p ≡ one_value) (sols : List X) (basis : IsBasis a [] (map f sols)) where
    pub solutions_some : (r : Value (suc d)) → IsRatio p r → 0 < length sols
    solutions_some r h = go sols (basis.spans (λ i. zero_value) r (solves a p r (λ i. zero_value) e h))
      where
        go : (sols : List X) → Combination (map f sols) 0 (λ i. zero_value) r → 0 < length sols
        go [] c = absurd (h.some c.value)
        go (x ∷ sols) c = omega arith

    pub solution_is : (x : X) → 0 < length sols → x ≡ get_or sols 0 x → IsRatio p (f x).value
    solution_is x l is = go sols l is basis
      where
        go : (sols : List X) → 0 < length sols → x ≡ get_or sols 0 x → IsBasis a [] (map f sols) → IsRatio p (f x).value
        go [] l is basis = absurd (omega arith)
        go (y ∷ sols) l is basis = subst (λ (z : X). IsRatio p (f z).value) (sym is) (record { some = some; is = solved a p (f y).value (coefficient (f y).consts) e basis.solves.0 })
          where
            nothing : (f y).value ≡ zero_value → sum_values only_first (map f (y ∷ sols)) ≡ zero_value
            nothing z = ap₂ (λ (g s : Value (suc d)). constant_value d one_value *ᵛ g +ᵛ s) z (zeros (map f sols)) ∙ ring (ValueR (suc d)) (constant_value d one_value ∷ []) (search reads depth 12) refl

            some : ¬ ((f y).value ≡ zero_value)
            some z = value_one_ne d (basis.independent only_first (λ i q. absurd (omega arith)) (nothing z) 0 (omega arith))

  scaled : (p g : Value (suc d)) (c : Value d) → ¬ (constant_value d c *ᵛ g ≡ zero_value) → IsRatio p g → IsRatio p (constant_value d c *ᵛ g)
  scaled p g c some h = record {
    some = some;
    is = (shift_valueH d).on-mul (constant_value d c) g ∙ ap₂ (λ (x y : Value (suc d)). x *ᵛ y) (Rattle.sg_algebra.proofs.ShiftValue.shift_value-constant d c) h.is ∙ turn (constant_value d c) p g;
  }
    where
      turn : (c p g : Value (suc d)) → c *ᵛ (p *ᵛ g) ≡ p *ᵛ (c *ᵛ g)
      turn c p g = ring (ValueR (suc d)) (c ∷ p ∷ g ∷ []) (search reads depth 12) refl

module _ {K : Type 0} {d : ℕ} (v : K → Value d) where
  quotient_parts : (p q : List K) → IsMonic (map v q) → quotient_of v p q ≡ whole (poly (map v p)) *ᵛ inv_value (whole (poly (map v q)))
  quotient_parts p q m = over_value-quotient d (map v p) (map v q) (λ z. monic_some (map v q) m (poly_cong z)) ∙ ap₂ (λ (x y : Value (suc d)). x *ᵛ inv_value y) (sym (whole-poly (map v p))) (sym (whole-poly (map v q)))

  pub over_value_is : (r : List K × List K) (p upper lower : List K) (q : Value (suc d)) → IsMonic (map v r.1) → ¬ (ratio v r ≡ zero_value) → EndsNonzero (map v p) → poly (map v p) ≡ poly (map v r.0)
      → poly (map v upper) ≡ constant (inv_value (coefficient (map v p) (length p - 1))) *ᵖ poly (map v p) → IsMonic (map v lower) → poly (map v lower) ≡ poly (map v r.1) → q ≡ quotient_of v upper lower
      → q ≡ constant_value d (inv_value (lead v r)) *ᵛ ratio v r
  over_value_is r p upper lower q m some ends same up ml low is = is ∙ quotient_parts upper lower ml
      ∙ ap₂ (λ (x : Polynomial d) (y : Polynomial d). whole x *ᵛ inv_value (whole y)) (up ∙ ap₂ (λ (c : Value d) (x : Polynomial d). constant (inv_value c) *ᵖ x) (lead_is v p r ends same (ratio_upper (map v r.0) (map v r.1) m some)).0 same) low
      ∙ ap (λ (y : Value (suc d)). y *ᵛ inv_value (whole (poly (map v r.1)))) (whole-mul (constant (inv_value (lead v r))) (poly (map v r.0)) ∙ ap (λ (y : Value (suc d)). y *ᵛ whole (poly (map v r.0))) (whole-constant (inv_value (lead v r))))
      ∙ turn (constant_value d (inv_value (lead v r))) (whole (poly (map v r.0))) (inv_value (whole (poly (map v r.1)))) ∙ ap (λ (y : Value (suc d)). constant_value d (inv_value (lead v r)) *ᵛ y) (sym (ratio_parts v r m))
    where
      turn : (c x y : Value (suc d)) → (c *ᵛ x) *ᵛ y ≡ c *ᵛ (x *ᵛ y)
      turn c x y = ring (ValueR (suc d)) (c ∷ x ∷ y ∷ []) (search reads depth 12) refl

  pub over_monic : (upper lower : List K) (q : List K × List K) → IsMonic (map v upper) → IsMonic (map v lower) → IsMonic (map v q.1) → ratio v q ≡ quotient_of v upper lower → IsMonicFraction v q
  over_monic upper lower q mu ml mq is = ((monic_quotient (poly_mul (ValueR d) (map v upper) (map v q.1)) (map v q.0) (map v lower) (monic_product (map v upper) (map v q.1) mu mq) ml crossed).0, mq)
    where
      undo : (x y z : Value (suc d)) → ¬ (y ≡ zero_value) → ¬ (z ≡ zero_value) → (x *ᵛ inv_value y) *ᵛ (y *ᵛ z) ≡ x *ᵛ z
      undo x y z h k = by (ValueR (suc d)) (x ∷ y ∷ z ∷ inv_value y ∷ []) (scale (ValueR (suc d)) (x *ᵛ z) (value_mul-inv (suc d) y h)) (search reads depth 16) refl

      U : Value (suc d)
      U = whole (poly (map v upper))

      B : Value (suc d)
      B = whole (poly (map v lower))

      Q : Value (suc d)
      Q = whole (poly (map v q.1))

      N : Value (suc d)
      N = whole (poly (map v q.0))

      B_some : ¬ (B ≡ zero_value)
      B_some = whole_some (poly (map v lower)) (monic_some (map v lower) ml)

      Q_some : ¬ (Q ≡ zero_value)
      Q_some = whole_some (poly (map v q.1)) (monic_some (map v q.1) mq)

      turn : (x y : Value (suc d)) → x *ᵛ y ≡ y *ᵛ x
      turn x y = ring (ValueR (suc d)) (x ∷ y ∷ []) (search reads depth 12) refl

      even : N *ᵛ B ≡ U *ᵛ Q
      even = sym (undo N Q B Q_some B_some) ∙ ap (λ (y : Value (suc d)). y *ᵛ (Q *ᵛ B)) (sym (ratio_parts v q mq) ∙ is ∙ quotient_parts upper lower ml) ∙ ap (λ (y : Value (suc d)). (U *ᵛ inv_value B) *ᵛ y) (turn Q B) ∙ undo U B Q B_some Q_some

      crossed : poly (poly_mul (ValueR d) (map v upper) (map v q.1)) ≡ poly (map v q.0) *ᵖ poly (map v lower)
      crossed = poly-mul (map v upper) (map v q.1) ∙ sym (whole_same (poly (map v q.0) *ᵖ poly (map v lower)) (poly (map v upper) *ᵖ poly (map v q.1)) (whole-mul (poly (map v q.0)) (poly (map v lower)) ∙ even ∙ sym (whole-mul (poly (map v upper)) (poly (map v q.1)))))

  pub over_ratio : (p : Value (suc d)) (r q : List K × List K) → ratio v q ≡ constant_value d (inv_value (lead v r)) *ᵛ ratio v r → IsMonicFraction v q → IsRatio p (ratio v r) → IsRatio p (ratio v q)
  over_ratio p r q is m h = subst (λ (y : Value (suc d)). IsRatio p y) (sym is) (scaled p (ratio v r) (inv_value (lead v r)) (λ z. some (is ∙ z)) h)
    where
      some : ¬ (ratio v q ≡ zero_value)
      some z = monic_some (map v q.0) m.0 (Rattle.sg_ratfun.proofs.Quotients.zero_over (map v q.0) (map v q.1) (monic_some (map v q.1) m.1) z)
