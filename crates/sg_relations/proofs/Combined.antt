-- Products of powers of rational functions, put together over monic polynomials.
--   power_more            one factor more of a power
--   combined_more, up_more      the loops over the factors
--   products_are          a product of powers of rational functions is that of their leading coefficients, times the factors to the combined exponents
--   up_some               the products of the powers aren't 0
--   up_down               the factors to their exponents, times those with negative exponents, are those with positive ones
--   inverse_is            so a quotient of these products is one over the product of powers
use Rattle.std.proofs.Common.{◌≡◌, ℕ, zero, suc, ◌+◌, ◌-◌, ◌<◌, refl, sym, subst, ap, ap₂, ◌∙◌, List, [], ◌∷◌, ◌++◌, map, length, take, get_or, All, ℤ, pos, negsuc, ◌+ℤ◌, ◌*ℤ◌, ◌≤ℤ◌, arith}
use Rattle.std.proofs.lemmas.Int.{ints}
use Rattle.std.proofs.lemmas.List.Elements.{All-push}
use Rattle.sg_algebra.specs.Coefficients.{Each}
use Rattle.sg_algebra.proofs.Ring.{pow}
use Rattle.sg_algebra.proofs.Solver.{by, ring, scale, reads}
use Rattle.sg_algebra.proofs.Divides.{identity}
use Rattle.sg_algebra.proofs.Whole.{ℤR, readsℤ}
use Rattle.sg_algebra.proofs.Value.{Value, ◌*ᵛ◌, inv_value, zero_value, one_value}
use Rattle.sg_algebra.proofs.ValueField.{ValueR, ValueF, value_mul-inv}
use Rattle.sg_algebra.proofs.Embedding.{constant_value, constant_valueH, over_value-quotient}
use Rattle.sg_algebra.proofs.Polynomial.{Polynomial, PolynomialR, poly, poly_cong, polynomial_factor, polynomial_one_ne, zero_polynomial, one_polynomial, ◌*ᵖ◌}
use Rattle.sg_poly.proofs.Dividers.{monic_some}
use Rattle.sg_first_order_theory.proofs.ValueFractions.{whole, whole-mul, whole-one, whole-poly}
use Rattle.sg_ratfun.specs.Fractions.{ratio, quotient_of}
use Rattle.sg_tower_theory.specs.Powers.{power, powers}
use Rattle.sg_relations_theory.proofs.PowerLaws.{Some, power_ne, power-add, mul-power, power-mul}
use Rattle.sg_relations_theory.proofs.Similar.{Similar}
use Rattle.sg_relations_theory.proofs.NullVectors.{dot, number_at}
use Rattle.sg_relations_theory.proofs.Generators.{up_part}
use Rattle.sg_relations_theory.proofs.ConstantsAbove.{powers-on}
use Rattle.sg_relations.specs.declared.factors.Factor.{Factor}
use Rattle.sg_relations.specs.Factors.{exponent, HasWidth, base_of, factor_at, product_at, IsFactor, IsProper}
use Rattle.sg_relations.specs.Parts.{lead, IsReached}
use Rattle.sg_relations.specs.Combined.{combined_value, AreCombined, up_value}
use Rattle.sg_relations.proofs.Splitting.{product-push, whole_some, factor_some, factors_some}
use Rattle.sg_relations.proofs.Columns.{take_more}

-- ---- The loops

abbrev neg_part : ℤ → ℕ
neg_part (pos n) = 0
neg_part (negsuc n) = suc n

module _ {d : ℕ} where
  pub power_more : (b p q : Polynomial d) (n m : ℕ) → 0 < n → m ≡ n - 1 → q ≡ p *ᵖ b → pow (PolynomialR d) b m *ᵖ q ≡ pow (PolynomialR d) b n *ᵖ p
  power_more b p q zero m l e h = absurd (omega arith)
  power_more b p q (suc n) m l e h = ap₂ (λ (k : ℕ) (x : Polynomial d). pow (PolynomialR d) b k *ᵖ x) (less m n e) h ∙ ring (PolynomialR d) (b ∷ p ∷ pow (PolynomialR d) b n ∷ []) (search reads depth 16) refl
    where
      less : (m n : ℕ) → m ≡ suc n - 1 → m ≡ n
      less m n e = omega (arith, e)

  pub power_none : (b p : Polynomial d) (e : ℤ) → e ≤ℤ pos 0 → p ≡ pow (PolynomialR d) b (up_part e) *ᵖ p
  power_none b p (pos zero) l = ring (PolynomialR d) (p ∷ []) (search reads depth 16) refl
  power_none b p (pos (suc n)) l = absurd (omega (arith, ints))
  power_none b p (negsuc n) l = ring (PolynomialR d) (p ∷ []) (search reads depth 16) refl

  pub power_end : (b p x : Polynomial d) (n : ℕ) → n ≡ 0 → pow (PolynomialR d) b n *ᵖ p ≡ x → p ≡ x
  power_end b p x n e h = ring (PolynomialR d) (p ∷ []) (search reads depth 16) refl ∙ ap (λ (k : ℕ). pow (PolynomialR d) b k *ᵖ p) (sym e) ∙ h

module _ {K : Type 0} {d : ℕ} (v : K → Value d) where
  combined-push : (cs : List (Factor K)) (c : Factor K) (es : List ℤ) → combined_value v (cs ++ c ∷ []) es ≡ power (ValueF (suc d)) (whole (base_of v c)) (dot c.exps (number_at es)) *ᵛ combined_value v cs es
  combined-push [] c es = refl
  combined-push (x ∷ cs) c es = ap (λ y. power (ValueF (suc d)) (whole (base_of v x)) (dot x.exps (number_at es)) *ᵛ y) (combined-push cs c es)
      ∙ ring (ValueR (suc d)) (power (ValueF (suc d)) (whole (base_of v x)) (dot x.exps (number_at es)) ∷ power (ValueF (suc d)) (whole (base_of v c)) (dot c.exps (number_at es)) ∷ combined_value v cs es ∷ []) (search reads depth 12) refl

  pub combined_more : (cs : List (Factor K)) (es : List ℤ) (i : ℕ) (f : Factor K) (row new : List (Factor K)) (base : List K) (t : ℤ) → i < length cs → All (IsFactor v) cs → f ≡ get_or cs i f → poly (map v base) ≡ base_of v f → t ≡ dot f.exps (number_at es)
      → AreCombined v (take i cs) es row → (own : List ℤ) → own ≡ t ∷ [] → new ≡ row ++ (record { base = base; exps = own }) ∷ [] → AreCombined v (take (i + 1) cs) es new
  combined_more cs es i f row new base t l monic is same total inv own only ok = subst (λ (rs : List (Factor K)). AreCombined v (take (i + 1) cs) es rs) (sym ok) (record {
    monic = All-push (IsFactor v) row (record { base = base; exps = own }) inv.monic (Rattle.sg_ratfun.proofs.Monics.monic_cong (map v f.base) (map v base) (sym same) (subst (IsFactor v) (sym is) (monic i f l)));
    width = All-push (HasWidth 1) row (record { base = base; exps = own }) inv.width (ap length only);
    value = product-push v row (record { base = base; exps = own }) 0 ∙ ap₂ (λ (x y : Value (suc d)). x *ᵛ y)
        (ap₂ (λ (x : Polynomial d) (e : ℤ). power (ValueF (suc d)) (whole x) e) (same ∙ ap (base_of v) is) (ap (λ (r : List ℤ). get_or r 0 (pos 0)) only ∙ total ∙ ap (λ (g : Factor K). dot g.exps (number_at es)) is)) inv.value
        ∙ sym (ap (λ (xs : List (Factor K)). combined_value v xs es) (take_more cs i f l) ∙ combined-push (take i cs) (get_or cs i f) es);
  })

  pub combined_none : (cs : List (Factor K)) (es : List ℤ) (row : List (Factor K)) → row ≡ [] → AreCombined v (take 0 cs) es row
  combined_none cs es row e = subst (λ (rs : List (Factor K)). AreCombined v [] es rs) (sym e) (record { monic = none (IsFactor v); width = none (HasWidth 1); value = refl })
    where
      none : {X : Type 0} (P : X → Type 0) → All P []
      none P k x l = absurd (omega arith)

  up-push : (s : ℤ) (cs : List (Factor K)) (c : Factor K) → up_value v s (cs ++ c ∷ []) ≡ pow (PolynomialR d) (base_of v c) (up_part (s *ℤ exponent c 0)) *ᵖ up_value v s cs
  up-push s [] c = refl
  up-push s (x ∷ cs) c = ap (λ (y : Polynomial d). pow (PolynomialR d) (base_of v x) (up_part (s *ℤ exponent x 0)) *ᵖ y) (up-push s cs c) ∙ turn (pow (PolynomialR d) (base_of v x) (up_part (s *ℤ exponent x 0))) (pow (PolynomialR d) (base_of v c) (up_part (s *ℤ exponent c 0))) (up_value v s cs)
    where
      turn : (x y z : Polynomial d) → x *ᵖ (y *ᵖ z) ≡ y *ᵖ (x *ᵖ z)
      turn x y z = ring (PolynomialR d) (x ∷ y ∷ z ∷ []) (search reads depth 16) refl

  pub up_more : (s e z : ℤ) (cs : List (Factor K)) (i : ℕ) (f : Factor K) (p q : Polynomial d) → i < length cs → All (HasWidth 1) cs → f ≡ get_or cs i f → z ≡ get_or f.exps 0 z → e ≡ s *ℤ z → p ≡ up_value v s (take i cs)
      → q ≡ pow (PolynomialR d) (base_of v f) (up_part e) *ᵖ p → q ≡ up_value v s (take (i + 1) cs)
  up_more s e z cs i f p q l w is own h inv ok = ok ∙ ap₂ (λ (x : ℤ) (y : Polynomial d). pow (PolynomialR d) (base_of v f) (up_part x) *ᵖ y) (h ∙ ap (λ (x : ℤ). s *ℤ x) (own ∙ default f.exps z wide)) inv
      ∙ ap (λ (g : Factor K). pow (PolynomialR d) (base_of v g) (up_part (s *ℤ exponent g 0)) *ᵖ up_value v s (take i cs)) is ∙ sym (ap (up_value v s) (take_more cs i f l) ∙ up-push s (take i cs) (get_or cs i f))
    where
      wide : length f.exps ≡ 1
      wide = subst (HasWidth 1) (sym is) (w i f l)

      default : (es : List ℤ) (x : ℤ) → length es ≡ 1 → get_or es 0 x ≡ get_or es 0 (pos 0)
      default [] x e = absurd (omega arith)
      default (y ∷ es) x e = refl

  -- ---- Products of powers of products

  some_pow : (x : Polynomial d) (n : ℕ) → ¬ (x ≡ zero_polynomial) → ¬ (pow (PolynomialR d) x n ≡ zero_polynomial)
  some_pow x zero h = polynomial_one_ne
  some_pow x (suc n) h = λ z. h (polynomial_factor (pow (PolynomialR d) x n) x (some_pow x n h) z)

  pub up_some : (s : ℤ) (cs : List (Factor K)) → All (IsProper v) cs → ¬ (up_value v s cs ≡ zero_polynomial)
  up_some s [] h = polynomial_one_ne
  up_some s (c ∷ cs) h = λ z. up_some s cs (λ k x l. h (suc k) x (omega arith)) (polynomial_factor (pow (PolynomialR d) (base_of v c) (up_part (s *ℤ exponent c 0))) (up_value v s cs)
      (some_pow (base_of v c) (up_part (s *ℤ exponent c 0)) (monic_some (map v c.base) (h 0 c (omega arith)).monic)) z)

  whole-pow : (x : Polynomial d) (n : ℕ) → whole (pow (PolynomialR d) x n) ≡ pow (ValueR (suc d)) (whole x) n
  whole-pow x zero = whole-one
  whole-pow x (suc n) = whole-mul (pow (PolynomialR d) x n) x ∙ ap (λ (y : Value (suc d)). y *ᵛ whole x) (whole-pow x n)

  inverse_pow : (y : Value (suc d)) (n : ℕ) → Some (ValueF (suc d)) y → pow (ValueR (suc d)) (inv_value y) n *ᵛ pow (ValueR (suc d)) y n ≡ one_value
  inverse_pow y zero s = ring (ValueR (suc d)) [] (search reads depth 12) refl
  inverse_pow y (suc n) s = four (pow (ValueR (suc d)) (inv_value y) n) (inv_value y) (pow (ValueR (suc d)) y n) y ∙ ap₂ (λ (a b : Value (suc d)). a *ᵛ b) (inverse_pow y n s) (value_mul-inv (suc d) y s) ∙ ring (ValueR (suc d)) [] (search reads depth 12) refl
    where
      four : (a i b y : Value (suc d)) → (a *ᵛ i) *ᵛ (b *ᵛ y) ≡ (a *ᵛ b) *ᵛ (y *ᵛ i)
      four a i b y = ring (ValueR (suc d)) (a ∷ i ∷ b ∷ y ∷ []) (search reads depth 12) refl

  balance : (y : Value (suc d)) (e : ℤ) → Some (ValueF (suc d)) y → power (ValueF (suc d)) y e *ᵛ pow (ValueR (suc d)) y (up_part (negsuc 0 *ℤ e)) ≡ pow (ValueR (suc d)) y (up_part (pos 1 *ℤ e))
  balance y e s = ap (λ (m : ℕ). power (ValueF (suc d)) y e *ᵛ pow (ValueR (suc d)) y m) (down e) ∙ go e ∙ ap (pow (ValueR (suc d)) y) (sym (up e))
    where
      up : (e : ℤ) → up_part (pos 1 *ℤ e) ≡ up_part e
      up e = ap up_part (same e)
        where
          same : (e : ℤ) → pos 1 *ℤ e ≡ e
          same e = omega (arith, ints)

      down : (e : ℤ) → up_part (negsuc 0 *ℤ e) ≡ neg_part e
      down (pos zero) = refl
      down (pos (suc n)) = ap up_part (same n)
        where
          same : (n : ℕ) → negsuc 0 *ℤ pos (suc n) ≡ negsuc n
          same n = omega (arith, ints)
      down (negsuc n) = ap up_part (same n)
        where
          same : (n : ℕ) → negsuc 0 *ℤ negsuc n ≡ pos (suc n)
          same n = omega (arith, ints)

      go : (e : ℤ) → power (ValueF (suc d)) y e *ᵛ pow (ValueR (suc d)) y (neg_part e) ≡ pow (ValueR (suc d)) y (up_part e)
      go (pos n) = ring (ValueR (suc d)) (pow (ValueR (suc d)) y n ∷ []) (search reads depth 12) refl
      go (negsuc n) = inverse_pow y (suc n) s

  pub up_down : (cs : List (Factor K)) → All (IsProper v) cs → product_at v cs 0 *ᵛ whole (up_value v (negsuc 0) cs) ≡ whole (up_value v (pos 1) cs)
  up_down [] h = ring (ValueR (suc d)) (whole one_polynomial ∷ []) (search reads depth 12) refl
  up_down (c ∷ cs) h = ap (λ (y : Value (suc d)). (factor_at v c 0 *ᵛ product_at v cs 0) *ᵛ y) (whole-mul (pow (PolynomialR d) (base_of v c) (up_part (negsuc 0 *ℤ exponent c 0))) (up_value v (negsuc 0) cs) ∙ ap (λ (y : Value (suc d)). y *ᵛ whole (up_value v (negsuc 0) cs)) (whole-pow (base_of v c) (up_part (negsuc 0 *ℤ exponent c 0))))
      ∙ four (factor_at v c 0) (product_at v cs 0) (pow (ValueR (suc d)) (whole (base_of v c)) (up_part (negsuc 0 *ℤ exponent c 0))) (whole (up_value v (negsuc 0) cs))
      ∙ ap₂ (λ (x y : Value (suc d)). x *ᵛ y) (balance (whole (base_of v c)) (exponent c 0) (whole_some (base_of v c) (monic_some (map v c.base) (h 0 c (omega arith)).monic))) (up_down cs (λ k x l. h (suc k) x (omega arith)))
      ∙ sym (whole-mul (pow (PolynomialR d) (base_of v c) (up_part (pos 1 *ℤ exponent c 0))) (up_value v (pos 1) cs) ∙ ap (λ (y : Value (suc d)). y *ᵛ whole (up_value v (pos 1) cs)) (whole-pow (base_of v c) (up_part (pos 1 *ℤ exponent c 0))))
    where
      four : (a b c e : Value (suc d)) → (a *ᵛ b) *ᵛ (c *ᵛ e) ≡ (a *ᵛ c) *ᵛ (b *ᵛ e)
      four a b c e = ring (ValueR (suc d)) (a ∷ b ∷ c ∷ e ∷ []) (search reads depth 12) refl

  -- an exponent in the elements from the k-th on, each times its own
  abbrev shifted : (c : List ℤ) (k : ℕ) (es : List ℤ) → ℤ
  shifted c k [] = pos 0
  shifted c k (e ∷ es) = e *ℤ get_or c k (pos 0) +ℤ shifted c (suc k) es

  abbrev combined_from : List (Factor K) → ℕ → List ℤ → Value (suc d)
  combined_from [] k es = one_value
  combined_from (c ∷ cs) k es = power (ValueF (suc d)) (whole (base_of v c)) (shifted c.exps k es) *ᵛ combined_from cs k es

  combined_none_from : (cs : List (Factor K)) (k : ℕ) → combined_from cs k [] ≡ one_value
  combined_none_from [] k = refl
  combined_none_from (c ∷ cs) k = ap (λ (y : Value (suc d)). one_value *ᵛ y) (combined_none_from cs k) ∙ ring (ValueR (suc d)) [] (search reads depth 12) refl

  combined_step : (cs : List (Factor K)) (k : ℕ) (e : ℤ) (es : List ℤ) → All (IsFactor v) cs → combined_from cs k (e ∷ es) ≡ power (ValueF (suc d)) (product_at v cs k) e *ᵛ combined_from cs (suc k) es
  combined_step [] k e es h = sym (ap (λ (y : Value (suc d)). y *ᵛ one_value) (Rattle.sg_relations_theory.proofs.PowerLaws.one-power (ValueF (suc d)) e) ∙ ring (ValueR (suc d)) [] (search reads depth 12) refl)
  combined_step (c ∷ cs) k e es h = ap₂ (λ (x y : Value (suc d)). x *ᵛ y)
      (power-add (ValueF (suc d)) (whole (base_of v c)) (e *ℤ exponent c k) (shifted c.exps (suc k) es) base_some ∙ ap (λ (y : Value (suc d)). y *ᵛ power (ValueF (suc d)) (whole (base_of v c)) (shifted c.exps (suc k) es)) (power-mul (ValueF (suc d)) (whole (base_of v c)) (exponent c k) e base_some))
      (combined_step cs k e es (λ j x l. h (suc j) x (omega arith)))
      ∙ four (power (ValueF (suc d)) (factor_at v c k) e) (power (ValueF (suc d)) (whole (base_of v c)) (shifted c.exps (suc k) es)) (power (ValueF (suc d)) (product_at v cs k) e) (combined_from cs (suc k) es)
      ∙ ap (λ (y : Value (suc d)). y *ᵛ (power (ValueF (suc d)) (whole (base_of v c)) (shifted c.exps (suc k) es) *ᵛ combined_from cs (suc k) es))
      (sym (mul-power (ValueF (suc d)) (factor_at v c k) (product_at v cs k) e (factor_some v c k (h 0 c (omega arith))) (factors_some v cs k (λ j x l. h (suc j) x (omega arith)))))
    where
      base_some : Some (ValueF (suc d)) (whole (base_of v c))
      base_some = whole_some (base_of v c) (monic_some (map v c.base) (h 0 c (omega arith)))

      four : (a b c e : Value (suc d)) → (a *ᵛ b) *ᵛ (c *ᵛ e) ≡ (a *ᵛ c) *ᵛ (b *ᵛ e)
      four a b c e = ring (ValueR (suc d)) (a ∷ b ∷ c ∷ e ∷ []) (search reads depth 12) refl

  shifted_dot : (c es : List ℤ) → length c ≡ length es → shifted c 0 es ≡ dot c (number_at es)
  shifted_dot c es l = go c [] es refl l
    where
      tail_at : (p c : List ℤ) (x : ℤ) → get_or (p ++ x ∷ c) (length p) (pos 0) ≡ x
      tail_at [] c x = refl
      tail_at (y ∷ p) c x = tail_at p c x

      assoc : (p : List ℤ) (x : ℤ) (c : List ℤ) → p ++ x ∷ c ≡ (p ++ x ∷ []) ++ c
      assoc [] x c = refl
      assoc (y ∷ p) x c = ap (λ t. y ∷ t) (assoc p x c)

      longer : (p : List ℤ) (x : ℤ) → length (p ++ x ∷ []) ≡ suc (length p)
      longer [] x = refl
      longer (y ∷ p) x = ap suc (longer p x)

      go : (c p es : List ℤ) {w : List ℤ} → w ≡ p ++ c → length c ≡ length es → shifted w (length p) es ≡ dot c (number_at es)
      go [] p [] e l = refl
      go [] p (x ∷ es) e l = absurd (omega arith)
      go (x ∷ c) p [] e l = absurd (omega arith)
      go (x ∷ c) p (y ∷ es) {w} e l = ap₂ (λ (a b : ℤ). a +ℤ b) (ap (λ (r : List ℤ). y *ℤ get_or r (length p) (pos 0)) e ∙ ap (λ (z : ℤ). y *ℤ z) (tail_at p c x) ∙ swap y x)
          (ap (λ (n : ℕ). shifted w n es) (sym (longer p x)) ∙ go c (p ++ x ∷ []) es (e ∙ assoc p x c) (omega arith))
        where
          swap : (a b : ℤ) → a *ℤ b ≡ b *ℤ a
          swap a b = ring ℤR (a ∷ b ∷ []) (search readsℤ depth 12) refl

  combined_is : (cs : List (Factor K)) (es : List ℤ) → All (HasWidth (length es)) cs → combined_from cs 0 es ≡ combined_value v cs es
  combined_is [] es h = refl
  combined_is (c ∷ cs) es h = ap₂ (λ (e : ℤ) (y : Value (suc d)). power (ValueF (suc d)) (whole (base_of v c)) e *ᵛ y) (shifted_dot c.exps es (h 0 c (omega arith))) (combined_is cs es (λ k x l. h (suc k) x (omega arith)))

  -- from the k-th element on
  split : (rs : List (List K × List K)) (cs : List (Factor K)) (k : ℕ) (es : List ℤ) → All (IsFactor v) cs → length es ≡ length rs → All (λ r. ¬ (ratio v r ≡ zero_value)) rs
      → ((j : ℕ) (r : List K × List K) → j < length rs → ratio v (get_or rs j r) ≡ constant_value d (lead v (get_or rs j r)) *ᵛ product_at v cs (k + j))
      → powers (ValueF (suc d)) (map (ratio v) rs) es ≡ powers (ValueF (suc d)) (map (λ r. constant_value d (lead v r)) rs) es *ᵛ combined_from cs k es
  split [] cs k [] m l s h = sym (ap (λ (y : Value (suc d)). one_value *ᵛ y) (combined_none_from cs k) ∙ ring (ValueR (suc d)) [] (search reads depth 12) refl)
  split [] cs k (e ∷ es) m l s h = absurd (omega arith)
  split (r ∷ rs) cs k [] m l s h = absurd (omega arith)
  split (r ∷ rs) cs k (e ∷ es) m l s h = ap₂ (λ (x y : Value (suc d)). x *ᵛ y)
      (ap (λ (x : Value (suc d)). power (ValueF (suc d)) x e) here ∙ mul-power (ValueF (suc d)) (constant_value d (lead v r)) (product_at v cs k) e lead_some (factors_some v cs k m))
      (split rs cs (suc k) es m (omega arith) (λ j x q. s (suc j) x (omega arith)) (λ j x q. subst (λ (i : ℕ). ratio v (get_or rs j x) ≡ constant_value d (lead v (get_or rs j x)) *ᵛ product_at v cs i) (next k j) (h (suc j) x (omega arith))))
      ∙ four (power (ValueF (suc d)) (constant_value d (lead v r)) e) (power (ValueF (suc d)) (product_at v cs k) e) (powers (ValueF (suc d)) (map (λ r. constant_value d (lead v r)) rs) es) (combined_from cs (suc k) es)
      ∙ ap (λ (y : Value (suc d)). (power (ValueF (suc d)) (constant_value d (lead v r)) e *ᵛ powers (ValueF (suc d)) (map (λ r. constant_value d (lead v r)) rs) es) *ᵛ y) (sym (combined_step cs k e es m))
    where
      at : (k : ℕ) → k + 0 ≡ k
      at k = omega arith

      next : (k j : ℕ) → k + suc j ≡ suc k + j
      next k j = omega arith

      here : ratio v r ≡ constant_value d (lead v r) *ᵛ product_at v cs k
      here = h 0 r (omega arith) ∙ ap (λ (i : ℕ). constant_value d (lead v r) *ᵛ product_at v cs i) (at k)

      lead_some : Some (ValueF (suc d)) (constant_value d (lead v r))
      lead_some z = s 0 r (omega arith) (here ∙ ap (λ (y : Value (suc d)). y *ᵛ product_at v cs k) z ∙ ring (ValueR (suc d)) (product_at v cs k ∷ []) (search reads depth 12) refl)

      four : (a b c e : Value (suc d)) → (a *ᵛ b) *ᵛ (c *ᵛ e) ≡ (a *ᵛ c) *ᵛ (b *ᵛ e)
      four a b c e = ring (ValueR (suc d)) (a ∷ b ∷ c ∷ e ∷ []) (search reads depth 12) refl

  leads_some : (rs : List (List K × List K)) (cs : List (Factor K)) (k : ℕ) → All (λ r. ¬ (ratio v r ≡ zero_value)) rs → ((j : ℕ) (r : List K × List K) → j < length rs → ratio v (get_or rs j r) ≡ constant_value d (lead v (get_or rs j r)) *ᵛ product_at v cs (k + j))
      → Each (Some (ValueF d)) (map (lead v) rs)
  leads_some [] cs k s h = tt
  leads_some (r ∷ rs) cs k s h = (
    (λ z. s 0 r (omega arith) (h 0 r (omega arith) ∙ ap (λ (c : Value d). constant_value d c *ᵛ product_at v cs (k + 0)) z ∙ ap (λ (y : Value (suc d)). y *ᵛ product_at v cs (k + 0)) (Rattle.sg_algebra.proofs.Divides.on-O (ValueR d) (ValueR (suc d)) (constant_valueH d)) ∙ ring (ValueR (suc d)) (product_at v cs (k + 0) ∷ []) (search reads depth 12) refl)),
    leads_some rs cs (suc k) (λ j x q. s (suc j) x (omega arith)) (λ j x q. subst (λ (i : ℕ). ratio v (get_or rs j x) ≡ constant_value d (lead v (get_or rs j x)) *ᵛ product_at v cs i) (next k j) (h (suc j) x (omega arith))),
  )
    where
      next : (k j : ℕ) → k + suc j ≡ suc k + j
      next k j = omega arith

  map-map : (rs : List (List K × List K)) → map (λ r. constant_value d (lead v r)) rs ≡ map (constant_value d) (map (lead v) rs)
  map-map [] = refl
  map-map (r ∷ rs) = ap (λ t. constant_value d (lead v r) ∷ t) (map-map rs)

  pub products_are : (rs : List (List K × List K)) (cs : List (Factor K)) (es : List ℤ) → length es ≡ length rs → All (λ r. ¬ (ratio v r ≡ zero_value)) rs → IsReached v (length rs) (length rs) rs cs
      → powers (ValueF d) (map (lead v) rs) es ≡ one_value → powers (ValueF (suc d)) (map (ratio v) rs) es ≡ combined_value v cs es
  products_are rs cs es l s a one = split rs cs 0 es a.monic l s done
      ∙ ap₂ (λ (x y : Value (suc d)). x *ᵛ y) (ap (λ (t : List (Value (suc d))). powers (ValueF (suc d)) t es) (map-map rs) ∙ sym (powers-on (ValueF d) (ValueF (suc d)) (constant_valueH d) (map (lead v) rs) es (leads_some rs cs 0 s done)) ∙ ap (constant_value d) one ∙ (constant_valueH d).on-one)
      (combined_is cs es (subst (λ (n : ℕ). All (HasWidth n) cs) (sym l) a.width)) ∙ ring (ValueR (suc d)) (combined_value v cs es ∷ []) (search reads depth 12) refl
    where
      nothing : (j : ℕ) → j ≡ 0 + j
      nothing j = omega arith

      done : (j : ℕ) (r : List K × List K) → j < length rs → ratio v (get_or rs j r) ≡ constant_value d (lead v (get_or rs j r)) *ᵛ product_at v cs (0 + j)
      done j r q = subst (λ (k : ℕ). ratio v (get_or rs j r) ≡ constant_value d (lead v (get_or rs j r)) *ᵛ product_at v cs k) (nothing j) (a.done j r q)

  plain_same : (x y : Value (suc d)) → Similar (ValueF (suc d)) (identity (ValueR (suc d))) x y → x ≡ y
  plain_same x y s = undo x s.r s.some ∙ ap (λ (z : Value (suc d)). z *ᵛ inv_value s.r) (sym s.is) ∙ sym (undo y s.r s.some)
    where
      undo : (x r : Value (suc d)) → Some (ValueF (suc d)) r → x ≡ (x *ᵛ r) *ᵛ inv_value r
      undo x r h = sym (by (ValueR (suc d)) (x ∷ r ∷ inv_value r ∷ []) (scale (ValueR (suc d)) x (value_mul-inv (suc d) r h)) (search reads depth 16) refl)

  pub inverse_is : (basis : List (Factor K)) (num den : List K) (q p c : Value (suc d)) → All (IsProper v) basis → poly (map v num) ≡ up_value v (negsuc 0) basis → poly (map v den) ≡ up_value v (pos 1) basis → q ≡ quotient_of v num den
      → p ≡ c → Similar (ValueF (suc d)) (identity (ValueR (suc d))) c (product_at v basis 0) → q *ᵛ p ≡ one_value
  inverse_is basis num den q p c h n m is e s = ap₂ (λ (x y : Value (suc d)). x *ᵛ y) (is ∙ over_value-quotient d (map v num) (map v den) (λ z. den_some (poly_cong z)) ∙ ap₂ (λ (x y : Value (suc d)). x *ᵛ inv_value y) (sym (whole-poly (map v num)) ∙ ap whole n) (sym (whole-poly (map v den)) ∙ ap whole m)) (e ∙ plain_same c (product_at v basis 0) s)
      ∙ turn (whole (up_value v (negsuc 0) basis)) (inv_value (whole (up_value v (pos 1) basis))) (product_at v basis 0) ∙ ap (λ (y : Value (suc d)). y *ᵛ inv_value (whole (up_value v (pos 1) basis))) (up_down basis h)
      ∙ value_mul-inv (suc d) (whole (up_value v (pos 1) basis)) (whole_some (up_value v (pos 1) basis) (up_some (pos 1) basis h))
    where
      den_some : ¬ (poly (map v den) ≡ zero_polynomial)
      den_some z = up_some (pos 1) basis h (sym m ∙ z)

      turn : (a i p : Value (suc d)) → (a *ᵛ i) *ᵛ p ≡ (p *ᵛ a) *ᵛ i
      turn a i p = ring (ValueR (suc d)) (a ∷ i ∷ p ∷ []) (search reads depth 12) refl
