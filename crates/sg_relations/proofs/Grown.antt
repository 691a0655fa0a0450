-- Monic polynomials with exponents, added one by one.
--   leads_more                    the loop over the leading coefficients
--   lead_is                       the last coefficient of the numerator is the leading one, and isn't 0
--   grown_none, grown_more, grown_push      nothing, one after the other, one factor at the end
--   grown_divided                 a factor that a polynomial is divided by
--   grown_parts                   the numerator over its leading coefficient, and the denominator
--   reached_none, reached_next    the loop over the rational functions
--   row-next, joined-next         the loops over the factors and over the elements
use Rattle.std.proofs.Common.{◌≡◌, ℕ, zero, suc, ◌+◌, ◌-◌, ◌<◌, ◌≤◌, refl, sym, subst, ap, ap₂, ◌∙◌, List, [], ◌∷◌, ◌++◌, map, length, take, get_or, All, ◌⊎◌, inl, inr, ℤ, pos, negsuc, arith}
use Rattle.std.proofs.lemmas.List.Elements.{All-push}
use Rattle.sg_algebra.proofs.Solver.{by, ring, scale, reads}
use Rattle.sg_algebra.proofs.Lists.{length_map}
use Rattle.sg_algebra.proofs.Degree.{Degree}
use Rattle.sg_algebra.proofs.Value.{Value, ◌*ᵛ◌, inv_value, one_value, zero_value, over_value}
use Rattle.sg_algebra.proofs.ValueField.{ValueR, ValueF, value_mul-inv}
use Rattle.sg_algebra.proofs.Embedding.{constant_value, over_value-quotient}
use Rattle.sg_algebra.proofs.Polynomial.{Polynomial, PolynomialR, poly, poly_cong, same_poly, coefficient, constant, EndsNonzero, zero_polynomial, ◌+ᵖ◌, ◌*ᵖ◌}
use Rattle.sg_poly.specs.Divisors.{IsMonic}
use Rattle.sg_poly.proofs.Dividers.{monic_some, constants}
use Rattle.sg_ratfun.specs.Fractions.{ratio}
use Rattle.sg_ratfun.proofs.Quotients.{over_zero}
use Rattle.sg_first_order_theory.proofs.ValueFractions.{whole, whole-mul, whole-poly}
use Rattle.sg_reduction_theory.proofs.Moves.{whole-constant}
use Rattle.sg_constant.proofs.Taken.{size_degree, size_same}
use Rattle.sg_tower_theory.specs.Powers.{power}
use Rattle.sg_relations_theory.proofs.PowerLaws.{mul-power}
use Rattle.sg_relations.specs.declared.factors.Factor.{Factor}
use Rattle.sg_relations.specs.Columns.{IsUnit}
use Rattle.sg_relations.specs.Factors.{size, exponent, HasWidth, base_of, product_at, IsFactor}
use Rattle.sg_relations.specs.Parts.{lead, IsGrown, IsReached, row_at, joined_from}
use Rattle.sg_relations.proofs.Splitting.{product-push, whole_some, monic_quotient}

-- ---- The leading coefficient

pub past : {d : ℕ} (p : List (Value d)) (i : ℕ) → length p ≤ i → coefficient p i ≡ zero_value
past [] i l = refl
past (x ∷ p) zero l = absurd (omega arith)
past (x ∷ p) (suc i) l = past p i (omega arith)

at_item : {K : Type 0} {d : ℕ} (v : K → Value d) (p : List K) (n : ℕ) (x : K) → n < length p → coefficient (map v p) n ≡ v (get_or p n x)
at_item v [] n x l = absurd (omega arith)
at_item v (y ∷ p) zero x l = refl
at_item v (y ∷ p) (suc n) x l = at_item v p n x (omega arith)

default : {X : Type 0} (zs : List X) (k : ℕ) (d e : X) → k < length zs → get_or zs k d ≡ get_or zs k e
default [] k d e l = absurd (omega arith)
default (z ∷ zs) zero d e l = refl
default (z ∷ zs) (suc k) d e l = default zs k d e (omega arith)

module _ {d : ℕ} where
  pub ratio_upper : (p q : List (Value d)) → IsMonic q → ¬ (over_value p q ≡ zero_value) → ¬ (poly p ≡ zero_polynomial)
  ratio_upper p q m h z = h (over_zero p q (monic_some q m) z)

  pub some_long : (p q : List (Value d)) → poly p ≡ poly q → ¬ (poly q ≡ zero_polynomial) → 0 < length p
  some_long [] q e h = absurd (h (sym e))
  some_long (x ∷ p) q e h = omega arith

  last_is : (p q : List (Value d)) → EndsNonzero p → poly p ≡ poly q → ¬ (poly q ≡ zero_polynomial) → (coefficient p (length p - 1) ≡ coefficient q (size q - 1)) × (¬ (coefficient p (length p - 1) ≡ zero_value))
  last_is p q ends e h = go (length p) refl
    where
      go : (n : ℕ) → length p ≡ n → (coefficient p (length p - 1) ≡ coefficient q (size q - 1)) × (¬ (coefficient p (length p - 1) ≡ zero_value))
      go zero l = absurd (let k = some_long p q e h in omega (arith, k, l))
      go (suc n) l = (ap (coefficient p) (less (length p) l) ∙ same_poly p q e n ∙ ap (coefficient q) (sym (less (size q) sized)), λ z. ends n l (ap (coefficient p) (sym (less (length p) l)) ∙ z))
        where
          less : (m : ℕ) → m ≡ suc n → m - 1 ≡ n
          less m q = omega (arith, q)

          degree : Degree (ValueR d) n p
          degree = record { lead = ends n l; ends = λ i k. past p i (omega (arith, k, l)) }

          sized : size q ≡ suc n
          sized = size_same q p (sym e) ∙ size_degree n p degree

module _ {K : Type 0} {d : ℕ} (v : K → Value d) where
  abbrev E : Type 0
  E = Value (suc d)

  pub lead_is : (p : List K) (r : List K × List K) → EndsNonzero (map v p) → poly (map v p) ≡ poly (map v r.0) → ¬ (poly (map v r.0) ≡ zero_polynomial)
      → (coefficient (map v p) (length p - 1) ≡ lead v r) × (¬ (coefficient (map v p) (length p - 1) ≡ zero_value))
  lead_is p r ends e h = subst (λ (n : ℕ). (coefficient (map v p) (n - 1) ≡ lead v r) × (¬ (coefficient (map v p) (n - 1) ≡ zero_value))) (length_map v p) (last_is (map v p) (map v r.0) ends e h)

  pub list_long : (p : List K) (r : List K × List K) (l : List K) → l ≡ p → poly (map v p) ≡ poly (map v r.0) → ¬ (poly (map v r.0) ≡ zero_polynomial) → 0 < length l
  list_long p r l e same h = subst (λ (l : List K). 0 < length l) (sym e) (subst (λ (n : ℕ). 0 < n) (length_map v p) (some_long (map v p) (map v r.0) same h))

  pub lead_item : (p : List K) (r : List K × List K) (l : List K) (x : K) → l ≡ p → EndsNonzero (map v p) → poly (map v p) ≡ poly (map v r.0) → ¬ (poly (map v r.0) ≡ zero_polynomial)
      → x ≡ get_or l (length l - 1) x → v x ≡ lead v r
  lead_item p r l x e ends same h is = ap v (is ∙ ap (λ (l : List K). get_or l (length l - 1) x) e) ∙ sym (at_item v p (length p - 1) x inside) ∙ (lead_is p r ends same h).0
    where
      long : 0 < length p
      long = subst (λ (n : ℕ). 0 < n) (length_map v p) (some_long (map v p) (map v r.0) same h)

      inside : length p - 1 < length p
      inside = omega (arith, long)

  leads_next : (ls : List K) (l : K) (rs : List (List K × List K)) (i : ℕ) (r : List K × List K) → i < length rs → map v ls ≡ map (lead v) (take i rs) → v l ≡ lead v (get_or rs i r) → map v (ls ++ l ∷ []) ≡ map (lead v) (take (suc i) rs)
  leads_next ls l [] i r q e h = absurd (omega arith)
  leads_next [] l (x ∷ rs) zero r q e h = ap (λ (y : Value d). y ∷ []) h
  leads_next (y ∷ ls) l (x ∷ rs) zero r q e h = cc
  leads_next [] l (x ∷ rs) (suc i) r q e h = cc
  leads_next (y ∷ ls) l (x ∷ rs) (suc i) r q e h = let first : v y ≡ lead v x = cc in let rest : map v ls ≡ map (lead v) (take i rs) = cc in ap₂ ◌∷◌ first (leads_next ls l rs i r (omega arith) rest h)

  pub leads_more : (ls : List K) (l : K) (new : List K) (rs : List (List K × List K)) (i : ℕ) (r : List K × List K) → i < length rs → map v ls ≡ map (lead v) (take i rs) → r ≡ get_or rs i r → v l ≡ lead v r → new ≡ ls ++ l ∷ []
      → map v new ≡ map (lead v) (take (i + 1) rs)
  leads_more ls l new rs i r q e is h ok = let s : i + 1 ≡ suc i = omega arith in rw s (ap (map v) ok ∙ leads_next ls l rs i r q e (h ∙ ap (lead v) is))

  -- ---- Growing

  pub grown_none : (n i : ℕ) (x : E) (cs : List (Factor K)) → IsGrown v n i x x cs cs
  grown_none n i x cs = record { monic = λ h. h; width = λ h. h; own = refl; other = λ j h. refl }

  pub grown_more : (n i : ℕ) (x y z : E) (old mid new : List (Factor K)) → IsGrown v n i x y old mid → IsGrown v n i z x mid new → IsGrown v n i z y old new
  grown_more n i x y z old mid new a b = record {
    monic = λ h. b.monic (a.monic h);
    width = λ h. b.width (a.width h);
    own = b.own ∙ a.own;
    other = λ j h. b.other j h ∙ a.other j h;
  }

  grown_scaled : (n i : ℕ) (t b : E) (old new : List (Factor K)) → IsGrown v n i one_value b old new → IsGrown v n i t (t *ᵛ b) old new
  grown_scaled n i t b old new a = record {
    monic = a.monic;
    width = a.width;
    own = ring (ValueR (suc d)) (t ∷ product_at v new i ∷ []) (search reads depth 12) refl ∙ ap (λ (y : E). t *ᵛ y) a.own ∙ ring (ValueR (suc d)) (t ∷ b ∷ product_at v old i ∷ []) (search reads depth 12) refl;
    other = a.other;
  }

  pub grown_push : (n i : ℕ) (e : ℤ) (old new : List (Factor K)) (c : Factor K) → new ≡ old ++ c ∷ [] → IsFactor v c → IsUnit n i e c.exps → IsGrown v n i one_value (power (ValueF (suc d)) (whole (base_of v c)) e) old new
  grown_push n i e old new c is m u = subst (λ (cs : List (Factor K)). IsGrown v n i one_value (power (ValueF (suc d)) (whole (base_of v c)) e) old cs) (sym is) (record {
    monic = λ h. All-push (IsFactor v) old c h m;
    width = λ h. All-push (HasWidth n) old c h u.size;
    own = ring (ValueR (suc d)) (product_at v (old ++ c ∷ []) i ∷ []) (search reads depth 12) refl ∙ product-push v old c i ∙ ap (λ (f : ℤ). power (ValueF (suc d)) (whole (base_of v c)) f *ᵛ product_at v old i) u.own;
    other = λ j h. product-push v old c j ∙ ap (λ (f : ℤ). power (ValueF (suc d)) (whole (base_of v c)) f *ᵛ product_at v old j) (u.other j h) ∙ ring (ValueR (suc d)) (product_at v old j ∷ []) (search reads depth 12) refl;
  })

  -- the factor k - root
  pub linear_monic : (p : List K) (x : Value d) → poly (map v p) ≡ poly (x ∷ one_value ∷ []) → IsMonic (map v p)
  linear_monic p x e = (1, record { top = same_poly (map v p) (x ∷ one_value ∷ []) e 1; ends = λ i l. same_poly (map v p) (x ∷ one_value ∷ []) e i ∙ past (x ∷ one_value ∷ []) i (omega (arith, l)) })

  without_rest : (p q b l : List K) → poly (map v p) ≡ poly (map v q) *ᵖ poly (map v b) +ᵖ poly (map v l) → poly (map v l) ≡ zero_polynomial → poly (map v p) ≡ poly (map v q) *ᵖ poly (map v b)
  without_rest p q b l e z = by (PolynomialR d) (poly (map v p) ∷ poly (map v q) ∷ poly (map v b) ∷ poly (map v l) ∷ []) ((PolynomialR d).add_cong e z) (search reads depth 16) refl

  pub divided_monic : (p q b l : List K) → IsMonic (map v p) → IsMonic (map v b) → poly (map v p) ≡ poly (map v q) *ᵖ poly (map v b) +ᵖ poly (map v l) → poly (map v l) ≡ zero_polynomial → IsMonic (map v q)
  divided_monic p q b l mp mb e z = (monic_quotient (map v p) (map v q) (map v b) mp mb (without_rest p q b l e z)).0

  pub grown_divided : (n i : ℕ) (e : ℤ) (p q l : List K) (old new : List (Factor K)) (c : Factor K) → new ≡ old ++ c ∷ [] → IsFactor v c → IsUnit n i e c.exps → IsMonic (map v p)
      → poly (map v p) ≡ poly (map v q) *ᵖ poly (map v c.base) +ᵖ poly (map v l) → poly (map v l) ≡ zero_polynomial
      → IsGrown v n i (power (ValueF (suc d)) (whole (poly (map v q))) e) (power (ValueF (suc d)) (whole (poly (map v p))) e) old new
  grown_divided n i e p q l old new c is m u mp k z = subst (λ (y : E). IsGrown v n i (power (ValueF (suc d)) (whole (poly (map v q))) e) y old new)
      (sym (ap (λ (x : Polynomial d). power (ValueF (suc d)) (whole x) e) (without_rest p q c.base l k z) ∙ ap (λ (x : E). power (ValueF (suc d)) x e) (whole-mul (poly (map v q)) (base_of v c))
      ∙ mul-power (ValueF (suc d)) (whole (poly (map v q))) (whole (base_of v c)) e (whole_some (poly (map v q)) (monic_some (map v q) (divided_monic p q c.base l mp m k z))) (whole_some (base_of v c) (monic_some (map v c.base) m))))
      (grown_scaled n i (power (ValueF (suc d)) (whole (poly (map v q))) e) (power (ValueF (suc d)) (whole (base_of v c)) e) old new (grown_push n i e old new c is m u))

  -- ---- The parts of one rational function

  pub ratio_parts : (r : List K × List K) → IsMonic (map v r.1) → ratio v r ≡ whole (poly (map v r.0)) *ᵛ inv_value (whole (poly (map v r.1)))
  ratio_parts r m = over_value-quotient d (map v r.0) (map v r.1) (λ z. monic_some (map v r.1) m (poly_cong z)) ∙ ap₂ (λ (x y : E). x *ᵛ inv_value y) (sym (whole-poly (map v r.0))) (sym (whole-poly (map v r.1)))

  pub grown_parts : (n i : ℕ) (r : List K × List K) (p upper lower : List K) (old mid new : List (Factor K)) → IsMonic (map v r.1) → ¬ (ratio v r ≡ zero_value) → EndsNonzero (map v p)
      → poly (map v p) ≡ poly (map v r.0) → poly (map v upper) ≡ constant (inv_value (coefficient (map v p) (length p - 1))) *ᵖ poly (map v p) → poly (map v lower) ≡ poly (map v r.1)
      → IsGrown v n i one_value (power (ValueF (suc d)) (whole (poly (map v upper))) (pos 1)) old mid → IsGrown v n i one_value (power (ValueF (suc d)) (whole (poly (map v lower))) (negsuc 0)) mid new
      → IsGrown v n i (constant_value d (lead v r)) (ratio v r) old new
  grown_parts n i r p upper lower old mid new m some ends same up low a b = record {
    monic = λ h. b.monic (a.monic h);
    width = λ h. b.width (a.width h);
    own = ap (λ (y : E). C *ᵛ y) step ∙ turn C (inv_value B) U (product_at v old i) ∙ ap (λ (y : E). (y *ᵛ inv_value B) *ᵛ product_at v old i) whole_upper ∙ ap (λ (y : Polynomial d). (whole (poly (map v r.0)) *ᵛ inv_value (whole y)) *ᵛ product_at v old i) low ∙ ap (λ (y : E). y *ᵛ product_at v old i) (sym (ratio_parts r m));
    other = λ j h. b.other j h ∙ a.other j h;
  }
    where
      C : E
      C = constant_value d (lead v r)

      U : E
      U = whole (poly (map v upper))

      B : E
      B = whole (poly (map v lower))

      l : Value d
      l = coefficient (map v p) (length p - 1)

      is : (l ≡ lead v r) × (¬ (l ≡ zero_value))
      is = lead_is p r ends same (ratio_upper (map v r.0) (map v r.1) m some)

      turn : (c t u y : E) → c *ᵛ (t *ᵛ (u *ᵛ y)) ≡ ((c *ᵛ u) *ᵛ t) *ᵛ y
      turn c t u y = ring (ValueR (suc d)) (c ∷ t ∷ u ∷ y ∷ []) (search reads depth 12) refl

      one_left : (x : E) → x ≡ one_value *ᵛ x
      one_left x = ring (ValueR (suc d)) (x ∷ []) (search reads depth 12) refl

      up_one : (x y : E) → power (ValueF (suc d)) x (pos 1) *ᵛ y ≡ x *ᵛ y
      up_one x y = ring (ValueR (suc d)) (x ∷ y ∷ []) (search reads depth 12) refl

      down_one : (x y : E) → power (ValueF (suc d)) x (negsuc 0) *ᵛ y ≡ inv_value x *ᵛ y
      down_one x y = ring (ValueR (suc d)) (inv_value x ∷ y ∷ []) (search reads depth 12) refl

      step : product_at v new i ≡ inv_value B *ᵛ (U *ᵛ product_at v old i)
      step = one_left (product_at v new i) ∙ b.own ∙ down_one B (product_at v mid i) ∙ ap (λ (y : E). inv_value B *ᵛ y) (one_left (product_at v mid i) ∙ a.own ∙ up_one U (product_at v old i))

      undone : constant l *ᵖ (constant (inv_value l) *ᵖ poly (map v p)) ≡ poly (map v p)
      undone = by (PolynomialR d) (constant l ∷ constant (inv_value l) ∷ poly (map v p) ∷ []) (scale (PolynomialR d) (poly (map v p)) (constants l (inv_value l) (value_mul-inv d l is.1))) (search reads depth 16) refl

      whole_upper : C *ᵛ U ≡ whole (poly (map v r.0))
      whole_upper = ap (λ (c : Value d). constant_value d c *ᵛ U) (sym is.0) ∙ ap (λ (y : E). y *ᵛ U) (sym (whole-constant l)) ∙ sym (whole-mul (constant l) (poly (map v upper)))
          ∙ ap (λ (x : Polynomial d). whole (constant l *ᵖ x)) up ∙ ap whole (undone ∙ same)

  -- ---- The loop over the rational functions

  none : {X : Type 0} (P : X → Type 0) → All P []
  none P k x l = absurd (omega arith)

  pub reached_none : (n : ℕ) (rs : List (List K × List K)) (cs : List (Factor K)) → cs ≡ [] → IsReached v n 0 rs cs
  reached_none n rs cs e = rw e (record { monic = none (IsFactor v); width = none (HasWidth n); done = λ j r l. absurd (omega arith); rest = λ j l. refl })

  pub reached_next : (n i : ℕ) (rs : List (List K × List K)) (r : List K × List K) (old new : List (Factor K)) → i < length rs → r ≡ get_or rs i r → IsReached v n i rs old
      → IsGrown v n i (constant_value d (lead v r)) (ratio v r) old new → IsReached v n (i + 1) rs new
  reached_next n i rs r old new inside is s a = record {
    monic = a.monic s.monic;
    width = a.width s.width;
    done = λ j x l. done j x l (two i j);
    rest = λ j l. a.other j (λ e. later j l e) ∙ s.rest j (omega arith);
  }
    where
      two : (i j : ℕ) → (j ≡ i) ⊎ ¬ (j ≡ i)
      two i j = grind arith

      later : (j : ℕ) → i + 1 ≤ j → j ≡ i → ⊥
      later j l e = omega arith

      one_right : (x : E) → x ≡ x *ᵛ one_value
      one_right x = ring (ValueR (suc d)) (x ∷ []) (search reads depth 12) refl

      here : ratio v r ≡ constant_value d (lead v r) *ᵛ product_at v new i
      here = one_right (ratio v r) ∙ ap (λ (y : E). ratio v r *ᵛ y) (sym (s.rest i (omega arith))) ∙ sym a.own

      done : (j : ℕ) (x : List K × List K) → j < i + 1 → (j ≡ i) ⊎ ¬ (j ≡ i) → ratio v (get_or rs j x) ≡ constant_value d (lead v (get_or rs j x)) *ᵛ product_at v new j
      done j x l (inl e) = subst (λ (k : ℕ). ratio v (get_or rs k x) ≡ constant_value d (lead v (get_or rs k x)) *ᵛ product_at v new k) (sym e)
          (subst (λ (y : List K × List K). ratio v y ≡ constant_value d (lead v y) *ᵛ product_at v new i) (is ∙ default rs i r x inside) here)
      done j x l (inr h) = s.done j x (omega arith) ∙ ap (λ (y : E). constant_value d (lead v (get_or rs j x)) *ᵛ y) (sym (a.other j h))

-- ---- Rows

row_next : {K : Type 0} (cs : List (Factor K)) (c : ℕ) (d : Factor K) (i : ℕ) → c < length cs → row_at (take (suc c) cs) i ≡ row_at (take c cs) i ++ exponent (get_or cs c d) i ∷ []
row_next [] c d i l = absurd (omega arith)
row_next (x ∷ cs) zero d i l = refl
row_next (x ∷ cs) (suc c) d i l = ap (λ r. exponent x i ∷ r) (row_next cs c d i (omega arith))

pub row-next : {K : Type 0} (cs : List (Factor K)) (c : ℕ) (d : Factor K) (i : ℕ) → c < length cs → row_at (take (c + 1) cs) i ≡ row_at (take c cs) i ++ exponent (get_or cs c d) i ∷ []
row-next cs c d i l = let q : c + 1 ≡ suc c = omega arith in rw q (row_next cs c d i l)

joined_next : {K : Type 0} (cs : List (Factor K)) (k i : ℕ) (rs : List (List ℤ)) (r : List ℤ) → i < length rs → joined_from cs k (take (suc i) rs) ≡ joined_from cs k (take i rs) ++ (row_at cs (k + i) ++ get_or rs i r) ∷ []
joined_next cs k i [] r l = absurd (omega arith)
joined_next cs k zero (x ∷ rs) r l = let q : k + 0 ≡ k = omega arith in rw q refl
joined_next cs k (suc i) (x ∷ rs) r l = let q : k + suc i ≡ suc k + i = omega arith in rw q (ap (λ t. (row_at cs k ++ x) ∷ t) (joined_next cs (suc k) i rs r (omega arith)))

pub joined-next : {K : Type 0} (cs : List (Factor K)) (i : ℕ) (rs : List (List ℤ)) (r : List ℤ) → i < length rs → joined_from cs 0 (take (i + 1) rs) ≡ joined_from cs 0 (take i rs) ++ (row_at cs i ++ get_or rs i r) ∷ []
joined-next cs i rs r l = let q : i + 1 ≡ suc i = omega arith in let p : 0 + i ≡ i = omega arith in rw q (joined_next cs 0 i rs r l ∙ ap (λ (k : ℕ). joined_from cs 0 (take i rs) ++ (row_at cs k ++ get_or rs i r) ∷ []) p)

pub row_more : {K : Type 0} (cs : List (Factor K)) (n c i : ℕ) (f : Factor K) (x y : ℤ) (row new : List ℤ) → c < length cs → All (HasWidth n) cs → i < n → f ≡ get_or cs c f → x ≡ get_or f.exps i x → y ≡ x
    → row ≡ row_at (take c cs) i → new ≡ row ++ y ∷ [] → new ≡ row_at (take (c + 1) cs) i
row_more {K} cs n c i f x y row new l w k is own e inv ok = ok ∙ ap₂ (λ (r : List ℤ) (z : ℤ). r ++ z ∷ []) inv (e ∙ own ∙ default f.exps i x (pos 0) (inside (length f.exps) width) ∙ ap (λ (g : Factor K). exponent g i) is) ∙ sym (row-next cs c f i l)
  where
    width : length f.exps ≡ n
    width = subst (HasWidth n) (sym is) (w c f l)

    inside : (m : ℕ) → m ≡ n → i < m
    inside m q = omega (arith, q, k)

pub joined_more : {K : Type 0} (cs : List (Factor K)) (i : ℕ) (rs : List (List ℤ)) (r s own row : List ℤ) (rows new : List (List ℤ)) → i < length rs → r ≡ get_or rs i r → s ≡ r → own ≡ row_at cs i → row ≡ own ++ s
    → rows ≡ joined_from cs 0 (take i rs) → new ≡ rows ++ row ∷ [] → new ≡ joined_from cs 0 (take (i + 1) rs)
joined_more cs i rs r s own row rows new l is e o more inv ok = ok ∙ ap₂ (λ (t : List (List ℤ)) (a : List ℤ). t ++ a ∷ []) inv (more ∙ ap₂ ◌++◌ o (e ∙ is)) ∙ sym (joined-next cs i rs r l)
