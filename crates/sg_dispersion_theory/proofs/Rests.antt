-- Division by a monic polynomial a whose coefficients have values at args: rests of polynomials that are small there.
--   rest p               the rest of p by a, which is small where p is
--   next r, entry r j    the rests of t r and of t^j r
--   combined r p         the sum of c times the entries of r, for the coefficients c of p: it is r p up to a multiple of a
--   only_zero            y of smaller degree than a is 0, where a divides y + ε y for a small ε: then y + r y is 0 for the rest r of ε, up to multiples of a,
--                        and its coefficients are those of y times 1 and a small matrix
--   coprime_near_one     so a is coprime to a polynomial with the value 1: else y = a / gcd is of smaller degree, and not 0
use Rattle.std.proofs.Common.{◌≡◌, ℕ, zero, suc, ◌+◌, ◌<◌, ◌≤◌, ◌⊎◌, inl, inr, refl, sym, ◌∙◌, ap, subst, List, [], ◌∷◌, length, ℤ, arith}
use Rattle.sg_algebra.specs.Ring.{Ring}
use Rattle.sg_algebra.specs.Coefficients.{coef}
use Rattle.sg_algebra.proofs.Ring.{mul_O, neg_O, O_add}
use Rattle.sg_algebra.proofs.Solver.{ring, by, scale, reads}
use Rattle.sg_algebra.proofs.Coprime.{Coprime}
use Rattle.sg_algebra.proofs.Euclid.{Bezout, coprime_of_unit}
use Rattle.sg_algebra.proofs.PolynomialRing.{PolyR, X, coef-zip, coef-each, coef-scale, cons-is, no_coefficient}
use Rattle.sg_algebra.proofs.Degree.{Below, Degree, Monic, below_up, below_degree, below-add, below-scale, degree_ne}
use Rattle.sg_algebra.proofs.Division.{divide, divide-is, divide-below, divide_unique, bezoutPoly}
use Rattle.sg_algebra.proofs.Sums.{sum, sum_cong, sum-neg, sum-first}
use Rattle.sg_algebra.proofs.Value.{Value, ◌+ᵛ◌, ◌*ᵛ◌, neg_value, inv_value, zero_value, one_value}
use Rattle.sg_algebra.proofs.ValueField.{ValueR, ValueF, value_one_ne, value_quotient, one_mul_value}
use Rattle.sg_algebra.proofs.Place.{Pairwise, HasValue}
use Rattle.sg_dispersion_theory.proofs.Embedded.{Valued, has_one, none, pairwise_at}
use Rattle.sg_dispersion_theory.proofs.Uniform.{Small, SmallList, small-add, small-mul, small-neg, uniform}
use Rattle.sg_dispersion_theory.proofs.Radical.{constant_unit, factor_degree, divisor_degree}

module _ (d : ℕ) (args : List ℤ) (s : Valued d args) where
  abbrev Has : Value d → Value 0 → Type 0
  Has x v = HasValue d x args v

  module _ (n : ℕ) (a : List (Value d)) (u : List (Value 0)) (values : Pairwise Has a u) (monic : Monic (ValueR d) n a) where
    open PolyR (ValueR d) use {◌≈◌ as ◌≋◌, ◌⊞◌ as ◌⊕◌, ◌⊠◌ as ◌⊗◌, ⊟ as ⊖}

    abbrev P : Ring
    P = PolyR (ValueR d)

    degree : Degree (ValueR d) n a
    degree = record { lead = λ z. value_one_ne d (sym monic.top ∙ z); ends = monic.ends }

    inv_one : inv_value (coef (ValueR d) a n) ≡ one_value
    inv_one = ap inv_value monic.top ∙ sym (one_mul_value (inv_value one_value)) ∙ sym (value_quotient one_value one_value one_value (value_one_ne d) (one_mul_value one_value))

    small_cons : (x : Value d) (p : List (Value d)) → Small d args x → SmallList d args p → SmallList d args (x ∷ p)
    small_cons x p h k zero = h
    small_cons x p h k (suc i) = k i

    -- what the division puts in front of a
    abbrev factor : List (Value d) → Value d
    factor r = coef (ValueR d) r n *ᵛ inv_value (coef (ValueR d) a n)

    factor_small : (r : List (Value d)) → SmallList d args r → Small d args (factor r)
    factor_small r h = small-mul d args (coef (ValueR d) r n) (inv_value (coef (ValueR d) a n)) one_value (h n) (subst (λ (z : Value d). Has z one_value) (sym inv_one) (has_one d args s))

    -- a multiple of a is taken away from a small list
    small_step : (r : List (Value d)) → SmallList d args r → SmallList d args (r ⊕ ⊖ ((factor r ∷ []) ⊗ a))
    small_step r h i = subst (λ (z : Value d). Small d args z) (sym (at (factor r)))
        (small-add d args (coef (ValueR d) r i) (neg_value (factor r *ᵛ coef (ValueR d) a i)) (h i)
        (small-neg d args (factor r *ᵛ coef (ValueR d) a i) (small-mul d args (factor r) (coef (ValueR d) a i) (coef (ValueR 0) u i) (factor_small r h) (pairwise_at d args s a u values i))))
      where
        at : (t : Value d) → coef (ValueR d) (r ⊕ ⊖ ((t ∷ []) ⊗ a)) i ≡ coef (ValueR d) r i +ᵛ neg_value (t *ᵛ coef (ValueR d) a i)
        at t = coef-zip (ValueR d) r (⊖ ((t ∷ []) ⊗ a)) i
            ∙ ap (λ z. coef (ValueR d) r i +ᵛ z) (coef-each (ValueR d) neg_value (neg_O (ValueR d)) ((t ∷ []) ⊗ a) i ∙ ap neg_value (coef-scale (ValueR d) t a i))

    abbrev rest : List (Value d) → List (Value d)
    rest p = (divide (ValueF d) n a p).1

    small_rest : (p : List (Value d)) → SmallList d args p → SmallList d args (rest p)
    small_rest [] h = h
    small_rest (x ∷ p) h = small_step (x ∷ rest p) (small_cons x (rest p) (h 0) (small_rest p (λ i. h (suc i))))

    below_rest : (p : List (Value d)) → Below (ValueR d) n (rest p)
    below_rest p = divide-below (ValueF d) n a degree p

    abbrev next : List (Value d) → List (Value d)
    next r = rest (zero_value ∷ r)

    -- the column of the matrix at j
    entry : List (Value d) → ℕ → List (Value d)
    entry r zero = r
    entry r (suc j) = entry (next r) j

    entry_small : (r : List (Value d)) (j : ℕ) → SmallList d args r → SmallList d args (entry r j)
    unfolding entry
    entry_small r zero h = h
    entry_small r (suc j) h = entry_small (next r) j (small_rest (zero_value ∷ r) (small_cons zero_value r (none d args s) h))

    combined : List (Value d) → List (Value d) → List (Value d)
    combined r [] = []
    combined r (c ∷ p) = (c ∷ []) ⊗ r ⊕ combined (next r) p

    combined_below : (r p : List (Value d)) → Below (ValueR d) n r → Below (ValueR d) n (combined r p)
    unfolding combined
    combined_below r [] b = record { none_from = λ i l. refl }
    combined_below r (c ∷ p) b = below-add (ValueR d) n ((c ∷ []) ⊗ r) (combined (next r) p) (below-scale (ValueR d) n c r b) (combined_below (next r) p (below_rest (zero_value ∷ r)))

    combined_at : (r p : List (Value d)) (i : ℕ) → coef (ValueR d) (combined r p) i ≡ sum (ValueR d) (λ j. coef (ValueR d) p j *ᵛ coef (ValueR d) (entry r j) i) (length p)
    unfolding combined entry
    combined_at r [] i = refl
    combined_at r (c ∷ p) i = coef-zip (ValueR d) ((c ∷ []) ⊗ r) (combined (next r) p) i
        ∙ (ValueR d).add_cong (coef-scale (ValueR d) c r i) (combined_at (next r) p i)
        ∙ sym (sum-first (ValueR d) (λ j. coef (ValueR d) (c ∷ p) j *ᵛ coef (ValueR d) (entry r j) i) (length p))

    -- x is y and a multiple of a
    record Congruent (x y : List (Value d)) : Type 0 where
      cofactor : List (Value d)
      is : x ≋ y ⊕ cofactor ⊗ a

    shifted : (r : List (Value d)) → (zero_value ∷ r) ≋ X (ValueR d) ⊗ r
    shifted r = P.trans (cons-is (ValueR d) zero_value r) (P.trans (P.add_cong (no_coefficient (ValueR d)) P.rfl) (O_add P))

    one_more : (x r c p cp k q e m : List (Value d)) → cp ≋ c ⊕ x ⊗ p → x ⊗ r ≋ q ⊗ a ⊕ e → e ⊗ p ≋ m ⊕ k ⊗ a → r ⊗ cp ≋ (c ⊗ r ⊕ m) ⊕ (k ⊕ q ⊗ p) ⊗ a
    one_more x r c p cp k q e m h g f = by P (a ∷ x ∷ r ∷ c ∷ p ∷ cp ∷ k ∷ q ∷ e ∷ m ∷ []) (P.add_cong (scale P r h) (P.add_cong (scale P p g) f)) (search reads depth 24 fits 5000) refl

    combined_is : (r p : List (Value d)) → Congruent (r ⊗ p) (combined r p)
    unfolding combined
    combined_is r [] = record { cofactor = []; is = mul_O P {x = r} }
    combined_is r (c ∷ p) =
        let k = combined_is (next r) p in
        record {
          cofactor = k.cofactor ⊕ (divide (ValueF d) n a (zero_value ∷ r)).0 ⊗ p;
          is = one_more (X (ValueR d)) r (c ∷ []) p (c ∷ p) k.cofactor (divide (ValueF d) n a (zero_value ∷ r)).0 (next r) (combined (next r) p) (cons-is (ValueR d) c p)
              (P.trans (P.symm (shifted r)) (divide-is (ValueF d) n a (zero_value ∷ r))) k.is;
        }

    past_end : (p : List (Value d)) (i : ℕ) → length p ≤ i → coef (ValueR d) p i ≡ zero_value
    past_end [] i h = refl
    past_end (x ∷ p) zero h = absurd (omega arith)
    past_end (x ∷ p) (suc i) h = past_end p i (omega arith)

    -- y has at each place the sum of -r's entries there times its own coefficients, and the matrix of these is small
    fixed : (r y : List (Value d)) → SmallList d args r → y ⊕ combined r y ≋ [] → y ≋ []
    fixed r y h e = record { image = record { at = λ i. at i (within i (length y)) } }
      where
        within : (i n : ℕ) → (i < n) ⊎ (n ≤ i)
        within i n = grind arith

        opposite : (x z : Value d) → x +ᵛ z ≡ zero_value → x ≡ neg_value z
        opposite x z h = by (ValueR d) (x ∷ z ∷ []) h (search reads depth 16) refl

        swapped : (x z : Value d) → neg_value (x *ᵛ z) ≡ neg_value z *ᵛ x
        swapped x z = ring (ValueR d) (x ∷ z ∷ []) (search reads depth 16) refl

        row : (i : ℕ) → coef (ValueR d) y i ≡ sum (ValueR d) (λ j. neg_value (coef (ValueR d) (entry r j) i) *ᵛ coef (ValueR d) y j) (length y)
        row i =
            opposite (coef (ValueR d) y i) (coef (ValueR d) (combined r y) i) (sym (coef-zip (ValueR d) y (combined r y) i) ∙ e.image.at i)
            ∙ ap neg_value (combined_at r y i)
            ∙ sym (sum-neg (ValueR d) (λ j. coef (ValueR d) y j *ᵛ coef (ValueR d) (entry r j) i) (length y))
            ∙ sum_cong (ValueR d) (λ j. neg_value (coef (ValueR d) y j *ᵛ coef (ValueR d) (entry r j) i)) (λ j. neg_value (coef (ValueR d) (entry r j) i) *ᵛ coef (ValueR d) y j) (length y)
            (λ j l. swapped (coef (ValueR d) y j) (coef (ValueR d) (entry r j) i))

        at : (i : ℕ) → (i < length y) ⊎ (length y ≤ i) → coef (ValueR d) y i ≡ zero_value
        at i (inr l) = past_end y i l
        at i (inl l) = uniform d args (length y) (λ i j. neg_value (coef (ValueR d) (entry r j) i)) (coef (ValueR d) y)
            (λ i j k l. small-neg d args (coef (ValueR d) (entry r j) i) (entry_small r j h i)) (λ i l. row i) i l

    pub only_zero : (ε y t : List (Value d)) → SmallList d args ε → Below (ValueR d) n y → y ⊕ ε ⊗ y ≋ t ⊗ a → y ≋ []
    only_zero ε y t h b e =
        let k = combined_is (rest ε) y in
        fixed (rest ε) y (small_rest ε h)
        (divide_unique (ValueF d) n a degree [] (t ⊕ ⊖ ((divide (ValueF d) n a ε).0 ⊗ y ⊕ k.cofactor)) (y ⊕ combined (rest ε) y) []
        (equation (divide (ValueF d) n a ε).0 (rest ε) k.cofactor (combined (rest ε) y) (divide-is (ValueF d) n a ε) k.is)
        (below-add (ValueR d) n y (combined (rest ε) y) b (combined_below (rest ε) y (below_rest ε)))
        (record { none_from = λ i l. refl })).1
      where
        equation : (q r k m : List (Value d)) → ε ≋ q ⊗ a ⊕ r → r ⊗ y ≋ m ⊕ k ⊗ a → [] ⊗ a ⊕ (y ⊕ m) ≋ (t ⊕ ⊖ (q ⊗ y ⊕ k)) ⊗ a ⊕ []
        equation q r k m f g = by P (a ∷ ε ∷ y ∷ t ∷ q ∷ r ∷ k ∷ m ∷ []) (P.add_cong e (P.neg_cong (P.add_cong (scale P y f) g))) (search reads depth 24 fits 5000) refl

    pub coprime_near_one : (w : List (Value d)) → SmallList d args (w ⊕ ⊖ (one_value ∷ [])) → Coprime P a w
    coprime_near_one w h =
        let c = bezoutPoly (ValueF d) a w in
        let g = divisor_degree (ValueF d) n a c.g c.s degree c.of_a in
        go c g.0 g.1
      where
        equation : (g s t : List (Value d)) → g ⊗ s ≋ a → g ⊗ t ≋ w → s ⊕ (w ⊕ ⊖ (one_value ∷ [])) ⊗ s ≋ t ⊗ a
        equation g s t f k = by P (a ∷ w ∷ g ∷ s ∷ t ∷ []) (P.add_cong (scale P t f) (P.neg_cong (scale P s k))) (search reads depth 24 fits 5000) refl

        go : (c : Bezout P a w) (i : ℕ) → Degree (ValueR d) i c.g → Coprime P a w
        go c zero e = coprime_of_unit P a w c (constant_unit (ValueF d) c.g e)
        go c (suc i) e =
            let f = factor_degree (ValueF d) n (suc i) a c.g c.s degree e c.of_a in
            let k : suc i + f.0 ≡ n = f.2 in
            absurd (degree_ne (ValueR d) f.0 c.s f.1
            (only_zero (w ⊕ ⊖ (one_value ∷ [])) c.s c.t h (below_up (ValueR d) (suc f.0) n c.s (omega (arith, k)) (below_degree (ValueR d) f.0 c.s f.1)) (equation c.g c.s c.t c.of_a c.of_b)))
