-- Numerators of partial fractions.
--   left_divides          x is n t up to a multiple of u, where the rest of n by u is taken first
--   right_divides         then u divides n - x v, where t v - 1 is divided by u
--   right_is              what is left of n, over u
--   rest_under            the rest of a division is below the degree of the divisor
--   adds_end, each_last   one numerator more; adds_lengths: there are as many of each
--   split_of              a share as the sum of two
--   joined_of             the sum of two shares over a common multiple
--   polys_push, polys_take    the polynomials of rows of coefficients, one more
use Rattle.std.proofs.Common.{◌≡◌, ℕ, zero, suc, ◌+◌, ◌≤◌, ◌<◌, refl, sym, ◌∙◌, ap, ap₂, subst, List, [], ◌∷◌, ◌++◌, ◌⊎◌, inl, inr, length, map, take, get_or, arith}
use Rattle.std.proofs.lemmas.List.{take_more, take_all}
use Rattle.sg_algebra.specs.Coefficients.{Each, zip_longest, poly_mul}
use Rattle.sg_algebra.proofs.Rows.{at_past}
use Rattle.sg_algebra.proofs.Solver.{ring, by, scale, reads}
use Rattle.sg_algebra.proofs.Degree.{Degree, below-add, degree_same, degree_unique, degree-mul}
use Rattle.sg_algebra.proofs.Value.{Value, ◌+ᵛ◌}
use Rattle.sg_algebra.proofs.ValueField.{ValueR, ValueF, ValueD}
use Rattle.sg_algebra.proofs.Polynomial.{Polynomial, PolynomialR, poly, same_list, poly-add, poly-mul, polynomial_factor, EndsNonzero, zero_polynomial, one_polynomial, ◌+ᵖ◌, ◌-ᵖ◌, ◌*ᵖ◌, neg_polynomial}
use Rattle.sg_dispersion_theory.proofs.Listed.{list_of, poly-list_of, poly_degree}
use Rattle.sg_poly.specs.Divisors.{◌∣ᵖ◌}
use Rattle.sg_first_order_theory.proofs.Under.{Under, under_poly}
use Rattle.sg_reduction_theory.proofs.Moves.{Share}
use Rattle.sg_reduction_theory.proofs.Steps.{Adds, sum_term}
use Rattle.sg_reduction_theory.proofs.Proper.{product_below}
use Rattle.sg_reduction_theory.proofs.Places.{Fits}
use Rattle.sg_reduction_theory.proofs.Splitting.{split_terms, rest_fits}
use Rattle.sg_constant.specs.Multiples.{IsMultiple}
use Rattle.sg_constant.specs.Shares.{polys, over, IsSplit, IsJoined}

module _ {d : ℕ} where
  -- n = q u + s and s t = p u + r
  pub left_divides : (n u t q s p r m : Polynomial d) → n ≡ q *ᵖ u +ᵖ s → m ≡ s *ᵖ t → m ≡ p *ᵖ u +ᵖ r → u ∣ᵖ (r -ᵖ n *ᵖ t)
  left_divides n u t q s p r m h e k = record {
    cofactor = neg_polynomial (p +ᵖ q *ᵖ t);
    is = by (PolynomialR d) (n ∷ u ∷ t ∷ q ∷ s ∷ p ∷ r ∷ m ∷ [])
        ((PolynomialR d).add_cong (scale (PolynomialR d) (neg_polynomial t) h) ((PolynomialR d).add_cong e (scale (PolynomialR d) (neg_polynomial one_polynomial) k))) (search reads depth 20 fits 5000) refl;
  }

  pub right_divides : (n x u v t : Polynomial d) → u ∣ᵖ (x -ᵖ n *ᵖ t) → IsMultiple u v one_polynomial t → u ∣ᵖ (n -ᵖ x *ᵖ v)
  right_divides n x u v t h k = record {
    cofactor = n *ᵖ k.cofactor -ᵖ v *ᵖ h.cofactor;
    is = by (PolynomialR d) (n ∷ x ∷ u ∷ v ∷ t ∷ h.cofactor ∷ k.cofactor ∷ [])
        ((PolynomialR d).add_cong (scale (PolynomialR d) (neg_polynomial v) h.is) (scale (PolynomialR d) n k.is)) (search reads depth 20 fits 5000) refl;
  }

  pub right_is : (n x u v m e r : Polynomial d) → m ≡ x *ᵖ v → e ≡ n -ᵖ m → e ≡ r *ᵖ u → n ≡ x *ᵖ v +ᵖ r *ᵖ u
  right_is n x u v m e r hm he hr = by (PolynomialR d) (n ∷ x ∷ u ∷ v ∷ m ∷ e ∷ r ∷ [])
      ((PolynomialR d).add_cong hm ((PolynomialR d).add_cong hr (scale (PolynomialR d) (neg_polynomial one_polynomial) he))) (search reads depth 20 fits 5000) refl

  pub difference_divides : (n x u v m e : Polynomial d) → m ≡ x *ᵖ v → e ≡ n -ᵖ m → u ∣ᵖ (n -ᵖ x *ᵖ v) → u ∣ᵖ e
  difference_divides n x u v m e hm he h = record {
    cofactor = h.cofactor;
    is = by (PolynomialR d) (n ∷ x ∷ u ∷ v ∷ m ∷ e ∷ h.cofactor ∷ [])
        ((PolynomialR d).add_cong he ((PolynomialR d).add_cong h.is (scale (PolynomialR d) (neg_polynomial one_polynomial) hm))) (search reads depth 20 fits 5000) refl;
  }

  length_of : (m : ℕ) (u : List (Value d)) → Degree (ValueR d) m u → EndsNonzero u → length u ≡ suc m
  length_of m u g e = elim (three m (length u)) [
    | inl h ↦ absurd (g.lead (at_past u m h))
    | inr s ↦ elim s [ inl h ↦ h | inr h ↦ absurd (beyond (length u) refl h) ]
  ]
    where
      three : (n s : ℕ) → (s ≤ n) ⊎ ((s ≡ suc n) ⊎ (suc n < s))
      three n s = grind arith

      beyond : (s : ℕ) → length u ≡ s → suc m < s → ⊥
      beyond zero h l = omega (arith, l)
      beyond (suc s) h l = e s h (g.ends s (omega (arith, l)))

  pub rest_under : (u r : List (Value d)) → EndsNonzero u → length r < length u → (m : ℕ) → Degree (ValueR d) m u → Under m (poly r)
  rest_under u r e l m g = under_poly m r (record { none_from = λ i k. at_past r i (past (length r) (length u) m i l (length_of m u g e) k) })
    where
      past : (a b m i : ℕ) → a < b → b ≡ suc m → m ≤ i → a ≤ i
      past a b m i h k q = omega (arith, h, k, q)

  pub adds_end : (x y : Polynomial d) (ls ns ms : List (Polynomial d)) (l n m : Polynomial d) → Adds x y ls ns ms → l ≡ n *ᵖ x +ᵖ m *ᵖ y → Adds x y (ls ++ l ∷ []) (ns ++ n ∷ []) (ms ++ m ∷ [])
  adds_end x y [] [] [] l n m h e = (e, tt)
  adds_end x y (l' ∷ ls) (n' ∷ ns) (m' ∷ ms) l n m h e = (h.0, adds_end x y ls ns ms l n m h.1 e)
  adds_end x y [] [] (m' ∷ ms) l n m h e = absurd h
  adds_end x y [] (n' ∷ ns) ms l n m h e = absurd h
  adds_end x y (l' ∷ ls) [] ms l n m h e = absurd h
  adds_end x y (l' ∷ ls) (n' ∷ ns) [] l n m h e = absurd h

  pub each_last : (P : Polynomial d → Type 0) (xs : List (Polynomial d)) (x : Polynomial d) → Each P xs → P x → Each P (xs ++ x ∷ [])
  each_last P [] x h p = (p, tt)
  each_last P (y ∷ xs) x h p = (h.0, each_last P xs x h.1 p)

  pub adds_lengths : (x y : Polynomial d) (ls ns ms : List (Polynomial d)) → Adds x y ls ns ms → (length ns ≡ length ls) × (length ms ≡ length ls)
  adds_lengths x y [] [] [] h = (refl, refl)
  adds_lengths x y (l ∷ ls) (n ∷ ns) (m ∷ ms) h = let r = adds_lengths x y ls ns ms h.1 in (ap suc r.0, ap suc r.1)
  adds_lengths x y [] [] (m ∷ ms) h = absurd h
  adds_lengths x y [] (n ∷ ns) ms h = absurd h
  adds_lengths x y (l ∷ ls) [] ms h = absurd h
  adds_lengths x y (l ∷ ls) (n ∷ ns) [] h = absurd h

  -- ---- Shares

  pub list_degree : (n : ℕ) (u : List (Value d)) → Degree (ValueR d) n u → Degree (ValueR d) n (list_of (poly u))
  list_degree n u g = degree_same (ValueR d) n u (list_of (poly u)) (same_list u (list_of (poly u)) (sym (poly-list_of (poly u)))) g

  pub product_ne : (x y w : Polynomial d) → w ≡ x *ᵖ y → ¬ (x ≡ zero_polynomial) → ¬ (y ≡ zero_polynomial) → ¬ (w ≡ zero_polynomial)
  product_ne x y w e h k z = k (polynomial_factor x y h (sym e ∙ z))

  pub split_of : (us ls rs : List (Polynomial d)) (u v : List (Value d)) (w : Polynomial d) (n : ℕ) → Degree (ValueR d) n u → ¬ (poly u ≡ zero_polynomial) → ¬ (poly v ≡ zero_polynomial) → w ≡ poly u *ᵖ poly v
      → Adds (poly v) (poly u) us ls rs → Each (Under n) ls → IsSplit (over us w) (over ls (poly u)) (over rs (poly v))
  split_of us ls rs u v w n g hu hv e a h = record {
    is = λ c. split_terms c (over us w) (over ls (poly u)) (over rs (poly v)) (product_ne (poly u) (poly v) w e hu hv) hu hv e a;
    fits = λ f. (
      record { n = n; degree = list_degree n u g; under = h },
      rest_fits (over us w) (over ls (poly u)) (over rs (poly v)) n m.0 (list_degree n u g) (list_degree m.0 v m.1) e a h f,
    );
    first = (adds_lengths (poly v) (poly u) us ls rs a).0;
    second = (adds_lengths (poly v) (poly u) us ls rs a).1;
  }
    where
      m : (m : ℕ) × Degree (ValueR d) m v
      m = poly_degree v hv

  -- the degrees of sums over a common multiple
  list_product : (x y : Polynomial d) → poly (poly_mul (ValueR d) (list_of x) (list_of y)) ≡ x *ᵖ y
  list_product x y = poly-mul (list_of x) (list_of y) ∙ ap₂ ◌*ᵖ◌ (poly-list_of x) (poly-list_of y)

  under_product : (n m : ℕ) (p x : Polynomial d) → Degree (ValueR d) m (list_of x) → Under n p → Under (n + m) (p *ᵖ x)
  under_product n m p x g h = subst (Under (n + m)) (list_product p x) (under_poly (n + m) (poly_mul (ValueR d) (list_of p) (list_of x)) (product_below (ValueF d) n m (list_of p) (list_of x) g h))

  under_add : (n : ℕ) (p q : Polynomial d) → Under n p → Under n q → Under n (p +ᵖ q)
  under_add n p q h k = subst (Under n) (poly-add (list_of p) (list_of q) ∙ ap₂ ◌+ᵖ◌ (poly-list_of p) (poly-list_of q)) (under_poly n (zip_longest ◌+ᵛ◌ (list_of p) (list_of q)) (below-add (ValueR d) n (list_of p) (list_of q) h k))

  sums_under : (a b i j n : ℕ) (x y : Polynomial d) (ls ns ms : List (Polynomial d)) → Degree (ValueR d) i (list_of x) → Degree (ValueR d) j (list_of y) → a + i ≡ n → b + j ≡ n
      → Adds x y ls ns ms → Each (Under a) ns → Each (Under b) ms → Each (Under n) ls
  sums_under a b i j n x y [] [] [] gx gy e k h ha hb = tt
  sums_under a b i j n x y (l ∷ ls) (p ∷ ns) (q ∷ ms) gx gy e k h ha hb = (
    subst (Under n) (sym h.0) (under_add n (p *ᵖ x) (q *ᵖ y) (subst (λ (s : ℕ). Under s (p *ᵖ x)) e (under_product a i p x gx ha.0)) (subst (λ (s : ℕ). Under s (q *ᵖ y)) k (under_product b j q y gy hb.0))),
    sums_under a b i j n x y ls ns ms gx gy e k h.1 ha.1 hb.1,
  )
  sums_under a b i j n x y [] [] (q ∷ ms) gx gy e k h ha hb = absurd h
  sums_under a b i j n x y [] (p ∷ ns) ms gx gy e k h ha hb = absurd h
  sums_under a b i j n x y (l ∷ ls) [] ms gx gy e k h ha hb = absurd h
  sums_under a b i j n x y (l ∷ ls) (p ∷ ns) [] gx gy e k h ha hb = absurd h

  degree_product : (m n : ℕ) (x y w : Polynomial d) → w ≡ x *ᵖ y → Degree (ValueR d) m (list_of x) → Degree (ValueR d) n (list_of y) → Degree (ValueR d) (m + n) (list_of w)
  degree_product m n x y w e g h = degree_same (ValueR d) (m + n) (poly_mul (ValueR d) (list_of x) (list_of y)) (list_of w) (same_list (poly_mul (ValueR d) (list_of x) (list_of y)) (list_of w) (list_product x y ∙ sym e ∙ sym (poly-list_of w)))
      (degree-mul (ValueD d) m n (list_of x) (list_of y) g h)

  degree_at : (x : Polynomial d) → ¬ (x ≡ zero_polynomial) → (n : ℕ) × Degree (ValueR d) n (list_of x)
  degree_at x h = poly_degree (list_of x) (λ z. h (sym (poly-list_of x) ∙ z))

  first_ne : (x y w : Polynomial d) → w ≡ x *ᵖ y → ¬ (w ≡ zero_polynomial) → ¬ (x ≡ zero_polynomial)
  first_ne x y w e h z = h (e ∙ ap (λ q. q *ᵖ y) z ∙ ring (PolynomialR d) (y ∷ []) (search reads depth 12) refl)

  pub joined_of : (s t l : Share d) (g x y : Polynomial d) → ¬ (s.lower ≡ zero_polynomial) → ¬ (t.lower ≡ zero_polynomial) → t.lower ≡ x *ᵖ g → s.lower ≡ y *ᵖ g → Adds x y l.uppers s.uppers t.uppers → l.lower ≡ s.lower *ᵖ x → IsJoined s t l
  joined_of s t l g x y hs ht ex ey a e = record {
    is = λ c. sum_term c l s t x y some hs ht e other a;
    fits = fits;
    number = sym (adds_lengths x y l.uppers s.uppers t.uppers a).0;
    lower = record { cofactor = g; is = by (PolynomialR d) (s.lower ∷ t.lower ∷ l.lower ∷ x ∷ g ∷ []) ((PolynomialR d).add_cong (scale (PolynomialR d) s.lower ex) (scale (PolynomialR d) (neg_polynomial g) e)) (search reads depth 20 fits 4000) refl };
  }
    where
      some : ¬ (l.lower ≡ zero_polynomial)
      some = product_ne s.lower x l.lower e hs (first_ne x g t.lower ex ht)

      other : l.lower ≡ t.lower *ᵖ y
      other = by (PolynomialR d) (s.lower ∷ t.lower ∷ l.lower ∷ x ∷ y ∷ g ∷ []) ((PolynomialR d).add_cong e ((PolynomialR d).add_cong (scale (PolynomialR d) x ey) (scale (PolynomialR d) (neg_polynomial y) ex))) (search reads depth 20 fits 4000) refl

      i : (n : ℕ) × Degree (ValueR d) n (list_of x)
      i = degree_at x (first_ne x g t.lower ex ht)

      j : (n : ℕ) × Degree (ValueR d) n (list_of y)
      j = degree_at y (first_ne y g s.lower ey hs)

      fits : Fits s → Fits t → Fits l
      fits f k = record {
        n = f.n + i.0;
        degree = degree_product f.n i.0 s.lower x l.lower e f.degree i.1;
        under = sums_under f.n k.n i.0 j.0 (f.n + i.0) x y l.uppers s.uppers t.uppers i.1 j.1 refl
            (degree_unique (ValueR d) (k.n + j.0) (f.n + i.0) (list_of l.lower) (degree_product k.n j.0 t.lower y l.lower other k.degree j.1) (degree_product f.n i.0 s.lower x l.lower e f.degree i.1)) a f.under k.under;
      }

module _ {K : Type 0} {d : ℕ} (v : K → Value d) where
  pub polys_push : (xs new : List (List K)) (x : List K) → new ≡ xs ++ x ∷ [] → polys v new ≡ polys v xs ++ poly (map v x) ∷ []
  polys_push xs new x e = ap (polys v) e ∙ at xs
    where
      at : (xs : List (List K)) → polys v (xs ++ x ∷ []) ≡ polys v xs ++ poly (map v x) ∷ []
      at [] = refl
      at (y ∷ xs) = ap (λ z. poly (map v y) ∷ z) (at xs)

  pub polys_take : (xs : List (List K)) (i : ℕ) (x : List K) → i < length xs → x ≡ get_or xs i x → polys v (take (i + 1) xs) ≡ polys v (take i xs) ++ poly (map v x) ∷ []
  polys_take xs i x l e = polys_push (take i xs) (take (i + 1) xs) x (take_more xs i x l ∙ ap (λ (z : List K). take i xs ++ z ∷ []) (sym e))

  pub adds_push : (x y : Polynomial d) (ls : List (List K)) (i : ℕ) (l : List K) (ns ns' : List (List K)) (n : List K) (ms ms' : List (List K)) (m : List K) → i < length ls → l ≡ get_or ls i l → ns' ≡ ns ++ n ∷ [] → ms' ≡ ms ++ m ∷ []
      → Adds x y (polys v (take i ls)) (polys v ns) (polys v ms) → poly (map v l) ≡ poly (map v n) *ᵖ x +ᵖ poly (map v m) *ᵖ y → Adds x y (polys v (take (i + 1) ls)) (polys v ns') (polys v ms')
  adds_push x y ls i l ns ns' n ms ms' m k e en em a h = rw (polys_take ls i l k e, polys_push ns ns' n en, polys_push ms ms' m em)
      (adds_end x y (polys v (take i ls)) (polys v ns) (polys v ms) (poly (map v l)) (poly (map v n)) (poly (map v m)) a h)

  pub sums_push : (x y : Polynomial d) (ls ls' : List (List K)) (l : List K) (ns : List (List K)) (n : List K) (ms : List (List K)) (m : List K) (i : ℕ) → i < length ns → i < length ms → n ≡ get_or ns i n → m ≡ get_or ms i m → ls' ≡ ls ++ l ∷ []
      → Adds x y (polys v ls) (polys v (take i ns)) (polys v (take i ms)) → poly (map v l) ≡ poly (map v n) *ᵖ x +ᵖ poly (map v m) *ᵖ y → Adds x y (polys v ls') (polys v (take (i + 1) ns)) (polys v (take (i + 1) ms))
  sums_push x y ls ls' l ns n ms m i kn km en em el a h = rw (polys_take ns i n kn en, polys_take ms i m km em, polys_push ls ls' l el)
      (adds_end x y (polys v ls) (polys v (take i ns)) (polys v (take i ms)) (poly (map v l)) (poly (map v n)) (poly (map v m)) a h)

  pub under_push : (m : ℕ) (xs new : List (List K)) (x : List K) → new ≡ xs ++ x ∷ [] → Each (Under m) (polys v xs) → Under m (poly (map v x)) → Each (Under m) (polys v new)
  under_push m xs new x e h k = rw (polys_push xs new x e) (each_last (Under m) (polys v xs) (poly (map v x)) h k)

  pub sums_all : (x y : Polynomial d) (ls ns ms : List (List K)) (i : ℕ) → length ns ≤ i → length ms ≤ i → Adds x y (polys v ls) (polys v (take i ns)) (polys v (take i ms)) → Adds x y (polys v ls) (polys v ns) (polys v ms)
  sums_all x y ls ns ms i k l a = subst (λ (z : List (List K)). Adds x y (polys v ls) (polys v ns) (polys v z)) (take_all i ms l) (subst (λ (z : List (List K)). Adds x y (polys v ls) (polys v z) (polys v (take i ms))) (take_all i ns k) a)
