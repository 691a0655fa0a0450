-- Rows that grow by one item, as images of other rows.
--   take_next             one item more of a list
--   push_length           the length with one item more
--   images_more           the images of one item more, behind what stood there
--   negative_is           0 less a polynomial
--   negatives_more, powers_more    the columns of the right sides, and those of the powers of k
--   cleared_more          one right side more
use Rattle.std.proofs.Common.{◌≡◌, ℕ, suc, ◌+◌, ◌<◌, refl, sym, ◌∙◌, ap, ap₂, subst, append_assoc, List, [], ◌∷◌, ◌++◌, map, length, take, get_or, pos, arith}
use Rattle.std.proofs.lemmas.List.{map-append, take_more, length_push}
use Rattle.sg_algebra.proofs.Solver.{by, reads}
use Rattle.sg_algebra.proofs.Rational.{whole_value}
use Rattle.sg_algebra.proofs.Shift.{moved}
use Rattle.sg_algebra.proofs.Value.{Value, ◌*ᵛ◌}
use Rattle.sg_algebra.proofs.ValueField.{ValueR}
use Rattle.sg_algebra.proofs.Polynomial.{Polynomial, PolynomialR, zero_polynomial, neg_polynomial, poly, ◌*ᵖ◌, ◌-ᵖ◌}
use Rattle.sg_first_order_theory.proofs.Next.{next, next-mul, moved-iter_next}
use Rattle.sg_first_order_theory.proofs.FirstOrder.{left}
use Rattle.sg_first_order_theory.proofs.Under.{powers, powers-more, monomial, variable}
use Rattle.sg_first_order_theory.proofs.ValueFractions.{whole}
use Rattle.sg_first_order_theory.proofs.Weighted.{Cleared}
use Rattle.sg_rational.proofs.Degrees.{map-map}

take_next : {A : Type 0} (xs : List A) (i : ℕ) (x : A) → i < length xs → x ≡ get_or xs i x → take (i + 1) xs ≡ take i xs ++ x ∷ []
take_next xs i x l e = take_more xs i x l ∙ ap (λ z. take i xs ++ z ∷ []) (sym e)

pub push_length : {A : Type 0} (xs new : List A) (x : A) (i : ℕ) → new ≡ xs ++ x ∷ [] → length xs ≡ i → length new ≡ i + 1
push_length xs new x i e h = ap length e ∙ length_push xs x ∙ ap (λ n. n + 1) h

pub images_more : {A B C : Type 0} (p : A → B) (h : C → B) (start : List B) (columns new : List A) (c : A) (xs : List C) (i : ℕ) (x : C) → i < length xs → x ≡ get_or xs i x → p c ≡ h x → new ≡ columns ++ c ∷ []
    → map p columns ≡ start ++ map h (take i xs) → map p new ≡ start ++ map h (take (i + 1) xs)
images_more p h start columns new c xs i x l e k n r =
    ap (map p) n ∙ map-append p columns (c ∷ []) ∙ ap₂ (λ y z. y ++ z ∷ []) r k ∙ append_assoc start (map h (take i xs)) (h x ∷ [])
    ∙ ap (λ z. start ++ z) (sym (ap (map h) (take_next xs i x l e) ∙ map-append h (take i xs) (x ∷ [])))

module _ {d : ℕ} where
  pub negatives_more : {A : Type 0} (p : A → Polynomial d) (start : List (Polynomial d)) (columns new : List A) (c : A) (xs : List A) (i : ℕ) (x : A) → i < length xs → x ≡ get_or xs i x → p c ≡ neg_polynomial (p x) → new ≡ columns ++ c ∷ []
      → map p columns ≡ start ++ map neg_polynomial (map p (take i xs)) → map p new ≡ start ++ map neg_polynomial (map p (take (i + 1) xs))
  negatives_more p start columns new c xs i x l e k n r =
      images_more p (λ y. neg_polynomial (p y)) start columns new c xs i x l e k n (r ∙ ap (λ z. start ++ z) (sym (map-map neg_polynomial p (take i xs)))) ∙ ap (λ z. start ++ z) (map-map neg_polynomial p (take (i + 1) xs))

  pub negative_is : (z p r : Polynomial d) → r ≡ z -ᵖ p → z ≡ zero_polynomial → r ≡ neg_polynomial p
  negative_is z p r e h = by (PolynomialR d) (z ∷ p ∷ r ∷ []) ((PolynomialR d).add_cong e h) (search reads depth 16) refl

  pub powers_more : {A : Type 0} (p : A → Polynomial d) (a b : Polynomial d) (start : List (Polynomial d)) (columns new : List A) (c : A) (j : ℕ) (y z : Polynomial d) → y ≡ monomial j → z ≡ next (monomial j) → p c ≡ a *ᵖ z -ᵖ b *ᵖ y
      → new ≡ columns ++ c ∷ [] → map p columns ≡ start ++ map (left a b) (powers j) → map p new ≡ start ++ map (left a b) (powers (j + 1))
  powers_more p a b start columns new c j y z ey ez k n r =
      ap (map p) n ∙ map-append p columns (c ∷ []) ∙ ap₂ (λ u w. u ++ w ∷ []) r (k ∙ ap₂ (λ u w. a *ᵖ w -ᵖ b *ᵖ u) ey ez) ∙ append_assoc start (map (left a b) (powers j)) (left a b (monomial j) ∷ [])
      ∙ ap (λ u. start ++ u) (sym (ap (λ i. map (left a b) (powers i)) s ∙ ap (map (left a b)) (powers-more j) ∙ map-append (left a b) (powers j) (monomial j ∷ [])))
    where
      s : j + 1 ≡ suc j
      s = omega arith

  pub power_more : (x y z : Polynomial d) (j : ℕ) → x ≡ variable → y ≡ monomial j → z ≡ x *ᵖ y → z ≡ monomial (j + 1)
  power_more x y z j e h k = k ∙ ap₂ ◌*ᵖ◌ e h ∙ ap monomial s
    where
      s : suc j ≡ j + 1
      s = omega arith

  pub next_variable : (l : List (Value d)) (y : Polynomial d) → poly l ≡ variable → y ≡ poly (moved (ValueR d) (whole_value d (pos 1)) l) → y ≡ next variable
  next_variable l y e h = h ∙ moved-iter_next 1 l ∙ ap next e

  pub next_more : (x y z : Polynomial d) (j : ℕ) → x ≡ next variable → y ≡ next (monomial j) → z ≡ x *ᵖ y → z ≡ next (monomial (j + 1))
  next_more x y z j e h k = k ∙ ap₂ ◌*ᵖ◌ e h ∙ sym (next-mul variable (monomial j)) ∙ ap (λ i. next (monomial i)) s
    where
      s : suc j ≡ j + 1
      s = omega arith

  cleared_push : (t : Polynomial d) (fs : List (Value (suc d))) (xs : List (Polynomial d)) (f : Value (suc d)) (x : Polynomial d) → whole t *ᵛ f ≡ whole x → Cleared t fs xs → Cleared t (fs ++ f ∷ []) (xs ++ x ∷ [])
  cleared_push t [] [] f x e h = (e, tt)
  cleared_push t [] (y ∷ xs) f x e h = absurd h
  cleared_push t (g ∷ fs) [] f x e h = absurd h
  cleared_push t (g ∷ fs) (y ∷ xs) f x e h = (h.0, cleared_push t fs xs f x e h.1)

  pub cleared_more : {A B : Type 0} (q : A → Value (suc d)) (p : B → Polynomial d) (t : Polynomial d) (fs : List A) (i : ℕ) (f : A) (xs new : List B) (x : B) → i < length fs → f ≡ get_or fs i f → whole t *ᵛ q f ≡ whole (p x) → new ≡ xs ++ x ∷ []
      → Cleared t (map q (take i fs)) (map p xs) → Cleared t (map q (take (i + 1) fs)) (map p new)
  cleared_more q p t fs i f xs new x l e k n r =
      subst (λ (z : List (Value (suc d))). Cleared t z (map p new)) (sym (ap (map q) (take_next fs i f l e) ∙ map-append q (take i fs) (f ∷ [])))
      (subst (λ (z : List (Polynomial d)). Cleared t (map q (take i fs) ++ q f ∷ []) z) (sym (ap (map p) n ∙ map-append p xs (x ∷ []))) (cleared_push t (map q (take i fs)) (map p xs) (q f) (p x) k r))
