-- The signs of products of powers of fractions.
--   sign_kept, sign_turned     a product by a factor above or below 0
--   sign_above, sign_below     a power of a fraction above or below 0
--   powers-more                a product of powers, one factor further
--   sign_is                    of 1 and -1, that is -1 which is below 0
use Rattle.std.proofs.Common.{◌≡◌, ℕ, zero, suc, ◌+◌, ◌*◌, ◌<◌, ◌%◌, refl, sym, subst, ap, ap₂, ◌∙◌, List, [], ◌∷◌, map, length, take, get_or, All, Bool, true, false, not, nat_eq, IsTrue, inl, inr, ◌↔◌, ℤ, pos, negsuc, ◌+ℤ◌, ◌*ℤ◌, ◌<ℤ◌, ◌≤ℤ◌, unsigned_abs, arith}
use Rattle.std.proofs.lemmas.Int.{ints}
use Rattle.sg_algebra.proofs.Ring.{pow}
use Rattle.sg_algebra.proofs.Field.{inv_is}
use Rattle.sg_algebra.proofs.Solver.{ring, reads}
use Rattle.sg_algebra.proofs.Value.{Value, ◌*ᵛ◌, neg_value, inv_value, one_value, zero_value, fraction_value}
use Rattle.sg_algebra.proofs.ValueField.{ValueR, ValueF}
use Rattle.sg_algebra.proofs.Rational.{fraction_value-mul, fraction_value-neg, fraction_value_same, same_fraction_value, zero_fraction_value, fraction_value_zero, fraction_value-one}
use Rattle.sg_num.specs.Value.{number}
use Rattle.sg_num.specs.declared.rat.Rat.{Rat}
use Rattle.sg_tower_theory.specs.Powers.{power, powers}
use Rattle.sg_relations_theory.specs.Relations.{IsSign}
use Rattle.sg_relations_theory.proofs.PowerLaws.{Some, power-add, power-mul}
use Rattle.sg_relations_theory.proofs.Multiples.{Parity, even, odd, parity}
use Rattle.sg_relations.specs.Signs.{IsAbove, HasSign}

-- ---- What is above 0

above_one : IsAbove one_value
above_one = record { upper = 1; lower = 1; upper_some = omega arith; lower_some = omega arith; is = sym fraction_value-one }

above_some : (x : Value 0) → IsAbove x → Some (ValueF 0) x
above_some x a e = go a.upper a.upper_some (zero_fraction_value (pos a.upper) a.lower a.lower_some (sym a.is ∙ e))
  where
    go : (n : ℕ) → 0 < n → pos n ≡ pos 0 → ⊥
    go n l e = omega (arith, ints)

product_some : (a b : ℕ) → 0 < a → 0 < b → 0 < a * b
product_some zero b l k = absurd (omega arith)
product_some (suc a) zero l k = absurd (omega arith)
product_some (suc a) (suc b) l k = grind arith

above_product : (x y : Value 0) → IsAbove x → IsAbove y → IsAbove (x *ᵛ y)
above_product x y a b = record {
  upper = a.upper * b.upper;
  lower = a.lower * b.lower;
  upper_some = product_some a.upper b.upper a.upper_some b.upper_some;
  lower_some = product_some a.lower b.lower a.lower_some b.lower_some;
  is = ap₂ (λ (s t : Value 0). s *ᵛ t) a.is b.is ∙ sym (fraction_value-mul (pos a.upper) (pos b.upper) a.lower b.lower a.lower_some b.lower_some);
}

above_inverse : (x : Value 0) → IsAbove x → IsAbove (inv_value x)
above_inverse x a = record {
  upper = a.lower;
  lower = a.upper;
  upper_some = a.lower_some;
  lower_some = a.upper_some;
  is = sym (inv_is (ValueF 0) x (fraction_value (pos a.lower) a.upper) (above_some x a) (ap (λ (y : Value 0). y *ᵛ fraction_value (pos a.lower) a.upper) a.is
      ∙ sym (fraction_value-mul (pos a.upper) (pos a.lower) a.lower a.upper a.lower_some a.upper_some)
      ∙ fraction_value_same (pos a.upper *ℤ pos a.lower) (pos 1) (a.lower * a.upper) 1 (product_some a.lower a.upper a.lower_some a.upper_some) (omega arith) (crossed a.upper a.lower) ∙ fraction_value-one));
}
  where
    crossed : (u l : ℕ) → (pos u *ℤ pos l) *ℤ pos 1 ≡ pos 1 *ℤ pos (l * u)
    crossed u l = ap pos (same u l)
      where
        same : (u l : ℕ) → (u * l) * 1 ≡ 1 * (l * u)
        same u l = grind arith

above_pow : (x : Value 0) (n : ℕ) → IsAbove x → IsAbove (pow (ValueR 0) x n)
above_pow x zero a = above_one
above_pow x (suc n) a = above_product (pow (ValueR 0) x n) x (above_pow x n a) a

above_power : (x : Value 0) (e : ℤ) → IsAbove x → IsAbove (power (ValueF 0) x e)
above_power x (pos n) a = above_pow x n a
above_power x (negsuc n) a = above_pow (inv_value x) (suc n) (above_inverse x a)

-- ---- Signs of products

pub sign_kept : (b : Bool) (x y : Value 0) → HasSign b x → HasSign false y → HasSign b (x *ᵛ y)
sign_kept true x y a c = subst IsAbove (ring (ValueR 0) (x ∷ y ∷ []) (search reads depth 12) refl) (above_product (neg_value x) y a c)
sign_kept false x y a c = above_product x y a c

pub sign_turned : (b : Bool) (x y : Value 0) → HasSign b x → HasSign true y → HasSign (not b) (x *ᵛ y)
sign_turned true x y a c = subst IsAbove (ring (ValueR 0) (x ∷ y ∷ []) (search reads depth 12) refl) (above_product (neg_value x) (neg_value y) a c)
sign_turned false x y a c = subst IsAbove (ring (ValueR 0) (x ∷ y ∷ []) (search reads depth 12) refl) (above_product x (neg_value y) a c)

-- ---- Signs of powers

below_some : (x : Value 0) → IsAbove (neg_value x) → Some (ValueF 0) x
below_some x a e = above_some (neg_value x) a (ap neg_value e ∙ ring (ValueR 0) [] (search reads depth 12) refl)

some_sign : (b : Bool) (x : Value 0) → HasSign b x → Some (ValueF 0) x
some_sign true x a = below_some x a
some_sign false x a = above_some x a

square : (b : Bool) (x : Value 0) → HasSign b x → IsAbove (power (ValueF 0) x (pos 2))
square true x a = subst IsAbove (ring (ValueR 0) (x ∷ []) (search reads depth 12) refl) (above_product (neg_value x) (neg_value x) a a)
square false x a = above_power x (pos 2) a

twice : (b : Bool) (x : Value 0) (s : ℤ) → HasSign b x → IsAbove (power (ValueF 0) x (s *ℤ pos 2))
twice b x s a = subst IsAbove (sym (power-mul (ValueF 0) x (pos 2) s (some_sign b x a))) (above_power (power (ValueF 0) x (pos 2)) s (square b x a))

twice_more : (b : Bool) (x : Value 0) (s : ℤ) → HasSign b x → HasSign b (power (ValueF 0) x (s *ℤ pos 2 +ℤ pos 1))
twice_more b x s a = subst (HasSign b) (ring (ValueR 0) (x ∷ power (ValueF 0) x (s *ℤ pos 2) ∷ []) (search reads depth 12) refl ∙ sym (power-add (ValueF 0) x (s *ℤ pos 2) (pos 1) (some_sign b x a)))
    (sign_kept b x (power (ValueF 0) x (s *ℤ pos 2)) a (twice b x s a))

number_above : (r : Rat) → ¬ (r.num ≡ pos 0) → pos 0 ≤ℤ r.num → IsAbove (number r)
number_above r some l = go r.num (unsigned_abs r.den) (size r.den r.positive) some l
  where
    size : (d : ℤ) → pos 0 <ℤ d → 0 < unsigned_abs d
    size d h = grind (arith, ints)

    go : (n : ℤ) (d : ℕ) → 0 < d → ¬ (n ≡ pos 0) → pos 0 ≤ℤ n → IsAbove (fraction_value n d)
    go (pos zero) d l some k = absurd (some refl)
    go (pos (suc n)) d l some k = record { upper = suc n; lower = d; upper_some = omega arith; lower_some = l; is = refl }
    go (negsuc n) d l some k = absurd (omega (arith, ints))

number_below : (r : Rat) → r.num <ℤ pos 0 → IsAbove (neg_value (number r))
number_below r l = go r.num (unsigned_abs r.den) (size r.den r.positive) l
  where
    size : (d : ℤ) → pos 0 <ℤ d → 0 < unsigned_abs d
    size d h = grind (arith, ints)

    go : (n : ℤ) (d : ℕ) → 0 < d → n <ℤ pos 0 → IsAbove (neg_value (fraction_value n d))
    go (pos n) d l k = absurd (omega (arith, ints))
    go (negsuc n) d l k = record { upper = suc n; lower = d; upper_some = omega arith; lower_some = l; is = sym (fraction_value-neg (negsuc n) d l) }

pub sign_above : (r : Rat) (e : ℤ) → ¬ (r.num ≡ pos 0) → ¬ (r.num <ℤ pos 0) → HasSign false (power (ValueF 0) (number r) e)
sign_above r e some l = above_power (number r) e (number_above r some (turned r.num l))
  where
    turned : (n : ℤ) → ¬ (n <ℤ pos 0) → pos 0 ≤ℤ n
    turned (pos n) l = omega (arith, ints)
    turned (negsuc n) l = absurd (l (omega (arith, ints)))

pub sign_below : (r : Rat) (e : ℤ) → r.num <ℤ pos 0 → HasSign (nat_eq (unsigned_abs e % 2) 1) (power (ValueF 0) (number r) e)
sign_below r e l = go (parity e)
  where
    rest_even : (e s : ℤ) → e ≡ s *ℤ pos 2 → unsigned_abs e % 2 ≡ 0
    rest_even (pos n) s q = omega (arith, ints)
    rest_even (negsuc n) s q = omega (arith, ints)

    rest_odd : (e s : ℤ) → e ≡ s *ℤ pos 2 +ℤ pos 1 → unsigned_abs e % 2 ≡ 1
    rest_odd (pos n) s q = omega (arith, ints)
    rest_odd (negsuc n) s q = omega (arith, ints)

    go : Parity e → HasSign (nat_eq (unsigned_abs e % 2) 1) (power (ValueF 0) (number r) e)
    go (even s q) = subst (λ (n : ℕ). HasSign (nat_eq n 1) (power (ValueF 0) (number r) e)) (sym (rest_even e s q))
        (subst (λ (z : ℤ). IsAbove (power (ValueF 0) (number r) z)) (sym q) (twice true (number r) s (number_below r l)))
    go (odd s q) = subst (λ (n : ℕ). HasSign (nat_eq n 1) (power (ValueF 0) (number r) e)) (sym (rest_odd e s q))
        (subst (λ (z : ℤ). IsAbove (neg_value (power (ValueF 0) (number r) z))) (sym q) (twice_more true (number r) s (number_below r l)))

-- ---- Products of powers

powers_next : (xs : List Rat) (es : List ℤ) (i : ℕ) (x : Rat) (e : ℤ) → i < length xs → i < length es
    → powers (ValueF 0) (map number (take (suc i) xs)) (take (suc i) es) ≡ powers (ValueF 0) (map number (take i xs)) (take i es) *ᵛ power (ValueF 0) (number (get_or xs i x)) (get_or es i e)
powers_next [] es i x e l k = absurd (omega arith)
powers_next (y ∷ xs) [] i x e l k = absurd (omega arith)
powers_next (y ∷ xs) (f ∷ es) zero x e l k = ring (ValueR 0) (power (ValueF 0) (number y) f ∷ []) (search reads depth 12) refl
powers_next (y ∷ xs) (f ∷ es) (suc i) x e l k = ap (λ (z : Value 0). power (ValueF 0) (number y) f *ᵛ z) (powers_next xs es i x e (omega arith) (omega arith))
    ∙ ring (ValueR 0) (power (ValueF 0) (number y) f ∷ powers (ValueF 0) (map number (take i xs)) (take i es) ∷ power (ValueF 0) (number (get_or xs i x)) (get_or es i e) ∷ []) (search reads depth 12) refl

pub powers-more : (xs : List Rat) (es : List ℤ) (i : ℕ) (x : Rat) (e : ℤ) → i < length xs → i < length es
    → powers (ValueF 0) (map number (take (i + 1) xs)) (take (i + 1) es) ≡ powers (ValueF 0) (map number (take i xs)) (take i es) *ᵛ power (ValueF 0) (number (get_or xs i x)) (get_or es i e)
powers-more xs es i x e l k = let q : i + 1 ≡ suc i = omega arith in rw q (powers_next xs es i x e l k)

pub sign_none : (xs : List Rat) (es : List ℤ) → HasSign false (powers (ValueF 0) (map number (take 0 xs)) (take 0 es))
sign_none xs es = above_one

module _ (list : List Rat) (exps : List ℤ) (i : ℕ) (b t : Bool) (inside : i < length list) (sized : length exps ≡ length list) (r : Rat) (is : r ≡ get_or list i r) (h : HasSign b (powers (ValueF 0) (map number (take i list)) (take i exps))) where
  more : HasSign t (powers (ValueF 0) (map number (take i list)) (take i exps) *ᵛ power (ValueF 0) (number r) (get_or exps i (pos 0))) → HasSign t (powers (ValueF 0) (map number (take (i + 1) list)) (take (i + 1) exps))
  more k = subst (HasSign t) (ap (λ (y : Rat). powers (ValueF 0) (map number (take i list)) (take i exps) *ᵛ power (ValueF 0) (number y) (get_or exps i (pos 0))) is ∙ sym (powers-more list exps i r (pos 0) inside (omega (arith, sized)))) k

  pub sign_step_turned : HasSign true (power (ValueF 0) (number r) (get_or exps i (pos 0))) → t ≡ not b → HasSign t (powers (ValueF 0) (map number (take (i + 1) list)) (take (i + 1) exps))
  sign_step_turned k e = more (subst (λ (c : Bool). HasSign c (powers (ValueF 0) (map number (take i list)) (take i exps) *ᵛ power (ValueF 0) (number r) (get_or exps i (pos 0)))) (sym e)
      (sign_turned b (powers (ValueF 0) (map number (take i list)) (take i exps)) (power (ValueF 0) (number r) (get_or exps i (pos 0))) h k))

  pub sign_step_kept : HasSign false (power (ValueF 0) (number r) (get_or exps i (pos 0))) → t ≡ b → HasSign t (powers (ValueF 0) (map number (take (i + 1) list)) (take (i + 1) exps))
  sign_step_kept k e = more (subst (λ (c : Bool). HasSign c (powers (ValueF 0) (map number (take i list)) (take i exps) *ᵛ power (ValueF 0) (number r) (get_or exps i (pos 0)))) (sym e)
      (sign_kept b (powers (ValueF 0) (map number (take i list)) (take i exps)) (power (ValueF 0) (number r) (get_or exps i (pos 0))) h k))

-- ---- 1 and -1

not_above : ¬ IsAbove (neg_value one_value)
not_above a = go a.upper a.lower a.lower_some (same_fraction_value (negsuc 0) (pos a.upper) 1 a.lower (omega arith) a.lower_some (fraction_value-neg (pos 1) 1 (omega arith) ∙ ap neg_value fraction_value-one ∙ a.is))
  where
    go : (u l : ℕ) → 0 < l → negsuc 0 *ℤ pos l ≡ pos u *ℤ pos 1 → ⊥
    go u l h e = omega (arith, ints)

never : IsTrue false → ⊥
never t = cc

pub sign_is : (b : Bool) (x : Value 0) → HasSign b x → IsSign x → IsTrue b ↔ (x ≡ neg_value one_value)
sign_is true x a (inl e) = absurd (not_above (subst (λ (y : Value 0). IsAbove (neg_value y)) e a))
sign_is true x a (inr e) = (λ t. e, λ q. refl)
sign_is false x a (inl e) = (λ t. absurd (never t), λ q. absurd (not_above (subst IsAbove q a)))
sign_is false x a (inr e) = absurd (not_above (subst IsAbove e a))

pub number_some : (r : Rat) → ¬ (number r ≡ zero_value) → ¬ (r.num ≡ pos 0)
number_some r h e = h (fraction_value_zero r.num (unsigned_abs r.den) (size r.den r.positive) e)
  where
    size : (d : ℤ) → pos 0 <ℤ d → 0 < unsigned_abs d
    size d h = grind (arith, ints)

pub numbers_some : (xs : List Rat) → All (λ x. ¬ (number x ≡ zero_value)) xs → All (λ r. ¬ (r.num ≡ pos 0)) xs
numbers_some xs h k d l = number_some (get_or xs k d) (h k d l)
