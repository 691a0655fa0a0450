-- The null space of the columns of exponents: where the alphas alone have no relation, it is 0 or spanned by one vector with 1 at new; and the whole vectors in it are the multiples of
-- that vector times the least common multiple of its denominators.
--   multiples           whole vectors that are rational multiples of a vector of fractions in lowest terms are whole multiples of the primitive one
--   dot c x             the product of a row of whole numbers and a vector of whole numbers
--   Cleared, cleared    a list of fractions times a positive number is a list of whole numbers
--   one_vector, no_second    what a basis in reduced form of a null space without vectors that are 0 at n looks like
use Rattle.std.proofs.Common.{◌≡◌, ℕ, zero, suc, ◌*◌, ◌<◌, ◌≤◌, refl, sym, subst, ap, ap₂, ◌∙◌, List, [], ◌∷◌, map, length, get_or, ◌⊎◌, inl, inr, ℤ, pos, ◌+ℤ◌, ◌*ℤ◌, arith}
use Rattle.sg_algebra.specs.Coefficients.{Each}
use Rattle.sg_algebra.proofs.Solver.{by, ring, scale, reads}
use Rattle.sg_algebra.proofs.Whole.{ℤR, ℤD, readsℤ, cancelℤ, mul-oneℤ}
use Rattle.sg_algebra.proofs.Divides.{Divides}
use Rattle.sg_algebra.proofs.Coprime.{Coprime, coprime_symm, gauss}
use Rattle.sg_algebra.proofs.Value.{Value, ◌+ᵛ◌, ◌*ᵛ◌, zero_value, one_value, fraction_value}
use Rattle.sg_algebra.proofs.ValueField.{ValueR, ValueD, value_one_ne}
use Rattle.sg_algebra.proofs.Field.{product_ne}
use Rattle.sg_algebra.proofs.Rational.{fraction_value-mul, fraction_value-add, fraction_value-zero, fraction_value_same, same_fraction_value, zero_fraction_value, whole_ne}
use Rattle.sg_algebra.proofs.Polynomial.{coefficient}
use Rattle.sg_algebra.proofs.Linear.{row_times, unit, row, Form}
use Rattle.sg_algebra.proofs.Rows.{at_past}

-- ---- The primitive vector

module _ (n : ℕ) (num den e fs : ℕ → ℤ) (L fn : ℤ) (den_ne : (i : ℕ) → i ≤ n → ¬ (den i ≡ pos 0)) (lowest : (i : ℕ) → i ≤ n → Coprime ℤR (num i) (den i))
    (whole : (i : ℕ) → i ≤ n → e i *ℤ den i ≡ L *ℤ num i) (least : (m : ℤ) → ((i : ℕ) → i ≤ n → Divides ℤR (den i) m) → Divides ℤR L m)
    (along : (i : ℕ) → i ≤ n → fs i *ℤ den i ≡ fn *ℤ num i) where
  denominators : (i : ℕ) → i ≤ n → Divides ℤR (den i) fn
  denominators i l = gauss ℤR (den i) (num i) fn (coprime_symm ℤR (num i) (den i) (lowest i l))
      (record { cofactor = fs i; is = by ℤR (fn ∷ num i ∷ fs i ∷ den i ∷ []) (sym (along i l)) (search readsℤ depth 12) refl })

  pub multiples : (t : ℤ) × ((i : ℕ) → i ≤ n → fs i ≡ t *ℤ e i)
  multiples = (d.cofactor, at)
    where
      d : Divides ℤR L fn
      d = least fn denominators

      at : (i : ℕ) → i ≤ n → fs i ≡ d.cofactor *ℤ e i
      at i l = cancelℤ (den i) (fs i) (d.cofactor *ℤ e i) (den_ne i l)
          (by ℤR (fn ∷ num i ∷ fs i ∷ den i ∷ e i ∷ L ∷ d.cofactor ∷ []) (ℤR.add_cong (along i l) (ℤR.add_cong (scale ℤR (num i) d.is) (scale ℤR (ℤR.⊟ d.cofactor) (whole i l)))) (search readsℤ depth 16 fits 4000) refl)

-- ---- Clearing denominators

abbrev pub number_at : List ℤ → ℕ → ℤ
number_at xs i = get_or xs i (pos 0)

abbrev pub dot : List ℤ → (ℕ → ℤ) → ℤ
dot [] x = pos 0
dot (c ∷ cs) x = c *ℤ x 0 +ℤ dot cs (λ i. x (suc i))

abbrev pub as_value : ℤ → Value 0
as_value z = fraction_value z 1

as-mul : (x y : ℤ) → as_value (x *ℤ y) ≡ as_value x *ᵛ as_value y
as-mul x y = fraction_value-mul x y 1 1 (omega arith) (omega arith)

as-add : (x y : ℤ) → as_value (x +ℤ y) ≡ as_value x +ᵛ as_value y
as-add x y = ap₂ (λ a b. as_value (a +ℤ b)) (sym (mul-oneℤ x)) (sym (mul-oneℤ y)) ∙ fraction_value-add x y 1 1 (omega arith) (omega arith)

as_same : (x y : ℤ) → as_value x ≡ as_value y → x ≡ y
as_same x y e = sym (mul-oneℤ x) ∙ same_fraction_value x y 1 1 (omega arith) (omega arith) e ∙ mul-oneℤ y

pub dot-value : (c : List ℤ) (x : ℕ → ℤ) (M : ℤ) (f : ℕ → Value 0) → ((i : ℕ) → as_value (x i) ≡ as_value M *ᵛ f i) → as_value (dot c x) ≡ as_value M *ᵛ row_times (map as_value c) f
dot-value [] x M f h = fraction_value-zero ∙ ring (ValueR 0) (as_value M ∷ []) (search reads depth 12) refl
dot-value (c ∷ cs) x M f h = as-add (c *ℤ x 0) (dot cs (λ i. x (suc i))) ∙ ap₂ ◌+ᵛ◌ (as-mul c (x 0) ∙ ap (λ y. as_value c *ᵛ y) (h 0)) (dot-value cs (λ i. x (suc i)) M (λ i. f (suc i)) (λ i. h (suc i)))
    ∙ ring (ValueR 0) (as_value c ∷ as_value M ∷ f 0 ∷ row_times (map as_value cs) (λ i. f (suc i)) ∷ []) (search reads depth 16) refl

pub record Parts : Type 0 where
  pub upper : ℤ
  pub lower : ℕ
  pub some : 0 < lower

abbrev pub part_value : Parts → Value 0
part_value p = fraction_value p.upper p.lower

pub record Cleared (ps : List Parts) : Type 0 where
  pub M : ℤ
  pub some : ¬ (M ≡ pos 0)
  pub x : ℕ → ℤ
  pub is : (i : ℕ) → as_value (x i) ≡ as_value M *ᵛ coefficient (map part_value ps) i

clear_one : (p : Parts) (ps : List Parts) → Cleared ps → Cleared (p ∷ ps)
clear_one p ps r = record {
  M = pos p.lower *ℤ r.M;
  some = product_ne ℤD {x = pos p.lower} {y = r.M} (whole_ne p.lower p.some) r.some;
  x = x;
  is = is;
}
  where
    x : ℕ → ℤ
    x zero = r.M *ℤ p.upper
    x (suc i) = pos p.lower *ℤ r.x i

    top : as_value (pos p.lower) *ᵛ part_value p ≡ as_value p.upper
    top = sym (fraction_value-mul (pos p.lower) p.upper 1 p.lower (omega arith) p.some)
        ∙ fraction_value_same (pos p.lower *ℤ p.upper) p.upper (1 * p.lower) 1 (subst (λ (k : ℕ). 0 < k) one_times p.some) (omega arith) (cross (pos p.lower) p.upper ∙ ap (λ k. p.upper *ℤ pos k) one_times)
      where
        one_times : p.lower ≡ 1 * p.lower
        one_times = omega arith

        cross : (l u : ℤ) → (l *ℤ u) *ℤ pos 1 ≡ u *ℤ l
        cross l u = ring ℤR (l ∷ u ∷ []) (search readsℤ depth 12) refl

    is : (i : ℕ) → as_value (x i) ≡ as_value (pos p.lower *ℤ r.M) *ᵛ coefficient (map part_value (p ∷ ps)) i
    is zero = as-mul r.M p.upper ∙ ap (λ y. as_value r.M *ᵛ y) (sym top) ∙ ring (ValueR 0) (as_value r.M ∷ as_value (pos p.lower) ∷ part_value p ∷ []) (search reads depth 12) refl ∙ ap (λ y. y *ᵛ part_value p) (sym (as-mul (pos p.lower) r.M))
    is (suc i) = as-mul (pos p.lower) (r.x i) ∙ ap (λ y. as_value (pos p.lower) *ᵛ y) (r.is i)
        ∙ ring (ValueR 0) (as_value r.M ∷ as_value (pos p.lower) ∷ coefficient (map part_value ps) i ∷ []) (search reads depth 12) refl ∙ ap (λ y. y *ᵛ coefficient (map part_value ps) i) (sym (as-mul (pos p.lower) r.M))

pub cleared : (ps : List Parts) → Cleared ps
cleared [] = record { M = pos 1; some = λ e. whole_ne 1 (omega arith) e; x = λ i. pos 0; is = λ i. fraction_value-zero ∙ ring (ValueR 0) (as_value (pos 1) ∷ []) (search reads depth 12) refl }
cleared (p ∷ ps) = clear_one p ps (cleared ps)

-- a vector of fractions that each column sends to 0 and that is 0 at n is 0, where whole vectors are so
pub narrow : (cols : List (List ℤ)) (n : ℕ) → ((x : ℕ → ℤ) → Each (λ c. dot c x ≡ pos 0) cols → x n ≡ pos 0 → (i : ℕ) → i ≤ n → x i ≡ pos 0)
    → (ps : List Parts) → Each (λ c. row_times (map as_value c) (coefficient (map part_value ps)) ≡ zero_value) cols → coefficient (map part_value ps) n ≡ zero_value → (i : ℕ) → i ≤ n → coefficient (map part_value ps) i ≡ zero_value
narrow cols n whole ps h z i l = (ValueD 0).cancel_mul {c = as_value r.M} {x = coefficient (map part_value ps) i} {y = zero_value} (λ e. r.some (zero_fraction_value r.M 1 (omega arith) e)) (sym (r.is i) ∙ ap as_value (whole r.x (all cols h) (zero_at n z) i l) ∙ zero_side)
  where
    r : Cleared ps
    r = cleared ps

    zero_side : as_value (pos 0) ≡ as_value r.M *ᵛ zero_value
    zero_side = fraction_value-zero ∙ ring (ValueR 0) (as_value r.M ∷ []) (search reads depth 12) refl

    zero_at : (i : ℕ) → coefficient (map part_value ps) i ≡ zero_value → r.x i ≡ pos 0
    zero_at i z = as_same (r.x i) (pos 0) (r.is i ∙ ap (λ y. as_value r.M *ᵛ y) z ∙ sym zero_side)

    all : (cols : List (List ℤ)) → Each (λ c. row_times (map as_value c) (coefficient (map part_value ps)) ≡ zero_value) cols → Each (λ c. dot c r.x ≡ pos 0) cols
    all [] h = tt
    all (c ∷ cols) h = (as_same (dot c r.x) (pos 0) (dot-value c r.x r.M (coefficient (map part_value ps)) r.is ∙ ap (λ y. as_value r.M *ᵛ y) h.0 ∙ sym zero_side), all cols h.1)

-- ---- The basis in reduced form

module _ {K : Type 0} (v : K → Value 0) (n : ℕ) (bs : List (List K)) (form : Form v bs) (sized : (i : ℕ) → i < length bs → length (get_or bs i []) ≡ suc n)
    (zero_first : (i : ℕ) → i < length bs → row v bs i n ≡ zero_value → (k : ℕ) → k ≤ n → row v bs i k ≡ zero_value) where
  compare : (a b : ℕ) → (a ≤ b) ⊎ (b < a)
  compare a b = grind arith

  unit-own : (i : ℕ) → unit {d = 0} i i ≡ one_value
  unit-own zero = refl
  unit-own (suc i) = unit-own i

  length-map : (xs : List K) → length (map v xs) ≡ length xs
  length-map [] = refl
  length-map (x ∷ xs) = ap suc (length-map xs)

  own_within : (i : ℕ) → i < length bs → form.own i ≤ n
  own_within i l = go (compare (form.own i) n)
    where
      go : (form.own i ≤ n) ⊎ (n < form.own i) → form.own i ≤ n
      go (inl h) = h
      go (inr h) = absurd (value_one_ne 0 (sym (unit-own i) ∙ sym (form.one i i l l) ∙ at_past (map v (get_or bs i [])) (form.own i) (rw (length-map (get_or bs i [])) (rw (sized i l) h))))

  -- each basis vector has its own place at n
  own_last : (i : ℕ) → i < length bs → form.own i ≡ n
  own_last i l = go (compare n (form.own i))
    where
      go : (n ≤ form.own i) ⊎ (form.own i < n) → form.own i ≡ n
      go (inl h) = let k = own_within i l in omega arith
      go (inr h) = absurd (value_one_ne 0 (sym (unit-own i) ∙ sym (form.one i i l l) ∙ zero_first i l (form.last i l n h) (form.own i) (own_within i l)))

  pub no_second : 1 < length bs → ⊥
  no_second l = let a = own_last 0 (omega arith) in let b = own_last 1 l in let c = form.ascending 0 1 (omega arith) l in omega arith

  pub one_vector : 0 < length bs → row v bs 0 n ≡ one_value
  one_vector l = subst (λ (k : ℕ). row v bs 0 k ≡ one_value) (own_last 0 l) (form.one 0 0 l l)
