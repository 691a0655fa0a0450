-- The degree bound, in the words of clauses.
--   top_some            where two polynomials have the same coefficient at the greatest of their degrees, it isn't 0
--   bound_other, bound_same    the bound where these coefficients differ, and where they are equal
--   natural_same, same_natural    an element is a natural number exactly where it is this fraction
--   first_value         the value of the one element of a list that was probed
--   is_least            the least whole number no less than it
--   root_some, root_none    the roots of the indicial equation are those natural numbers that x is
--   no                  a test that is false isn't true
use Rattle.std.proofs.Common.{◌≡◌, ℕ, suc, ◌+◌, ◌-◌, ◌≤◌, ◌<◌, refl, sym, ◌∙◌, ap, subst, List, [], ◌∷◌, ◌⊎◌, inl, inr, map, length, get_or, max, Bool, true, false, Option, None, Some, IfSome, IfNone, ℤ, pos, ◌*ℤ◌, ◌+ℤ◌, ◌≤ℤ◌, ◌<ℤ◌, arith}
use Rattle.sg_algebra.proofs.Ring.{nat}
use Rattle.sg_algebra.proofs.Solver.{ring, reads}
use Rattle.sg_algebra.proofs.Lists.{length_map}
use Rattle.sg_algebra.proofs.Rows.{last_nonzero, row_zero}
use Rattle.sg_algebra.proofs.NullSpace.{table_at}
use Rattle.sg_algebra.proofs.Place.{Pairwise, HasValue}
use Rattle.sg_algebra.proofs.Value.{Value, zero_value}
use Rattle.sg_algebra.proofs.ValueField.{ValueR, value_quotient}
use Rattle.sg_algebra.proofs.Embedding.{numeral_ne}
use Rattle.sg_algebra.proofs.Rational.{rational_value}
use Rattle.sg_algebra.proofs.Polynomial.{poly, coefficient, zero_polynomial, EndsNonzero}
use Rattle.sg_spec.specs.Fraction.{Fraction, whole}
use Rattle.sg_num.specs.Value.{fraction, number}
use Rattle.sg_num.specs.declared.rat.Rat.{Rat}
use Rattle.sg_poly.specs.Polynomials.{polynomial}
use Rattle.sg_first_order_theory.proofs.Bounds.{indicial}
use Rattle.sg_first_order_theory.proofs.Basis.{IsBound}
use Rattle.sg_first_order_theory.proofs.Naturals.{number_is, ceiling_is, numeral_same}
use Rattle.sg_first_order_theory.proofs.Bounded.{bounded_first, bounded_second}

side : (k n : ℕ) → (k < n) ⊎ (n ≤ k)
side k n = grind arith

pub map-map : {A B C : Type 0} (f : B → C) (g : A → B) (xs : List A) → map (λ x. f (g x)) xs ≡ map f (map g xs)
map-map f g [] = refl
map-map f g (x ∷ xs) = ap (λ z. f (g x) ∷ z) (map-map f g xs)

module _ {K : Type 0} {d : ℕ} (v : K → Value d) where
  pub top_some : (a b : List K) (m : ℕ) → EndsNonzero (map v a) → EndsNonzero (map v b) → ¬ (polynomial v a ≡ zero_polynomial) → m ≡ max (length a) (length b) - 1
      → coefficient (map v a) m ≡ coefficient (map v b) m → ¬ (coefficient (map v a) m ≡ zero_value)
  top_some a b m ea eb some e same z = go (side (length a) (length b))
    where
      go : (length a < length b) ⊎ (length b ≤ length a) → ⊥
      go (inr l) = let s : m ≡ length a - 1 = omega arith in last_nonzero v a ea some (ap (coefficient (map v a)) (sym s) ∙ z)
      go (inl l) = let s : m ≡ length b - 1 = omega arith in last_nonzero v b eb (λ n. let k : length b ≡ 0 = row_zero v b eb n in absurd (omega arith)) (ap (coefficient (map v b)) (sym s) ∙ sym same ∙ z)

  module _ (m c u : ℕ) (a b : List K) (sides : List (List K)) (short_a : length a ≤ suc m) (short_b : length b ≤ suc m) (short : (i : ℕ) → i < length sides → length (get_or sides i []) ≤ c) where
    shorter : (i : ℕ) → i < length (map (map v) sides) → length (get_or (map (map v) sides) i []) ≤ c
    shorter i l = rw (table_at v sides i, length_map v (get_or sides i [])) (short i (omega (arith, length_map (map v) sides)))

    a_short : length (map v a) ≤ suc m
    a_short = omega (arith, length_map v a)

    b_short : length (map v b) ≤ suc m
    b_short = omega (arith, length_map v b)

    pub bound_other : ¬ (coefficient (map v a) m ≡ coefficient (map v b) m) → c ≤ m + u → IsBound u (polynomial v a) (polynomial v b) (map (polynomial v) sides)
    bound_other ne l = rw (map-map poly (map v) sides) (bounded_first m (map v a) (map v b) a_short b_short c u (map (map v) sides) shorter ne l)

    pub bound_same : coefficient (map v a) m ≡ coefficient (map v b) m → suc c ≤ m + u → ((n : ℕ) → indicial (ValueR d) m (map v a) (map v b) n ≡ zero_value → n < u) → IsBound u (polynomial v a) (polynomial v b) (map (polynomial v) sides)
    bound_same same l roots = rw (map-map poly (map v) sides) (bounded_second m (map v a) (map v b) a_short b_short c u (map (map v) sides) shorter same l roots)

  pub first_value : (args : List ℤ) (list : List K) (values : List Rat) (x : K) (q : Rat) → list ≡ x ∷ [] → Pairwise (λ x r. HasValue d (v x) args (number r)) list values → q ≡ get_or values 0 q → HasValue d (v x) args (number q)
  first_value args list values x q e h r = go values (subst (λ (l : List K). Pairwise (λ x r. HasValue d (v x) args (number r)) l values) e h) r
    where
      go : (values : List Rat) → Pairwise (λ x r. HasValue d (v x) args (number r)) (x ∷ []) values → q ≡ get_or values 0 q → HasValue d (v x) args (number q)
      go [] h r = absurd h
      go (y ∷ ys) h r = subst (λ (z : Rat). HasValue d (v x) args (number z)) (sym r) h.0

  pub one_value_each : (args : List ℤ) (list : List K) (values : List Rat) (x : K) → list ≡ x ∷ [] → Pairwise (λ x r. HasValue d (v x) args (number r)) list values → 0 < length values
  one_value_each args list values x e h = go values (subst (λ (l : List K). Pairwise (λ x r. HasValue d (v x) args (number r)) l values) e h)
    where
      go : (values : List Rat) → Pairwise (λ x r. HasValue d (v x) args (number r)) (x ∷ []) values → 0 < length values
      go [] h = absurd h
      go (y ∷ ys) h = omega arith

  pub is_least : (args : List ℤ) (x : K) (q : Rat) (c : ℤ) → HasValue d (v x) args (number q) → (fraction q).num ≤ℤ (c *ℤ pos (fraction q).den) → (c *ℤ pos (fraction q).den) <ℤ ((fraction q).num +ℤ pos (fraction q).den)
      → (n : ℕ) → v x ≡ nat (ValueR d) n → c ≡ pos n
  is_least args x q c h low least n e = ceiling_is c (fraction q).num (fraction q).den n low least (number_is d args (v x) (number q) h n e)

module _ (d : ℕ) where
  rational-whole : (n : ℕ) → rational_value d (pos n) 1 ≡ nat (ValueR d) n
  rational-whole n = sym (value_quotient (nat (ValueR d) n) (nat (ValueR d) 1) (nat (ValueR d) n) (numeral_ne d 1 (omega arith)) (ring (ValueR d) (nat (ValueR d) n ∷ []) (search reads depth 16) refl))

  pub rational_natural : (c : ℤ) (n : ℕ) (f : Fraction) → f ≡ whole c → c ≡ pos n → rational_value d f.num f.den ≡ nat (ValueR d) n
  rational_natural c n f e k = ap (λ (g : Fraction). rational_value d g.num g.den) e ∙ ap (λ z. rational_value d z 1) k ∙ rational-whole n

pub no : (b : Bool) → b ≡ false → ¬ (b ≡ true)
no b e t = absurd (true_false (sym t ∙ e))
  where
    true_false : true ≡ false → ⊥
    true_false h = cc

module _ {d : ℕ} (x : Value d) (P : ℕ → Type 0) (is : (k : ℕ) → P k → x ≡ nat (ValueR d) k) where
  pub root_some : (o : Option ℕ) → IfSome o (λ n. x ≡ nat (ValueR d) n) → IfSome o (λ n. (k : ℕ) → P k → k ≡ n)
  root_some None h = tt
  root_some (Some n) h = λ k z. numeral_same d k n (sym (is k z) ∙ h)

  pub root_none : (o : Option ℕ) → IfNone o ((n : ℕ) → ¬ (x ≡ nat (ValueR d) n)) → IfNone o ((k : ℕ) → ¬ (P k))
  root_none None h = λ k z. h k (is k z)
  root_none (Some n) h = tt
