-- A combination of an expression at n, n + 1, .. as an expression.
--   combined cs i f       c_0 f(n + i) + c_1 f(n + i + 1) + ..
--   combined-is           where the coefficients are polynomials in the parameter, it has the value of the combination
use Rattle.std.proofs.Common.{◌≡◌, ℕ, zero, suc, ℤ, pos, ◌+ℤ◌, ◌*ℤ◌, refl, sym, ap, ap₂, ◌∙◌, List, [], ◌∷◌, true≢false, IsTrue, Option, Some, arith}
use Rattle.std.proofs.lemmas.Int.{ints}
use Rattle.sg_algebra.specs.Coefficients.{Each}
use Rattle.sg_spec.specs.Fraction.{Fraction, whole, plus}
use Rattle.sg_spec.specs.Tree.{Tree, numeral, here, param, add, neg, mul, div, power, sum_from, prod_from}
use Rattle.sg_spec.specs.Shape.{is_constant_tree}
use Rattle.sg_spec.specs.Value.{val, both, sum_of, product_of, quotient_of, opposite_of, power_of, folded, how_many}
use Rattle.sg_spec.specs.Parameter.{param_plus, substituted}
use Rattle.sg_answers_theory.proofs.ElementsOver.{both_true}
use Rattle.sg_answers_theory.proofs.Combinations.{combination}

abbrev pub combined : List Tree → ℕ → Tree → Tree
combined [] i f = numeral (pos 0)
combined (c ∷ cs) i f = add (mul c (substituted i f)) (combined cs (suc i) f)

pub folded-same : (f : Fraction → Fraction → Option Fraction) (x : Fraction) (s t : ℤ → Option Fraction) (from : ℤ) (n : ℕ) → ((k : ℤ) → s k ≡ t k)
    → folded f x s from n ≡ folded f x t from n
folded-same f x s t from zero h = refl
folded-same f x s t from (suc n) h =
    ap (λ a. both f a (s (from +ℤ pos n))) (folded-same f x s t from n h) ∙ ap (λ b. both f (folded f x t from n) b) (h (from +ℤ pos n))

whole-plus : (a b : ℤ) → plus (whole a) (whole b) ≡ whole (a +ℤ b)
whole-plus a b =
    let e : a *ℤ pos 1 +ℤ b *ℤ pos 1 ≡ a +ℤ b = omega (arith, ints) in
    ap (λ (z : ℤ). whole z) e

val-param_plus : (i : ℕ) (n k : ℤ) → val (param_plus i) n k ≡ val param (n +ℤ pos i) k
val-param_plus zero n k =
    let e : n ≡ n +ℤ pos 0 = omega (arith, ints) in
    ap (λ (z : ℤ). Some (whole z)) e
val-param_plus (suc i) n k = ap (λ x. Some x) (whole-plus n (pos (suc i)))

pub val-substituted : (i : ℕ) (e : Tree) (n k : ℤ) → val (substituted i e) n k ≡ val e (n +ℤ pos i) k
val-substituted i (numeral c) n k = refl
val-substituted i here n k = refl
val-substituted i param n k = val-param_plus i n k
val-substituted i (add x y) n k = ap (λ a. both sum_of a (val (substituted i y) n k)) (val-substituted i x n k) ∙ ap (λ b. both sum_of (val x (n +ℤ pos i) k) b) (val-substituted i y n k)
val-substituted i (neg x) n k = ap opposite_of (val-substituted i x n k)
val-substituted i (mul x y) n k = ap (λ a. both product_of a (val (substituted i y) n k)) (val-substituted i x n k) ∙ ap (λ b. both product_of (val x (n +ℤ pos i) k) b) (val-substituted i y n k)
val-substituted i (div x y) n k = ap (λ a. both quotient_of a (val (substituted i y) n k)) (val-substituted i x n k) ∙ ap (λ b. both quotient_of (val x (n +ℤ pos i) k) b) (val-substituted i y n k)
val-substituted i (power x e) n k = ap (λ a. power_of a e) (val-substituted i x n k)
val-substituted i (sum_from from body) n k = folded-same sum_of (whole (pos 0)) (val (substituted i body) n) (val body (n +ℤ pos i)) from (how_many from k) (λ j. val-substituted i body n j)
val-substituted i (prod_from from body) n k = folded-same product_of (whole (pos 1)) (val (substituted i body) n) (val body (n +ℤ pos i)) from (how_many from k) (λ j. val-substituted i body n j)

-- ---- Coefficients

val-constant : (c : Tree) → IsTrue (is_constant_tree c) → (n k : ℤ) → val c n k ≡ val c n (pos 0)
val-constant (numeral c) h n k = refl
val-constant here h n k = absurd (true≢false (sym h))
val-constant param h n k = refl
val-constant (add x y) h n k = let r = both_true (is_constant_tree x) (is_constant_tree y) h in ap₂ (both sum_of) (val-constant x r.0 n k) (val-constant y r.1 n k)
val-constant (neg x) h n k = ap opposite_of (val-constant x h n k)
val-constant (mul x y) h n k = let r = both_true (is_constant_tree x) (is_constant_tree y) h in ap₂ (both product_of) (val-constant x r.0 n k) (val-constant y r.1 n k)
val-constant (div x y) h n k = absurd (true≢false (sym h))
val-constant (power x e) h n k = ap (λ a. power_of a e) (val-constant x h n k)
val-constant (sum_from a b) h n k = absurd (true≢false (sym h))
val-constant (prod_from a b) h n k = absurd (true≢false (sym h))

pub combined-is : (cs : List Tree) → Each (λ c. IsTrue (is_constant_tree c)) cs → (i : ℕ) (f : Tree) (n k : ℤ)
    → val (combined cs i f) n k ≡ combination cs i f n k
combined-is [] h i f n k = refl
combined-is (c ∷ cs) h i f n k = ap₂ (both sum_of) (ap₂ (both product_of) (val-constant c h.0 n k) (val-substituted i f n k)) (combined-is cs h.1 (suc i) f n k)
