-- The value of an expression whose parameter is moved on.
--   folded-same        folds of terms that agree are equal
--   val-substituted    its value at n is that of the expression at n + i
use Rattle.std.proofs.Common.{◌≡◌, refl, ap, ◌∙◌, ℕ, zero, suc, ℤ, pos, ◌+ℤ◌, ◌*ℤ◌, Option, Some, arith}
use Rattle.std.proofs.lemmas.Int.{ints}
use Rattle.sg_spec.specs.Fraction.{Fraction, whole, plus}
use Rattle.sg_spec.specs.Tree.{Tree, numeral, here, param, add, neg, mul, div, power, sum_from, prod_from}
use Rattle.sg_spec.specs.Value.{val, both, folded, sum_of, product_of, quotient_of, opposite_of, power_of, how_many}
use Rattle.sg_spec.specs.Parameter.{param_plus, substituted}

pub folded-same : (f : Fraction → Fraction → Option Fraction) (x : Fraction) (s t : ℤ → Option Fraction) (from : ℤ) (n : ℕ) → ((k : ℤ) → s k ≡ t k) → folded f x s from n ≡ folded f x t from n
folded-same f x s t from zero h = refl
folded-same f x s t from (suc n) h =
    ap (λ a. both f a (s (from +ℤ pos n))) (folded-same f x s t from n h) ∙ ap (λ b. both f (folded f x t from n) b) (h (from +ℤ pos n))

whole-plus : (a b : ℤ) → plus (whole a) (whole b) ≡ whole (a +ℤ b)
whole-plus a b =
    let e : a *ℤ pos 1 +ℤ b *ℤ pos 1 ≡ a +ℤ b = omega (arith, ints) in
    ap (λ (z : ℤ). whole z) e

val-param_plus : (i : ℕ) (n k : ℤ) → val (param_plus i) n k ≡ val param (n +ℤ pos i) k
val-param_plus zero n k =
    let e : n ≡ n +ℤ pos 0 = omega (arith, ints) in
    ap (λ (z : ℤ). Some (whole z)) e
val-param_plus (suc i) n k = ap (λ x. Some x) (whole-plus n (pos (suc i)))

pub val-substituted : (i : ℕ) (e : Tree) (n k : ℤ) → val (substituted i e) n k ≡ val e (n +ℤ pos i) k
val-substituted i (numeral c) n k = refl
val-substituted i here n k = refl
val-substituted i param n k = val-param_plus i n k
val-substituted i (add x y) n k = ap (λ a. both sum_of a (val (substituted i y) n k)) (val-substituted i x n k) ∙ ap (λ b. both sum_of (val x (n +ℤ pos i) k) b) (val-substituted i y n k)
val-substituted i (neg x) n k = ap opposite_of (val-substituted i x n k)
val-substituted i (mul x y) n k = ap (λ a. both product_of a (val (substituted i y) n k)) (val-substituted i x n k) ∙ ap (λ b. both product_of (val x (n +ℤ pos i) k) b) (val-substituted i y n k)
val-substituted i (div x y) n k = ap (λ a. both quotient_of a (val (substituted i y) n k)) (val-substituted i x n k) ∙ ap (λ b. both quotient_of (val x (n +ℤ pos i) k) b) (val-substituted i y n k)
val-substituted i (power x e) n k = ap (λ a. power_of a e) (val-substituted i x n k)
val-substituted i (sum_from from body) n k = folded-same sum_of (whole (pos 0)) (val (substituted i body) n) (val body (n +ℤ pos i)) from (how_many from k) (λ j. val-substituted i body n j)
val-substituted i (prod_from from body) n k = folded-same product_of (whole (pos 1)) (val (substituted i body) n) (val body (n +ℤ pos i)) from (how_many from k) (λ j. val-substituted i body n j)
