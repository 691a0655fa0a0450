-- Whole numbers among the fractions.
--   whole_value-neg, -sub, -pow    opposites, differences and powers
--   falling-whole                  the value of whole coefficients at a whole number
--   worth-whole_at                 the value of a plain polynomial at a whole number
use Rattle.std.proofs.Common.{◌≡◌, ℕ, zero, suc, ℤ, pos, ◌+ℤ◌, ◌-ℤ◌, ◌*ℤ◌, neg_ℤ, List, [], ◌∷◌, length, ◌∙◌, ap, ap₂, sym, refl, arith}
use Rattle.sg_algebra.proofs.Rational.{fraction_value-neg, fraction_value-whole, whole_value}
use Rattle.sg_algebra.proofs.Ring.{pow}
use Rattle.sg_algebra.proofs.Solver.{ring, reads}
use Rattle.sg_algebra.proofs.Value.{◌+ᵛ◌, ◌-ᵛ◌, ◌*ᵛ◌, neg_value}
use Rattle.sg_algebra.proofs.ValueField.{ValueR}
use Rattle.sg_algebra.proofs.Whole.{ℤR}
use Rattle.sg_num.proofs.WholeSteps.{whole_value-add, whole_value-mul}
use Rattle.sg_spec.specs.Polynomials.{IsPolynomial}
use Rattle.sg_spec.specs.Tree.{Tree, numeral, here, param, add, neg, mul, div, power, sum_from, prod_from}
use Rattle.sg_spec.specs.Value.{val}
use Rattle.sg_spec.proofs.Values.{val-proper}
use Rattle.sg_spec.proofs.Worth.{Worth, worth_cong, worth-sum, worth-product, worth-opposite, worth-power, worth-whole}
use Rattle.sg_plain.specs.Lowest.{falling_at}
use Rattle.sg_plain.specs.Plain.{whole_at}
use Rattle.sg_plain.specs.Terms.{falling_value}

pub whole_value-neg : (n : ℤ) → whole_value 0 (neg_ℤ n) ≡ neg_value (whole_value 0 n)
whole_value-neg n = sym (fraction_value-whole (neg_ℤ n)) ∙ fraction_value-neg n 1 (omega arith) ∙ ap neg_value (fraction_value-whole n)

pub whole_value-sub : (a b : ℤ) → whole_value 0 (a -ℤ b) ≡ whole_value 0 a -ᵛ whole_value 0 b
whole_value-sub a b = whole_value-add a (neg_ℤ b) ∙ ap (λ v. whole_value 0 a +ᵛ v) (whole_value-neg b)

pub whole_value-pow : (k : ℤ) (n : ℕ) → whole_value 0 (pow ℤR k n) ≡ pow (ValueR 0) (whole_value 0 k) n
whole_value-pow k zero = ring (ValueR 0) [] (search reads depth 16) refl
whole_value-pow k (suc n) = whole_value-mul (pow ℤR k n) k ∙ ap (λ v. v *ᵛ whole_value 0 k) (whole_value-pow k n)

pub falling-whole : (cs : List ℤ) (k : ℤ) → falling_value cs (whole_value 0 k) ≡ whole_value 0 (falling_at cs k)
falling-whole [] k = ring (ValueR 0) [] (search reads depth 16) refl
falling-whole (c ∷ cs) k =
    ap₂ ◌+ᵛ◌ (ap (λ v. whole_value 0 c *ᵛ v) (sym (whole_value-pow k (length cs))) ∙ sym (whole_value-mul c (pow ℤR k (length cs)))) (falling-whole cs k)
    ∙ sym (whole_value-add (c *ℤ pow ℤR k (length cs)) (falling_at cs k))

pub worth-whole_at : (t : Tree) (k : ℤ) → IsPolynomial t → Worth (val t (pos 0) k) (whole_value 0 (whole_at t k))
worth-whole_at (numeral c) k h = worth-whole c
worth-whole_at here k h = worth-whole k
worth-whole_at param k h = absurd h
worth-whole_at (add x y) k h =
    worth_cong (val (add x y) (pos 0) k) (whole_value 0 (whole_at x k) +ᵛ whole_value 0 (whole_at y k)) (whole_value 0 (whole_at x k +ℤ whole_at y k))
    (sym (whole_value-add (whole_at x k) (whole_at y k)))
    (worth-sum (val x (pos 0) k) (val y (pos 0) k) (whole_value 0 (whole_at x k)) (whole_value 0 (whole_at y k))
    (val-proper x (pos 0) k) (val-proper y (pos 0) k) (worth-whole_at x k h.0) (worth-whole_at y k h.1))
worth-whole_at (neg x) k h =
    worth_cong (val (neg x) (pos 0) k) (neg_value (whole_value 0 (whole_at x k))) (whole_value 0 (neg_ℤ (whole_at x k)))
    (sym (whole_value-neg (whole_at x k)))
    (worth-opposite (val x (pos 0) k) (whole_value 0 (whole_at x k)) (val-proper x (pos 0) k) (worth-whole_at x k h))
worth-whole_at (mul x y) k h =
    worth_cong (val (mul x y) (pos 0) k) (whole_value 0 (whole_at x k) *ᵛ whole_value 0 (whole_at y k)) (whole_value 0 (whole_at x k *ℤ whole_at y k))
    (sym (whole_value-mul (whole_at x k) (whole_at y k)))
    (worth-product (val x (pos 0) k) (val y (pos 0) k) (whole_value 0 (whole_at x k)) (whole_value 0 (whole_at y k))
    (val-proper x (pos 0) k) (val-proper y (pos 0) k) (worth-whole_at x k h.0) (worth-whole_at y k h.1))
worth-whole_at (div x y) k h = absurd h
worth-whole_at (power x e) k h =
    worth_cong (val (power x e) (pos 0) k) (pow (ValueR 0) (whole_value 0 (whole_at x k)) e) (whole_value 0 (pow ℤR (whole_at x k) e))
    (sym (whole_value-pow (whole_at x k) e))
    (worth-power (val x (pos 0) k) (whole_value 0 (whole_at x k)) e (val-proper x (pos 0) k) (worth-whole_at x k h))
worth-whole_at (sum_from from body) k h = absurd h
worth-whole_at (prod_from from body) k h = absurd h
