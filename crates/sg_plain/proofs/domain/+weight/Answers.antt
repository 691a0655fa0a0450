use Rattle.std.proofs.Common.{◌≡◌, ◌*◌, ◌^◌, ℕ, min, ap, ap₂, ◌∙◌, arith}
use Rattle.sg_expr.specs.Tree.{tree_of}
use Rattle.sg_spec.specs.Polynomials.{weight}
use Rattle.sg_plain.proofs.Bounds.{weight_positive}
use Rattle.sg_plain.proofs.Caps.{cap-base, cap-product}
use Rattle.sg_plain.proofs.domain.+weight.Goals as goal

pub weight_power-requires-clause-some : goal.weight_power-requires-clause-some
weight_power-requires-clause-some t c = omega (arith, weight_positive (tree_of c.deref-in-Pow.result.now))

pub returns-in-Pow : goal.returns-in-Pow
returns-in-Pow t c =
    let w = rw c.deref-in-Pow.ensures at c.weight-in-Pow.ensures in
    rw c.in-Pow.is
    (c.weight_power.ensures ∙ ap (λ (x : ℕ). min 65537 (x ^ c.in-Pow.n)) w ∙ cap-base 65537 (weight (tree_of c.in-Pow.a.value)) c.in-Pow.n)

pub returns-in-Mul : goal.returns-in-Mul
returns-in-Mul t c =
    let w = rw c.deref-in-Mul.ensures at c.weight-in-Mul.ensures in
    let v = rw c.deref-in-Mul-2.ensures at c.weight-in-Mul-2.ensures in
    let e : c.min-in-Mul.result ≡ min 65537 (c.weight-in-Mul.result * c.weight-in-Mul-2.result) = omega (arith, c.min-in-Mul.ensures) in
    rw c.in-Mul.is
    (e ∙ ap₂ (λ (x y : ℕ). min 65537 (x * y)) w v ∙ cap-product 65537 (weight (tree_of c.in-Mul.a.value)) (weight (tree_of c.in-Mul.b.value)))

pub returns-in-Div : goal.returns-in-Div
returns-in-Div t c =
    let w = rw c.deref-in-Div.ensures at c.weight-in-Div.ensures in
    let v = rw c.deref-in-Div-2.ensures at c.weight-in-Div-2.ensures in
    let e : c.min-in-Div.result ≡ min 65537 (c.weight-in-Div.result * c.weight-in-Div-2.result) = omega (arith, c.min-in-Div.ensures) in
    rw c.in-Div.is
    (e ∙ ap₂ (λ (x y : ℕ). min 65537 (x * y)) w v ∙ cap-product 65537 (weight (tree_of c.in-Div.a.value)) (weight (tree_of c.in-Div.b.value)))
