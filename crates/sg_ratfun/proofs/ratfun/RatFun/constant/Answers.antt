use Rattle.std.proofs.Common.{◌≡◌, ◌∷◌, [], ◌∙◌, ◌≤◌, sym, ap, map, length, arith}
use Rattle.sg_algebra.proofs.Lists.{length_map}
use Rattle.sg_algebra.proofs.Value.{one_value}
use Rattle.sg_algebra.proofs.Polynomial.{poly, coefficient}
use Rattle.sg_ratfun.proofs.Constants.{constant_equal, small_denominator, small_numerator, not_longer, parts_of_constant}
use Rattle.sg_ratfun.proofs.ratfun.RatFun.constant.Goals as goal

pub returns-then-p-gt1-clause-none : goal.returns-then-p-gt1-clause-none
returns-then-p-gt1-clause-none g c x e =
    let v = g.F.Field.val in
    let p = map v c.args.self.now.0 in
    let parts = parts_of_constant p (map v c.args.self.now.1) x c.upper.ensures.reduced e in
    let short : length p ≤ 1 = not_longer p x (rw c.upper.ensures.value at c.coeffs-p.ensures.ends) parts.0 in
    omega (arith, short, length_map v c.args.self.now.0, ap length (c.coeffs-p.ensures.value ∙ c.upper.ensures.value), c.if-p-gt1.true)

pub returns-then-q-gt1-clause-none : goal.returns-then-q-gt1-clause-none
returns-then-q-gt1-clause-none g c x e =
    let v = g.F.Field.val in
    let q = map v c.args.self.now.1 in
    let parts = parts_of_constant (map v c.args.self.now.0) q x c.upper.ensures.reduced e in
    let short : length q ≤ 1 = not_longer q one_value (rw c.lower.ensures.value at c.coeffs-q.ensures.ends) parts.1 in
    omega (arith, short, length_map v c.args.self.now.1, ap length (c.coeffs-q.ensures.value ∙ c.lower.ensures.value), c.if-q-gt1.true)

pub returns-clause-some : goal.returns-clause-some
returns-clause-some g c =
    let v = g.F.Field.val in
    let p = map v c.args.self.now.0 in
    let q = map v c.args.self.now.1 in
    let few : length p ≤ 1 = omega (arith, length_map v c.args.self.now.0, ap length (c.coeffs-p.ensures.value ∙ c.upper.ensures.value), c.if-p-gt1.false) in
    let one : length q ≤ 1 = omega (arith, length_map v c.args.self.now.1, ap length (c.coeffs-q.ensures.value ∙ c.lower.ensures.value), c.if-q-gt1.false) in
    let first : v c.in_ok-c.c ≡ coefficient p 0 = c.in_ok-c.ensures.value ∙ ap (λ l. coefficient (map v l) 0) (c.coeffs-p.ensures.value ∙ c.upper.ensures.value) in
    constant_equal p q (v c.in_ok-c.c) (small_numerator p few ∙ ap (λ y. poly (y ∷ [])) (sym first)) (small_denominator q c.upper.ensures.reduced.monic one)
