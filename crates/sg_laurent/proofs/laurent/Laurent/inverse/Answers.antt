use Rattle.std.proofs.Common.{◌≡◌, length, arith}
use Rattle.sg_laurent.specs.Elements.{element}
use Rattle.sg_laurent.proofs.Coefficients.{inverse_is, no_inverse}
use Rattle.sg_laurent.proofs.laurent.Laurent.inverse.Goals as goal

pub returns-then-own-ne1-clause-none : goal.returns-then-own-ne1-clause-none
returns-then-own-ne1-clause-none g c = no_inverse g.K.Field.val c.args.n (element g.K.Field.val c.args.n c.args.self.now) c.terms-own.result.now c.terms-own.ensures.value c.terms-own.ensures.normal c.if-own-ne1.true

pub returns-clause-some : goal.returns-clause-some
returns-clause-some g c =
    let l : length c.terms-own.result.now ≡ 1 = grind (arith, c.if-own-ne1.false) in
    inverse_is g.K.Field.val c.args.n (element g.K.Field.val c.args.n c.args.self.now) (element g.K.Field.val c.args.n c.in_ok-terms.terms) c.terms-own.result.now c.index-own-0.result c.in_ok-t.t c.terms-own.ensures.value c.terms-own.ensures.normal l c.index-own-0.is
    c.in_ok-t.ensures.exponents c.in_ok-t.ensures.value (rw c.new.ensures at c.in_ok-terms.ensures.value)
