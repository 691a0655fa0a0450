use Rattle.std.proofs.Common.{pos, ◌∙◌, ap, length, map}
use Rattle.sg_ratfun.specs.Fractions.{ratio}
use Rattle.sg_products.proofs.Moving.{shifted_term_is, shift_is}
use Rattle.sg_products.proofs.shift.shifted_term.Goals as goal

pub returns-clause-value : goal.returns-clause-value
returns-clause-value g c = shifted_term_is g.F.Field.val c.args.alphas.now c.args.t.now c.in_ok-r.r (ratio g.F.Field.val c.in_ok-factor.factor) (ratio g.F.Field.val c.in_ok-moved.moved) (ratio g.F.Field.val c.in_ok-coeff.coeff)
    c.requires.some c.requires.fit (rw c.as_slice.ensures at c.in_ok-factor.ensures.value) (shift_is g.F.Field.val c.args.t.now.coeff c.in_ok-moved.moved c.in_ok-moved.ensures.own c.in_ok-moved.ensures.value)
    c.in_ok-coeff.ensures.value c.in_ok-r.ensures.exponents (ap (ratio g.F.Field.val) c.in_ok-r.ensures.coefficient)
