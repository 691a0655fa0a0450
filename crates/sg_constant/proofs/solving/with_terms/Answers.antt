use Rattle.std.proofs.Common.{◌≡◌, ◌∙◌, length, map, ap, sym, subst, arith}
use Rattle.sg_algebra.proofs.Polynomial.{poly, coefficient, zero_polynomial}
use Rattle.sg_ratfun.specs.Fractions.{ratio}
use Rattle.sg_constant.proofs.Plans.{lowers_at}
use Rattle.sg_constant.proofs.Solved.{terms_none, terms_more, terms_all, number_of}
use Rattle.sg_constant.proofs.solving.with_terms.Goals as goal

pub loop-i-init : goal.loop-i-init
loop-i-init g c = terms_none g.F.Field.val (coefficient (map g.F.Field.val c.args.c.now)) c.args.list.now (ratio g.F.Field.val c.args.first)

pub term-requires-clause-same : goal.term-requires-clause-same
term-requires-clause-same g c = number_of g.F.Field.val (length c.args.c.now) c.args.list.now c.loop-i.i c.index-list-i.result (omega arith) c.requires.sized ∙ ap (λ u. length u.uppers) (sym c.index-list-i.is)

pub term-requires-clause-some : goal.term-requires-clause-some
term-requires-clause-some g c = subst (λ u. ¬ (poly (map g.F.Field.val u.lower) ≡ zero_polynomial)) (sym c.index-list-i.is) (lowers_at g.F.Field.val c.args.list.now c.loop-i.i c.index-list-i.result (omega arith) c.requires.some)

pub loop-i-preserved : goal.loop-i-preserved
loop-i-preserved g c =
    let v = g.F.Field.val in
    terms_more v (coefficient (map v c.args.c.now)) c.args.list.now c.loop-i.i c.index-list-i.result (ratio v c.args.first) (ratio v c.loop-i.sum) (ratio v c.in_ok-part.part) (ratio v c.in_ok-sum.sum)
    (omega arith) c.index-list-i.is c.loop-i.invariant c.in_ok-part.ensures.value c.in_ok-sum.ensures.value

pub returns-clause-value : goal.returns-clause-value
returns-clause-value g c =
    let v = g.F.Field.val in
    terms_all v (coefficient (map v c.args.c.now)) c.args.list.now c.loop-i.i (ratio v c.args.first) (ratio v c.loop-i.sum) (omega arith) c.loop-i.invariant
