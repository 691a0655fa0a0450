use Rattle.std.proofs.Common.{map, take, length, refl, ap, arith}
use Rattle.sg_ratfun.specs.Fractions.{ratio}
use Rattle.sg_constant.specs.Shares.{polys, shares}
use Rattle.sg_constant.proofs.Functions.{reduction_none, reduction_push, reduction_all}
use Rattle.sg_constant.proofs.reducing.reduced.Goals as goal

pub loop-i-init : goal.loop-i-init
loop-i-init g c =
    let v = g.F.Field.val in
    reduction_none (v c.args.factors.now.a) (length c.args.fs.now) (map (ratio v) (take 0 c.args.fs.now)) (polys v c.new-wholes.result) (shares v c.new.result) (shares v c.new-2.result) refl (ap (polys v) c.new-wholes.ensures) (ap (shares v) c.new.ensures) (ap (shares v) c.new-2.ensures)

pub add_fraction-requires-clause-fits : goal.add_fraction-requires-clause-fits
add_fraction-requires-clause-fits g c = c.in_ok-parts.ensures.fits (length c.args.fs.now) c.loop-i.i

pub add_fraction-requires-clause-good : goal.add_fraction-requires-clause-good
add_fraction-requires-clause-good g c = c.loop-i.invariant.good

pub loop-i-preserved : goal.loop-i-preserved
loop-i-preserved g c =
    let v = g.F.Field.val in
    reduction_push v (v c.args.factors.now.a) (length c.args.fs.now) c.args.fs.now c.loop-i.i c.index-fs-i.result c.loop-i.wholes c.push.new.self c.in_ok-parts.parts.whole c.in_ok-parts.parts.upper c.in_ok-parts.parts.lower
    (shares v c.loop-i.state.settled) (shares v c.loop-i.state.moved) (shares v c.add_fraction.new.state.settled) (shares v c.add_fraction.new.state.moved) (omega arith) refl c.index-fs-i.is c.in_ok-push.ensures.ok c.in_ok-parts.ensures.value c.loop-i.invariant c.in_ok-add_fraction.ensures.added

pub returns-clause-reduced : goal.returns-clause-reduced
returns-clause-reduced g c =
    let v = g.F.Field.val in
    reduction_all v (v c.args.factors.now.a) (length c.args.fs.now) c.args.fs.now c.loop-i.i (polys v c.loop-i.wholes) (shares v c.loop-i.state.settled) (shares v c.loop-i.state.moved) (omega arith) c.loop-i.invariant
