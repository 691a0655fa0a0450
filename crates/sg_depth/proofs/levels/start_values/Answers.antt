use Rattle.std.proofs.Common.{sym, subst, arith, ◌<◌, length}
use Rattle.sg_spec.specs.Tree.{Tree}
use Rattle.sg_spec.specs.Worth.{HasWorth}
use Rattle.sg_build.specs.Letters.{letter}
use Rattle.sg_depth.specs.Commands.{sums_of}
use Rattle.sg_depth.proofs.Constants.{letter-at, value-at, read-at, more-values}
use Rattle.sg_depth.proofs.levels.start_values.Goals as goal

pub start_value-requires-clause-no_letter : goal.start_value-requires-clause-no_letter
start_value-requires-clause-no_letter g c =
    let l : c.loop-i.i < length c.args.places.now = omega (arith, c.len-i-end.ensures) in
    letter-at c.args.facts.now c.requires.sound c.args.places.now c.requires.inside c.loop-i.i c.get.result.now c.get-sum.result.now l c.get.ensures c.get-sum.ensures c.requires.no_letter

pub start_value-requires-clause-has : goal.start_value-requires-clause-has
start_value-requires-clause-has g c =
    let l : c.loop-i.i < length c.args.places.now = omega (arith, c.len-i-end.ensures) in
    value-at c.args.facts.now c.requires.sound c.args.places.now c.requires.inside c.loop-i.i c.get.result.now c.get-sum.result.now l c.get.ensures c.get-sum.ensures

pub loop-i-preserved : goal.loop-i-preserved
loop-i-preserved g c =
    let l : c.loop-i.i < length c.args.places.now = omega (arith, c.len-i-end.ensures) in
    more-values (λ t v. HasWorth (letter g.F.Field.vars) t c.args.facts.now.start v) (sums_of c.args.facts.now) g.F.Field.val c.args.places.now c.loop-i.i c.get.result.now c.loop-i.values c.push.new.self c.in_ok-value.value l c.get.ensures c.loop-i.invariant
    (subst (λ (t : Tree). HasWorth (letter g.F.Field.vars) t c.args.facts.now.start (g.F.Field.val c.in_ok-value.value)) (sym (read-at c.args.facts.now c.requires.sound c.args.places.now c.requires.inside c.loop-i.i c.get.result.now c.get-sum.result.now l c.get.ensures c.get-sum.ensures)) c.in_ok-value.ensures.value)
    c.in_ok-push.ensures.ok
