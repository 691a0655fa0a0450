use Rattle.std.proofs.Common.{◌∙◌, ◌<◌, map, length, arith}
use Rattle.sg_algebra.proofs.Lists.{length_map}
use Rattle.sg_algebra.proofs.Polynomial.{poly}
use Rattle.sg_num.specs.Value.{number}
use Rattle.sg_spread.specs.Splits.{of_roots, AreAllRoots}
use Rattle.sg_spread.proofs.Parts.{split_first, factor_some}
use Rattle.sg_spread.proofs.Splitting.{roots_fewer}
use Rattle.sg_spread.proofs.split.split.Goals as goal

pub loop-alloc-init : goal.loop-alloc-init
loop-alloc-init c = record {
  product = split_first c.new.result (poly (map number c.in_ok-rest.rest)) (poly (map number c.args.p.now)) c.new.ensures c.in_ok-rest.ensures.value;
  roots = c.in_ok-found.ensures.roots;
}

pub loop-alloc-preserved : goal.loop-alloc-preserved
loop-alloc-preserved c = record {
  product = c.in_ok-left.ensures.value ∙ c.loop-alloc.invariant.product;
  roots = c.in_ok-found-2.ensures.roots;
}

pub loop-alloc-smaller : goal.loop-alloc-smaller
loop-alloc-smaller c =
    let new = c.in_ok-left.left in
    let some : 0 < length c.loop-alloc.found = grind (arith, c.is_empty.ensures, c.loop-alloc-test.true) in
    let all : AreAllRoots c.loop-alloc.left.rest c.loop-alloc.found = λ m h. (c.loop-alloc.invariant.roots m).0 h in
    let more : length c.loop-alloc.left.roots < length new.roots = (rw c.as_slice.ensures at c.in_ok-left.ensures.more) some all in
    let fewer = roots_fewer new.roots (map number c.args.p.now) (map number new.rest) (c.in_ok-left.ensures.value ∙ c.loop-alloc.invariant.product) c.requires in
    let size = length_map number c.args.p.now in
    omega (arith, more, fewer, size)

pub roots_of-requires-in-loop-alloc : goal.roots_of-requires-in-loop-alloc
roots_of-requires-in-loop-alloc c = factor_some (of_roots c.in_ok-left.left.roots) (poly (map number c.in_ok-left.left.rest)) (poly (map number c.args.p.now)) (c.in_ok-left.ensures.value ∙ c.loop-alloc.invariant.product) c.requires
