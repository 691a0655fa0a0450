use Rattle.std.proofs.Common.{◌≡◌, sym, subst, ℤ, pos, neg_ℤ, ◌≤ℤ◌, ◌<ℤ◌, rules, arith, FitsSigned, to_z}
use Rattle.std.specs.Int.{w128}
use Rattle.std.proofs.lemmas.Int.{ints, to_z-of_z}
use Rattle.sg_roots.specs.Signs.{IsMonotone, KeepsSign, ArePieces, reach}
use Rattle.sg_roots.proofs.Monotone.{monotone_from}
use Rattle.sg_roots.proofs.Cuts.{pieces_more}
use Rattle.sg_roots.proofs.pieces.cut.Goals as goal

pub change-requires-clause-monotone : goal.change-requires-clause-monotone
change-requires-clause-monotone c =
    let fl : FitsSigned w128 c.args.low = search rules in
    let fh : FitsSigned w128 c.args.high = search rules in
    let at = to_z w128 c.loop-at.at-bits in
    let from : c.args.low ≤ℤ at = omega (arith, ints, c.loop-at.invariant.from) in
    subst (λ (x : ℤ). IsMonotone c.args.list.now at x) (sym (to_z-of_z w128 c.args.high fh)) (monotone_from c.args.list.now c.args.low at c.args.high from c.requires.monotone)

pub loop-at-preserved : goal.loop-at-preserved
loop-at-preserved c =
    let fn : FitsSigned w128 c.in_ok-next.next = search rules in
    let at = to_z w128 c.loop-at.at-bits in
    let above : at <ℤ c.in_ok-next.next = omega (arith, ints, c.in_ok-next.ensures.above) in
    let keeps : KeepsSign c.args.list.now at c.in_ok-next.next = c.in_ok-next.ensures.keeps in
    record {
      from = omega (arith, ints, c.loop-at.invariant.from, above);
      to = omega (arith, ints, c.in_ok-next.ensures.within);
      pieces = λ f. subst (λ (x : ℤ). ArePieces c.args.list.now (neg_ℤ (pos reach)) x c.push.new.self) (sym (to_z-of_z w128 c.in_ok-next.next fn))
          (pieces_more c.args.list.now (neg_ℤ (pos reach)) at c.in_ok-next.next c.loop-at.row c.push.new.self c.in_ok-push.ensures.ok (c.loop-at.invariant.pieces f) above keeps);
    }

pub returns-clause-value : goal.returns-clause-value
returns-clause-value c f =
    let fl : FitsSigned w128 c.args.low = search rules in
    let at = to_z w128 c.loop-at.at-bits in
    let last : at ≡ c.args.high = omega (arith, ints, c.loop-at.invariant.to, c.loop-at-test.false) in
    subst (λ (x : ℤ). ArePieces c.args.list.now (neg_ℤ (pos reach)) x c.loop-at.row) last
    (c.loop-at.invariant.pieces (subst (λ (x : ℤ). ArePieces c.args.list.now (neg_ℤ (pos reach)) x c.args.row.now) (sym (to_z-of_z w128 c.args.low fl)) f))
