use Rattle.std.proofs.Common.{ℕ, map, length, ap, sym, subst, ◌∙◌, arith}
use Rattle.sg_algebra.proofs.Polynomial.{coefficient}
use Rattle.sg_ratfun.specs.Fractions.{ratio}
use Rattle.sg_reduction_theory.proofs.Spanning.{Sized, Known}
use Rattle.sg_constant.specs.Shares.{polys, shares}
use Rattle.sg_constant.proofs.Solved.{solutions_none, solutions_more, solutions_all, vector_size}
use Rattle.sg_constant.proofs.solving.solutions.Goals as goal

pub loop-i-init : goal.loop-i-init
loop-i-init g c =
    let v = g.F.Field.val in
    solutions_none v (v c.args.a.now) (polys v c.args.wholes.now) (shares v c.args.moved.now) c.args.vectors.now c.args.first

pub solution-requires-clause-same : goal.solution-requires-clause-same
solution-requires-clause-same g c =
    vector_size g.F.Field.val c.args.vectors.now c.loop-i.i (length c.args.wholes.now) c.index-vectors-i.result c.as_slice-c.result.now (omega arith) c.index-vectors-i.is c.as_slice-c.ensures c.requires.sized

pub solution-requires-clause-sized : goal.solution-requires-clause-sized
solution-requires-clause-sized g c =
    subst (λ (n : ℕ). Sized n (shares g.F.Field.val c.args.moved.now)) (sym (vector_size g.F.Field.val c.args.vectors.now c.loop-i.i (length c.args.wholes.now) c.index-vectors-i.result c.as_slice-c.result.now (omega arith) c.index-vectors-i.is c.as_slice-c.ensures c.requires.sized)) c.requires.numbers

pub loop-i-preserved : goal.loop-i-preserved
loop-i-preserved g c =
    let v = g.F.Field.val in
    solutions_more v (v c.args.a.now) (polys v c.args.wholes.now) (shares v c.args.moved.now) c.args.vectors.now c.loop-i.i c.index-vectors-i.result c.args.first c.loop-i.list c.push.new.self (record { coeffs = c.in_ok-coeffs.coeffs; value = c.in_ok-value.value })
    (omega arith) c.index-vectors-i.is c.loop-i.invariant (c.in_ok-coeffs.ensures.values ∙ ap (map v) c.as_slice-c.ensures)
    (subst (λ b. Known (v c.args.a.now) (polys v c.args.wholes.now) (shares v c.args.moved.now) (coefficient (map v b)) (ratio v c.in_ok-value.value)) c.as_slice-c.ensures c.in_ok-value.ensures.known) c.in_ok-push.ensures.ok

pub returns-clause-value : goal.returns-clause-value
returns-clause-value g c =
    let v = g.F.Field.val in
    solutions_all v (v c.args.a.now) (polys v c.args.wholes.now) (shares v c.args.moved.now) c.args.vectors.now c.loop-i.i c.args.first c.loop-i.list (omega arith) c.loop-i.invariant
