use Rattle.std.proofs.Common.{◌≤◌, ◌<◌, ◌∙◌, List, [], length, ap, sym, subst, refl, arith}
use Rattle.std.proofs.lemmas.List.{take_all}
use Rattle.sg_algebra.proofs.Tables.{row_read}
use Rattle.sg_poly.specs.Polynomials.{polynomial}
use Rattle.sg_first_order_theory.proofs.Basis.{pair_of}
use Rattle.sg_rational.proofs.Columns.{images_more}
use Rattle.sg_rational.proofs.ansatz.solutions.Goals as goal

pub loop-i-init : goal.loop-i-init
loop-i-init g c = rw (c.new-list.ensures) refl

pub solution-requires : goal.solution-requires
solution-requires g c =
    let l : c.loop-i.i < length c.args.basis.now = omega (arith, c.loop-i-test.true, c.len-i-end.ensures) in
    record {
      within = subst (λ (r : List g.row.F.Denot). c.args.n ≤ length r) (row_read c.args.basis.now c.loop-i.i c.get.result.now l c.get.ensures ∙ sym c.as_slice.ensures) (c.requires.within c.loop-i.i l);
      some = c.requires.some;
    }

pub loop-i-preserved : goal.loop-i-preserved
loop-i-preserved g c =
    let l : c.loop-i.i < length c.args.basis.now = omega (arith, c.loop-i-test.true, c.len-i-end.ensures) in
    let h : List g.row.F.Denot → _ = pair_of g.F.Field.val c.args.n (polynomial g.F.Field.val c.args.lower.now) in
    images_more _ h [] c.loop-i.list c.push.new.self c.in_ok-solution.field-0 c.args.basis.now c.loop-i.i c.get.result.now l c.get.ensures
    (c.in_ok-solution.ensures.value ∙ ap h c.as_slice.ensures) c.in_ok-push.ensures.ok c.loop-i.invariant

pub returns-clause-value : goal.returns-clause-value
returns-clause-value g c = rw (take_all c.loop-i.i c.args.basis.now (omega (arith, c.loop-i-test.false, c.len-i-end.ensures))) at c.loop-i.invariant
