use Rattle.std.proofs.Common.{◌≡◌, ◌∙◌, sym, ap, ap₂, arith, map, get_or, List, [], length}
use Rattle.sg_algebra.proofs.Value.{◌-ᵛ◌}
use Rattle.sg_algebra.proofs.Polynomial.{coefficient}
use Rattle.sg_algebra.proofs.Rows.{at_read}
use Rattle.sg_algebra.proofs.Tables.{row_read}
use Rattle.sg_algebra.proofs.NullSpace.{axis_one, axis_zero}
use Rattle.sg_matrix.proofs.Solutions.{image_free, image_pivot}
use Rattle.sg_matrix.proofs.vectors.entry.Goals as goal

pub returns-in_ok-x-in-Some-clause-value : goal.returns-in_ok-x-in-Some-clause-value
returns-in_ok-x-in-Some-clause-value g c e =
    let read : get_or c.args.rows.now c.in-Some.l [] ≡ c.as_slice.result.now = row_read c.args.rows.now c.in-Some.l c.get.result.now c.in-Some.ensures.within c.get.ensures ∙ sym c.as_slice.ensures in
    c.in_ok-x-in-Some.ensures.value ∙ ap₂ (λ x y. x -ᵛ y) c.in_ok-zero-in-Some.ensures.value
    (sym (at_read g.F.Field.val c.as_slice.result.now c.args.k c.index-as_slice-k.result (omega (arith, ap length read, c.requires.inside c.in-Some.l c.in-Some.ensures.within)) c.index-as_slice-k.is)
    ∙ ap (λ (q : List g.row.F.Denot). coefficient (map g.F.Field.val q) c.args.k) (sym read))
    ∙ sym (image_pivot g.F.Field.val c.args.rows.now e c.args.k c.args.i c.in-Some.l c.requires.free c.in-Some.ensures.within c.in-Some.ensures.some)

pub returns-in_ok-one-in-None-clause-value : goal.returns-in_ok-one-in-None-clause-value
returns-in_ok-one-in-None-clause-value g c e = c.in_ok-one-in-None.ensures.value ∙ sym (axis_one c.args.k c.args.i (omega arith)) ∙ sym (image_free g.F.Field.val c.args.rows.now e c.args.k c.args.i c.in-None.ensures.none)

pub returns-in_ok-zero-in-None-2-clause-value : goal.returns-in_ok-zero-in-None-2-clause-value
returns-in_ok-zero-in-None-2-clause-value g c e = c.in_ok-zero-in-None-2.ensures.value ∙ sym (axis_zero c.args.k c.args.i (λ s. omega arith)) ∙ sym (image_free g.F.Field.val c.args.rows.now e c.args.k c.args.i c.in-None.ensures.none)
