use Rattle.std.proofs.Common.{◌≡◌, ◌<◌, ◌∙◌, sym, ap, ap₂, arith, List, [], map, length, get_or}
use Rattle.sg_algebra.proofs.Value.{◌-ᵛ◌, ◌*ᵛ◌, inv_value}
use Rattle.sg_algebra.proofs.Polynomial.{coefficient}
use Rattle.sg_algebra.proofs.Rows.{at_read}
use Rattle.sg_algebra.proofs.Tables.{row_read}
use Rattle.sg_matrix.proofs.Places.{skip_inside}
use Rattle.sg_matrix.proofs.Adding.{after_own, after_other}
use Rattle.sg_matrix.proofs.echelon.row_after.Goals as goal

pub returns-then-i-place-clause-value : goal.returns-then-i-place-clause-value
returns-then-i-place-clause-value g c = after_own g.F.Field.val c.args.rows.now c.args.rest.now c.args.j c.args.place c.args.i c.in_ok-new.new (omega arith) c.in_ok-new.ensures.size
    (λ k. c.in_ok-new.ensures.value k ∙ ap (λ x. coefficient (map g.F.Field.val c.args.rest.now) k *ᵛ inv_value x) (sym (at_read g.F.Field.val c.args.rest.now c.args.j c.index-rest-j.result c.requires.inside c.index-rest-j.is)))

pub offset_bounds-b-j : goal.offset_bounds-b-j
offset_bounds-b-j g c =
    let m : c.stood.result < length c.args.rows.now = skip_inside c.args.place c.stood.result (length c.args.rows.now) c.requires.within (omega (arith, c.stood.ensures.old)) in
    omega (arith, ap length (row_read c.args.rows.now c.stood.result c.get.result.now m c.get.ensures ∙ sym c.as_slice-b.ensures), c.requires.sized c.stood.result m)

pub bounds-b-j : goal.bounds-b-j
bounds-b-j g c =
    let m : c.stood.result < length c.args.rows.now = skip_inside c.args.place c.stood.result (length c.args.rows.now) c.requires.within (omega (arith, c.stood.ensures.old)) in
    omega (arith, ap length (row_read c.args.rows.now c.stood.result c.get.result.now m c.get.ensures ∙ sym c.as_slice-b.ensures), c.requires.sized c.stood.result m)

pub cleared-requires : goal.cleared-requires
cleared-requires g c =
    let m : c.stood.result < length c.args.rows.now = skip_inside c.args.place c.stood.result (length c.args.rows.now) c.requires.within (omega (arith, c.stood.ensures.old)) in
    sym (c.requires.sized c.stood.result m) ∙ ap length (row_read c.args.rows.now c.stood.result c.get.result.now m c.get.ensures ∙ sym c.as_slice-b.ensures)

pub returns-clause-value : goal.returns-clause-value
returns-clause-value g c =
    let m : c.stood.result < length c.args.rows.now = skip_inside c.args.place c.stood.result (length c.args.rows.now) c.requires.within (omega (arith, c.stood.ensures.old)) in
    let read : get_or c.args.rows.now c.stood.result [] ≡ c.as_slice-b.result.now = row_read c.args.rows.now c.stood.result c.get.result.now m c.get.ensures ∙ sym c.as_slice-b.ensures in
    let j : c.args.j < length c.as_slice-b.result.now = omega (arith, ap length read, c.requires.sized c.stood.result m) in
    after_other g.F.Field.val c.args.rows.now c.args.rest.now c.args.j c.args.place c.args.i c.stood.result c.in_ok-new-2.new c.stood.ensures.old
    (c.in_ok-new-2.ensures.size ∙ sym (ap length read) ∙ c.requires.sized c.stood.result m)
    (λ k. c.in_ok-new-2.ensures.value k ∙ ap₂ (λ x y. x -ᵛ y *ᵛ coefficient (map g.F.Field.val c.args.rest.now) k) (ap (λ (q : List g.row.F.Denot). coefficient (map g.F.Field.val q) k) (sym read))
    (c.in_ok-t.ensures.value ∙ ap₂ (λ x y. x *ᵛ inv_value y)
    (sym (at_read g.F.Field.val c.as_slice-b.result.now c.args.j c.index-b-j.result j c.index-b-j.is) ∙ ap (λ (q : List g.row.F.Denot). coefficient (map g.F.Field.val q) c.args.j) (sym read))
    (sym (at_read g.F.Field.val c.args.rest.now c.args.j c.index-rest-j.result c.requires.inside c.index-rest-j.is))))
