use Rattle.std.proofs.Common.{◌∙◌, sym, ap}
use Rattle.sg_matrix.specs.Systems.{System}
use Rattle.sg_matrix.proofs.Adding.{nothing_left, nothing_new, not_spanned, after_system, after_span}
use Rattle.sg_matrix.proofs.echelon.Echelon.add_row.Goals as goal

pub returns-in-None-clause-span : goal.returns-in-None-clause-span
returns-in-None-clause-span g c = rw (← c.self.view_is) (nothing_new g.F.Field.val c.self.inside.rows c.args.row
    (nothing_left g.F.Field.val c.self.inside.rows c.args.row c.in_ok-rest.rest c.in_ok-rest.ensures.value (rw c.as_slice.ensures at c.in-None.ensures.none)))

pub returns-in-None-clause-spanned : goal.returns-in-None-clause-spanned
returns-in-None-clause-spanned g c t = rw (← c.self.view_is) (nothing_left g.F.Field.val c.self.inside.rows c.args.row c.in_ok-rest.rest c.in_ok-rest.ensures.value (rw c.as_slice.ensures at c.in-None.ensures.none))

pub invariant_of-self : goal.invariant_of-self
invariant_of-self g c = after_system g.F.Field.val c.self.inside.rows c.in_ok-new-in-Some.new c.args.row c.in_ok-rest.rest c.in-Some.j c.place_of-place.result c.self.invariant.echelon
    c.in_ok-rest.ensures.value (rw c.as_slice.ensures at c.in-Some.ensures.some) c.place_of-place.ensures.within c.place_of-place.ensures.before c.place_of-place.ensures.after
    (rw c.as_slice-in-Some.ensures at c.in_ok-new-in-Some.ensures.value) c.self.inside.width (c.requires ∙ sym (ap (λ (s : System g.row.F.Denot). s.width) c.self.view_is))

pub returns-clause-form : goal.returns-clause-form
returns-clause-form g c = after_system g.F.Field.val c.self.inside.rows c.in_ok-new-in-Some.new c.args.row c.in_ok-rest.rest c.in-Some.j c.place_of-place.result c.self.invariant.echelon
    c.in_ok-rest.ensures.value (rw c.as_slice.ensures at c.in-Some.ensures.some) c.place_of-place.ensures.within c.place_of-place.ensures.before c.place_of-place.ensures.after
    (rw c.as_slice-in-Some.ensures at c.in_ok-new-in-Some.ensures.value) c.self.inside.width (c.requires ∙ sym (ap (λ (s : System g.row.F.Denot). s.width) c.self.view_is))

pub returns-clause-span : goal.returns-clause-span
returns-clause-span g c = rw (← c.self.view_is) (after_span g.F.Field.val c.self.inside.rows c.in_ok-new-in-Some.new c.args.row c.in_ok-rest.rest c.in-Some.j c.place_of-place.result c.self.invariant.echelon
    c.in_ok-rest.ensures.value (rw c.as_slice.ensures at c.in-Some.ensures.some) c.place_of-place.ensures.within c.place_of-place.ensures.before c.place_of-place.ensures.after
    (rw c.as_slice-in-Some.ensures at c.in_ok-new-in-Some.ensures.value))

pub returns-clause-fresh : goal.returns-clause-fresh
returns-clause-fresh g c t = rw (← c.self.view_is) (not_spanned g.F.Field.val c.self.inside.rows c.self.invariant.echelon c.args.row c.in_ok-rest.rest c.in-Some.j c.in_ok-rest.ensures.value (rw c.as_slice.ensures at c.in-Some.ensures.some))
