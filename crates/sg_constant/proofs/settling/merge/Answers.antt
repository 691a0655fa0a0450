use Rattle.std.proofs.Common.{◌∙◌, ◌++◌, ◌∷◌, [], map, rules, FitsSigned, ap, sym, subst, length}
use Rattle.std.specs.Int.{w128}
use Rattle.std.proofs.lemmas.Int.{to_z-of_z}
use Rattle.sg_algebra.proofs.Polynomial.{poly}
use Rattle.sg_reduction_theory.proofs.Places.{fits_some}
use Rattle.sg_constant.specs.Shares.{polys, share, shares, IsJoint, Settles}
use Rattle.sg_constant.proofs.Carrying.{shares_push}
use Rattle.sg_constant.proofs.Settled.{settles_join, share_at, share_inside, lower_is, shares_removed, fits_at, number_at, same_number}
use Rattle.sg_constant.proofs.settling.merge.Goals as goal

pub joined-requires-clause-left : goal.joined-requires-clause-left
joined-requires-clause-left g c =
    let v = g.F.Field.val in
    fits_some (share v c.remove-other.result) (fits_at (length (polys v c.args.s.uppers)) (shares v c.args.state.now.settled) c.args.at.place (share v c.remove-other.result) c.requires.good
    (share_inside v c.args.state.now.settled c.args.at.place c.requires.within) (share_at v c.args.state.now.settled c.args.at.place c.remove-other.result c.requires.within c.remove-other.ensures.item))

pub joined-requires-clause-right : goal.joined-requires-clause-right
joined-requires-clause-right g c = fits_some (share g.F.Field.val c.in_ok-r.r) (c.in_ok-r.ensures.carried.fits c.requires.fits)

pub joined-requires-clause-same : goal.joined-requires-clause-same
joined-requires-clause-same g c =
    let v = g.F.Field.val in
    same_number v c.remove-other.result c.in_ok-r.r c.args.s
    (number_at (length (polys v c.args.s.uppers)) (shares v c.args.state.now.settled) c.args.at.place (share v c.remove-other.result) c.requires.good
    (share_inside v c.args.state.now.settled c.args.at.place c.requires.within) (share_at v c.args.state.now.settled c.args.at.place c.remove-other.result c.requires.within c.remove-other.ensures.item))
    c.in_ok-r.ensures.carried.number

pub returns-clause-settles : goal.returns-clause-settles
returns-clause-settles g c =
    let v = g.F.Field.val in
    let list = c.args.state.now.settled in
    let fits : FitsSigned w128 c.args.at.shift = search rules in
    let carried = simp to_z-of_z at c.in_ok-r.ensures.carried in
    let joint : IsJoint (poly (map v c.args.s.lower)) (poly (map v c.remove-other.result.lower)) c.args.at.shift
    = subst (λ x. IsJoint (poly (map v c.args.s.lower)) (poly (map v x)) c.args.at.shift) (lower_is v list c.args.at.place c.remove-other.result c.requires.within c.remove-other.ensures.item) c.requires.joint in
    subst (λ ss. Settles (v c.args.factors.now.a) (share v c.args.s) (shares v list) (shares v c.args.state.now.moved) ss (shares v c.carried.new.moved))
    (sym (shares_push v c.remove-other.new.self c.push.new.self c.in_ok-both.both c.in_ok-push.ensures.ok ∙ ap (λ z. z ++ share v c.in_ok-both.both ∷ []) (ap (shares v) c.remove-other.ensures.new ∙ shares_removed v list c.args.at.place)))
    (settles_join (v c.args.factors.now.a) c.args.at.shift (share v c.args.s) (share v c.in_ok-r.r) (share v c.remove-other.result) (share v c.in_ok-both.both) (shares v list) (shares v c.args.state.now.moved) (shares v c.carried.new.moved) c.args.at.place
    c.requires.fits (share_inside v list c.args.at.place c.requires.within) (share_at v list c.args.at.place c.remove-other.result c.requires.within c.remove-other.ensures.item) c.requires.good joint carried c.in_ok-both.ensures.joined)
