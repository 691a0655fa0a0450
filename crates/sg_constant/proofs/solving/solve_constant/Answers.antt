use Rattle.std.proofs.Common.{◌≡◌, ℕ, [], map, length, get_or, subst, sym, ap, ◌<◌, ◌∙◌}
use Rattle.sg_algebra.proofs.Lists.{length_map}
use Rattle.sg_ratfun.specs.Fractions.{ratio}
use Rattle.sg_reduction_theory.proofs.Bases.{IsNull}
use Rattle.sg_reduction_theory.proofs.Places.{Good}
use Rattle.sg_reduction_theory.proofs.Spanning.{Sized}
use Rattle.sg_constant.specs.Shares.{polys, shares, HasLowers}
use Rattle.sg_constant.specs.Reductions.{IsReduction, AreSolutions, VanishAt}
use Rattle.sg_constant.proofs.Solved.{reduction_at, is_basis}
use Rattle.sg_constant.proofs.solving.solve_constant.Goals as goal

pub reduced-requires-clause-inverse : goal.reduced-requires-clause-inverse
reduced-requires-clause-inverse g c = c.in_ok-factors.ensures.value.inverse

pub reduced-requires-clause-minus : goal.reduced-requires-clause-minus
reduced-requires-clause-minus g c = c.in_ok-factors.ensures.value.minus

pub vanishing-requires : goal.vanishing-requires
vanishing-requires g c =
    let v = g.F.Field.val in
    let red : IsReduction (v c.args.a.now) c.len-n.result (map (ratio v) c.args.fs.now) (polys v c.in_ok-r.r.wholes) (shares v c.in_ok-r.r.state.settled) (shares v c.in_ok-r.r.state.moved)
    = reduction_at v (v c.args.a.now) (v c.in_ok-factors.factors.a) c.len-n.result c.args.fs.now c.as_slice-functions.result.now (polys v c.in_ok-r.r.wholes) (shares v c.in_ok-r.r.state.settled) (shares v c.in_ok-r.r.state.moved)
    c.in_ok-factors.ensures.value.same c.as_slice-functions.ensures c.len-n.ensures c.in_ok-r.ensures.reduced in
    subst (λ l. Good c.len-n.result (shares v l)) (sym c.as_slice-settled.ensures) red.good

pub solutions-requires-clause-sized : goal.solutions-requires-clause-sized
solutions-requires-clause-sized g c =
    let v = g.F.Field.val in
    let red : IsReduction (v c.args.a.now) c.len-n.result (map (ratio v) c.args.fs.now) (polys v c.in_ok-r.r.wholes) (shares v c.in_ok-r.r.state.settled) (shares v c.in_ok-r.r.state.moved)
    = reduction_at v (v c.args.a.now) (v c.in_ok-factors.factors.a) c.len-n.result c.args.fs.now c.as_slice-functions.result.now (polys v c.in_ok-r.r.wholes) (shares v c.in_ok-r.r.state.settled) (shares v c.in_ok-r.r.state.moved)
    c.in_ok-factors.ensures.value.same c.as_slice-functions.ensures c.len-n.ensures c.in_ok-r.ensures.reduced in
    let size : c.len-n.result ≡ length c.as_slice-wholes.result.now
    = c.len-n.ensures ∙ sym (length_map (ratio v) c.args.fs.now) ∙ red.same ∙ length_map _ c.in_ok-r.r.wholes ∙ sym (ap length c.as_slice-wholes.ensures) in
    subst (λ l. (i : ℕ) → i < length l → length (get_or l i []) ≡ length c.as_slice-wholes.result.now) (sym c.as_slice-vectors.ensures) (λ i l. c.in_ok-basis.ensures.null.sized i l ∙ size)

pub solutions-requires-clause-numbers : goal.solutions-requires-clause-numbers
solutions-requires-clause-numbers g c =
    let v = g.F.Field.val in
    let red : IsReduction (v c.args.a.now) c.len-n.result (map (ratio v) c.args.fs.now) (polys v c.in_ok-r.r.wholes) (shares v c.in_ok-r.r.state.settled) (shares v c.in_ok-r.r.state.moved)
    = reduction_at v (v c.args.a.now) (v c.in_ok-factors.factors.a) c.len-n.result c.args.fs.now c.as_slice-functions.result.now (polys v c.in_ok-r.r.wholes) (shares v c.in_ok-r.r.state.settled) (shares v c.in_ok-r.r.state.moved)
    c.in_ok-factors.ensures.value.same c.as_slice-functions.ensures c.len-n.ensures c.in_ok-r.ensures.reduced in
    let size : c.len-n.result ≡ length c.as_slice-wholes.result.now
    = c.len-n.ensures ∙ sym (length_map (ratio v) c.args.fs.now) ∙ red.same ∙ length_map _ c.in_ok-r.r.wholes ∙ sym (ap length c.as_slice-wholes.ensures) in
    subst (λ (n : ℕ). Sized n (shares v c.as_slice-moved.result.now)) size (subst (λ l. Sized c.len-n.result (shares v l)) (sym c.as_slice-moved.ensures) red.sized)

pub solutions-requires-clause-some : goal.solutions-requires-clause-some
solutions-requires-clause-some g c = subst (λ l. HasLowers (shares g.F.Field.val l)) (sym c.as_slice-moved.ensures) c.in_ok-r.ensures.reduced.lowers

pub returns-clause-basis : goal.returns-clause-basis
returns-clause-basis g c =
    let v = g.F.Field.val in
    let red : IsReduction (v c.args.a.now) c.len-n.result (map (ratio v) c.args.fs.now) (polys v c.in_ok-r.r.wholes) (shares v c.in_ok-r.r.state.settled) (shares v c.in_ok-r.r.state.moved)
    = reduction_at v (v c.args.a.now) (v c.in_ok-factors.factors.a) c.len-n.result c.args.fs.now c.as_slice-functions.result.now (polys v c.in_ok-r.r.wholes) (shares v c.in_ok-r.r.state.settled) (shares v c.in_ok-r.r.state.moved)
    c.in_ok-factors.ensures.value.same c.as_slice-functions.ensures c.len-n.ensures c.in_ok-r.ensures.reduced in
    let null : IsNull v c.len-n.result (shares v c.in_ok-r.r.state.settled) c.in_ok-basis.basis = subst (λ l. IsNull v c.len-n.result (shares v l) c.in_ok-basis.basis) c.as_slice-settled.ensures c.in_ok-basis.ensures.null in
    let vanish : VanishAt v c.in_ok-basis.basis (shares v c.in_ok-r.r.state.settled) = subst (λ l. VanishAt v c.in_ok-basis.basis (shares v l)) c.as_slice-settled.ensures c.in_ok-basis.ensures.vanish in
    let solutions : AreSolutions v (v c.args.a.now) (polys v c.in_ok-r.r.wholes) (shares v c.in_ok-r.r.state.moved) c.in_ok-basis.basis c.in_ok-first.first c.in_ok-list.list
    = subst (λ l. AreSolutions v (v c.args.a.now) (polys v c.in_ok-r.r.wholes) (shares v c.in_ok-r.r.state.moved) l c.in_ok-first.first c.in_ok-list.list) c.as_slice-vectors.ensures
    (subst (λ l. AreSolutions v (v c.args.a.now) (polys v l) (shares v c.in_ok-r.r.state.moved) c.as_slice-vectors.result.now c.in_ok-first.first c.in_ok-list.list) c.as_slice-wholes.ensures
    (subst (λ l. AreSolutions v (v c.args.a.now) (polys v c.as_slice-wholes.result.now) (shares v l) c.as_slice-vectors.result.now c.in_ok-first.first c.in_ok-list.list) c.as_slice-moved.ensures c.in_ok-list.ensures.value)) in
    is_basis v (v c.args.a.now) c.requires c.len-n.result (map (ratio v) c.args.fs.now) (polys v c.in_ok-r.r.wholes) (shares v c.in_ok-r.r.state.settled) (shares v c.in_ok-r.r.state.moved)
    (length_map (ratio v) c.args.fs.now ∙ sym c.len-n.ensures) red c.in_ok-basis.basis null vanish c.in_ok-first.first c.in_ok-list.list c.in_ok-first.ensures.one c.in_ok-first.ensures.other solutions
