use Rattle.std.proofs.Common.{map, subst}
use Rattle.sg_algebra.proofs.Polynomial.{poly}
use Rattle.sg_reduction_theory.proofs.Places.{fits_some}
use Rattle.sg_constant.specs.Shares.{polys, over, share, shares, IsSplit}
use Rattle.sg_constant.proofs.Settled.{good_first, peels_none, peels_part}
use Rattle.sg_constant.proofs.Plans.{part_some, parts_apart}
use Rattle.sg_constant.proofs.peeling.peeled_once.Goals as goal

pub parted-requires-clause-left : goal.parted-requires-clause-left
parted-requires-clause-left g c = fits_some (share g.F.Field.val c.args.s) c.requires.fits

pub split-requires-clause-some : goal.split-requires-clause-some
split-requires-clause-some g c =
    let v = g.F.Field.val in
    (part_some (poly (map v c.args.s.lower)) (poly (map v c.in_ok-by.by.common)) (poly (map v c.in_ok-by.by.rest)) c.in_ok-by.ensures.parts.is (fits_some (share v c.args.s) c.requires.fits)).1

pub split-requires-clause-apart : goal.split-requires-clause-apart
split-requires-clause-apart g c =
    let v = g.F.Field.val in
    parts_apart (poly (map v c.args.s.lower)) (poly (map v c.in_ok-by.by.common)) (poly (map v c.in_ok-by.by.rest)) (poly (map v c.args.e.now)) c.in_ok-by.ensures.parts

pub settle-requires-clause-fits : goal.settle-requires-clause-fits
settle-requires-clause-fits g c =
    let v = g.F.Field.val in
    let sp : IsSplit (share v c.args.s) (share v c.in_ok-parts.parts.first) (share v c.in_ok-parts.parts.second)
    = subst (λ us. IsSplit (over (polys v us) (poly (map v c.args.s.lower))) (share v c.in_ok-parts.parts.first) (share v c.in_ok-parts.parts.second)) c.as_slice.ensures (c.in_ok-parts.ensures.split (poly (map v c.args.s.lower)) c.in_ok-by.ensures.parts.is) in
    (sp.fits c.requires.fits).0

pub settle-requires-clause-good : goal.settle-requires-clause-good
settle-requires-clause-good g c =
    let v = g.F.Field.val in
    let sp : IsSplit (share v c.args.s) (share v c.in_ok-parts.parts.first) (share v c.in_ok-parts.parts.second)
    = subst (λ us. IsSplit (over (polys v us) (poly (map v c.args.s.lower))) (share v c.in_ok-parts.parts.first) (share v c.in_ok-parts.parts.second)) c.as_slice.ensures (c.in_ok-parts.ensures.split (poly (map v c.args.s.lower)) c.in_ok-by.ensures.parts.is) in
    good_first (share v c.args.s) (share v c.in_ok-parts.parts.first) (share v c.in_ok-parts.parts.second) (shares v c.args.state.now.settled) sp c.requires.good

pub returns-then-coeffs-gt1-clause-peels : goal.returns-then-coeffs-gt1-clause-peels
returns-then-coeffs-gt1-clause-peels g c =
    let v = g.F.Field.val in
    let sp : IsSplit (share v c.args.s) (share v c.in_ok-parts.parts.first) (share v c.in_ok-parts.parts.second)
    = subst (λ us. IsSplit (over (polys v us) (poly (map v c.args.s.lower))) (share v c.in_ok-parts.parts.first) (share v c.in_ok-parts.parts.second)) c.as_slice.ensures (c.in_ok-parts.ensures.split (poly (map v c.args.s.lower)) c.in_ok-by.ensures.parts.is) in
    peels_part (v c.args.factors.now.a) (share v c.args.s) (share v c.in_ok-parts.parts.first) (share v c.in_ok-parts.parts.second) (shares v c.args.state.now.settled) (shares v c.args.state.now.moved) (shares v c.settle.new.state.settled) (shares v c.settle.new.state.moved)
    sp c.in_ok-settle.ensures.settles

pub returns-clause-peels : goal.returns-clause-peels
returns-clause-peels g c =
    let v = g.F.Field.val in
    peels_none (v c.args.factors.now.a) (share v c.args.s) (shares v c.args.state.now.settled) (shares v c.args.state.now.moved)
