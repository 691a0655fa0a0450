use Rattle.std.proofs.Common.{◌≡◌, ℕ, ◌<◌, [], ◌∷◌, map, refl, subst, sym, ◌∙◌, ap, IfSome, IfNone, ◌++◌}
use Rattle.sg_algebra.proofs.Coprime.{Coprime}
use Rattle.sg_algebra.proofs.Polynomial.{PolynomialR, poly, zero_polynomial, ◌*ᵖ◌}
use Rattle.sg_poly.specs.Divisors.{IsMonic}
use Rattle.sg_reduction_theory.proofs.Places.{fits_some}
use Rattle.sg_constant.specs.Shares.{polys, over, share, shares, size, HasLowers, IsCut, IsFree, IsSplit, Settles}
use Rattle.sg_constant.proofs.Carrying.{shares_push}
use Rattle.sg_constant.proofs.Settled.{settles_both, settles_add, good_lowers, good_after, good_first}
use Rattle.sg_constant.proofs.Plans.{part_some}
use Rattle.sg_constant.proofs.settling.+settle.Goals as goal

pub planned-requires-clause-left : goal.planned-requires-clause-left
planned-requires-clause-left g t c = fits_some (share g.F.Field.val c.args.s) c.requires.fits

pub planned-requires-clause-right : goal.planned-requires-clause-right
planned-requires-clause-right g t c = subst (λ l. HasLowers (shares g.F.Field.val l)) (sym c.as_slice.ensures) (good_lowers (shares g.F.Field.val c.args.state.now.settled) c.requires.good.fits)

pub split-requires-clause-monic : goal.split-requires-clause-monic
split-requires-clause-monic g t c =
    let v = g.F.Field.val in
    let cut : IsCut v c.args.s.lower c.in-Some.by.common c.in-Some.by.rest = subst (λ o. IfSome o (λ by. IsCut v c.args.s.lower by.common by.rest)) c.in-Some.is c.in_ok-next.ensures.cut in
    subst (λ b. IsMonic (map v b.common)) (sym c.in-Some.by-is) cut.monic

pub split-requires-clause-some : goal.split-requires-clause-some
split-requires-clause-some g t c =
    let v = g.F.Field.val in
    let cut : IsCut v c.args.s.lower c.in-Some.by.common c.in-Some.by.rest = subst (λ o. IfSome o (λ by. IsCut v c.args.s.lower by.common by.rest)) c.in-Some.is c.in_ok-next.ensures.cut in
    subst (λ b. ¬ (poly (map v b.rest) ≡ zero_polynomial)) (sym c.in-Some.by-is)
    (part_some (poly (map v c.args.s.lower)) (poly (map v c.in-Some.by.common)) (poly (map v c.in-Some.by.rest)) cut.is (fits_some (share v c.args.s) c.requires.fits)).1

pub split-requires-clause-apart : goal.split-requires-clause-apart
split-requires-clause-apart g t c =
    let v = g.F.Field.val in
    let cut : IsCut v c.args.s.lower c.in-Some.by.common c.in-Some.by.rest = subst (λ o. IfSome o (λ by. IsCut v c.args.s.lower by.common by.rest)) c.in-Some.is c.in_ok-next.ensures.cut in
    subst (λ b. Coprime (PolynomialR g.F.Field.vars) (poly (map v b.common)) (poly (map v b.rest))) (sym c.in-Some.by-is) cut.apart

pub settle-requires : goal.settle-requires
settle-requires g t c κs within =
    let v = g.F.Field.val in
    let cut : IsCut v c.args.s.lower c.in-Some.by.common c.in-Some.by.rest = subst (λ o. IfSome o (λ by. IsCut v c.args.s.lower by.common by.rest)) c.in-Some.is c.in_ok-next.ensures.cut in
    let sp : IsSplit (share v c.args.s) (share v c.in_ok-parts-in-Some.parts.first) (share v c.in_ok-parts-in-Some.parts.second)
    = subst (λ us. IsSplit (over (polys v us) (poly (map v c.args.s.lower))) (share v c.in_ok-parts-in-Some.parts.first) (share v c.in_ok-parts-in-Some.parts.second)) c.as_slice-in-Some.ensures
    (c.in_ok-parts-in-Some.ensures.split (poly (map v c.args.s.lower)) (subst (λ b. poly (map v c.args.s.lower) ≡ poly (map v b.common) *ᵖ poly (map v b.rest)) (sym c.in-Some.by-is) cut.is)) in
    let shorter : size (map v c.in_ok-parts-in-Some.parts.first.lower) < size (map v c.args.s.lower) = subst (λ l. size (map v l) < size (map v c.args.s.lower)) (sym (c.in_ok-parts-in-Some.ensures.first ∙ ap (λ b. b.common) c.in-Some.by-is)) cut.left in
    (subst (λ (n : ℕ). size (map v c.in_ok-parts-in-Some.parts.first.lower) < n) c.decreases shorter, (within, (c.requires.inverse, (c.requires.minus, ((sp.fits c.requires.fits).0, good_first (share v c.args.s) (share v c.in_ok-parts-in-Some.parts.first) (share v c.in_ok-parts-in-Some.parts.second) (shares v c.args.state.now.settled) sp c.requires.good)))))

pub settle-requires-in-Some : goal.settle-requires-in-Some
settle-requires-in-Some g t c κs within =
    let v = g.F.Field.val in
    let cut : IsCut v c.args.s.lower c.in-Some.by.common c.in-Some.by.rest = subst (λ o. IfSome o (λ by. IsCut v c.args.s.lower by.common by.rest)) c.in-Some.is c.in_ok-next.ensures.cut in
    let sp : IsSplit (share v c.args.s) (share v c.in_ok-parts-in-Some.parts.first) (share v c.in_ok-parts-in-Some.parts.second)
    = subst (λ us. IsSplit (over (polys v us) (poly (map v c.args.s.lower))) (share v c.in_ok-parts-in-Some.parts.first) (share v c.in_ok-parts-in-Some.parts.second)) c.as_slice-in-Some.ensures
    (c.in_ok-parts-in-Some.ensures.split (poly (map v c.args.s.lower)) (subst (λ b. poly (map v c.args.s.lower) ≡ poly (map v b.common) *ᵖ poly (map v b.rest)) (sym c.in-Some.by-is) cut.is)) in
    let shorter : size (map v c.in_ok-parts-in-Some.parts.second.lower) < size (map v c.args.s.lower) = subst (λ l. size (map v l) < size (map v c.args.s.lower)) (sym (c.in_ok-parts-in-Some.ensures.second ∙ ap (λ b. b.rest) c.in-Some.by-is)) cut.right in (
      subst (λ (n : ℕ). size (map v c.in_ok-parts-in-Some.parts.second.lower) < n) c.decreases shorter,
      (
        within,
        (
          c.requires.inverse,
          (
            c.requires.minus,
            (
              (sp.fits c.requires.fits).1,
              good_after (v c.args.factors.now.a) (share v c.args.s) (share v c.in_ok-parts-in-Some.parts.first) (share v c.in_ok-parts-in-Some.parts.second) (shares v c.args.state.now.settled) (shares v c.args.state.now.moved) (shares v c.settle.new.state.settled) (shares v c.settle.new.state.moved)
                  sp c.requires.good c.in_ok-settle-in-Some.ensures.settles,
            ),
          ),
        ),
      ),
    )

pub returns-in_ok-settle-in-Some-2-clause-settles :
    goal.returns-in_ok-settle-in-Some-2-clause-settles
returns-in_ok-settle-in-Some-2-clause-settles g t c =
    let v = g.F.Field.val in
    let cut : IsCut v c.args.s.lower c.in-Some.by.common c.in-Some.by.rest = subst (λ o. IfSome o (λ by. IsCut v c.args.s.lower by.common by.rest)) c.in-Some.is c.in_ok-next.ensures.cut in
    let sp : IsSplit (share v c.args.s) (share v c.in_ok-parts-in-Some.parts.first) (share v c.in_ok-parts-in-Some.parts.second)
    = subst (λ us. IsSplit (over (polys v us) (poly (map v c.args.s.lower))) (share v c.in_ok-parts-in-Some.parts.first) (share v c.in_ok-parts-in-Some.parts.second)) c.as_slice-in-Some.ensures
    (c.in_ok-parts-in-Some.ensures.split (poly (map v c.args.s.lower)) (subst (λ b. poly (map v c.args.s.lower) ≡ poly (map v b.common) *ᵖ poly (map v b.rest)) (sym c.in-Some.by-is) cut.is)) in
    settles_both (v c.args.factors.now.a) (share v c.args.s) (share v c.in_ok-parts-in-Some.parts.first) (share v c.in_ok-parts-in-Some.parts.second) (shares v c.args.state.now.settled) (shares v c.args.state.now.moved)
    (shares v c.settle.new.state.settled) (shares v c.settle.new.state.moved) (shares v c.settle-in-Some.new.state.settled) (shares v c.settle-in-Some.new.state.moved) sp c.in_ok-settle-in-Some.ensures.settles c.in_ok-settle-in-Some-2.ensures.settles

pub returns-in_ok-push-in-None-at-clause-settles :
    goal.returns-in_ok-push-in-None-at-clause-settles
returns-in_ok-push-in-None-at-clause-settles g t c =
    let v = g.F.Field.val in
    let w = poly (map v c.args.s.lower) in
    let first = subst (λ o. IfNone o (IfNone c.in_ok-next.next.at (IsFree w (shares v c.as_slice.result.now)))) c.in-None.is c.in_ok-next.ensures.free in
    let second = subst (λ o. IfNone o (IsFree w (shares v c.as_slice.result.now))) c.in-None-at.is first in
    let free : IsFree w (shares v c.args.state.now.settled) = subst (λ l. IsFree w (shares v l)) c.as_slice.ensures second in
    subst (λ l. Settles (v c.args.factors.now.a) (share v c.args.s) (shares v c.args.state.now.settled) (shares v c.args.state.now.moved) l (shares v c.args.state.now.moved))
    (sym (shares_push v c.args.state.now.settled (c.args.state.now.settled ++ c.args.s ∷ []) c.args.s refl) ∙ ap (shares v) (sym c.in_ok-push-in-None-at.ensures.ok))
    (settles_add (v c.args.factors.now.a) (share v c.args.s) (shares v c.args.state.now.settled) (shares v c.args.state.now.moved) c.requires.fits free)
