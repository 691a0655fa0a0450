use Rattle.std.proofs.Common.{◌≡◌, ℕ, length, map, subst, sym, ap, ◌∙◌, rules}
use Rattle.sg_algebra.proofs.Polynomial.{poly, zero_polynomial}
use Rattle.sg_reduction_theory.proofs.Places.{Fits, Good}
use Rattle.sg_constant.specs.Shares.{polys, over, shares}
use Rattle.sg_constant.proofs.Functions.{added_none, added_some, length-alone}
use Rattle.sg_constant.proofs.reducing.add_fraction.Goals as goal

pub returns-then-none-clause-added : goal.returns-then-none-clause-added
returns-then-none-clause-added g c =
    let v = g.F.Field.val in
    let none : poly (map v c.args.upper) ≡ zero_polynomial = c.is_zero-none.ensures.0 (search rules) in
    added_none (v c.args.factors.now.a) c.args.n c.args.i (poly (map v c.args.upper)) (poly (map v c.args.lower)) (shares v c.args.state.now.settled) (shares v c.args.state.now.moved) c.requires.within none

pub peeled-requires-clause-fits : goal.peeled-requires-clause-fits
peeled-requires-clause-fits g c =
    let v = g.F.Field.val in
    subst (λ us. Fits (over us (poly (map v c.args.lower)))) (sym c.in_ok-uppers.ensures.value) c.requires.fits

pub peeled-requires-clause-good : goal.peeled-requires-clause-good
peeled-requires-clause-good g c =
    let v = g.F.Field.val in
    subst (λ (n : ℕ). Good n (shares v c.args.state.now.settled)) (sym (ap length c.in_ok-uppers.ensures.value ∙ length-alone c.args.n c.args.i (poly (map v c.args.upper)))) c.requires.good

pub returns-clause-added : goal.returns-clause-added
returns-clause-added g c =
    let v = g.F.Field.val in
    added_some (v c.args.factors.now.a) c.args.n c.args.i (poly (map v c.args.upper)) (poly (map v c.args.lower)) (polys v c.in_ok-uppers.uppers) (shares v c.args.state.now.settled) (shares v c.args.state.now.moved)
    (shares v c.peeled.new.state.settled) (shares v c.peeled.new.state.moved) c.in_ok-uppers.ensures.value c.in_ok-peeled.ensures.settles
