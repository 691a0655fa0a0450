use Rattle.std.proofs.Common.{◌-◌, rules, FitsSigned, pos, get_or, arith, ℤ, refl}
use Rattle.std.specs.Int.{w128}
use Rattle.std.proofs.lemmas.Int.{to_z-of_z}
use Rattle.sg_poly.specs.Polynomials.{polynomial}
use Rattle.sg_rational.proofs.Taking.{advances_same, advances_on, done_more}
use Rattle.sg_rational.proofs.dispersion.all_steps.Goals as goal

pub loop-i-init : goal.loop-i-init
loop-i-init g c =
    let v = g.F.Field.val in
    record {
      within = omega arith;
      is = advances_same (polynomial v c.args.given.a) (polynomial v c.args.given.b) (polynomial v c.args.given.lower) (polynomial v c.args.given.factor);
      done = λ h j l n e. absurd (omega arith);
    }

pub step-requires : goal.step-requires
step-requires g c = record { left = c.loop-i.invariant.is.left c.requires.left }

pub loop-i-preserved : goal.loop-i-preserved
loop-i-preserved g c =
    let v = g.F.Field.val in
    let m : ℤ = get_or c.args.shifts.now (c.loop-i.i - 1) (pos 0) in
    let fits : FitsSigned w128 (get_or c.args.shifts.now (c.loop-i.i - 1) (pos 0)) = search rules in
    let this = simp to_z-of_z at c.in_ok-r.ensures.apart in
    record {
      within = omega (arith, c.loop-i.invariant.within);
      is = advances_on _ _ _ _ (polynomial v c.loop-i.r.a) (polynomial v c.loop-i.r.b) (polynomial v c.loop-i.r.lower) (polynomial v c.loop-i.r.factor) _ _ _ _ c.loop-i.invariant.is c.in_ok-r.ensures.value;
      done = done_more c.args.shifts.now c.loop-i.i m (polynomial v c.loop-i.r.a) (polynomial v c.loop-i.r.b) (polynomial v c.loop-i.r.lower) (polynomial v c.loop-i.r.factor) (polynomial v c.in_ok-r.r.a) (polynomial v c.in_ok-r.r.b) (polynomial v c.in_ok-r.r.lower) (polynomial v c.in_ok-r.r.factor)
          (omega arith) c.loop-i.invariant.within refl c.in_ok-r.ensures.value this c.loop-i.invariant.done;
    }

pub returns-clause-apart : goal.returns-clause-apart
returns-clause-apart g c h k = c.loop-i.invariant.done h k.0 (omega arith) k.1 k.2
