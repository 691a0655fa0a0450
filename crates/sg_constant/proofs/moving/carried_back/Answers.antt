use Rattle.std.proofs.Common.{refl, pos, neg_ℤ}
use Rattle.sg_constant.specs.Shares.{share, shares}
use Rattle.sg_constant.proofs.Carrying.{carried_start, back_more}
use Rattle.sg_constant.proofs.moving.carried_back.Goals as goal

pub steps-init : goal.steps-init
steps-init g c = carried_start g.F.Field.val (g.F.Field.val c.args.factors.now.a) (neg_ℤ (pos 0)) c.args.s c.args.s c.args.moved.now c.args.moved.now refl refl refl

pub back-requires-clause-fits : goal.back-requires-clause-fits
back-requires-clause-fits g c = c.steps.invariant.fits c.requires.fits

pub steps-preserved : goal.steps-preserved
steps-preserved g c =
    let v = g.F.Field.val in
    back_more (v c.args.factors.now.a) c.steps.i (share v c.args.s) (share v c.steps.r) (share v c.in_ok-r.r) (shares v c.args.moved.now) (shares v c.steps.moved) (shares v c.back.new.moved) c.steps.invariant c.in_ok-r.ensures.carried
