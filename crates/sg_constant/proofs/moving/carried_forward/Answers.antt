use Rattle.std.proofs.Common.{refl, pos}
use Rattle.sg_constant.specs.Shares.{share, shares}
use Rattle.sg_constant.proofs.Carrying.{carried_start, forward_more}
use Rattle.sg_constant.proofs.moving.carried_forward.Goals as goal

pub steps-init : goal.steps-init
steps-init g c = carried_start g.F.Field.val (g.F.Field.val c.args.factors.now.a) (pos 0) c.args.s c.args.s c.args.moved.now c.args.moved.now refl refl refl

pub forward-requires-clause-fits : goal.forward-requires-clause-fits
forward-requires-clause-fits g c = c.steps.invariant.fits c.requires.fits

pub steps-preserved : goal.steps-preserved
steps-preserved g c =
    let v = g.F.Field.val in
    forward_more (v c.args.factors.now.a) c.steps.i (share v c.args.s) (share v c.steps.r) (share v c.in_ok-r.r) (shares v c.args.moved.now) (shares v c.steps.moved) (shares v c.forward.new.moved) c.steps.invariant c.in_ok-r.ensures.carried
