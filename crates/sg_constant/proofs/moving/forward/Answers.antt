use Rattle.sg_constant.specs.Shares.{share, shares}
use Rattle.sg_constant.proofs.Carrying.{step_forward, shares_push}
use Rattle.sg_constant.proofs.moving.forward.Goals as goal

pub returns-clause-carried : goal.returns-clause-carried
returns-clause-carried g c =
    let v = g.F.Field.val in
    step_forward (v c.args.factors.now.a) (v c.args.factors.now.minus) (share v c.args.s.now) (share v c.in_ok-r.r) (share v c.in_ok-left.left) (shares v c.args.moved.now) (shares v c.push.new.self)
    c.requires.minus c.requires.fits c.in_ok-r.ensures.value c.in_ok-left.ensures.value (shares_push v c.args.moved.now c.push.new.self c.in_ok-left.left c.in_ok-push.ensures.ok)
