use Rattle.sg_constant.specs.Shares.{share, shares}
use Rattle.sg_constant.proofs.Settled.{peels_none, peels_on, peels_good, peels_settles}
use Rattle.sg_constant.proofs.peeling.peeled.Goals as goal

pub loop-i-init : goal.loop-i-init
loop-i-init g c =
    let v = g.F.Field.val in
    peels_none (v c.args.factors.now.a) (share v c.args.s) (shares v c.args.state.now.settled) (shares v c.args.state.now.moved)

pub peeled_once-requires-clause-fits : goal.peeled_once-requires-clause-fits
peeled_once-requires-clause-fits g c = c.loop-i.invariant.fits c.requires.fits

pub peeled_once-requires-clause-good : goal.peeled_once-requires-clause-good
peeled_once-requires-clause-good g c =
    let v = g.F.Field.val in
    peels_good (v c.args.factors.now.a) (share v c.args.s) (share v c.loop-i.left) (shares v c.args.state.now.settled) (shares v c.args.state.now.moved) (shares v c.loop-i.state.settled) (shares v c.loop-i.state.moved) c.loop-i.invariant c.requires.good

pub loop-i-preserved : goal.loop-i-preserved
loop-i-preserved g c =
    let v = g.F.Field.val in
    peels_on (v c.args.factors.now.a) (share v c.args.s) (share v c.loop-i.left) (share v c.in_ok-left.left) (shares v c.args.state.now.settled) (shares v c.args.state.now.moved) (shares v c.loop-i.state.settled) (shares v c.loop-i.state.moved)
    (shares v c.peeled_once.new.state.settled) (shares v c.peeled_once.new.state.moved) c.loop-i.invariant c.in_ok-left.ensures.peels

pub settle-requires-clause-fits : goal.settle-requires-clause-fits
settle-requires-clause-fits g c = c.loop-i.invariant.fits c.requires.fits

pub settle-requires-clause-good : goal.settle-requires-clause-good
settle-requires-clause-good g c =
    let v = g.F.Field.val in
    peels_good (v c.args.factors.now.a) (share v c.args.s) (share v c.loop-i.left) (shares v c.args.state.now.settled) (shares v c.args.state.now.moved) (shares v c.loop-i.state.settled) (shares v c.loop-i.state.moved) c.loop-i.invariant c.requires.good

pub returns-clause-settles : goal.returns-clause-settles
returns-clause-settles g c =
    let v = g.F.Field.val in
    peels_settles (v c.args.factors.now.a) (share v c.args.s) (share v c.loop-i.left) (shares v c.args.state.now.settled) (shares v c.args.state.now.moved) (shares v c.loop-i.state.settled) (shares v c.loop-i.state.moved)
    (shares v c.settle.new.state.settled) (shares v c.settle.new.state.moved) c.loop-i.invariant c.in_ok-settle.ensures.settles
