use Rattle.sg_tele.proofs.Novelty.{found_is, none_is, if_some_to, if_none_to}
use Rattle.sg_tele.proofs.antidifference.telescope.Goals as goal

pub returns-clause-some : goal.returns-clause-some
returns-clause-some g c = if_some_to c.in_ok-found.found _ _
    (found_is (g.T.Tower.reading g.T.K.Field.vars g.T.K.Field.val c.args.tower.now) g.T.K.Field.val c.args.f.now c.in_ok-copy.copy c.in_ok-copy.ensures.value c.in_ok-fs.fs c.in_ok-fs.ensures.value c.in_ok-rows.rows c.in_ok-rows.ensures.sound) c.in_ok-found.ensures.some

pub returns-clause-none : goal.returns-clause-none
returns-clause-none g c = if_none_to c.in_ok-found.found _ _
    (none_is (g.T.Tower.reading g.T.K.Field.vars g.T.K.Field.val c.args.tower.now) g.T.K.Field.val c.args.f.now c.in_ok-copy.copy c.in_ok-copy.ensures.value c.in_ok-fs.fs c.in_ok-fs.ensures.value c.in_ok-rows.rows c.in_ok-rows.ensures.complete) c.in_ok-found.ensures.none
