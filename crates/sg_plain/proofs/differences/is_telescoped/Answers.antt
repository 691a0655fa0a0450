use Rattle.sg_expr.specs.Tree.{tree_of}
use Rattle.sg_plain.proofs.Checks.{telescopes-plain, fails-plain, lacking-none, none-lacking}
use Rattle.sg_plain.proofs.differences.is_telescoped.Goals as goal

pub returns-clause-yes : goal.returns-clause-yes
returns-clause-yes c = λ t.
    telescopes-plain (tree_of c.args.f.now) (tree_of c.args.g.now) c.quartic_of-q.result.constant c.quartic_of-q.result.linear
    c.quartic_of-q.result.square c.quartic_of-q.result.cube c.quartic_of-q.result.fourth
    c.quartic_of-p.result.constant c.quartic_of-p.result.linear c.quartic_of-p.result.square c.quartic_of-p.result.cube c.quartic_of-p.result.fourth
    c.requires.summand.0 c.requires.sum.0 c.quartic_of-q.ensures c.quartic_of-p.ensures
    (lacking-none c.quartic_of-q.result.constant c.quartic_of-q.result.linear c.quartic_of-q.result.square c.quartic_of-q.result.cube
    c.quartic_of-q.result.fourth c.quartic_of-p.result.constant c.quartic_of-p.result.linear c.quartic_of-p.result.square
    c.quartic_of-p.result.cube c.quartic_of-p.result.fourth (c.is_difference_of.ensures.yes t))

pub returns-clause-no : goal.returns-clause-no
returns-clause-no c = λ n.
    fails-plain (tree_of c.args.f.now) (tree_of c.args.g.now) c.quartic_of-q.result.constant c.quartic_of-q.result.linear
    c.quartic_of-q.result.square c.quartic_of-q.result.cube c.quartic_of-q.result.fourth
    c.quartic_of-p.result.constant c.quartic_of-p.result.linear c.quartic_of-p.result.square c.quartic_of-p.result.cube c.quartic_of-p.result.fourth
    c.requires.summand.0 c.requires.sum.0 c.quartic_of-q.ensures c.quartic_of-p.ensures
    (λ z. n (c.is_difference_of.ensures.no (none-lacking c.quartic_of-q.result.constant c.quartic_of-q.result.linear c.quartic_of-q.result.square
    c.quartic_of-q.result.cube c.quartic_of-q.result.fourth c.quartic_of-p.result.constant c.quartic_of-p.result.linear
    c.quartic_of-p.result.square c.quartic_of-p.result.cube c.quartic_of-p.result.fourth z)))
