use Rattle.sg_expr.specs.Tree.{tree_of}
use Rattle.sg_gen.specs.Drawing.{shape_of}
use Rattle.sg_gen.proofs.Terms.{begins, goes-on, ends}
use Rattle.sg_gen.proofs.samples.sample.Goals as goal

pub loop-init : goal.loop-init
loop-init c =
    begins c.args.seed c.args.i c.below-more.result c.new-draws.result.state c.below-more.new.self.state c.shape.new.self.state (shape_of c.shape.result) (tree_of c.in_ok-all.all) c.new-draws.ensures
    c.below-more.ensures.state c.below-more.ensures.drawn c.shape.ensures.state c.shape.ensures.shape c.in_ok-all.ensures

pub loop-preserved : goal.loop-preserved
loop-preserved c =
    rw (c.in_ok-left.ensures.ok, c.in_ok-right.ensures.ok)
    (goes-on c.args.seed c.args.i c.below-more.result c.loop.counter c.loop.draws.state c.shape-in-loop.new.self.state (shape_of c.shape-in-loop.result) (tree_of c.loop.all) (tree_of c.in_ok-term.field-0)
    c.loop-test.true c.shape-in-loop.ensures.state c.shape-in-loop.ensures.shape c.in_ok-term.ensures c.loop.invariant)

pub returns : goal.returns
returns c = ends c.args.seed c.args.i c.below-more.result c.loop.counter c.loop.draws.state (tree_of c.loop.all) c.loop-test.false c.loop.invariant
