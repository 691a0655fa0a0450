use Rattle.std.proofs.Common.{[], pos}
use Rattle.sg_spec.specs.Parts.{anywhere, is_body, parts}
use Rattle.sg_expr.specs.Tree.{tree_of}
use Rattle.sg_limits.specs.Divisors.{AreCollected}
use Rattle.sg_limits.proofs.Seeking.{walkable}
use Rattle.sg_limits.proofs.divisors.zero_parts.Goals as goal

pub collect-requires : goal.collect-requires
collect-requires c = walkable (tree_of c.args.e.now) c.requires.form

pub returns-clause-parts : goal.returns-clause-parts
returns-clause-parts c =
    let all : AreCollected is_body (parts anywhere (pos 0) 0 (tree_of c.args.e.now)) [] c.collect.result =
    rw c.new.ensures at (c.collect.ensures 0)
    in all.parts [] tt

pub returns-clause-stop : goal.returns-clause-stop
returns-clause-stop c =
    let all : AreCollected is_body (parts anywhere (pos 0) 0 (tree_of c.args.e.now)) [] c.collect.result =
    rw c.new.ensures at (c.collect.ensures 0)
    in all.stop
