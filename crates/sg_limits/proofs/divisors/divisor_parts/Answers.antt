use Rattle.std.proofs.Common.{[], ap, rules, FitsSigned, to_z, of_z}
use Rattle.std.specs.Int.{w64}
use Rattle.std.proofs.lemmas.Int.{to_z-of_z}
use Rattle.sg_spec.specs.Parts.{anywhere, divides, parts}
use Rattle.sg_expr.specs.Tree.{tree_of}
use Rattle.sg_limits.specs.Divisors.{AreCollected}
use Rattle.sg_limits.proofs.Seeking.{walkable}
use Rattle.sg_limits.proofs.Collecting.{named}
use Rattle.sg_limits.proofs.divisors.divisor_parts.Goals as goal

pub collect-requires : goal.collect-requires
collect-requires c = walkable (tree_of c.args.e.now) c.requires.form

pub returns-clause-parts : goal.returns-clause-parts
returns-clause-parts c =
    let all : AreCollected divides (parts anywhere c.args.lower 0 (tree_of c.args.e.now)) [] c.collect.result =
    let fits : FitsSigned w64 c.args.lower = search rules in
    let start = ap (λ l. parts anywhere l 0 (tree_of c.args.e.now)) (to_z-of_z w64 c.args.lower fits) in
    named divides (parts anywhere (to_z w64 (of_z w64 c.args.lower)) 0 (tree_of c.args.e.now)) (parts anywhere c.args.lower 0 (tree_of c.args.e.now)) [] c.collect.result start (rw c.new.ensures at (c.collect.ensures 0))
    in all.parts [] tt

pub returns-clause-stop : goal.returns-clause-stop
returns-clause-stop c =
    let all : AreCollected divides (parts anywhere c.args.lower 0 (tree_of c.args.e.now)) [] c.collect.result =
    let fits : FitsSigned w64 c.args.lower = search rules in
    let start = ap (λ l. parts anywhere l 0 (tree_of c.args.e.now)) (to_z-of_z w64 c.args.lower fits) in
    named divides (parts anywhere (to_z w64 (of_z w64 c.args.lower)) 0 (tree_of c.args.e.now)) (parts anywhere c.args.lower 0 (tree_of c.args.e.now)) [] c.collect.result start (rw c.new.ensures at (c.collect.ensures 0))
    in all.stop
