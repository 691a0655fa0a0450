use Rattle.sg_expr.specs.Tree.{tree_of}
use Rattle.sg_ratfun.specs.Fractions.{ratio}
use Rattle.sg_build.specs.Letters.{letter}
use Rattle.sg_build.proofs.FunctionParts.{function-some, function-over}
use Rattle.sg_build.proofs.functions.function_over.Goals as goal

pub div-requires : goal.div-requires
div-requires g c = function-some (letter g.K.Field.vars) (tree_of c.args.e.now) (ratio g.K.Field.val c.in_ok-x.x) c.in_ok-x.ensures.value c.requires.somewhere

pub returns-clause-value : goal.returns-clause-value
returns-clause-value g c =
    function-over (letter g.K.Field.vars) (tree_of c.args.e.now) (ratio g.K.Field.val c.in_ok-x.x) (ratio g.K.Field.val c.in_ok-one.one) (ratio g.K.Field.val c.in_ok-r.r)
    c.in_ok-x.ensures.value c.in_ok-one.ensures.value c.in_ok-r.ensures.value
