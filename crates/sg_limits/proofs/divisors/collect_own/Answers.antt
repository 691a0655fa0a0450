use Rattle.std.proofs.Common.{refl}
use Rattle.sg_spec.specs.Parts.{anywhere, divides, is_body}
use Rattle.sg_expr.specs.Tree.{tree_of}
use Rattle.sg_limits.proofs.Collecting.{skipped, pushed_result}
use Rattle.sg_limits.proofs.divisors.collect_own.Goals as goal

pub returns-in-Divides-wanted : goal.returns-in-Divides-wanted
returns-in-Divides-wanted c = λ depth. rw (c.in-Divides.is, c.in-Divides-wanted.is)
    (pushed_result divides (record { role = divides; tree = tree_of c.args.e.now; limit = c.args.scope.from; depth = depth }) c.args.list c.pushed.result refl c.pushed.ensures.parts c.pushed.ensures.stop)

pub returns-in-Anywhere-wanted : goal.returns-in-Anywhere-wanted
returns-in-Anywhere-wanted c = λ depth. rw (c.in-Divides.is, c.in-Anywhere-wanted.is) (skipped anywhere (record { role = divides; tree = tree_of c.args.e.now; limit = c.args.scope.from; depth = depth }) c.args.list refl)

pub returns-in-Body-wanted : goal.returns-in-Body-wanted
returns-in-Body-wanted c = λ depth. rw (c.in-Divides.is, c.in-Body-wanted.is) (skipped is_body (record { role = divides; tree = tree_of c.args.e.now; limit = c.args.scope.from; depth = depth }) c.args.list refl)

pub returns-in-Body-wanted-2 : goal.returns-in-Body-wanted-2
returns-in-Body-wanted-2 c = λ depth. rw (c.in-Body.is, c.in-Body-wanted-2.is)
    (pushed_result is_body (record { role = is_body; tree = tree_of c.args.e.now; limit = c.args.scope.from; depth = depth }) c.args.list c.pushed-in-Body-wanted-2.result refl c.pushed-in-Body-wanted-2.ensures.parts c.pushed-in-Body-wanted-2.ensures.stop)

pub returns-in-Anywhere-wanted-2 : goal.returns-in-Anywhere-wanted-2
returns-in-Anywhere-wanted-2 c = λ depth. rw (c.in-Body.is, c.in-Anywhere-wanted-2.is) (skipped anywhere (record { role = is_body; tree = tree_of c.args.e.now; limit = c.args.scope.from; depth = depth }) c.args.list refl)

pub returns-in-Divides-wanted-2 : goal.returns-in-Divides-wanted-2
returns-in-Divides-wanted-2 c = λ depth. rw (c.in-Body.is, c.in-Divides-wanted-2.is) (skipped divides (record { role = is_body; tree = tree_of c.args.e.now; limit = c.args.scope.from; depth = depth }) c.args.list refl)
