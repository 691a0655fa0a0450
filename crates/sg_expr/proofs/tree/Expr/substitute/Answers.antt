use Rattle.std.proofs.Common.{ap, ◌∙◌}
use Rattle.sg_spec.specs.Value.{val}
use Rattle.sg_expr.specs.Tree.{tree_of}
use Rattle.sg_expr.proofs.Substitution.{val-substituted}
use Rattle.sg_expr.proofs.tree.Expr.substitute.Goals as goal

pub returns-clause-value : goal.returns-clause-value
returns-clause-value c = λ n k. ap (λ t. val t n k) c.in_ok-e.ensures ∙ val-substituted c.args.i (tree_of c.args.self.now) n k
