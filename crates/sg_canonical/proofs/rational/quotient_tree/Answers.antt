use Rattle.std.proofs.Common.{◌≡◌, length, map, sym, ap, ◌∙◌, rules}
use Rattle.std.proofs.lemmas.Bool.{eqb-false}
use Rattle.sg_expr.specs.Tree.{tree_of}
use Rattle.sg_spec.specs.Canonical.{total_tree}
use Rattle.sg_canonical.specs.Signs.{signed_of}
use Rattle.sg_canonical.proofs.RationalTrees.{quotient-written}
use Rattle.sg_canonical.proofs.rational.quotient_tree.Goals as goal

pub returns-clause-tree : goal.returns-clause-tree
returns-clause-tree c =
    let total : tree_of c.in_ok-t.t ≡ total_tree (map signed_of c.in_ok-terms.terms) = search rules in
    total ∙ ap total_tree c.in_ok-terms.ensures.terms
    ∙ quotient-written c.args.q.now.upper c.args.q.now.lower (eqb-false (length c.args.q.now.upper) 0 (sym c.is_empty.ensures ∙ c.if-is_empty.false))
