use Rattle.std.proofs.Common.{map, ◌∙◌, ap, ◌++◌, codes, List, ℕ}
use Rattle.sg_expr.specs.Tree.{tree_of}
use Rattle.sg_expr.specs.declared.tree.Expr.{Expr}
use Rattle.sg_top.specs.Lines.{listed}
use Rattle.sg_top.proofs.Listing.{none-is}
use Rattle.sg_top.proofs.sums.none_reply.Goals as goal

pub returns-clause-text : goal.returns-clause-text
returns-clause-text c =
    rw c.no.ensures
    (none-is (map tree_of c.args.facts.now.prods) (map tree_of c.args.facts.now.sums) c.in_ok-text.text.items c.as_slice-3.result.now c.as_slice-4.result.now c.extend_from_slice-3.new.self.items c.in_ok-text.ensures.items
    (c.as_slice-3.ensures.value ∙ c.in_ok-prods.ensures ∙ ap (λ (l : List Expr). listed (map tree_of l)) c.as_slice.ensures)
    (c.as_slice-4.ensures.value ∙ c.in_ok-sums.ensures ∙ ap (λ (l : List Expr). listed (map tree_of l)) c.as_slice-2.ensures)
    (c.in_ok-extend_from_slice-3.ensures.items
    ∙ ap (λ (w : List ℕ). w ++ codes "\n") (c.in_ok-extend_from_slice-2.ensures.items ∙ ap (λ (w : List ℕ). w ++ c.as_slice-4.result.now) c.in_ok-extend_from_slice.ensures.items)))
