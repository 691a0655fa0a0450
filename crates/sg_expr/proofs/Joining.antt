-- Lists of trees without repeats.
--   joined_append    two lists are joined one after the other
--   has_tree_map     a tree is known where an expression of the list has it
use Rattle.std.proofs.Common.{◌≡◌, refl, ap, ◌∙◌, Bool, true, false, cond, List, [], ◌∷◌, ◌++◌, ◌||◌, map}
use Rattle.std.specs.List.{list_any}
use Rattle.sg_spec.specs.Tree.{Tree}
use Rattle.sg_spec.specs.Generators.{with_new, has_tree, same_tree}
use Rattle.sg_expr.specs.declared.tree.Expr.{Expr}
use Rattle.sg_expr.specs.Tree.{tree_of}

pub joined_append : (known ts us : List Tree) → with_new known (ts ++ us) ≡ with_new (with_new known ts) us
joined_append known [] us = refl
joined_append known (t ∷ ts) us = joined_append (cond (has_tree t known) known (known ++ (t ∷ []))) ts us

cond-or : (b c : Bool) → cond b true c ≡ (b || c)
cond-or true c = refl
cond-or false c = refl

pub has_tree_map : (t : Tree) (es : List Expr) → has_tree t (map tree_of es) ≡ list_any (λ e. same_tree t (tree_of e)) es
has_tree_map t [] = refl
has_tree_map t (e ∷ es) =
    cond-or (same_tree t (tree_of e)) (has_tree t (map tree_of es)) ∙ ap (λ b. same_tree t (tree_of e) || b) (has_tree_map t es)
