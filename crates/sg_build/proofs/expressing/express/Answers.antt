use Rattle.std.proofs.Common.{List, map, reverse, ap, ◌∙◌, subst}
use Rattle.std.proofs.lemmas.List.{reverse-reverse, length-map}
use Rattle.sg_spec.specs.Tree.{Tree}
use Rattle.sg_expr.specs.Tree.{tree_of}
use Rattle.sg_build.specs.Expressions.{IsExpression}
use Rattle.sg_build.proofs.ExpressedValues.{expression-value}
use Rattle.sg_build.proofs.ExpressedForms.{expression-canonical, expression-built, expression-over, expression-printed}
use Rattle.sg_build.proofs.expressing.express.Goals as goal

pub returns-clause-tree : goal.returns-clause-tree
returns-clause-tree g c =
    let ρ = g.T.Tower.reading g.K.Field.vars g.K.Field.val c.args.tower.now in
    subst (λ (l : List Tree). IsExpression (g.K.Letters.form g.K.Field.vars) ρ.formal (ρ.of c.args.e.now) (map tree_of c.args.prods.now) l (tree_of c.in_ok-t.t))
    (ap (λ l. reverse (map tree_of l)) c.as_slice.ensures ∙ ap reverse c.in_ok-last_first.ensures ∙ reverse-reverse (map tree_of c.args.sums.now)) c.in_ok-t.ensures.tree

pub returns-clause-value : goal.returns-clause-value
returns-clause-value g c =
    let ρ = g.T.Tower.reading g.K.Field.vars g.K.Field.val c.args.tower.now in
    expression-value (g.K.Letters.form g.K.Field.vars) g.met.K.Letters.forms ρ.formal (ρ.of c.args.e.now) (map tree_of c.args.prods.now) (map tree_of c.args.sums.now) (tree_of c.in_ok-t.t) (returns-clause-tree g c)
    (length-map c.args.prods.now tree_of ∙ c.requires.one_each) (length-map c.args.sums.now tree_of ∙ c.requires.one_sum_each)

pub returns-clause-canonical : goal.returns-clause-canonical
returns-clause-canonical g c =
    let ρ = g.T.Tower.reading g.K.Field.vars g.K.Field.val c.args.tower.now in
    expression-canonical (g.K.Letters.form g.K.Field.vars) g.met.K.Letters.forms ρ.formal (ρ.of c.args.e.now) (map tree_of c.args.prods.now) (map tree_of c.args.sums.now) (tree_of c.in_ok-t.t) (returns-clause-tree g c)
    (length-map c.args.prods.now tree_of ∙ c.requires.one_each) (length-map c.args.sums.now tree_of ∙ c.requires.one_sum_each)

pub returns-clause-built : goal.returns-clause-built
returns-clause-built g c =
    let ρ = g.T.Tower.reading g.K.Field.vars g.K.Field.val c.args.tower.now in
    expression-built (g.K.Letters.form g.K.Field.vars) g.met.K.Letters.forms ρ.formal (ρ.of c.args.e.now) (map tree_of c.args.prods.now) (map tree_of c.args.sums.now) (tree_of c.in_ok-t.t) (returns-clause-tree g c)

pub returns-clause-over : goal.returns-clause-over
returns-clause-over g c =
    let ρ = g.T.Tower.reading g.K.Field.vars g.K.Field.val c.args.tower.now in
    expression-over (g.K.Letters.form g.K.Field.vars) g.met.K.Letters.forms ρ.formal (ρ.of c.args.e.now) (map tree_of c.args.prods.now) (map tree_of c.args.sums.now) (tree_of c.in_ok-t.t) (returns-clause-tree g c)

pub returns-clause-form : goal.returns-clause-form
returns-clause-form g c =
    let ρ = g.T.Tower.reading g.K.Field.vars g.K.Field.val c.args.tower.now in
    expression-printed (g.K.Letters.form g.K.Field.vars) g.met.K.Letters.forms ρ.formal (ρ.of c.args.e.now) (map tree_of c.args.prods.now) (map tree_of c.args.sums.now) (tree_of c.in_ok-t.t) (returns-clause-tree g c)
