use Rattle.std.proofs.Common.{rules}
use Rattle.sg_expr.specs.Tree.{tree_of}
use Rattle.sg_worth_theory.proofs.Plain.{HasNoProduct}
use Rattle.sg_top.proofs.Items.{later-found}
use Rattle.sg_top.proofs.sums.first_later.Goals as goal

pub returns-then-not-has_no_product : goal.returns-then-not-has_no_product
returns-then-not-has_no_product c =
    let product : HasNoProduct (tree_of c.index-items-i.result) → ⊥ = search rules in
    later-found c.args.items.now c.loop-i.i c.index-items-i.result c.loop-i-test.true c.index-items-i.is c.loop-i.invariant product
