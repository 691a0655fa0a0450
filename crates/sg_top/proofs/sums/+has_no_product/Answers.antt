use Rattle.std.proofs.Common.{sym, ◌∙◌, inl, inr}
use Rattle.sg_expr.specs.Tree.{tree_of}
use Rattle.sg_worth_theory.proofs.Plain.{HasNoProduct}
use Rattle.sg_top.proofs.Parted.{not_true, left_plain}
use Rattle.sg_top.proofs.sums.+has_no_product.Goals as goal

pub returns-else-has_no_product : goal.returns-else-has_no_product
returns-else-has_no_product t c =
    let same = rw c.deref-in-Add.ensures at c.has_no_product-in-Add.ensures in
    let left = left_plain (tree_of c.in-Add.a.value) (tree_of c.in-Add.b.value) in
    let first : HasNoProduct (tree_of c.args.e.now) → HasNoProduct (tree_of c.in-Add.a.value) =
    elim c.in-Add.is [
      | inl e ↦ λ h. left (rw e at h)
      | inr more ↦ elim more [ inl e ↦ λ h. left (rw e at h) | inr e ↦ λ h. left (rw e at h) ]
    ] in
    (λ k. absurd (not_true (sym c.if-has_no_product.false ∙ k)), λ h. same.1 (first h))
