use Rattle.std.proofs.Common.{◌≡◌, List, map, ap, sym, ◌∙◌, subst, refl}
use Rattle.sg_algebra.proofs.Polynomial.{poly, EndsNonzero}
use Rattle.sg_num.specs.Value.{number}
use Rattle.sg_num.specs.declared.rat.Rat.{Rat}
use Rattle.sg_poly.specs.Divisors.{IsMonic}
use Rattle.sg_algebra.proofs.Value.{zero_value}
use Rattle.sg_ratfun.specs.Fractions.{ratio}
use Rattle.sg_expr.specs.Tree.{tree_of}
use Rattle.sg_canonical.proofs.RationalTrees.{monic-rats, tree-made, tree-canonical, tree-over, tree-form, tree-value}
use Rattle.sg_canonical.proofs.rational.rational_tree.Goals as goal

pub primitive_quotient-requires : goal.primitive_quotient-requires
primitive_quotient-requires c =
    record {
      monic = monic-rats c.coeffs-2.result.now (subst (λ (l : List Rat). IsMonic (map number l)) (sym c.coeffs-2.ensures.value) c.in_ok-lower.ensures.monic)
          (subst (λ (l : List Rat). EndsNonzero (map number l)) (sym c.coeffs-2.ensures.value) c.coeffs-2.ensures.ends);
    }

pub returns-clause-tree : goal.returns-clause-tree
returns-clause-tree c =
    tree-made (map number c.args.r.now.0) (map number c.args.r.now.1) (map number c.coeffs.result.now) (map number c.coeffs-2.result.now) c.in_ok-quotient.quotient.upper c.in_ok-quotient.quotient.lower (tree_of c.in_ok-t.t)
    (ap (λ (l : List Rat). poly (map number l)) c.coeffs.ensures.value ∙ c.in_ok-upper.ensures.value)
    (ap (λ (l : List Rat). poly (map number l)) c.coeffs-2.ensures.value ∙ c.in_ok-lower.ensures.value)
    c.in_ok-upper.ensures.reduced
    (subst (λ (l : List Rat). EndsNonzero (map number l)) (sym c.coeffs.ensures.value) c.coeffs.ensures.ends)
    (subst (λ (l : List Rat). EndsNonzero (map number l)) (sym c.coeffs-2.ensures.value) c.coeffs-2.ensures.ends)
    (subst (λ (l : List Rat). IsMonic (map number l)) (sym c.coeffs-2.ensures.value) c.in_ok-lower.ensures.monic)
    c.in_ok-quotient.ensures.value c.in_ok-t.ensures.tree

pub returns-clause-canonical : goal.returns-clause-canonical
returns-clause-canonical c = tree-canonical (ratio number c.args.r.now) (tree_of c.in_ok-t.t) (returns-clause-tree c)

pub returns-clause-over : goal.returns-clause-over
returns-clause-over c = tree-over (ratio number c.args.r.now) (tree_of c.in_ok-t.t) (returns-clause-tree c)

pub returns-clause-form : goal.returns-clause-form
returns-clause-form c = tree-form (ratio number c.args.r.now) (tree_of c.in_ok-t.t) (returns-clause-tree c)

pub returns-clause-value : goal.returns-clause-value
returns-clause-value c k n =
    tree-value (ratio number c.args.r.now) (tree_of c.in_ok-t.t) (returns-clause-tree c) zero_value k (map number c.args.r.now.0) (map number c.args.r.now.1) refl n
