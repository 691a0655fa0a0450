-- Expressions that agree have one list of terms, products and sums alike.
--   one_terms      the elements of expressions that agree from some point on have one list of terms in descending order
--   one_element_of  and the other way: one list of terms is of one element
use Rattle.std.proofs.Common.{◌≡◌, ℕ, ℤ, sym, subst, List}
use Rattle.sg_algebra.specs.Coefficients.{Each}
use Rattle.sg_algebra.proofs.Value.{Value}
use Rattle.sg_spec.specs.Tree.{Tree}
use Rattle.sg_tower_theory.proofs.Flat.{Term, IsFlat, of_terms}
use Rattle.sg_tower_theory.proofs.Formal.{Formal, Element, elements, IsIndependent}
use Rattle.sg_value_theory.proofs.PointsOf.{HasValues, HasUnits}
use Rattle.sg_forms_theory.proofs.Terms.{one_flat}
use Rattle.sg_answers_theory.proofs.ElementsOver.{AgreesFrom}
use Rattle.sg_answers_theory.proofs.ZeroPast.{FollowFrom}
use Rattle.sg_answers_theory.proofs.Answers.{one_element}
use Rattle.sg_answers_theory.proofs.Meeting.{Meet}

module _ {d : ℕ} (letter : Value d) (s : ℤ) (ps gens : List Tree) (F : Formal d) (follow : FollowFrom letter s ps gens F) (units : Each (HasUnits letter) ps)
    (values : Each (HasValues letter) gens) (independent : IsIndependent F) where
  pub one_terms : (f g : Tree) (x y : Element F) (ts us : List (Term d)) → AgreesFrom letter s ps gens F x f → AgreesFrom letter s ps gens F y g
      → IsFlat F x ts → IsFlat F y us → Meet letter f g → ts ≡ us
  one_terms f g x y ts us a b h k m = one_flat F x y ts us (one_element letter s ps gens F follow units values independent f g x y a b m) h k

  pub one_element_of : (x y : Element F) (ts us : List (Term d)) → IsFlat F x ts → IsFlat F y us → ts ≡ us → (elements F).◌≈◌ x y
  one_element_of x y ts us h k e = (elements F).trans h.same (subst (λ (zs : List (Term d)). (elements F).◌≈◌ (of_terms F zs) y) (sym e) ((elements F).symm k.same))
