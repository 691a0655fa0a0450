-- What is answered of the items in the tower is so of the expressions of a command.
--   first-simplified, one-form-is    of the first expression
--   check-yes, check-no              of the first two
--   told-is, told-printed            of the sums
use Rattle.std.proofs.Common.{◌≡◌, ◌<◌, sym, subst, List, [], ◌∷◌, length, map, get_or, ℤ, Some, None, Option, Bool, true, false}
use Rattle.std.specs.Bool.{OnTrue, OnFalse}
use Rattle.sg_algebra.specs.Coefficients.{Each}
use Rattle.sg_spec.specs.Tree.{Tree}
use Rattle.sg_spec.specs.Generators.{sums, start}
use Rattle.sg_spec.specs.Printing.{InForm}
use Rattle.sg_expr.specs.Tree.{tree_of}
use Rattle.sg_expr.specs.declared.tree.Expr.{Expr}
use Rattle.sg_limits.specs.Counts.{AreFacts}
use Rattle.sg_limits.specs.declared.inspection.Facts.{Facts}
use Rattle.sg_depth.specs.Commands.{sums_of}
use Rattle.sg_forms_theory.specs.Sums.{AreStandings, IsSimplest}
use Rattle.sg_forms_theory.specs.Checks.{TelescopesFrom}
use Rattle.sg_forms_theory.proofs.OneForm.{one-form, form-agrees}
use Rattle.sg_forms.specs.Wholes.{IsWhole}
use Rattle.sg_forms.specs.Marks.{marks_of}
use Rattle.sg_forms.specs.Commands.{IsFirstSimplified, HasOneForm, FirstTelescopes, FirstFails, AreTold, IsPrinted, ArePrinted}
use Rattle.sg_forms.specs.Listed.{IsSimplestOf, IsPrintedMark, IsCheck}
use Rattle.sg_forms.specs.declared.frees.Standing.{Standing}
use Rattle.sg_forms.proofs.Facts.{one-item, two-items}

alone : (a : ℤ) (es : List Tree) (h : Tree) → IsFirstSimplified a es h → HasOneForm es h
alone a [] h is = is
alone a (f ∷ others) h is = λ b g more e same other.
    let moved = subst (λ (ss : List Tree). IsSimplest IsWhole (start (g ∷ more) b) ss g e) same other in
    (one-form IsWhole (start (f ∷ others) a) (start (g ∷ more) b) (sums (f ∷ others)) f g h e is moved, form-agrees IsWhole (start (f ∷ others) a) (start (g ∷ more) b) (sums (f ∷ others)) f g h e is moved)

module _ (facts : Facts) (items : List Expr) (e : Expr) (a : ℤ) (some : 0 < length items) (first : e ≡ get_or items 0 e) (are : AreFacts facts (Some a) (map tree_of items)) where
  pub first-simplified : (h : Tree) → IsSimplestOf facts (tree_of e) h → IsFirstSimplified a (map tree_of items) h
  first-simplified h is =
      let s = one-item items e some first in
      let moved = subst (λ (k : ℤ). IsSimplest IsWhole k (sums (map tree_of items)) (tree_of e) h) are.start_is (subst (λ (ss : List Tree). IsSimplest IsWhole facts.start ss (tree_of e) h) are.sums_are is) in
      subst (λ (es : List Tree). IsFirstSimplified a es h) (sym s.1) (subst (λ (es : List Tree). IsSimplest IsWhole (start es a) (sums es) (tree_of e) h) s.1 moved)

  pub one-form-is : (h : Tree) → IsSimplestOf facts (tree_of e) h → HasOneForm (map tree_of items) h
  one-form-is h is = alone a (map tree_of items) h (first-simplified h is)

module _ (facts : Facts) (items : List Expr) (e g : Expr) (a : ℤ) (two : 1 < length items) (first : e ≡ get_or items 0 e) (second : g ≡ get_or items 1 g) (are : AreFacts facts (Some a) (map tree_of items)) where
  pub check-yes : (b : Bool) → IsCheck facts (tree_of e) (tree_of g) b → OnTrue b (FirstTelescopes a (map tree_of items))
  check-yes true is =
      let s = two-items items e g two first second in
      let moved = subst (λ (k : ℤ). TelescopesFrom k (tree_of g) (tree_of e)) are.start_is is in
      subst (λ (es : List Tree). FirstTelescopes a es) (sym s.1) (subst (λ (es : List Tree). TelescopesFrom (start es a) (tree_of g) (tree_of e)) s.1 moved)
  check-yes false is = tt

  pub check-no : (b : Bool) → IsCheck facts (tree_of e) (tree_of g) b → OnFalse b (FirstFails (map tree_of items))
  check-no true is = tt
  check-no false is = let s = two-items items e g two first second in subst (λ (es : List Tree). FirstFails es) (sym s.1) is

module _ (facts : Facts) (es : List Tree) (a : ℤ) (are : AreFacts facts (Some a) es) where
  pub told-is : (told : List Standing) → AreStandings IsWhole facts.start (sums_of facts) (marks_of told) → AreTold (start es a) (sums es) told
  told-is told is = subst (λ (k : ℤ). AreStandings IsWhole k (sums es) (marks_of told)) are.start_is (subst (λ (ss : List Tree). AreStandings IsWhole facts.start ss (marks_of told)) are.sums_are is)

  pub told-printed : Each (InForm false false) (sums_of facts) → (told : List Standing) → Each (IsPrintedMark facts) (marks_of told) → ArePrinted told
  told-printed sums_form told is = go (marks_of told) is
    where
      go : (os : List (Option Tree)) → Each (IsPrintedMark facts) os → Each IsPrinted os
      go [] h = tt
      go (None ∷ os) h = (tt, go os h.1)
      go (Some t ∷ os) h = (h.0 sums_form, go os h.1)
