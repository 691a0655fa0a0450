-- From what is known of the expressions of a command to what the build of a tower asks.
--   summand-is        the first expression is a summand over the facts
--   facts-sound       the facts are sound
--   facts-plain       and hold no parameter
--   command-..        the same from the expressions of a program
--   first-closed, first-canonical, first-form, first-none     what is answered of them is so of the expressions
use Rattle.std.proofs.Common.{◌≡◌, ◌<◌, sym, ap, ◌∙◌, subst, List, [], ◌∷◌, length, map, get_or, ℤ, ◌≤ℤ◌, Option, Some, None, false, Contains, arith}
use Rattle.std.specs.Prelude.{All, IfSome, IfNone}
use Rattle.std.proofs.lemmas.List.Elements.{Contains-append_left}
use Rattle.sg_algebra.specs.Coefficients.{Each}
use Rattle.sg_spec.specs.Tree.{Tree}
use Rattle.sg_spec.specs.Generators.{all_sums, concatenated, Over}
use Rattle.sg_spec.specs.Printing.{InForm}
use Rattle.sg_expr.specs.Tree.{tree_of}
use Rattle.sg_expr.specs.declared.tree.Expr.{Expr}
use Rattle.sg_worth_theory.proofs.Plain.{none_multiplied}
use Rattle.sg_value_theory.proofs.OwnSums.{distinct_has}
use Rattle.sg_limits.specs.Sound.{IsSound}
use Rattle.sg_limits.proofs.Soundness.{plain_sound}
use Rattle.sg_limits.proofs.Starts.{start-from}
use Rattle.sg_limits.specs.declared.inspection.Facts.{Facts}
use Rattle.sg_build.specs.Letters.{letter, HasNoLetter}
use Rattle.sg_depth.specs.Commands.{AreSound, AreAdmitted, sums_of, prods_of}
use Rattle.sg_depth_theory.proofs.Listed.{built_own}
use Rattle.sg_depth.proofs.Inspected.{facts_sound, letter_of, no_letter, sums_form}
use Rattle.sg_nested.specs.Commands.{IsFirstClosed, IsFirstCanonical, HasNoFirst}
use Rattle.sg_nested.specs.Summands.{IsSummand, IsClosedForm, IsCanonicalForm, IsPrintedForm, HasNoClosedForm, IsAnswer}

module _ (facts : Facts) (f : Tree) (others : List Tree) (a : ℤ) (are : AreAdmitted a facts (f ∷ others)) where
  sound-es : IsSound (letter 0) a (f ∷ others)
  sound-es = plain_sound (letter 0) a (f ∷ others) are.within.form are.spared

  own : (t : Tree) → Contains (all_sums f) t → Contains (sums_of facts) t
  own t c =
      subst (λ (l : List Tree). Contains l t) (sym are.facts_are.sums_are)
      (distinct_has (concatenated all_sums (f ∷ others)) t (Contains-append_left (all_sums f) (concatenated all_sums others) t c))

  pub summand-is : IsSummand facts f a
  summand-is = record {
    built = built_own (prods_of facts) (sums_of facts) f are.within.form.0 are.plain.0 own;
    no_letter = letter_of 0 false f are.within.form.0;
    values = sound-es.values.0;
    below = subst (λ (s : ℤ). a ≤ℤ s) (sym are.facts_are.start_is) (start-from (f ∷ others) a);
  }

  pub facts-sound : AreSound (letter 0) facts
  facts-sound =
      facts_sound (letter 0) a (f ∷ others) are.within.form facts are.facts_are are.within.kept (none_multiplied (f ∷ others) are.plain) are.spared
      are.within.low are.within.high

  pub facts-plain : All (HasNoLetter 0) (sums_of facts)
  facts-plain = no_letter 0 a (f ∷ others) are.within.form facts are.facts_are

  pub first-closed : (h : Tree) → IsClosedForm facts f a h → IsFirstClosed a (f ∷ others) h
  first-closed h c = let at = are.facts_are in rw at.start_is at (c others at.start_is at.prods_are at.sums_are)

  pub first-canonical : (h : Tree) → IsCanonicalForm facts h → IsFirstCanonical (f ∷ others) h
  first-canonical h c = rw (are.facts_are.prods_are, are.facts_are.sums_are) at c

  pub first-form : (h : Tree) → IsPrintedForm facts h → InForm false false h
  first-form h c = c (subst (Each (InForm false false)) (sym are.facts_are.sums_are) (sums_form (f ∷ others) are.within.form))

  pub first-none : HasNoClosedForm facts f → HasNoFirst (f ∷ others)
  first-none n e over = n e (subst (λ (l : List Tree). Over l e) (sym are.facts_are.sums_are) over)

-- ---- The expressions of a program

module _ (facts : Facts) (items : List Expr) (e : Expr) (a : ℤ) (some : 0 < length items) (first : e ≡ get_or items 0 e) (are : AreAdmitted a facts (map tree_of items)) where
  split : (others : List Tree) × (map tree_of items ≡ tree_of e ∷ others)
  split = go items some first
    where
      go : (xs : List Expr) → 0 < length xs → e ≡ get_or xs 0 e → (others : List Tree) × (map tree_of xs ≡ tree_of e ∷ others)
      go [] l h = absurd (omega (arith, l))
      go (x ∷ xs) l h = (map tree_of xs, ap (λ (y : Expr). tree_of y ∷ map tree_of xs) (sym h))

  admitted : (s : (others : List Tree) × (map tree_of items ≡ tree_of e ∷ others)) → AreAdmitted a facts (tree_of e ∷ s.0)
  admitted s = subst (λ (es : List Tree). AreAdmitted a facts es) s.1 are

  pub command-summand : IsSummand facts (tree_of e) a
  command-summand = let s = split in summand-is facts (tree_of e) s.0 a (admitted s)

  pub command-sound : AreSound (letter 0) facts
  command-sound = let s = split in facts-sound facts (tree_of e) s.0 a (admitted s)

  pub command-plain : All (HasNoLetter 0) (sums_of facts)
  command-plain = let s = split in facts-plain facts (tree_of e) s.0 a (admitted s)

  pub command-closed : (o : Option Expr) → IsAnswer facts (tree_of e) a o → IfSome o (λ h. IsFirstClosed a (map tree_of items) (tree_of h))
  command-closed None n = tt
  command-closed (Some h) c = let s = split in rw s.1 (first-closed facts (tree_of e) s.0 a (admitted s) (tree_of h) c.0)

  pub command-canonical : (o : Option Expr) → IsAnswer facts (tree_of e) a o → IfSome o (λ h. IsFirstCanonical (map tree_of items) (tree_of h))
  command-canonical None n = tt
  command-canonical (Some h) c = let s = split in rw s.1 (first-canonical facts (tree_of e) s.0 a (admitted s) (tree_of h) c.1)

  pub command-form : (o : Option Expr) → IsAnswer facts (tree_of e) a o → IfSome o (λ h. InForm false false (tree_of h))
  command-form None n = tt
  command-form (Some h) c = let s = split in first-form facts (tree_of e) s.0 a (admitted s) (tree_of h) c.2

  pub command-none : (o : Option Expr) → IsAnswer facts (tree_of e) a o → IfNone o (HasNoFirst (map tree_of items))
  command-none None n = let s = split in rw s.1 (first-none facts (tree_of e) s.0 a (admitted s) n)
  command-none (Some h) c = tt
