-- From what is known of the expressions of a command to what the tower over their sums asks, where a is the number from which on they have values.
--   facts-sound, facts-plain      the facts are sound, and hold no parameter
--   listed-at                     each expression is one over the sums
--   item-listed, two-items        so of the expressions of a program
--   sums-printed                  the sums are printed as they are
use Rattle.std.proofs.Common.{◌≡◌, ℕ, zero, suc, ◌<◌, refl, sym, ap, ◌∙◌, subst, List, [], ◌∷◌, ◌++◌, length, map, get_or, ℤ, pos, negsuc, ◌≤ℤ◌, None, Some, false, Contains, append_assoc, arith}
use Rattle.std.specs.Prelude.{All}
use Rattle.std.proofs.lemmas.Int.{ints}
use Rattle.std.proofs.lemmas.List.Elements.{Contains-append_left, Contains-append_right}
use Rattle.sg_algebra.specs.Coefficients.{Each}
use Rattle.sg_spec.specs.Tree.{Tree}
use Rattle.sg_spec.specs.Generators.{start, all_sums, concatenated}
use Rattle.sg_spec.specs.Printing.{InForm}
use Rattle.sg_expr.specs.Tree.{tree_of}
use Rattle.sg_expr.specs.declared.tree.Expr.{Expr}
use Rattle.sg_worth_theory.proofs.Bodies.{HasValues}
use Rattle.sg_worth_theory.proofs.Plain.{HasNoProduct, none_multiplied}
use Rattle.sg_value_theory.proofs.OwnSums.{distinct_has}
use Rattle.sg_depth_theory.proofs.Listed.{built_own}
use Rattle.sg_limits.proofs.Elementary.{each_right}
use Rattle.sg_limits.proofs.Soundness.{plain_sound}
use Rattle.sg_limits.proofs.Starts.{start-from}
use Rattle.sg_limits.specs.declared.inspection.Facts.{Facts}
use Rattle.sg_build.specs.Letters.{letter, HasNoLetter}
use Rattle.sg_depth.specs.Commands.{AreSound, AreAdmitted, sums_of, prods_of}
use Rattle.sg_depth.proofs.Inspected.{facts_sound, letter_of, no_letter, sums_form}
use Rattle.sg_forms.specs.Listed.{IsListed}

-- ---- The expressions of a command

concatenated-append : (f : Tree → List Tree) (xs ys : List Tree) → concatenated f (xs ++ ys) ≡ concatenated f xs ++ concatenated f ys
concatenated-append f [] ys = refl
concatenated-append f (x ∷ xs) ys = ap (λ (l : List Tree). f x ++ l) (concatenated-append f xs ys) ∙ sym (append_assoc (f x) (concatenated f xs) (concatenated f ys))

module _ (facts : Facts) (es : List Tree) (a : ℤ) (are : AreAdmitted a facts es) where
  form : Each (InForm false false) es
  form = are.within.form

  pub facts-sound : AreSound (letter 0) facts
  facts-sound = facts_sound (letter 0) a es form facts are.facts_are are.within.kept (none_multiplied es are.plain) are.spared are.within.low are.within.high

  pub facts-plain : All (HasNoLetter 0) (sums_of facts)
  facts-plain = no_letter 0 a es form facts are.facts_are

  pub sums-printed : Each (InForm false false) (sums_of facts)
  sums-printed = subst (Each (InForm false false)) (sym are.facts_are.sums_are) (sums_form es form)

  pub listed-at : (front : List Tree) (t : Tree) (back : List Tree) → es ≡ front ++ t ∷ back → IsListed facts t
  listed-at front t back e = record {
    built = built_own (prods_of facts) (sums_of facts) t t_form (each_right HasNoProduct front (t ∷ back) (subst (Each HasNoProduct) e are.plain)).0 own;
    no_letter = letter_of 0 false t t_form;
    values = λ k l. (each_right (HasValues (letter 0) a) front (t ∷ back) (subst (Each (HasValues (letter 0) a)) e (plain_sound (letter 0) a es form are.spared).values)).0 k (up (start es a) k (start-from es a) (subst (λ (s : ℤ). s ≤ℤ k) are.facts_are.start_is l));
  }
    where
      t_form : InForm false false t
      t_form = (each_right (InForm false false) front (t ∷ back) (subst (Each (InForm false false)) e form)).0

      up : (s k : ℤ) → a ≤ℤ s → s ≤ℤ k → a ≤ℤ k
      up s k l m = omega (arith, ints, l, m)

      own : (u : Tree) → Contains (all_sums t) u → Contains (sums_of facts) u
      own u c =
          subst (λ (l : List Tree). Contains l u) (sym are.facts_are.sums_are)
          (distinct_has (concatenated all_sums es) u
          (subst (λ (l : List Tree). Contains l u) (sym (ap (concatenated all_sums) e ∙ concatenated-append all_sums front (t ∷ back)))
          (Contains-append_right (concatenated all_sums front) (all_sums t ++ concatenated all_sums back) u (Contains-append_left (all_sums t) (concatenated all_sums back) u c))))

-- ---- The expressions of a program

pub item-split : (items : List Expr) (i : ℕ) (e : Expr) → i < length items → e ≡ get_or items i e → (front : List Tree) × (back : List Tree) × (map tree_of items ≡ front ++ tree_of e ∷ back)
item-split [] i e l h = absurd (omega (arith, l))
item-split (x ∷ items) zero e l h = ([], map tree_of items, ap (λ (y : Expr). tree_of y ∷ map tree_of items) (sym h))
item-split (x ∷ items) (suc i) e l h =
    let r = item-split items i e (omega (arith, l)) h in
    (tree_of x ∷ r.0, r.1, ap (λ (ts : List Tree). tree_of x ∷ ts) r.2)

pub one-item : (items : List Expr) (e : Expr) → 0 < length items → e ≡ get_or items 0 e → (others : List Tree) × (map tree_of items ≡ tree_of e ∷ others)
one-item [] e l h = absurd (omega (arith, l))
one-item (x ∷ items) e l h = (map tree_of items, ap (λ (y : Expr). tree_of y ∷ map tree_of items) (sym h))

pub two-items : (items : List Expr) (e g : Expr) → 1 < length items → e ≡ get_or items 0 e → g ≡ get_or items 1 g → (others : List Tree) × (map tree_of items ≡ tree_of e ∷ (tree_of g ∷ others))
two-items [] e g l h k = absurd (omega (arith, l))
two-items (x ∷ []) e g l h k = absurd (omega (arith, l))
two-items (x ∷ (y ∷ items)) e g l h k =
    (map tree_of items, ap (λ (z : Expr). tree_of z ∷ (tree_of y ∷ map tree_of items)) (sym h) ∙ ap (λ (z : Expr). tree_of e ∷ (tree_of z ∷ map tree_of items)) (sym k))

module _ (facts : Facts) (items : List Expr) (a : ℤ) (are : AreAdmitted a facts (map tree_of items)) where
  pub item-listed : (i : ℕ) (e : Expr) → i < length items → e ≡ get_or items i e → IsListed facts (tree_of e)
  item-listed i e l h = let s = item-split items i e l h in listed-at facts (map tree_of items) a are s.0 (tree_of e) s.1 s.2

  pub items-sound : AreSound (letter 0) facts
  items-sound = facts-sound facts (map tree_of items) a are

  pub items-plain : All (HasNoLetter 0) (sums_of facts)
  items-plain = facts-plain facts (map tree_of items) a are

  pub items-printed : Each (InForm false false) (sums_of facts)
  items-printed = sums-printed facts (map tree_of items) a are
