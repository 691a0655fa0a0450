-- What the inspection answers is sound, for expressions without products and parameter.
--   facts_sound       the facts are
--   letter_of         what is in form without the parameter holds none
--   no_letter         so the sums of the facts hold none
--   sums_form         the sums of expressions in form are in form
use Rattle.std.proofs.Common.{◌≡◌, ℕ, ℤ, pos, negsuc, ◌≤ℤ◌, Bool, true, false, true≢false, None, Some, refl, sym, subst, List, [], ◌∷◌, All, arith}
use Rattle.std.proofs.lemmas.Int.{ints}
use Rattle.sg_algebra.specs.Coefficients.{Each}
use Rattle.sg_algebra.proofs.Value.{Value}
use Rattle.sg_spec.specs.Tree.{Tree, numeral, here, param, add, neg, mul, div, power, sum_from, prod_from}
use Rattle.sg_spec.specs.Printing.{InForm}
use Rattle.sg_spec.specs.Limits.{counted}
use Rattle.sg_spec.specs.Faults.{parts_of, AreSpared}
use Rattle.sg_spec.specs.Generators.{all_sums, concatenated, sums, prods, start}
use Rattle.sg_value_theory.proofs.TowerOf.{IsSound}
use Rattle.sg_value_theory.proofs.Lists.{each-at}
use Rattle.sg_depth_theory.proofs.Listed.{over_earlier, once, few_listed, start_high}
use Rattle.sg_build.specs.Letters.{HasNoLetter}
use Rattle.sg_limits.specs.Counts.{AreFacts}
use Rattle.sg_limits.specs.declared.inspection.Facts.{Facts}
use Rattle.sg_limits.proofs.Bodies.{each_with_new}
use Rattle.sg_limits.proofs.Elementary.{each_append}
use Rattle.sg_limits.proofs.Soundness.{plain_sound}
use Rattle.sg_limits.proofs.Starts.{start-from}
use Rattle.sg_depth.specs.Commands.{AreSound, sums_of, prods_of}

module _ {d : ℕ} (letter : Value d) (a : ℤ) (es : List Tree) (forms : Each (InForm false false) es) where
  listed_sound : counted es ≡ None → prods es ≡ [] → AreSpared (parts_of (Some a) es) → negsuc 1000 ≤ℤ a → a ≤ℤ pos 1000 → IsSound letter (start es a) (prods es) (sums es)
  listed_sound c e spared low high =
      let s = plain_sound letter a es forms spared in
      let l = start-from es a in record {
        few = few_listed es c;
        no_products = e;
        different = once es;
        not_low = omega (arith, ints, l, low);
        not_high = start_high false es a forms high;
        starts = s.sums_start;
        bodies = s.sums_have;
        over_earlier = over_earlier es forms e;
      }

  pub facts_sound : (facts : Facts) → AreFacts facts (Some a) es → counted es ≡ None → prods es ≡ [] → AreSpared (parts_of (Some a) es) → negsuc 1000 ≤ℤ a → a ≤ℤ pos 1000 → AreSound letter facts
  facts_sound facts are c e spared low high =
      subst (λ (k : ℤ). IsSound letter k (prods_of facts) (sums_of facts)) (sym are.start_is)
      (subst (λ (ps : List Tree). IsSound letter (start es a) ps (sums_of facts)) (sym are.prods_are)
      (subst (λ (ss : List Tree). IsSound letter (start es a) (prods es) ss) (sym are.sums_are) (listed_sound c e spared low high)))

-- ---- No parameter

pub letter_of : (d : ℕ) (in_product : Bool) (t : Tree) → InForm false in_product t → HasNoLetter d t
letter_of d p (numeral c) f = tt
letter_of d p here f = tt
letter_of d p param f = absurd (true≢false (sym f))
letter_of d p (add x y) f = (letter_of d p x f.0, letter_of d p y f.1)
letter_of d p (neg x) f = letter_of d p x f
letter_of d p (mul x y) f = (letter_of d p x f.0, letter_of d p y f.1)
letter_of d p (div x y) f = (letter_of d p x f.0, letter_of d p y f.1)
letter_of d p (power x n) f = letter_of d p x f
letter_of d p (sum_from from body) f = letter_of d false body f.2
letter_of d p (prod_from from body) f = letter_of d true body f.2

sums_letter : (d : ℕ) (in_product : Bool) (t : Tree) → InForm false in_product t → Each (HasNoLetter d) (all_sums t)
sums_letter d p (numeral c) f = tt
sums_letter d p here f = tt
sums_letter d p param f = tt
sums_letter d p (add x y) f = each_append (HasNoLetter d) (all_sums x) (all_sums y) (sums_letter d p x f.0) (sums_letter d p y f.1)
sums_letter d p (neg x) f = sums_letter d p x f
sums_letter d p (mul x y) f = each_append (HasNoLetter d) (all_sums x) (all_sums y) (sums_letter d p x f.0) (sums_letter d p y f.1)
sums_letter d p (div x y) f = each_append (HasNoLetter d) (all_sums x) (all_sums y) (sums_letter d p x f.0) (sums_letter d p y f.1)
sums_letter d p (power x n) f = sums_letter d p x f
sums_letter d p (sum_from from body) f = each_append (HasNoLetter d) (all_sums body) (sum_from from body ∷ []) (sums_letter d false body f.2) (letter_of d false body f.2, tt)
sums_letter d p (prod_from from body) f = sums_letter d true body f.2

concatenated_letter : (d : ℕ) (es : List Tree) → Each (InForm false false) es → Each (HasNoLetter d) (concatenated all_sums es)
concatenated_letter d [] f = tt
concatenated_letter d (t ∷ es) f = each_append (HasNoLetter d) (all_sums t) (concatenated all_sums es) (sums_letter d false t f.0) (concatenated_letter d es f.1)

all_of : {C : Type 0} (P : C → Type 0) (xs : List C) → Each P xs → All P xs
all_of P xs h k i l = each-at P xs k i l h

pub no_letter : (d : ℕ) (a : ℤ) (es : List Tree) → Each (InForm false false) es → (facts : Facts) → AreFacts facts (Some a) es → All (HasNoLetter d) (sums_of facts)
no_letter d a es f facts are = subst (λ (ss : List Tree). All (HasNoLetter d) ss) (sym are.sums_are) (all_of (HasNoLetter d) (sums es) (each_with_new (HasNoLetter d) [] (concatenated all_sums es) tt (concatenated_letter d es f)))

-- ---- In form

forms_of : (p : Bool) (t : Tree) → InForm false p t → Each (InForm false false) (all_sums t)
forms_of p (numeral c) i = tt
forms_of p here i = tt
forms_of p param i = tt
forms_of p (add x y) i = each_append (InForm false false) (all_sums x) (all_sums y) (forms_of p x i.0) (forms_of p y i.1)
forms_of p (neg x) i = forms_of p x i
forms_of p (mul x y) i = each_append (InForm false false) (all_sums x) (all_sums y) (forms_of p x i.0) (forms_of p y i.1)
forms_of p (div x y) i = each_append (InForm false false) (all_sums x) (all_sums y) (forms_of p x i.0) (forms_of p y i.1)
forms_of p (power x e) i = forms_of p x i
forms_of p (sum_from a x) i = each_append (InForm false false) (all_sums x) (sum_from a x ∷ []) (forms_of false x i.2) ((refl, i.1, i.2), tt)
forms_of p (prod_from a x) i = forms_of true x i.2

forms_all : (es : List Tree) → Each (InForm false false) es → Each (InForm false false) (concatenated all_sums es)
forms_all [] i = tt
forms_all (e ∷ es) i = each_append (InForm false false) (all_sums e) (concatenated all_sums es) (forms_of false e i.0) (forms_all es i.1)

pub sums_form : (es : List Tree) → Each (InForm false false) es → Each (InForm false false) (sums es)
sums_form es i = each_with_new (InForm false false) [] (concatenated all_sums es) tt (forms_all es i)
