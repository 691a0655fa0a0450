-- No listed divisor is 0 at a place for every parameter.
--   there-normal       where the polynomial isn't, its normal form isn't
--   there-part         a part whose numerator has, as a function of the parameter, no value 0 from its limit on
--   there-term         a denominator that, as a function of the parameter, isn't 0 from the start on
--   there-parts, there-terms     so for lists
use Rattle.std.proofs.Common.{◌≡◌, ◌≢◌, ℕ, refl, sym, ap, ◌∙◌, subst, List, [], ◌∷◌, ℤ, pos, ◌*ℤ◌, ◌≤ℤ◌}
use Rattle.sg_algebra.specs.Coefficients.{Each}
use Rattle.sg_algebra.proofs.Whole.{ℤR, readsℤ}
use Rattle.sg_algebra.proofs.Solver.{ring}
use Rattle.sg_algebra.proofs.Ring.{pow}
use Rattle.sg_algebra.proofs.Value.{Value, ◌+ᵛ◌, ◌*ᵛ◌, neg_value, zero_value}
use Rattle.sg_algebra.proofs.ValueField.{ValueR}
use Rattle.sg_algebra.proofs.Rational.{whole_value}
use Rattle.sg_spec.specs.Tree.{Tree, numeral, here, param, add, neg, mul, div, power, sum_from, prod_from}
use Rattle.sg_spec.specs.Parts.{Plane, Part, numer, coefficients}
use Rattle.sg_spec.specs.Canonical.{Written, polynomial_tree}
use Rattle.sg_spec.specs.Worth.{HasWorth}
use Rattle.sg_worth_theory.proofs.Worths.{worth_unique}
use Rattle.sg_worth_theory.proofs.WrittenElements.{plane_value, polynomial-worth}
use Rattle.sg_value_theory.proofs.Elements.{IsQuotientAt}
use Rattle.sg_value_theory.proofs.Quotients.{quotients}
use Rattle.sg_limits.specs.declared.divisors.Divisor.{Divisor}
use Rattle.sg_recurrence_theory.specs.Planes.{value_at}
use Rattle.sg_recurrence_theory.specs.Listing.{AreOfTerms, turned, lowest_first}
use Rattle.sg_parts.specs.Normal.{IsNormal}
use Rattle.sg_limits.specs.Divisors.{IsDivisorOf, AreDivisors}
use Rattle.sg_recurrence_theory.proofs.Special.{worth-special}
use Rattle.sg_recurrence_theory.proofs.Somewhere.{some_number}
use Rattle.sg_limits.proofs.SoundWorth.{Plainly}
use Rattle.sg_limits.proofs.Spared.{worth_of_tree, ratio_polynomial, IsPlainPart}
use Rattle.sg_parts.proofs.PlaneValues.{IsPolynomialTree}
use Rattle.sg_recurrence_theory.proofs.Turned.{turned-value, turned_back}
use Rattle.sg_recurrence_theory.proofs.Lowest.{lowest-value}
use Rattle.sg_recurrence_theory.proofs.Clearing.{at-number, normal-value}
use Rattle.sg_recurrence_theory.proofs.Recurring.{IsThere}

-- the normal form has a value other than 0 where the polynomial has
some-normal : (q p : Plane) (n k : ℤ) → IsNormal q p → value_at (turned p) n k ≢ pos 0 → value_at q n k ≢ pos 0
some-normal q p n k h some z = some (normal-value q p n k h ∙ ap (λ v. h.factor *ℤ v) z ∙ none h.factor)
  where
    none : (g : ℤ) → g *ℤ pos 0 ≡ pos 0
    none g = ring ℤR (g ∷ []) (search readsℤ depth 12) refl

-- a polynomial has a value everywhere
polynomial-value : {d : ℕ} (letter : Value d) (t : Tree) (k : ℤ) → IsPolynomialTree t → (v : Value d) × HasWorth letter t k v
polynomial-value {d} letter (numeral c) k h = (whole_value d c, refl)
polynomial-value {d} letter here k h = (whole_value d k, refl)
polynomial-value letter param k h = (letter, refl)
polynomial-value letter (add x y) k h = let u = polynomial-value letter x k h.0 in let w = polynomial-value letter y k h.1 in (u.0 +ᵛ w.0, (u.0, w.0, u.1, w.1, refl))
polynomial-value letter (neg x) k h = let u = polynomial-value letter x k h in (neg_value u.0, (u.0, u.1, refl))
polynomial-value letter (mul x y) k h = let u = polynomial-value letter x k h.0 in let w = polynomial-value letter y k h.1 in (u.0 *ᵛ w.0, (u.0, w.0, u.1, w.1, refl))
polynomial-value letter (div x y) k h = absurd h
polynomial-value {d} letter (power x e) k h = let u = polynomial-value letter x k h in (pow (ValueR d) u.0 e, (u.0, u.1, refl))
polynomial-value letter (sum_from a b) k h = absurd h
polynomial-value letter (prod_from a b) k h = absurd h

module _ (letter : Value 1) (letter_at : (n : ℤ) → IsQuotientAt n letter (whole_value 0 n)) where
  -- at some parameter it has a value other than 0
  some-tree : (t : Tree) (k : ℤ) (v : Value 1) → HasWorth letter t k v → ¬ (v ≡ zero_value) → ((n : ℤ) → (w : Value 0) × HasWorth (whole_value 0 n) t k w)
      → (n : ℤ) × (w : Value 0) × HasWorth (whole_value 0 n) t k w × ¬ (w ≡ zero_value)
  some-tree t k v h ne numbers =
      let s = some_number 0 v ne in
      let w = numbers s.0 in
      (s.0, w.0, w.1, λ z. s.3 ((quotients 0 s.0).unique v s.1 w.0 s.2 (worth-special letter s.0 (letter_at s.0) t k v w.0 h w.1) ∙ z))

  -- spared as functions of the parameter
  abbrev pub IsSparedPart : Part → Type 0
  IsSparedPart p = (k : ℤ) → p.limit ≤ℤ k → (v : Value 1) → HasWorth letter (numer p.tree) k v → ¬ (v ≡ zero_value)

  number-some : (t : Tree) (n k : ℤ) (w : Value 0) → IsPolynomialTree t → HasWorth (whole_value 0 n) t k w → ¬ (w ≡ zero_value)
      → value_at (turned (coefficients t)) n k ≢ pos 0
  number-some t n k w h i ne z =
      ne (worth_of_tree (whole_value 0 n) t k w h i ∙ at-number n k (coefficients t) ∙ ap (whole_value 0) (sym (turned-value n k (coefficients t)) ∙ z))

  pub there-part : (p : Part) (d : Divisor) → Plainly p.tree → IsSparedPart p → IsDivisorOf p d → IsThere d
  there-part p d plain spared h k l =
      let poly = (ratio_polynomial p.tree plain).0 in
      let v = polynomial-value letter (numer p.tree) k poly in
      let s = some-tree (numer p.tree) k v.0 v.1 (spared k (subst (λ (m : ℤ). m ≤ℤ k) h.limit_is l) v.0 v.1) (λ n. polynomial-value (whole_value 0 n) (numer p.tree) k poly) in
      (s.0, some-normal d.poly (coefficients (numer p.tree)) s.0 k h.normal (number-some (numer p.tree) s.0 k s.1 poly s.2 s.3))

  pub there-parts : (ps : List Part) (ds : List Divisor) → Each IsPlainPart ps → Each IsSparedPart ps → AreDivisors ps ds → Each IsThere ds
  there-parts [] [] plain spared h = tt
  there-parts [] (d ∷ ds) plain spared h = absurd h
  there-parts (p ∷ ps) [] plain spared h = absurd h
  there-parts (p ∷ ps) (d ∷ ds) plain spared h = (there-part p d plain.0 spared.0 h.0, there-parts ps ds plain.1 spared.1 h.1)

  -- not 0 as a function of the parameter, from the start on
  abbrev pub IsDefinedTerm : ℤ → Written → Type 0
  IsDefinedTerm s t = (k : ℤ) → s ≤ℤ k → ¬ (plane_value letter k t.lower ≡ zero_value)

  pub there-term : (s : ℤ) (t : Written) (d : Divisor) → IsDefinedTerm s t → IsNormal d.poly (turned (lowest_first t.lower)) → d.limit ≡ s → IsThere d
  there-term s t d defined h e k l =
      let r = some-tree (polynomial_tree t.lower) k (plane_value letter k t.lower) (polynomial-worth letter k t.lower) (defined k (subst (λ (m : ℤ). m ≤ℤ k) e l))
      (λ n. (plane_value (whole_value 0 n) k t.lower, polynomial-worth (whole_value 0 n) k t.lower)) in
      (r.0, some-normal d.poly (turned (lowest_first t.lower)) r.0 k h (λ z. r.3 (unique r.0 k t.lower r.1 r.2 ∙ sym (lowest-value r.0 k t.lower) ∙ ap (whole_value 0) (sym (turned_back (lowest_first t.lower) r.0 k) ∙ z))))
    where
      unique : (n k : ℤ) (p : Plane) (w : Value 0) → HasWorth (whole_value 0 n) (polynomial_tree p) k w → w ≡ plane_value (whole_value 0 n) k p
      unique n k p w h = worth_unique (whole_value 0 n) (polynomial_tree p) k w (plane_value (whole_value 0 n) k p) h (polynomial-worth (whole_value 0 n) k p)

  pub there-terms : (s : ℤ) (ts : List Written) (ds : List Divisor) → Each (IsDefinedTerm s) ts → AreOfTerms s ts ds → Each IsThere ds
  there-terms s [] [] h i = tt
  there-terms s [] (d ∷ ds) h i = absurd i
  there-terms s (t ∷ ts) [] h i = absurd i
  there-terms s (t ∷ ts) (d ∷ ds) h i = (there-term s t d h.0 i.0.0 i.0.1, there-terms s ts ds h.1 i.1)
