-- From divisors that aren't 0 to parts that are good.
--   HasClear n M p          some divisor is that of the part, and is clear
--   clear-good              then the part is good
--   clear-defined           the denominator of a term isn't 0 where its divisor isn't
--   each-clear              so for lists
--   good-of                 the parts of one role
use Rattle.std.proofs.Common.{◌≡◌, ◌≢◌, Bool, true, false, cond, refl, sym, ap, ◌∙◌, subst, List, [], ◌∷◌, ℤ, pos, ◌*ℤ◌, ◌≤ℤ◌}
use Rattle.sg_algebra.specs.Coefficients.{Each, eval, horner}
use Rattle.sg_algebra.proofs.Whole.{ℤR, mul_zeroℤ}
use Rattle.sg_algebra.proofs.Value.{◌+ᵛ◌, ◌*ᵛ◌, zero_value}
use Rattle.sg_algebra.proofs.Rational.{whole_value}
use Rattle.sg_algebra.proofs.Embedding.{whole_value_zero}
use Rattle.sg_spec.specs.Parts.{Plane, Part, Role, anywhere, divides, is_body, numer, coefficients}
use Rattle.sg_spec.specs.Canonical.{Written}
use Rattle.sg_worth_theory.proofs.WrittenElements.{plane_value}
use Rattle.sg_limits.specs.declared.divisors.Divisor.{Divisor}
use Rattle.sg_recurrence_theory.specs.Planes.{value_at}
use Rattle.sg_recurrence_theory.specs.Listing.{AreOfTerms, lowest_first, turned}
use Rattle.sg_parts.specs.Normal.{IsNormal}
use Rattle.sg_limits.specs.Divisors.{same_role, of_role, IsDivisorOf, AreDivisors}
use Rattle.sg_limits.proofs.Elementary.{not_true}
use Rattle.sg_limits.proofs.SoundWorth.{Plainly}
use Rattle.sg_limits.proofs.Spared.{at_letter, worth_of_tree, ratio_polynomial, IsPlainPart}
use Rattle.sg_recurrence_theory.proofs.Existing.{IsGood, AreGood}
use Rattle.sg_recurrence_theory.proofs.Turned.{scaled-value, turned-value, turned-coefficient, turned_back}
use Rattle.sg_limits.proofs.Wholes.{whole_value-add, whole_value-mul}
use Rattle.sg_recurrence_theory.proofs.Lowest.{lowest-value}
use Rattle.sg_recurrence_theory.proofs.Listed.{IsClear}

pub at-number : (n k : ℤ) (p : Plane) → at_letter (whole_value 0 n) k p ≡ whole_value 0 (horner ℤR (λ row. eval ℤR row k) n p)
at-number n k [] = refl
at-number n k (row ∷ p) =
    ap (λ v. whole_value 0 (eval ℤR row k) +ᵛ whole_value 0 n *ᵛ v) (at-number n k p)
    ∙ ap (λ v. whole_value 0 (eval ℤR row k) +ᵛ v) (sym (whole_value-mul 0 n (horner ℤR (λ row. eval ℤR row k) n p)))
    ∙ sym (whole_value-add 0 (eval ℤR row k) (n *ℤ horner ℤR (λ row. eval ℤR row k) n p))

-- the value of a polynomial by that of its normal form
pub normal-value : (q p : Plane) (n k : ℤ) (h : IsNormal q p) → value_at (turned p) n k ≡ h.factor *ℤ value_at q n k
normal-value q p n k h = scaled-value h.factor (turned p) q n k (λ i j. h.divided j i ∙ sym (turned-coefficient p i j))

-- it has a value other than 0 where its normal form has
normal-some : (q p : Plane) (n k : ℤ) → IsNormal q p → value_at q n k ≢ pos 0 → value_at (turned p) n k ≢ pos 0
normal-some q p n k h some z = some (mul_zeroℤ h.factor (value_at q n k) h.some (sym (normal-value q p n k h) ∙ z))

module _ (n M : ℤ) where
  abbrev pub HasClear : Part → Type 0
  HasClear p = (d : Divisor) × IsDivisorOf p d × IsClear n M d

  pub clear-good : (p : Part) → Plainly p.tree → HasClear p → IsGood (whole_value 0 n) M p
  clear-good p plain c k l u v hv z =
      normal-some c.0.poly (coefficients (numer p.tree)) n k c.1.normal (c.2 k (subst (λ (m : ℤ). m ≤ℤ k) (sym c.1.limit_is) l) u)
      (turned-value n k (coefficients (numer p.tree))
      ∙ whole_value_zero 0 (horner ℤR (λ row. eval ℤR row k) n (coefficients (numer p.tree)))
      (sym (at-number n k (coefficients (numer p.tree))) ∙ sym (worth_of_tree (whole_value 0 n) (numer p.tree) k v (ratio_polynomial p.tree plain).0 hv) ∙ z))

  pub clear-defined : (t : Written) (d : Divisor) (k : ℤ) → IsNormal d.poly (turned (lowest_first t.lower)) → value_at d.poly n k ≢ pos 0
      → ¬ (plane_value (whole_value 0 n) k t.lower ≡ zero_value)
  clear-defined t d k h some z = normal-some d.poly (turned (lowest_first t.lower)) n k h some (turned_back (lowest_first t.lower) n k ∙ whole_value_zero 0 (value_at (lowest_first t.lower) n k) (lowest-value n k t.lower ∙ z))

  pub each-clear : (ps : List Part) (ds : List Divisor) → AreDivisors ps ds → Each (IsClear n M) ds → Each HasClear ps
  each-clear [] [] h c = tt
  each-clear [] (d ∷ ds) h c = absurd h
  each-clear (p ∷ ps) [] h c = absurd h
  each-clear (p ∷ ps) (d ∷ ds) h c = ((d, h.0, c.0), each-clear ps ds h.1 c.1)

  -- the denominators of terms, from the limit on
  abbrev pub IsDefinedFrom : ℤ → Written → Type 0
  IsDefinedFrom s t = (k : ℤ) → s ≤ℤ k → k ≤ℤ M → ¬ (plane_value (whole_value 0 n) k t.lower ≡ zero_value)

  pub each-defined : (s : ℤ) (ts : List Written) (ds : List Divisor) → AreOfTerms s ts ds → Each (IsClear n M) ds → Each (IsDefinedFrom s) ts
  each-defined s [] [] h c = tt
  each-defined s [] (d ∷ ds) h c = absurd h
  each-defined s (t ∷ ts) [] h c = absurd h
  each-defined s (t ∷ ts) (d ∷ ds) h c = (λ k l u. clear-defined t d k h.0.0 (c.0 k (subst (λ (m : ℤ). m ≤ℤ k) (sym h.0.1) l) u), each-defined s ts ds h.1 c.1)

  role_itself : (r : Role) → same_role r r ≡ true
  role_itself anywhere = refl
  role_itself divides = refl
  role_itself is_body = refl

  pub good-of : (r : Role) (ps : List Part) → Each IsPlainPart ps → Each HasClear (of_role r ps) → AreGood (whole_value 0 n) M r ps
  good-of r [] plain h = tt
  good-of r (p ∷ ps) plain h = go (λ i. good-of r ps plain.1 i) (same_role r p.role) refl h
    where
      go : (Each HasClear (of_role r ps) → AreGood (whole_value 0 n) M r ps) → (b : Bool) → same_role r p.role ≡ b
          → Each HasClear (cond b (p ∷ of_role r ps) (of_role r ps)) → AreGood (whole_value 0 n) M r (p ∷ ps)
      go again true q i = (λ e. clear-good p plain.0 i.0, again i.1)
      go again false q i = (λ e. absurd (not_true (sym q ∙ subst (λ (s : Role). same_role r s ≡ true) (sym e) (role_itself r))), again i)
