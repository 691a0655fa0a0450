-- Where the canonical tree of an element has a value: where its coefficients' denominators and the products with negative exponents aren't
-- 0.
--   Valued t, Nonzero t        the tree has a value at the place; one other than 0
--   AreStanding ps es          so have the products with these exponents: one other than 0 where the exponent is negative
--   IsStanding ps t            the denominator of the term isn't 0, and its products are so
--   element-exists             the tree has a value where all terms and sums are so
use Rattle.std.proofs.Common.{◌≡◌, ℕ, zero, suc, refl, subst, List, [], ◌∷◌, ◌++◌, reverse, ℤ, pos, negsuc}
use Rattle.sg_algebra.specs.Coefficients.{Each}
use Rattle.sg_algebra.proofs.Ring.{pow}
use Rattle.sg_algebra.proofs.Solver.{by, scale, reads}
use Rattle.sg_algebra.proofs.Value.{Value, ◌+ᵛ◌, ◌*ᵛ◌, neg_value, inv_value, zero_value, one_value}
use Rattle.sg_algebra.proofs.ValueField.{ValueR}
use Rattle.sg_spec.specs.Tree.{Tree}
use Rattle.sg_spec.specs.Worth.{HasWorth}
use Rattle.sg_spec.specs.Canonical.{Written, raised_factor, upper_factor, lower_factor, factors, element_tree}
use Rattle.sg_worth_theory.proofs.WrittenTerms.{IsProduct, IsInverse, factor-product, product-append}
use Rattle.sg_worth_theory.proofs.WrittenElements.{plane_value, HasCoefficient, powers_value, HasTerms, element-worth}
use Rattle.sg_answers_theory.proofs.InverseValues.{pow_ne}

module _ {d : ℕ} (letter : Value d) (k : ℤ) where
  abbrev pub Valued : Tree → Type 0
  Valued t = (v : Value d) × HasWorth letter t k v

  abbrev pub Nonzero : Tree → Type 0
  Nonzero t = (v : Value d) × HasWorth letter t k v × ¬ (v ≡ zero_value)

  abbrev pub AreStanding : List Tree → List ℤ → Type 0
  AreStanding [] es = Unit {0}
  AreStanding (p ∷ ps) [] = Unit {0}
  AreStanding (p ∷ ps) (pos e ∷ es) = Valued p × AreStanding ps es
  AreStanding (p ∷ ps) (negsuc e ∷ es) = Nonzero p × AreStanding ps es

  pub record IsStanding (ps : List Tree) (t : Written) : Type 0 where
    pub defined : ¬ (plane_value letter k t.lower ≡ zero_value)
    pub products : AreStanding ps t.exponents

  inverse-append : (us ts : List Tree) (v w : Value d) → IsInverse letter k us v → IsInverse letter k ts w → IsInverse letter k (us ++ ts) (v *ᵛ w)
  inverse-append [] ts v w h i = subst (IsInverse letter k ts) (by (ValueR d) (v ∷ w ∷ []) (scale (ValueR d) (neg_value w) h) (search reads depth 16) refl) i
  inverse-append (u ∷ us) ts v w h i =
      (h.0, h.1 *ᵛ w, h.2, h.3, inverse-append us ts h.1 w h.4 i, by (ValueR d) (v ∷ w ∷ inv_value h.0 ∷ h.1 ∷ []) (scale (ValueR d) w h.5) (search reads depth 16) refl)

  one_inverse : (u : Value d) → inv_value u *ᵛ one_value ≡ inv_value u *ᵛ one_value
  one_inverse u = refl

  factor-inverse : (t : Tree) (e : ℕ) → Nonzero t → (w : Value d) × IsInverse letter k (raised_factor t (suc e)) w
  factor-inverse t zero h = (inv_value h.0 *ᵛ one_value, (h.0, one_value, h.1, h.2, refl, refl))
  factor-inverse t (suc e) h = let u = pow (ValueR d) h.0 (suc (suc e)) in (inv_value u *ᵛ one_value, (u, one_value, (h.0, h.1, refl), pow_ne h.0 (suc (suc e)) h.2, refl, refl))

  uppers : (ps : List Tree) (es : List ℤ) → AreStanding ps es → (v : Value d) × IsProduct letter k (factors upper_factor ps es) v
  uppers [] es h = (one_value, refl)
  uppers (p ∷ ps) [] h = (one_value, refl)
  uppers (p ∷ ps) (pos e ∷ es) h =
      let r = uppers ps es h.1 in
      (pow (ValueR d) h.0.0 e *ᵛ r.0, product-append letter k (raised_factor p e) (factors upper_factor ps es) (pow (ValueR d) h.0.0 e) r.0 (factor-product letter k p e h.0.0 h.0.1) r.1)
  uppers (p ∷ ps) (negsuc e ∷ es) h = uppers ps es h.1

  lowers : (ps : List Tree) (es : List ℤ) → AreStanding ps es → (v : Value d) × IsInverse letter k (factors lower_factor ps es) v
  lowers [] es h = (one_value, refl)
  lowers (p ∷ ps) [] h = (one_value, refl)
  lowers (p ∷ ps) (pos e ∷ es) h = lowers ps es h.1
  lowers (p ∷ ps) (negsuc e ∷ es) h =
      let r = lowers ps es h.1 in
      let q = factor-inverse p e h.0 in
      (q.0 *ᵛ r.0, inverse-append (raised_factor p (suc e)) (factors lower_factor ps es) q.0 r.0 q.1 r.1)

  coefficient-exists : (ps : List Tree) (t : Written) → IsStanding ps t → (c : Value d) × HasCoefficient letter k ps t c
  coefficient-exists ps t h =
      let u = uppers ps t.exponents h.products in
      let l = lowers ps t.exponents h.products in (
        (plane_value letter k t.upper *ᵛ u.0) *ᵛ (inv_value (plane_value letter k t.lower) *ᵛ l.0),
        record { up = u.0; down = l.0; uppers = u.1; lowers = l.1; defined = h.defined; value = refl },
      )

  terms-exist : (ps : List Tree) (us : List (Value d)) (ts : List Written) → Each (IsStanding ps) ts → (v : Value d) × HasTerms letter k ps us ts v
  terms-exist ps us [] h = (zero_value, refl)
  terms-exist ps us (t ∷ ts) h =
      let c = coefficient-exists ps t h.0 in
      let r = terms-exist ps us ts h.1 in
      (c.0 *ᵛ powers_value letter k us t.powers +ᵛ r.0, (c.0, r.0, c.1, r.1, refl))

  -- the values of the sums, the last first
  abbrev pub AllAre : List Tree → List (Value d) → Type 0
  AllAre [] [] = Unit {0}
  AllAre [] (u ∷ us) = ⊥
  AllAre (s ∷ ss) [] = ⊥
  AllAre (s ∷ ss) (u ∷ us) = HasWorth letter s k u × AllAre ss us

  values-of : (ss : List Tree) → Each Valued ss → (us : List (Value d)) × AllAre ss us
  values-of [] h = ([], tt)
  values-of (s ∷ ss) h = let r = values-of ss h.1 in (h.0.0 ∷ r.0, (h.0.1, r.1))

  pub element-exists : (ps ss : List Tree) (ts : List Written) → Each Valued (reverse ss) → Each (IsStanding ps) ts → Valued (element_tree ps ss ts)
  element-exists ps ss ts sums standing =
      let us = values-of (reverse ss) sums in
      let v = terms-exist ps us.0 ts standing in
      (v.0, element-worth letter k ps ss us.0 ts v.0 us.1 v.1)
