-- The value of the canonical tree of an element is that of its terms, at one place.
--   row_value, plane_value       the value of a polynomial with whole coefficients
--   monomials-has, polynomial-worth    its terms and its tree have this value
--   HasCoefficient ps t c        the coefficient of a term with its products has the value c
--   HasTerms ps us ts v          the terms over the sums with the values us, the last first, have the value v together
--   signed-has, element-worth    the signed terms and the tree of the element have it
use Rattle.std.proofs.Common.{◌≡◌, ℕ, zero, suc, ◌==◌, ℤ, pos, negsuc, neg_ℤ, Bool, true, false, cond, refl, sym, ap, ap₂, ◌∙◌, subst, List, [], ◌∷◌, ◌++◌, map, length, reverse}
use Rattle.std.proofs.lemmas.Bool.{eqb-true}
use Rattle.std.proofs.lemmas.List.{length-map}
use Rattle.sg_algebra.proofs.Ring.{nat, pow}
use Rattle.sg_algebra.proofs.Solver.{ring, by, scale, reads}
use Rattle.sg_algebra.proofs.Value.{Value, ◌+ᵛ◌, ◌*ᵛ◌, neg_value, inv_value, zero_value, one_value}
use Rattle.sg_algebra.proofs.ValueField.{ValueR, value_quotient, value_one_ne}
use Rattle.sg_algebra.proofs.Rational.{whole_value}
use Rattle.sg_spec.specs.Tree.{Tree, numeral, here, param}
use Rattle.sg_spec.specs.Worth.{HasWorth}
use Rattle.sg_spec.specs.Canonical.{Plane, Signed, raised_factor, monomial, plain_term, monomial_terms, row_monomials, monomials, polynomial_tree, leads_below, negated, Written, is_one, upper_factor, lower_factor, factors, lower_factors, one_term, of_coefficient, term_of, first_power, later_powers, without, before_groups, groups, joined, raised, signed_terms, element_tree}
use Rattle.sg_worth_theory.proofs.WrittenTerms.{tree_one, IsProduct, IsInverse, HasSigned, HasAll, above-worth, total-worth, all-append, product-append, factor-product, raised-has}

module _ {d : ℕ} (letter : Value d) (k : ℤ) where
  abbrev W : Tree → Value d → Type 0
  W t v = HasWorth letter t k v

  abbrev K : Value d
  K = whole_value d k

  abbrev pub row_value : List ℤ → Value d
  row_value [] = zero_value
  row_value (c ∷ cs) = whole_value d c *ᵛ pow (ValueR d) letter (length cs) +ᵛ row_value cs

  abbrev pub plane_value : Plane → Value d
  plane_value [] = zero_value
  plane_value (row ∷ p) = row_value row *ᵛ pow (ValueR d) K (length p) +ᵛ plane_value p

  -- ---- Polynomials

  monomial-worth : (c i j : ℕ) → W (monomial c i j) (whole_value d (pos c) *ᵛ (pow (ValueR d) K i *ᵛ pow (ValueR d) letter j))
  monomial-worth c i j =
      above-worth letter k (numeral (pos c)) (raised_factor here i ++ raised_factor param j) (whole_value d (pos c)) (pow (ValueR d) K i *ᵛ pow (ValueR d) letter j) refl
      (product-append letter k (raised_factor here i) (raised_factor param j) (pow (ValueR d) K i) (pow (ValueR d) letter j) (factor-product letter k here i K refl) (factor-product letter k param j letter refl))

  plain-has : (m : Bool) (t : Tree) (u : Value d) → W t u → HasSigned letter k (plain_term m t) (cond m (neg_value u) u)
  plain-has true t u h = record { top = u; up = one_value; down = one_value; numerator = h; uppers = refl; lowers = refl; value = ring (ValueR d) (u ∷ []) (search reads depth 16) refl }
  plain-has false t u h = record { top = u; up = one_value; down = one_value; numerator = h; uppers = refl; lowers = refl; value = ring (ValueR d) (u ∷ []) (search reads depth 16) refl }

  with_none : (v : Value d) → v ≡ v +ᵛ zero_value
  with_none v = ring (ValueR d) (v ∷ []) (search reads depth 16) refl

  negative : (c : ℕ) (p : Value d) → whole_value d (negsuc c) *ᵛ p ≡ neg_value (whole_value d (pos (suc c)) *ᵛ p) +ᵛ zero_value
  negative c p = ring (ValueR d) (nat (ValueR d) c ∷ p ∷ []) (search reads depth 16) refl

  monomial_terms-has : (c : ℤ) (i j : ℕ) → HasAll letter k (monomial_terms c i j) (whole_value d c *ᵛ (pow (ValueR d) K i *ᵛ pow (ValueR d) letter j))
  monomial_terms-has (pos zero) i j = ring (ValueR d) (pow (ValueR d) K i ∷ pow (ValueR d) letter j ∷ []) (search reads depth 16) refl
  monomial_terms-has (pos (suc c)) i j =
      let p = pow (ValueR d) K i *ᵛ pow (ValueR d) letter j in
      (whole_value d (pos (suc c)) *ᵛ p, zero_value, plain-has false (monomial (suc c) i j) (whole_value d (pos (suc c)) *ᵛ p) (monomial-worth (suc c) i j), refl, with_none (whole_value d (pos (suc c)) *ᵛ p))
  monomial_terms-has (negsuc c) i j =
      let p = pow (ValueR d) K i *ᵛ pow (ValueR d) letter j in
      (neg_value (whole_value d (pos (suc c)) *ᵛ p), zero_value, plain-has true (monomial (suc c) i j) (whole_value d (pos (suc c)) *ᵛ p) (monomial-worth (suc c) i j), refl, negative c p)

  all_is : (ss : List Signed) (v w : Value d) → v ≡ w → HasAll letter k ss w → HasAll letter k ss v
  all_is ss v w e h = subst (HasAll letter k ss) (sym e) h

  row-has : (i : ℕ) (row : List ℤ) → HasAll letter k (row_monomials i row) (row_value row *ᵛ pow (ValueR d) K i)
  row-has i [] = ring (ValueR d) (pow (ValueR d) K i ∷ []) (search reads depth 16) refl
  row-has i (c ∷ cs) =
      all_is (row_monomials i (c ∷ cs)) (row_value (c ∷ cs) *ᵛ pow (ValueR d) K i) (whole_value d c *ᵛ (pow (ValueR d) K i *ᵛ pow (ValueR d) letter (length cs)) +ᵛ row_value cs *ᵛ pow (ValueR d) K i)
      (ring (ValueR d) (whole_value d c ∷ pow (ValueR d) K i ∷ pow (ValueR d) letter (length cs) ∷ row_value cs ∷ []) (search reads depth 16) refl)
      (all-append letter k (monomial_terms c i (length cs)) (row_monomials i cs) (whole_value d c *ᵛ (pow (ValueR d) K i *ᵛ pow (ValueR d) letter (length cs))) (row_value cs *ᵛ pow (ValueR d) K i)
      (monomial_terms-has c i (length cs)) (row-has i cs))

  pub monomials-has : (p : Plane) → HasAll letter k (monomials p) (plane_value p)
  monomials-has [] = refl
  monomials-has (row ∷ p) = all-append letter k (row_monomials (length p) row) (monomials p) (row_value row *ᵛ pow (ValueR d) K (length p)) (plane_value p) (row-has (length p) row) (monomials-has p)

  pub polynomial-worth : (p : Plane) → W (polynomial_tree p) (plane_value p)
  polynomial-worth p = total-worth letter k (monomials p) (plane_value p) (monomials-has p)

  whole-neg : (c : ℤ) → whole_value d (neg_ℤ c) ≡ neg_value (whole_value d c)
  whole-neg (pos zero) = ring (ValueR d) [] (search reads depth 16) refl
  whole-neg (pos (suc c)) = ring (ValueR d) (nat (ValueR d) c ∷ []) (search reads depth 16) refl
  whole-neg (negsuc c) = ring (ValueR d) (nat (ValueR d) c ∷ []) (search reads depth 16) refl

  row-neg : (row : List ℤ) → row_value (map neg_ℤ row) ≡ neg_value (row_value row)
  row-neg [] = ring (ValueR d) [] (search reads depth 16) refl
  row-neg (c ∷ cs) =
      ap₂ ◌+ᵛ◌ (ap₂ (λ v (n : ℕ). v *ᵛ pow (ValueR d) letter n) (whole-neg c) (length-map cs neg_ℤ)) (row-neg cs)
      ∙ ring (ValueR d) (whole_value d c ∷ pow (ValueR d) letter (length cs) ∷ row_value cs ∷ []) (search reads depth 16) refl

  plane-neg : (p : Plane) → plane_value (negated p) ≡ neg_value (plane_value p)
  plane-neg [] = ring (ValueR d) [] (search reads depth 16) refl
  plane-neg (row ∷ p) =
      ap₂ ◌+ᵛ◌ (ap₂ (λ v (n : ℕ). v *ᵛ pow (ValueR d) K n) (row-neg row) (length-map p (map neg_ℤ))) (plane-neg p)
      ∙ ring (ValueR d) (row_value row ∷ pow (ValueR d) K (length p) ∷ plane_value p ∷ []) (search reads depth 16) refl

  -- ---- Coefficients

  one_term-has : (p : Plane) (us ls : List Tree) (b c : Value d) → IsProduct letter k us b → IsInverse letter k ls c → HasSigned letter k (one_term p us ls) ((plane_value p *ᵛ b) *ᵛ c)
  one_term-has p us ls b c h i = cases (leads_below (monomials p))
    where
      cases : (m : Bool) → HasSigned letter k (record { minus = m; numerator = polynomial_tree (cond m (negated p) p); uppers = us; lowers = ls }) ((plane_value p *ᵛ b) *ᵛ c)
      cases true = record {
        top = plane_value (negated p);
        up = b;
        down = c;
        numerator = polynomial-worth (negated p);
        uppers = h;
        lowers = i;
        value = by (ValueR d) (plane_value p ∷ plane_value (negated p) ∷ b ∷ c ∷ []) (scale (ValueR d) (b *ᵛ c) (plane-neg p)) (search reads depth 16) refl;
      }
      cases false = record { top = plane_value p; up = b; down = c; numerator = polynomial-worth p; uppers = h; lowers = i; value = refl }

  alone : (s : Signed) (v : Value d) → HasSigned letter k s v → HasAll letter k (s ∷ []) v
  alone s v h = (v, zero_value, h, refl, ring (ValueR d) (v ∷ []) (search reads depth 16) refl)

  of_coefficient-has : (p : Plane) (us ls : List Tree) (b c : Value d) → IsProduct letter k us b → IsInverse letter k ls c → HasAll letter k (of_coefficient p us ls) ((plane_value p *ᵛ b) *ᵛ c)
  of_coefficient-has p [] [] b c h i =
      all_is (monomials p) ((plane_value p *ᵛ b) *ᵛ c) (plane_value p) (by (ValueR d) (plane_value p ∷ b ∷ c ∷ []) ((ValueR d).add_cong (scale (ValueR d) (plane_value p *ᵛ c) h) (scale (ValueR d) (plane_value p) i)) (search reads depth 16) refl) (monomials-has p)
  of_coefficient-has p (u ∷ us) ls b c h i = alone (one_term p (u ∷ us) ls) ((plane_value p *ᵛ b) *ᵛ c) (one_term-has p (u ∷ us) ls b c h i)
  of_coefficient-has p [] (l ∷ ls) b c h i = alone (one_term p [] (l ∷ ls)) ((plane_value p *ᵛ b) *ᵛ c) (one_term-has p [] (l ∷ ls) b c h i)

  inverse-append : (us ts : List Tree) (v w : Value d) → IsInverse letter k us v → IsInverse letter k ts w → IsInverse letter k (us ++ ts) (v *ᵛ w)
  inverse-append [] ts v w h i = subst (IsInverse letter k ts) (by (ValueR d) (v ∷ w ∷ []) (scale (ValueR d) (neg_value w) h) (search reads depth 16) refl) i
  inverse-append (u ∷ us) ts v w h i =
      (h.0, h.1 *ᵛ w, h.2, h.3, inverse-append us ts h.1 w h.4 i, by (ValueR d) (v ∷ w ∷ inv_value h.0 ∷ h.1 ∷ []) (scale (ValueR d) w h.5) (search reads depth 16) refl)

  inverse-one : inv_value {d = d} one_value ≡ one_value
  inverse-one = sym (value_quotient one_value one_value one_value (value_one_ne d) (ring (ValueR d) [] (search reads depth 16) refl) ∙ ring (ValueR d) (inv_value (one_value {d = d}) ∷ []) (search reads depth 16) refl)

  lower-has : (q : Plane) → ¬ (plane_value q ≡ zero_value) → IsInverse letter k (lower_factors q) (inv_value (plane_value q))
  lower-has q ne = cases (is_one q) refl
    where
      cases : (b : Bool) → is_one q ≡ b → IsInverse letter k (cond b [] (polynomial_tree q ∷ [])) (inv_value (plane_value q))
      cases true e = ap inv_value (subst (λ (t : Tree). W t (plane_value q)) (tree_one (polynomial_tree q) e) (polynomial-worth q) ∙ ring (ValueR d) [] (search reads depth 16) refl) ∙ inverse-one
      cases false e = (plane_value q, one_value, polynomial-worth q, ne, refl, ring (ValueR d) (inv_value (plane_value q) ∷ []) (search reads depth 16) refl)

  pub record HasCoefficient (ps : List Tree) (t : Written) (c : Value d) : Type 0 where
    pub up : Value d
    pub down : Value d
    pub uppers : IsProduct letter k (factors upper_factor ps t.exponents) up
    pub lowers : IsInverse letter k (factors lower_factor ps t.exponents) down
    pub defined : ¬ (plane_value t.lower ≡ zero_value)
    pub value : c ≡ (plane_value t.upper *ᵛ up) *ᵛ (inv_value (plane_value t.lower) *ᵛ down)

  term-has : (ps : List Tree) (t : Written) (c : Value d) → HasCoefficient ps t c → HasAll letter k (term_of ps t) c
  term-has ps t c h =
      all_is (term_of ps t) c ((plane_value t.upper *ᵛ h.up) *ᵛ (inv_value (plane_value t.lower) *ᵛ h.down)) h.value
      (of_coefficient-has t.upper (factors upper_factor ps t.exponents) (lower_factors t.lower ++ factors lower_factor ps t.exponents) h.up (inv_value (plane_value t.lower) *ᵛ h.down) h.uppers
      (inverse-append (lower_factors t.lower) (factors lower_factor ps t.exponents) (inv_value (plane_value t.lower)) h.down (lower-has t.lower h.defined) h.lowers))

  -- ---- Sums

  abbrev pub powers_value : List (Value d) → List ℕ → Value d
  powers_value [] es = one_value
  powers_value (u ∷ us) es = pow (ValueR d) u (first_power es) *ᵛ powers_value us (later_powers es)

  abbrev pub HasTerms : List Tree → List (Value d) → List Written → Value d → Type 0
  HasTerms ps us [] v = v ≡ zero_value
  HasTerms ps us (t ∷ ts) v = (c : Value d) × (w : Value d) × HasCoefficient ps t c × HasTerms ps us ts w × (v ≡ c *ᵛ powers_value us t.powers +ᵛ w)

  abbrev HasGroups : List Tree → Value d → List (Value d) → List (ℕ × List Written) → Value d → Type 0
  HasGroups ps u us [] v = v ≡ zero_value
  HasGroups ps u us (g ∷ gs) v = (a : Value d) × (w : Value d) × HasTerms ps us g.1 a × HasGroups ps u us gs w × (v ≡ a *ᵛ pow (ValueR d) u g.0 +ᵛ w)

  into_group : (v c w r p s a b : Value d) → v ≡ c *ᵛ (p *ᵛ r) +ᵛ w → p ≡ s → w ≡ a *ᵛ s +ᵛ b → v ≡ (c *ᵛ r +ᵛ a) *ᵛ s +ᵛ b
  into_group v c w r p s a b q e h =
      by (ValueR d) (v ∷ c ∷ w ∷ r ∷ p ∷ s ∷ a ∷ b ∷ []) ((ValueR d).add_cong ((ValueR d).add_cong q h) (scale (ValueR d) (c *ᵛ r) e)) (search reads depth 16) refl

  before-has : (ps : List Tree) (u : Value d) (us : List (Value d)) (e : ℕ) (t : Written) (gs : List (ℕ × List Written)) (c w v : Value d) → HasCoefficient ps t c → HasGroups ps u us gs w
      → v ≡ c *ᵛ (pow (ValueR d) u e *ᵛ powers_value us t.powers) +ᵛ w → HasGroups ps u us (before_groups e t gs) v
  before-has ps u us e t [] c w v h i q = (
    c *ᵛ powers_value us t.powers,
    zero_value,
    (c, zero_value, h, refl, ring (ValueR d) (c ∷ powers_value us t.powers ∷ []) (search reads depth 16) refl),
    refl,
    by (ValueR d) (v ∷ c ∷ w ∷ pow (ValueR d) u e ∷ powers_value us t.powers ∷ []) ((ValueR d).add_cong q i) (search reads depth 16) refl,
  )
  before-has ps u us e t (g ∷ gs) c w v h i q = cases (e == g.0) refl
    where
      cases : (b : Bool) → (e == g.0) ≡ b → HasGroups ps u us (cond b ((g.0, t ∷ g.1) ∷ gs) ((e, t ∷ []) ∷ (g ∷ gs))) v
      cases true q' = (
        c *ᵛ powers_value us t.powers +ᵛ i.0,
        i.1,
        (c, i.0, h, i.2, refl),
        i.3,
        into_group v c w (powers_value us t.powers) (pow (ValueR d) u e) (pow (ValueR d) u g.0) i.0 i.1 q (ap (pow (ValueR d) u) (eqb-true e g.0 q')) i.4,
      )
      cases false q' = (
        c *ᵛ powers_value us t.powers,
        w,
        (c, zero_value, h, refl, ring (ValueR d) (c ∷ powers_value us t.powers ∷ []) (search reads depth 16) refl),
        i,
        by (ValueR d) (v ∷ c ∷ w ∷ pow (ValueR d) u e ∷ powers_value us t.powers ∷ []) q (search reads depth 16) refl,
      )

  groups-has : (ps : List Tree) (u : Value d) (us : List (Value d)) (ts : List Written) (v : Value d) → HasTerms ps (u ∷ us) ts v → HasGroups ps u us (groups ts) v
  groups-has ps u us [] v h = h
  groups-has ps u us (t ∷ ts) v h =
      before-has ps u us (first_power t.powers) (without t) (groups ts) h.0 h.1 v
      (record { up = h.2.up; down = h.2.down; uppers = h.2.uppers; lowers = h.2.lowers; defined = h.2.defined; value = h.2.value }) (groups-has ps u us ts h.1 h.3) h.4

  terms-has : (ps : List Tree) (ts : List Written) (v : Value d) → HasTerms ps [] ts v → HasAll letter k (joined (term_of ps) ts) v
  terms-has ps [] v h = h
  terms-has ps (t ∷ ts) v h =
      all_is (joined (term_of ps) (t ∷ ts)) v (h.0 +ᵛ h.1) (by (ValueR d) (v ∷ h.0 ∷ h.1 ∷ []) h.4 (search reads depth 16) refl)
      (all-append letter k (term_of ps t) (joined (term_of ps) ts) h.0 h.1 (term-has ps t h.0 h.2) (terms-has ps ts h.1 h.3))

  abbrev AllWorth : List Tree → List (Value d) → Type 0
  AllWorth [] [] = Unit {0}
  AllWorth [] (u ∷ us) = ⊥
  AllWorth (s ∷ ss) [] = ⊥
  AllWorth (s ∷ ss) (u ∷ us) = W s u × AllWorth ss us

  groups-signed : (ps : List Tree) (s : Tree) (f : List Written → List Signed) (u : Value d) (us : List (Value d)) → W s u
      → ((ts : List Written) (w : Value d) → HasTerms ps us ts w → HasAll letter k (f ts) w)
      → (gs : List (ℕ × List Written)) (v : Value d) → HasGroups ps u us gs v → HasAll letter k (joined (λ g. raised s g.0 (f g.1)) gs) v
  groups-signed ps s f u us a below [] v h = h
  groups-signed ps s f u us a below (g ∷ gs) v h =
      all_is (joined (λ g. raised s g.0 (f g.1)) (g ∷ gs)) v (h.0 *ᵛ pow (ValueR d) u g.0 +ᵛ h.1) h.4
      (all-append letter k (raised s g.0 (f g.1)) (joined (λ g. raised s g.0 (f g.1)) gs) (h.0 *ᵛ pow (ValueR d) u g.0) h.1
      (raised-has letter k s g.0 (f g.1) u h.0 a (below g.1 h.0 h.2)) (groups-signed ps s f u us a below gs h.1 h.3))

  pub signed-has : (ps ss : List Tree) (us : List (Value d)) (ts : List Written) (v : Value d) → AllWorth ss us → HasTerms ps us ts v → HasAll letter k (signed_terms ps ss ts) v
  signed-has ps [] [] ts v a h = terms-has ps ts v h
  signed-has ps [] (u ∷ us) ts v a h = absurd a
  signed-has ps (s ∷ ss) [] ts v a h = absurd a
  signed-has ps (s ∷ ss) (u ∷ us) ts v a h = groups-signed ps s (signed_terms ps ss) u us a.0 (λ l w i. signed-has ps ss us l w a.1 i) (groups ts) v (groups-has ps u us ts v h)

  pub element-worth : (ps ss : List Tree) (us : List (Value d)) (ts : List Written) (v : Value d) → AllWorth (reverse ss) us → HasTerms ps us ts v → W (element_tree ps ss ts) v
  element-worth ps ss us ts v a h = total-worth letter k (signed_terms ps (reverse ss) ts) v (signed-has ps (reverse ss) us ts v a h)
