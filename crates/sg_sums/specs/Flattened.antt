-- Terms of a polynomial in a sum t, power by power from the highest.
--   with_power n t            the term t times t^n: its exponent stands last
--   IsFlatFrom f β q k ts     the terms of the powers of q from k on, in descending order, where t grows by β
--   HasTermsFrom ρ v b p k ts the same for a list of items p and terms of the program, where t grows by what b stands for
use Rattle.std.specs.Prelude.{◌≡◌, ℕ, suc, ◌+◌, ◌<◌, ◌≤◌, List, [], ◌∷◌, ◌++◌, length, map, drop, ℤ, pos, ◌≤ℤ◌}
use Rattle.sg_algebra.specs.Coefficients.{coef, Each}
use Rattle.sg_algebra.proofs.Value.{Value, zero_value}
use Rattle.sg_tower_theory.proofs.Formal.{Formal, Element, elements, one_more}
use Rattle.sg_tower_theory.proofs.Flat.{Term, of_terms, DescendingTerms, IsLowestForm}
use Rattle.sg_tower.specs.declared.flat.FlatTerm.{FlatTerm}
use Rattle.sg_tower.specs.Elements.{Reading}
use Rattle.sg_tower.specs.Terms.{term_of}

abbrev pub with_power : {K : Type 0} → ℕ → FlatTerm K → FlatTerm K
with_power n t = record { exps = t.exps ++ pos n ∷ []; coeff = t.coeff }

module _ {d : ℕ} where
  -- the last exponent is k or above
  pub record EndsFrom (k : ℕ) (t : Term d) : Type 0 where
    pub before : List ℤ
    pub last : ℕ
    pub high : k ≤ last
    pub are : t.exponents ≡ before ++ pos last ∷ []

  pub record IsFlatFrom (f : Formal d) (β : Element f) (q : List (Element f)) (k : ℕ) (ts : List (Term d)) : Type 0 where
    pub above : (i : ℕ) → k ≤ i → (elements f).◌≈◌ (coef (elements f) (of_terms (one_more f β) ts) i) (coef (elements f) q i)
    pub under : (i : ℕ) → i < k → (elements f).◌≈◌ (coef (elements f) (of_terms (one_more f β) ts) i) (elements f).O
    pub sized : Each (λ t. length t.exponents ≡ length f.products + suc f.sums) ts
    pub natural : Each (λ t. Each (λ e. pos 0 ≤ℤ e) (drop (length f.products) t.exponents)) ts
    pub descending : DescendingTerms ts
    pub nonzero : Each (λ t. t.coefficient ≡ zero_value → ⊥) ts
    pub lowest : Each (λ t. IsLowestForm t.coefficient) ts
    pub ends : Each (EndsFrom k) ts

abbrev pub HasTermsFrom : {d : ℕ} {E K : Type 0} → Reading d E → (K → Value d) → E → List E → ℕ → List (FlatTerm K) → Type 0
HasTermsFrom ρ v b p k ts = IsFlatFrom ρ.formal (ρ.of b) (map ρ.of p) k (map (term_of v) ts)
