-- Values of terms, where the variable is k and the products and then the sums of a tower have the values vs.
--   IsPowerOf v e a       a is v to the power e; for a negative e v isn't 0
--   ArePowers vs es u     u is the product of the powers of the values by the exponents es
--   IsTermAt k vs t v     the coefficient of the term t has a value at k, and v is that times the powers
--   AreTermsAt k vs ts v  each term has a value, and v is their sum
--   IsElementAt f x k vs v    the terms of the element x in descending order have the value v
--   HasNoneAt f x k vs        they have none
use Rattle.std.specs.Prelude.{◌≡◌, ℕ, suc, ℤ, pos, negsuc, List, [], ◌∷◌}
use Rattle.sg_algebra.proofs.Ring.{pow}
use Rattle.sg_algebra.proofs.Value.{Value, ◌+ᵛ◌, ◌*ᵛ◌, inv_value, zero_value, one_value}
use Rattle.sg_algebra.proofs.ValueField.{ValueR}
use Rattle.sg_tower_theory.proofs.Formal.{Formal, Element}
use Rattle.sg_tower_theory.proofs.Flat.{Term, IsFlat}
use Rattle.sg_value_theory.proofs.Elements.{IsQuotientAt}

module _ {d : ℕ} where
  abbrev pub IsPowerOf : Value d → ℤ → Value d → Type 0
  IsPowerOf v (pos n) a = a ≡ pow (ValueR d) v n
  IsPowerOf v (negsuc n) a = ¬ (v ≡ zero_value) × (a ≡ pow (ValueR d) (inv_value v) (suc n))

  abbrev pub ArePowers : List (Value d) → List ℤ → Value d → Type 0
  ArePowers vs [] u = u ≡ one_value
  ArePowers [] (e ∷ es) u = u ≡ one_value
  ArePowers (v ∷ vs) (e ∷ es) u = (a : Value d) × (w : Value d) × IsPowerOf v e a × ArePowers vs es w × (u ≡ a *ᵛ w)

  abbrev pub IsTermAt : ℤ → List (Value d) → Term d → Value d → Type 0
  IsTermAt k vs t v = (c : Value d) × (u : Value d) × IsQuotientAt k t.coefficient c × ArePowers vs t.exponents u × (v ≡ c *ᵛ u)

  abbrev pub AreTermsAt : ℤ → List (Value d) → List (Term d) → Value d → Type 0
  AreTermsAt k vs [] v = v ≡ zero_value
  AreTermsAt k vs (t ∷ ts) v = (u : Value d) × (w : Value d) × IsTermAt k vs t u × AreTermsAt k vs ts w × (v ≡ u +ᵛ w)

  pub record IsElementAt (f : Formal d) (x : Element f) (k : ℤ) (vs : List (Value d)) (v : Value d) : Type 0 where
    pub terms : List (Term d)
    pub flat : IsFlat f x terms
    pub value : AreTermsAt k vs terms v

  pub record HasNoneAt (f : Formal d) (x : Element f) (k : ℤ) (vs : List (Value d)) : Type 0 where
    pub terms : List (Term d)
    pub flat : IsFlat f x terms
    pub none : (v : Value d) → ¬ AreTermsAt k vs terms v
