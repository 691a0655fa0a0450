-- Elements as lists of terms, the generators, and inverses. ρ says which formal tower it is and which of its elements an item stands for, v which value a constant has.
--   term_of v t               the term that t stands for
--   unit_exponents n i        1 at i, 0 at the other places below n
--   own_product f i           the product i as an element
--   own_generator f i         the generator i as an element: the products first, then the sums
--   IsLifted ρ v c r          r is the rational function c
--   IsGenerator ρ i r         r is the generator i
--   HasTerms ρ v x ts         x is the sum of these terms, which stand in descending order
--   IsInverse ρ x r           x and r are one term each without sums, and each the inverse of the other
--   IsNoUnit ρ x              x isn't one term without sums
use Rattle.std.specs.Prelude.{ℕ, zero, suc, ◌-◌, nat_lt, cond, List, [], ◌∷◌, length, map, ℤ, pos}
use Rattle.sg_algebra.proofs.Value.{Value, one_value}
use Rattle.sg_tower_theory.proofs.Formal.{Formal, Element, lifted, own_sum}
use Rattle.sg_tower_theory.proofs.Flat.{Term, IsFlat, IsUnitPair, unit_in}
use Rattle.sg_tower.specs.declared.flat.FlatTerm.{FlatTerm}
use Rattle.sg_ratfun.specs.Fractions.{ratio}
use Rattle.sg_tower.specs.Elements.{Reading, Same}

abbrev pub unit_exponents : ℕ → ℕ → List ℤ
unit_exponents zero i = []
unit_exponents (suc n) zero = pos 1 ∷ unit_exponents n n
unit_exponents (suc n) (suc i) = pos 0 ∷ unit_exponents n i

abbrev pub term_of : {K : Type 0} {d : ℕ} → (K → Value d) → FlatTerm K → Term d
term_of v t = record { exponents = t.exps; coefficient = ratio v t.coeff }

module _ {d : ℕ} (f : Formal d) where
  abbrev pub own_product : ℕ → Element f
  own_product i = unit_in f.products f.sums (unit_exponents (length f.products) i) one_value

  abbrev pub own_generator : ℕ → Element f
  own_generator i = cond (nat_lt i (length f.products)) (own_product i) (own_sum f (i - length f.products))

module _ {d : ℕ} {E : Type 0} (ρ : Reading d E) where
  abbrev pub IsGenerator : ℕ → E → Type 0
  IsGenerator i r = Same ρ (ρ.of r) (own_generator ρ.formal i)

  abbrev pub IsInverse : E → E → Type 0
  IsInverse x r = IsUnitPair ρ.formal (ρ.of x) (ρ.of r)

  abbrev pub IsNoUnit : E → Type 0
  IsNoUnit x = (y : Element ρ.formal) → IsUnitPair ρ.formal (ρ.of x) y → ⊥

  module _ {K : Type 0} (v : K → Value d) where
    abbrev pub IsLifted : List K × List K → E → Type 0
    IsLifted c r = Same ρ (ρ.of r) (lifted ρ.formal (ratio v c))

    abbrev pub HasTerms : E → List (FlatTerm K) → Type 0
    HasTerms x ts = IsFlat ρ.formal (ρ.of x) (map (term_of v) ts)
