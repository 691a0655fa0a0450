-- Expressions and elements at single points. ρ says which formal tower it is and which of its elements an item stands for.
--   KnownAt letter ρ p gens xs    at the point p each item has each value of its expression
--   IsUnit ρ x                    x is one term without sums, which isn't 0
--   AreUnits ρ ps xs              the first items, one for each of ps, are
--   HasPlace letter ρ gens xs t   at some point, at which the items are known, the expression t has a value
--   IsPlaced letter ρ gens xs t r at each point at which the items are known r has each value of t
--   IsPointAt f k vs p            at the point p the variable is k, and the products and then the sums of the tower f have the values vs
use Rattle.std.specs.Prelude.{◌≡◌, ℕ, ◌+◌, ◌<◌, ℤ, List, [], ◌∷◌, length}
use Rattle.sg_algebra.proofs.Place.{Pairwise}
use Rattle.sg_algebra.proofs.Polynomial.{coefficient}
use Rattle.sg_algebra.proofs.Value.{Value}
use Rattle.sg_spec.specs.Tree.{Tree}
use Rattle.sg_spec.specs.Worth.{HasWorth}
use Rattle.sg_tower.specs.Elements.{Reading}
use Rattle.sg_tower_theory.proofs.Formal.{Formal, Element}
use Rattle.sg_tower_theory.proofs.Flat.{IsUnitPair}
use Rattle.sg_value_theory.proofs.Elements.{Point}
use Rattle.sg_value_theory.proofs.TreePoints.{Agrees}

module _ {d : ℕ} {E : Type 0} (letter : Value d) (ρ : Reading d E) where
  abbrev pub KnownAt : Point d → List Tree → List E → Type 0
  KnownAt p gens xs = Pairwise (λ g x. Agrees letter ρ.formal p (ρ.of x) g) gens xs

  abbrev pub HasPlace : List Tree → List E → Tree → Type 0
  HasPlace gens xs t = (p : Point d) × KnownAt p gens xs × ((v : Value d) × HasWorth letter t p.variable v)

  abbrev pub IsPlaced : List Tree → List E → Tree → E → Type 0
  IsPlaced gens xs t r = (p : Point d) → KnownAt p gens xs → Agrees letter ρ.formal p (ρ.of r) t

module _ {d : ℕ} {E : Type 0} (ρ : Reading d E) where
  abbrev pub IsUnit : E → Type 0
  IsUnit x = (y : Element ρ.formal) × IsUnitPair ρ.formal (ρ.of x) y

  abbrev pub AreUnits : List Tree → List E → Type 0
  AreUnits [] xs = Unit {0}
  AreUnits (p ∷ ps) [] = Unit {0}
  AreUnits (p ∷ ps) (x ∷ xs) = IsUnit x × AreUnits ps xs

pub record IsPointAt {d : ℕ} (f : Formal d) (k : ℤ) (vs : List (Value d)) (p : Point d) : Type 0 where
  pub variable : p.variable ≡ k
  pub products : (i : ℕ) → i < length f.products → p.products i ≡ coefficient vs i
  pub sums : (i : ℕ) → i < f.sums → p.sums i ≡ coefficient vs (length f.products + i)
