-- Expressions as elements, part by part, and the inverses of divisors. ρ says which formal tower it is and which of its elements an item stands for;
-- ps and ss are the expressions of the products and sums, and xs the items known for them.
--   IsItem gens xs t x                   x stands in xs where t stands in gens
--   IsOpposite ρ x r                     r is -x
--   IsPower ρ x n r                      r is x to the power n
--   IsFunctionOf letter t x              the rational function x has the value of the expression t wherever this has one
--   IsFunctionOver letter t x            it has the inverse of each value other than 0
--   HasSomeValue letter t                somewhere t has a value other than 0
--   IsElementOf letter ρ t r             at each point r has each value of t
--   IsElementOver letter ρ t r           at each point r has the inverse of each value of t other than 0
--   IsPlaceable letter ρ ps ss xs t      t is built over ps and ss, the items of the products are units, and somewhere t has a value
--   IsInvertible letter ρ ps ss xs t     t is a divisor over ps, and somewhere it has a value other than 0
--   IsInverted letter ρ gens xs t r      at each point at which the items are known r has the inverse of each value of t other than 0
use Rattle.std.specs.Prelude.{◌≡◌, ℕ, suc, ◌<◌, ◌++◌, ℤ, List, length}
use Rattle.std.proofs.Common.{get_or}
use Rattle.sg_algebra.proofs.Ring.{pow}
use Rattle.sg_algebra.proofs.Value.{Value, inv_value, zero_value}
use Rattle.sg_spec.specs.Tree.{Tree, here}
use Rattle.sg_spec.specs.Worth.{HasWorth}
use Rattle.sg_tower.specs.Elements.{Reading, Same}
use Rattle.sg_tower_theory.proofs.Formal.{elements}
use Rattle.sg_value_theory.proofs.Divisors.{IsDivisor}
use Rattle.sg_value_theory.proofs.Elements.{Point, IsQuotientAt, HasElement}
use Rattle.sg_value_theory.proofs.TowerOf.{BuiltOver}
use Rattle.sg_value_theory.proofs.TreePoints.{Agrees}
use Rattle.sg_build.specs.Letters.{HasNoLetter}
use Rattle.sg_build.specs.Points.{KnownAt, HasPlace, AreUnits}

abbrev pub IsItem : {E : Type 0} → List Tree → List E → Tree → E → Type 0
IsItem gens xs t x = (i : ℕ) × (i < length gens) × (get_or gens i here ≡ t) × (x ≡ get_or xs i x)

module _ {d : ℕ} {E : Type 0} (ρ : Reading d E) where
  abbrev pub IsOpposite : E → E → Type 0
  IsOpposite x r = Same ρ (ρ.of r) ((elements ρ.formal).⊟ (ρ.of x))

  abbrev pub IsPower : E → ℕ → E → Type 0
  IsPower x n r = Same ρ (ρ.of r) (pow (elements ρ.formal) (ρ.of x) n)

module _ {d : ℕ} (letter : Value d) where
  abbrev pub IsFunctionOf : Tree → Value (suc d) → Type 0
  IsFunctionOf t x = (k : ℤ) (v : Value d) → HasWorth letter t k v → IsQuotientAt k x v

  abbrev pub IsFunctionOver : Tree → Value (suc d) → Type 0
  IsFunctionOver t x = (k : ℤ) (v : Value d) → HasWorth letter t k v → ¬ (v ≡ zero_value) → IsQuotientAt k x (inv_value v)

  abbrev pub HasSomeValue : Tree → Type 0
  HasSomeValue t = (k : ℤ) × (v : Value d) × HasWorth letter t k v × ¬ (v ≡ zero_value)

module _ {d : ℕ} {E : Type 0} (letter : Value d) (ρ : Reading d E) where
  abbrev pub HasDivisorPlace : List Tree → List E → Tree → Type 0
  HasDivisorPlace gens xs t = (p : Point d) × KnownAt letter ρ p gens xs × ((v : Value d) × HasWorth letter t p.variable v × ¬ (v ≡ zero_value))

  abbrev pub IsInverted : List Tree → List E → Tree → E → Type 0
  IsInverted gens xs t r = (p : Point d) → KnownAt letter ρ p gens xs → (w : Value d) → HasWorth letter t p.variable w → ¬ (w ≡ zero_value) → HasElement ρ.formal p (ρ.of r) (inv_value w)

  abbrev pub IsElementOf : Tree → E → Type 0
  IsElementOf t r = (p : Point d) → Agrees letter ρ.formal p (ρ.of r) t

  abbrev pub IsElementOver : Tree → E → Type 0
  IsElementOver t r = (p : Point d) (w : Value d) → HasWorth letter t p.variable w → ¬ (w ≡ zero_value) → HasElement ρ.formal p (ρ.of r) (inv_value w)

  pub record IsPlaceable (ps ss : List Tree) (xs : List E) (t : Tree) : Type 0 where
    pub built : BuiltOver ps ss t
    pub no_letter : HasNoLetter d t
    pub units : AreUnits ρ ps xs
    pub somewhere : HasPlace letter ρ (ps ++ ss) xs t

  pub record IsInvertible (ps ss : List Tree) (xs : List E) (t : Tree) : Type 0 where
    pub divisor : IsDivisor ps t
    pub no_letter : HasNoLetter d t
    pub units : AreUnits ρ ps xs
    pub somewhere : HasDivisorPlace (ps ++ ss) xs t
