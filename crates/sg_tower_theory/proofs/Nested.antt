-- One sum after another over a domain with a shift: polynomials over polynomials .. over it.
--   Telescopes R σ g f    g is a formal antidifference of f
--   NestedD D n           the elements with n sums: at 0 the domain D, at n + 1 the polynomials in one more sum. They depend on D and n alone
--   Shape D n             what each of n sums grows by at a step, an element with the sums before it
--   tower B n s           the shift: that of B, and each sum goes to itself plus what it grows by
--   AreNew B P n s        no sum of the shape is a formal antidifference over those before it, and P
use Rattle.std.proofs.Common.{ℕ, zero, suc}
use Rattle.sg_algebra.specs.Ring.{Ring, Domain, Hom}
use Rattle.sg_algebra.proofs.Degree.{PolyD}
use Rattle.sg_tower_theory.proofs.Difference.{Difference}
use Rattle.sg_tower_theory.proofs.Above.{above}
use Rattle.sg_tower_theory.proofs.Degrees.{IsNew}

abbrev pub Telescopes : (R : Ring) → Hom R R → R.A → R.A → Type 0
Telescopes R σ g f = R.◌≈◌ (R.◌⊞◌ (σ.on g) (R.⊟ g)) f

module _ (D : Domain) where
  abbrev pub NestedD : ℕ → Domain
  NestedD zero = D
  NestedD (suc n) = PolyD (NestedD n)

  abbrev pub NestedR : ℕ → Ring
  NestedR n = (NestedD n).R

  abbrev pub Shape : ℕ → Type 0
  Shape zero = Unit {0}
  Shape (suc n) = Shape n × (NestedR n).A

  module _ {C : Ring} (B : Difference C D.R) where
    abbrev pub tower : (n : ℕ) → Shape n → Difference C (NestedR n)
    tower zero s = B
    tower (suc n) s = above (tower n s.0) s.1

    abbrev pub AreNew : Type 0 → (n : ℕ) → Shape n → Type 0
    AreNew P zero s = P
    AreNew P (suc n) s = AreNew P n s.0 × IsNew (tower n s.0) s.1
