-- Values as they are found, where v says which value an item has.
--   Finds v P o             o is an item whose value has the property P, and None exactly where no value has it
--   IsBoth v op x y o       o is x joined with y where both are there, and None where one isn't
--   join_of op, start_of op     how the terms of a sum or product are joined, and what they are joined to: addition to 0, or multiplication to 1
--   IsFold letter op t from last w     w is the value of the sum or product over the body t
use Rattle.std.specs.Prelude.{◌≡◌, ℕ, ℤ, Option, Some, None}
use Rattle.sg_algebra.proofs.Value.{Value, ◌+ᵛ◌, ◌*ᵛ◌, zero_value, one_value}
use Rattle.sg_spec.specs.Tree.{Tree}
use Rattle.sg_spec.specs.Value.{how_many}
use Rattle.sg_spec.specs.Worth.{IsFolded, HasWorth}
use Rattle.sg_build.specs.declared.values.Folding.{Folding}
use Rattle.sg_build.specs.declared.values.Folding.TheVariants.{Sum, Product}

module _ {K : Type 0} {d : ℕ} (v : K → Value d) where
  abbrev pub Finds : (Value d → Type 0) → Option K → Type 0
  Finds P (Some x) = P (v x)
  Finds P None = (w : Value d) → ¬ P w

  abbrev pub IsBoth : (Value d → Value d → Value d) → Option K → Option K → Option K → Type 0
  IsBoth op (Some x) (Some y) (Some r) = v r ≡ op (v x) (v y)
  IsBoth op (Some x) (Some y) None = ⊥
  IsBoth op (Some x) None (Some r) = ⊥
  IsBoth op (Some x) None None = Unit {0}
  IsBoth op None y (Some r) = ⊥
  IsBoth op None y None = Unit {0}

abbrev pub join_of : {d : ℕ} → Folding → Value d → Value d → Value d
join_of Sum x y = x +ᵛ y
join_of Product x y = x *ᵛ y

abbrev pub start_of : {d : ℕ} → Folding → Value d
start_of Sum = zero_value
start_of Product = one_value

abbrev pub IsFold : {d : ℕ} → Value d → Folding → Tree → ℤ → ℤ → Value d → Type 0
IsFold letter op t from last w = IsFolded (join_of op) (start_of op) (HasWorth letter t) from (how_many from last) w
