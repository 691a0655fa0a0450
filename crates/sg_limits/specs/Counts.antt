-- What is counted of expressions, and which fault is answered for it.
--   AreDegrees    the degrees of a scope, of which those past 65 are kept as 65
--   AreInForm     each expression is of the form that is read, with a parameter or without
--   IsShown       what is told of a part: its expression, its tree and its depth
--   IsSought      poles are sought from a lower limit on, over these parts
--   IsPoleOf      a fault of the parts, by what is told of it
--   IsFault       the fault that the counts have, or else the parts; out of memory, which is free; or a step that doesn't fit, where there is
--                 a heavy part
--   start_from    the start, 0 without a lower limit
--   AreFacts      the start, 0 without a lower limit, and the distinct sums and products
use Rattle.std.specs.Prelude.{◌≡◌, ℕ, ℤ, pos, true, false, min, List, map, Option, Some, None}
use Rattle.sg_algebra.specs.Coefficients.{Each}
use Rattle.sg_spec.specs.Tree.{Tree}
use Rattle.sg_spec.specs.Printing.{InForm}
use Rattle.sg_spec.specs.Generators.{sums, prods, start}
use Rattle.sg_spec.specs.Limits.{too_many_nodes, too_steep, too_many_sums, too_many_products, counted}
use Rattle.sg_spec.specs.Limits.{Degrees as WrittenDegrees}
use Rattle.sg_spec.specs.Faults.{Numbered, parts_from, Among, IsHeavyNumbered, PoleFault, far_pole, pole, zero_factor, IsPoleFault}
use Rattle.sg_num.specs.Stopped.{IsTooWide}
use Rattle.sg_num.specs.declared.step.Stop.TheVariants.{Memory, Wide}
use Rattle.sg_expr.specs.Tree.{tree_of}
use Rattle.sg_expr.specs.declared.tree.Expr.{Expr}
use Rattle.sg_limits.specs.declared.degrees.Degrees.{Degrees}
use Rattle.sg_limits.specs.declared.fault.LimitFault.{LimitFault}
use Rattle.sg_limits.specs.declared.fault.LimitFault.TheVariants.{Nodes, Degree, Sums, Products, FarPole, Pole, ZeroFactor, Stop}
use Rattle.sg_limits.specs.declared.inspection.Facts.{Facts}

abbrev pub AreDegrees : Degrees → WrittenDegrees → Type 0
AreDegrees d w = (d.variable ≡ min w.variable 65) × (d.parameter ≡ min w.parameter 65) × (d.generators ≡ min w.generators 65)

abbrev pub AreInForm : List Tree → Type 0
AreInForm es = Each (InForm true false) es

pub record IsShown (item : ℕ) (part : Expr) (depth : ℕ) (x : Numbered) : Type 0 where
  pub item_is : x.item ≡ item
  pub tree_is : x.part.tree ≡ tree_of part
  pub depth_is : x.part.depth ≡ depth

abbrev pub IsSought : (List Numbered → Type 0) → Option ℤ → List Tree → Type 0
IsSought P None es = ⊥
IsSought P (Some a) es = (counted es ≡ None) × P (parts_from 1 a es)

pub record IsPoleOf (fault : Numbered → PoleFault) (item : ℕ) (part : Expr) (depth : ℕ) (xs : List Numbered) : Type 0 where
  pub element : Numbered
  pub is : IsPoleFault xs (fault element)
  pub shown : IsShown item part depth element

abbrev pub IsFault : LimitFault → Option ℤ → List Tree → Type 0
IsFault (Nodes item) lower es = counted es ≡ Some (too_many_nodes item)
IsFault (Degree item) lower es = counted es ≡ Some (too_steep item)
IsFault Sums lower es = counted es ≡ Some too_many_sums
IsFault Products lower es = counted es ≡ Some too_many_products
IsFault (FarPole item part depth) lower es = IsSought (IsPoleOf far_pole item part depth) lower es
IsFault (Pole item at part depth) lower es = IsSought (IsPoleOf (pole at) item part depth) lower es
IsFault (ZeroFactor item at part depth) lower es = IsSought (IsPoleOf (zero_factor at) item part depth) lower es
IsFault (Stop (Memory e)) lower es = Unit {0}
IsFault (Stop (Wide w)) lower es = IsSought (λ xs. IsTooWide w × Among IsHeavyNumbered xs) lower es

abbrev pub start_from : Option ℤ → List Tree → ℤ
start_from None es = pos 0
start_from (Some a) es = start es a

pub record AreFacts (f : Facts) (lower : Option ℤ) (es : List Tree) : Type 0 where
  pub start_is : f.start ≡ start_from lower es
  pub sums_are : map tree_of f.sums ≡ sums es
  pub prods_are : map tree_of f.prods ≡ prods es
