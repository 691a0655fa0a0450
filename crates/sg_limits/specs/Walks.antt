-- What a walk over the parts of a tree has found.
--   role_of                 how a tree stands
--   items_of, own_items     the parts of a tree at a place, and its own part alone
--   at_place                the part that a tree at a place is
--   IsBare                  no sum, no product, and no numeral below 0
--   IsFitting r t           a tree that is a part of its own is bare
--   IsWalkable r t          so is each part of the tree
--   IsFound r xs o          the first part of this role that vanishes, if one does
--   AreFound xs f           the first pole and the first zero factor
--   IsLeastAt place r t k    the tree at the place is 0 at a number, and at none before
--   FindsFirst place t at known new      with the tree at the place, if it is 0 first at this number, what is found is the first
--   IsRefusal f xs           the fault of all parts
--   AreWalked xs f r         what a walk over these parts answers
--   IsWalkFault f xs        the first far pole; or a step that doesn't fit, where there is a heavy part; or out of memory, which is free
use Rattle.std.specs.Prelude.{ℕ, ℤ, pos, ◌≤ℤ◌, ◌<ℤ◌, List, [], ◌∷◌, ◌++◌, Option, Some, None, Result, IfOk, IfErr}
use Rattle.sg_spec.specs.Tree.{Tree, numeral, here, param, add, neg, mul, div, power, sum_from, prod_from}
use Rattle.sg_spec.specs.Parts.{parts, own_part, anywhere, divides, is_body}
use Rattle.sg_spec.specs.Parts.{Role as Standing}
use Rattle.sg_spec.specs.Faults.{Numbered, with_item, First, Among, IsFarNumbered, IsHeavyNumbered, IsRoleAt, NoneFar, NoneZero, IsZeroPart, far_pole, pole, zero_factor}
use Rattle.sg_num.specs.Stopped.{IsTooWide}
use Rattle.sg_num.specs.declared.step.Stop.TheVariants.{Memory, Wide}
use Rattle.sg_expr.specs.declared.tree.Expr.{Expr}
use Rattle.sg_limits.specs.declared.fault.LimitFault.{LimitFault}
use Rattle.sg_limits.specs.declared.fault.LimitFault.TheVariants.{Nodes, Degree, Sums, Products, FarPole, Pole, ZeroFactor, Stop}
use Rattle.sg_limits.specs.Counts.{IsShown, IsPoleOf}
use Rattle.sg_limits.specs.declared.walk.Role.{Role}
use Rattle.sg_limits.specs.declared.walk.Role.TheVariants.{Anywhere, Divides, Body}
use Rattle.sg_limits.specs.declared.walk.Place.{Place}
use Rattle.sg_limits.specs.declared.walk.Found.{Found}
use Rattle.sg_limits.specs.declared.walk.Findings.{Findings}

abbrev pub role_of : Role → Standing
role_of Anywhere = anywhere
role_of Divides = divides
role_of Body = is_body

abbrev pub items_of : Place → Standing → Tree → List Numbered
items_of place r t = with_item place.item (parts r place.limit place.depth t)

abbrev pub own_items : Place → Standing → Tree → List Numbered
own_items place r t = with_item place.item (own_part r place.limit place.depth t [])

abbrev pub at_place : Place → Standing → Tree → Numbered
at_place place r t = record { item = place.item; part = record { role = r; tree = t; limit = place.limit; depth = place.depth } }

abbrev pub IsBare : Tree → Type 0
IsBare (numeral c) = pos 0 ≤ℤ c
IsBare here = Unit {0}
IsBare param = Unit {0}
IsBare (add x y) = IsBare x × IsBare y
IsBare (neg x) = IsBare x
IsBare (mul x y) = IsBare x × IsBare y
IsBare (div x y) = IsBare x × IsBare y
IsBare (power x e) = IsBare x
IsBare (sum_from from body) = ⊥
IsBare (prod_from from body) = ⊥

abbrev pub IsFitting : Standing → Tree → Type 0
IsFitting anywhere t = Unit {0}
IsFitting divides t = IsBare t
IsFitting is_body t = IsBare t

abbrev pub IsWalkable : Standing → Tree → Type 0
IsWalkable r (numeral c) = IsFitting r (numeral c)
IsWalkable r here = IsFitting r here
IsWalkable r param = IsFitting r param
IsWalkable r (add x y) = IsFitting r (add x y) × IsWalkable anywhere x × IsWalkable anywhere y
IsWalkable r (neg x) = IsWalkable r x
IsWalkable r (mul x y) = IsWalkable r x × IsWalkable r y
IsWalkable r (div x y) = IsWalkable r x × IsWalkable divides y
IsWalkable r (power x e) = IsWalkable anywhere x × IsWalkable r x
IsWalkable r (sum_from from body) = IsWalkable anywhere body
IsWalkable r (prod_from from body) = IsWalkable is_body body

pub record IsFirstZero (r : Standing) (xs : List Numbered) (f : Found) : Type 0 where
  pub element : Numbered
  pub is : IsZeroPart r xs f.at element
  pub shown : IsShown f.place.item f.part f.place.depth element

abbrev pub IsFound : Standing → List Numbered → Option Found → Type 0
IsFound r xs None = NoneZero r xs
IsFound r xs (Some f) = IsFirstZero r xs f

pub record AreFound (xs : List Numbered) (f : Findings) : Type 0 where
  pub pole : IsFound divides xs f.pole
  pub factor : IsFound is_body xs f.factor

pub record IsFirstFar (item : ℕ) (part : Expr) (depth : ℕ) (xs : List Numbered) : Type 0 where
  pub element : Numbered
  pub first : First IsFarNumbered xs element
  pub shown : IsShown item part depth element

abbrev pub IsWalkFault : LimitFault → List Numbered → Type 0
IsWalkFault (Nodes item) xs = ⊥
IsWalkFault (Degree item) xs = ⊥
IsWalkFault Sums xs = ⊥
IsWalkFault Products xs = ⊥
IsWalkFault (FarPole item part depth) xs = IsFirstFar item part depth xs
IsWalkFault (Pole item at part depth) xs = ⊥
IsWalkFault (ZeroFactor item at part depth) xs = ⊥
IsWalkFault (Stop (Memory e)) xs = Unit {0}
IsWalkFault (Stop (Wide w)) xs = IsTooWide w × Among IsHeavyNumbered xs

-- the tree at the place, as a part of this role, is 0 at the number and at none before
pub record IsLeastAt (place : Place) (r : Standing) (t : Tree) (k : ℤ) : Type 0 where
  pub zero : IsRoleAt r k (at_place place r t)
  pub least : (j : ℤ) → j <ℤ k → IsRoleAt r j (at_place place r t) → ⊥

-- what was found before stays; where nothing was, the tree at the place is found, at the number where it is 0
abbrev pub FindsFirst : Place → Tree → ℤ → Option Found → Option Found → Type 0
FindsFirst place t at known new = (r : Standing) (front : List Numbered) → IsFound r front known → IsLeastAt place r t at → IsFound r (front ++ at_place place r t ∷ []) new

-- what is left to tell once all parts were gone over
abbrev pub IsRefusal : LimitFault → List Numbered → Type 0
IsRefusal (Nodes item) xs = ⊥
IsRefusal (Degree item) xs = ⊥
IsRefusal Sums xs = ⊥
IsRefusal Products xs = ⊥
IsRefusal (FarPole item part depth) xs = IsPoleOf far_pole item part depth xs
IsRefusal (Pole item at part depth) xs = IsPoleOf (pole at) item part depth xs
IsRefusal (ZeroFactor item at part depth) xs = IsPoleOf (zero_factor at) item part depth xs
IsRefusal (Stop (Memory e)) xs = Unit {0}
IsRefusal (Stop (Wide w)) xs = IsTooWide w × Among IsHeavyNumbered xs

-- what a walk over these parts answers, begun with what was found before
pub record AreWalked (xs : List Numbered) (found : Findings) (result : Result Findings LimitFault) : Type 0 where
  pub near : IfOk result (λ _. NoneFar xs)
  pub found_are : (front : List Numbered) → AreFound front found → IfOk result (λ f. AreFound (front ++ xs) f)
  pub fault : IfErr result (λ f. IsWalkFault f xs)
