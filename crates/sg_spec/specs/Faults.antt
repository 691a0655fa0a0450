-- Which part is refused.
--   Numbered, with_item     a part with the number of its expression
--   parts_from, parts_of    those of all expressions in turn, the first of them counted by a number; counted from 1, and none where poles aren't sought
--   First                   the first element of a list with a property
--   Among                   some element of a list with a property
--   IsFarNumbered, IsHeavyNumbered      the part is far, is heavy
--   IsRoleAt, Vanishes      a part of this role is 0 at a number at or above its limit; at some such number
--   NoneFar, NoneZero       no part is far; no part of this role vanishes
--   IsZeroPart              the first part of this role that vanishes, and the least number at which it does
--   PoleFault               a far pole; a pole or a zero factor at a number
--   IsPoleFault             it is the one that is answered: far poles stand before poles, and these before zero factors
--   AreSpared               there is none
use Rattle.std.specs.Prelude.{◌≡◌, ℕ, ◌+◌, ℤ, ◌<ℤ◌, List, [], ◌∷◌, ◌++◌, Option, Some, None}
use Rattle.sg_algebra.specs.Coefficients.{Each}
use Rattle.sg_spec.specs.Tree.{Tree}
use Rattle.sg_spec.specs.Parts.{Part, Role, anywhere, divides, is_body, parts, IsFar, IsZeroAt, IsHeavy}

pub record Numbered : Type 0 where
  pub item : ℕ
  pub part : Part

abbrev pub with_item : ℕ → List Part → List Numbered
with_item i [] = []
with_item i (p ∷ ps) = record { item = i; part = p } ∷ with_item i ps

abbrev pub parts_from : ℕ → ℤ → List Tree → List Numbered
parts_from i a [] = []
parts_from i a (t ∷ ts) = with_item i (parts anywhere a 0 t) ++ parts_from (i + 1) a ts

abbrev pub parts_of : Option ℤ → List Tree → List Numbered
parts_of None ts = []
parts_of (Some a) ts = parts_from 1 a ts

pub record First {A : Type 0} (P : A → Type 0) (xs : List A) (x : A) : Type 0 where
  pub before : List A
  pub after : List A
  pub split : xs ≡ before ++ x ∷ after
  pub none_before : Each (λ y. P y → ⊥) before
  pub holds : P x

pub record Among {A : Type 0} (P : A → Type 0) (xs : List A) : Type 0 where
  pub before : List A
  pub element : A
  pub after : List A
  pub split : xs ≡ before ++ element ∷ after
  pub holds : P element

abbrev pub IsFarNumbered : Numbered → Type 0
IsFarNumbered x = IsFar x.part

abbrev pub IsHeavyNumbered : Numbered → Type 0
IsHeavyNumbered x = IsHeavy x.part

abbrev pub IsRoleAt : Role → ℤ → Numbered → Type 0
IsRoleAt role k x = (x.part.role ≡ role) × IsZeroAt x.part k

abbrev pub Vanishes : Role → Numbered → Type 0
Vanishes role x = (k : ℤ) × IsRoleAt role k x

abbrev pub NoneFar : List Numbered → Type 0
NoneFar xs = Each (λ x. IsFarNumbered x → ⊥) xs

abbrev pub NoneZero : Role → List Numbered → Type 0
NoneZero role xs = Each (λ x. Vanishes role x → ⊥) xs

pub record IsZeroPart (role : Role) (xs : List Numbered) (k : ℤ) (x : Numbered) : Type 0 where
  pub first : First (Vanishes role) xs x
  pub zero : IsRoleAt role k x
  pub least : (j : ℤ) → j <ℤ k → IsRoleAt role j x → ⊥

pub data PoleFault : Type 0 where
  far_pole : Numbered → PoleFault
  pole : ℤ → Numbered → PoleFault
  zero_factor : ℤ → Numbered → PoleFault

abbrev pub IsPoleFault : List Numbered → PoleFault → Type 0
IsPoleFault xs (far_pole x) = First IsFarNumbered xs x
IsPoleFault xs (pole k x) = NoneFar xs × IsZeroPart divides xs k x
IsPoleFault xs (zero_factor k x) = NoneFar xs × NoneZero divides xs × IsZeroPart is_body xs k x

pub record AreSpared (xs : List Numbered) : Type 0 where
  pub near : NoneFar xs
  pub no_pole : NoneZero divides xs
  pub no_zero_factor : NoneZero is_body xs
