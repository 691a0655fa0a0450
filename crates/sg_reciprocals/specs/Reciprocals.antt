-- A number over the variable plus a number.
--   IsVariable, IsNumeral, IsNumber     the variable; a numeral; one other than 0
--   IsLinear                            the variable plus a numeral
--   IsReciprocal                        a numeral other than 0 over such a sum
use Rattle.std.specs.Prelude.{◌≢◌, pos}
use Rattle.sg_spec.specs.Tree.{Tree, numeral, here, add, div}

abbrev pub IsVariable : Tree → Type 0
IsVariable here = Unit {0}
IsVariable t = ⊥

abbrev pub IsNumeral : Tree → Type 0
IsNumeral (numeral c) = Unit {0}
IsNumeral t = ⊥

abbrev pub IsNumber : Tree → Type 0
IsNumber (numeral c) = c ≢ pos 0
IsNumber t = ⊥

abbrev pub IsLinear : Tree → Type 0
IsLinear (add x y) = IsVariable x × IsNumeral y
IsLinear t = ⊥

abbrev pub IsReciprocal : Tree → Type 0
IsReciprocal (div x y) = IsNumber x × IsLinear y
IsReciprocal t = ⊥
