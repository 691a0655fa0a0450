-- How a command goes, and for which expressions. Each definition by cases has a line a command.
--   input_bounds    what texts the program takes
--   letters_of      the letters of the texts: the variable's and, where there is one, the parameter's
--   lower_of        the lower limit from which on expressions must have values; `value` asks for none, and for `tower` it is below those of all sums
--   undivided       the same expression with a product in place of each quotient, but for those in the bodies of sums and products
--   examined        the expressions whose parts may not be 0: those of the texts; for `tower` without their own quotients, since it asks for their sums alone
--   IsSum           a sum as a whole
--   MayStand        the expression may stand at this place among the texts, counted from 1
--   IsReadAt        the text at this place reads as this tree, and it may stand there
--   AreReadFrom     the texts from this place on read as these trees, one for one; AreRead: from the first one on
--   IsTaken         the command answers expressions like this one so far: `value` all, the others those without products
use Rattle.std.specs.Prelude.{◌≡◌, ℕ, ◌+◌, nat_le, ℤ, negsuc, Option, Some, None, List, [], ◌∷◌, map, codes, ◌⊎◌}
use Rattle.sg_spec.specs.Tree.{Tree, numeral, here, param, add, neg, mul, div, power, sum_from, prod_from}
use Rattle.sg_spec.specs.Reading.{Bounds, IsRead}
use Rattle.sg_worth_theory.proofs.Plain.{HasNoProduct}
use Rattle.sg_words.specs.declared.asked.Command.{Command}
use Rattle.sg_words.specs.declared.asked.Command.TheVariants.{Sum, Tower, Simplify, Check, Value, ValueAtParameter}

abbrev pub input_bounds : Bounds
input_bounds = record { bytes = 4096; parens = 32; limits = record { numeral = λ n. nat_le n 999999999999999999; exponent = λ n. nat_le n 32 } }

abbrev pub letters_of : Command → List ℕ
letters_of (Sum a) = codes "k"
letters_of Tower = codes "k"
letters_of (Simplify a) = codes "k"
letters_of (Check a) = codes "k"
letters_of (Value k) = codes "k"
letters_of (ValueAtParameter n k) = codes "kn"

abbrev pub lower_of : Command → Option ℤ
lower_of (Sum a) = Some a
lower_of Tower = Some (negsuc 1000)
lower_of (Simplify a) = Some a
lower_of (Check a) = Some a
lower_of (Value k) = None
lower_of (ValueAtParameter n k) = None

abbrev pub undivided : Tree → Tree
undivided (numeral c) = numeral c
undivided here = here
undivided param = param
undivided (add x y) = add (undivided x) (undivided y)
undivided (neg x) = neg (undivided x)
undivided (mul x y) = mul (undivided x) (undivided y)
undivided (div x y) = mul (undivided x) (undivided y)
undivided (power x e) = power (undivided x) e
undivided (sum_from from body) = sum_from from body
undivided (prod_from from body) = prod_from from body

abbrev pub examined : Command → List Tree → List Tree
examined (Sum a) es = es
examined Tower es = map undivided es
examined (Simplify a) es = es
examined (Check a) es = es
examined (Value k) es = es
examined (ValueAtParameter n k) es = es

abbrev pub IsSum : Tree → Type 0
IsSum (sum_from from body) = Unit {0}
IsSum e = ⊥

-- what stands after `with` is a sum as a whole
abbrev pub MayStand : Command → ℕ → Tree → Type 0
MayStand (Sum a) item e = (item ≡ 1) ⊎ IsSum e
MayStand Tower item e = Unit {0}
MayStand (Simplify a) item e = Unit {0}
MayStand (Check a) item e = Unit {0}
MayStand (Value k) item e = Unit {0}
MayStand (ValueAtParameter n k) item e = Unit {0}

abbrev pub IsReadAt : Command → ℕ → List ℕ → Tree → Type 0
IsReadAt c item text e = IsRead input_bounds (letters_of c) text e × MayStand c item e

abbrev pub AreReadFrom : Command → ℕ → List (List ℕ) → List Tree → Type 0
AreReadFrom c item [] [] = Unit {0}
AreReadFrom c item [] (e ∷ es) = ⊥
AreReadFrom c item (text ∷ texts) [] = ⊥
AreReadFrom c item (text ∷ texts) (e ∷ es) = IsReadAt c item text e × AreReadFrom c (item + 1) texts es

abbrev pub AreRead : Command → List (List ℕ) → List Tree → Type 0
AreRead c texts es = AreReadFrom c 1 texts es

abbrev pub IsTaken : Command → Tree → Type 0
IsTaken (Sum a) e = HasNoProduct e
IsTaken Tower e = HasNoProduct e
IsTaken (Simplify a) e = HasNoProduct e
IsTaken (Check a) e = HasNoProduct e
IsTaken (Value k) e = Unit {0}
IsTaken (ValueAtParameter n k) e = Unit {0}
