-- The lines of answers.
--   closed_line     `closed <h> from <s>`
--   form_line       `<h> from <s>`
--   yes_line        `yes from <s>`
--   free_line       `free <g>`: a new sum; equal_line: `<g> = <h> from <s>`
--   standing_line   the one of these for a sum and the expression that it is, where there is one
--   tower_lines     so for each of some sums in turn; `empty` where there is none
--   listed          the texts of products and sums, each after a comma and a blank
--   none_line       `none over k, <products>, <sums>`
--   wide_line       `wide <op> <left> <right>`
--   item_line       `refused <what> item <i>`, of the i-th text, counted from 1
--   placed          a kind of fault and its place
--   refusal_words   why a text isn't read
--   count_line      the count that passes its limit
--   letters_at      the letters of a scope by its depth: in a body the variable is j, and in one inside of it i, in turn
--   scope_text      a tree in the letters of a scope at a depth
--   part_text       a part of an expression in those of its scope
--   pole_line       the part of a divisor or of a product's body that is 0, or may be too far out, and where it is 0
use Rattle.std.specs.Prelude.{ℕ, ◌==◌, ◌%◌, List, [], ◌∷◌, ◌++◌, Option, Some, None, ℤ, codes, cond, decimal}
use Rattle.std.specs.Fmt.{signed_decimal}
use Rattle.sg_spec.specs.Reading.{Kind, numeral_fault, exponent_fault, unbound, form, Refusal, too_long, too_deep, no_text, faulty}
use Rattle.sg_spec.specs.Limits.{CountFault, too_many_nodes, too_steep, too_many_sums, too_many_products}
use Rattle.sg_spec.specs.Parts.{Part}
use Rattle.sg_spec.specs.Tree.{Tree}
use Rattle.sg_spec.specs.Faults.{PoleFault, far_pole, pole, zero_factor}
use Rattle.sg_num.specs.declared.step.Op.{Op}
use Rattle.sg_num.specs.declared.step.Op.TheVariants.{Add, Sub, Mul, Div}
use Rattle.sg_num.specs.declared.step.Wide.{Wide}
use Rattle.sg_num.specs.Value.{fraction}
use Rattle.sg_text.specs.PrintedText.{printed}
use Rattle.sg_text.specs.RationalText.{rational_text}

abbrev pub closed_line : List ℕ → ℤ → List ℕ
closed_line h start = codes "closed " ++ h ++ codes " from " ++ signed_decimal start ++ codes "\n"

abbrev pub form_line : List ℕ → ℤ → List ℕ
form_line h start = h ++ codes " from " ++ signed_decimal start ++ codes "\n"

abbrev pub yes_line : ℤ → List ℕ
yes_line start = codes "yes from " ++ signed_decimal start ++ codes "\n"

abbrev pub free_line : List ℕ → List ℕ
free_line g = codes "free " ++ g ++ codes "\n"

abbrev pub equal_line : List ℕ → List ℕ → ℤ → List ℕ
equal_line g h start = g ++ codes " = " ++ h ++ codes " from " ++ signed_decimal start ++ codes "\n"

abbrev pub standing_line : ℤ → Tree → Option Tree → List ℕ
standing_line start g None = free_line (printed (codes "k") g)
standing_line start g (Some h) = equal_line (printed (codes "k") g) (printed (codes "k") h) start

abbrev pub standing_lines : ℤ → List Tree → List (Option Tree) → List ℕ
standing_lines start [] os = []
standing_lines start (g ∷ gs) [] = []
standing_lines start (g ∷ gs) (o ∷ os) = standing_line start g o ++ standing_lines start gs os

abbrev pub tower_lines : ℤ → List Tree → List (Option Tree) → List ℕ
tower_lines start [] os = codes "empty\n"
tower_lines start (g ∷ gs) os = standing_lines start (g ∷ gs) os

abbrev pub listed : List Tree → List ℕ
listed [] = []
listed (g ∷ gs) = codes ", " ++ printed (codes "k") g ++ listed gs

abbrev pub none_line : List Tree → List ℕ
none_line gens = codes "none over k" ++ listed gens ++ codes "\n"

abbrev pub op_word : Op → List ℕ
op_word Add = codes "add"
op_word Sub = codes "sub"
op_word Mul = codes "mul"
op_word Div = codes "div"

abbrev pub wide_line : Wide → List ℕ
wide_line w = codes "wide " ++ op_word w.op ++ codes " " ++ rational_text (fraction w.left) ++ codes " " ++ rational_text (fraction w.right) ++ codes "\n"

abbrev pub item_line : List ℕ → ℕ → List ℕ
item_line what item = codes "refused " ++ what ++ codes " item " ++ decimal item ++ codes "\n"

abbrev pub placed : List ℕ → ℕ → List ℕ
placed kind place = kind ++ codes " at " ++ decimal place

abbrev pub kind_word : Kind → List ℕ
kind_word numeral_fault = codes "numeral"
kind_word exponent_fault = codes "exponent"
kind_word unbound = codes "unbound"
kind_word form = codes "form"

abbrev pub refusal_words : Refusal → List ℕ
refusal_words too_long = codes "long"
refusal_words (too_deep p) = placed (codes "deep") p
refusal_words (no_text p) = placed (codes "syntax") p
refusal_words (faulty f) = placed (kind_word f.kind) f.place

abbrev pub count_line : CountFault → List ℕ
count_line (too_many_nodes item) = item_line (codes "nodes") item
count_line (too_steep item) = item_line (codes "degree") item
count_line too_many_sums = codes "refused sums\n"
count_line too_many_products = codes "refused products\n"

abbrev pub letters_at : ℕ → List ℕ → List ℕ
letters_at d [] = []
letters_at d (v ∷ more) = cond (d == 0) v (cond (d % 2 == 1) 106 105) ∷ more

abbrev pub scope_text : List ℕ → ℕ → Tree → List ℕ
scope_text letters d t = printed (letters_at d letters) t

abbrev pub part_text : List ℕ → Part → List ℕ
part_text letters p = scope_text letters p.depth p.tree

abbrev pub pole_line : List ℕ → PoleFault → List ℕ
pole_line letters (far_pole x) = item_line (codes "far pole of " ++ part_text letters x.part) x.item
pole_line letters (pole k x) = item_line (codes "pole at " ++ signed_decimal k ++ codes " of " ++ part_text letters x.part) x.item
pole_line letters (zero_factor k x) = item_line (codes "zero factor at " ++ signed_decimal k ++ codes " of " ++ part_text letters x.part) x.item
