-- The lines of a recurrence.
--   highest_first p         a polynomial as it is written: over the powers of the variable and then of the parameter, the highest first
--   polynomial_text p       its text in k and n
--   coefficient_lines       `c0 <p>`, `c1 <p>`, ..
--   divisor_text            `<p> from <l>`; divisors_text    those of a list, each but the first after a comma and a blank; `none` where
--                           there is none
--   range_text              `all`, `N<n`, `open`
--   recurrence_lines        the J + 6 lines
--   none_to_order_line      `none to order <d>`
use Rattle.std.specs.Prelude.{ℕ, suc, ◌-◌, List, [], ◌∷◌, ◌++◌, map, reverse, length, ℤ, codes}
use Rattle.std.specs.Fmt.{decimal, signed_decimal}
use Rattle.sg_spec.specs.Parts.{Plane}
use Rattle.sg_spec.specs.Tree.{Tree}
use Rattle.sg_spec.specs.Canonical.{polynomial_tree}
use Rattle.sg_text.specs.PrintedText.{printed}
use Rattle.sg_limits.specs.declared.divisors.Divisor.{Divisor}
use Rattle.sg_recurrence_theory.specs.Ranges.{Range, all, below, nothing_said}

abbrev pub highest_first : Plane → Plane
highest_first p = reverse (map reverse p)

abbrev pub polynomial_text : Plane → List ℕ
polynomial_text p = printed (codes "kn") (polynomial_tree (highest_first p))

-- a polynomial in the parameter alone is one without powers of the variable
abbrev pub coefficient_lines : ℕ → List (List ℤ) → List ℕ
coefficient_lines i [] = []
coefficient_lines i (c ∷ cs) = codes "c" ++ decimal i ++ codes " " ++ polynomial_text (c ∷ []) ++ codes "\n" ++ coefficient_lines (suc i) cs

abbrev pub divisor_text : Divisor → List ℕ
divisor_text d = polynomial_text d.poly ++ codes " from " ++ signed_decimal d.limit

abbrev pub more_divisors : List Divisor → List ℕ
more_divisors [] = []
more_divisors (d ∷ ds) = codes ", " ++ divisor_text d ++ more_divisors ds

abbrev pub divisors_text : List Divisor → List ℕ
divisors_text [] = codes "none"
divisors_text (d ∷ ds) = divisor_text d ++ more_divisors ds

abbrev pub range_text : Range → List ℕ
range_text all = codes "all"
range_text below = codes "N<n"
range_text nothing_said = codes "open"

abbrev pub recurrence_lines : List (List ℤ) → Tree → List Divisor → Range → ℤ → List ℕ
recurrence_lines cs g V range start =
    codes "order " ++ decimal (length cs - 1) ++ codes "\n"
    ++ coefficient_lines 0 cs
    ++ (codes "G " ++ printed (codes "kn") g ++ codes "\n")
    ++ (codes "divisors " ++ divisors_text V ++ codes "\n")
    ++ (codes "range " ++ range_text range ++ codes "\n")
    ++ (codes "from " ++ signed_decimal start ++ codes "\n")

abbrev pub none_to_order_line : ℕ → List ℕ
none_to_order_line d = codes "none to order " ++ decimal d ++ codes "\n"
