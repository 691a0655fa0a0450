-- Worked canonical forms.
use Rattle.std.proofs.Common.{◌≡◌, ℤ, pos, negsuc, refl, List, [], ◌∷◌}
use Rattle.sg_spec.specs.Tree.{Tree, numeral, here, param, add, neg, mul, div, power, sum_from}
use Rattle.sg_spec.specs.Canonical.{element_tree}

harmonic : Tree
harmonic = sum_from (pos 1) (div (numeral (pos 1)) here)

row : ℤ → List ℤ
row c = c ∷ []

-- (m^2+m)*H(m)/2-(m^2-m)/4
example-1 : (h : Tree) → element_tree [] (h ∷ []) (record { powers = 1 ∷ []; exponents = []; upper = (pos 1 ∷ []) ∷ ((pos 1 ∷ []) ∷ ((pos 0 ∷ []) ∷ [])); lower = (pos 2 ∷ []) ∷ [] }
    ∷ (record { powers = 0 ∷ []; exponents = []; upper = (negsuc 0 ∷ []) ∷ ((pos 1 ∷ []) ∷ ((pos 0 ∷ []) ∷ [])); lower = (pos 4 ∷ []) ∷ [] } ∷ []))
    ≡ add (div (mul (add (power here 2) here) h) (numeral (pos 2))) (neg (div (add (power here 2) (neg here)) (numeral (pos 4))))
example-1 h = refl

-- (m+1)*H(m)^2-(2*m+1)*H(m)+2*m
example-2 : (h : Tree) → element_tree [] (h ∷ []) (record { powers = 2 ∷ []; exponents = []; upper = (pos 1 ∷ []) ∷ ((pos 1 ∷ []) ∷ []); lower = (pos 1 ∷ []) ∷ [] }
    ∷ (record { powers = 1 ∷ []; exponents = []; upper = (negsuc 1 ∷ []) ∷ ((negsuc 0 ∷ []) ∷ []); lower = (pos 1 ∷ []) ∷ [] }
    ∷ (record { powers = 0 ∷ []; exponents = []; upper = (pos 2 ∷ []) ∷ ((pos 0 ∷ []) ∷ []); lower = (pos 1 ∷ []) ∷ [] } ∷ [])))
    ≡ add (add (mul (add here (numeral (pos 1))) (power h 2)) (neg (mul (add (mul (numeral (pos 2)) here) (numeral (pos 1))) h))) (mul (numeral (pos 2)) here)
example-2 h = refl

-- 4*x^2/3+2*x-4/3 over a product x, and k*b/(k-n-1) over a product b
example-3 : (x : Tree) → element_tree (x ∷ []) [] (record { powers = []; exponents = pos 2 ∷ []; upper = (pos 4 ∷ []) ∷ []; lower = (pos 3 ∷ []) ∷ [] }
    ∷ (record { powers = []; exponents = pos 1 ∷ []; upper = (pos 2 ∷ []) ∷ []; lower = (pos 1 ∷ []) ∷ [] }
    ∷ (record { powers = []; exponents = pos 0 ∷ []; upper = (negsuc 3 ∷ []) ∷ []; lower = (pos 3 ∷ []) ∷ [] } ∷ [])))
    ≡ add (add (div (mul (numeral (pos 4)) (power x 2)) (numeral (pos 3))) (mul (numeral (pos 2)) x)) (neg (div (numeral (pos 4)) (numeral (pos 3))))
example-3 x = refl

example-4 : (b : Tree) → element_tree (b ∷ []) [] (record { powers = []; exponents = pos 1 ∷ []; upper = (pos 1 ∷ []) ∷ ([] ∷ []); lower = (pos 1 ∷ []) ∷ ((negsuc 0 ∷ (negsuc 0 ∷ [])) ∷ []) } ∷ [])
    ≡ div (mul here b) (add (add here (neg param)) (neg (numeral (pos 1))))
example-4 b = refl

-- two sums: the coefficient of the last one stands in parentheses where it has more than one term, with its own sign
example-5 : (h g : Tree) → element_tree [] (h ∷ (g ∷ [])) (record { powers = 1 ∷ (1 ∷ []); exponents = []; upper = (negsuc 0 ∷ []) ∷ []; lower = (pos 1 ∷ []) ∷ [] }
    ∷ (record { powers = 1 ∷ (0 ∷ []); exponents = []; upper = (pos 1 ∷ []) ∷ ((pos 0 ∷ []) ∷ []); lower = (pos 1 ∷ []) ∷ [] }
    ∷ (record { powers = 0 ∷ (2 ∷ []); exponents = []; upper = (pos 1 ∷ []) ∷ []; lower = (pos 1 ∷ []) ∷ [] } ∷ [])))
    ≡ add (neg (mul (add h (neg here)) g)) (power h 2)
example-5 h g = refl
