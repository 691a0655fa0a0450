-- The language of texts, tried on a few texts and trees that were worked by hand.
use Rattle.std.specs.Prelude.{ℕ, pos, negsuc, false, true, [], ◌∷◌, codes}
use Rattle.std.proofs.Common.{◌≡◌, refl, arith}
use Rattle.sg_spec.specs.Tree.{numeral, here, neg, div, power, sum_from}
use Rattle.sg_spec.specs.Grammar.{blanks, span, act, mark, letter, use_name, expr, term, factor, atom, worded, variable, exponent, more_factors, more_terms, first, later, none_left, eats, acts, opens_by}
use Rattle.sg_spec.specs.Syntax.{Spot, number, named, negated, added, divided, raised, sum_call, harmonic}
use Rattle.sg_spec.specs.Reading.{tree_in, faults, unlimited, unbound, form, HasTree, open_after}

abbrev spot : ℕ → ℕ → Spot
spot p v = record { place = p; value = v }

-- the text ` k` is the letter k at the place 1
built-letter : HasTree (codes " k") (named (record { place = 1; value = 107 }))
built-letter = record {
  end = record { place = 2; last = 107; marks = []; numbers = []; trees = named (spot 1 107) ∷ [] };
  built = opens_by (blanks ∷ expr ∷ []) refl first (opens_by (span 32 0 ∷ blanks ∷ []) refl first (eats 32 (omega arith) (omega arith) (opens_by [] refl (later first)
      (opens_by (term ∷ more_terms ∷ []) refl (later first) (opens_by (factor ∷ more_factors ∷ []) refl first (opens_by (atom ∷ exponent ∷ []) refl first
      (opens_by (act mark ∷ worded ∷ []) refl (later (later first)) (acts (opens_by (variable ∷ []) refl first
      (opens_by (span 97 25 ∷ act letter ∷ act use_name ∷ blanks ∷ []) refl first (eats 107 (omega arith) (omega arith) (acts (acts (opens_by [] refl (later first)
      (opens_by [] refl (later first) (opens_by [] refl (later (later first)) (opens_by [] refl (later (later first)) none_left)))))))))))))))));
  left = refl;
  no_marks = refl;
  no_numbers = refl;
}

-- in k, `-k^2` is the opposite of a square
tree-negated_square : tree_in (codes "k") (negated (raised (named (record { place = 1; value = 107 })) (record { place = 3; value = 2 }))) ≡ neg (power here 2)
tree-negated_square = refl

-- in k, the sum of 1/j from -5 on, written with a bound name j; inside, j is the variable
tree-sum : tree_in (codes "k") (sum_call (record { place = 0; value = 0 }) (record { place = 4; value = 106 }) (record { place = 6; value = 1 }) (record { place = 7; value = 5 })
    (record { place = 9; value = 107 }) (divided (number (record { place = 11; value = 1 })) (record { place = 13; value = 0 }) (named (record { place = 13; value = 106 }))))
    ≡ sum_from (negsuc 4) (div (numeral (pos 1)) here)
tree-sum = refl

-- in k alone, `1/(k+n)` has no divisor at the place 2, and the letter n at the place 5 is unbound
faults-divisor : faults unlimited false (codes "k") (divided (number (record { place = 0; value = 1 })) (record { place = 2; value = 0 })
    (added (named (record { place = 3; value = 107 })) (named (record { place = 5; value = 110 }))))
    ≡ record { kind = form; place = 2 } ∷ (record { kind = unbound; place = 5 } ∷ [])
faults-divisor = refl

-- with n as the parameter there is no fault
faults-parameter : faults unlimited false (codes "kn") (divided (number (record { place = 0; value = 1 })) (record { place = 2; value = 0 })
    (added (named (record { place = 3; value = 107 })) (named (record { place = 5; value = 110 })))) ≡ []
faults-parameter = refl

-- `H(k)` may not stand in the body of a product
faults-product : faults unlimited true (codes "k") (harmonic (record { place = 0; value = 0 }) (record { place = 2; value = 107 })) ≡ record { kind = form; place = 0 } ∷ []
faults-product = refl

-- a parenthesis that closes nothing closes nothing
open-after : open_after (codes ")((k)") ≡ 1
open-after = refl
