-- Terms of elements.
--   part_at i p        the term without the last i sums
--   own_terms ps p     its terms without any sum, over the products ps
--   IsRun i e ps n     after a term with the power e of the sum at i, the first n of the terms ps have it too, and no more
use Rattle.std.specs.Prelude.{◌≡◌, ℕ, suc, List, [], ◌∷◌, ◌++◌, map, drop, take}
use Rattle.sg_spec.specs.Tree.{Tree}
use Rattle.sg_spec.specs.Canonical.{Written, Signed, of_coefficient, factors, upper_factor, lower_factor, lower_factors, first_power, groups, plane_of}
use Rattle.sg_canonical.specs.declared.element.Part.{Part}

abbrev pub part_at : ℕ → Part → Written
part_at i p = record { powers = drop i p.powers; exponents = p.exponents; upper = plane_of p.quotient.upper; lower = plane_of p.quotient.lower }

abbrev pub own_terms : List Tree → Part → List Signed
own_terms ps p = of_coefficient (plane_of p.quotient.upper) (factors upper_factor ps p.exponents) (lower_factors (plane_of p.quotient.lower) ++ factors lower_factor ps p.exponents)

abbrev pub IsRun : ℕ → ℕ → List Part → ℕ → Type 0
IsRun i e parts n = (p : Part) → first_power (drop i p.powers) ≡ e → groups (map (part_at i) (p ∷ parts)) ≡ (e, map (part_at (suc i)) (p ∷ take n parts)) ∷ groups (map (part_at i) (drop n parts))
