-- Products of powers of products, as they are written.
--   one_plane               the coefficient 1
--   power_product ps es     the canonical tree of the product of the powers of the products ps by es
use Rattle.std.specs.Prelude.{ℤ, pos, List, [], ◌∷◌}
use Rattle.sg_spec.specs.Tree.{Tree}
use Rattle.sg_spec.specs.Canonical.{Plane, element_tree}

abbrev pub one_plane : Plane
one_plane = (pos 1 ∷ []) ∷ []

abbrev pub power_product : List Tree → List ℤ → Tree
power_product ps es = element_tree ps [] (record { powers = []; exponents = es; upper = one_plane; lower = one_plane } ∷ [])
