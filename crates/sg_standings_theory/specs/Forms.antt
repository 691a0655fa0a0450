-- Canonical forms over products and sums, where Q says which polynomials may stand above and below in a coefficient.
--   IsFormOver Q ps gs h    h is the canonical tree of terms in descending order over the products ps and the sums gs, with such
--                           coefficients
use Rattle.std.specs.Prelude.{◌≡◌, List, length}
use Rattle.sg_algebra.specs.Coefficients.{Each}
use Rattle.sg_spec.specs.Tree.{Tree}
use Rattle.sg_spec.specs.Canonical.{Plane, Written, Descending, element_tree}

pub record IsFormOver (Q : Plane → Plane → Type 0) (ps gs : List Tree) (h : Tree) : Type 0 where
  pub terms : List Written
  pub sized : Each (λ t. (length t.powers ≡ length gs) × (length t.exponents ≡ length ps)) terms
  pub descending : Descending terms
  pub coefficients : Each (λ t. Q t.upper t.lower) terms
  pub form : h ≡ element_tree ps gs terms
