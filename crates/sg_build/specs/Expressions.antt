-- Elements of a tower as expressions, where `W x u l` says that the rational function x is written as u over l.
--   IsWrittenTerm r t u       u is the term t over r products: the powers of its sums, the last first, the exponents of its products, and its coefficient
--   IsExpression f x ps ss t  t is the canonical tree of the element x over the expressions ps of the products and ss of the sums: that of its terms in descending order
--   AreParts r ts old new     to the old terms these are added
--   ExpressesOver f x ps ss t wherever the products and sums have the values of ps and ss, t has that of x
--   IsBuiltAlike ps ss t      over the fractions t is built over all products and sums that ps and ss are built over, with no sum in a divisor
--   IsOverAlike ps ss t       without products it is built over the sums that ss are built over
--   IsPrintedAlike ps ss t    it is printed as it is, where ps and ss are
use Rattle.std.specs.Prelude.{◌≡◌, ℕ, suc, List, [], ◌++◌, length, map, reverse, take, drop, unsigned_abs, true, false, IsTrue}
use Rattle.sg_algebra.specs.Coefficients.{Each}
use Rattle.sg_algebra.proofs.Place.{Pairwise}
use Rattle.sg_algebra.proofs.Value.{Value}
use Rattle.sg_spec.specs.Tree.{Tree}
use Rattle.sg_spec.specs.Generators.{Over, Allowed, BuiltOver}
use Rattle.sg_spec.specs.Printing.{InForm}
use Rattle.sg_spec.specs.Shape.{is_divisor_tree}
use Rattle.sg_spec.specs.Canonical.{Plane, Written, element_tree}
use Rattle.sg_tower_theory.proofs.Formal.{Formal, Element}
use Rattle.sg_tower_theory.proofs.Flat.{Term, IsFlat}
use Rattle.sg_value_theory.proofs.Elements.{Point}
use Rattle.sg_value_theory.proofs.TreePoints.{IsPointOf, Expresses}
use Rattle.sg_canonical.specs.declared.element.Part.{Part}
use Rattle.sg_canonical.specs.Parts.{part_at}
use Rattle.sg_tower.specs.declared.flat.FlatTerm.{FlatTerm}
use Rattle.sg_tower.specs.Terms.{term_of}

module _ {d : ℕ} (W : Value (suc d) → Plane → Plane → Type 0) where
  pub record IsWrittenTerm (r : ℕ) (t : Term d) (u : Written) : Type 0 where
    pub powers : u.powers ≡ reverse (map unsigned_abs (drop r t.exponents))
    pub exponents : u.exponents ≡ take r t.exponents
    pub coefficient : W t.coefficient u.upper u.lower

  pub record IsExpression (f : Formal d) (x : Element f) (ps ss : List Tree) (t : Tree) : Type 0 where
    pub terms : List (Term d)
    pub written : List Written
    pub flat : IsFlat f x terms
    pub each : Pairwise (IsWrittenTerm (length f.products)) terms written
    pub form : t ≡ element_tree ps ss written

  abbrev pub AreParts : {K : Type 0} → (K → Value d) → ℕ → List (FlatTerm K) → List Part → List Part → Type 0
  AreParts v r ts old new = (more : List Part) × (new ≡ old ++ more) × Pairwise (IsWrittenTerm r) (map (term_of v) ts) (map (part_at 0) more)

abbrev pub ExpressesOver : {d : ℕ} → Value d → (f : Formal d) → Element f → List Tree → List Tree → Tree → Type 0
ExpressesOver {d} letter f x ps ss t = (p : Point d) → IsPointOf letter ps ss p → Expresses letter f p x t

abbrev pub allowed : List Tree → List Tree → Allowed
allowed qs us = record { parameter = false; products = qs; sums = us }

abbrev pub IsBuiltAlike : ℕ → List Tree → List Tree → Tree → Type 0
IsBuiltAlike d ps ss t =
    d ≡ 0 → (qs us : List Tree) → Each (λ p. BuiltOver (allowed qs us) p × IsTrue (is_divisor_tree p)) ps → Each (BuiltOver (allowed qs us)) ss → BuiltOver (allowed qs us) t

abbrev pub IsOverAlike : ℕ → List Tree → List Tree → Tree → Type 0
IsOverAlike d ps ss t = d ≡ 0 → ps ≡ [] → (us : List Tree) → Each (Over us) ss → Over us t

abbrev pub IsPrintedAlike : ℕ → List Tree → List Tree → Tree → Type 0
IsPrintedAlike d ps ss t = d ≡ 0 → Each (λ p. InForm false false p × (is_divisor_tree p ≡ true)) ps → Each (InForm false false) ss → InForm false false t
