-- What the products and the sums of a command are over those before them, and the simplest form of an expression over them, where Q says
-- which polynomials may stand above and below in a coefficient. Without products a sum may stand in a divisor; with products none may.
--   IsExpressed Q s ps before qs gs g h    h is g in canonical form over the free products qs and the new sums gs, built over the products
--                                          ps and the sums before, with the values of g from s on
--   IsProductStanding, AreProducts         what is told of a product p over the free ones qs: there is no match for it, or h; so of all
--   IsSumStanding, AreSums                 what is told of a sum: no expression over the products and the sums before it agrees with it
--                                          from any point on, or h; so of all
--   AreStandings                           what is told of the products, and then of the sums
--   IsSimplest Q s ps ss f h               h is f in canonical form over the free products and the new sums, from s on; no other such form
--                                          agrees with f from any point on
--   IsDependence Q s ps left right         the first product that is neither free nor expressed stands last in left, a product of powers
--                                          of it and of free ones before it; right is a rational function with the values of left from s on
use Rattle.std.specs.Prelude.{◌≡◌, ℕ, suc, ◌<◌, ℤ, pos, ◌<ℤ◌, false, Option, Some, None, List, [], ◌∷◌, ◌++◌, length, take, get_or}
use Rattle.sg_spec.specs.Tree.{Tree, here}
use Rattle.sg_spec.specs.Generators.{Over}
use Rattle.sg_spec.specs.Closed.{IsOverOwn}
use Rattle.sg_spec.specs.Telescoping.{Agree}
use Rattle.sg_spec.specs.Canonical.{Plane, IsCanonicalOver}
use Rattle.sg_forms_theory.specs.Sums.{IsEqualFrom, frees}
use Rattle.sg_answers_theory.specs.Matches.{HasNoMatch, IsDependentOver}
use Rattle.sg_answers_theory.specs.Answers.{IsNewSum}
use Rattle.sg_product_theory.specs.PowerProducts.{power_product}
use Rattle.sg_standings_theory.specs.Forms.{IsFormOver}

module _ (Q : Plane → Plane → Type 0) (s : ℤ) where
  pub record IsExpressed (ps before qs gs : List Tree) (g h : Tree) : Type 0 where
    pub over : IsOverOwn ps before h
    pub form : IsFormOver Q qs gs h
    pub same : IsEqualFrom s h g

  abbrev pub IsProductStanding : List Tree → List Tree → Tree → Option Tree → Type 0
  IsProductStanding before qs p None = HasNoMatch false qs p
  IsProductStanding before qs p (Some h) = IsExpressed before [] qs [] p h

  abbrev pub IsSumStanding : List Tree → List Tree → List Tree → List Tree → Tree → Option Tree → Type 0
  IsSumStanding ps before qs gs g None = IsNewSum ps before g
  IsSumStanding ps before qs gs g (Some h) = IsExpressed ps before qs gs g h

  pub record AreProducts (ps : List Tree) (os : List (Option Tree)) : Type 0 where
    pub count : length os ≡ length ps
    pub each : (i : ℕ) → i < length ps → IsProductStanding (take i ps) (frees (take i ps) (take i os)) (get_or ps i here) (get_or os i None)

  pub record AreSums (ps qs ss : List Tree) (os : List (Option Tree)) : Type 0 where
    pub count : length os ≡ length ss
    pub each : (i : ℕ) → i < length ss → IsSumStanding ps (take i ss) qs (frees (take i ss) (take i os)) (get_or ss i here) (get_or os i None)

  pub record AreStandings (ps ss : List Tree) (os : List (Option Tree)) : Type 0 where
    pub of_products : List (Option Tree)
    pub of_sums : List (Option Tree)
    pub all : os ≡ of_products ++ of_sums
    pub products : AreProducts ps of_products
    pub sums : AreSums ps (frees ps of_products) ss of_sums

  pub record IsSimplest (ps ss : List Tree) (f h : Tree) : Type 0 where
    pub of_products : List (Option Tree)
    pub of_sums : List (Option Tree)
    pub products : AreProducts ps of_products
    pub sums : AreSums ps (frees ps of_products) ss of_sums
    pub over : IsOverOwn ps ss h
    pub form : IsFormOver Q (frees ps of_products) (frees ss of_sums) h
    pub same : IsEqualFrom s h f
    pub only : (e : Tree) → IsFormOver Q (frees ps of_products) (frees ss of_sums) e → Agree e f → e ≡ h

  pub record IsDependence (ps : List Tree) (left right : Tree) : Type 0 where
    pub before : List Tree
    pub newest : Tree
    pub after : List Tree
    pub split : ps ≡ before ++ newest ∷ after
    pub of_products : List (Option Tree)
    pub products : AreProducts before of_products
    pub dependent : IsDependentOver false (frees before of_products) newest
    pub exponents : List ℤ
    pub sized : length exponents ≡ suc (length (frees before of_products))
    pub above_one : pos 1 <ℤ get_or exponents (length (frees before of_products)) (pos 0)
    pub left_is : left ≡ power_product (frees before of_products ++ newest ∷ []) exponents
    pub rational : Over [] right
    pub canonical : IsCanonicalOver [] [] right
    pub same : IsEqualFrom s left right
