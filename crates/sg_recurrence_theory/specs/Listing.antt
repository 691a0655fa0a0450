-- The divisors of a recurrence: which polynomials they are, and in which order they are listed.
--   has_parameter, same_plane      whether the parameter stands in a polynomial; whether two are the same list
--   listed ds          those in which the parameter stands, each polynomial once, at its first place, with the least of its limits
--   turned p           what is kept over the powers of the one letter, over those of the other; lowest_first p     what is kept with the
--                      highest first, the lowest first
--   divisor_parts, zero_parts      the parts of divisors of expressions, and of the bodies of products
--   AreOfTerms s       those of the denominators of these terms, with the limit s
--   negative ps ts     the products with a negative exponent in some of these terms
--   standing_below     the products of all expressions that stand in what some quotient of the summands divides by, or have a negative
--                      exponent in the terms of an expressed generator or of the right side
--   IsListing          the list for the summands fs, the terms of the expressed generators, those of the right side, and the start s
use Rattle.std.specs.Prelude.{◌≡◌, Bool, true, false, ◌&&◌, cond, List, [], ◌∷◌, ◌++◌, map, reverse, ℤ, pos, negsuc}
use Rattle.std.specs.Int.{int_min}
use Rattle.sg_algebra.specs.Coefficients.{Each}
use Rattle.sg_algebra.proofs.Place.{Pairwise}
use Rattle.sg_spec.specs.Tree.{Tree}
use Rattle.sg_spec.specs.Generators.{same_whole, has_tree, prods, concatenated}
use Rattle.sg_spec.specs.Parts.{Plane, plane_add, Part, anywhere, divides, is_body, parts}
use Rattle.sg_spec.specs.Canonical.{Written}
use Rattle.sg_poly.specs.Plane.{IsTrimmed}
use Rattle.sg_parts.specs.Normal.{IsNormal}
use Rattle.sg_limits.specs.Divisors.{of_role, AreDivisors}
use Rattle.sg_limits.specs.declared.divisors.Divisor.{Divisor}
use Rattle.sg_recurrence_theory.specs.Below.{products_below}

-- ---- Lists of divisors

abbrev pub is_long : List ℤ → Bool
is_long [] = false
is_long (c ∷ []) = false
is_long (c ∷ (d ∷ row)) = true

abbrev pub has_parameter : Plane → Bool
has_parameter [] = false
has_parameter (row ∷ p) = cond (is_long row) true (has_parameter p)

abbrev pub same_row : List ℤ → List ℤ → Bool
same_row [] [] = true
same_row [] (d ∷ q) = false
same_row (c ∷ p) [] = false
same_row (c ∷ p) (d ∷ q) = same_whole c d && same_row p q

abbrev pub same_plane : Plane → Plane → Bool
same_plane [] [] = true
same_plane [] (r ∷ q) = false
same_plane (row ∷ p) [] = false
same_plane (row ∷ p) (r ∷ q) = same_row row r && same_plane p q

abbrev pub with_divisor : List Divisor → Divisor → List Divisor
with_divisor [] d = d ∷ []
with_divisor (e ∷ es) d = cond (same_plane e.poly d.poly) (record { poly = e.poly; limit = int_min e.limit d.limit } ∷ es) (e ∷ with_divisor es d)

abbrev pub listed_after : List Divisor → List Divisor → List Divisor
listed_after known [] = known
listed_after known (d ∷ ds) = listed_after (cond (has_parameter d.poly) (with_divisor known d) known) ds

abbrev pub listed : List Divisor → List Divisor
listed ds = listed_after [] ds

-- ---- Layouts

abbrev pub turned : Plane → Plane
turned [] = []
turned (row ∷ p) = plane_add (map (λ c. c ∷ []) row) (map (λ r. pos 0 ∷ r) (turned p))

abbrev pub lowest_first : Plane → Plane
lowest_first p = reverse (map reverse p)

-- ---- What is listed

abbrev pub AreOfTerms : ℤ → List Written → List Divisor → Type 0
AreOfTerms s ts ds = Pairwise (λ t d. IsNormal d.poly (turned (lowest_first t.lower)) × (d.limit ≡ s)) ts ds

abbrev pub divisor_parts : ℤ → List Tree → List Part
divisor_parts a [] = []
divisor_parts a (f ∷ fs) = of_role divides (parts anywhere a 0 f) ++ divisor_parts a fs

abbrev pub zero_parts : List Tree → List Part
zero_parts [] = []
zero_parts (p ∷ ps) = of_role is_body (parts anywhere (pos 0) 0 p) ++ zero_parts ps

abbrev pub is_negative : ℤ → Bool
is_negative (pos e) = false
is_negative (negsuc e) = true

abbrev pub negative_in : List Tree → List ℤ → List Tree
negative_in [] es = []
negative_in (p ∷ ps) [] = []
negative_in (p ∷ ps) (e ∷ es) = cond (is_negative e) (p ∷ negative_in ps es) (negative_in ps es)

abbrev pub negative : List Tree → List Written → List Tree
negative ps [] = []
negative ps (t ∷ ts) = negative_in ps t.exponents ++ negative ps ts

abbrev pub among : List Tree → List Tree → List Tree
among kept [] = []
among kept (p ∷ ps) = cond (has_tree p kept) (p ∷ among kept ps) (among kept ps)

-- free are the free products, over which the terms of the expressed generators, and of the right side, are written
abbrev pub standing_below : List Tree → List Tree → List Written → List Written → List Tree
standing_below fs free expressed right = among (concatenated (products_below anywhere) fs ++ (negative free expressed ++ negative free right)) (prods fs)

pub record IsListing (a s : ℤ) (fs free : List Tree) (expressed right : List Written) (V : List Divisor) : Type 0 where
  pub of_divisors : List Divisor
  pub divisors : AreDivisors (divisor_parts a fs) of_divisors
  pub of_zeros : List Divisor
  pub zeros : AreDivisors (zero_parts (standing_below fs free expressed right)) of_zeros
  pub of_generators : List Divisor
  pub generators : AreOfTerms s expressed of_generators
  pub of_right : List Divisor
  pub rights : AreOfTerms s right of_right
  pub trimmed : Each (λ d. IsTrimmed d.poly) (of_divisors ++ (of_zeros ++ (of_generators ++ of_right)))
  pub is : V ≡ listed (of_divisors ++ (of_zeros ++ (of_generators ++ of_right)))
