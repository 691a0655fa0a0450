-- What the lines of a recurrence say of a summand f, besides its equation.
--   IsLateEqual s g h      at each place k from s on g and h have one value at each parameter from some number on, which may hang on k
--   frees gs os            the new ones of the generators gs: those for which no terms stand in the list os
--   terms_in os            the terms that stand in such a list, in turn
--   IsWrittenAs            the generator g is this element over the new products and sums, in canonical form
--   AreGenerators          so each generator is new, or written by the terms that stand there
--   IsNormalRow cs         the polynomials in the parameter have no common divisor of positive degree and no common whole divisor, and the
--                          last one that isn't 0 has a leading coefficient above 0
--   IsConstantFree u l     u/l is a polynomial in the variable without a constant and a proper fraction, over the fractions of polynomials
--                          in the parameter
--   IsNormalRight ts       so is the coefficient of the term without generators
--   IsRecurrence           all of it: `order`, `c0` .., `G`, `divisors`, `range` and `from` are told by these
use Rattle.std.specs.Prelude.{◌≡◌, ◌≢◌, ℕ, ◌<◌, List, [], ◌∷◌, ◌++◌, map, length, get_or, ℤ, pos, ◌+ℤ◌, ◌*ℤ◌, ◌≤ℤ◌, ◌<ℤ◌, unsigned_abs, Option, Some, None, codes}
use Rattle.sg_algebra.specs.Divisor.{gcd}
use Rattle.sg_algebra.specs.Coefficients.{Each, eval}
use Rattle.sg_algebra.proofs.Whole.{ℤR}
use Rattle.sg_algebra.proofs.Value.{Value}
use Rattle.sg_algebra.proofs.ValueField.{ValueR}
use Rattle.sg_algebra.proofs.Rational.{whole_value}
use Rattle.sg_algebra.proofs.PolynomialRing.{PolyR}
use Rattle.sg_algebra.proofs.Divides.{Divides}
use Rattle.sg_algebra.proofs.Place.{Pairwise}
use Rattle.sg_spec.specs.Tree.{Tree}
use Rattle.sg_spec.specs.Value.{val, SameValue}
use Rattle.sg_spec.specs.Generators.{sums, prods}
use Rattle.sg_spec.specs.Reading.{Reads}
use Rattle.sg_spec.specs.Canonical.{Plane, Written, Descending, IsLowest, element_tree}
use Rattle.sg_limits.specs.declared.divisors.Divisor.{Divisor}
use Rattle.sg_answers_theory.specs.Recurrences.{coefficient}
use Rattle.sg_recurrence_theory.specs.Planes.{value_at}
use Rattle.sg_recurrence_theory.specs.Ranges.{Range, IsRange}
use Rattle.sg_answers_theory.specs.Recurrences.{shifts}
use Rattle.sg_recurrence_theory.specs.Recurrences.{Rec}
use Rattle.sg_recurrence_theory.specs.Listing.{IsListing, lowest_first}
use Rattle.sg_text.specs.PrintedText.{printed}

abbrev pub IsLateEqual : ℤ → Tree → Tree → Type 0
IsLateEqual s g h = (k : ℤ) → s ≤ℤ k → (B : ℤ) × ((n : ℤ) → pos 0 ≤ℤ n → B ≤ℤ n → SameValue (val g n k) (val h n k))

abbrev pub frees : List Tree → List (Option (List Written)) → List Tree
frees [] os = []
frees (g ∷ gs) [] = []
frees (g ∷ gs) (None ∷ os) = g ∷ frees gs os
frees (g ∷ gs) (Some ts ∷ os) = frees gs os

abbrev pub terms_in : List (Option (List Written)) → List Written
terms_in [] = []
terms_in (None ∷ os) = terms_in os
terms_in (Some ts ∷ os) = ts ++ terms_in os

pub record AreCanonical (ps ss : List Tree) (ts : List Written) : Type 0 where
  pub sized : Each (λ t. (length t.powers ≡ length ss) × (length t.exponents ≡ length ps)) ts
  pub descending : Descending ts
  pub lowest : Each (λ t. IsLowest t.upper t.lower) ts

pub record IsWrittenAs (s : ℤ) (ps ss : List Tree) (g : Tree) (ts : List Written) : Type 0 where
  pub canonical : AreCanonical ps ss ts
  pub same : IsLateEqual s (element_tree ps ss ts) g

abbrev pub IsStanding : ℤ → List Tree → List Tree → Tree → Option (List Written) → Type 0
IsStanding s ps ss g None = Unit {0}
IsStanding s ps ss g (Some ts) = IsWrittenAs s ps ss g ts

abbrev pub AreGenerators : ℤ → List Tree → List Tree → List Tree → List (Option (List Written)) → Type 0
AreGenerators s ps ss gs os = Pairwise (IsStanding s ps ss) gs os

-- ---- Normal forms

abbrev pub contents : ℕ → List (List ℤ) → ℕ
contents g [] = g
contents g (row ∷ rows) = contents (row_gcd g row) rows
  where
    row_gcd : ℕ → List ℤ → ℕ
    row_gcd g [] = g
    row_gcd g (c ∷ row) = row_gcd (gcd g (unsigned_abs c)) row

-- the coefficient at n^j of the polynomial c_i leads: none other than 0 stands in a later polynomial, or in this one at a higher power
pub record Leads (cs : List (List ℤ)) (i j : ℕ) : Type 0 where
  pub some : coefficient cs i j ≢ pos 0
  pub last_polynomial : (k l : ℕ) → i < k → coefficient cs k l ≡ pos 0
  pub last : (l : ℕ) → j < l → coefficient cs i l ≡ pos 0

pub record IsNormalRow (cs : List (List ℤ)) : Type 0 where
  pub whole : contents 0 cs ≡ 1
  pub apart : (c : List (Value 0)) → Each (λ row. Divides (PolyR (ValueR 0)) c (map (whole_value 0) row)) cs
      → (a : Value 0) × (PolyR (ValueR 0)).◌≈◌ c (a ∷ [])
  pub positive : (i j : ℕ) → Leads cs i j → pos 0 <ℤ coefficient cs i j

-- m u = q l + r, where m is a polynomial in the parameter alone, r has a lower degree in the variable than l, and q no constant
pub record IsConstantFree (u l : Plane) : Type 0 where
  pub m : List ℤ
  pub q : Plane
  pub r : Plane
  pub some : (j : ℕ) × (get_or m j (pos 0) ≢ pos 0)
  pub division : (n k : ℤ) → eval ℤR m n *ℤ value_at (lowest_first u) n k ≡ value_at q n k *ℤ value_at (lowest_first l) n k +ℤ value_at r n k
  pub lower : length r < length l
  pub no_constant : (j : ℕ) → coefficient q 0 j ≡ pos 0

abbrev pub IsBare : Written → Type 0
IsBare t = Each (λ e. e ≡ 0) t.powers × Each (λ e. e ≡ pos 0) t.exponents

abbrev pub IsNormalRight : List Written → Type 0
IsNormalRight ts = Each (λ t. IsBare t → IsConstantFree t.upper t.lower) ts

-- ---- All of it

pub record IsRecurrence (f : Tree) (J : ℕ) (a : ℤ) (cs : List (List ℤ)) (h : Tree) (V : List Divisor) (range : Range) (s : ℤ) : Type 0 where
  pub products : List (Option (List Written))
  pub sums_are : List (Option (List Written))
  pub right : List Written
  pub form : h ≡ element_tree (frees (prods (shifts J f)) products) (frees (sums (shifts J f)) sums_are) right
  pub equation : Rec f J a cs h V s
  pub products_stand : AreGenerators s (frees (prods (shifts J f)) products) (frees (sums (shifts J f)) sums_are) (prods (shifts J f)) products
  pub sums_stand : AreGenerators s (frees (prods (shifts J f)) products) (frees (sums (shifts J f)) sums_are) (sums (shifts J f)) sums_are
  pub canonical : AreCanonical (frees (prods (shifts J f)) products) (frees (sums (shifts J f)) sums_are) right
  pub normal : IsNormalRow cs
  pub normal_right : IsNormalRight right
  pub list : IsListing a s (shifts J f) (frees (prods (shifts J f)) products) (terms_in products ++ terms_in sums_are) right V
  pub range_is : IsRange range V
  pub reads_back : Reads (printed (codes "kn") h) (codes "kn") h
