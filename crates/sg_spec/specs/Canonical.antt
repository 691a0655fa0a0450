-- The canonical form of an element over products and sums.
--   Plane                 a polynomial in the variable and the parameter with whole coefficients: a list over the powers of the variable of lists over those of the
--                         parameter, each the highest first
--   Signed                a term with a sign: a numerator, the factors that stand above and those that stand below
--   unsigned_tree, signed_tree     the tree of a term without and with its sign
--   total_tree            that of the terms one after the other, each with its sign
--   monomials, polynomial_tree     the terms of a polynomial, the highest power of the variable first and then of the parameter; its tree
--   plane_of cs           the polynomial in the variable alone with these coefficients, the highest first
--   Written               a term of an element: the powers of the sums, the last first, and of the products, in order, and a coefficient as a quotient of polynomials
--   term_of               its signed terms where there is no sum: those of the polynomial where nothing stands beside or below it, else one with one sign
--   raised                signed terms times a power of a sum: into the term where it is one, else after all of them in parentheses, with the sign of the first
--   signed_terms ps ss ts     the signed terms of the element with the terms ts over the products ps and the sums ss, the last sum first
--   element_tree          its tree
--   IsLowest              a quotient of polynomials in lowest terms, with a positive leading coefficient below
--   IsCanonicalOver ps ss h    h is such a tree of terms in descending order, the last sum compared first, with coefficients in lowest terms
use Rattle.std.specs.Prelude.{◌≡◌, ◌≢◌, ℕ, zero, suc, ◌==◌, ℤ, pos, negsuc, neg_ℤ, ◌<ℤ◌, Bool, true, false, not, ◌&&◌, cond, List, [], ◌∷◌, ◌++◌, length, map, reverse, unsigned_abs, ◌⊎◌}
use Rattle.sg_algebra.specs.Divisor.{gcd}
use Rattle.sg_algebra.specs.Ring.{Ring}
use Rattle.sg_algebra.specs.Coefficients.{Each}
use Rattle.sg_algebra.proofs.Value.{Value}
use Rattle.sg_algebra.proofs.ValueField.{ValueR}
use Rattle.sg_algebra.proofs.Rational.{whole_value}
use Rattle.sg_algebra.proofs.PolynomialRing.{PolyR}
use Rattle.sg_algebra.proofs.Divides.{Divides}
use Rattle.sg_spec.specs.Tree.{Tree, numeral, here, param, add, neg, mul, div, power}
use Rattle.sg_spec.specs.Generators.{same_tree}

abbrev pub Plane : Type 0
Plane = List (List ℤ)

pub record Signed : Type 0 where
  pub minus : Bool
  pub numerator : Tree
  pub uppers : List Tree
  pub lowers : List Tree

-- ---- Trees of terms

abbrev pub times_all : Tree → List Tree → Tree
times_all t [] = t
times_all t (u ∷ us) = times_all (mul t u) us

abbrev pub over_all : Tree → List Tree → Tree
over_all t [] = t
over_all t (u ∷ us) = over_all (div t u) us

-- the numerator 1 isn't written before a factor
abbrev pub above : Tree → List Tree → Tree
above n [] = n
above n (u ∷ us) = cond (same_tree n (numeral (pos 1))) (times_all u us) (times_all n (u ∷ us))

abbrev pub unsigned_tree : Signed → Tree
unsigned_tree s = over_all (above s.numerator s.uppers) s.lowers

abbrev pub with_sign : Bool → Tree → Tree
with_sign minus t = cond minus (neg t) t

abbrev pub signed_tree : Signed → Tree
signed_tree s = with_sign s.minus (unsigned_tree s)

abbrev pub added : Tree → List Signed → Tree
added t [] = t
added t (s ∷ ss) = added (add t (signed_tree s)) ss

abbrev pub total_tree : List Signed → Tree
total_tree [] = numeral (pos 0)
total_tree (s ∷ ss) = added (signed_tree s) ss

abbrev pub turned : Signed → Signed
turned s = record s { minus = not s.minus }

-- ---- Polynomials

abbrev pub raised_factor : Tree → ℕ → List Tree
raised_factor t zero = []
raised_factor t (suc zero) = t ∷ []
raised_factor t (suc (suc e)) = power t (suc (suc e)) ∷ []

abbrev pub monomial : ℕ → ℕ → ℕ → Tree
monomial c i j = above (numeral (pos c)) (raised_factor here i ++ raised_factor param j)

abbrev pub plain_term : Bool → Tree → Signed
plain_term minus t = record { minus = minus; numerator = t; uppers = []; lowers = [] }

-- those with coefficients other than 0
abbrev pub monomial_terms : ℤ → ℕ → ℕ → List Signed
monomial_terms (pos zero) i j = []
monomial_terms (pos (suc c)) i j = plain_term false (monomial (suc c) i j) ∷ []
monomial_terms (negsuc c) i j = plain_term true (monomial (suc c) i j) ∷ []

abbrev pub row_monomials : ℕ → List ℤ → List Signed
row_monomials i [] = []
row_monomials i (c ∷ cs) = monomial_terms c i (length cs) ++ row_monomials i cs

abbrev pub monomials : Plane → List Signed
monomials [] = []
monomials (row ∷ p) = row_monomials (length p) row ++ monomials p

abbrev pub polynomial_tree : Plane → Tree
polynomial_tree p = total_tree (monomials p)

abbrev pub leads_below : List Signed → Bool
leads_below [] = false
leads_below (s ∷ ss) = s.minus

-- without the parameter
abbrev pub plane_of : List ℤ → Plane
plane_of cs = map (λ c. c ∷ []) cs

abbrev pub negated : Plane → Plane
negated p = map (map neg_ℤ) p

-- ---- Terms of elements

pub record Written : Type 0 where
  pub powers : List ℕ
  pub exponents : List ℤ
  pub upper : Plane
  pub lower : Plane

abbrev pub is_one : Plane → Bool
is_one p = same_tree (polynomial_tree p) (numeral (pos 1))

abbrev pub upper_factor : Tree → ℤ → List Tree
upper_factor t (pos e) = raised_factor t e
upper_factor t (negsuc e) = []

abbrev pub lower_factor : Tree → ℤ → List Tree
lower_factor t (pos e) = []
lower_factor t (negsuc e) = raised_factor t (suc e)

-- each product with its exponent; an exponent that isn't there is 0
abbrev pub factors : (Tree → ℤ → List Tree) → List Tree → List ℤ → List Tree
factors f [] es = []
factors f (t ∷ ts) [] = []
factors f (t ∷ ts) (e ∷ es) = f t e ++ factors f ts es

abbrev pub is_empty : List Tree → Bool
is_empty [] = true
is_empty (t ∷ ts) = false

abbrev pub lower_factors : Plane → List Tree
lower_factors q = cond (is_one q) [] (polynomial_tree q ∷ [])

abbrev pub one_term : Plane → List Tree → List Tree → Signed
one_term p us ls = record { minus = leads_below (monomials p); numerator = polynomial_tree (cond (leads_below (monomials p)) (negated p) p); uppers = us; lowers = ls }

abbrev pub of_coefficient : Plane → List Tree → List Tree → List Signed
of_coefficient p us ls = cond (is_empty us && is_empty ls) (monomials p) (one_term p us ls ∷ [])

abbrev pub term_of : List Tree → Written → List Signed
term_of ps t = of_coefficient t.upper (factors upper_factor ps t.exponents) (lower_factors t.lower ++ factors lower_factor ps t.exponents)

abbrev pub with_upper : Signed → List Tree → Signed
with_upper s us = record s { uppers = s.uppers ++ us }

abbrev pub grouped : Bool → List Signed → List Tree → Signed
grouped minus ss us = record { minus = minus; numerator = numeral (pos 1); uppers = total_tree (cond minus (map turned ss) ss) ∷ us; lowers = [] }

abbrev pub raised : Tree → ℕ → List Signed → List Signed
raised t zero ss = ss
raised t (suc e) [] = []
raised t (suc e) (s ∷ []) = with_upper s (raised_factor t (suc e)) ∷ []
raised t (suc e) (s ∷ (r ∷ ss)) = grouped s.minus (s ∷ (r ∷ ss)) (raised_factor t (suc e)) ∷ []

-- the power of the last sum, and the term without it
abbrev pub first_power : List ℕ → ℕ
first_power [] = 0
first_power (e ∷ es) = e

abbrev pub later_powers : List ℕ → List ℕ
later_powers [] = []
later_powers (e ∷ es) = es

abbrev pub without : Written → Written
without t = record t { powers = later_powers t.powers }

-- runs of terms with one power of the last sum
abbrev pub before_groups : ℕ → Written → List (ℕ × List Written) → List (ℕ × List Written)
before_groups e t [] = (e, t ∷ []) ∷ []
before_groups e t (g ∷ gs) = cond (e == g.0) ((g.0, t ∷ g.1) ∷ gs) ((e, t ∷ []) ∷ (g ∷ gs))

abbrev pub groups : List Written → List (ℕ × List Written)
groups [] = []
groups (t ∷ ts) = before_groups (first_power t.powers) (without t) (groups ts)

abbrev pub joined : {A : Type 0} → (A → List Signed) → List A → List Signed
joined f [] = []
joined f (x ∷ xs) = f x ++ joined f xs

abbrev pub signed_terms : List Tree → List Tree → List Written → List Signed
signed_terms ps [] ts = joined (term_of ps) ts
signed_terms ps (s ∷ ss) ts = joined (λ g. raised s g.0 (signed_terms ps ss g.1)) (groups ts)

abbrev pub element_tree : List Tree → List Tree → List Written → Tree
element_tree ps ss ts = total_tree (signed_terms ps (reverse ss) ts)

-- ---- The canonical form

-- the powers of the sums, the last first, then those of the products, the last first
abbrev pub ranks : Written → List ℤ
ranks t = map (λ e. pos e) t.powers ++ reverse t.exponents

abbrev pub IsAfter : List ℤ → List ℤ → Type 0
IsAfter [] bs = ⊥
IsAfter (a ∷ as') [] = ⊥
IsAfter (a ∷ as') (b ∷ bs) = (b <ℤ a) ⊎ ((a ≡ b) × IsAfter as' bs)

abbrev pub Descending : List Written → Type 0
Descending [] = Unit {0}
Descending (t ∷ []) = Unit {0}
Descending (t ∷ (u ∷ ts)) = IsAfter (ranks t) (ranks u) × Descending (u ∷ ts)

-- with fractions as coefficients, the lowest first
abbrev pub plane_polynomial : Plane → List (List (Value 0))
plane_polynomial p = map (λ row. map (whole_value 0) (reverse row)) (reverse p)

abbrev pub Planes : Ring
Planes = PolyR (PolyR (ValueR 0))

abbrev pub content : List ℤ → ℕ
content [] = 0
content (c ∷ cs) = gcd (unsigned_abs c) (content cs)

abbrev pub entries : Plane → List ℤ
entries [] = []
entries (row ∷ p) = row ++ entries p

abbrev pub leading : Plane → ℤ
leading [] = pos 0
leading ([] ∷ p) = pos 0
leading ((c ∷ cs) ∷ p) = c

pub record IsLowest (upper lower : Plane) : Type 0 where
  pub some : leading upper ≢ pos 0
  pub positive : pos 0 <ℤ leading lower
  pub apart : (c : List (List (Value 0))) → Divides Planes c (plane_polynomial upper) → Divides Planes c (plane_polynomial lower) → (a : Value 0) × Planes.◌≈◌ c ((a ∷ []) ∷ [])
  pub primitive : content (entries upper ++ entries lower) ≡ 1

pub record IsCanonicalOver (ps ss : List Tree) (h : Tree) : Type 0 where
  pub terms : List Written
  pub sized : Each (λ t. (length t.powers ≡ length ss) × (length t.exponents ≡ length ps)) terms
  pub descending : Descending terms
  pub lowest : Each (λ t. IsLowest t.upper t.lower) terms
  pub form : h ≡ element_tree ps ss terms
