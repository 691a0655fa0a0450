-- What the canonical tree of an element is built from.
--   Builds P Q D N      P holds of what is built from numerals, the variable and the operations, Q of polynomials, D of what is divided by; N says whether
--                       the parameter may stand in polynomials
--   element-built       P holds of the tree of an element over products and sums that it holds of, where powers of the products may stand below
--   over-element        a tree without products and parameter is built over its sums
--   over-products       a tree without parameter over its products and sums, with no sum in a divisor
--   element-printed, element-form      the tree is printed as it is
use Rattle.std.proofs.Common.{◌≡◌, ℕ, zero, suc, ◌≤◌, ◌==◌, ℤ, pos, negsuc, neg_ℤ, Bool, true, false, IsTrue, cond, ◌&&◌, refl, List, [], ◌∷◌, ◌++◌, map, length, reverse, arith, subst, sym, ap₂}
use Rattle.std.proofs.lemmas.Int.{ints}
use Rattle.std.proofs.lemmas.List.{length-map}
use Rattle.sg_algebra.specs.Coefficients.{Each}
use Rattle.sg_spec.specs.Tree.{Tree, numeral, here, param, add, neg, mul, div, power, sum_from, prod_from}
use Rattle.sg_spec.specs.Generators.{same_tree, Over, Allowed, BuiltOver}
use Rattle.sg_spec.specs.Printing.{InForm}
use Rattle.sg_spec.specs.Shape.{is_polynomial_tree, is_divisor_tree}
use Rattle.sg_spec.specs.Canonical.{Plane, Signed, times_all, over_all, above, unsigned_tree, with_sign, signed_tree, added, total_tree, turned, raised_factor, monomial, monomial_terms, row_monomials, monomials, polynomial_tree, leads_below, negated, Written, is_one, upper_factor, lower_factor, factors, lower_factors, one_term, of_coefficient, term_of, grouped, first_power, without, before_groups, groups, joined, raised, signed_terms, element_tree}

pub record Builds (P Q D : Tree → Type 0) (N : Type 0) : Type 0 where
  pub number : (c : ℕ) → Q (numeral (pos c))
  pub variable : Q here
  pub parameter : N → Q param
  pub plain_sum : (x y : Tree) → Q x → Q y → Q (add x y)
  pub plain_opposite : (x : Tree) → Q x → Q (neg x)
  pub plain_product : (x y : Tree) → Q x → Q y → Q (mul x y)
  pub plain_power : (x : Tree) (e : ℕ) → Q x → Q (power x e)
  pub plain : (x : Tree) → Q x → P x
  pub divisor : (x : Tree) → Q x → D x
  pub sum : (x y : Tree) → P x → P y → P (add x y)
  pub opposite : (x : Tree) → P x → P (neg x)
  pub product : (x y : Tree) → P x → P y → P (mul x y)
  pub quotient : (x y : Tree) → P x → D y → P (div x y)
  pub raise : (x : Tree) (e : ℕ) → P x → P (power x e)

each-append : {A : Type 0} (Q : A → Type 0) (xs ys : List A) → Each Q xs → Each Q ys → Each Q (xs ++ ys)
each-append Q [] ys h i = i
each-append Q (x ∷ xs) ys h i = (h.0, each-append Q xs ys h.1 i)

factor-built : (P : Tree → Type 0) (t : Tree) (e : ℕ) → P t → ((e : ℕ) → P (power t e)) → Each P (raised_factor t e)
factor-built P t zero h p = tt
factor-built P t (suc zero) h p = (h, tt)
factor-built P t (suc (suc e)) h p = (p (suc (suc e)), tt)

times_all-built : (P : Tree → Type 0) → ((x y : Tree) → P x → P y → P (mul x y)) → (t : Tree) (us : List Tree) → P t → Each P us → P (times_all t us)
times_all-built P m t [] h i = h
times_all-built P m t (u ∷ us) h i = times_all-built P m (mul t u) us (m t u h i.0) i.1

above-built : (P : Tree → Type 0) → ((x y : Tree) → P x → P y → P (mul x y)) → (n : Tree) (us : List Tree) → P n → Each P us → P (above n us)
above-built P m n [] h i = h
above-built P m n (u ∷ us) h i = cases (same_tree n (numeral (pos 1)))
  where
    cases : (c : Bool) → P (cond c (times_all u us) (times_all n (u ∷ us)))
    cases true = times_all-built P m u us i.0 i.1
    cases false = times_all-built P m n (u ∷ us) h i

module _ (P Q D : Tree → Type 0) (N : Type 0) (b : Builds P Q D N) where
  -- ---- Polynomials

  -- a term of a polynomial stands alone
  record PlainTerm (s : Signed) : Type 0 where
    numerator : Q s.numerator
    uppers : Each Q s.uppers
    lowers : s.lowers ≡ []

  plain-built : (s : Signed) → PlainTerm s → Q (signed_tree s)
  plain-built s h = cases s.minus
    where
      alone : Q (unsigned_tree s)
      alone = subst (λ (ls : List Tree). Q (over_all (above s.numerator s.uppers) ls)) (sym h.lowers) (above-built Q b.plain_product s.numerator s.uppers h.numerator h.uppers)

      cases : (m : Bool) → Q (with_sign m (unsigned_tree s))
      cases true = b.plain_opposite (unsigned_tree s) alone
      cases false = alone

  plain_added-built : (t : Tree) (ss : List Signed) → Q t → Each PlainTerm ss → Q (added t ss)
  plain_added-built t [] h i = h
  plain_added-built t (s ∷ ss) h i = plain_added-built (add t (signed_tree s)) ss (b.plain_sum t (signed_tree s) h (plain-built s i.0)) i.1

  plain_total-built : (ss : List Signed) → Each PlainTerm ss → Q (total_tree ss)
  plain_total-built [] h = b.number 0
  plain_total-built (s ∷ ss) h = plain_added-built (signed_tree s) ss (plain-built s h.0) h.1

  -- a power of the parameter stands in the row only where there may be one
  abbrev pub MayHold : Plane → Type 0
  MayHold p = Each (λ (row : List ℤ). 2 ≤ length row → N) p

  parameter-built : (j : ℕ) → (1 ≤ j → N) → Each Q (raised_factor param j)
  parameter-built zero h = tt
  parameter-built (suc j) h = factor-built Q param (suc j) (b.parameter (h (omega arith))) (λ e. b.plain_power param e (b.parameter (h (omega arith))))

  monomial-built : (c i j : ℕ) → (1 ≤ j → N) → Q (monomial c i j)
  monomial-built c i j h =
      above-built Q b.plain_product (numeral (pos c)) (raised_factor here i ++ raised_factor param j) (b.number c)
      (each-append Q (raised_factor here i) (raised_factor param j) (factor-built Q here i b.variable (λ e. b.plain_power here e b.variable)) (parameter-built j h))

  monomial_terms-built : (c : ℤ) (i j : ℕ) → (1 ≤ j → N) → Each PlainTerm (monomial_terms c i j)
  monomial_terms-built (pos zero) i j h = tt
  monomial_terms-built (pos (suc c)) i j h = (record { numerator = monomial-built (suc c) i j h; uppers = tt; lowers = refl }, tt)
  monomial_terms-built (negsuc c) i j h = (record { numerator = monomial-built (suc c) i j h; uppers = tt; lowers = refl }, tt)

  row-built : (i : ℕ) (row : List ℤ) → (2 ≤ length row → N) → Each PlainTerm (row_monomials i row)
  row-built i [] h = tt
  row-built i (c ∷ cs) h =
      each-append PlainTerm (monomial_terms c i (length cs)) (row_monomials i cs) (monomial_terms-built c i (length cs) (λ l. h (omega (arith, l)))) (row-built i cs (λ l. h (omega (arith, l))))

  monomials-built : (p : Plane) → MayHold p → Each PlainTerm (monomials p)
  monomials-built [] h = tt
  monomials-built (row ∷ p) h = each-append PlainTerm (row_monomials (length p) row) (monomials p) (row-built (length p) row h.0) (monomials-built p h.1)

  polynomial-built : (p : Plane) → MayHold p → Q (polynomial_tree p)
  polynomial-built p h = plain_total-built (monomials p) (monomials-built p h)

  negated-holds : (p : Plane) → MayHold p → MayHold (negated p)
  negated-holds [] h = tt
  negated-holds (row ∷ p) h = (λ l. h.0 (subst (λ (n : ℕ). 2 ≤ n) (length-map row neg_ℤ) l), negated-holds p h.1)

  -- ---- Terms

  record BuiltTerm (s : Signed) : Type 0 where
    numerator : P s.numerator
    uppers : Each P s.uppers
    lowers : Each D s.lowers

  over_all-built : (t : Tree) (us : List Tree) → P t → Each D us → P (over_all t us)
  over_all-built t [] h i = h
  over_all-built t (u ∷ us) h i = over_all-built (div t u) us (b.quotient t u h i.0) i.1

  signed-built : (s : Signed) → BuiltTerm s → P (signed_tree s)
  signed-built s h = cases s.minus
    where
      alone : P (unsigned_tree s)
      alone = over_all-built (above s.numerator s.uppers) s.lowers (above-built P b.product s.numerator s.uppers h.numerator h.uppers) h.lowers

      cases : (m : Bool) → P (with_sign m (unsigned_tree s))
      cases true = b.opposite (unsigned_tree s) alone
      cases false = alone

  added-built : (t : Tree) (ss : List Signed) → P t → Each BuiltTerm ss → P (added t ss)
  added-built t [] h i = h
  added-built t (s ∷ ss) h i = added-built (add t (signed_tree s)) ss (b.sum t (signed_tree s) h (signed-built s i.0)) i.1

  total-built : (ss : List Signed) → Each BuiltTerm ss → P (total_tree ss)
  total-built [] h = b.plain (numeral (pos 0)) (b.number 0)
  total-built (s ∷ ss) h = added-built (signed_tree s) ss (signed-built s h.0) h.1

  plains : (us : List Tree) → Each Q us → Each P us
  plains [] h = tt
  plains (u ∷ us) h = (b.plain u h.0, plains us h.1)

  nothing : (ls : List Tree) → ls ≡ [] → Each D ls
  nothing ls e = subst (Each D) (sym e) tt

  plain_terms : (ss : List Signed) → Each PlainTerm ss → Each BuiltTerm ss
  plain_terms [] h = tt
  plain_terms (s ∷ ss) h = (record { numerator = b.plain s.numerator h.0.numerator; uppers = plains s.uppers h.0.uppers; lowers = nothing s.lowers h.0.lowers }, plain_terms ss h.1)

  one_term-built : (p : Plane) (us ls : List Tree) → MayHold p → Each P us → Each D ls → BuiltTerm (one_term p us ls)
  one_term-built p us ls h i j = record { numerator = b.plain (polynomial_tree (cond (leads_below (monomials p)) (negated p) p)) (cases (leads_below (monomials p))); uppers = i; lowers = j }
    where
      cases : (m : Bool) → Q (polynomial_tree (cond m (negated p) p))
      cases true = polynomial-built (negated p) (negated-holds p h)
      cases false = polynomial-built p h

  of_coefficient-built : (p : Plane) (us ls : List Tree) → MayHold p → Each P us → Each D ls → Each BuiltTerm (of_coefficient p us ls)
  of_coefficient-built p [] [] h i j = plain_terms (monomials p) (monomials-built p h)
  of_coefficient-built p (u ∷ us) ls h i j = (one_term-built p (u ∷ us) ls h i j, tt)
  of_coefficient-built p [] (l ∷ ls) h i j = (one_term-built p [] (l ∷ ls) h i j, tt)

  lower-built : (q : Plane) → MayHold q → Each D (lower_factors q)
  lower-built q h = cases (is_one q)
    where
      cases : (c : Bool) → Each D (cond c [] (polynomial_tree q ∷ []))
      cases true = tt
      cases false = (b.divisor (polynomial_tree q) (polynomial-built q h), tt)

  -- ---- Products

  -- a product may stand above and, as may its powers, below
  abbrev pub MayStand : Tree → Type 0
  MayStand t = P t × D t × ((e : ℕ) → D (power t e))

  above-factors : (t : Tree) (e : ℤ) → MayStand t → Each P (upper_factor t e)
  above-factors t (pos e) h = factor-built P t e h.0 (λ e. b.raise t e h.0)
  above-factors t (negsuc e) h = tt

  below-factors : (t : Tree) (e : ℤ) → MayStand t → Each D (lower_factor t e)
  below-factors t (pos e) h = tt
  below-factors t (negsuc e) h = factor-built D t (suc e) h.1 h.2

  factors-built : (R : Tree → Type 0) (f : Tree → ℤ → List Tree) → ((t : Tree) (e : ℤ) → MayStand t → Each R (f t e)) → (ps : List Tree) (es : List ℤ) → Each MayStand ps → Each R (factors f ps es)
  factors-built R f g [] es h = tt
  factors-built R f g (p ∷ ps) [] h = tt
  factors-built R f g (p ∷ ps) (e ∷ es) h = each-append R (f p e) (factors f ps es) (g p e h.0) (factors-built R f g ps es h.1)

  abbrev pub HoldsWithin : Written → Type 0
  HoldsWithin t = MayHold t.upper × MayHold t.lower

  term-built : (ps : List Tree) (t : Written) → Each MayStand ps → HoldsWithin t → Each BuiltTerm (term_of ps t)
  term-built ps t a h =
      of_coefficient-built t.upper (factors upper_factor ps t.exponents) (lower_factors t.lower ++ factors lower_factor ps t.exponents) h.0
      (factors-built P upper_factor above-factors ps t.exponents a)
      (each-append D (lower_factors t.lower) (factors lower_factor ps t.exponents) (lower-built t.lower h.1) (factors-built D lower_factor below-factors ps t.exponents a))

  -- ---- Sums

  turned-built : (ss : List Signed) → Each BuiltTerm ss → Each BuiltTerm (map turned ss)
  turned-built [] h = tt
  turned-built (s ∷ ss) h = (record { numerator = h.0.numerator; uppers = h.0.uppers; lowers = h.0.lowers }, turned-built ss h.1)

  grouped-built : (m : Bool) (ss : List Signed) (us : List Tree) → Each BuiltTerm ss → Each P us → BuiltTerm (grouped m ss us)
  grouped-built true ss us h i = record { numerator = b.plain (numeral (pos 1)) (b.number 1); uppers = (total-built (map turned ss) (turned-built ss h), i); lowers = tt }
  grouped-built false ss us h i = record { numerator = b.plain (numeral (pos 1)) (b.number 1); uppers = (total-built ss h, i); lowers = tt }

  raised-built : (t : Tree) (e : ℕ) (ss : List Signed) → P t → Each BuiltTerm ss → Each BuiltTerm (raised t e ss)
  raised-built t zero ss h i = i
  raised-built t (suc e) [] h i = tt
  raised-built t (suc e) (s ∷ []) h i = (
    record {
      numerator = i.0.numerator;
      uppers = each-append P s.uppers (raised_factor t (suc e)) i.0.uppers (factor-built P t (suc e) h (λ e. b.raise t e h));
      lowers = i.0.lowers;
    },
    tt,
  )
  raised-built t (suc e) (s ∷ (r ∷ ss)) h i = (grouped-built s.minus (s ∷ (r ∷ ss)) (raised_factor t (suc e)) i (factor-built P t (suc e) h (λ e. b.raise t e h)), tt)

  abbrev Group : ℕ × List Written → Type 0
  Group g = Each HoldsWithin g.1

  before-built : (e : ℕ) (t : Written) (gs : List (ℕ × List Written)) → HoldsWithin t → Each Group gs → Each Group (before_groups e t gs)
  before-built e t [] h i = ((h, tt), tt)
  before-built e t (g ∷ gs) h i = cases (e == g.0)
    where
      cases : (c : Bool) → Each Group (cond c ((g.0, t ∷ g.1) ∷ gs) ((e, t ∷ []) ∷ (g ∷ gs)))
      cases true = ((h, i.0), i.1)
      cases false = ((h, tt), i)

  groups-built : (ts : List Written) → Each HoldsWithin ts → Each Group (groups ts)
  groups-built [] h = tt
  groups-built (t ∷ ts) h = before-built (first_power t.powers) (without t) (groups ts) h.0 (groups-built ts h.1)

  joined-built : {A : Type 0} (R : A → Type 0) (f : A → List Signed) → ((x : A) → R x → Each BuiltTerm (f x)) → (xs : List A) → Each R xs → Each BuiltTerm (joined f xs)
  joined-built R f h [] i = tt
  joined-built R f h (x ∷ xs) i = each-append BuiltTerm (f x) (joined f xs) (h x i.0) (joined-built R f h xs i.1)

  signed_terms-built : (ps ss : List Tree) (ts : List Written) → Each MayStand ps → Each P ss → Each HoldsWithin ts → Each BuiltTerm (signed_terms ps ss ts)
  signed_terms-built ps [] ts a h i = joined-built HoldsWithin (term_of ps) (λ t. term-built ps t a) ts i
  signed_terms-built ps (s ∷ ss) ts a h i =
      joined-built Group (λ g. raised s g.0 (signed_terms ps ss g.1)) (λ g j. raised-built s g.0 (signed_terms ps ss g.1) h.0 (signed_terms-built ps ss g.1 a h.1 j)) (groups ts) (groups-built ts i)

  pub element-built : (ps ss : List Tree) (ts : List Written) → Each MayStand ps → Each P (reverse ss) → Each HoldsWithin ts → P (element_tree ps ss ts)
  element-built ps ss ts a h i = total-built (signed_terms ps (reverse ss) ts) (signed_terms-built ps (reverse ss) ts a h i)

-- no power of the parameter stands in the polynomial
abbrev pub NoParameter : Plane → Type 0
NoParameter p = Each (λ (row : List ℤ). length row ≤ 1) p

holds : (p : Plane) → NoParameter p → Each (λ (row : List ℤ). 2 ≤ length row → ⊥) p
holds [] h = tt
holds (row ∷ p) h = (λ l. absurd (omega (arith, h.0, l)), holds p h.1)

all-hold : (ts : List Written) → Each (λ t. NoParameter t.upper × NoParameter t.lower) ts → Each (λ t. Each (λ (row : List ℤ). 2 ≤ length row → ⊥) t.upper × Each (λ (row : List ℤ). 2 ≤ length row → ⊥) t.lower) ts
all-hold [] h = tt
all-hold (t ∷ ts) h = ((holds t.upper h.0.0, holds t.lower h.0.1), all-hold ts h.1)

-- ---- What it is built over

over-builds : (ss : List Tree) → Builds (Over ss) (Over ss) (Over ss) ⊥
over-builds ss = record {
  number = λ c. tt;
  variable = tt;
  parameter = λ n. n;
  plain_sum = λ x y h i. (h, i);
  plain_opposite = λ x h. h;
  plain_product = λ x y h i. (h, i);
  plain_power = λ x e h. h;
  plain = λ x h. h;
  divisor = λ x h. h;
  sum = λ x y h i. (h, i);
  opposite = λ x h. h;
  product = λ x y h i. (h, i);
  quotient = λ x y h i. (h, i);
  raise = λ x e h. h;
}

pub over-element : (all ss : List Tree) (ts : List Written) → Each (Over all) (reverse ss) → Each (λ t. NoParameter t.upper × NoParameter t.lower) ts → Over all (element_tree [] ss ts)
over-element all ss ts h i = element-built (Over all) (Over all) (Over all) ⊥ (over-builds all) [] ss ts tt h (all-hold ts i)

true_both : (a b : Bool) → IsTrue a → IsTrue b → IsTrue (a && b)
true_both true b h k = k
true_both false b h k = h

polynomial-divisor : (t : Tree) → is_polynomial_tree t ≡ true → is_divisor_tree t ≡ true
polynomial-divisor (numeral c) h = refl
polynomial-divisor here h = refl
polynomial-divisor param h = refl
polynomial-divisor (add x y) h = h
polynomial-divisor (neg x) h = polynomial-divisor x h
polynomial-divisor (mul x y) h = both (is_polynomial_tree x) (is_polynomial_tree y) (is_divisor_tree x) (is_divisor_tree y) (polynomial-divisor x) (polynomial-divisor y) h
  where
    both : (a b c d : Bool) → (a ≡ true → c ≡ true) → (b ≡ true → d ≡ true) → (a && b) ≡ true → (c && d) ≡ true
    both true true c d f g h = ap₂ (λ (x y : Bool). x && y) (f refl) (g refl)
    both true false c d f g h = cc
    both false b c d f g h = cc
polynomial-divisor (div x y) h = cc
polynomial-divisor (power x e) h = polynomial-divisor x h
polynomial-divisor (sum_from a x) h = cc
polynomial-divisor (prod_from a x) h = cc

module _ (qs us : List Tree) where
  abbrev allowed : Allowed
  allowed = record { parameter = false; products = qs; sums = us }

  abbrev Whole : Tree → Type 0
  Whole t = BuiltOver allowed t

  abbrev WholePolynomial : Tree → Type 0
  WholePolynomial t = BuiltOver allowed t × IsTrue (is_polynomial_tree t)

  abbrev WholeDivisor : Tree → Type 0
  WholeDivisor t = BuiltOver allowed t × IsTrue (is_divisor_tree t)

  products-build : Builds Whole WholePolynomial WholeDivisor ⊥
  products-build = record {
    number = λ c. (tt, refl);
    variable = (tt, refl);
    parameter = λ n. absurd n;
    plain_sum = λ x y h i. ((h.0, i.0), true_both (is_polynomial_tree x) (is_polynomial_tree y) h.1 i.1);
    plain_opposite = λ x h. h;
    plain_product = λ x y h i. ((h.0, i.0), true_both (is_polynomial_tree x) (is_polynomial_tree y) h.1 i.1);
    plain_power = λ x e h. h;
    plain = λ x h. h.0;
    divisor = λ x h. (h.0, polynomial-divisor x h.1);
    sum = λ x y h i. (h, i);
    opposite = λ x h. h;
    product = λ x y h i. (h, i);
    quotient = λ x y h i. (h, i.0, i.1);
    raise = λ x e h. h;
  }

  stand : (ps : List Tree) → Each WholeDivisor ps → Each (MayStand Whole WholePolynomial WholeDivisor ⊥ products-build) ps
  stand [] h = tt
  stand (p ∷ ps) h = ((h.0.0, h.0, λ e. h.0), stand ps h.1)

  pub over-products : (ps ss : List Tree) (ts : List Written) → Each (λ t. BuiltOver allowed t × IsTrue (is_divisor_tree t)) ps → Each (BuiltOver allowed) (reverse ss)
      → Each (λ t. NoParameter t.upper × NoParameter t.lower) ts → BuiltOver allowed (element_tree ps ss ts)
  over-products ps ss ts a h i = element-built Whole WholePolynomial WholeDivisor ⊥ products-build ps ss ts (stand ps a) h (all-hold ts i)

-- ---- How it is printed

module _ (known : Bool) where
  abbrev Printed : Tree → Type 0
  Printed t = InForm known false t

  abbrev PrintedPolynomial : Tree → Type 0
  PrintedPolynomial t = InForm known false t × (is_polynomial_tree t ≡ true)

  abbrev PrintedDivisor : Tree → Type 0
  PrintedDivisor t = InForm known false t × (is_divisor_tree t ≡ true)

  both-true : (a b : Bool) → a ≡ true → b ≡ true → (a && b) ≡ true
  both-true a b h i = ap₂ (λ (x y : Bool). x && y) h i

  form-builds : Builds Printed PrintedPolynomial PrintedDivisor (known ≡ true)
  form-builds = record {
    number = λ c. (omega (arith, ints), refl);
    variable = (tt, refl);
    parameter = λ n. (n, refl);
    plain_sum = λ x y h i. ((h.0, i.0), both-true (is_polynomial_tree x) (is_polynomial_tree y) h.1 i.1);
    plain_opposite = λ x h. h;
    plain_product = λ x y h i. ((h.0, i.0), both-true (is_polynomial_tree x) (is_polynomial_tree y) h.1 i.1);
    plain_power = λ x e h. h;
    plain = λ x h. h.0;
    divisor = λ x h. (h.0, polynomial-divisor x h.1);
    sum = λ x y h i. (h, i);
    opposite = λ x h. h;
    product = λ x y h i. (h, i);
    quotient = λ x y h i. (h, i.0, i.1);
    raise = λ x e h. h;
  }

  stand-printed : (ps : List Tree) → Each PrintedDivisor ps → Each (MayStand Printed PrintedPolynomial PrintedDivisor (known ≡ true) form-builds) ps
  stand-printed [] h = tt
  stand-printed (p ∷ ps) h = ((h.0.0, h.0, λ e. h.0), stand-printed ps h.1)

  -- the parameter stands only where it is known
  abbrev pub Known : Plane → Type 0
  Known p = Each (λ (row : List ℤ). 2 ≤ length row → known ≡ true) p

  pub element-printed : (ps ss : List Tree) (ts : List Written) → Each (λ t. InForm known false t × (is_divisor_tree t ≡ true)) ps → Each (InForm known false) (reverse ss) → Each (λ t. Known t.upper × Known t.lower) ts
      → InForm known false (element_tree ps ss ts)
  element-printed ps ss ts a h i = element-built Printed PrintedPolynomial PrintedDivisor (known ≡ true) form-builds ps ss ts (stand-printed ps a) h i

never-known : (p : Plane) → NoParameter p → Known false p
never-known [] h = tt
never-known (row ∷ p) h = (λ l. absurd (omega (arith, h.0, l)), never-known p h.1)

all-known : (ts : List Written) → Each (λ t. NoParameter t.upper × NoParameter t.lower) ts → Each (λ t. Known false t.upper × Known false t.lower) ts
all-known [] h = tt
all-known (t ∷ ts) h = ((never-known t.upper h.0.0, never-known t.lower h.0.1), all-known ts h.1)

pub element-form : (ss : List Tree) (ts : List Written) → Each (InForm false false) (reverse ss) → Each (λ t. NoParameter t.upper × NoParameter t.lower) ts → InForm false false (element_tree [] ss ts)
element-form ss ts h i = element-printed false [] ss ts tt h (all-known ts i)
