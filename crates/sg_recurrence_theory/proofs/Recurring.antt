-- What the listed divisors are good for: where none of them is 0, all values that a recurrence speaks of exist.
--   all-clear          each divisor from which they are listed is clear
--   summand-value      each summand has a value from a on to one place past the last
--   sum-value          so has the sum of each up to the last place
--   right-value        so has the right side at the start and one place past the last
use Rattle.std.proofs.Common.{◌≡◌, ℕ, zero, suc, Bool, true, false, cond, refl, subst, List, [], ◌∷◌, ◌++◌, reverse, ℤ, pos, negsuc, ◌+ℤ◌, ◌-ℤ◌, ◌≤ℤ◌, arith}
use Rattle.std.proofs.lemmas.Int.{ints}
use Rattle.sg_algebra.specs.Coefficients.{Each}
use Rattle.sg_algebra.proofs.Lists.{each_to}
use Rattle.sg_algebra.proofs.Value.{Value, ◌+ᵛ◌, zero_value}
use Rattle.sg_algebra.proofs.Rational.{whole_value}
use Rattle.sg_spec.specs.Printing.{InForm}
use Rattle.sg_spec.specs.Tree.{Tree, numeral, here, param, add, neg, mul, div, power, sum_from, prod_from}
use Rattle.sg_spec.specs.Value.{how_many, steps_to}
use Rattle.sg_spec.specs.Worth.{IsFolded, HasWorth}
use Rattle.sg_spec.specs.Parts.{anywhere, divides, is_body, parts}
use Rattle.sg_spec.specs.Generators.{has_tree, all_sums, all_prods, concatenated, sums, prods}
use Rattle.sg_spec.specs.Canonical.{Written, element_tree}
use Rattle.sg_worth_theory.proofs.WrittenElements.{plane_value}
use Rattle.sg_limits.specs.declared.divisors.Divisor.{Divisor}
use Rattle.sg_recurrence_theory.specs.Planes.{IsSomewhere}
use Rattle.sg_limits.specs.Divisors.{of_role}
use Rattle.sg_recurrence_theory.specs.Below.{products_below}
use Rattle.sg_recurrence_theory.specs.Recurrences.{Spares}
use Rattle.sg_recurrence_theory.specs.Listing.{listed, divisor_parts, zero_parts, negative_in, negative, standing_below, among, IsListing}
use Rattle.sg_limits.proofs.Elementary.{each_append, each_left, each_right}
use Rattle.sg_limits.proofs.Spared.{plain_parts}
use Rattle.sg_recurrence_theory.proofs.Existing.{IsApart, AreApart, AreGood, good_value}
use Rattle.sg_recurrence_theory.proofs.TermsExist.{Valued, Nonzero, AreStanding, IsStanding, element-exists}
use Rattle.sg_recurrence_theory.proofs.Listed.{IsClear, IsClearAs, listed-clear, clear-from}
use Rattle.sg_recurrence_theory.proofs.Membership.{pick, among-pick, found-first, found-later, found-left, found-right}
use Rattle.sg_recurrence_theory.proofs.Usable.{IsUsable, all_usable, usable-value, usable-nonzero, usable-sums, usable-prods}
use Rattle.sg_recurrence_theory.proofs.Clearing.{HasClear, each-clear, IsDefinedFrom, each-defined, good-of}
use Rattle.sg_recurrence_theory.proofs.Inside.{IsIn, below-found, to-left, to-right, prods-found, listed-form, IsProduct, listed-products}

-- from the start on not 0 in the sense of some parameter
abbrev pub IsThere : Divisor → Type 0
IsThere d = (k : ℤ) → d.limit ≤ℤ k → IsSomewhere d.poly k

module _ (n M : ℤ) where
  abbrev letter : Value 0
  letter = whole_value 0 n

  each_clear_from : (ds : List Divisor) → Each IsThere ds → Each (IsClearAs n M) ds → Each (IsClear n M) ds
  each_clear_from [] t h = tt
  each_clear_from (d ∷ ds) t h = (clear-from n M d t.0 h.0, each_clear_from ds t.1 h.1)

  pub all-clear : (V ds : List Divisor) → V ≡ listed ds → Each IsThere ds → Each (IsClear n M) V → Each (IsClear n M) ds
  all-clear V ds e t h = each_clear_from ds t (listed-clear n M ds (subst (λ (l : List Divisor). Each (IsClear n M) l) e h))

  -- ---- The expressions one by one

  abbrev IsGoodFrom : ℤ → Tree → Type 0
  IsGoodFrom a f = AreGood letter M divides (parts anywhere a 0 f)

  each-good : (a : ℤ) (fs : List Tree) → Each (InForm true false) fs → Each (HasClear n M) (divisor_parts a fs) → Each (IsGoodFrom a) fs
  each-good a [] f h = tt
  each-good a (t ∷ ts) f h = (
    good-of n M divides (parts anywhere a 0 t) (plain_parts true false anywhere t a 0 f.0 tt) (each_left (HasClear n M) (of_role divides (parts anywhere a 0 t)) (divisor_parts a ts) h),
    each-good a ts f.1 (each_right (HasClear n M) (of_role divides (parts anywhere a 0 t)) (divisor_parts a ts) h),
  )

  each-apart : (ps : List Tree) → Each (InForm true false) ps → Each (HasClear n M) (zero_parts ps) → Each (IsApart letter M) ps
  each-apart [] f h = tt
  each-apart (p ∷ ps) f h = (
    good-of n M is_body (parts anywhere (pos 0) 0 p) (plain_parts true false anywhere p (pos 0) 0 f.0 tt) (each_left (HasClear n M) (of_role is_body (parts anywhere (pos 0) 0 p)) (zero_parts ps) h),
    each-apart ps f.1 (each_right (HasClear n M) (of_role is_body (parts anywhere (pos 0) 0 p)) (zero_parts ps) h),
  )

  among-form : (kept ps : List Tree) → Each (InForm true false) ps → Each (InForm true false) (among kept ps)
  among-form kept [] h = tt
  among-form kept (p ∷ ps) h = pass (has_tree p kept) (among-form kept ps h.1)
    where
      pass : (b : Bool) → Each (InForm true false) (among kept ps) → Each (InForm true false) (cond b (p ∷ among kept ps) (among kept ps))
      pass true r = (h.0, r)
      pass false r = r

  -- what is found in both lists
  each-both : (P : Tree → Type 0) (kept ts ps : List Tree) → Each P (among kept ts) → Each (IsIn ts) ps → Each (IsIn kept) ps → Each P ps
  each-both P kept ts [] h i k = tt
  each-both P kept ts (p ∷ ps) h i k = (among-pick P kept p ts h i.0 k.0, each-both P kept ts ps h i.1 k.1)

  -- each expression's own products below
  each-below : (kept ts es : List Tree) → Each (IsApart letter M) (among kept ts)
      → Each (λ e. Each (IsIn ts) (products_below anywhere e) × Each (IsIn kept) (products_below anywhere e)) es
      → Each (λ e. AreApart letter M (products_below anywhere e)) es
  each-below kept ts [] h i = tt
  each-below kept ts (e ∷ es) h i = (each-both (IsApart letter M) kept ts (products_below anywhere e) h i.0.0 i.0.1, each-below kept ts es h i.1)

  -- ---- Sums of values

  folded-sum : (f : Tree) (a k : ℤ) → ((j : ℤ) → a ≤ℤ j → j ≤ℤ k → Valued letter j f) → (s : ℤ) → a ≤ℤ s → (m : ℕ)
      → ((i : ℕ) → suc i ≡ m → (s +ℤ pos i) ≤ℤ k) → (v : Value 0) × IsFolded ◌+ᵛ◌ zero_value (HasWorth letter f) s m v
  folded-sum f a k h s le zero up = (zero_value, refl)
  folded-sum f a k h s le (suc m) up =
      let last = up m refl in
      let u = folded-sum f a k h s le m (λ i e. omega (arith, ints, last, e)) in
      let w = h (s +ℤ pos m) (omega (arith, ints, le)) last in
      (u.0 +ᵛ w.0, (u.0, w.0, u.1, w.1, refl))

  count_in : (s k : ℤ) (i : ℕ) (z : ℤ) → z ≡ k -ℤ s → suc i ≡ steps_to z → (s +ℤ pos i) ≤ℤ k
  count_in s k i (pos m) e h = omega (arith, ints, e, h)
  count_in s k i (negsuc m) e h = absurd (omega (arith, h))

  pub sum-value : (f : Tree) (a s k : ℤ) → a ≤ℤ s → ((j : ℤ) → a ≤ℤ j → j ≤ℤ k → Valued letter j f) → Valued letter k (sum_from s f)
  sum-value f a s k le h = folded-sum f a k h s le (how_many s k) (λ i e. count_in s k i (k -ℤ s) refl e)

  -- ---- Terms

  standing-of : (k : ℤ) (ps : List Tree) (es : List ℤ) → Each (Valued letter k) ps → ((p : Tree) → IsIn (negative_in ps es) p → Nonzero letter k p)
      → AreStanding letter k ps es
  standing-of k [] es v h = tt
  standing-of k (p ∷ ps) [] v h = tt
  standing-of k (p ∷ ps) (pos e ∷ es) v h = (v.0, standing-of k ps es v.1 h)
  standing-of k (p ∷ ps) (negsuc e ∷ es) v h = (h p (found-first p (negative_in ps es)), standing-of k ps es v.1 (λ q i. h q (found-later q p (negative_in ps es) i)))

  each-standing : (k : ℤ) (ps : List Tree) (ts : List Written) → Each (Valued letter k) ps → ((p : Tree) → IsIn (negative ps ts) p → Nonzero letter k p)
      → Each (λ t. ¬ (plane_value letter k t.lower ≡ zero_value)) ts → Each (IsStanding letter k ps) ts
  each-standing k ps [] v h i = tt
  each-standing k ps (t ∷ ts) v h i = (
    record { defined = i.0; products = standing-of k ps t.exponents v (λ p j. h p (found-left p (negative_in ps t.exponents) (negative ps ts) j)) },
    each-standing k ps ts v (λ p j. h p (found-right p (negative_in ps t.exponents) (negative ps ts) j)) i.1,
  )

  nonzero-of : (p : Tree) → IsProduct p → IsUsable letter M true p → IsApart letter M p → (k : ℤ) → k ≤ℤ M → Nonzero letter k p
  nonzero-of (numeral c) o u a k le = absurd o
  nonzero-of here o u a k le = absurd o
  nonzero-of param o u a k le = absurd o
  nonzero-of (add x y) o u a k le = absurd o
  nonzero-of (neg x) o u a k le = absurd o
  nonzero-of (mul x y) o u a k le = absurd o
  nonzero-of (div x y) o u a k le = absurd o
  nonzero-of (power x e) o u a k le = absurd o
  nonzero-of (sum_from from body) o u a k le = absurd o
  nonzero-of (prod_from from body) o u a k le = usable-nonzero letter M true from body u a k le

-- ---- All of it

-- what is found for each expression of a list in the list's own lists is found in the whole
each-own : (f g : Tree → List Tree) → ((e : Tree) → Each (IsIn (g e)) (f e)) → (es : List Tree) → Each (λ e. Each (IsIn (concatenated g es)) (f e)) es
each-own f g h [] = tt
each-own f g h (e ∷ es) = (
  to-left (f e) (g e) (concatenated g es) (h e),
  each_to (λ d. Each (IsIn (concatenated g es)) (f d)) (λ d. Each (IsIn (g e ++ concatenated g es)) (f d)) es (λ d i. to-right (f d) (g e) (concatenated g es) i) (each-own f g h es),
)

itself : (ts : List Tree) → Each (IsIn ts) ts
itself [] = tt
itself (t ∷ ts) = (found-first t ts, each_to (IsIn ts) (IsIn (t ∷ ts)) ts (λ p i. found-later p t ts i) (itself ts))

both-each : (P Q : Tree → Type 0) (es : List Tree) → Each P es → Each Q es → Each (λ e. P e × Q e) es
both-each P Q [] h k = tt
both-each P Q (e ∷ es) h k = ((h.0, k.0), both-each P Q es h.1 k.1)

module _ (fs : List Tree) (a s : ℤ) (le : a ≤ℤ s) (forms : Each (InForm true false) fs) (free : List Tree) (expressed right : List Written)
    (V : List Divisor) (L : IsListing a s fs free expressed right V)
    (there : Each IsThere (L.of_divisors ++ (L.of_zeros ++ (L.of_generators ++ L.of_right)))) (n N : ℤ) (spares : Spares V n N) where
  M : ℤ
  M = N +ℤ pos 1

  kept : List Tree
  kept = concatenated (products_below anywhere) fs ++ (negative free expressed ++ negative free right)

  clears : Each (IsClear n (N +ℤ pos 1)) (L.of_divisors ++ (L.of_zeros ++ (L.of_generators ++ L.of_right)))
  clears = all-clear n (N +ℤ pos 1) V (L.of_divisors ++ (L.of_zeros ++ (L.of_generators ++ L.of_right))) L.is there spares

  first : Each (IsClear n (N +ℤ pos 1)) L.of_divisors
  first = each_left (IsClear n (N +ℤ pos 1)) L.of_divisors (L.of_zeros ++ (L.of_generators ++ L.of_right)) clears

  rest : Each (IsClear n (N +ℤ pos 1)) (L.of_zeros ++ (L.of_generators ++ L.of_right))
  rest = each_right (IsClear n (N +ℤ pos 1)) L.of_divisors (L.of_zeros ++ (L.of_generators ++ L.of_right)) clears

  last : Each (IsClear n (N +ℤ pos 1)) L.of_right
  last = each_right (IsClear n (N +ℤ pos 1)) L.of_generators L.of_right (each_right (IsClear n (N +ℤ pos 1)) L.of_zeros (L.of_generators ++ L.of_right) rest)

  goods : Each (λ f. AreGood (whole_value 0 n) (N +ℤ pos 1) divides (parts anywhere a 0 f)) fs
  goods = each-good n (N +ℤ pos 1) a fs forms (each-clear n (N +ℤ pos 1) (divisor_parts a fs) L.of_divisors L.divisors first)

  aparts : Each (IsApart (whole_value 0 n) (N +ℤ pos 1)) (standing_below fs free expressed right)
  aparts =
      each-apart n (N +ℤ pos 1) (standing_below fs free expressed right)
      (among-form n (N +ℤ pos 1) (concatenated (products_below anywhere) fs ++ (negative free expressed ++ negative free right)) (prods fs) (listed-form true fs forms))
      (each-clear n (N +ℤ pos 1) (zero_parts (standing_below fs free expressed right)) L.of_zeros L.zeros (each_left (IsClear n (N +ℤ pos 1)) L.of_zeros (L.of_generators ++ L.of_right) rest))

  belows : Each (λ f. AreApart (whole_value 0 n) (N +ℤ pos 1) (products_below anywhere f)) fs
  belows =
      each-below n (N +ℤ pos 1) (concatenated (products_below anywhere) fs ++ (negative free expressed ++ negative free right)) (prods fs) fs aparts
      (both-each (λ f. Each (IsIn (prods fs)) (products_below anywhere f)) (λ f. Each (IsIn (concatenated (products_below anywhere) fs ++ (negative free expressed ++ negative free right))) (products_below anywhere f)) fs
      (each_to (λ f. Each (IsIn (concatenated all_prods fs)) (products_below anywhere f)) (λ f. Each (IsIn (prods fs)) (products_below anywhere f)) fs (λ f i. prods-found fs (products_below anywhere f) i)
      (each-own (products_below anywhere) all_prods (below-found anywhere) fs))
      (each_to (λ f. Each (IsIn (concatenated (products_below anywhere) fs)) (products_below anywhere f)) (λ f. Each (IsIn (concatenated (products_below anywhere) fs ++ (negative free expressed ++ negative free right))) (products_below anywhere f)) fs
      (λ f i. to-left (products_below anywhere f) (concatenated (products_below anywhere) fs) (negative free expressed ++ negative free right) i)
      (each-own (products_below anywhere) (products_below anywhere) (λ e. itself (products_below anywhere e)) fs)))

  abbrev HasUpTo : Tree → Type 0
  HasUpTo f = (k : ℤ) → a ≤ℤ k → k ≤ℤ (N +ℤ pos 1) → Valued (whole_value 0 n) k f

  each-value : (es : List Tree) → Each (InForm true false) es → Each (λ f. AreGood (whole_value 0 n) (N +ℤ pos 1) divides (parts anywhere a 0 f)) es
      → Each (λ f. AreApart (whole_value 0 n) (N +ℤ pos 1) (products_below anywhere f)) es → Each HasUpTo es
  each-value [] f g b = tt
  each-value (e ∷ es) f g b = (λ k l u. good_value (whole_value 0 n) (N +ℤ pos 1) true false anywhere e a 0 f.0 g.0 b.0 k l u, each-value es f.1 g.1 b.1)

  pub summand-values : Each HasUpTo fs
  summand-values = each-value fs forms goods belows

  pub sum-values : Each (λ f. Valued (whole_value 0 n) N (sum_from s f)) fs
  sum-values = each_to HasUpTo (λ f. Valued (whole_value 0 n) N (sum_from s f)) fs (λ f h. sum-value n (N +ℤ pos 1) f a s N le (λ j l u. h j l (omega (arith, ints, u)))) summand-values

  abbrev IsUsed : Tree → Type 0
  IsUsed g = IsUsable (whole_value 0 n) (N +ℤ pos 1) true g

  each-usable : (es : List Tree) → Each (InForm true false) es → Each (λ f. AreGood (whole_value 0 n) (N +ℤ pos 1) divides (parts anywhere a 0 f)) es
      → Each (λ f. AreApart (whole_value 0 n) (N +ℤ pos 1) (products_below anywhere f)) es
      → Each (λ e. Each IsUsed (all_sums e)) es × Each (λ e. Each IsUsed (all_prods e)) es
  each-usable [] f g b = (tt, tt)
  each-usable (e ∷ es) f g b =
      let one = all_usable (whole_value 0 n) (N +ℤ pos 1) true anywhere e a 0 f.0 g.0 b.0 in
      let more = each-usable es f.1 g.1 b.1 in
      ((one.0, more.0), (one.1, more.1))

  used-sums : Each IsUsed (sums fs)
  used-sums = usable-sums (whole_value 0 n) (N +ℤ pos 1) true fs (each-usable fs forms goods belows).0

  used-prods : Each IsUsed (prods fs)
  used-prods = usable-prods (whole_value 0 n) (N +ℤ pos 1) true fs (each-usable fs forms goods belows).1

  valued-of : (gs ts : List Tree) → Each IsUsed ts → Each (IsIn ts) gs → (k : ℤ) → k ≤ℤ (N +ℤ pos 1) → Each (Valued (whole_value 0 n) k) gs
  valued-of [] ts u i k l = tt
  valued-of (g ∷ gs) ts u i k l = (usable-value (whole_value 0 n) (N +ℤ pos 1) true g (pick IsUsed g ts u i.0) k l, valued-of gs ts u i.1 k l)

  in-free : (ps : List Tree) (es : List ℤ) → Each (IsIn (prods fs)) ps → (p : Tree) → IsIn (negative_in ps es) p → IsIn (prods fs) p
  in-free ps es i p h = pick (IsIn (prods fs)) p (negative_in ps es) (each ps es i) h
    where
      each : (ps : List Tree) (es : List ℤ) → Each (IsIn (prods fs)) ps → Each (IsIn (prods fs)) (negative_in ps es)
      each [] es i = tt
      each (p ∷ ps) [] i = tt
      each (p ∷ ps) (pos e ∷ es) i = each ps es i.1
      each (p ∷ ps) (negsuc e ∷ es) i = (i.0, each ps es i.1)

  negatives-in : (ps : List Tree) (ts : List Written) → Each (IsIn (prods fs)) ps → Each (IsIn (prods fs)) (negative ps ts)
  negatives-in ps [] i = tt
  negatives-in ps (t ∷ ts) i = each_append (IsIn (prods fs)) (negative_in ps t.exponents) (negative ps ts) (each ps t.exponents i) (negatives-in ps ts i)
    where
      each : (ps : List Tree) (es : List ℤ) → Each (IsIn (prods fs)) ps → Each (IsIn (prods fs)) (negative_in ps es)
      each [] es i = tt
      each (p ∷ ps) [] i = tt
      each (p ∷ ps) (pos e ∷ es) i = each ps es i.1
      each (p ∷ ps) (negsuc e ∷ es) i = (i.0, each ps es i.1)

  nonzeros : Each (IsIn (prods fs)) free → (k : ℤ) → k ≤ℤ (N +ℤ pos 1) → (p : Tree) → IsIn (negative free right) p → Nonzero (whole_value 0 n) k p
  nonzeros i k l p h =
      let j = pick (IsIn (prods fs)) p (negative free right) (negatives-in free right i) h in
      nonzero-of n (N +ℤ pos 1) p (pick IsProduct p (prods fs) (listed-products fs) j) (pick IsUsed p (prods fs) used-prods j)
      (among-pick (IsApart (whole_value 0 n) (N +ℤ pos 1)) (concatenated (products_below anywhere) fs ++ (negative free expressed ++ negative free right)) p (prods fs) aparts j
      (found-right p (concatenated (products_below anywhere) fs) (negative free expressed ++ negative free right) (found-right p (negative free expressed) (negative free right) h)))
      k l

  pub right-value : Each (IsIn (prods fs)) free → (ss : List Tree) → Each (IsIn (sums fs)) (reverse ss) → (k : ℤ) → s ≤ℤ k → k ≤ℤ (N +ℤ pos 1)
      → Valued (whole_value 0 n) k (element_tree free ss right)
  right-value i ss j k lo hi =
      element-exists (whole_value 0 n) k free ss right (valued-of (reverse ss) (sums fs) used-sums j k hi)
      (each-standing n (N +ℤ pos 1) k free right (valued-of free (prods fs) used-prods i k hi) (nonzeros i k hi)
      (each_to (IsDefinedFrom n (N +ℤ pos 1) s) (λ t. ¬ (plane_value (whole_value 0 n) k t.lower ≡ zero_value)) right (λ t h. h k lo hi) (each-defined n (N +ℤ pos 1) s right L.of_right L.rights last)))
