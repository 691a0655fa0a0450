-- No formal recurrence, no recurrence in values: at each k the equation between numbers for all n from a bound on is one between rational
-- functions of n.
--   same_function        functions of the parameter with one value at each number past a bound are equal
--   coefficient_of c     the function that a coefficient is; `coefficient-worth`
--   zero_coefficient     where it is 0 the coefficient is 0 at each n
--   equation             at each k from some point on the equation holds of the values as functions of the parameter
--   no_recurrence        where every formal one has zeros alone as coefficients, there is none in values
use Rattle.std.proofs.Common.{◌≡◌, ℕ, zero, suc, ◌+◌, ◌<◌, ◌≤◌, ℤ, pos, ◌+ℤ◌, ◌≤ℤ◌, unsigned_abs, refl, sym, ap, ◌∙◌, subst, List, [], ◌∷◌, length, Contains, true≢false, IsTrue, Option, Some, arith}
use Rattle.std.proofs.lemmas.Int.{ints}
use Rattle.sg_algebra.specs.Coefficients.{Each}
use Rattle.sg_algebra.proofs.Ring.{pow}
use Rattle.sg_algebra.proofs.Solver.{by, ring, reads}
use Rattle.sg_algebra.proofs.Place.{Pairwise}
use Rattle.sg_algebra.proofs.Value.{Value, ◌+ᵛ◌, ◌-ᵛ◌, ◌*ᵛ◌, neg_value, zero_value}
use Rattle.sg_algebra.proofs.ValueField.{ValueR, ValueD}
use Rattle.sg_algebra.proofs.Rational.{whole_value, fraction_value-zero}
use Rattle.sg_spec.specs.Fraction.{Fraction, whole}
use Rattle.sg_spec.specs.Tree.{Tree, numeral, here, param, add, neg, mul, div, power, sum_from, prod_from}
use Rattle.sg_spec.specs.Shape.{is_constant_tree}
use Rattle.sg_spec.specs.Value.{val, both, SameValue}
use Rattle.sg_spec.specs.Worth.{HasWorth}
use Rattle.sg_spec.specs.Generators.{Allowed, BuiltOver as OwnBuilt}
use Rattle.sg_spec.specs.Telescoping.{difference_of}
use Rattle.sg_spec.proofs.Values.{val-proper}
use Rattle.sg_spec.proofs.Worth.{Worth, worth_same, same_worth}
use Rattle.sg_worth_theory.proofs.Worths.{worth_number, number_worth, worth_unique}
use Rattle.sg_tower_theory.proofs.ShiftValue.{shift_valueH}
use Rattle.sg_tower_theory.proofs.Slices.{pairwise_length}
use Rattle.sg_tower_theory.proofs.Difference.{Difference, delta, total, Solves}
use Rattle.sg_tower_theory.proofs.Formal.{Formal, Element, elements, shifted, IsIndependent}
use Rattle.sg_value_theory.proofs.Elements.{Point, HasElement, IsQuotientAt}
use Rattle.sg_value_theory.proofs.TreePoints.{IsPointOf}
use Rattle.sg_value_theory.proofs.PointsOf.{HasValues, HasUnits}
use Rattle.sg_value_theory.proofs.Evaluation.{pow_has}
use Rattle.sg_value_theory.proofs.Evaluations.{evaluation, constant-has}
use Rattle.sg_value_theory.proofs.Quotients.{quotients}
use Rattle.sg_value_theory.proofs.First.{zero_only}
use Rattle.sg_value_theory.proofs.RationalPlaces.{rational_places, lawful_rational, variable_at, whole_at}
use Rattle.sg_value_theory.proofs.NumberParts.{left_number, right_number, both_parts, number_unique}
use Rattle.sg_value_theory.proofs.Joined.{worth-difference, difference_proper}
use Rattle.sg_answers_theory.specs.Recurrences.{shifts_from, shifts}
use Rattle.sg_answers_theory.proofs.Combinations.{HoldsAt, Recurs, IsZero, IsRecurrence}
use Rattle.sg_answers_theory.proofs.Combined.{combined, combined-is}
use Rattle.sg_answers_theory.proofs.AtParameters.{place, letter, At, P, AtNumbers, at_numbers, HasPast, has_function}
use Rattle.sg_answers_theory.proofs.ElementsOver.{both_true, AgreesFrom, IsPlaced, element_over, built_over}
use Rattle.sg_answers_theory.proofs.ZeroPast.{FollowFrom, equal_past, next_has}

-- ---- Functions of the parameter

pub same_function : (x y : Value 1) (b : ℕ) → ((j : ℕ) → b ≤ j → (u : Value 0) × At x j u × At y j u) → x ≡ y
same_function x y b h = by (ValueR 1) (x ∷ y ∷ []) (zero_only (ValueD 1) (ValueD 0) (shift_valueH 0) (rational_places 0 (pos 0)) (lawful_rational 0) (x +ᵛ neg_value y) b none) (search reads depth 12) refl
  where
    none : (j : ℕ) (v : Value 0) → b ≤ j → At (x +ᵛ neg_value y) j v → v ≡ zero_value
    none j v l i =
        let r = h j l in
        P.has_unique (x +ᵛ neg_value y) j v (r.0 +ᵛ neg_value r.0) i (P.has_add x (neg_value y) j r.0 (neg_value r.0) r.1 (P.has_neg y j r.0 r.2)) ∙ ring (ValueR 0) (r.0 ∷ []) (search reads depth 12) refl

-- ---- Coefficients

unfoldable pub coefficient_of : Tree → Value 1
coefficient_of (numeral c) = whole_value 1 c
coefficient_of here = zero_value
coefficient_of param = letter
coefficient_of (add x y) = coefficient_of x +ᵛ coefficient_of y
coefficient_of (neg x) = neg_value (coefficient_of x)
coefficient_of (mul x y) = coefficient_of x *ᵛ coefficient_of y
coefficient_of (div x y) = zero_value
coefficient_of (power x e) = pow (ValueR 1) (coefficient_of x) e
coefficient_of (sum_from a b) = zero_value
coefficient_of (prod_from a b) = zero_value

pub coefficient-worth : (c : Tree) → IsTrue (is_constant_tree c) → (k : ℤ) → HasWorth letter c k (coefficient_of c)
unfolding coefficient_of
coefficient-worth (numeral c) h k = refl
coefficient-worth here h k = absurd (true≢false (sym h))
coefficient-worth param h k = refl
coefficient-worth (add x y) h k = let r = both_true (is_constant_tree x) (is_constant_tree y) h in (coefficient_of x, coefficient_of y, coefficient-worth x r.0 k, coefficient-worth y r.1 k, refl)
coefficient-worth (neg x) h k = (coefficient_of x, coefficient-worth x h k, refl)
coefficient-worth (mul x y) h k = let r = both_true (is_constant_tree x) (is_constant_tree y) h in (coefficient_of x, coefficient_of y, coefficient-worth x r.0 k, coefficient-worth y r.1 k, refl)
coefficient-worth (div x y) h k = absurd (true≢false (sym h))
coefficient-worth (power x e) h k = (coefficient_of x, coefficient-worth x h k, refl)
coefficient-worth (sum_from a b) h k = absurd (true≢false (sym h))
coefficient-worth (prod_from a b) h k = absurd (true≢false (sym h))

-- at each number, below 0 too, a coefficient has the value of its function
coefficient-at : (c : Tree) → IsTrue (is_constant_tree c) → (n k : ℤ)
    → (w : Value 0) × IsQuotientAt {d = 0} n (coefficient_of c) w × HasWorth (whole_value 0 n) c k w
unfolding coefficient_of
coefficient-at (numeral c) h n k = (whole_value 0 c, whole_at 0 n c, refl)
coefficient-at here h n k = absurd (true≢false (sym h))
coefficient-at param h n k = (whole_value 0 n, variable_at 0 n, refl)
coefficient-at (add x y) h n k =
    let r = both_true (is_constant_tree x) (is_constant_tree y) h in
    let u = coefficient-at x r.0 n k in
    let w = coefficient-at y r.1 n k in
    (u.0 +ᵛ w.0, (quotients 0 n).add_has (coefficient_of x) (coefficient_of y) u.0 w.0 u.1 w.1, (u.0, w.0, u.2, w.2, refl))
coefficient-at (neg x) h n k = let u = coefficient-at x h n k in (neg_value u.0, (quotients 0 n).neg_has (coefficient_of x) u.0 u.1, (u.0, u.2, refl))
coefficient-at (mul x y) h n k =
    let r = both_true (is_constant_tree x) (is_constant_tree y) h in
    let u = coefficient-at x r.0 n k in
    let w = coefficient-at y r.1 n k in
    (u.0 *ᵛ w.0, (quotients 0 n).mul_has (coefficient_of x) (coefficient_of y) u.0 w.0 u.1 w.1, (u.0, w.0, u.2, w.2, refl))
coefficient-at (div x y) h n k = absurd (true≢false (sym h))
coefficient-at (power x e) h n k = let u = coefficient-at x h n k in (pow (ValueR 0) u.0 e, pow_has (quotients 0 n) (coefficient_of x) u.0 e u.1, (u.0, u.2, refl))
coefficient-at (sum_from a b) h n k = absurd (true≢false (sym h))
coefficient-at (prod_from a b) h n k = absurd (true≢false (sym h))

pub zero_coefficient : (c : Tree) → IsTrue (is_constant_tree c) → coefficient_of c ≡ zero_value → IsZero c
zero_coefficient c h e n =
    let u = coefficient-at c h n (pos 0) in
    worth_same (val c n (pos 0)) (Some (whole (pos 0))) zero_value (val-proper c n (pos 0)) (omega arith)
    (worth_number n c (pos 0) zero_value (subst (λ (w : Value 0). HasWorth (whole_value 0 n) c (pos 0) w)
    ((quotients 0 n).unique zero_value u.0 zero_value (subst (λ (x : Value 1). IsQuotientAt {d = 0} n x u.0) e u.1) (quotients 0 n).zero_has) u.2))
    fraction_value-zero

abbrev pub coefficients : List Tree → ℕ → Value 1
coefficients [] i = zero_value
coefficients (c ∷ cs) zero = coefficient_of c
coefficients (c ∷ cs) (suc i) = coefficients cs i

all_zero : (cs : List Tree) → Each (λ c. IsTrue (is_constant_tree c)) cs → ((i : ℕ) → i < length cs → coefficients cs i ≡ zero_value) → Each IsZero cs
all_zero [] h z = tt
all_zero (c ∷ cs) h z = (zero_coefficient c h.0 (z 0 (omega arith)), all_zero cs h.1 (λ i l. z (suc i) (omega (arith, l))))

-- ---- The equation at one k

reached : (b : ℤ) (j : ℕ) → unsigned_abs b ≤ j → b ≤ℤ place j
reached b j l = grind (arith, ints, l)

module _ (cs : List Tree) (f g : Tree) (k b : ℤ) (polynomials : Each (λ c. IsTrue (is_constant_tree c)) cs)
    (holds : (n : ℤ) → b ≤ℤ n → HoldsAt cs f g n k) where
  abbrev c : Tree
  c = combined cs 0 f

  abbrev k' : ℤ
  k' = k +ℤ pos 1

  at_place : (j : ℕ) → unsigned_abs b ≤ j → SameValue (val c (place j) k) (both difference_of (val g (place j) k') (val g (place j) k))
  at_place j l = subst (λ (u : Option Fraction). SameValue u (both difference_of (val g (place j) k') (val g (place j) k))) (sym (combined-is cs polynomials 0 f (place j) k)) (holds (place j) (reached b j l))

  has_left : HasPast c k
  has_left = record { bound = unsigned_abs b; has = λ j l. let n = left_number (val c (place j) k) (both difference_of (val g (place j) k') (val g (place j) k)) (at_place j l) in (n.0, number_worth (place j) c k n.0 n.1) }

  parts : (j : ℕ) → unsigned_abs b ≤ j → ((v : Value 0) × Worth (val g (place j) k') v) × ((v : Value 0) × Worth (val g (place j) k) v)
  parts j l =
      let n = right_number (val c (place j) k) (both difference_of (val g (place j) k') (val g (place j) k)) (at_place j l) in
      both_parts difference_of (val g (place j) k') (val g (place j) k) n.0 n.1

  has_next : HasPast g k'
  has_next = record { bound = unsigned_abs b; has = λ j l. let r = parts j l in (r.0.0, number_worth (place j) g k' r.0.0 r.0.1) }

  has_here : HasPast g k
  has_here = record { bound = unsigned_abs b; has = λ j l. let r = parts j l in (r.1.0, number_worth (place j) g k r.1.0 r.1.1) }

  first : (m n o j : ℕ) → m + (n + o) ≤ j → m ≤ j
  first m n o j l = omega (arith, l)

  second : (m n o j : ℕ) → m + (n + o) ≤ j → n ≤ j
  second m n o j l = omega (arith, l)

  third : (m n o j : ℕ) → m + (n + o) ≤ j → o ≤ j
  third m n o j l = omega (arith, l)

  -- the values as functions of the parameter
  pub equation : (v u' u : Value 1) × HasWorth letter c k v × HasWorth letter g k' u' × HasWorth letter g k u × (u' -ᵛ u ≡ v)
  equation =
      let v = has_function c k has_left in
      let u' = has_function g k' has_next in
      let u = has_function g k has_here in
      (v.0, u'.0, u.0, v.1, u'.1, u.1, same v.0 u'.0 u.0 (at_numbers c k v.0 v.1) (at_numbers g k' u'.0 u'.1) (at_numbers g k u.0 u.1))
    where
      same : (v u' u : Value 1) → AtNumbers c k v → AtNumbers g k' u' → AtNumbers g k u → u' -ᵛ u ≡ v
      same v u' u a a' a'' = same_function (u' -ᵛ u) v (unsigned_abs b + ((a.bound + (a'.bound + a''.bound)) + 0)) at
        where
          at : (j : ℕ) → unsigned_abs b + ((a.bound + (a'.bound + a''.bound)) + 0) ≤ j → (w : Value 0) × At (u' -ᵛ u) j w × At v j w
          at j l =
              let q : a.bound + (a'.bound + a''.bound) ≤ j = second (unsigned_abs b) (a.bound + (a'.bound + a''.bound)) 0 j l in
              let x = a.at j (first a.bound a'.bound a''.bound j q) in
              let y = a'.at j (second a.bound a'.bound a''.bound j q) in
              let z = a''.at j (third a.bound a'.bound a''.bound j q) in (
                y.0 -ᵛ z.0,
                P.has_add u' (neg_value u) j y.0 (neg_value z.0) y.1 (P.has_neg u j z.0 z.1),
                subst (λ (w : Value 0). At v j w) (sym (meet x.0 y.0 z.0 (worth_number (place j) c k x.0 x.2) (worth_number (place j) g k' y.0 y.2) (worth_number (place j) g k z.0 z.2))) x.1,
              )
            where
              meet : (x y z : Value 0) → Worth (val c (place j) k) x → Worth (val g (place j) k') y → Worth (val g (place j) k) z → y -ᵛ z ≡ x
              meet x y z h i m =
                  sym (number_unique (val c (place j) k) x (y -ᵛ z) h
                  (same_worth (val c (place j) k) (both difference_of (val g (place j) k') (val g (place j) k)) (y -ᵛ z) (val-proper c (place j) k)
                  (difference_proper (val g (place j) k') (val g (place j) k) (val-proper g (place j) k') (val-proper g (place j) k))
                  (at_place j (first (unsigned_abs b) (a.bound + (a'.bound + a''.bound)) 0 j l))
                  (worth-difference (val g (place j) k') (val g (place j) k) y z (val-proper g (place j) k') (val-proper g (place j) k) i m)))

-- ---- In a tower

module _ (s : ℤ) (ps gens : List Tree) (F : Formal 1) (follow : FollowFrom letter s ps gens F) (units : Each (HasUnits letter) ps)
    (values : Each (HasValues letter) gens) (independent : IsIndependent F) where
  abbrev B : Difference (ValueR 1) (elements F)
  B = shifted F

  abbrev Agreeing : Element F → Tree → Type 0
  Agreeing x e = AgreesFrom letter s ps gens F x e

  -- the element of a combination
  combined_agrees : (cs : List Tree) → Each (λ c. IsTrue (is_constant_tree c)) cs → (f : Tree) (i : ℕ) (xs : List (Element F))
      → Pairwise Agreeing xs (shifts_from i (length cs) f) → Agreeing (total B (λ x. x) (coefficients cs) xs) (combined cs i f)
  combined_agrees [] h f i [] a p l q v w = subst (HasElement F p (elements F).O) (sym w) (evaluation F p).zero_has
  combined_agrees [] h f i (x ∷ xs) a p l q v w = absurd a
  combined_agrees (c ∷ cs) h f i [] a p l q v w = absurd a
  combined_agrees (c ∷ cs) h f i (x ∷ xs) a p l q v w =
      subst (HasElement F p (total B (λ x. x) (coefficients (c ∷ cs)) (x ∷ xs))) (sym w.4)
      ((evaluation F p).add_has ((elements F).◌⊠◌ (B.κ.on (coefficient_of c)) x) (total B (λ x. x) (coefficients cs) xs) w.0 w.1
      (subst (HasElement F p ((elements F).◌⊠◌ (B.κ.on (coefficient_of c)) x)) (sym w.2.4)
      ((evaluation F p).mul_has (B.κ.on (coefficient_of c)) x w.2.0 w.2.1
      (subst (HasElement F p (B.κ.on (coefficient_of c))) (worth_unique letter c p.variable (coefficient_of c) w.2.0 (coefficient-worth c h.0 p.variable) w.2.2) (constant-has F p (coefficient_of c)))
      (a.0 p l q w.2.1 w.2.3)))
      (combined_agrees cs h.1 f (suc i) xs a.1 p l q w.1 w.3))

  -- what holds in values from some point on is a formal recurrence
  formal_recurrence : (cs : List Tree) → Each (λ c. IsTrue (is_constant_tree c)) cs → (f g : Tree) (xs : List (Element F))
      → Pairwise Agreeing xs (shifts_from 0 (length cs) f) → (y : Element F) → Agreeing y g → Recurs cs f g
      → Solves B (λ x. x) xs (coefficients cs) y
  formal_recurrence cs h f g xs a y b r = equal_past letter s ps gens F follow units values independent (delta B y) (total B (λ x. x) (coefficients cs) xs) r.from at
    where
      at : (p : Point 1) → s ≤ℤ p.variable → r.from ≤ℤ p.variable → IsPointOf letter ps gens p
          → (v : Value 1) × HasElement F p (delta B y) v × HasElement F p (total B (λ x. x) (coefficients cs) xs) v
      at p l m q =
          let t = r.holds p.variable m in
          let e = equation cs f g p.variable t.0 h t.1 in (
            e.0,
            subst (HasElement F p (delta B y)) e.6
                ((evaluation F p).add_has (B.σ.on y) ((elements F).⊟ y) e.1 (neg_value e.2) (next_has letter s ps gens F follow units values independent y g b p l q e.1 e.4) ((evaluation F p).neg_has y e.2 (b p l q e.2 e.5))),
            combined_agrees cs h f 0 xs a p l q e.0 e.3,
          )

  -- every formal recurrence has zeros alone as coefficients
  abbrev pub OnlyZero : List (Element F) → Type 0
  OnlyZero xs = (c : ℕ → Value 1) (g : Element F) → Solves B (λ x. x) xs c g → (i : ℕ) → i < length xs → c i ≡ zero_value

  module _ (allowed : Allowed) (products : (g : Tree) → Contains allowed.products g → IsPlaced letter s ps gens F g)
      (sums : (g : Tree) → Contains allowed.sums g → (x : Element F) × Agreeing x g) where
    shifts_from-length : (i n : ℕ) (f : Tree) → length (shifts_from i n f) ≡ n
    shifts_from-length i zero f = refl
    shifts_from-length i (suc n) f = ap suc (shifts_from-length (suc i) n f)

    -- its coefficients are zero
    pub zero_coefficients : (f g : Tree) (cs : List Tree) (xs : List (Element F)) → Pairwise Agreeing xs (shifts_from 0 (length cs) f) → OnlyZero xs
        → Each (λ c. IsTrue (is_constant_tree c)) cs → OwnBuilt allowed g → Recurs cs f g
        → (i : ℕ) → i < length cs → coefficients cs i ≡ zero_value
    zero_coefficients f g cs xs a none h o r i l = go (element_over letter s ps gens F allowed.products products allowed.sums sums g (built_over allowed g o))
      where
        count : length xs ≡ length cs
        count = pairwise_length Agreeing xs (shifts_from 0 (length cs) f) a ∙ shifts_from-length 0 (length cs) f

        go : (y : Element F) × Agreeing y g → coefficients cs i ≡ zero_value
        go y = none (coefficients cs) y.0 (formal_recurrence cs h f g xs a y.0 y.1 r) i (let e = count in omega (arith, l, e))

    pub no_recurrence : (f : Tree) (J : ℕ) (xs : List (Element F)) → Pairwise Agreeing xs (shifts J f) → OnlyZero xs → (cs : List Tree) (g : Tree)
        → ¬ IsRecurrence allowed f J cs g
    no_recurrence f J xs a none cs g r =
        r.some (all_zero cs r.polynomials (zero_coefficients f g cs xs (subst (λ (n : ℕ). Pairwise Agreeing xs (shifts_from 0 n f)) (sym r.count) a) none r.polynomials r.over r.recurs))
