-- The value of an expression as a rational function of the parameter, and its values at numbers of the parameter.
--   letter               the parameter as a rational function of itself
--   number j             the whole number j, as a value
--   At v j w             the rational function v of the parameter has the value w at j
--   Has t k j w          the expression has the value w where the variable is k and the parameter is j
--   AtNumbers t k v      past some bound it has at each j the value of v there
--   at_numbers           where it has the value v as a rational function, it does so
--   HasPast t k          past some bound it has values
--   has_function         then it has one as a rational function
use Rattle.std.proofs.Common.{◌≡◌, ℕ, zero, suc, ◌+◌, ◌≤◌, ℤ, pos, ◌+ℤ◌, refl, sym, ap, ◌∙◌, subst, [], ◌∷◌, arith}
use Rattle.sg_algebra.proofs.Ring.{pow}
use Rattle.sg_algebra.proofs.Solver.{ring, reads}
use Rattle.sg_algebra.proofs.Value.{Value, ◌+ᵛ◌, ◌*ᵛ◌, ◌/ᵛ◌, neg_value, inv_value, zero_value, one_value}
use Rattle.sg_algebra.proofs.ValueField.{ValueR, ValueF, value_mul-inv}
use Rattle.sg_algebra.proofs.Rational.{whole_value}
use Rattle.sg_tower_theory.proofs.ShiftValue.{shift_valueH}
use Rattle.sg_spec.specs.Tree.{Tree, numeral, here, param, add, neg, mul, div, power, sum_from, prod_from}
use Rattle.sg_spec.specs.Value.{how_many}
use Rattle.sg_spec.specs.Worth.{IsFolded, HasWorth}
use Rattle.sg_worth_theory.proofs.Worths.{worth_unique}
use Rattle.sg_value_theory.proofs.Places.{Places}
use Rattle.sg_value_theory.proofs.Evaluation.{pow_has}
use Rattle.sg_value_theory.proofs.Quotients.{quotients, quotient-over}
use Rattle.sg_value_theory.proofs.Elements.{IsQuotientAt}
use Rattle.sg_value_theory.proofs.RationalPlaces.{rational_places, variable, variable_at, whole_at}

abbrev pub place : ℕ → ℤ
place j = pos 0 +ℤ pos j

abbrev pub letter : Value 1
letter = variable 0

abbrev pub number : ℕ → Value 0
number j = whole_value 0 (place j)

abbrev pub At : Value 1 → ℕ → Value 0 → Type 0
At v j w = IsQuotientAt {d = 0} (place j) v w

abbrev pub P : Places (ValueR 1) (ValueR 0) (shift_valueH 0)
P = rational_places 0 (pos 0)

abbrev pub Has : Tree → ℤ → ℕ → Value 0 → Type 0
Has t k j w = HasWorth (number j) t k w

pub record AtNumbers (t : Tree) (k : ℤ) (v : Value 1) : Type 0 where
  pub bound : ℕ
  pub at : (j : ℕ) → bound ≤ j → (w : Value 0) × At v j w × Has t k j w

pub record HasPast (t : Tree) (k : ℤ) : Type 0 where
  pub bound : ℕ
  pub has : (j : ℕ) → bound ≤ j → (w : Value 0) × Has t k j w

-- ---- From functions to numbers

-- past some bound a function other than 0 has a value other than 0
pub apart : (v : Value 1) → ¬ (v ≡ zero_value) → (b : ℕ) × ((j : ℕ) → b ≤ j → (w : Value 0) → At v j w → ¬ (w ≡ zero_value))
apart v n = (P.from (inv_value v), λ j l w h z. clash j (P.has_past (inv_value v) j l) w h z)
  where
    clash : (j : ℕ) → (u : Value 0) × At (inv_value v) j u → (w : Value 0) → At v j w → w ≡ zero_value → ⊥
    clash j u w h z = (ValueF 0).one_ne (sym (P.has_unique (v *ᵛ inv_value v) j (w *ᵛ u.0) one_value (P.has_mul v (inv_value v) j w u.0 h u.1) (P.has_same one_value (v *ᵛ inv_value v) j one_value one_value (sym (value_mul-inv 1 v n)) refl (P.has_one j)))
        ∙ ap (λ x. x *ᵛ u.0) z ∙ ring (ValueR 0) (u.0 ∷ []) (search reads depth 12) refl)

record FoldedAt (op : Value 0 → Value 0 → Value 0) (start : Value 0) (term : ℕ → ℤ → Value 0 → Type 0) (from : ℤ) (n : ℕ) (v : Value 1) : Type 0 where
  bound : ℕ
  at : (j : ℕ) → bound ≤ j → (w : Value 0) × At v j w × IsFolded op start (term j) from n w

first : (m n j : ℕ) → m + n ≤ j → m ≤ j
first m n j l = omega (arith, l)

second : (m n j : ℕ) → m + n ≤ j → n ≤ j
second m n j l = omega (arith, l)

module _ (op : Value 1 → Value 1 → Value 1) (op' : Value 0 → Value 0 → Value 0) (start : Value 1) (start' : Value 0) (begins : (j : ℕ) → At start j start')
    (joins : (x y : Value 1) (j : ℕ) (u w : Value 0) → At x j u → At y j w → At (op x y) j (op' u w))
    (term : ℤ → Value 1 → Type 0) (term' : ℕ → ℤ → Value 0 → Type 0) (terms : (i : ℤ) (x : Value 1) → term i x → (b : ℕ) × ((j : ℕ) → b ≤ j → (w : Value 0) × At x j w × term' j i w)) where
  folded_at : (from : ℤ) (n : ℕ) (v : Value 1) → IsFolded op start term from n v → FoldedAt op' start' term' from n v
  folded_at from zero v h = record { bound = 0; at = λ j l. (start', subst (λ (x : Value 1). At x j start') (sym h) (begins j), refl) }
  folded_at from (suc n) v h =
      let r = folded_at from n h.0 h.2 in
      let q = terms (from +ℤ pos n) h.1 h.3 in
      record {
        bound = r.bound + q.0;
        at = λ j l.
            let u = r.at j (first r.bound q.0 j l) in
            let w = q.1 j (second r.bound q.0 j l) in
            (op' u.0 w.0, subst (λ (x : Value 1). At x j (op' u.0 w.0)) (sym h.4) (joins h.0 h.1 j u.0 w.0 u.1 w.1), (u.0, w.0, u.2, w.2, refl));
      }

pub at_numbers : (t : Tree) (k : ℤ) (v : Value 1) → HasWorth letter t k v → AtNumbers t k v
at_numbers (numeral c) k v h = record { bound = 0; at = λ j l. (whole_value 0 c, subst (λ (x : Value 1). At x j (whole_value 0 c)) (sym h) (whole_at 0 (place j) c), refl) }
at_numbers here k v h = record { bound = 0; at = λ j l. (whole_value 0 k, subst (λ (x : Value 1). At x j (whole_value 0 k)) (sym h) (whole_at 0 (place j) k), refl) }
at_numbers param k v h = record { bound = 0; at = λ j l. (number j, subst (λ (x : Value 1). At x j (number j)) (sym h) (variable_at 0 (place j)), refl) }
at_numbers (add x y) k v h =
    let r = at_numbers x k h.0 h.2 in
    let q = at_numbers y k h.1 h.3 in
    record {
      bound = r.bound + q.bound;
      at = λ j l.
          let u = r.at j (first r.bound q.bound j l) in
          let w = q.at j (second r.bound q.bound j l) in
          (u.0 +ᵛ w.0, subst (λ (x : Value 1). At x j (u.0 +ᵛ w.0)) (sym h.4) (P.has_add h.0 h.1 j u.0 w.0 u.1 w.1), (u.0, w.0, u.2, w.2, refl));
    }
at_numbers (neg x) k v h =
    let r = at_numbers x k h.0 h.1 in
    record { bound = r.bound; at = λ j l. let u = r.at j l in (neg_value u.0, subst (λ (x : Value 1). At x j (neg_value u.0)) (sym h.2) (P.has_neg h.0 j u.0 u.1), (u.0, u.2, refl)) }
at_numbers (mul x y) k v h =
    let r = at_numbers x k h.0 h.2 in
    let q = at_numbers y k h.1 h.3 in
    record {
      bound = r.bound + q.bound;
      at = λ j l.
          let u = r.at j (first r.bound q.bound j l) in
          let w = q.at j (second r.bound q.bound j l) in
          (u.0 *ᵛ w.0, subst (λ (x : Value 1). At x j (u.0 *ᵛ w.0)) (sym h.4) (P.has_mul h.0 h.1 j u.0 w.0 u.1 w.1), (u.0, w.0, u.2, w.2, refl));
    }
at_numbers (div x y) k v h =
    let r = at_numbers x k h.0 h.2 in
    let q = at_numbers y k h.1 h.3 in
    let a = apart h.1 h.4 in
    record {
      bound = (r.bound + q.bound) + a.0;
      at = λ j l.
          let u = r.at j (first r.bound q.bound j (first (r.bound + q.bound) a.0 j l)) in
          let w = q.at j (second r.bound q.bound j (first (r.bound + q.bound) a.0 j l)) in
          let n = a.1 j (second (r.bound + q.bound) a.0 j l) w.0 w.1 in
          (u.0 /ᵛ w.0, subst (λ (x : Value 1). At x j (u.0 /ᵛ w.0)) (sym h.5) (quotient-over (place j) h.0 h.1 u.0 w.0 u.1 w.1 n), (u.0, w.0, u.2, w.2, n, refl));
    }
at_numbers (power x e) k v h =
    let r = at_numbers x k h.0 h.1 in
    record { bound = r.bound; at = λ j l. let u = r.at j l in (pow (ValueR 0) u.0 e, subst (λ (x : Value 1). At x j (pow (ValueR 0) u.0 e)) (sym h.2) (pow_has (quotients 0 (place j)) h.0 u.0 e u.1), (u.0, u.2, refl)) }
at_numbers (sum_from from body) k v h =
    let r = folded_at ◌+ᵛ◌ ◌+ᵛ◌ zero_value zero_value (λ j. P.has_zero j) (λ x y j u w. P.has_add x y j u w) (HasWorth letter body) (λ j. HasWorth (number j) body) (λ i x q. let s = at_numbers body i x q in (s.bound, s.at)) from (how_many from k) v h in
    record { bound = r.bound; at = r.at }
at_numbers (prod_from from body) k v h =
    let r = folded_at ◌*ᵛ◌ ◌*ᵛ◌ one_value one_value (λ j. P.has_one j) (λ x y j u w. P.has_mul x y j u w) (HasWorth letter body) (λ j. HasWorth (number j) body) (λ i x q. let s = at_numbers body i x q in (s.bound, s.at)) from (how_many from k) v h in
    record { bound = r.bound; at = r.at }

-- ---- From numbers to functions

module _ (op : Value 1 → Value 1 → Value 1) (op' : Value 0 → Value 0 → Value 0) (start : Value 1) (start' : Value 0)
    (term : ℤ → Value 1 → Type 0) (term' : ℕ → ℤ → Value 0 → Type 0) (terms : (i : ℤ) (b : ℕ) → ((j : ℕ) → b ≤ j → (w : Value 0) × term' j i w) → (x : Value 1) × term i x) where
  folded_function : (from : ℤ) (n b : ℕ) → ((j : ℕ) → b ≤ j → (w : Value 0) × IsFolded op' start' (term' j) from n w)
      → (v : Value 1) × IsFolded op start term from n v
  folded_function from zero b h = (start, refl)
  folded_function from (suc n) b h =
      let u = folded_function from n b (λ j l. let r = h j l in (r.1.0, r.1.2)) in
      let w = terms (from +ℤ pos n) b (λ j l. let r = h j l in (r.1.1, r.1.3)) in
      (op u.0 w.0, (u.0, w.0, u.1, w.1, refl))

has_function_past : (t : Tree) (k : ℤ) (b : ℕ) → ((j : ℕ) → b ≤ j → (w : Value 0) × Has t k j w) → (v : Value 1) × HasWorth letter t k v
has_function_past (numeral c) k b h = (whole_value 1 c, refl)
has_function_past here k b h = (whole_value 1 k, refl)
has_function_past param k b h = (letter, refl)
has_function_past (add x y) k b h =
    let u = has_function_past x k b (λ j l. let r = h j l in (r.1.0, r.1.2)) in
    let w = has_function_past y k b (λ j l. let r = h j l in (r.1.1, r.1.3)) in
    (u.0 +ᵛ w.0, (u.0, w.0, u.1, w.1, refl))
has_function_past (neg x) k b h =
    let u = has_function_past x k b (λ j l. let r = h j l in (r.1.0, r.1.1)) in
    (neg_value u.0, (u.0, u.1, refl))
has_function_past (mul x y) k b h =
    let u = has_function_past x k b (λ j l. let r = h j l in (r.1.0, r.1.2)) in
    let w = has_function_past y k b (λ j l. let r = h j l in (r.1.1, r.1.3)) in
    (u.0 *ᵛ w.0, (u.0, w.0, u.1, w.1, refl))
has_function_past (div x y) k b h =
    let u = has_function_past x k b (λ j l. let r = h j l in (r.1.0, r.1.2)) in
    let w = has_function_past y k b (λ j l. let r = h j l in (r.1.1, r.1.3)) in
    (u.0 /ᵛ w.0, (u.0, w.0, u.1, w.1, λ z. clash w.0 z (at_numbers y k w.0 w.1), refl))
  where
    clash : (w : Value 1) → w ≡ zero_value → AtNumbers y k w → ⊥
    clash w z a =
        let r = h (b + a.bound) (first b a.bound (b + a.bound) (omega arith)) in
        let s = a.at (b + a.bound) (second b a.bound (b + a.bound) (omega arith)) in
        r.1.4 (worth_unique (number (b + a.bound)) y k r.1.1 s.0 r.1.3 s.2
        ∙ P.has_unique zero_value (b + a.bound) s.0 zero_value (subst (λ (x : Value 1). At x (b + a.bound) s.0) z s.1) (P.has_zero (b + a.bound)))
has_function_past (power x e) k b h =
    let u = has_function_past x k b (λ j l. let r = h j l in (r.1.0, r.1.1)) in
    (pow (ValueR 1) u.0 e, (u.0, u.1, refl))
has_function_past (sum_from from body) k b h = folded_function ◌+ᵛ◌ ◌+ᵛ◌ zero_value zero_value (HasWorth letter body) (λ j. HasWorth (number j) body) (λ i c q. has_function_past body i c q) from (how_many from k) b h
has_function_past (prod_from from body) k b h = folded_function ◌*ᵛ◌ ◌*ᵛ◌ one_value one_value (HasWorth letter body) (λ j. HasWorth (number j) body) (λ i c q. has_function_past body i c q) from (how_many from k) b h

pub has_function : (t : Tree) (k : ℤ) → HasPast t k → (v : Value 1) × HasWorth letter t k v
has_function t k h = has_function_past t k h.bound h.has
