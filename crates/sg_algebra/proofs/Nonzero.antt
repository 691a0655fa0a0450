-- Past every bound there are whole numbers at which all data of a list have values, those of data other than 0 not 0.
--   points b n         the n whole numbers from b on, as values
--   NonRoot q b        a whole number from b on that is no root of q
--   nonroot            there is one for each q other than 0, since q has no more roots than coefficients
--   Shows args x v     x has the value v at args, and v isn't 0 where x isn't
--   Seen d b xs        numbers from b on at which all data of the list show values
--   seen               there are such numbers, by induction on the depth: those before the last are for all coefficients at once, and the last is no root of
--                      any denominator, nor of a numerator that isn't 0
--   nonzero_value      so a datum other than 0 has, past every bound, a value other than 0
use Rattle.std.proofs.Common.{◌≡◌, ℕ, zero, suc, ◌<◌, ◌≤◌, ◌⊎◌, inl, inr, refl, sym, ◌∙◌, ap, List, [], ◌∷◌, ◌++◌, map, take, drop, length, ℤ, pos, ◌≤ℤ◌, ◌*ℤ◌, arith}
use Rattle.std.proofs.lemmas.Int.{ints}
use Rattle.std.proofs.lemmas.List.{length-append}
use Rattle.sg_algebra.specs.Coefficients.{poly_mul, eval, coef, Each}
use Rattle.sg_algebra.specs.Datum.{Datum, Valid}
use Rattle.sg_algebra.proofs.Solver.{ring, reads}
use Rattle.sg_algebra.proofs.Field.{product_ne}
use Rattle.sg_algebra.proofs.PolynomialRing.{PolyR}
use Rattle.sg_algebra.proofs.Degree.{PolyD}
use Rattle.sg_algebra.proofs.Roots.{Distinct, roots_zero}
use Rattle.sg_algebra.proofs.Evaluation.{eval-mul}
use Rattle.sg_algebra.proofs.Value.{Value, ◌*ᵛ◌, ◌/ᵛ◌, zero_value, one_value, over_value, meaning}
use Rattle.sg_algebra.proofs.ValueField.{ValueR, ValueD, value_is_zero, value_one_ne, value_product}
use Rattle.sg_algebra.proofs.Rational.{whole_value, fraction_value-whole, same_fraction_value}
use Rattle.sg_algebra.proofs.Polynomial.{coefficient}
use Rattle.sg_algebra.proofs.Data.{lower_some, upper_some}
use Rattle.sg_algebra.proofs.Place.{Pairwise, HasValue, value_at}
use Rattle.sg_algebra.proofs.Places.{pairwise_left, pairwise_right}

-- ---- Whole numbers that are no roots

abbrev IsZero : List (Value 0) → Type 0
IsZero q = (PolyR (ValueR 0)).◌≈◌ q []

abbrev points : ℕ → ℕ → List (Value 0)
points b zero = []
points b (suc n) = whole_value 0 (pos b) ∷ points (suc b) n

points_count : (b n : ℕ) → length (points b n) ≡ n
points_count b zero = refl
points_count b (suc n) = ap suc (points_count (suc b) n)

whole_apart : (m n : ℕ) → m < n → ¬ (whole_value 0 (pos n) ≡ whole_value 0 (pos m))
whole_apart m n h e =
    let k : pos n *ℤ pos 1 ≡ pos m *ℤ pos 1 = same_fraction_value (pos n) (pos m) 1 1 (omega arith) (omega arith) (fraction_value-whole (pos n) ∙ e ∙ sym (fraction_value-whole (pos m))) in
    omega (arith, ints, k)

points_apart : (c b n : ℕ) → c < b → Each (λ y. ¬ (y ≡ whole_value 0 (pos c))) (points b n)
points_apart c b zero h = tt
points_apart c b (suc n) h = (whole_apart c b h, points_apart c (suc b) n (omega arith))

points_distinct : (b n : ℕ) → Distinct (ValueR 0) (points b n)
points_distinct b zero = tt
points_distinct b (suc n) = (points_apart b (suc b) n (omega arith), points_distinct (suc b) n)

past_end : (p : List (Value 0)) (n : ℕ) → length p ≤ n → coef (ValueR 0) p n ≡ zero_value
past_end [] n h = refl
past_end (a ∷ p) zero h = absurd (omega arith)
past_end (a ∷ p) (suc n) h = past_end p n (omega arith)

pub record NonRoot (q : List (Value 0)) (b : ℕ) : Type 0 where
  pub at : ℕ
  pub past : b ≤ at
  pub apart : ¬ (value_at q (pos at) ≡ zero_value)

tried : (q : List (Value 0)) (b n : ℕ) → NonRoot q b ⊎ Each (λ y. eval (ValueR 0) q y ≡ zero_value) (points b n)
tried q b zero = inr tt
tried q b (suc n) = elim (value_is_zero 0 (value_at q (pos b))) [
  | no h ↦ inl (record { at = b; past = omega arith; apart = h })
  | yes e ↦ elim (tried q (suc b) n) [
    | inl r ↦ inl (record { at = r.at; past = let k = r.past in omega (arith, k); apart = r.apart })
    | inr t ↦ inr (e, t)
  ]
]

pub nonroot : (q : List (Value 0)) (b : ℕ) → ¬ IsZero q → NonRoot q b
nonroot q b h = elim (tried q b (length q)) [
  | inl r ↦ r
  | inr t ↦ absurd (h (roots_zero (ValueD 0) (points b (length q)) q (points_distinct b (length q)) t
      (record { none_from = λ n k. past_end q n (let c = points_count b (length q) in omega (arith, c, k)) })))
]

both_apart : (p q : List (Value 0)) (a : ℤ) → ¬ (value_at (poly_mul (ValueR 0) p q) a ≡ zero_value) → ¬ (value_at p a ≡ zero_value) × ¬ (value_at q a ≡ zero_value)
both_apart p q a h = (
  λ z. h (eval-mul (ValueR 0) p q (whole_value 0 a) ∙ ap (λ v. v *ᵛ value_at q a) z ∙ ring (ValueR 0) (value_at q a ∷ []) (search reads depth 12) refl),
  λ z. h (eval-mul (ValueR 0) p q (whole_value 0 a) ∙ ap (λ v. value_at p a *ᵛ v) z ∙ ring (ValueR 0) (value_at p a ∷ []) (search reads depth 12) refl),
)

quotient_apart : (u v : Value 0) → ¬ (u ≡ zero_value) → ¬ (v ≡ zero_value) → ¬ (u /ᵛ v ≡ zero_value)
quotient_apart u v h k z = h (sym (value_product u v k) ∙ ap (λ w. w *ᵛ v) z ∙ ring (ValueR 0) (v ∷ []) (search reads depth 12) refl)

-- ---- Lists of data

each_append : {A : Type 0} (P : A → Type 0) (xs ys : List A) → Each P xs → Each P ys → Each P (xs ++ ys)
each_append P [] ys h k = k
each_append P (x ∷ xs) ys h k = (h.0, each_append P xs ys h.1 k)

abbrev pub Shows : (d : ℕ) → List ℤ → Datum d → Value 0 → Type 0
Shows d args x v = HasValue d (meaning d x) args v × (¬ (meaning d x ≡ zero_value) → ¬ (v ≡ zero_value))

pub record Seen (d b : ℕ) (xs : List (Datum d)) : Type 0 where
  pub args : List ℤ
  pub values : List (Value 0)
  pub count : length args ≡ d
  pub past : Each (λ a. pos b ≤ℤ a) args
  pub shows : Pairwise (λ x v. Shows d args x v) xs values

-- all coefficients of a list of data
abbrev parts : (d : ℕ) → List (Datum (suc d)) → List (Datum d)
parts d [] = []
parts d (x ∷ xs) = x.0 ++ (x.1 ++ parts d xs)

parts_valid : (d : ℕ) (xs : List (Datum (suc d))) → Each (Valid (suc d)) xs → Each (Valid d) (parts d xs)
parts_valid d [] h = tt
parts_valid d (x ∷ xs) h = each_append (Valid d) x.0 (x.1 ++ parts d xs) h.0.0 (each_append (Valid d) x.1 (parts d xs) h.0.1 (parts_valid d xs h.1))

module _ (d : ℕ) (before : List ℤ) where
  -- the values of the coefficients of a datum
  record Item (x : Datum (suc d)) : Type 0 where
    upper : List (Value 0)
    lower : List (Value 0)
    uppers : Pairwise (λ c w. Shows d before c w) x.0 upper
    lowers : Pairwise (λ c w. Shows d before c w) x.1 lower

  abbrev Items : List (Datum (suc d)) → Type 0
  Items [] = Unit {0}
  Items (x ∷ xs) = Item x × Items xs

  items_of : (xs : List (Datum (suc d))) (ws : List (Value 0)) → Pairwise (λ c w. Shows d before c w) (parts d xs) ws → Items xs
  items_of [] ws h = tt
  items_of (x ∷ xs) ws h =
      let rest = pairwise_right (λ c w. Shows d before c w) x.0 (x.1 ++ parts d xs) ws h in (
        record {
          upper = take (length x.0) ws;
          lower = take (length x.1) (drop (length x.0) ws);
          uppers = pairwise_left (λ c w. Shows d before c w) x.0 (x.1 ++ parts d xs) ws h;
          lowers = pairwise_left (λ c w. Shows d before c w) x.1 (parts d xs) (drop (length x.0) ws) rest;
        },
        items_of xs (drop (length x.1) (drop (length x.0) ws)) (pairwise_right (λ c w. Shows d before c w) x.1 (parts d xs) (drop (length x.0) ws) rest),
      )

  -- coefficients whose values are all 0 are 0
  all_zero : (p : List (Datum d)) (u : List (Value 0)) → Pairwise (λ c w. Shows d before c w) p u → ((n : ℕ) → coefficient u n ≡ zero_value) → (n : ℕ) → coefficient (map (meaning d) p) n ≡ zero_value
  all_zero [] u h z n = refl
  all_zero (x ∷ p) [] h z n = absurd h
  all_zero (x ∷ p) (v ∷ u) h z zero = elim (value_is_zero d (meaning d x)) [ yes e ↦ e | no n ↦ absurd (h.0.1 n (z 0)) ]
  all_zero (x ∷ p) (v ∷ u) h z (suc n) = all_zero p u h.1 (λ n. z (suc n)) n

  stays_apart : (p : List (Datum d)) (u : List (Value 0)) → Pairwise (λ c w. Shows d before c w) p u → ¬ ((PolyR (ValueR d)).◌≈◌ (map (meaning d) p) []) → ¬ IsZero u
  stays_apart p u h n z = n (record { image = record { at = all_zero p u h z.image.at } })

  has_values : (p : List (Datum d)) (u : List (Value 0)) → Pairwise (λ c w. Shows d before c w) p u → Pairwise (λ c w. HasValue d c before w) (map (meaning d) p) u
  has_values [] [] h = tt
  has_values [] (v ∷ u) h = absurd h
  has_values (x ∷ p) [] h = absurd h
  has_values (x ∷ p) (v ∷ u) h = (h.0.0, has_values p u h.1)

  -- what the last number must not be a root of: the denominator, and the numerator where the datum isn't 0
  abbrev hurdle : (x : Datum (suc d)) → Item x → Dec (meaning (suc d) x ≡ zero_value) → List (Value 0)
  hurdle x i (yes e) = i.lower
  hurdle x i (no n) = poly_mul (ValueR 0) i.upper i.lower

  hurdle_some : (x : Datum (suc d)) (i : Item x) (c : Dec (meaning (suc d) x ≡ zero_value)) → Valid (suc d) x → ¬ IsZero (hurdle x i c)
  hurdle_some x i (yes e) v = stays_apart x.1 i.lower i.lowers (lower_some d x v)
  hurdle_some x i (no n) v = product_ne (PolyD (ValueD 0)) (stays_apart x.0 i.upper i.uppers (upper_some d x v n)) (stays_apart x.1 i.lower i.lowers (lower_some d x v))

  abbrev hurdles : (xs : List (Datum (suc d))) → Items xs → List (Value 0)
  hurdles [] t = one_value ∷ []
  hurdles (x ∷ xs) t = poly_mul (ValueR 0) (hurdle x t.0 (value_is_zero (suc d) (meaning (suc d) x))) (hurdles xs t.1)

  hurdles_some : (xs : List (Datum (suc d))) (t : Items xs) → Each (Valid (suc d)) xs → ¬ IsZero (hurdles xs t)
  hurdles_some [] t v = λ z. value_one_ne 0 (z.image.at 0)
  hurdles_some (x ∷ xs) t v = product_ne (PolyD (ValueD 0)) (hurdle_some x t.0 (value_is_zero (suc d) (meaning (suc d) x)) v.0) (hurdles_some xs t.1 v.1)

  meaning-is : (x : Datum (suc d)) → meaning (suc d) x ≡ over_value (map (meaning d) x.0) (map (meaning d) x.1)
  unfolding meaning
  meaning-is x = refl

  item_has : (x : Datum (suc d)) (i : Item x) (a : ℤ) → ¬ (value_at i.lower a ≡ zero_value) → HasValue (suc d) (meaning (suc d) x) (before ++ a ∷ []) (value_at i.upper a /ᵛ value_at i.lower a)
  item_has x i a h = record {
    before = before;
    last = a;
    upper = map (meaning d) x.0;
    lower = map (meaning d) x.1;
    upper_values = i.upper;
    lower_values = i.lower;
    arguments = refl;
    quotient = meaning-is x;
    uppers = has_values x.0 i.upper i.uppers;
    lowers = has_values x.1 i.lower i.lowers;
    defined = h;
    value = refl;
  }

  item_shows : (x : Datum (suc d)) (i : Item x) (c : Dec (meaning (suc d) x ≡ zero_value)) (a : ℤ) → ¬ (value_at (hurdle x i c) a ≡ zero_value) → Shows (suc d) (before ++ a ∷ []) x (value_at i.upper a /ᵛ value_at i.lower a)
  item_shows x i (yes e) a h = (item_has x i a h, λ n. absurd (n e))
  item_shows x i (no n) a h = let b = both_apart i.upper i.lower a h in (item_has x i a b.1, λ m. quotient_apart (value_at i.upper a) (value_at i.lower a) b.0 b.1)

  abbrev values_of : (xs : List (Datum (suc d))) → Items xs → ℤ → List (Value 0)
  values_of [] t a = []
  values_of (x ∷ xs) t a = (value_at t.0.upper a /ᵛ value_at t.0.lower a) ∷ values_of xs t.1 a

  all_show : (xs : List (Datum (suc d))) (t : Items xs) (a : ℤ) → ¬ (value_at (hurdles xs t) a ≡ zero_value) → Pairwise (λ x v. Shows (suc d) (before ++ a ∷ []) x v) xs (values_of xs t a)
  all_show [] t a h = tt
  all_show (x ∷ xs) t a h =
      let c = value_is_zero (suc d) (meaning (suc d) x) in
      let b = both_apart (hurdle x t.0 c) (hurdles xs t.1) a h in
      (item_shows x t.0 c a b.0, all_show xs t.1 a b.1)

  seen_at : (b : ℕ) (xs : List (Datum (suc d))) (t : Items xs) → length before ≡ d → Each (λ a. pos b ≤ℤ a) before → NonRoot (hurdles xs t) b → Seen (suc d) b xs
  seen_at b xs t n e r = record {
    args = before ++ pos r.at ∷ [];
    values = values_of xs t (pos r.at);
    count = let l = length-append before (pos r.at ∷ []) in omega (arith, l, n);
    past = each_append (λ a. pos b ≤ℤ a) before (pos r.at ∷ []) e (let k = r.past in omega (arith, ints, k), tt);
    shows = all_show xs t (pos r.at) r.apart;
  }

values_show : (xs : List (Datum 0)) → Pairwise (λ x v. Shows 0 [] x v) xs (map (meaning 0) xs)
values_show [] = tt
values_show (x ∷ xs) = (((refl, refl), λ n. n), values_show xs)

pub seen : (d b : ℕ) (xs : List (Datum d)) → Each (Valid d) xs → Seen d b xs
seen zero b xs v = record { args = []; values = map (meaning 0) xs; count = refl; past = tt; shows = values_show xs }
seen (suc d) b xs v =
    let s = seen d b (parts d xs) (parts_valid d xs v) in
    seen_at d s.args b xs (items_of d s.args xs s.values s.shows) s.count s.past
    (nonroot (hurdles d s.args xs (items_of d s.args xs s.values s.shows)) b (hurdles_some d s.args xs (items_of d s.args xs s.values s.shows) v))

-- numbers from b on at which a datum has a value, which isn't 0
pub record NonzeroValue (d b : ℕ) (x : Datum d) : Type 0 where
  pub args : List ℤ
  pub value : Value 0
  pub count : length args ≡ d
  pub past : Each (λ a. pos b ≤ℤ a) args
  pub has : HasValue d (meaning d x) args value
  pub nonzero : ¬ (value ≡ zero_value)

pub nonzero_value : (d b : ℕ) (x : Datum d) → Valid d x → ¬ (meaning d x ≡ zero_value) → NonzeroValue d b x
nonzero_value d b x v n = first (seen d b (x ∷ []) (v, tt))
  where
    one : (args : List ℤ) (vs : List (Value 0)) → length args ≡ d → Each (λ a. pos b ≤ℤ a) args → Pairwise (λ x v. Shows d args x v) (x ∷ []) vs → NonzeroValue d b x
    one args [] c p h = absurd h
    one args (w ∷ vs) c p h = record { args = args; value = w; count = c; past = p; has = h.0.0; nonzero = h.0.1 n }

    first : Seen d b (x ∷ []) → NonzeroValue d b x
    first s = one s.args s.values s.count s.past s.shows
