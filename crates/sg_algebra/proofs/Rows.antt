-- Rows: lists of items that stand for values, and the coefficients that they give. What loops over rows need, whatever the items are.
--   v                          which value an item stands for
--   at_past, at-take           the coefficient past the end is 0; those of a front part
--   at_read, past_row          the coefficient that is read at a place of a row; past its end
--   Builds v target n xs       the row xs has n items, and they are `target k` for each k below n
--   builds_push, builds_all, builds_poly    it grows by a push; in the end all coefficients, or the polynomial, are the target's
--   sum_built, difference_built, scaled_built, copied_built, product_built    what polynomial the finished row is
--   ZerosFrom v n xs           each coefficient from n on is 0
--   zeros_past, zeros_more, cut_same, cut_ends    zeros at the end, found from the last item on; what is left when they are cut off
--   zero_row, row_zero         the zero polynomial is the empty row
--   Product v p q n j sum      `sum` is the coefficient at n of the product of q and the items of p from j on
--   product_more               it grows by one product
--   drop_step                  the items from j on are the item at j and those from j + 1 on
--   agree_more, agree_all      rows with equal coefficients so far; so all are equal
--   lengths_same               equal polynomials without zeros at the end have as many coefficients
--   drop_at, dropped_built     the coefficients from a place on, and a row that is built of them
--   behind_at                  the coefficient that is read in a row behind one item more
--   last_nonzero, last_read    the last coefficient of a polynomial that isn't 0
use Rattle.std.proofs.Common.{◌≡◌, ℕ, zero, suc, ◌+◌, ◌-◌, ◌<◌, ◌≤◌, refl, sym, ◌∙◌, ap, ap₂, ◌≢◌, max, List, [], ◌∷◌, ◌++◌, map, length, take, drop, get_or, ◌⊎◌, inl, inr, arith}
use Rattle.sg_algebra.specs.Coefficients.{zip_longest, poly_mul}
use Rattle.sg_algebra.proofs.Ring.{neg_O, mul_O}
use Rattle.sg_algebra.proofs.Lists.{length_map}
use Rattle.sg_algebra.proofs.PolynomialRing.{coef-zip, coef-each, coef-scale}
use Rattle.sg_algebra.proofs.Value.{Value, zero_value, ◌+ᵛ◌, ◌-ᵛ◌, ◌*ᵛ◌, neg_value}
use Rattle.sg_algebra.proofs.ValueField.{ValueR, value_add-zero, value_add-neg}
use Rattle.sg_algebra.proofs.Polynomial.{poly, poly_same, same_poly, poly-add, poly-neg, poly-mul, zero_polynomial, constant, ◌+ᵖ◌, ◌-ᵖ◌, ◌*ᵖ◌, coefficient, EndsNonzero}

split_lt : (k n : ℕ) → (k < n) ⊎ (n ≤ k)
split_lt k n = grind arith

pub at_past : {d : ℕ} (p : List (Value d)) (i : ℕ) → length p ≤ i → coefficient p i ≡ zero_value
at_past [] i h = refl
at_past (x ∷ p) zero h = absurd (omega arith)
at_past (x ∷ p) (suc i) h = at_past p i (omega arith)

pub at-take : {d : ℕ} (p : List (Value d)) (n i : ℕ) → i < n → coefficient (take n p) i ≡ coefficient p i
at-take p zero i h = absurd (omega arith)
at-take [] (suc n) i h = refl
at-take (x ∷ p) (suc n) zero h = refl
at-take (x ∷ p) (suc n) (suc i) h = at-take p n i (omega arith)

module _ {K : Type 0} {d : ℕ} (v : K → Value d) where
  -- the coefficient that is read by an index
  pub at_read : (xs : List K) (i : ℕ) (x : K) → i < length xs → x ≡ get_or xs i x → coefficient (map v xs) i ≡ v x
  at_read [] i x h e = absurd (omega arith)
  at_read (y ∷ xs) zero x h e = ap v (sym e)
  at_read (y ∷ xs) (suc i) x h e = at_read xs i x (omega arith) e

  pub past_row : (xs : List K) (i : ℕ) → length xs ≤ i → coefficient (map v xs) i ≡ zero_value
  past_row xs i h = at_past (map v xs) i (rw (length_map v xs) h)

  pub map_take : (n : ℕ) (xs : List K) → map v (take n xs) ≡ take n (map v xs)
  map_take zero xs = refl
  map_take (suc n) [] = refl
  map_take (suc n) (x ∷ xs) = ap (◌∷◌ (v x)) (map_take n xs)

  -- ---- A row that is built from its first coefficient on: `target k` for each k below n
  pub record Builds (target : ℕ → Value d) (n : ℕ) (xs : List K) : Type 0 where
    pub size : length xs ≡ n
    pub built : (k : ℕ) → k < n → coefficient (map v xs) k ≡ target k

  below_push : (xs : List K) (c : K) (k : ℕ) → k < length xs → coefficient (map v (xs ++ c ∷ [])) k ≡ coefficient (map v xs) k
  below_push [] c k h = absurd (omega arith)
  below_push (x ∷ xs) c zero h = refl
  below_push (x ∷ xs) c (suc k) h = below_push xs c k (omega arith)

  at_push : (xs : List K) (c : K) (k : ℕ) → k ≡ length xs → coefficient (map v (xs ++ c ∷ [])) k ≡ v c
  at_push [] c zero h = refl
  at_push [] c (suc k) h = absurd (omega arith)
  at_push (x ∷ xs) c zero h = absurd (omega arith)
  at_push (x ∷ xs) c (suc k) h = at_push xs c k (omega arith)

  push_size : (xs : List K) (c : K) → length (xs ++ c ∷ []) ≡ length xs + 1
  push_size [] c = refl
  push_size (x ∷ xs) c = omega (arith, push_size xs c)

  pub builds_more : (target : ℕ → Value d) (n : ℕ) (xs : List K) (c : K) → Builds target n xs → v c ≡ target n → Builds target (n + 1) (xs ++ c ∷ [])
  builds_more target n xs c b e = record { size = omega (arith, push_size xs c, b.size); built = go }
    where
      go : (k : ℕ) → k < n + 1 → coefficient (map v (xs ++ c ∷ [])) k ≡ target k
      go k h = elim (split_lt k n) [
        | inl l ↦ below_push xs c k (omega (arith, b.size)) ∙ b.built k l
        | inr g ↦ let same : k ≡ n = omega arith in at_push xs c k (omega (arith, b.size)) ∙ e ∙ ap target (sym same)
      ]

  pub builds_push : (target : ℕ → Value d) (n : ℕ) (xs new : List K) (c : K) → Builds target n xs → v c ≡ target n → new ≡ xs ++ c ∷ [] → Builds target (n + 1) new
  builds_push target n xs new c b e s = rw s (builds_more target n xs c b e)

  -- the whole row, where the target is 0 from n on
  pub builds_all : (target : ℕ → Value d) (n : ℕ) (xs : List K) → Builds target n xs → ((k : ℕ) → n ≤ k → target k ≡ zero_value) → (k : ℕ) → coefficient (map v xs) k ≡ target k
  builds_all target n xs b z k = elim (split_lt k n) [
    | inl l ↦ b.built k l
    | inr g ↦ past_row xs k (omega (arith, b.size)) ∙ sym (z k g)
  ]

  pub builds_poly : (n : ℕ) (xs : List K) (p : List (Value d)) → Builds (λ k. coefficient p k) n xs → length p ≤ n → poly (map v xs) ≡ poly p
  builds_poly n xs p b l = poly_same (map v xs) p (builds_all (λ k. coefficient p k) n xs b (λ k h. at_past p k (omega arith)))

  -- ---- Zeros at the end
  pub record ZerosFrom (n : ℕ) (xs : List K) : Type 0 where
    pub nothing : (k : ℕ) → n ≤ k → coefficient (map v xs) k ≡ zero_value

  pub zeros_past : (xs : List K) (n : ℕ) → n ≡ length xs → ZerosFrom n xs
  zeros_past xs n e = record { nothing = λ k h. past_row xs k (omega arith) }

  pub zeros_more : (xs : List K) (n : ℕ) (x : K) → ZerosFrom n xs → 0 < n → n ≤ length xs → x ≡ get_or xs (n - 1) x → v x ≡ zero_value → ZerosFrom (n - 1) xs
  zeros_more xs n x z p l e h = record { nothing = go }
    where
      go : (k : ℕ) → n - 1 ≤ k → coefficient (map v xs) k ≡ zero_value
      go k g = elim (split_lt k n) [
        | inr q ↦ z.nothing k q
        | inl q ↦ let same : k ≡ n - 1 = omega arith in rw same (at_read xs (n - 1) x (omega arith) e ∙ h)
      ]

  pub cut_same : (xs : List K) (n : ℕ) → ZerosFrom n xs → poly (map v (take n xs)) ≡ poly (map v xs)
  cut_same xs n z = rw (map_take n xs) (poly_same (take n (map v xs)) (map v xs) go)
    where
      go : (k : ℕ) → coefficient (take n (map v xs)) k ≡ coefficient (map v xs) k
      go k = elim (split_lt k n) [
        | inl l ↦ at-take (map v xs) n k l
        | inr g ↦ at_past (take n (map v xs)) k (size n (map v xs) k g) ∙ sym (z.nothing k g)
      ]
        where
          size : (n : ℕ) (p : List (Value d)) (k : ℕ) → n ≤ k → length (take n p) ≤ k
          size zero p k h = omega arith
          size (suc n) [] k h = omega arith
          size (suc n) (x ∷ p) zero h = absurd (omega arith)
          size (suc n) (x ∷ p) (suc k) h = let l : length (take n p) ≤ k = size n p k (omega arith) in omega arith

  pub cut_ends : (xs : List K) (n : ℕ) → n ≤ length xs → ((k : ℕ) → n ≡ suc k → ¬ (coefficient (map v xs) k ≡ zero_value)) → EndsNonzero (map v (take n xs))
  cut_ends xs n l h m s z =
      let size : length (take n xs) ≡ n = taken n xs l in
      let same : n ≡ suc m = omega (arith, length_map v (take n xs)) in
      h m same (sym (at-take (map v xs) n m (omega arith)) ∙ (rw (map_take n xs) at z))
    where
      taken : (n : ℕ) (xs : List K) → n ≤ length xs → length (take n xs) ≡ n
      taken zero xs h = refl
      taken (suc n) [] h = absurd (omega arith)
      taken (suc n) (x ∷ xs) h = ap suc (taken n xs (omega arith))

  -- the zero polynomial is the empty row
  pub zero_row : (xs : List K) → length xs ≡ 0 → poly (map v xs) ≡ zero_polynomial
  zero_row [] h = refl
  zero_row (x ∷ xs) h = absurd (omega arith)

  pub row_zero : (xs : List K) → EndsNonzero (map v xs) → poly (map v xs) ≡ zero_polynomial → length xs ≡ 0
  row_zero [] h e = refl
  row_zero (x ∷ xs) h e = absurd (h (length (map v xs)) refl (same_poly (map v (x ∷ xs)) [] e (length (map v xs))))

  -- ---- The lists that the operations make
  abbrev pub sum_coefficients : List K → List K → List (Value d)
  sum_coefficients p q = zip_longest ◌+ᵛ◌ (map v p) (map v q)

  abbrev pub difference_coefficients : List K → List K → List (Value d)
  difference_coefficients p q = zip_longest ◌+ᵛ◌ (map v p) (map neg_value (map v q))

  longest : (p q : List (Value d)) (n : ℕ) → length p ≤ n → length q ≤ n → length (zip_longest ◌+ᵛ◌ p q) ≤ n
  longest [] q n h k = k
  longest (x ∷ p) [] n h k = h
  longest (x ∷ p) (y ∷ q) zero h k = absurd (omega arith)
  longest (x ∷ p) (y ∷ q) (suc n) h k = let l : length (zip_longest ◌+ᵛ◌ p q) ≤ n = longest p q n (omega arith) (omega arith) in omega arith

  pub sum_built : (p q xs : List K) (n : ℕ) → Builds (λ k. coefficient (map v p) k +ᵛ coefficient (map v q) k) n xs → n ≡ max (length p) (length q) → poly (map v xs) ≡ poly (map v p) +ᵖ poly (map v q)
  sum_built p q xs n b e =
      poly_same (map v xs) (sum_coefficients p q) (λ k. builds_all (λ k. coefficient (map v p) k +ᵛ coefficient (map v q) k) n xs b (past k) k ∙ sym (coef-zip (ValueR d) (map v p) (map v q) k))
      ∙ poly-add (map v p) (map v q)
    where
      past : (i k : ℕ) → n ≤ k → coefficient (map v p) k +ᵛ coefficient (map v q) k ≡ zero_value
      past i k h = rw (past_row p k (omega arith), past_row q k (omega arith)) (value_add-zero d zero_value)

  pub difference_built : (p q xs : List K) (n : ℕ) → Builds (λ k. coefficient (map v p) k -ᵛ coefficient (map v q) k) n xs → n ≡ max (length p) (length q) → poly (map v xs) ≡ poly (map v p) -ᵖ poly (map v q)
  difference_built p q xs n b e =
      poly_same (map v xs) (difference_coefficients p q) (λ k. builds_all (λ k. coefficient (map v p) k -ᵛ coefficient (map v q) k) n xs b (past k) k
      ∙ sym (coef-zip (ValueR d) (map v p) (map neg_value (map v q)) k ∙ ap (◌+ᵛ◌ (coefficient (map v p) k)) (coef-each (ValueR d) neg_value (neg_O (ValueR d)) (map v q) k)))
      ∙ poly-add (map v p) (map neg_value (map v q)) ∙ ap (◌+ᵖ◌ (poly (map v p))) (poly-neg (map v q))
    where
      past : (i k : ℕ) → n ≤ k → coefficient (map v p) k -ᵛ coefficient (map v q) k ≡ zero_value
      past i k h = rw (past_row p k (omega arith), past_row q k (omega arith)) (value_add-neg d zero_value)

  pub scaled_built : (c : Value d) (p xs : List K) (n : ℕ) → Builds (λ k. c *ᵛ coefficient (map v p) k) n xs → n ≡ length p → poly (map v xs) ≡ constant c *ᵖ poly (map v p)
  scaled_built c p xs n b e =
      poly_same (map v xs) (poly_mul (ValueR d) (c ∷ []) (map v p)) (λ k. builds_all (λ k. c *ᵛ coefficient (map v p) k) n xs b (past k) k ∙ sym (coef-scale (ValueR d) c (map v p) k))
      ∙ poly-mul (c ∷ []) (map v p)
    where
      past : (i k : ℕ) → n ≤ k → c *ᵛ coefficient (map v p) k ≡ zero_value
      past i k h = rw (past_row p k (omega arith)) (mul_O (ValueR d))

  pub copied_built : (p xs : List K) (n : ℕ) → Builds (λ k. coefficient (map v p) k) n xs → n ≡ length p → poly (map v xs) ≡ poly (map v p)
  copied_built p xs n b e = builds_poly n xs (map v p) b (omega (arith, length_map v p))

  product_size : (p q : List (Value d)) → length (poly_mul (ValueR d) p q) ≤ length p + length q
  product_size [] q = omega arith
  product_size (a ∷ p) q = longest (map (◌*ᵛ◌ a) q) (zero_value ∷ poly_mul (ValueR d) p q) (suc (length p) + length q)
      (omega (arith, length_map (◌*ᵛ◌ a) q)) (let l = product_size p q in omega (arith, product_size p q))

  pub product_built : (p q xs : List K) (n : ℕ) → Builds (λ k. coefficient (poly_mul (ValueR d) (map v p) (map v q)) k) n xs → n ≡ length p + length q → poly (map v xs) ≡ poly (map v p) *ᵖ poly (map v q)
  product_built p q xs n b e = builds_poly n xs (poly_mul (ValueR d) (map v p) (map v q)) b (omega (arith, length_map v p, length_map v q, product_size (map v p) (map v q))) ∙ poly-mul (map v p) (map v q)

  pub drop_all : (j : ℕ) (p : List K) → length p ≤ j → drop j p ≡ []
  drop_all zero [] h = refl
  drop_all (suc j) [] h = refl
  drop_all zero (x ∷ p) h = absurd (omega arith)
  drop_all (suc j) (x ∷ p) h = drop_all j p (omega arith)

  -- one coefficient of a product, from the last row on
  product_step : (p : List K) (q : List (Value d)) (j : ℕ) (x : K) (m : ℕ) (sum : Value d) → j < length p → x ≡ get_or p j x → ((i : ℕ) → m ≡ suc i → sum ≡ coefficient (poly_mul (ValueR d) (map v (drop (suc j) p)) q) i) → (m ≡ 0 → sum ≡ zero_value)
      → v x *ᵛ coefficient q m +ᵛ sum ≡ coefficient (poly_mul (ValueR d) (map v (drop j p)) q) m
  product_step [] q j x m sum l e h z = absurd (omega arith)
  product_step (y ∷ p) q zero x m sum l e h z = ap (λ w. v w *ᵛ coefficient q m +ᵛ sum) e ∙ go m h z
    where
      go : (m : ℕ) → ((i : ℕ) → m ≡ suc i → sum ≡ coefficient (poly_mul (ValueR d) (map v p) q) i) → (m ≡ 0 → sum ≡ zero_value) → v y *ᵛ coefficient q m +ᵛ sum ≡ coefficient (poly_mul (ValueR d) (v y ∷ map v p) q) m
      go m h z = sym (coef-zip (ValueR d) (map (◌*ᵛ◌ (v y)) q) (zero_value ∷ poly_mul (ValueR d) (map v p) q) m ∙ ap₂ ◌+ᵛ◌ (coef-each (ValueR d) (◌*ᵛ◌ (v y)) (mul_O (ValueR d)) q m) (last m h z))
        where
          last : (m : ℕ) → ((i : ℕ) → m ≡ suc i → sum ≡ coefficient (poly_mul (ValueR d) (map v p) q) i) → (m ≡ 0 → sum ≡ zero_value) → coefficient (zero_value ∷ poly_mul (ValueR d) (map v p) q) m ≡ sum
          last zero h z = sym (z refl)
          last (suc i) h z = sym (h i refl)
  product_step (y ∷ p) q (suc j) x m sum l e h z = product_step p q j x m sum (omega arith) e h z

  -- one coefficient of a product: the rows from j on
  pub record Product (p : List K) (q : List (Value d)) (n j : ℕ) (sum : Value d) : Type 0 where
    pub within : j ≤ length p
    pub near : j ≤ n + 1
    pub part : (m : ℕ) → n ≡ j + m → sum ≡ coefficient (poly_mul (ValueR d) (map v (drop j p)) q) m
    pub none : n < j → sum ≡ zero_value

  pub product_more : (p : List K) (q : List (Value d)) (n j k : ℕ) (x : K) (sum new : Value d) → Product p q n j sum → j ≡ suc k → x ≡ get_or p k x → new ≡ v x *ᵛ coefficient q (n - k) +ᵛ sum → Product p q n k new
  product_more p q n j k x sum new b e r s = record {
    within = omega (arith, b.within);
    near = omega (arith, b.near);
    part = λ m h. s ∙ ap (λ i. v x *ᵛ coefficient q i +ᵛ sum) (minus m h) ∙ product_step p q k x m sum (omega (arith, b.within)) r (λ i g. rw e at b.part i (omega arith)) (λ g. b.none (omega arith));
    none = λ h. absurd (omega (arith, b.near));
  }
    where
      minus : (m : ℕ) → n ≡ k + m → n - k ≡ m
      minus m h = omega arith

  -- ---- Going down a row: from the last item to the first

  pub drop_step : (p : List K) (i j : ℕ) (x : K) → i ≡ suc j → j < length p → x ≡ get_or p j x → map v (drop j p) ≡ v x ∷ map v (drop i p)
  drop_step [] i j x e h r = absurd (omega arith)
  drop_step (y ∷ p) zero j x e h r = absurd (omega arith)
  drop_step (y ∷ p) (suc i) zero x e h r = let z : i ≡ 0 = omega arith in rw (z, r) refl
  drop_step (y ∷ p) (suc zero) (suc j) x e h r = absurd (omega arith)
  drop_step (y ∷ p) (suc (suc i)) (suc j) x e h r = drop_step p (suc i) j x (omega arith) (omega arith) r

  -- ---- Two rows

  pub agree_more : (f g : ℕ → Value d) (i : ℕ) → ((k : ℕ) → k < i → f k ≡ g k) → f i ≡ g i → (k : ℕ) → k < i + 1 → f k ≡ g k
  agree_more f g i h e k l = elim (split_lt k i) [ inl a ↦ h k a | inr b ↦ let same : k ≡ i = omega arith in rw same e ]

  pub agree_all : (p q : List K) (n : ℕ) → length p ≤ n → length q ≤ n → ((k : ℕ) → k < n → coefficient (map v p) k ≡ coefficient (map v q) k) → (k : ℕ) → coefficient (map v p) k ≡ coefficient (map v q) k
  agree_all p q n a b h k = elim (split_lt k n) [ inl l ↦ h k l | inr g ↦ past_row p k (omega arith) ∙ sym (past_row q k (omega arith)) ]

  not_shorter : (p q : List K) → EndsNonzero (map v q) → poly (map v p) ≡ poly (map v q) → ¬ (length p < length q)
  not_shorter p q h e l =
      let n = length q - 1 in
      h n (omega (arith, length_map v q)) (sym (same_poly (map v p) (map v q) e n) ∙ past_row p n (omega arith))

  -- equal polynomials without zeros at the end have as many coefficients
  pub lengths_same : (p q : List K) → EndsNonzero (map v p) → EndsNonzero (map v q) → poly (map v p) ≡ poly (map v q) → length p ≡ length q
  lengths_same p q g h e = both (length p) (length q) (not_shorter p q h e) (not_shorter q p g (sym e))
    where
      both : (m n : ℕ) → ¬ (m < n) → ¬ (n < m) → m ≡ n
      both m n a b = grind arith

  pub drop_at : (p : List K) (i k : ℕ) → coefficient (map v (drop i p)) k ≡ coefficient (map v p) (i + k)
  drop_at p zero k = ap (coefficient (map v p)) (start k)
    where
      start : (k : ℕ) → k ≡ 0 + k
      start k = omega arith
  drop_at [] (suc i) k = refl
  drop_at (x ∷ p) (suc i) k = drop_at p i k ∙ ap (coefficient (map v (x ∷ p))) (next i k)
    where
      next : (i k : ℕ) → suc (i + k) ≡ suc i + k
      next i k = omega arith

  -- a row of the n items from i on, where there are no more
  pub dropped_built : (p : List K) (i n : ℕ) (xs : List K) → i + n ≡ length p → Builds (λ k. coefficient (map v p) (i + k)) n xs → poly (map v xs) ≡ poly (map v (drop i p))
  dropped_built p i n xs e b = poly_same (map v xs) (map v (drop i p)) (λ k. builds_all (λ k. coefficient (map v p) (i + k)) n xs b (λ k h. past_row p (i + k) (omega arith)) k ∙ sym (drop_at p i k))

  -- a before a row
  pub behind_at : (a : Value d) (rest : List K) (k : ℕ) (x : K) → k ≢ 0 → k ≤ length rest → x ≡ get_or rest (k - 1) x → v x ≡ coefficient (a ∷ map v rest) k
  behind_at a rest zero x n h e = absurd (n refl)
  behind_at a rest (suc k) x n h e = let same : suc k - 1 ≡ k = omega arith in sym (at_read rest k x (omega arith) (rw same at e))

  -- ---- The last coefficient

  some_row : (xs : List K) → ¬ (poly (map v xs) ≡ zero_polynomial) → 0 < length xs
  some_row [] n = absurd (n refl)
  some_row (x ∷ xs) n = omega arith

  pub last_nonzero : (xs : List K) → EndsNonzero (map v xs) → ¬ (poly (map v xs) ≡ zero_polynomial) → ¬ (coefficient (map v xs) (length xs - 1) ≡ zero_value)
  last_nonzero xs e n = e (length xs - 1) (let l = some_row xs n in omega (arith, length_map v xs, some_row xs n))

  pub last_read : (p xs : List K) (x : K) (i : ℕ) → p ≡ xs → i ≡ length p - 1 → ¬ (poly (map v xs) ≡ zero_polynomial) → x ≡ get_or p i x → v x ≡ coefficient (map v xs) (length xs - 1)
  last_read p xs x i s e n r = rw (← s) (sym (rw e at (at_read p i x (omega (arith, ap length s, some_row xs n)) r)))
