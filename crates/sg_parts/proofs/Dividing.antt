-- Whether a whole number is a root, by exact divisions from the lowest coefficient on.
--   root_divides         a root other than 0 divides it
--   eval_next            the value of the coefficients from i on, by Horner's rule
--   carried_on, stuck    one division by m: there is a quotient, or none
--   small_sum, small_quotient     what is carried stays below the sizes of the coefficients that were read
use Rattle.std.proofs.Common.{◌≡◌, ◌≢◌, ℕ, zero, suc, ◌+◌, ◌*◌, ◌≤◌, ◌<◌, refl, sym, ap, ◌∙◌, List, [], ◌∷◌, drop, get_or, length, ℤ, pos, negsuc, neg_ℤ, ◌+ℤ◌, ◌*ℤ◌, unsigned_abs, ◌↔◌, arith}
use Rattle.std.proofs.lemmas.Int.{ints, unsigned_abs-mul}
use Rattle.std.proofs.lemmas.Nat.{mul-le}
use Rattle.sg_algebra.specs.Coefficients.{eval}
use Rattle.sg_algebra.proofs.Whole.{ℤR, readsℤ, mul_zeroℤ}
use Rattle.sg_algebra.proofs.Solver.{ring, by}
use Rattle.sg_parts.specs.Planes.{row_size, lowest}

opposite : (c k v : ℤ) → c +ℤ k *ℤ v ≡ pos 0 → neg_ℤ v *ℤ k ≡ c
opposite c k v z = by ℤR (c ∷ k ∷ v ∷ []) (ℤR.neg_cong z) (search readsℤ depth 20) refl

below : (k v : ℤ) → pos 0 +ℤ k *ℤ v ≡ pos 0 → k *ℤ v ≡ pos 0
below k v z = by ℤR (k ∷ v ∷ []) z (search readsℤ depth 20) refl

pub root_divides : (p : List ℤ) (k : ℤ) → k ≢ pos 0 → eval ℤR p k ≡ pos 0 → (q : ℤ) × (q *ℤ k ≡ lowest p)
root_divides [] k ne z = (pos 0, ring ℤR (k ∷ []) (search readsℤ depth 16) refl)
root_divides (pos zero ∷ p) k ne z = root_divides p k ne (mul_zeroℤ k (eval ℤR p k) ne (below k (eval ℤR p k) z))
root_divides (pos (suc n) ∷ p) k ne z = (neg_ℤ (eval ℤR p k), opposite (pos (suc n)) k (eval ℤR p k) z)
root_divides (negsuc n ∷ p) k ne z = (neg_ℤ (eval ℤR p k), opposite (negsuc n) k (eval ℤR p k) z)

eval_drop : (c : List ℤ) (i : ℕ) (m : ℤ) → i < length c → eval ℤR (drop i c) m ≡ get_or c i (pos 0) +ℤ m *ℤ eval ℤR (drop (suc i) c) m
eval_drop [] i m h = absurd (omega arith)
eval_drop (x ∷ c) zero m h = refl
eval_drop (x ∷ c) (suc i) m h = eval_drop c i m (omega arith)

pub eval_next : (c : List ℤ) (i j : ℕ) (m : ℤ) → j ≡ suc i → i < length c → eval ℤR (drop i c) m ≡ get_or c i (pos 0) +ℤ m *ℤ eval ℤR (drop j c) m
eval_next c i j m e h = rw e (eval_drop c i m h)

size_drop : (c : List ℤ) (i : ℕ) → i < length c → row_size (drop i c) ≡ unsigned_abs (get_or c i (pos 0)) + row_size (drop (suc i) c)
size_drop [] i h = absurd (omega arith)
size_drop (x ∷ c) zero h = refl
size_drop (x ∷ c) (suc i) h = size_drop c i (omega arith)

pub size_next : (c : List ℤ) (i j : ℕ) → j ≡ suc i → i < length c → row_size (drop i c) ≡ unsigned_abs (get_or c i (pos 0)) + row_size (drop j c)
size_next c i j e h = rw e (size_drop c i h)

joined : (a x s q m v : ℤ) → s ≡ a +ℤ x → q *ℤ m ≡ s → a +ℤ (x +ℤ m *ℤ v) ≡ m *ℤ (q +ℤ v)
joined a x s q m v e f = by ℤR (a ∷ x ∷ s ∷ q ∷ m ∷ v ∷ []) (ℤR.add_cong (ℤR.symm e) (ℤR.symm f)) (search readsℤ depth 20) refl

past : (a x s m v : ℤ) → s ≡ a +ℤ x → a +ℤ (x +ℤ m *ℤ v) ≡ pos 0 → neg_ℤ v *ℤ m ≡ s
past a x s m v e z = by ℤR (a ∷ x ∷ s ∷ m ∷ v ∷ []) (ℤR.add_cong (ℤR.symm e) (ℤR.neg_cong z)) (search readsℤ depth 20) refl

times_zero : (m : ℤ) → m *ℤ pos 0 ≡ pos 0
times_zero m = ring ℤR (m ∷ []) (search readsℤ depth 16) refl

module _ (c : List ℤ) (i j : ℕ) (m a s : ℤ) (next : j ≡ suc i) (inside : i < length c) (e : s ≡ a +ℤ get_or c i (pos 0)) (k : (eval ℤR c m ≡ pos 0) ↔ (a +ℤ eval ℤR (drop i c) m ≡ pos 0)) where
  pub carried_on : (q : ℤ) → m ≢ pos 0 → q *ℤ m ≡ s → (eval ℤR c m ≡ pos 0) ↔ (q +ℤ eval ℤR (drop j c) m ≡ pos 0)
  carried_on q ne f =
      let x = get_or c i (pos 0) in
      let v = eval ℤR (drop j c) m in
      let same : a +ℤ eval ℤR (drop i c) m ≡ m *ℤ (q +ℤ v) = ap (λ w. a +ℤ w) (eval_next c i j m next inside) ∙ joined a x s q m v e f in
      (λ z. mul_zeroℤ m (q +ℤ v) ne (sym same ∙ k.0 z), λ z. k.1 (same ∙ ap (λ w. m *ℤ w) z ∙ times_zero m))

  pub stuck : ((q : ℤ) → q *ℤ m ≢ s) → eval ℤR c m ≢ pos 0
  stuck none z =
      let x = get_or c i (pos 0) in
      let v = eval ℤR (drop j c) m in
      none (neg_ℤ v) (past a x s m v e (sym (ap (λ w. a +ℤ w) (eval_next c i j m next inside)) ∙ k.0 z))

-- ---- Sizes

some_size : (m : ℤ) → m ≢ pos 0 → 1 ≤ unsigned_abs m
some_size (pos zero) h = absurd (h refl)
some_size (pos (suc n)) h = omega (arith, ints)
some_size (negsuc n) h = omega (arith, ints)

pub small_quotient : (q m s : ℤ) → m ≢ pos 0 → q *ℤ m ≡ s → unsigned_abs q ≤ unsigned_abs s
small_quotient q m s ne e =
    let size = unsigned_abs-mul q m in
    let same : unsigned_abs (q *ℤ m) ≡ unsigned_abs s = ap unsigned_abs e in
    let product : unsigned_abs q * 1 ≤ unsigned_abs q * unsigned_abs m = mul-le (unsigned_abs q) 1 (unsigned_abs q) (unsigned_abs m) (omega arith) (some_size m ne) in
    omega (arith, size, same, product)

pub small_sum : (a x : ℤ) → unsigned_abs (a +ℤ x) ≤ unsigned_abs a + unsigned_abs x
small_sum a x = omega (arith, ints)
