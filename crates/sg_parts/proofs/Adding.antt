-- Rows that are changed in place.
--   moved-zip, moved-each, moved-next      the coefficients of a sum, of a list mapped and of a list from its second place on, moved up
--   moved_none                             those of the empty list
--   moved_cons                             the first coefficient and the others
--   entry-set, size-set                    a term is added to one coefficient
--   product_next                           the product with one factor's first coefficient taken out
--   entry-pushed, size-pushed              a zero at the end
--   entry-front                            past the last coefficient there are zeros
use Rattle.std.proofs.Common.{◌≡◌, ℕ, zero, suc, ◌+◌, ◌*◌, ◌^◌, ◌<◌, ◌≤◌, refl, sym, ap, ap₂, ◌∙◌, List, [], ◌∷◌, ◌++◌, take, drop, set, get_or, length, map, ℤ, pos, ◌+ℤ◌, ◌*ℤ◌, unsigned_abs, arith, FitsSigned}
use Rattle.std.specs.Int.{w128}
use Rattle.std.proofs.lemmas.Int.{ints, unsigned_abs-mul}
use Rattle.std.proofs.lemmas.Nat.{mul-le}
use Rattle.sg_algebra.specs.Coefficients.{zip_longest}
use Rattle.sg_algebra.proofs.Whole.{ℤR, readsℤ}
use Rattle.sg_algebra.proofs.Solver.{ring}
use Rattle.sg_parts.proofs.Quotients.{small_fits}
use Rattle.sg_parts.specs.Planes.{row_size, entry, moved, row_product}

times_zero : (c : ℤ) → c *ℤ pos 0 ≡ pos 0
times_zero c = ring ℤR (c ∷ []) (search readsℤ depth 16) refl

plus_zero : (a : ℤ) → a +ℤ pos 0 ≡ a
plus_zero a = omega (arith, ints)

zero_plus : (a : ℤ) → pos 0 +ℤ a ≡ a
zero_plus a = omega (arith, ints)

pub moved_none : (m i : ℕ) → moved m [] i ≡ pos 0
moved_none zero i = refl
moved_none (suc m) zero = refl
moved_none (suc m) (suc i) = moved_none m i

pub moved-zip : (m : ℕ) (p q : List ℤ) (i : ℕ) → moved m (zip_longest ◌+ℤ◌ p q) i ≡ moved m p i +ℤ moved m q i
moved-zip zero [] q i = sym (zero_plus (entry q i))
moved-zip zero (a ∷ p) [] i = sym (plus_zero (entry (a ∷ p) i))
moved-zip zero (a ∷ p) (b ∷ q) zero = refl
moved-zip zero (a ∷ p) (b ∷ q) (suc i) = moved-zip zero p q i
moved-zip (suc m) p q zero = refl
moved-zip (suc m) p q (suc i) = moved-zip m p q i

pub moved-each : (m : ℕ) (c : ℤ) (p : List ℤ) (i : ℕ) → moved m (map (λ y. c *ℤ y) p) i ≡ c *ℤ moved m p i
moved-each zero c [] i = sym (times_zero c)
moved-each zero c (a ∷ p) zero = refl
moved-each zero c (a ∷ p) (suc i) = moved-each zero c p i
moved-each (suc m) c p zero = sym (times_zero c)
moved-each (suc m) c p (suc i) = moved-each m c p i

pub moved-next : (m : ℕ) (p : List ℤ) (i : ℕ) → moved m (pos 0 ∷ p) i ≡ moved (suc m) p i
moved-next zero p zero = refl
moved-next zero p (suc i) = refl
moved-next (suc m) p zero = refl
moved-next (suc m) p (suc i) = moved-next m p i

pub moved_cons : (m : ℕ) (c : ℤ) (p : List ℤ) (i : ℕ) → moved m (c ∷ p) i ≡ moved m (c ∷ []) i +ℤ moved (suc m) p i
moved_cons zero c p zero = sym (plus_zero c)
moved_cons zero c p (suc i) = sym (zero_plus (entry p i))
moved_cons (suc m) c p zero = refl
moved_cons (suc m) c p (suc i) = moved_cons m c p i

-- ---- One term more

pub entry-set : (p : List ℤ) (m : ℕ) (t v : ℤ) (i : ℕ) → m < length p → v ≡ entry p m +ℤ t → entry (set p m v) i ≡ entry p i +ℤ moved m (t ∷ []) i
entry-set [] m t v i h e = absurd (omega arith)
entry-set (c ∷ p) zero t v zero h e = e
entry-set (c ∷ p) zero t v (suc i) h e = sym (plus_zero (entry p i))
entry-set (c ∷ p) (suc m) t v zero h e = sym (plus_zero c)
entry-set (c ∷ p) (suc m) t v (suc i) h e = entry-set p m t v i (omega arith) e

pub size-set : (p : List ℤ) (m : ℕ) (t v : ℤ) → m < length p → v ≡ entry p m +ℤ t → row_size (set p m v) ≤ row_size p + unsigned_abs t
size-set [] m t v h e = absurd (omega arith)
size-set (c ∷ p) zero t v h e = let s : unsigned_abs v ≤ unsigned_abs c + unsigned_abs t = rw e (most c t) in omega (arith, s)
  where
    most : (a b : ℤ) → unsigned_abs (a +ℤ b) ≤ unsigned_abs a + unsigned_abs b
    most a b = omega (arith, ints)
size-set (c ∷ p) (suc m) t v h e = let s = size-set p m t v (omega arith) e in omega (arith, s)

pub entry_size : (p : List ℤ) (i : ℕ) → unsigned_abs (entry p i) ≤ row_size p
entry_size [] i = omega arith
entry_size (c ∷ p) zero = omega arith
entry_size (c ∷ p) (suc i) = let e = entry_size p i in omega (arith, e)

-- ---- The list times c, term by term

drop_next : (p : List ℤ) (j : ℕ) → j < length p → drop j p ≡ entry p j ∷ drop (suc j) p
drop_next [] j h = absurd (omega arith)
drop_next (c ∷ p) zero h = refl
drop_next (c ∷ p) (suc j) h = drop_next p j (omega arith)

none_left : (p : List ℤ) (j : ℕ) → length p ≤ j → drop j p ≡ []
none_left [] zero h = refl
none_left [] (suc j) h = refl
none_left (c ∷ p) zero h = absurd (omega arith)
none_left (c ∷ p) (suc j) h = none_left p j (omega arith)

spread_out : (c x s m r : ℤ) → m ≡ s +ℤ r → c *ℤ m ≡ c *ℤ s +ℤ c *ℤ r
spread_out c x s m r e = ap (λ m. c *ℤ m) e ∙ ring ℤR (c ∷ s ∷ r ∷ []) (search readsℤ depth 16) refl

-- the contribution of the list from j on is that of its coefficient at j and that from the next on
pub term_next : (c : ℤ) (p : List ℤ) (m j k i : ℕ) → j < length p → k ≡ suc j → c *ℤ moved (m + j) (drop j p) i ≡ moved (m + j) ((c *ℤ entry p j) ∷ []) i +ℤ c *ℤ moved (m + k) (drop k p) i
term_next c p m j k i h e =
    ap (λ l. c *ℤ moved (m + j) l i) (drop_next p j h)
    ∙ spread_out c (entry p j) (moved (m + j) (entry p j ∷ []) i) (moved (m + j) (entry p j ∷ drop (suc j) p) i) (moved (suc (m + j)) (drop (suc j) p) i) (moved_cons (m + j) (entry p j) (drop (suc j) p) i)
    ∙ ap₂ ◌+ℤ◌ (sym (moved-each (m + j) c (entry p j ∷ []) i)) (ap₂ (λ n k. c *ℤ moved n (drop k p) i) next (sym e))
  where
    next : suc (m + j) ≡ m + k
    next = omega arith

pub term_last : (c : ℤ) (p : List ℤ) (m j i : ℕ) → length p ≤ j → c *ℤ moved m (drop j p) i ≡ pos 0
term_last c p m j i h = ap (λ l. c *ℤ moved m l i) (none_left p j h) ∙ ap (λ v. c *ℤ v) (moved_none m i) ∙ times_zero c

pub size_next : (p : List ℤ) (j k : ℕ) → j < length p → k ≡ suc j → row_size (drop j p) ≡ unsigned_abs (entry p j) + row_size (drop k p)
size_next p j k h e = rw e (ap row_size (drop_next p j h))

pub times_next : (c : ℤ) (p : List ℤ) (j k : ℕ) → j < length p → k ≡ suc j → unsigned_abs c * row_size (drop j p) ≡ unsigned_abs (c *ℤ entry p j) + unsigned_abs c * row_size (drop k p)
times_next c p j k h e =
    ap (λ n. unsigned_abs c * n) (size_next p j k h e) ∙ sums (unsigned_abs c) (unsigned_abs (entry p j)) (row_size (drop k p)) ∙ ap (λ n. n + unsigned_abs c * row_size (drop k p)) (sym (unsigned_abs-mul c (entry p j)))
  where
    sums : (a b d : ℕ) → a * (b + d) ≡ a * b + a * d
    sums a b d = grind arith

-- ---- The product, coefficient by coefficient of the left factor

pub product_next : (p q : List ℤ) (i j k : ℕ) → i < length p → j ≡ suc i → moved i (row_product (drop i p) q) k ≡ entry p i *ℤ moved i q k +ℤ moved j (row_product (drop j p) q) k
product_next p q i j k h e =
    ap (λ l. moved i (row_product l q) k) (drop_next p i h)
    ∙ moved-zip i (map (λ y. entry p i *ℤ y) q) (pos 0 ∷ row_product (drop (suc i) p) q) k
    ∙ ap₂ ◌+ℤ◌ (moved-each i (entry p i) q k) (moved-next i (row_product (drop (suc i) p) q) k ∙ ap (λ n. moved n (row_product (drop n p) q) k) (sym e))

pub product_last : (p q : List ℤ) (i k : ℕ) → length p ≤ i → moved i (row_product (drop i p) q) k ≡ pos 0
product_last p q i k h = ap (λ l. moved i (row_product l q) k) (none_left p i h) ∙ moved_none i k

pub product_size : (p q : List ℤ) (i j : ℕ) → i < length p → j ≡ suc i → row_size (drop i p) * row_size q ≡ unsigned_abs (entry p i) * row_size q + row_size (drop j p) * row_size q
product_size p q i j h e = ap (λ n. n * row_size q) (size_next p i j h e) ∙ sums (unsigned_abs (entry p i)) (row_size (drop j p)) (row_size q)
  where
    sums : (a b d : ℕ) → (a + b) * d ≡ a * d + b * d
    sums a b d = grind arith

-- ---- Zeros at the end

pub entry-pushed : (p : List ℤ) → ((i : ℕ) → entry p i ≡ pos 0) → (i : ℕ) → entry (p ++ pos 0 ∷ []) i ≡ pos 0
entry-pushed [] h zero = refl
entry-pushed [] h (suc i) = refl
entry-pushed (c ∷ p) h zero = h 0
entry-pushed (c ∷ p) h (suc i) = entry-pushed p (λ i. h (suc i)) i

pub size-pushed : (p : List ℤ) → row_size (p ++ pos 0 ∷ []) ≡ row_size p
size-pushed [] = refl
size-pushed (c ∷ p) = ap (λ n. unsigned_abs c + n) (size-pushed p)

pub entry-front : (p : List ℤ) (n : ℕ) → ((k : ℕ) → n ≤ k → entry p k ≡ pos 0) → (i : ℕ) → entry (take n p) i ≡ entry p i
entry-front [] zero z i = refl
entry-front [] (suc n) z i = refl
entry-front (c ∷ p) zero z i = sym (z i (omega arith))
entry-front (c ∷ p) (suc n) z zero = refl
entry-front (c ∷ p) (suc n) z (suc i) = entry-front p n (λ k le. z (suc k) (omega (arith, le))) i

-- ---- A step of each loop, over plain numbers

pub carry_on : (n r x m w s : ℤ) → n ≡ r +ℤ x → m ≡ x +ℤ w → r +ℤ m ≡ s → n +ℤ w ≡ s
carry_on n r x m w s e f h = omega (arith, ints)

pub none_added : (c a x : ℤ) → c ≡ pos 0 → a ≡ a +ℤ c *ℤ x
none_added c a x e = sym (ap (λ c. a +ℤ c *ℤ x) e ∙ ring ℤR (a ∷ x ∷ []) (search readsℤ depth 16) refl)

pub carry_all : (r m s : ℤ) → m ≡ pos 0 → r +ℤ m ≡ s → r ≡ s
carry_all r m s e h = omega (arith, ints)

same_read : (p : List ℤ) (m : ℕ) (d e : ℤ) → m < length p → get_or p m d ≡ get_or p m e
same_read [] m d e h = absurd (omega arith)
same_read (c ∷ p) zero d e h = refl
same_read (c ∷ p) (suc m) d e h = same_read p m d e (omega arith)

pub read_at : (p : List ℤ) (m : ℕ) (v : ℤ) → m < length p → v ≡ get_or p m v → v ≡ entry p m
read_at p m v h e = e ∙ same_read p m v (pos 0) h

-- no coefficient is greater than the sizes together
pub entry_fits : (p : List ℤ) (m n : ℕ) → row_size p + n < 2 ^ 127 → FitsSigned w128 (entry p m)
entry_fits p m n h = small_fits (entry p m) (let s = entry_size p m in omega (arith, s, h))

pub light_sum : (p : List ℤ) (m : ℕ) (t a b : ℤ) → a ≡ entry p m → b ≡ t → row_size p + unsigned_abs t < 2 ^ 127 → unsigned_abs a + unsigned_abs b < 2 ^ 127
light_sum p m t a b e f h = rw (e, f) (let s = entry_size p m in omega (arith, s, h))

pub light_product : (c : ℤ) (p : List ℤ) (j r : ℕ) (a b : ℤ) → a ≡ c → b ≡ entry p j → r + unsigned_abs c * row_size p < 2 ^ 127 → unsigned_abs a * unsigned_abs b < 2 ^ 127
light_product c p j r a b e f h =
    rw (e, f) (let s : unsigned_abs c * unsigned_abs (entry p j) ≤ unsigned_abs c * row_size p = mul-le (unsigned_abs c) (unsigned_abs (entry p j)) (unsigned_abs c) (row_size p) (omega arith) (entry_size p j) in omega (arith, s, h))

pub light_term : (c : ℤ) (p : List ℤ) (j row bound : ℕ) (t : ℤ) → j < length p → t ≡ c *ℤ entry p j → row + unsigned_abs c * row_size (drop j p) ≤ bound → bound < 2 ^ 127 → row + unsigned_abs t < 2 ^ 127
light_term c p j row bound t h e k b = rw e (let s = times_next c p j (suc j) h refl in omega (arith, s, k, b))

pub light_times : (p q : List ℤ) (i row bound : ℕ) (x : ℤ) → i < length p → x ≡ entry p i → row + row_size (drop i p) * row_size q ≤ bound → bound < 2 ^ 127 → row + unsigned_abs x * row_size q < 2 ^ 127
light_times p q i row bound x h e k b = rw e (let s = product_size p q i (suc i) h refl in omega (arith, s, k, b))

pub size_on : (c : ℤ) (p : List ℤ) (j k new row bound : ℕ) (t : ℤ) → j < length p → k ≡ suc j → t ≡ c *ℤ entry p j → new ≤ row + unsigned_abs t → row + unsigned_abs c * row_size (drop j p) ≤ bound
    → new + unsigned_abs c * row_size (drop k p) ≤ bound
size_on c p j k new row bound t h n e f g = let s = times_next c p j k h n in let a : unsigned_abs t ≡ unsigned_abs (c *ℤ entry p j) = ap unsigned_abs e in omega (arith, s, a, f, g)

pub product_on : (p q : List ℤ) (i j new row bound : ℕ) (x : ℤ) → i < length p → j ≡ suc i → x ≡ entry p i → new ≤ row + unsigned_abs x * row_size q → row + row_size (drop i p) * row_size q ≤ bound
    → new + row_size (drop j p) * row_size q ≤ bound
product_on p q i j new row bound x h n e f g = let s = product_size p q i j h n in let a : unsigned_abs x * row_size q ≡ unsigned_abs (entry p i) * row_size q = ap (λ x. unsigned_abs x * row_size q) e in omega (arith, s, a, f, g)
