-- Lists of exponents, one place further.
--   zip-more, map-more        sums and images of front parts
--   unit_at, unit_off         the exponents of one product alone
--   unit-length               as many as there are products
use Rattle.std.proofs.Common.{◌≡◌, ℕ, zero, suc, ◌+◌, ◌<◌, ◌≤◌, refl, sym, ap, ap₂, ◌∙◌, List, [], ◌∷◌, ◌++◌, length, map, take, get_or, ℤ, pos, neg_ℤ, ◌+ℤ◌, ◌-ℤ◌, arith}
use Rattle.std.proofs.lemmas.Int.{ints}
use Rattle.std.proofs.lemmas.List.{take_all, take_more}
use Rattle.sg_algebra.specs.Coefficients.{zip_longest}
use Rattle.sg_laurent.specs.Exponents.{unit_exponents}

zip-next : (a b : List ℤ) (i : ℕ) (d e : ℤ) → i < length a → i < length b → zip_longest ◌+ℤ◌ (take (suc i) a) (take (suc i) b) ≡ zip_longest ◌+ℤ◌ (take i a) (take i b) ++ (get_or a i d +ℤ get_or b i e) ∷ []
zip-next [] b i d e l k = absurd (omega arith)
zip-next (x ∷ a) [] i d e l k = absurd (omega arith)
zip-next (x ∷ a) (y ∷ b) zero d e l k = refl
zip-next (x ∷ a) (y ∷ b) (suc i) d e l k = ap (λ r. (x +ℤ y) ∷ r) (zip-next a b i d e (omega arith) (omega arith))

pub zip-more : (a b : List ℤ) (i : ℕ) (d e : ℤ) → i < length a → length a ≡ length b → zip_longest ◌+ℤ◌ (take (i + 1) a) (take (i + 1) b) ≡ zip_longest ◌+ℤ◌ (take i a) (take i b) ++ (get_or a i d +ℤ get_or b i e) ∷ []
zip-more a b i d e l k = let q : i + 1 ≡ suc i = omega arith in rw q (zip-next a b i d e l (omega (arith, k)))

pub zip-length : (a b : List ℤ) → length a ≡ length b → length (zip_longest ◌+ℤ◌ a b) ≡ length a
zip-length [] [] e = refl
zip-length [] (y ∷ b) e = absurd (omega (arith, e))
zip-length (x ∷ a) [] e = absurd (omega (arith, e))
zip-length (x ∷ a) (y ∷ b) e = ap suc (zip-length a b (omega (arith, e)))

map-next : (f : ℤ → ℤ) (a : List ℤ) (i : ℕ) (d : ℤ) → i < length a → map f (take (suc i) a) ≡ map f (take i a) ++ f (get_or a i d) ∷ []
map-next f [] i d l = absurd (omega arith)
map-next f (x ∷ a) zero d l = refl
map-next f (x ∷ a) (suc i) d l = ap (λ r. f x ∷ r) (map-next f a i d (omega arith))

pub map-more : (f : ℤ → ℤ) (a : List ℤ) (i : ℕ) (d : ℤ) → i < length a → map f (take (i + 1) a) ≡ map f (take i a) ++ f (get_or a i d) ∷ []
map-more f a i d l = let q : i + 1 ≡ suc i = omega arith in rw q (map-next f a i d l)

pub none_less : (e : ℤ) → pos 0 -ℤ e ≡ neg_ℤ e
none_less e = omega (arith, ints)

zeros-more : (j : ℕ) → unit_exponents (suc j) (suc j) ≡ unit_exponents j j ++ pos 0 ∷ []
zeros-more zero = refl
zeros-more (suc j) = ap (λ r. pos 0 ∷ r) (zeros-more j)

pub unit_off : (j i : ℕ) → ¬ (i ≡ j) → unit_exponents (suc j) i ≡ unit_exponents j i ++ pos 0 ∷ []
unit_off zero zero h = absurd (h refl)
unit_off zero (suc i) h = refl
unit_off (suc j) zero h = ap (λ r. pos 1 ∷ r) (zeros-more j)
unit_off (suc j) (suc i) h = ap (λ r. pos 0 ∷ r) (unit_off j i (λ e. h (ap suc e)))

pub unit_at : (j i : ℕ) → i ≡ j → unit_exponents (suc j) i ≡ unit_exponents j i ++ pos 1 ∷ []
unit_at zero zero h = refl
unit_at zero (suc i) h = absurd (omega (arith, h))
unit_at (suc j) zero h = absurd (omega (arith, h))
unit_at (suc j) (suc i) h = ap (λ r. pos 0 ∷ r) (unit_at j i (omega (arith, h)))

pub unit-length : (n i : ℕ) → length (unit_exponents n i) ≡ n
unit-length zero i = refl
unit-length (suc n) zero = ap suc (unit-length n n)
unit-length (suc n) (suc i) = ap suc (unit-length n i)

pub unit_at_more : (j i : ℕ) (row new : List ℤ) → row ≡ unit_exponents j i → i ≡ j → new ≡ row ++ pos 1 ∷ [] → new ≡ unit_exponents (j + 1) i
unit_at_more j i row new h e n = let q : j + 1 ≡ suc j = omega arith in rw (q, n, h) (sym (unit_at j i e))

pub unit_off_more : (j i : ℕ) (row new : List ℤ) → row ≡ unit_exponents j i → ¬ (i ≡ j) → new ≡ row ++ pos 0 ∷ [] → new ≡ unit_exponents (j + 1) i
unit_off_more j i row new h e n = let q : j + 1 ≡ suc j = omega arith in rw (q, n, h) (sym (unit_off j i e))

-- ---- Exponents that are all 0

zero_at : (n i : ℕ) → get_or (unit_exponents n n) i (pos 0) ≡ pos 0
zero_at zero i = refl
zero_at (suc n) zero = refl
zero_at (suc n) (suc i) = zero_at n i

pub zeros_at : (es : List ℤ) (n i : ℕ) → es ≡ unit_exponents n n → get_or es i (pos 0) ≡ pos 0
zeros_at es n i e = rw e (zero_at n i)

pub zeros_next : (es : List ℤ) (i : ℕ) → i < length es → take i es ≡ unit_exponents i i → get_or es i (pos 0) ≡ pos 0 → take (i + 1) es ≡ unit_exponents (i + 1) (i + 1)
zeros_next es i l h z = let q : i + 1 ≡ suc i = omega arith in take_more es i (pos 0) l ∙ ap₂ (λ r x. r ++ x ∷ []) h z ∙ sym (zeros-more i) ∙ ap (λ j. unit_exponents j j) (sym q)

pub zeros_all : (es : List ℤ) (i : ℕ) → i ≤ length es → length es ≤ i → take i es ≡ unit_exponents i i → es ≡ unit_exponents (length es) (length es)
zeros_all es i l k h = let q : i ≡ length es = omega arith in sym (take_all i es k) ∙ h ∙ ap (λ j. unit_exponents j j) q
