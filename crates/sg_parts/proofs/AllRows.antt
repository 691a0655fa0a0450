-- All rows, one after another.
use Rattle.std.proofs.Common.{◌≡◌, ◌≢◌, ◌-◌, neg_ℤ, ℕ, zero, suc, ◌+◌, ◌%◌, ◌<◌, ◌≤◌, refl, sym, ap, subst, ◌∙◌, List, [], ◌∷◌, drop, get_or, length, ℤ, pos, ◌*ℤ◌, unsigned_abs, ◌↔◌, arith, nat_eq, Option, Some, None, IfSome, IfNone, IsTrue, Bool, negsuc, ◌≤ℤ◌, ◌<ℤ◌, ◌+ℤ◌, ◌⊎◌, inl, inr}
use Rattle.std.proofs.Math.Nat.{mul-mod_left}
use Rattle.std.proofs.lemmas.Int.{ints, unsigned_abs-mul}
use Rattle.sg_algebra.specs.Coefficients.{eval}
use Rattle.sg_algebra.proofs.Whole.{ℤR}
use Rattle.sg_spec.specs.Parts.{Plane}
use Rattle.sg_parts.specs.Planes.{row_size, plane_size}
use Rattle.sg_spec.specs.Parts.{leading, cauchy}
use Rattle.sg_parts.proofs.Bounds.{vanishes_near, none_leading}
use Rattle.sg_parts.proofs.Dividing.{root_divides}
use Rattle.sg_parts.specs.Planes.{VanishesAt, lowest, unless_none, LimitsZeros, IsLeastZero}

drop_next : (p : Plane) (i : ℕ) → i < length p → drop i p ≡ get_or p i [] ∷ drop (suc i) p
drop_next [] i h = absurd (omega arith)
drop_next (row ∷ p) zero h = refl
drop_next (row ∷ p) (suc i) h = drop_next p i (omega arith)

pub next : (p : Plane) (i j : ℕ) → j ≡ suc i → i < length p → drop i p ≡ get_or p i [] ∷ drop j p
next p i j e h = rw e (drop_next p i h)

pub size_row : (p : Plane) (i j : ℕ) → j ≡ suc i → i < length p → plane_size (drop i p) ≡ row_size (get_or p i []) + plane_size (drop j p)
size_row p i j e h = ap plane_size (next p i j e h)

pub row_passed : (p : Plane) (i j : ℕ) (m : ℤ) → j ≡ suc i → i < length p → eval ℤR (get_or p i []) m ≡ pos 0 → VanishesAt p m ↔ VanishesAt (drop i p) m → VanishesAt p m ↔ VanishesAt (drop j p) m
row_passed p i j m e h z k = (λ v. (subst (λ q. VanishesAt q m) (next p i j e h) (k.0 v)).1, λ v. k.1 (subst (λ q. VanishesAt q m) (sym (next p i j e h)) (z, v)))

pub row_fails : (p : Plane) (i : ℕ) (m : ℤ) → i < length p → (eval ℤR (get_or p i []) m ≡ pos 0 → ⊥) → VanishesAt p m ↔ VanishesAt (drop i p) m → VanishesAt p m → ⊥
row_fails p i m h other k v = other (subst (λ q. VanishesAt q m) (next p i (suc i) refl h) (k.0 v)).0

none_left : (p : Plane) (i : ℕ) → length p ≤ i → drop i p ≡ []
none_left [] zero h = refl
none_left [] (suc i) h = refl
none_left (row ∷ p) zero h = absurd (omega arith)
none_left (row ∷ p) (suc i) h = none_left p i (omega arith)

pub rows_passed : (p : Plane) (i : ℕ) (m : ℤ) → length p ≤ i → VanishesAt p m ↔ VanishesAt (drop i p) m → VanishesAt p m
rows_passed p i m h k = k.1 (subst (λ q. VanishesAt q m) (sym (none_left p i h)) tt)

pub no_rest : (q l m : ℤ) (low : ℕ) → unsigned_abs l ≡ low → q *ℤ m ≡ l → low % unsigned_abs m ≡ 0
no_rest q l m low e f = ap (λ n. n % unsigned_abs m) (sym e ∙ ap unsigned_abs (sym f) ∙ unsigned_abs-mul q m) ∙ mul-mod_left (unsigned_abs q) (unsigned_abs m)

pub told : (n : ℕ) → n ≡ 0 → IsTrue (nat_eq n 0)
told n e = rw e refl

pub likely : (p : Plane) (low : ℕ) (m : ℤ) (b : Bool) → LimitsZeros p low → (m ≡ pos 0 → IsTrue b) → ((q : ℤ) (l : ℤ) → unsigned_abs l ≡ low → q *ℤ m ≡ l → IsTrue b) → VanishesAt p m → IsTrue b
likely p low (pos zero) b h z d v = z refl
likely p low (pos (suc n)) b h z d v = let (l, q, size, product) = h (pos (suc n)) (λ e. absurd (omega (arith, ints, e))) v in d q l size product
likely p low (negsuc n) b h z d v = let (l, q, size, product) = h (negsuc n) (λ e. absurd (omega (arith, ints, e))) v in d q l size product

split : (m k : ℤ) → k <ℤ (m +ℤ pos 1) → (k <ℤ m) ⊎ (k ≡ m)
split m k h = grind (arith, ints)

pub none_more : (p : Plane) (first m n : ℤ) → n ≡ m +ℤ pos 1 → ((k : ℤ) → first ≤ℤ k → k <ℤ m → VanishesAt p k → ⊥) → (VanishesAt p m → ⊥) → (k : ℤ) → first ≤ℤ k → k <ℤ n → VanishesAt p k → ⊥
none_more p first m n e before here k le lt v = elim (split m k (subst (λ n. k <ℤ n) e lt)) [ inl h ↦ before k le h v | inr h ↦ here (subst (λ k. VanishesAt p k) h v) ]

-- ---- The lowest coefficient

row_next : (p : List ℤ) (i : ℕ) → i < length p → drop i p ≡ get_or p i (pos 0) ∷ drop (suc i) p
row_next [] i h = absurd (omega arith)
row_next (c ∷ p) zero h = refl
row_next (c ∷ p) (suc i) h = row_next p i (omega arith)

lowest_step : (p : List ℤ) (i j : ℕ) → j ≡ suc i → i < length p → lowest (drop i p) ≡ unless_none (get_or p i (pos 0)) (lowest (drop j p))
lowest_step p i j e h = rw e (ap lowest (row_next p i h))

pub unless_some : (c l : ℤ) → c ≢ pos 0 → unless_none c l ≡ c
unless_some (pos zero) l h = absurd (h refl)
unless_some (pos (suc n)) l h = refl
unless_some (negsuc n) l h = refl

pub lowest_found : (p : List ℤ) (i : ℕ) → 0 < i → i ≤ length p → get_or p (i - 1) (pos 0) ≢ pos 0 → lowest (drop (i - 1) p) ≡ get_or p (i - 1) (pos 0)
lowest_found p i h le ne = lowest_step p (i - 1) i (omega arith) (omega arith) ∙ unless_some (get_or p (i - 1) (pos 0)) (lowest (drop i p)) ne

pub lowest_passed : (p : List ℤ) (i : ℕ) → 0 < i → i ≤ length p → get_or p (i - 1) (pos 0) ≡ pos 0 → lowest (drop (i - 1) p) ≡ lowest (drop i p)
lowest_passed p i h le z = lowest_step p (i - 1) i (omega arith) (omega arith) ∙ ap (λ c. unless_none c (lowest (drop i p))) z

pub lowest_none : (p : List ℤ) → lowest (drop (length p) p) ≡ pos 0
lowest_none [] = refl
lowest_none (c ∷ p) = lowest_none p

-- ---- All together

row_of : (p : Plane) (i : ℕ) (m : ℤ) → i < length p → VanishesAt p m → eval ℤR (get_or p i []) m ≡ pos 0
row_of [] i m h v = absurd (omega arith)
row_of (row ∷ p) zero m h v = v.0
row_of (row ∷ p) (suc i) m h v = row_of p i m (omega arith) v.1

pub limits_zeros : (p : Plane) (i : ℕ) (low : ℕ) → i < length p → low ≡ unsigned_abs (lowest (get_or p i [])) → LimitsZeros p low
limits_zeros p i low h e m ne v =
    let (q, product) = root_divides (get_or p i []) m ne (row_of p i m h v) in
    (lowest (get_or p i []), q, sym e, product)

near_size : (m : ℤ) → unsigned_abs m < 4096 → (neg_ℤ (pos 4095) ≤ℤ m) × (m ≤ℤ pos 4095)
near_size m h = (omega (arith, ints, h), omega (arith, ints, h))

pub zero_near : (p : Plane) (m : ℤ) → leading p ≢ [] → cauchy (leading p) ≤ 4096 → VanishesAt p m → (neg_ℤ (pos 4095) ≤ℤ m) × (m ≤ℤ pos 4095)
zero_near p m some near v = near_size m (vanishes_near p m some near v)

pub some_more : {A : Type 0} (o : Option A) (P Q : A → Type 0) → ((x : A) → P x → Q x) → IfSome o P → IfSome o Q
some_more (Some x) P Q f h = f x h
some_more None P Q f h = h

pub none_again : {A : Type 0} (o : Option A) (P Q : Type 0) → (P → Q) → IfNone o P → IfNone o Q
none_again (Some x) P Q f h = h
none_again None P Q f h = f h

-- from a later first number on
module _ (p : Plane) (limit first : ℤ) (some : leading p ≢ []) (near : cauchy (leading p) ≤ 4096) (later : limit ≤ℤ first) (only : (k : ℤ) → limit ≤ℤ k → neg_ℤ (pos 4095) ≤ℤ k → first ≤ℤ k) where
  pub least_again : (m : ℤ) → IsLeastZero p first m → IsLeastZero p limit m
  least_again m l = record {
    inside = through limit first m later l.inside;
    zero = l.zero;
    least = λ k le lt v. l.least k (only k le (zero_near p k some near v).0) lt v;
  }
    where
      through : (a b c : ℤ) → a ≤ℤ b → b ≤ℤ c → a ≤ℤ c
      through a b c h k = omega (arith, ints)

  pub nowhere_again : ((m : ℤ) → first ≤ℤ m → m ≤ℤ pos 4095 → VanishesAt p m → ⊥) → (m : ℤ) → limit ≤ℤ m → VanishesAt p m → ⊥
  nowhere_again none m le v = none m (only m le (zero_near p m some near v).0) (zero_near p m some near v).1 v

pub least_nothing : (p : Plane) (limit m : ℤ) → m ≡ limit → leading p ≡ [] → IsLeastZero p limit m
least_nothing p limit m e z = record {
  inside = same limit m e;
  zero = none_leading p m z;
  least = λ k le lt v. off limit m k e le lt;
}
  where
    same : (a b : ℤ) → b ≡ a → a ≤ℤ b
    same a b e = omega (arith, ints)

    off : (a b k : ℤ) → b ≡ a → a ≤ℤ k → k <ℤ b → ⊥
    off a b k e le lt = absurd (omega (arith, ints, e, le, lt))
