-- What a list of divisors spares.
--   IsClear n M d        the divisor is 0 at n nowhere from its limit to M
--   listed-clear         where all listed divisors are clear, so is each one from which they are listed in which the parameter stands
--   listed-somewhere     the listed divisors are divisors, where each one from which they are listed is somewhere other than 0
--   constant-value       without the parameter the value doesn't hang on it
use Rattle.std.proofs.Common.{◌≡◌, ◌≢◌, ℕ, suc, Bool, true, false, cond, refl, sym, ap, ap₂, ◌∙◌, subst, List, [], ◌∷◌, length, ◌⊎◌, inl, inr, get_or, ℤ, pos, negsuc, ◌+ℤ◌, ◌*ℤ◌, ◌≤ℤ◌, arith}
use Rattle.std.proofs.lemmas.Int.{ints, int_min_is}
use Rattle.std.specs.Int.{int_min}
use Rattle.std.proofs.lemmas.Bool.{eqb-true}
use Rattle.sg_algebra.specs.Coefficients.{Each, eval}
use Rattle.sg_algebra.proofs.Whole.{ℤR, readsℤ}
use Rattle.sg_algebra.proofs.Solver.{ring}
use Rattle.sg_spec.specs.Parts.{Plane}
use Rattle.sg_spec.specs.Generators.{same_whole}
use Rattle.sg_limits.specs.declared.divisors.Divisor.{Divisor}
use Rattle.sg_recurrence_theory.specs.Planes.{value_at, HasParameter, IsSomewhere}
use Rattle.sg_recurrence_theory.specs.Recurrences.{IsDivisor}
use Rattle.sg_recurrence_theory.specs.Listing.{is_long, has_parameter, same_row, same_plane, with_divisor, listed_after, listed}
use Rattle.sg_poly.specs.Plane.{IsTrimmed, EndsNotZero}
use Rattle.sg_limits.proofs.Elementary.{both_true, not_true}

same_number : (c d : ℤ) → same_whole c d ≡ true → c ≡ d
same_number (pos m) (pos n) h = ap pos (eqb-true m n h)
same_number (negsuc m) (negsuc n) h = ap negsuc (eqb-true m n h)
same_number (pos m) (negsuc n) h = absurd (not_true h)
same_number (negsuc m) (pos n) h = absurd (not_true h)

row_same : (p q : List ℤ) → same_row p q ≡ true → p ≡ q
row_same [] [] h = refl
row_same [] (d ∷ q) h = absurd (not_true h)
row_same (c ∷ p) [] h = absurd (not_true h)
row_same (c ∷ p) (d ∷ q) h = let (a, b) = both_true (same_whole c d) (same_row p q) h in ap₂ ◌∷◌ (same_number c d a) (row_same p q b)

pub plane_same : (p q : Plane) → same_plane p q ≡ true → p ≡ q
plane_same [] [] h = refl
plane_same [] (r ∷ q) h = absurd (not_true h)
plane_same (row ∷ p) [] h = absurd (not_true h)
plane_same (row ∷ p) (r ∷ q) h = let (a, b) = both_true (same_row row r) (same_plane p q) h in ap₂ ◌∷◌ (row_same row r a) (plane_same p q b)

-- ---- Clear divisors

module _ (n M : ℤ) where
  abbrev pub IsClear : Divisor → Type 0
  IsClear d = (k : ℤ) → d.limit ≤ℤ k → k ≤ℤ M → value_at d.poly n k ≢ pos 0

  merged-clear : (e d : Divisor) → e.poly ≡ d.poly → IsClear (record { poly = e.poly; limit = int_min e.limit d.limit }) → IsClear e × IsClear d
  merged-clear e d q h = (λ k l u. h k (omega (arith, ints, int_min_is e.limit d.limit, l)) u, λ k l u z. h k (omega (arith, ints, int_min_is e.limit d.limit, l)) u (ap (λ (p : Plane). value_at p n k) q ∙ z))

  with-clear : (known : List Divisor) (d : Divisor) → Each IsClear (with_divisor known d) → Each IsClear known × IsClear d
  with-clear [] d h = (tt, h.0)
  with-clear (e ∷ es) d h = go (with-clear es d) (same_plane e.poly d.poly) refl h
    where
      go : (Each IsClear (with_divisor es d) → Each IsClear es × IsClear d) → (b : Bool) → same_plane e.poly d.poly ≡ b
          → Each IsClear (cond b (record { poly = e.poly; limit = int_min e.limit d.limit } ∷ es) (e ∷ with_divisor es d)) → Each IsClear (e ∷ es) × IsClear d
      go again true q i = let r = merged-clear e d (plane_same e.poly d.poly q) i.0 in ((r.0, i.1), r.1)
      go again false q i = let r = again i.1 in ((i.0, r.0), r.1)

  abbrev pub IsClearAs : Divisor → Type 0
  IsClearAs d = has_parameter d.poly ≡ true → IsClear d

  after-clear : (known ds : List Divisor) → Each IsClear (listed_after known ds) → Each IsClear known × Each IsClearAs ds
  after-clear known [] h = (h, tt)
  after-clear known (d ∷ ds) h = go (has_parameter d.poly) refl (after-clear (cond (has_parameter d.poly) (with_divisor known d) known) ds h)
    where
      go : (b : Bool) → has_parameter d.poly ≡ b → Each IsClear (cond b (with_divisor known d) known) × Each IsClearAs ds
          → Each IsClear known × Each IsClearAs (d ∷ ds)
      go true q r = let c = with-clear known d r.0 in (c.0, (λ e. c.1, r.1))
      go false q r = (r.0, (λ e. absurd (not_true (sym q ∙ e)), r.1))

  pub listed-clear : (ds : List Divisor) → Each IsClear (listed ds) → Each IsClearAs ds
  listed-clear ds h = (after-clear [] ds h).1

-- ---- Divisors without the parameter

short-row : (row : List ℤ) → is_long row ≡ false → (n m : ℤ) → eval ℤR row n ≡ eval ℤR row m
short-row [] h n m = refl
short-row (c ∷ []) h n m = ring ℤR (c ∷ n ∷ m ∷ []) (search readsℤ depth 12) refl
short-row (c ∷ (d ∷ row)) h n m = absurd (not_true (sym h))

pub constant-value : (p : Plane) → has_parameter p ≡ false → (n m k : ℤ) → value_at p n k ≡ value_at p m k
constant-value [] h n m k = refl
constant-value (row ∷ p) h n m k = go (λ i. constant-value p i n m k) (is_long row) refl h
  where
    go : (has_parameter p ≡ false → value_at p n k ≡ value_at p m k) → (b : Bool) → is_long row ≡ b → cond b true (has_parameter p) ≡ false
        → value_at (row ∷ p) n k ≡ value_at (row ∷ p) m k
    go again true e i = absurd (not_true (sym i))
    go again false e i = ap₂ (λ c v. c +ℤ k *ℤ v) (short-row row e n m) (again i)

-- what is somewhere other than 0 is clear, or the parameter stands in it
pub clear-from : (n M : ℤ) (d : Divisor) → ((k : ℤ) → d.limit ≤ℤ k → IsSomewhere d.poly k) → IsClearAs n M d → IsClear n M d
clear-from n M d some told = go (has_parameter d.poly) refl
  where
    go : (b : Bool) → has_parameter d.poly ≡ b → IsClear n M d
    go true e = told e
    go false e = λ k l u z. let m = some k l in m.1 (constant-value d.poly e m.0 n k ∙ z)

-- ---- The listed divisors are divisors

parameter-row : (row : List ℤ) → is_long row ≡ true → (j : ℕ) × (length row ≡ suc (suc j))
parameter-row [] h = absurd (not_true h)
parameter-row (c ∷ []) h = absurd (not_true h)
parameter-row (c ∷ (d ∷ row)) h = (length row, refl)

pub parameter-there : (p : Plane) → ((i : ℕ) → EndsNotZero (get_or p i [])) → has_parameter p ≡ true → HasParameter p
parameter-there [] ends h = absurd (not_true h)
parameter-there (row ∷ p) ends h = go (λ i. parameter-there p (λ a. ends (suc a)) i) (is_long row) refl h
  where
    go : (has_parameter p ≡ true → HasParameter p) → (b : Bool) → is_long row ≡ b → cond b true (has_parameter p) ≡ true → HasParameter (row ∷ p)
    go again true e i = let r = parameter-row row e in (0, r.0, ends 0 (suc r.0) r.1)
    go again false e i = let r = again i in (suc r.0, r.1, r.2)

abbrev pub IsTold : Divisor → Type 0
IsTold d = IsTrimmed d.poly × ((k : ℤ) → d.limit ≤ℤ k → IsSomewhere d.poly k)

merged-divisor : (e d : Divisor) → e.poly ≡ d.poly → IsDivisor e → IsTold d → IsDivisor (record { poly = e.poly; limit = int_min e.limit d.limit })
merged-divisor e d q h i = record { has_parameter = h.has_parameter; somewhere = at }
  where
    least : (a b k : ℤ) → int_min a b ≤ℤ k → (a ≤ℤ k) ⊎ (b ≤ℤ k)
    least a b k l = grind (arith, ints, int_min_is a b)

    at : (k : ℤ) → int_min e.limit d.limit ≤ℤ k → IsSomewhere e.poly k
    at k l = elim (least e.limit d.limit k l) [ inl a ↦ h.somewhere k a | inr b ↦ subst (λ (p : Plane). IsSomewhere p k) (sym q) (i.1 k b) ]

with-divisors : (known : List Divisor) (d : Divisor) → Each IsDivisor known → has_parameter d.poly ≡ true → IsTold d → Each IsDivisor (with_divisor known d)
with-divisors [] d h t i = (record { has_parameter = parameter-there d.poly i.0.rows t; somewhere = i.1 }, tt)
with-divisors (e ∷ es) d h t i = go (with-divisors es d h.1 t i) (same_plane e.poly d.poly) refl
  where
    go : Each IsDivisor (with_divisor es d) → (b : Bool) → same_plane e.poly d.poly ≡ b
        → Each IsDivisor (cond b (record { poly = e.poly; limit = int_min e.limit d.limit } ∷ es) (e ∷ with_divisor es d))
    go again true q = (merged-divisor e d (plane_same e.poly d.poly q) h.0 i, h.1)
    go again false q = (h.0, again)

after-divisors : (known ds : List Divisor) → Each IsDivisor known → Each IsTold ds → Each IsDivisor (listed_after known ds)
after-divisors known [] h i = h
after-divisors known (d ∷ ds) h i = after-divisors (cond (has_parameter d.poly) (with_divisor known d) known) ds (go (has_parameter d.poly) refl) i.1
  where
    go : (b : Bool) → has_parameter d.poly ≡ b → Each IsDivisor (cond b (with_divisor known d) known)
    go true e = with-divisors known d h e i.0
    go false e = h

pub listed-divisors : (ds : List Divisor) → Each IsTold ds → Each IsDivisor (listed ds)
listed-divisors ds h = after-divisors [] ds tt h
