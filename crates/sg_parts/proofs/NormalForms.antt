-- Polynomials in their normal form.
--   row_each, plane_each          the greatest common divisor divides each coefficient
--   row_greatest, plane_greatest  and is divided by each common divisor
--   none_content, some_content    it is 0 exactly for the zero polynomial
--   content_small, content_fits, content_divides, light_entry     sizes; a number of the size of the greatest common divisor divides each coefficient
--   row_lead_at, plane_lead_at    the last coefficient other than 0 is the leading one
--   normal_none, normal_from, normal_opposite      the zero polynomial; what is divided by the greatest common divisor, and by its opposite
--   normal_same                   the normal form of an equal polynomial
--   one_longer, more_held         a list grows by an element; what holds of each so far, and of one more, holds of all
--   unless_zero, unless_assoc     one number unless it is 0, then another
use Rattle.std.proofs.Common.{◌≡◌, ◌≢◌, ℕ, zero, suc, ◌+◌, ◌*◌, ◌^◌, ◌<◌, ◌≤◌, refl, sym, ap, ap₂, subst, ◌∙◌, ◌⊎◌, inl, inr, List, [], ◌∷◌, ◌++◌, length, get_or, ℤ, pos, negsuc, neg_ℤ, ◌-ℤ◌, ◌*ℤ◌, ◌<ℤ◌, ◌≤ℤ◌, unsigned_abs, FitsSigned, arith}
use Rattle.std.proofs.lemmas.Int.{ints, unsigned_abs-mul, fits_signed_from_abs}
use Rattle.std.proofs.lemmas.List.{length-append, get_or_push, get_or_append_left}
use Rattle.std.proofs.lemmas.Nat.Gcd.{dvd_refl, dvd-zero, dvd_trans, le_of_dvd}
use Rattle.std.proofs.Math.Nat.{mul_comm, mul-one, mul-dvd-mul_left, dvd_of_mul-dvd-mul_left, eq-one_of_dvd-one, eq-zero_of_zero-dvd}
use Rattle.std.specs.Int.{◌∣◌, w128}
use Rattle.sg_algebra.specs.Divisor.{gcd}
use Rattle.sg_algebra.proofs.Divisor.{gcd-is}
use Rattle.sg_algebra.proofs.Solver.{by}
use Rattle.sg_algebra.proofs.Whole.{ℤR, ℤD, readsℤ}
use Rattle.sg_spec.specs.Parts.{Plane}
use Rattle.sg_parts.specs.Planes.{row_size, plane_size, entry, coefficient, unless_none, SamePlane, IsLight}
use Rattle.sg_parts.proofs.Adding.{entry_size}
use Rattle.sg_parts.proofs.AllRows.{unless_some}
use Rattle.sg_parts.proofs.Planar.{row_size_in}
use Rattle.sg_parts.specs.Normal.{row_gcd, plane_gcd, row_lead, plane_lead, IsDividedBy, IsSomePlane, IsLeading, IsNormal}

-- ---- The greatest common divisor

row_before : (g : ℕ) (p : List ℤ) → row_gcd g p ∣ g
row_before g [] = dvd_refl g
row_before g (c ∷ p) = dvd_trans (row_gcd (gcd g (unsigned_abs c)) p) (row_before (gcd g (unsigned_abs c)) p) (gcd-is g (unsigned_abs c)).0

pub row_each : (g : ℕ) (p : List ℤ) (j : ℕ) → row_gcd g p ∣ unsigned_abs (entry p j)
row_each g [] j = dvd-zero g
row_each g (c ∷ p) zero = dvd_trans (row_gcd (gcd g (unsigned_abs c)) p) (row_before (gcd g (unsigned_abs c)) p) (gcd-is g (unsigned_abs c)).1
row_each g (c ∷ p) (suc j) = row_each (gcd g (unsigned_abs c)) p j

plane_before : (g : ℕ) (p : Plane) → plane_gcd g p ∣ g
plane_before g [] = dvd_refl g
plane_before g (row ∷ p) = dvd_trans (plane_gcd (row_gcd g row) p) (plane_before (row_gcd g row) p) (row_before g row)

pub plane_each : (g : ℕ) (p : Plane) (i j : ℕ) → plane_gcd g p ∣ unsigned_abs (coefficient p i j)
plane_each g [] i j = dvd-zero g
plane_each g (row ∷ p) zero j = dvd_trans (plane_gcd (row_gcd g row) p) (plane_before (row_gcd g row) p) (row_each g row j)
plane_each g (row ∷ p) (suc i) j = plane_each (row_gcd g row) p i j

pub row_greatest : (d g : ℕ) (p : List ℤ) → d ∣ g → ((j : ℕ) → d ∣ unsigned_abs (entry p j)) → d ∣ row_gcd g p
row_greatest d g [] h k = h
row_greatest d g (c ∷ p) h k = row_greatest d (gcd g (unsigned_abs c)) p ((gcd-is g (unsigned_abs c)).2 d h (k 0)) (λ j. k (suc j))

gcd_most : (a b : ℕ) → gcd a b ≤ a + b
gcd_most zero zero = subst (λ n. n ≤ 0 + 0) (sym (eq-zero_of_zero-dvd ((gcd-is 0 0).2 0 (dvd-zero 0) (dvd-zero 0)))) (omega arith)
gcd_most zero (suc b) = let h : gcd zero (suc b) ≤ suc b = le_of_dvd (omega arith) (gcd-is zero (suc b)).1 in omega (arith, h)
gcd_most (suc a) b = let h : gcd (suc a) b ≤ suc a = le_of_dvd (omega arith) (gcd-is (suc a) b).0 in omega (arith, h)

row_most : (g : ℕ) (p : List ℤ) → row_gcd g p ≤ g + row_size p
row_most g [] = omega arith
row_most g (c ∷ p) = omega (arith, row_most (gcd g (unsigned_abs c)) p, gcd_most g (unsigned_abs c))

plane_most : (g : ℕ) (p : Plane) → plane_gcd g p ≤ g + plane_size p
plane_most g [] = omega arith
plane_most g (row ∷ p) = omega (arith, plane_most (row_gcd g row) p, row_most g row)

pub content_small : (p : Plane) → IsLight p → plane_gcd 0 p < 2 ^ 127
content_small p light = omega (arith, plane_most 0 p, light)

pub content_fits : (p : Plane) → IsLight p → FitsSigned w128 (pos (plane_gcd 0 p))
content_fits p light = fits_signed_from_abs w128 (pos (plane_gcd 0 p)) (content_small p light)

pub content_divides : (p : Plane) (d : ℤ) → unsigned_abs d ≡ plane_gcd 0 p → (i j : ℕ) → unsigned_abs d ∣ unsigned_abs (coefficient p i j)
content_divides p d size i j = subst (λ n. n ∣ unsigned_abs (coefficient p i j)) (sym size) (plane_each 0 p i j)

pub light_entry : (p : Plane) (i j : ℕ) → IsLight p → unsigned_abs (coefficient p i j) < 2 ^ 127
light_entry p i j light = omega (arith, entry_size (get_or p i []) j, row_size_in p i, light)

pub plane_greatest : (d g : ℕ) (p : Plane) → d ∣ g → ((i j : ℕ) → d ∣ unsigned_abs (coefficient p i j)) → d ∣ plane_gcd g p
plane_greatest d g [] h k = h
plane_greatest d g (row ∷ p) h k = plane_greatest d (row_gcd g row) p (row_greatest d g row h (λ j. k 0 j)) (λ i j. k (suc i) j)

size_zero : (z : ℤ) → unsigned_abs z ≡ 0 → z ≡ pos 0
size_zero (pos zero) e = refl
size_zero (pos (suc n)) e = absurd (omega (arith, ints, e))
size_zero (negsuc n) e = absurd (omega (arith, ints, e))

pub none_content : (p : Plane) → plane_gcd 0 p ≡ 0 → (i j : ℕ) → coefficient p i j ≡ pos 0
none_content p e i j = size_zero (coefficient p i j) (eq-zero_of_zero-dvd (subst (λ g. g ∣ unsigned_abs (coefficient p i j)) e (plane_each 0 p i j)))

pub some_content : (p : Plane) → IsSomePlane p → plane_gcd 0 p ≢ 0
some_content p (i, j, some) e = some (none_content p e i j)

-- ---- The leading coefficient

pub unless_zero : (x : ℤ) → unless_none x (pos 0) ≡ x
unless_zero (pos zero) = refl
unless_zero (pos (suc n)) = refl
unless_zero (negsuc n) = refl

pub unless_assoc : (x y z : ℤ) → unless_none (unless_none x y) z ≡ unless_none x (unless_none y z)
unless_assoc (pos zero) y z = refl
unless_assoc (pos (suc n)) y z = refl
unless_assoc (negsuc n) y z = refl

row_lead_none : (p : List ℤ) → ((j : ℕ) → entry p j ≡ pos 0) → row_lead p ≡ pos 0
row_lead_none [] h = refl
row_lead_none (c ∷ p) h = ap₂ unless_none (row_lead_none p (λ j. h (suc j))) (h 0)

pub row_lead_at : (p : List ℤ) (j : ℕ) → entry p j ≢ pos 0 → ((l : ℕ) → j < l → entry p l ≡ pos 0) → row_lead p ≡ entry p j
row_lead_at [] j some last = absurd (some refl)
row_lead_at (c ∷ p) zero some last = ap (λ r. unless_none r c) (row_lead_none p (λ l. last (suc l) (omega arith)))
row_lead_at (c ∷ p) (suc j) some last =
    let e = row_lead_at p j some (λ l lt. last (suc l) (omega (arith, lt))) in
    ap (λ r. unless_none r c) e ∙ unless_some (entry p j) c some

plane_lead_none : (q : Plane) → ((i j : ℕ) → coefficient q i j ≡ pos 0) → plane_lead q ≡ pos 0
plane_lead_none [] h = refl
plane_lead_none (row ∷ q) h = ap₂ unless_none (plane_lead_none q (λ i. h (suc i))) (row_lead_none row (λ j. h 0 j))

pub plane_lead_at : (q : Plane) (i j : ℕ) → IsLeading q i j → plane_lead q ≡ coefficient q i j
plane_lead_at [] i j h = absurd (h.some refl)
plane_lead_at (row ∷ q) zero j h =
    ap (λ r. unless_none r (row_lead row)) (plane_lead_none q (λ k l. h.last_row (suc k) l (omega arith))) ∙ row_lead_at row j h.some h.last
plane_lead_at (row ∷ q) (suc i) j h =
    let e = plane_lead_at q i j (record { some = h.some; last_row = λ k l lt. h.last_row (suc k) l (omega (arith, lt)); last = h.last }) in
    ap (λ r. unless_none r (row_lead row)) e ∙ unless_some (coefficient q i j) (row_lead row) h.some

above_zero : (c : ℤ) → c ≢ pos 0 → pos 0 ≤ℤ c → pos 0 <ℤ c
above_zero (pos zero) some h = absurd (some refl)
above_zero (pos (suc n)) some h = omega (arith, ints)
above_zero (negsuc n) some h = absurd (omega (arith, ints, h))

-- ---- Normal forms

other_than_zero : (f : ℤ) (g : ℕ) → unsigned_abs f ≡ g → 0 < g → f ≢ pos 0
other_than_zero f g size some e = omega (arith, some, sym size ∙ ap unsigned_abs e)

pub normal_none : (p : Plane) → plane_gcd 0 p ≡ 0 → IsNormal [] p
normal_none p e = record {
  factor = pos 1;
  some = λ e. cc;
  divided = λ i j. sym (none_content p e i j);
  primitive = λ some d h. absurd (some_content p some e);
  positive = λ i j lead. absurd (lead.some refl);
}

primitive : (p q : Plane) (f : ℤ) → IsDividedBy f q p → unsigned_abs f ≡ plane_gcd 0 p → 0 < plane_gcd 0 p → (d : ℕ) → ((i j : ℕ) → d ∣ unsigned_abs (coefficient q i j)) → d ≡ 1
primitive p q f divided size some d h = eq-one_of_dvd-one (dvd_of_mul-dvd-mul_left d some (subst (λ n. g * d ∣ n) (sym (mul-one g)) (plane_greatest (g * d) 0 p (dvd-zero (g * d)) each)))
  where
    g : ℕ
    g = plane_gcd 0 p

    each : (i j : ℕ) → plane_gcd 0 p * d ∣ unsigned_abs (coefficient p i j)
    each i j =
        subst (λ n. plane_gcd 0 p * d ∣ n)
        (ap (λ n. n * unsigned_abs (coefficient q j i)) (sym size) ∙ mul_comm (unsigned_abs f) (unsigned_abs (coefficient q j i)) ∙ sym (unsigned_abs-mul (coefficient q j i) f) ∙ ap unsigned_abs (divided i j))
        (mul-dvd-mul_left d (plane_gcd 0 p) (h j i))

pub normal_from : (p q : Plane) (f : ℤ) → IsDividedBy f q p → unsigned_abs f ≡ plane_gcd 0 p → 0 < plane_gcd 0 p → pos 0 ≤ℤ plane_lead q → IsNormal q p
normal_from p q f divided size some lead = record {
  factor = f;
  some = other_than_zero f (plane_gcd 0 p) size some;
  divided = divided;
  primitive = λ any d h. primitive p q f divided size some d h;
  positive = λ i j at. above_zero (coefficient q i j) at.some (subst (λ z. pos 0 ≤ℤ z) (plane_lead_at q i j at) lead);
}

pub opposite_size : (g : ℕ) → unsigned_abs (pos 0 -ℤ pos g) ≡ g
opposite_size g = omega (arith, ints)

none_less : (f : ℤ) → pos 0 -ℤ f ≡ neg_ℤ f
none_less f = omega (arith, ints)

opposite_entry : (a b f : ℤ) → f ≢ pos 0 → a *ℤ neg_ℤ f ≡ b *ℤ f → b ≡ neg_ℤ a
opposite_entry a b f some e = ℤD.cancel_mul {c = f} {x = b} {y = neg_ℤ a} some (by ℤR (a ∷ b ∷ f ∷ []) (sym e) (search readsℤ depth 20) refl)

zero_back : (a b : ℤ) → b ≡ neg_ℤ a → b ≡ pos 0 → a ≡ pos 0
zero_back a b e z = omega (arith, ints, e, z)

zero_on : (a b : ℤ) → b ≡ neg_ℤ a → a ≡ pos 0 → b ≡ pos 0
zero_on a b e z = omega (arith, ints, e, z)

turned : (a b : ℤ) → b ≡ neg_ℤ a → b <ℤ pos 0 → pos 0 ≤ℤ a
turned a b e h = omega (arith, ints, e, h)

pub normal_opposite : (p q r : Plane) (f e : ℤ) → e ≡ pos 0 -ℤ f → IsDividedBy f q p → IsDividedBy e r p → unsigned_abs f ≡ plane_gcd 0 p → unsigned_abs e ≡ plane_gcd 0 p → 0 < plane_gcd 0 p → plane_lead q <ℤ pos 0 → IsNormal r p
normal_opposite p q r f e turn before divided size_f size some lead = record {
  factor = e;
  some = other_than_zero e (plane_gcd 0 p) size some;
  divided = divided;
  primitive = λ any d h. primitive p r e divided size some d h;
  positive = λ i j at. above_zero (coefficient r i j) at.some (turned (coefficient r i j) (coefficient q i j) (opposite i j) (subst (λ z. z <ℤ pos 0) (plane_lead_at q i j (back i j at)) lead));
}
  where
    opposite : (i j : ℕ) → coefficient q i j ≡ neg_ℤ (coefficient r i j)
    opposite i j = opposite_entry (coefficient r i j) (coefficient q i j) f (other_than_zero f (plane_gcd 0 p) size_f some) (ap (λ y. coefficient r i j *ℤ y) (sym (turn ∙ none_less f)) ∙ divided j i ∙ sym (before j i))

    back : (i j : ℕ) → IsLeading r i j → IsLeading q i j
    back i j at = record {
      some = λ z. at.some (zero_back (coefficient r i j) (coefficient q i j) (opposite i j) z);
      last_row = λ k l lt. zero_on (coefficient r k l) (coefficient q k l) (opposite k l) (at.last_row k l lt);
      last = λ l lt. zero_on (coefficient r i l) (coefficient q i l) (opposite i l) (at.last l lt);
    }

pub normal_same : (p q r s : Plane) → SamePlane p r → SamePlane s q → IsNormal q p → IsNormal s r
normal_same p q r s same_p same_s n = record {
  factor = n.factor;
  some = n.some;
  divided = λ i j. ap (λ c. c *ℤ n.factor) (same_s j i) ∙ n.divided i j ∙ same_p i j;
  primitive = λ (i, j, some) d h. n.primitive (i, j, λ z. some (sym (same_p i j) ∙ z)) d (λ i j. subst (λ c. d ∣ unsigned_abs c) (same_s i j) (h i j));
  positive = λ i j at. subst (λ c. pos 0 <ℤ c) (sym (same_s i j)) (n.positive i j (record {
    some = λ z. at.some (same_s i j ∙ z);
    last_row = λ k l lt. sym (same_s k l) ∙ at.last_row k l lt;
    last = λ l lt. sym (same_s i l) ∙ at.last l lt;
  }));
}

-- ---- Elements, one after another

split : (i n : ℕ) → i < suc n → (i < n) ⊎ (i ≡ n)
split i n h = grind arith

pub one_longer : {A : Type 0} (xs new : List A) (x : A) (n k : ℕ) → length xs ≡ n → new ≡ xs ++ x ∷ [] → k ≡ suc n → length new ≡ k
one_longer xs new x n k size e next = ap length e ∙ omega (arith, length-append xs (x ∷ []), size, next)

module _ {A : Type 0} (d : A) (P : ℕ → A → Type 0) where
  pub more_held : (xs new : List A) (x : A) (n k : ℕ) → length xs ≡ n → new ≡ xs ++ x ∷ [] → k ≡ suc n → ((i : ℕ) → i < n → P i (get_or xs i d)) → P n x → (i : ℕ) → i < k → P i (get_or new i d)
  more_held xs new x n k size e next before here i h = elim (split i n (rw (sym next) h)) [ inl lt ↦ inside lt | inr same ↦ last same ]
    where
      inside : i < n → P i (get_or new i d)
      inside lt = subst (P i) (sym (ap (λ l. get_or l i d) e ∙ get_or_append_left xs (x ∷ []) d i (rw size lt))) (before i lt)

      last : i ≡ n → P i (get_or new i d)
      last same = subst (λ i. P i (get_or new i d)) (sym same) (subst (P n) (sym (ap (λ l. get_or l n d) e ∙ get_or_push xs x d n size)) here)
