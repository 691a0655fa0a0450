-- Whether one polynomial of degree at most four telescopes another is seen at its coefficients, and at five points in a row.
--   none-zero                      what is 0 at five points in a row is 0
--   AreLacking                     what the difference of g lacks of f, as five coefficients, is 0
--   telescopes-plain               then g telescopes f at every place
--   lacking-none, none-lacking     the same as the test of the code
--   fails-plain                    where one isn't, beyond every point it fails somewhere
use Rattle.std.proofs.Common.{◌≡◌, ℕ, ℤ, pos, ◌+ℤ◌, ◌-ℤ◌, ◌*ℤ◌, neg_ℤ, ◌≤ℤ◌, Option, Some, None, [], ◌∷◌, refl, sym, ap, ap₂, subst, ◌∙◌, arith}
use Rattle.std.proofs.lemmas.Int.{ints}
use lib.IntN.{ℤ_discrete}
use Rattle.sg_algebra.proofs.Embedding.{whole_value_zero}
use Rattle.sg_algebra.proofs.Rational.{whole_value, fraction_value-sub}
use Rattle.sg_algebra.proofs.Solver.{ring, reads}
use Rattle.sg_algebra.proofs.Value.{Value, ◌-ᵛ◌}
use Rattle.sg_algebra.proofs.ValueField.{ValueR}
use Rattle.sg_algebra.proofs.Whole.{ℤR, readsℤ}
use Rattle.sg_spec.specs.Fraction.{Fraction}
use Rattle.sg_spec.specs.Polynomials.{IsPolynomial}
use Rattle.sg_spec.specs.Telescoping.{Steps, Failing, difference_of}
use Rattle.sg_spec.specs.Tree.{Tree}
use Rattle.sg_spec.specs.Value.{val, both}
use Rattle.sg_spec.proofs.Values.{IsProper, val-proper, product_positive}
use Rattle.sg_spec.proofs.Worth.{Worth, worth_same, same_worth, worth_cong}
use Rattle.sg_plain.specs.Plain.{whole_at, quartic_at, IsQuartic, IsDifference}
use Rattle.sg_plain.proofs.Wholes.{whole_value-sub, worth-whole_at}

-- ---- Five points in a row

fourth-difference : (a b c d e k : ℤ) → quartic_at a b c d e (k +ℤ pos 4) +ℤ pos 6 *ℤ quartic_at a b c d e
    (k +ℤ pos 2) +ℤ quartic_at a b c d e k -ℤ pos 4 *ℤ quartic_at a b c d e (k +ℤ pos 3) -ℤ pos 4 *ℤ quartic_at a b c d e (k +ℤ pos 1) ≡ pos 24 *ℤ e
fourth-difference a b c d e k = ring ℤR (a ∷ b ∷ c ∷ d ∷ e ∷ k ∷ []) (search readsℤ depth 40 fits 40000) refl

third-difference : (a b c d k : ℤ) → quartic_at a b c d (pos 0) (k +ℤ pos 3) +ℤ pos 3 *ℤ quartic_at a b c d (pos 0)
    (k +ℤ pos 1) -ℤ pos 3 *ℤ quartic_at a b c d (pos 0) (k +ℤ pos 2) -ℤ quartic_at a b c d (pos 0) k ≡ pos 6 *ℤ d
third-difference a b c d k = ring ℤR (a ∷ b ∷ c ∷ d ∷ k ∷ []) (search readsℤ depth 40 fits 40000) refl

second-difference : (a b c k : ℤ) → quartic_at a b c (pos 0) (pos 0) (k +ℤ pos 2) +ℤ quartic_at a b c (pos 0) (pos 0) k -ℤ pos 2 *ℤ quartic_at a b c
    (pos 0) (pos 0) (k +ℤ pos 1) ≡ pos 2 *ℤ c
second-difference a b c k = ring ℤR (a ∷ b ∷ c ∷ k ∷ []) (search readsℤ depth 40 fits 40000) refl

first-difference : (a b k : ℤ) → quartic_at a b (pos 0) (pos 0) (pos 0) (k +ℤ pos 1) -ℤ quartic_at a b (pos 0) (pos 0) (pos 0) k ≡ b
first-difference a b k = ring ℤR (a ∷ b ∷ k ∷ []) (search readsℤ depth 40 fits 40000) refl

constant : (a k : ℤ) → quartic_at a (pos 0) (pos 0) (pos 0) (pos 0) k ≡ a
constant a k = ring ℤR (a ∷ k ∷ []) (search readsℤ depth 40 fits 40000) refl

zero-24 : (u v w x y e : ℤ) → u ≡ pos 0 → v ≡ pos 0 → w ≡ pos 0 → x ≡ pos 0 → y ≡ pos 0
    → y +ℤ pos 6 *ℤ w +ℤ u -ℤ pos 4 *ℤ x -ℤ pos 4 *ℤ v ≡ pos 24 *ℤ e → e ≡ pos 0
zero-24 u v w x y e hu hv hw hx hy h = omega (arith, ints)

zero-6 : (u v w x d : ℤ) → u ≡ pos 0 → v ≡ pos 0 → w ≡ pos 0 → x ≡ pos 0 → x +ℤ pos 3 *ℤ v -ℤ pos 3 *ℤ w -ℤ u ≡ pos 6 *ℤ d → d ≡ pos 0
zero-6 u v w x d hu hv hw hx h = omega (arith, ints)

zero-2 : (u v w c : ℤ) → u ≡ pos 0 → v ≡ pos 0 → w ≡ pos 0 → w +ℤ u -ℤ pos 2 *ℤ v ≡ pos 2 *ℤ c → c ≡ pos 0
zero-2 u v w c hu hv hw h = omega (arith, ints)

zero-1 : (u v b : ℤ) → u ≡ pos 0 → v ≡ pos 0 → v -ℤ u ≡ b → b ≡ pos 0
zero-1 u v b hu hv h = omega (arith, ints)

pub record AreZero (a b c d e : ℤ) : Type 0 where
  pub constant : a ≡ pos 0
  pub linear : b ≡ pos 0
  pub square : c ≡ pos 0
  pub cube : d ≡ pos 0
  pub fourth : e ≡ pos 0

pub none-zero : (a b c d e k : ℤ) → quartic_at a b c d e k ≡ pos 0 → quartic_at a b c d e (k +ℤ pos 1) ≡ pos 0
    → quartic_at a b c d e (k +ℤ pos 2) ≡ pos 0 → quartic_at a b c d e (k +ℤ pos 3) ≡ pos 0
    → quartic_at a b c d e (k +ℤ pos 4) ≡ pos 0 → AreZero a b c d e
none-zero a b c d e k hu hv hw hx hy =
    let he : e ≡ pos 0 = zero-24 (quartic_at a b c d e k) (quartic_at a b c d e (k +ℤ pos 1)) (quartic_at a b c d e (k +ℤ pos 2))
    (quartic_at a b c d e (k +ℤ pos 3)) (quartic_at a b c d e (k +ℤ pos 4)) e hu hv hw hx hy (fourth-difference a b c d e k) in
    let at3 : (m : ℤ) → quartic_at a b c d e m ≡ pos 0 → quartic_at a b c d (pos 0) m ≡ pos 0 = λ m h. subst (λ z. quartic_at a b c d z m ≡ pos 0) he h in
    let hd : d ≡ pos 0 = zero-6 (quartic_at a b c d (pos 0) k) (quartic_at a b c d (pos 0) (k +ℤ pos 1)) (quartic_at a b c d (pos 0) (k +ℤ pos 2))
    (quartic_at a b c d (pos 0) (k +ℤ pos 3)) d (at3 k hu) (at3 (k +ℤ pos 1) hv) (at3 (k +ℤ pos 2) hw) (at3 (k +ℤ pos 3) hx)
    (third-difference a b c d k) in
    let at2 : (m : ℤ) → quartic_at a b c d e m ≡ pos 0
    → quartic_at a b c (pos 0) (pos 0) m ≡ pos 0 = λ m h. subst (λ z. quartic_at a b c z (pos 0) m ≡ pos 0) hd (at3 m h) in
    let hc : c ≡ pos 0 = zero-2 (quartic_at a b c (pos 0) (pos 0) k) (quartic_at a b c (pos 0) (pos 0) (k +ℤ pos 1)) (quartic_at a b c (pos 0)
    (pos 0) (k +ℤ pos 2)) c (at2 k hu) (at2 (k +ℤ pos 1) hv) (at2 (k +ℤ pos 2) hw) (second-difference a b c k) in
    let at1 : (m : ℤ) → quartic_at a b c d e m ≡ pos 0
    → quartic_at a b (pos 0) (pos 0) (pos 0) m ≡ pos 0 = λ m h. subst (λ z. quartic_at a b z (pos 0) (pos 0) m ≡ pos 0) hc (at2 m h) in
    let hb : b ≡ pos 0 = zero-1 (quartic_at a b (pos 0) (pos 0) (pos 0) k) (quartic_at a b (pos 0) (pos 0) (pos 0) (k +ℤ pos 1)) b (at1 k hu) (at1
    (k +ℤ pos 1) hv) (first-difference a b k) in
    let ha : a ≡ pos 0 = sym (constant a k) ∙ subst (λ z. quartic_at a z (pos 0) (pos 0) (pos 0) k ≡ pos 0) hb (at1 k hu) in
    record { constant = ha; linear = hb; square = hc; cube = hd; fourth = he }

-- ---- Steps of values

worth-difference : (u w : Option Fraction) (v t : Value 0) → IsProper u → IsProper w → Worth u v → Worth w t → Worth (both difference_of u w) (v -ᵛ t)
worth-difference (Some x) (Some y) v t p q h k = fraction_value-sub x.num y.num x.den y.den p q ∙ ap₂ ◌-ᵛ◌ h k
worth-difference (Some x) None v t p q h k = absurd k
worth-difference None w v t p q h k = absurd h

worth_one : (u : Option Fraction) (v w : Value 0) → Worth u v → Worth u w → v ≡ w
worth_one (Some x) v w h k = sym h ∙ k
worth_one None v w h k = absurd h

difference-proper : (u w : Option Fraction) → IsProper u → IsProper w → IsProper (both difference_of u w)
difference-proper (Some x) (Some y) p q = product_positive x.den y.den p q
difference-proper (Some x) None p q = tt
difference-proper None w p q = tt

-- ---- What the difference of g lacks of f

lacks : (a b c d e p q r s t k : ℤ) → (quartic_at p q r s t (k +ℤ pos 1) -ℤ quartic_at p q r s t k) -ℤ quartic_at a b c d e k
    ≡ quartic_at (q +ℤ r +ℤ s +ℤ t -ℤ a) (pos 2 *ℤ r +ℤ pos 3 *ℤ s +ℤ pos 4 *ℤ t -ℤ b) (pos 3 *ℤ s +ℤ pos 6 *ℤ t -ℤ c) (pos 4 *ℤ t -ℤ d) (neg_ℤ e) k
lacks a b c d e p q r s t k = ring ℤR (a ∷ b ∷ c ∷ d ∷ e ∷ p ∷ q ∷ r ∷ s ∷ t ∷ k ∷ []) (search readsℤ depth 60 fits 60000) refl

abbrev pub AreLacking : (a b c d e p q r s t : ℤ) → Type 0
AreLacking a b c d e p q r s t = AreZero (q +ℤ r +ℤ s +ℤ t -ℤ a) (pos 2 *ℤ r +ℤ pos 3 *ℤ s +ℤ pos 4 *ℤ t -ℤ b) (pos 3 *ℤ s +ℤ pos 6 *ℤ t -ℤ c)
    (pos 4 *ℤ t -ℤ d) (neg_ℤ e)

pub lacking-none : (a b c d e p q r s t : ℤ) → IsDifference a b c d e (p ∷ q ∷ r ∷ s ∷ t ∷ []) → AreLacking a b c d e p q r s t
lacking-none a b c d e p q r s t h = go h.constant h.linear h.square h.cube h.fourth
  where
    go : pos 0 *ℤ p +ℤ (pos 1 *ℤ q +ℤ (pos 1 *ℤ r +ℤ (pos 1 *ℤ s +ℤ (pos 1 *ℤ t +ℤ pos 0)))) ≡ a
        → pos 0 *ℤ p +ℤ (pos 0 *ℤ q +ℤ (pos 2 *ℤ r +ℤ (pos 3 *ℤ s +ℤ (pos 4 *ℤ t +ℤ pos 0)))) ≡ b
        → pos 0 *ℤ p +ℤ (pos 0 *ℤ q +ℤ (pos 0 *ℤ r +ℤ (pos 3 *ℤ s +ℤ (pos 6 *ℤ t +ℤ pos 0)))) ≡ c
        → pos 0 *ℤ p +ℤ (pos 0 *ℤ q +ℤ (pos 0 *ℤ r +ℤ (pos 0 *ℤ s +ℤ (pos 4 *ℤ t +ℤ pos 0)))) ≡ d → e ≡ pos 0 → AreLacking a b c d e p q r s t
    go ha hb hc hd he = record {
      constant = omega (arith, ints);
      linear = omega (arith, ints);
      square = omega (arith, ints);
      cube = omega
          (arith, ints);
      fourth = omega (arith, ints);
    }

pub none-lacking : (a b c d e p q r s t : ℤ) → AreLacking a b c d e p q r s t → IsDifference a b c d e (p ∷ q ∷ r ∷ s ∷ t ∷ [])
none-lacking a b c d e p q r s t h = go h.constant h.linear h.square h.cube h.fourth
  where
    go : q +ℤ r +ℤ s +ℤ t -ℤ a ≡ pos 0 → pos 2 *ℤ r +ℤ pos 3 *ℤ s +ℤ pos 4 *ℤ t -ℤ b ≡ pos 0 → pos 3 *ℤ s +ℤ pos 6 *ℤ t -ℤ c ≡ pos 0
        → pos 4 *ℤ t -ℤ d ≡ pos 0 → neg_ℤ e ≡ pos 0
        → IsDifference a b c d e (p ∷ q ∷ r ∷ s ∷ t ∷ [])
    go ha hb hc hd he = record {
      constant = omega (arith, ints);
      linear = omega (arith, ints);
      square = omega (arith, ints);
      cube = omega
          (arith, ints);
      fourth = omega (arith, ints);
    }

all-zero : (a b c d e k : ℤ) → AreZero a b c d e → quartic_at a b c d e k ≡ pos 0
all-zero a b c d e k z =
    ap₂ (λ x y. x +ℤ k *ℤ y) z.constant (ap₂ (λ x y. x +ℤ k *ℤ y) z.linear (ap₂ (λ x y. x +ℤ k *ℤ y) z.square (ap₂ (λ x y. x +ℤ k *ℤ y) z.cube z.fourth)))
    ∙ ring ℤR (k ∷ []) (search readsℤ depth 30) refl

apart : (x y : ℤ) → x -ℤ y ≡ pos 0 → x ≡ y
apart x y h = omega (arith, ints)

together : (x y : ℤ) → x ≡ y → x -ℤ y ≡ pos 0
together x y h = omega (arith, ints)

module _ (f g : Tree) (a b c d e p q r s t : ℤ) (pf : IsPolynomial f) (pg : IsPolynomial g) (hf : IsQuartic f a b c d e) (hg : IsQuartic g p q r s t) where
  abbrev Grows : ℤ → Type 0
  Grows k = whole_at g (k +ℤ pos 1) -ℤ whole_at g k ≡ whole_at f k

  lack : (k : ℤ) → (whole_at g (k +ℤ pos 1) -ℤ whole_at g k) -ℤ whole_at f k
      ≡ quartic_at (q +ℤ r +ℤ s +ℤ t -ℤ a) (pos 2 *ℤ r +ℤ pos 3 *ℤ s +ℤ pos 4 *ℤ t -ℤ b) (pos 3 *ℤ s +ℤ pos 6 *ℤ t -ℤ c) (pos 4 *ℤ t -ℤ d) (neg_ℤ e) k
  lack k = ap₂ ◌-ℤ◌ (ap₂ ◌-ℤ◌ (hg (k +ℤ pos 1)) (hg k)) (hf k) ∙ lacks a b c d e p q r s t k

  difference-worth : (k : ℤ) → Worth (both difference_of (val g (pos 0) (k +ℤ pos 1)) (val g (pos 0) k)) (whole_value 0 (whole_at g
      (k +ℤ pos 1) -ℤ whole_at g k))
  difference-worth k =
      worth_cong (both difference_of (val g (pos 0) (k +ℤ pos 1)) (val g (pos 0) k)) (whole_value 0 (whole_at g (k +ℤ pos 1)) -ᵛ whole_value 0
      (whole_at g k)) (whole_value 0 (whole_at g (k +ℤ pos 1) -ℤ whole_at g k))
      (sym (whole_value-sub (whole_at g (k +ℤ pos 1)) (whole_at g k)))
      (worth-difference (val g (pos 0) (k +ℤ pos 1)) (val g (pos 0) k) (whole_value 0 (whole_at g (k +ℤ pos 1))) (whole_value 0 (whole_at g k))
      (val-proper g (pos 0) (k +ℤ pos 1)) (val-proper g (pos 0) k)
      (worth-whole_at g (k +ℤ pos 1) pg) (worth-whole_at g k pg))

  proper : (k : ℤ) → IsProper (both difference_of (val g (pos 0) (k +ℤ pos 1)) (val g (pos 0) k))
  proper k = difference-proper (val g (pos 0) (k +ℤ pos 1)) (val g (pos 0) k) (val-proper g (pos 0) (k +ℤ pos 1)) (val-proper g (pos 0) k)

  steps : (k : ℤ) → Grows k → Steps g f k
  steps k h =
      worth_same (both difference_of (val g (pos 0) (k +ℤ pos 1)) (val g (pos 0) k)) (val f (pos 0) k) (whole_value 0 (whole_at f k)) (proper k)
      (val-proper f (pos 0) k)
      (worth_cong (both difference_of (val g (pos 0) (k +ℤ pos 1)) (val g (pos 0) k)) (whole_value 0 (whole_at g (k +ℤ pos 1) -ℤ whole_at g k))
      (whole_value 0 (whole_at f k)) (ap (whole_value 0) h) (difference-worth k))
      (worth-whole_at f k pf)

  grows : (k : ℤ) → Steps g f k → Grows k
  grows k h =
      let w = same_worth (both difference_of (val g (pos 0) (k +ℤ pos 1)) (val g (pos 0) k)) (val f (pos 0) k) (whole_value 0 (whole_at f k))
      (proper k) (val-proper f (pos 0) k) h (worth-whole_at f k pf) in
      let e = worth_one (both difference_of (val g (pos 0) (k +ℤ pos 1)) (val g (pos 0) k)) (whole_value 0 (whole_at g
      (k +ℤ pos 1) -ℤ whole_at g k)) (whole_value 0 (whole_at f k)) (difference-worth k) w in
      apart (whole_at g (k +ℤ pos 1) -ℤ whole_at g k) (whole_at f k)
      (whole_value_zero 0 ((whole_at g (k +ℤ pos 1) -ℤ whole_at g k) -ℤ whole_at f k)
      (whole_value-sub (whole_at g (k +ℤ pos 1) -ℤ whole_at g k) (whole_at f k) ∙ ap (λ v. v -ᵛ whole_value 0 (whole_at f k)) e
      ∙ ring (ValueR 0) (whole_value 0 (whole_at f k) ∷ []) (search reads depth 16) refl))

  pub telescopes-plain : AreLacking a b c d e p q r s t → (k : ℤ) → Steps g f k
  telescopes-plain z k = steps k (apart (whole_at g (k +ℤ pos 1) -ℤ whole_at g k) (whole_at f k)
      (lack k ∙ all-zero (q +ℤ r +ℤ s +ℤ t -ℤ a) (pos 2 *ℤ r +ℤ pos 3 *ℤ s +ℤ pos 4 *ℤ t -ℤ b) (pos 3 *ℤ s +ℤ pos 6 *ℤ t -ℤ c) (pos 4 *ℤ t -ℤ d) (neg_ℤ e) k z))

  zero-at : (k : ℤ) → Grows k → quartic_at (q +ℤ r +ℤ s +ℤ t -ℤ a) (pos 2 *ℤ r +ℤ pos 3 *ℤ s +ℤ pos 4 *ℤ t -ℤ b) (pos 3 *ℤ s +ℤ pos 6 *ℤ t -ℤ c)
      (pos 4 *ℤ t -ℤ d) (neg_ℤ e) k ≡ pos 0
  zero-at k h = sym (lack k) ∙ together (whole_at g (k +ℤ pos 1) -ℤ whole_at g k) (whole_at f k) h

  at : (K : ℤ) (j : ℕ) → K ≤ℤ (K +ℤ pos j)
  at K j = omega (arith, ints)

  fails-at : (K : ℤ) (j : ℕ) → ¬ Grows (K +ℤ pos j) → Failing g f K
  fails-at K j n = record { k = K +ℤ pos j; past = at K j; fails = λ h. n (grows (K +ℤ pos j) h) }

  tried : (K : ℤ) (j : ℕ) → (Grows (K +ℤ pos j) → Failing g f K) → Failing g f K
  tried K j next = go (ℤ_discrete (whole_at g ((K +ℤ pos j) +ℤ pos 1) -ℤ whole_at g (K +ℤ pos j)) (whole_at f (K +ℤ pos j)))
    where
      go : Dec (Grows (K +ℤ pos j)) → Failing g f K
      go (yes h) = next h
      go (no n) = fails-at K j n

  none : (K : ℤ) → K +ℤ pos 0 ≡ K
  none K = omega (arith, ints)

  pub fails-plain : ¬ AreLacking a b c d e p q r s t → (K : ℤ) → Failing g f K
  fails-plain n K =
      tried K 0 (λ h0. tried K 1 (λ h1. tried K 2 (λ h2. tried K 3 (λ h3. tried K 4 (λ h4.
      absurd (n (none-zero (q +ℤ r +ℤ s +ℤ t -ℤ a) (pos 2 *ℤ r +ℤ pos 3 *ℤ s +ℤ pos 4 *ℤ t -ℤ b) (pos 3 *ℤ s +ℤ pos 6 *ℤ t -ℤ c) (pos 4 *ℤ t -ℤ d) (neg_ℤ e) K
      (zero-at K (subst Grows (none K) h0)) (zero-at (K +ℤ pos 1) h1) (zero-at (K +ℤ pos 2) h2) (zero-at (K +ℤ pos 3) h3) (zero-at (K +ℤ pos 4) h4))))))))
