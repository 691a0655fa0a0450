-- None means none: from telescoping in values to formal telescoping, and what else is decided of values by elements.
--   Tele, Agree            telescoping and agreement in values, from some whole number on
--   tele_formal            an expression over the known sums that telescopes f in values gives a formal antidifference of f's element
--   none_in_values         so where there is no formal one, there is none in values
--   tele_of_formal         an expression whose element is a formal antidifference telescopes in values
--   failing                where the elements don't telescope, the equation fails beyond every point
--   agree_formal           an expression that agrees with a new sum makes what the sum grows by telescope
--   agree_same             expressions that agree have equal elements
use Rattle.std.proofs.Common.{◌≡◌, ℕ, suc, ◌+◌, ◌≤◌, refl, sym, ◌∙◌, ap, ap₂, List, [], ◌∷◌, ℤ, pos, ◌+ℤ◌, ◌-ℤ◌, ◌≤ℤ◌, unsigned_abs, Option, Some, None, Contains, subst, arith}
use Rattle.std.proofs.lemmas.Int.{ints}
use Rattle.sg_algebra.specs.Ring.{Domain, Hom}
use Rattle.sg_algebra.proofs.Solver.{by, reads}
use Rattle.sg_algebra.proofs.Value.{Value, ◌-ᵛ◌, neg_value, zero_value}
use Rattle.sg_algebra.proofs.ValueField.{ValueR, ValueD}
use Rattle.sg_algebra.proofs.Rational.{fraction_value-sub}
use Rattle.sg_spec.specs.Fraction.{Fraction}
use Rattle.sg_spec.specs.Tree.{Tree, here}
use Rattle.sg_spec.specs.Value.{val, both, SameValue}
use Rattle.sg_spec.specs.Generators.{Over}
use Rattle.sg_spec.proofs.Values.{IsProper, val-proper, product_positive}
use Rattle.sg_spec.proofs.Worth.{number_of, Worth, worth_same, same_worth}
use Rattle.sg_spec.specs.Telescoping.{difference_of, Tele, Failing, Agree}
use Rattle.sg_tower_theory.proofs.Nested.{Telescopes}
use Rattle.sg_tower_theory.proofs.Lawful.{Lawful}
use Rattle.sg_value_theory.proofs.Integral.{Integral}
use Rattle.sg_value_theory.proofs.Places.{Places}
use Rattle.sg_value_theory.proofs.First.{NonzeroAt, nonzero_at, zero_only}
use Rattle.sg_value_theory.proofs.Antidifferences.{formal, value_of}
use Rattle.sg_value_theory.proofs.NumberParts.{left_number, HasNumber, number_unique, both_parts}
use Rattle.sg_value_theory.proofs.Express.{Known, Expressed, express}

-- ---- Numbers

-- the number of a value, and 0 where there is none
abbrev number : Option Fraction → Value 0
number (Some x) = number_of x
number None = zero_value

number_worth : (u : Option Fraction) → HasNumber u → Worth u (number u)
number_worth (Some x) h = refl
number_worth None h = absurd h.1

of_worth : (u : Option Fraction) (v : Value 0) → Worth u v → number u ≡ v
of_worth (Some x) v h = h
of_worth None v h = absurd h

pub worth-difference : (u w : Option Fraction) (v t : Value 0) → IsProper u → IsProper w → Worth u v → Worth w t → Worth (both difference_of u w) (v -ᵛ t)
worth-difference (Some x) (Some y) v t p q h k = fraction_value-sub x.num y.num x.den y.den p q ∙ ap₂ ◌-ᵛ◌ h k
worth-difference (Some x) None v t p q h k = absurd k
worth-difference None w v t p q h k = absurd h

pub difference_proper : (u w : Option Fraction) → IsProper u → IsProper w → IsProper (both difference_of u w)
difference_proper (Some x) (Some y) h k = product_positive x.den y.den h k
difference_proper (Some x) None h k = tt
difference_proper None w h k = tt

-- the place of a whole number
reach : (k0 K : ℤ) (k : ℕ) → unsigned_abs (K -ℤ k0) ≤ k → K ≤ℤ (k0 +ℤ pos k)
reach k0 K k l = grind (arith, ints)

next : (k0 : ℤ) (k : ℕ) → (k0 +ℤ pos k) +ℤ pos 1 ≡ k0 +ℤ pos (suc k)
next k0 k = omega (arith, ints)

module _ (D : Domain) (σ : Hom D.R D.R) (places : Places D.R (ValueR 0) σ) (lawful : Lawful D σ) (k0 : ℤ) where
  open D use {R}
  open R use {A, ◌≈◌, ◌⊞◌, ⊟, O}
  open places use {Has, from, has_past, has_unique}

  abbrev known : Tree → A → Type 0
  known e x = Known D σ places k0 e x

  abbrev value_at : Tree → ℕ → Option Fraction
  value_at e k = val e (pos 0) (k0 +ℤ pos k)

  proper : (e : Tree) (k : ℕ) → IsProper (value_at e k)
  proper e k = val-proper e (pos 0) (k0 +ℤ pos k)

  known_worth : (e : Tree) (x : A) → known e x → (k : ℕ) (v : Value 0) → Has x k v → Worth (value_at e k) v
  known_worth e x h k v i = go (h k)
    where
      go : (w : Value 0) × Has x k w × Worth (value_at e k) w → Worth (value_at e k) v
      go w = subst (λ (z : Value 0). Worth (value_at e k) z) (has_unique x k w.0 v w.1 i) w.2

  -- telescoping at a place, as numbers
  tele_at : (e f : Tree) → Tele e f → ℕ → Type 0
  tele_at e f t k = SameValue (both difference_of (value_at e (suc k)) (value_at e k)) (value_at f k)

  at_place : (e f : Tree) (t : Tele e f) (k : ℕ) → unsigned_abs (t.from -ℤ k0) ≤ k → tele_at e f t k
  unfolding tele_at
  at_place e f t k l = subst (λ (z : ℤ). SameValue (both difference_of (val e (pos 0) z) (value_at e k)) (value_at f k)) (next k0 k) (t.steps (k0 +ℤ pos k) (reach k0 t.from k l))

  module _ (integral : Integral D σ) (ss : List Tree) (sums : (t : Tree) → Contains ss t → (h : A) × known t h) (variable : A) (variable_known : known here variable) where
    pub tele_formal : (e f : Tree) (x : A) → Over ss e → known f x → Tele e f → (g : A) × Telescopes R σ g x
    unfolding tele_at
    tele_formal e f x o h t = go (express D σ places k0 lawful ss sums variable variable_known e o b defined)
      where
        b : ℕ
        b = unsigned_abs (t.from -ℤ k0)

        E : ℕ → Value 0
        E k = number (value_at e k)

        defined : (k : ℕ) → b ≤ k → HasNumber (value_at e k)
        defined k l =
            let s = left_number (both difference_of (value_at e (suc k)) (value_at e k)) (value_at f k) (at_place e f t k l) in
            (both_parts difference_of (value_at e (suc k)) (value_at e k) s.0 s.1).1

        steps : (k : ℕ) (v : Value 0) → b ≤ k → Has x k v → E (suc k) -ᵛ E k ≡ v
        steps k v l i =
            number_unique (both difference_of (value_at e (suc k)) (value_at e k)) (E (suc k) -ᵛ E k) v
            (worth-difference (value_at e (suc k)) (value_at e k) (E (suc k)) (E k) (proper e (suc k)) (proper e k) (number_worth (value_at e (suc k)) (defined (suc k) (after b k l))) (number_worth (value_at e k) (defined k l)))
            (same_worth (both difference_of (value_at e (suc k)) (value_at e k)) (value_at f k) v (difference_proper (value_at e (suc k)) (value_at e k) (proper e (suc k)) (proper e k)) (proper f k)
            (at_place e f t k l) (known_worth f x h k v i))
          where
            after : (b k : ℕ) → b ≤ k → b ≤ suc k
            after b k l = omega arith

        go : Expressed D σ places k0 e → (g : A) × Telescopes R σ g x
        go c = formal D (ValueD 0) σ places lawful integral c.p c.q x c.q_ne E (b + c.bound)
            (λ k u w l i j. c.is k u w (E k) (second b c.bound k l) i j (number_worth (value_at e k) (defined k (first b c.bound k l))))
            (λ k v l i. steps k v (first b c.bound k l) i)
          where
            first : (m n k : ℕ) → m + n ≤ k → m ≤ k
            first m n k l = omega arith

            second : (m n k : ℕ) → m + n ≤ k → n ≤ k
            second m n k l = omega arith

    -- none means none
    pub none_in_values : (f : Tree) (x : A) → known f x → ((g : A) → ¬ Telescopes R σ g x) → (e : Tree) → Over ss e → ¬ Tele e f
    none_in_values f x h none e o t = go (tele_formal e f x o h t)
      where
        go : (g : A) × Telescopes R σ g x → ⊥
        go r = none r.0 r.1

    -- an expression that agrees with a new sum t, which grows by x: x telescopes
    pub agree_formal : (e t : Tree) (x : A) → Over ss e
        → ((k : ℕ) → (u u' v : Value 0) × Worth (value_at t k) u × Worth (value_at t (suc k)) u' × Has x k v × (u' -ᵛ u ≡ v))
        → Agree e t → (g : A) × Telescopes R σ g x
    agree_formal e t x o grows a = go (express D σ places k0 lawful ss sums variable variable_known e o b defined)
      where
        b : ℕ
        b = unsigned_abs (a.from -ℤ k0)

        E : ℕ → Value 0
        E k = number (value_at e k)

        same : (k : ℕ) → b ≤ k → SameValue (value_at e k) (value_at t k)
        same k l = a.same (k0 +ℤ pos k) (reach k0 a.from k l)

        defined : (k : ℕ) → b ≤ k → HasNumber (value_at e k)
        defined k l = left_number (value_at e k) (value_at t k) (same k l)

        value : (k : ℕ) (u : Value 0) → b ≤ k → Worth (value_at t k) u → E k ≡ u
        value k u l h = of_worth (value_at e k) u (same_worth (value_at e k) (value_at t k) u (proper e k) (proper t k) (same k l) h)

        after : (b k : ℕ) → b ≤ k → b ≤ suc k
        after b k l = omega arith

        steps : (k : ℕ) (v : Value 0) → b ≤ k → Has x k v → E (suc k) -ᵛ E k ≡ v
        steps k v l i = at (grows k)
          where
            at : (u u' w : Value 0) × Worth (value_at t k) u × Worth (value_at t (suc k)) u' × Has x k w × (u' -ᵛ u ≡ w) → E (suc k) -ᵛ E k ≡ v
            at r = ap₂ ◌-ᵛ◌ (value (suc k) r.1 (after b k l) r.4) (value k r.0 l r.3) ∙ r.6 ∙ has_unique x k r.2 v r.5 i

        go : Expressed D σ places k0 e → (g : A) × Telescopes R σ g x
        go c = formal D (ValueD 0) σ places lawful integral c.p c.q x c.q_ne E (b + c.bound)
            (λ k u w l i j. c.is k u w (E k) (second b c.bound k l) i j (number_worth (value_at e k) (defined k (first b c.bound k l))))
            (λ k v l i. steps k v (first b c.bound k l) i)
          where
            first : (m n k : ℕ) → m + n ≤ k → m ≤ k
            first m n k l = omega arith

            second : (m n k : ℕ) → m + n ≤ k → n ≤ k
            second m n k l = omega arith

  -- ---- Where both sides have elements

  -- the difference of the values at a place is the value of the difference
  difference_worth : (e : Tree) (x : A) → known e x → (k : ℕ) (u u' : Value 0) → Has x k u → Has x (suc k) u' → Worth (both difference_of (value_at e (suc k)) (value_at e k)) (u' -ᵛ u)
  difference_worth e x h k u u' i j = worth-difference (value_at e (suc k)) (value_at e k) u' u (proper e (suc k)) (proper e k) (known_worth e x h (suc k) u' j) (known_worth e x h k u i)

  pub tele_of_formal : (e f : Tree) (x y : A) → known e x → known f y → Telescopes R σ x y → Tele e f
  tele_of_formal e f x y h j t = record { from = k0; steps = λ k l. subst (λ (z : ℤ). SameValue (both difference_of (val e (pos 0) (z +ℤ pos 1)) (val e (pos 0) z)) (val f (pos 0) z)) (back k0 k l) (at (unsigned_abs (k -ℤ k0))) }
    where
      back : (k0 k : ℤ) → k0 ≤ℤ k → k0 +ℤ pos (unsigned_abs (k -ℤ k0)) ≡ k
      back k0 k l = grind (arith, ints)

      at : (k : ℕ) → SameValue (both difference_of (val e (pos 0) ((k0 +ℤ pos k) +ℤ pos 1)) (value_at e k)) (value_at f k)
      at k = rw (next k0 k) (go (h k) (h (suc k)) (j k))
        where
          go : (u : Value 0) × Has x k u × Worth (value_at e k) u → (u : Value 0) × Has x (suc k) u × Worth (value_at e (suc k)) u → (v : Value 0) × Has y k v × Worth (value_at f k) v
              → SameValue (both difference_of (value_at e (suc k)) (value_at e k)) (value_at f k)
          go u u' v = worth_same (both difference_of (value_at e (suc k)) (value_at e k)) (value_at f k) (u'.0 -ᵛ u.0)
              (difference_proper (value_at e (suc k)) (value_at e k) (proper e (suc k)) (proper e k)) (proper f k)
              (difference_worth e x h k u.0 u'.0 u.1 u'.1)
              (subst (λ (z : Value 0). Worth (value_at f k) z) (sym (value_of D (ValueD 0) σ places x y t k u.0 u'.0 v.0 u.1 u'.1 v.1)) v.2)

  -- a point from K on where the equation fails
  pub failing : (e f : Tree) (x y : A) → known e x → known f y → ¬ Telescopes R σ x y → (K : ℤ) → Failing e f K
  failing e f x y h j n K = go (nonzero_at D (ValueD 0) σ places lawful z (λ c. n (equal (σ.on x ⊞ ⊟ x) y c)) (unsigned_abs (K -ℤ k0)))
    where
      z : A
      z = (σ.on x ⊞ ⊟ x) ⊞ ⊟ y

      equal : (a b : A) → a ⊞ ⊟ b ≈ O → a ≈ b
      equal a b h = by R (a ∷ b ∷ []) h (search reads depth 12) refl

      go : NonzeroAt D (ValueD 0) σ places z (unsigned_abs (K -ℤ k0)) → Failing e f K
      go p = record { k = k0 +ℤ pos p.k; past = reach k0 K p.k p.past; fails = λ s. at (h p.k) (h (suc p.k)) (j p.k) (subst (λ (i : ℤ). SameValue (both difference_of (val e (pos 0) i) (value_at e p.k)) (value_at f p.k)) (next k0 p.k) s) }
        where
          at : (u : Value 0) × Has x p.k u × Worth (value_at e p.k) u → (u : Value 0) × Has x (suc p.k) u × Worth (value_at e (suc p.k)) u → (v : Value 0) × Has y p.k v × Worth (value_at f p.k) v
              → SameValue (both difference_of (value_at e (suc p.k)) (value_at e p.k)) (value_at f p.k) → ⊥
          at u u' v s = p.ne (has_unique z p.k p.v ((u'.0 -ᵛ u.0) -ᵛ v.0) p.has
              (places.has_add (σ.on x ⊞ ⊟ x) (⊟ y) p.k (u'.0 -ᵛ u.0) (neg_value v.0) (places.has_add (σ.on x) (⊟ x) p.k u'.0 (neg_value u.0) (places.has_shift x p.k u'.0 u'.1) (places.has_neg x p.k u.0 u.1)) (places.has_neg y p.k v.0 v.1))
              ∙ ap (λ w. w -ᵛ v.0) (number_unique (both difference_of (value_at e (suc p.k)) (value_at e p.k)) (u'.0 -ᵛ u.0) v.0
              (difference_worth e x h p.k u.0 u'.0 u.1 u'.1)
              (same_worth (both difference_of (value_at e (suc p.k)) (value_at e p.k)) (value_at f p.k) v.0 (difference_proper (value_at e (suc p.k)) (value_at e p.k) (proper e (suc p.k)) (proper e p.k)) (proper f p.k) s v.2))
              ∙ (ValueR 0).add_neg)

  -- expressions that agree have equal elements
  pub agree_same : (e g : Tree) (x y : A) → known e x → known g y → Agree e g → x ≈ y
  agree_same e g x y h j a = equal x y (zero_only D (ValueD 0) σ places lawful (x ⊞ ⊟ y) (unsigned_abs (a.from -ℤ k0)) none)
    where
      equal : (a b : A) → a ⊞ ⊟ b ≈ O → a ≈ b
      equal a b h = by R (a ∷ b ∷ []) h (search reads depth 12) refl

      none : (k : ℕ) (v : Value 0) → unsigned_abs (a.from -ℤ k0) ≤ k → Has (x ⊞ ⊟ y) k v → v ≡ zero_value
      none k v l i = at (h k) (j k)
        where
          at : (u : Value 0) × Has x k u × Worth (value_at e k) u → (w : Value 0) × Has y k w × Worth (value_at g k) w → v ≡ zero_value
          at u w = has_unique (x ⊞ ⊟ y) k v (u.0 -ᵛ w.0) i (places.has_add x (⊟ y) k u.0 (neg_value w.0) u.1 (places.has_neg y k w.0 w.1))
              ∙ ap (λ z. z -ᵛ w.0) (number_unique (value_at e k) u.0 w.0 u.2 (same_worth (value_at e k) (value_at g k) w.0 (proper e k) (proper g k) (a.same (k0 +ℤ pos k) (reach k0 a.from k l)) w.2))
              ∙ (ValueR 0).add_neg

  pub same_agree : (e g : Tree) (x y : A) → known e x → known g y → x ≈ y → (k : ℕ) → SameValue (value_at e k) (value_at g k)
  same_agree e g x y h j s k = at (h k)
    where
      at : (u : Value 0) × Has x k u × Worth (value_at e k) u → SameValue (value_at e k) (value_at g k)
      at u = worth_same (value_at e k) (value_at g k) u.0 (proper e k) (proper g k) u.2 (known_worth g y j k u.0 (places.has_same x y k u.0 u.0 s refl u.1))
