-- Expressions that agree, as values of any depth.
--   Meet letter e g        from some k on both have one value
--   meet_of_agree, agree_of_meet     over the fractions it is agreement
--   meet_of_parameter, parameter_of_meet     over the functions of the parameter it is agreement at each k for all n from a bound on
use Rattle.std.proofs.Common.{◌≡◌, ℕ, ◌+◌, ◌≤◌, ℤ, pos, negsuc, ◌≤ℤ◌, unsigned_abs, sym, subst, arith}
use Rattle.std.proofs.lemmas.Int.{ints}
use Rattle.sg_algebra.proofs.Value.{Value}
use Rattle.sg_algebra.proofs.Rational.{whole_value}
use Rattle.sg_spec.specs.Tree.{Tree}
use Rattle.sg_spec.specs.Value.{val, SameValue}
use Rattle.sg_spec.specs.Worth.{HasWorth}
use Rattle.sg_spec.specs.Telescoping.{Agree}
use Rattle.sg_spec.proofs.Values.{val-proper}
use Rattle.sg_spec.proofs.Worth.{worth_same, same_worth}
use Rattle.sg_worth_theory.proofs.Worths.{worth_number, number_worth, worth_unique}
use Rattle.sg_worth_theory.proofs.Closes.{no_letter}
use Rattle.sg_value_theory.proofs.NumberParts.{right_number}
use Rattle.sg_answers_theory.specs.Matches.{AgreeInParameter}
use Rattle.sg_answers_theory.proofs.AtParameters.{place, letter, number, At, P, AtNumbers, at_numbers, HasPast, has_function}
use Rattle.sg_answers_theory.proofs.NoRecurrences.{same_function}

pub record Meet {d : ℕ} (letter : Value d) (e g : Tree) : Type 0 where
  pub from : ℤ
  pub meet : (k : ℤ) → from ≤ℤ k → (v : Value d) × HasWorth letter e k v × HasWorth letter g k v

-- ---- Numbers

meet_numbers : (e g : Tree) (n k : ℤ) → SameValue (val e n k) (val g n k)
    → (v : Value 0) × HasWorth (whole_value 0 n) e k v × HasWorth (whole_value 0 n) g k v
meet_numbers e g n k h =
    let v = right_number (val e n k) (val g n k) h in
    (v.0, number_worth n e k v.0 (same_worth (val e n k) (val g n k) v.0 (val-proper e n k) (val-proper g n k) h v.1), number_worth n g k v.0 v.1)

same_numbers : (e g : Tree) (n k : ℤ) (v : Value 0) → HasWorth (whole_value 0 n) e k v → HasWorth (whole_value 0 n) g k v → SameValue (val e n k) (val g n k)
same_numbers e g n k v h i = worth_same (val e n k) (val g n k) v (val-proper e n k) (val-proper g n k) (worth_number n e k v h) (worth_number n g k v i)

pub meet_of_agree : (e g : Tree) → Agree e g → Meet no_letter e g
meet_of_agree e g a = record { from = a.from; meet = λ k l. meet_numbers e g (pos 0) k (a.same k l) }

pub agree_of_meet : (e g : Tree) → Meet no_letter e g → Agree e g
agree_of_meet e g m = record { from = m.from; same = λ k l. let r = m.meet k l in same_numbers e g (pos 0) k r.0 r.1 r.2 }

-- ---- Functions of the parameter

reached : (b : ℤ) (j : ℕ) → unsigned_abs b ≤ j → b ≤ℤ place j
reached b j l = grind (arith, ints, l)

module _ (e g : Tree) (k b : ℤ) (same : (n : ℤ) → b ≤ℤ n → SameValue (val e n k) (val g n k)) where
  numbers : (j : ℕ) → unsigned_abs b ≤ j → (v : Value 0) × HasWorth (number j) e k v × HasWorth (number j) g k v
  numbers j l = meet_numbers e g (place j) k (same (place j) (reached b j l))

  left_past : HasPast e k
  left_past = record { bound = unsigned_abs b; has = λ j l. let r = numbers j l in (r.0, r.1) }

  right_past : HasPast g k
  right_past = record { bound = unsigned_abs b; has = λ j l. let r = numbers j l in (r.0, r.2) }

  meet_functions : (v : Value 1) × HasWorth letter e k v × HasWorth letter g k v
  meet_functions =
      let u = has_function e k left_past in
      let v = has_function g k right_past in
      (u.0, u.1, subst (λ (x : Value 1). HasWorth letter g k x) (sym (one u.0 v.0 (at_numbers e k u.0 u.1) (at_numbers g k v.0 v.1))) v.1)
    where
      one : (u v : Value 1) → AtNumbers e k u → AtNumbers g k v → u ≡ v
      one u v a c = same_function u v (unsigned_abs b + (a.bound + c.bound)) at
        where
          first : (m n o j : ℕ) → m + (n + o) ≤ j → m ≤ j
          first m n o j l = omega (arith, l)

          second : (m n o j : ℕ) → m + (n + o) ≤ j → n ≤ j
          second m n o j l = omega (arith, l)

          third : (m n o j : ℕ) → m + (n + o) ≤ j → o ≤ j
          third m n o j l = omega (arith, l)

          at : (j : ℕ) → unsigned_abs b + (a.bound + c.bound) ≤ j → (w : Value 0) × At u j w × At v j w
          at j l =
              let r = numbers j (first (unsigned_abs b) a.bound c.bound j l) in
              let x = a.at j (second (unsigned_abs b) a.bound c.bound j l) in
              let y = c.at j (third (unsigned_abs b) a.bound c.bound j l) in
              (r.0, subst (λ (w : Value 0). At u j w) (worth_unique (number j) e k x.0 r.0 x.2 r.1) x.1, subst (λ (w : Value 0). At v j w) (worth_unique (number j) g k y.0 r.0 y.2 r.2) y.1)

pub meet_of_parameter : (e g : Tree) → AgreeInParameter e g → Meet letter e g
meet_of_parameter e g a = record { from = a.from; meet = λ k l. let r = a.same k l in meet_functions e g k r.0 r.1 }

number_place : (m : ℕ) (n : ℤ) → pos m ≤ℤ n → (j : ℕ) × (m ≤ j) × (place j ≡ n)
number_place m (pos j) l = (j, omega (arith, ints, l), omega (arith, ints))
number_place m (negsuc j) l = absurd (omega (arith, ints, l))

pub parameter_of_meet : (e g : Tree) → Meet letter e g → AgreeInParameter e g
parameter_of_meet e g m = record { from = m.from; same = λ k l. let r = m.meet k l in at k r.0 (at_numbers e k r.0 r.1) (at_numbers g k r.0 r.2) }
  where
    at : (k : ℤ) (v : Value 1) → AtNumbers e k v → AtNumbers g k v → (bound : ℤ) × ((n : ℤ) → bound ≤ℤ n → SameValue (val e n k) (val g n k))
    at k v a c = (pos (a.bound + c.bound), λ n l. go n (number_place (a.bound + c.bound) n l))
      where
        first : (m n j : ℕ) → m + n ≤ j → m ≤ j
        first m n j l = omega (arith, l)

        second : (m n j : ℕ) → m + n ≤ j → n ≤ j
        second m n j l = omega (arith, l)

        go : (n : ℤ) → (j : ℕ) × (a.bound + c.bound ≤ j) × (place j ≡ n) → SameValue (val e n k) (val g n k)
        go n r =
            let x = a.at r.0 (first a.bound c.bound r.0 r.1) in
            let y = c.at r.0 (second a.bound c.bound r.0 r.1) in
            subst (λ (z : ℤ). SameValue (val e z k) (val g z k)) r.2
            (same_numbers e g (place r.0) k x.0 x.2 (subst (λ (w : Value 0). HasWorth (number r.0) g k w) (P.has_unique v r.0 y.0 x.0 y.1 x.1) y.2))
