-- From a telescoping element to a closed form.
--   sum_step         a plain sum with one more term
--   total_closes     the plain sum from its start constant and what telescopes it from s on, at any depth
--   closed_form      over the fractions this is a closed form
use Rattle.std.proofs.Common.{◌≡◌, ℕ, zero, suc, ℤ, pos, negsuc, ◌+ℤ◌, ◌-ℤ◌, ◌≤ℤ◌, refl, sym, ap, ap₂, subst, List, [], ◌∷◌, arith}
use Rattle.std.proofs.lemmas.Int.{ints}
use Rattle.sg_algebra.proofs.Solver.{by, scale, reads}
use Rattle.sg_algebra.proofs.Value.{Value, ◌+ᵛ◌, ◌-ᵛ◌, neg_value, zero_value, one_value}
use Rattle.sg_algebra.proofs.ValueField.{ValueR}
use Rattle.sg_algebra.proofs.Rational.{whole_value}
use Rattle.sg_spec.specs.Tree.{Tree, sum_from}
use Rattle.sg_spec.specs.Value.{val, how_many, steps_to, SameValue, total}
use Rattle.sg_spec.specs.Generators.{sums, prods, start}
use Rattle.sg_spec.specs.Closed.{Closed, IsOverOwn}
use Rattle.sg_spec.proofs.Values.{val-proper}
use Rattle.sg_spec.proofs.Worth.{worth_same}
use Rattle.sg_spec.proofs.Totals.{from_on}
use Rattle.sg_spec.specs.Worth.{IsFolded, HasWorth}
use Rattle.sg_worth_theory.proofs.Worths.{worth_number}

module _ {d : ℕ} (letter : Value d) (f : Tree) (a : ℤ) where
  abbrev Terms : ℕ → Value d → Type 0
  Terms n v = IsFolded ◌+ᵛ◌ zero_value (HasWorth letter f) a n v

  -- the sum up to a place, by how many terms it has
  pub counted_total : (k : ℤ) (n : ℕ) (v : Value d) → how_many a k ≡ n → Terms n v → HasWorth letter (sum_from a f) k v
  counted_total k n v e h = subst (λ (m : ℕ). Terms m v) (sym e) h

  pub total_counted : (k : ℤ) (n : ℕ) (v : Value d) → how_many a k ≡ n → HasWorth letter (sum_from a f) k v → Terms n v
  total_counted k n v e h = subst (λ (m : ℕ). Terms m v) e h

  count_before : (n : ℕ) (s : ℤ) → s ≡ a +ℤ pos n → how_many a (s -ℤ pos 1) ≡ n
  count_before zero s e = let z : (s -ℤ pos 1) -ℤ a ≡ negsuc 0 = omega (arith, ints) in ap steps_to z
  count_before (suc n) s e = let z : (s -ℤ pos 1) -ℤ a ≡ pos n = omega (arith, ints) in ap steps_to z

  count_at : (n : ℕ) (k : ℤ) → k ≡ a +ℤ pos n → how_many a k ≡ suc n
  count_at n k e = let z : k -ℤ a ≡ pos n = omega (arith, ints) in ap steps_to z

  -- one more term: the value at k from that before k and the term at k
  pub sum_step : (k : ℤ) (u w : Value d) → a ≤ℤ k → HasWorth letter (sum_from a f) (k -ℤ pos 1) u → HasWorth letter f k w → HasWorth letter (sum_from a f) k (u +ᵛ w)
  sum_step k u w le h i =
      let p = from_on a k le in
      counted_total k (suc p.0) (u +ᵛ w) (count_at p.0 k p.1)
      (u, w, total_counted (k -ℤ pos 1) p.0 u (count_before p.0 k p.1) h, subst (λ (j : ℤ). HasWorth letter f j w) p.1 i, refl)

  closing : (g g' f u c : Value d) → g' ≡ g +ᵛ f → c ≡ u -ᵛ g → u +ᵛ f ≡ g' +ᵛ c
  closing g g' f u c h k = by (ValueR d) (g ∷ g' ∷ f ∷ u ∷ c ∷ []) (ap₂ ◌+ᵛ◌ (scale (ValueR d) (neg_value one_value) h) (scale (ValueR d) (neg_value one_value) k)) (search reads depth 16) refl

  next : (g g' f c v : Value d) → g' ≡ g +ᵛ f → v ≡ g +ᵛ c → v +ᵛ f ≡ g' +ᵛ c
  next g g' f c v h k = by (ValueR d) (g ∷ g' ∷ f ∷ c ∷ v ∷ []) (ap₂ ◌+ᵛ◌ (scale (ValueR d) (neg_value one_value) h) k) (search reads depth 16) refl

  pub total_closes : (s : ℤ) → a ≤ℤ s → (F G : ℕ → Value d) (u c : Value d) → HasWorth letter (sum_from a f) (s -ℤ pos 1) u → ((j : ℕ) → HasWorth letter f (s +ℤ pos j) (F j))
      → ((j : ℕ) → G (suc j) ≡ G j +ᵛ F j) → c ≡ u -ᵛ G 0 → (j : ℕ) → HasWorth letter (sum_from a f) (s +ℤ pos j) (G (suc j) +ᵛ c)
  total_closes s le F G u c before terms telescopes constant zero =
      let e : s ≡ s +ℤ pos zero = omega (arith, ints) in
      subst (λ (k : ℤ). HasWorth letter (sum_from a f) k (G 1 +ᵛ c)) e
      (subst (HasWorth letter (sum_from a f) s) (closing (G 0) (G 1) (F 0) u c (telescopes 0) constant)
      (sum_step s u (F 0) le before (subst (λ (k : ℤ). HasWorth letter f k (F 0)) (sym e) (terms 0))))
  total_closes s le F G u c before terms telescopes constant (suc j) =
      let e : s +ℤ pos j ≡ (s +ℤ pos (suc j)) -ℤ pos 1 = omega (arith, ints) in
      subst (HasWorth letter (sum_from a f) (s +ℤ pos (suc j))) (next (G (suc j)) (G (suc (suc j))) (F (suc j)) c (G (suc j) +ᵛ c) (telescopes (suc j)) refl)
      (sum_step (s +ℤ pos (suc j)) (G (suc j) +ᵛ c) (F (suc j)) (omega (arith, ints))
      (subst (λ (k : ℤ). HasWorth letter (sum_from a f) k (G (suc j) +ᵛ c)) e (total_closes s le F G u c before terms telescopes constant j)) (terms (suc j)))

abbrev pub no_letter : Value 0
no_letter = whole_value 0 (pos 0)

pub closed_form : (f : Tree) (others : List Tree) (a s : ℤ) (h : Tree) (F G : ℕ → Value 0) (u c : Value 0) → s ≡ start (f ∷ others) a → a ≤ℤ s → IsOverOwn (prods (f ∷ others)) (sums (f ∷ others)) h
    → HasWorth no_letter (sum_from a f) (s -ℤ pos 1) u → ((j : ℕ) → HasWorth no_letter f (s +ℤ pos j) (F j)) → ((j : ℕ) → G (suc j) ≡ G j +ᵛ F j) → c ≡ u -ᵛ G 0
    → ((j : ℕ) → HasWorth no_letter h (s +ℤ pos j) (G (suc j) +ᵛ c)) → Closed f others a h s
closed_form f others a s h F G u c is le over before terms telescopes constant form = record { starts = is; over = over; same = same }
  where
    at : (j : ℕ) → SameValue (val h (pos 0) (s +ℤ pos j)) (total f a (s +ℤ pos j))
    at j =
        worth_same (val h (pos 0) (s +ℤ pos j)) (total f a (s +ℤ pos j)) (G (suc j) +ᵛ c) (val-proper h (pos 0) (s +ℤ pos j)) (val-proper (sum_from a f) (pos 0) (s +ℤ pos j))
        (worth_number (pos 0) h (s +ℤ pos j) (G (suc j) +ᵛ c) (form j))
        (worth_number (pos 0) (sum_from a f) (s +ℤ pos j) (G (suc j) +ᵛ c) (total_closes no_letter f a s le F G u c before terms telescopes constant j))

    same : (m : ℤ) → s ≤ℤ m → SameValue (val h (pos 0) m) (total f a m)
    same m l = let p = from_on s m l in subst (λ (k : ℤ). SameValue (val h (pos 0) k) (total f a k)) (sym p.1) (at p.0)
