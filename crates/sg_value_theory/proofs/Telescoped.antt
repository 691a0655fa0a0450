-- From an element that telescopes another to a closed form.
--   Moves              an element that has a value one place further has it, shifted, here
--   step               the values of an element that telescopes
--   closed_by          where g telescopes an element with the values of f, and the tree h has the values of g shifted and a constant, h is a closed form of the sum of f
use Rattle.std.proofs.Common.{◌≡◌, ℕ, zero, suc, ℤ, pos, ◌+ℤ◌, ◌-ℤ◌, ◌≤ℤ◌, refl, sym, ap, ◌∙◌, subst, List, [], ◌∷◌}
use Rattle.sg_algebra.specs.Ring.{Ring}
use Rattle.sg_algebra.proofs.Solver.{by, reads}
use Rattle.sg_algebra.proofs.Value.{Value, ◌+ᵛ◌, ◌-ᵛ◌, neg_value}
use Rattle.sg_algebra.proofs.ValueField.{ValueR}
use Rattle.sg_spec.specs.Tree.{Tree, sum_from}
use Rattle.sg_spec.specs.Generators.{sums, prods, start}
use Rattle.sg_spec.specs.Closed.{Closed, IsOverOwn}
use Rattle.sg_spec.specs.Worth.{HasWorth}
use Rattle.sg_value_theory.proofs.Evaluation.{Evaluation}
use Rattle.sg_spec.specs.Value.{val, SameValue, total}
use Rattle.sg_spec.proofs.Values.{val-proper}
use Rattle.sg_spec.proofs.Worth.{worth_same}
use Rattle.sg_spec.proofs.Totals.{from_on}
use Rattle.sg_worth_theory.proofs.Worths.{worth_number}
use Rattle.sg_worth_theory.proofs.Closes.{no_letter, total_closes}

module _ (E : Ring) (shift : E.A → E.A) {d : ℕ} (at : ℕ → Evaluation E d) where
  open E use {A, ◌≈◌, ◌⊞◌, ⊟}

  abbrev pub Moves : Type 0
  Moves = (j : ℕ) (x : A) (v : Value d) → (at (suc j)).Has x v → (at j).Has (shift x) v

  abbrev pub Regular : A → Type 0
  Regular x = (j : ℕ) → (v : Value d) × (at j).Has x v

  pub step : Moves → (g f : A) → shift g ⊞ ⊟ g ≈ f → (j : ℕ) (v w u : Value d) → (at j).Has g v → (at (suc j)).Has g w → (at j).Has f u → w ≡ v +ᵛ u
  step moves g f telescopes j v w u hv hw hu =
      joined v w u
      ((at j).unique f (w +ᵛ neg_value v) u ((at j).same (shift g ⊞ ⊟ g) f (w +ᵛ neg_value v) telescopes ((at j).add_has (shift g) (⊟ g) w (neg_value v) (moves j g w hw) ((at j).neg_has g v hv))) hu)
    where
      joined : (v w u : Value d) → w +ᵛ neg_value v ≡ u → w ≡ v +ᵛ u
      joined v w u h = by (ValueR d) (v ∷ w ∷ u ∷ []) h (search reads depth 16) refl

  -- the evaluation j is at the place s + j
  module _ (letter : Value d) (f : Tree) (a s : ℤ) (le : a ≤ℤ s) (moves : Moves) (x g : A) (u c v₀ : Value d) (telescopes : shift g ⊞ ⊟ g ≈ x)
      (terms : (j : ℕ) → (v : Value d) × HasWorth letter f (s +ℤ pos j) v × (at j).Has x v) (regular : Regular g)
      (before : HasWorth letter (sum_from a f) (s -ℤ pos 1) u) (first : (at 0).Has g v₀) (constant : c ≡ u -ᵛ v₀) where
    F : ℕ → Value d
    F j = (terms j).0

    G : ℕ → Value d
    G j = (regular j).0

    f-has : (j : ℕ) → HasWorth letter f (s +ℤ pos j) (F j)
    unfolding F
    f-has j = (terms j).1

    x-has : (j : ℕ) → (at j).Has x (F j)
    unfolding F
    x-has j = (terms j).2

    g-has : (j : ℕ) → (at j).Has g (G j)
    unfolding G
    g-has j = (regular j).1

    steps : (j : ℕ) → G (suc j) ≡ G j +ᵛ F j
    steps j = step moves g x telescopes j (G j) (G (suc j)) (F j) (g-has j) (g-has (suc j)) (x-has j)

    -- at any depth: the plain sum is the value of the shifted element and the constant
    pub total_by : (j : ℕ) → (v : Value d) × (at j).Has (shift g) v × HasWorth letter (sum_from a f) (s +ℤ pos j) (v +ᵛ c)
    total_by j = (
      G (suc j),
      moves j g (G (suc j)) (g-has (suc j)),
      total_closes letter f a s le F G u c before f-has steps (constant ∙ ap (λ v. u -ᵛ v) ((at 0).unique g v₀ (G 0) first (g-has 0))) j,
    )

module _ (E : Ring) (shift : E.A → E.A) (at : ℕ → Evaluation E 0) where
  -- the tree h has, from s on, the value of the shifted element and the constant
  pub closed_by : (f : Tree) (others : List Tree) (a s : ℤ) (h : Tree) (x g : E.A) (u c v₀ : Value 0) → s ≡ start (f ∷ others) a → a ≤ℤ s → IsOverOwn (prods (f ∷ others)) (sums (f ∷ others)) h
      → Moves E shift at → E.◌≈◌ (E.◌⊞◌ (shift g) (E.⊟ g)) x → ((j : ℕ) → (v : Value 0) × HasWorth no_letter f (s +ℤ pos j) v × (at j).Has x v) → Regular E shift at g
      → HasWorth no_letter (sum_from a f) (s -ℤ pos 1) u → (at 0).Has g v₀ → c ≡ u -ᵛ v₀ → ((j : ℕ) (v : Value 0) → (at j).Has (shift g) v → HasWorth no_letter h (s +ℤ pos j) (v +ᵛ c)) → Closed f others a h s
  closed_by f others a s h x g u c v₀ is le over moves telescopes terms regular before first constant form =
      record { starts = is; over = over; same = same }
    where
      at_place : (j : ℕ) → SameValue (val h (pos 0) (s +ℤ pos j)) (total f a (s +ℤ pos j))
      at_place j =
          let t = total_by E shift at no_letter f a s le moves x g u c v₀ telescopes terms regular before first constant j in
          worth_same (val h (pos 0) (s +ℤ pos j)) (total f a (s +ℤ pos j)) (t.0 +ᵛ c) (val-proper h (pos 0) (s +ℤ pos j)) (val-proper (sum_from a f) (pos 0) (s +ℤ pos j))
          (worth_number (pos 0) h (s +ℤ pos j) (t.0 +ᵛ c) (form j t.0 t.1)) (worth_number (pos 0) (sum_from a f) (s +ℤ pos j) (t.0 +ᵛ c) t.2)

      same : (m : ℤ) → s ≤ℤ m → SameValue (val h (pos 0) m) (total f a m)
      same m l = let p = from_on s m l in subst (λ (k : ℤ). SameValue (val h (pos 0) k) (total f a k)) (sym p.1) (at_place p.0)

module _ (E : Ring) (shift : E.A → E.A) {d : ℕ} (at : ℕ → Evaluation E d) where
  -- a sum that is expressed: an element with its difference and with its first value has all its values
  pub expressed_by : Moves E shift at → (h b : E.A) (T : ℕ → Value d) → E.◌≈◌ (E.◌⊞◌ (shift h) (E.⊟ h)) b → ((j : ℕ) → (u : Value d) × (at j).Has b u × (T (suc j) ≡ T j +ᵛ u)) → Regular E shift at h
      → (at 0).Has h (T 0) → (j : ℕ) → (at j).Has h (T j)
  expressed_by moves h b T telescopes steps regular first zero = first
  expressed_by moves h b T telescopes steps regular first (suc j) =
      subst ((at (suc j)).Has h)
      (step E shift at moves h b telescopes j (T j) (regular (suc j)).0 (steps j).0 (expressed_by moves h b T telescopes steps regular first j) (regular (suc j)).1 (steps j).1 ∙ sym (steps j).2)
      (regular (suc j)).1
