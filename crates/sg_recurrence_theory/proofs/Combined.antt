-- Sums of several summands at once, with constants as factors.
--   weighted c us        c 0 u₀ + c 1 u₁ + ..
--   weighted-add         of sums
--   combined-step        where σ(g) - g = c 0 x₀ + c 1 x₁ + .., the values of g differ by those of the right side
--   combined-sums        so the sums of the trees, each with its constant, are the difference of two values of g
use Rattle.std.proofs.Common.{◌≡◌, ℕ, zero, suc, ℤ, pos, ◌+ℤ◌, ◌-ℤ◌, ◌≤ℤ◌, refl, sym, ap, ap₂, subst, ◌∙◌, List, [], ◌∷◌, arith}
use Rattle.std.proofs.lemmas.Int.{ints}
use Rattle.sg_algebra.specs.Ring.{Ring}
use Rattle.sg_algebra.proofs.Solver.{ring, by, reads}
use Rattle.sg_algebra.proofs.Value.{Value, ◌+ᵛ◌, ◌-ᵛ◌, ◌*ᵛ◌, zero_value}
use Rattle.sg_algebra.proofs.ValueField.{ValueR}
use Rattle.sg_algebra.proofs.Place.{Pairwise}
use Rattle.sg_spec.specs.Tree.{Tree, sum_from}
use Rattle.sg_spec.specs.Worth.{HasWorth}
use Rattle.sg_tower_theory.proofs.Difference.{Difference, total, Solves}
use Rattle.sg_worth_theory.proofs.Closes.{sum_step, counted_total}
use Rattle.sg_spec.proofs.Totals.{how_many-empty}
use Rattle.sg_value_theory.proofs.Evaluation.{Evaluation}
use Rattle.sg_value_theory.proofs.Telescoped.{Moves, step}

module _ {d : ℕ} where
  abbrev pub weighted : (ℕ → Value d) → List (Value d) → Value d
  weighted c [] = zero_value
  weighted c (u ∷ us) = c 0 *ᵛ u +ᵛ weighted (λ i. c (suc i)) us

  -- place by place
  abbrev pub plus_each : List (Value d) → List (Value d) → List (Value d)
  plus_each [] ws = []
  plus_each (u ∷ us) [] = []
  plus_each (u ∷ us) (w ∷ ws) = (u +ᵛ w) ∷ plus_each us ws

  module _ (E : Ring) (B : Difference (ValueR d) E) (at : ℕ → Evaluation E d) (constants : (j : ℕ) (a : Value d) → (at j).Has (B.κ.on a) a) where
    pub total-has : (j : ℕ) (c : ℕ → Value d) (xs : List E.A) (us : List (Value d)) → Pairwise (at j).Has xs us
        → (at j).Has (total B (λ x. x) c xs) (weighted c us)
    total-has j c [] [] h = (at j).zero_has
    total-has j c [] (u ∷ us) h = absurd h
    total-has j c (x ∷ xs) [] h = absurd h
    total-has j c (x ∷ xs) (u ∷ us) h =
        (at j).add_has (E.◌⊠◌ (B.κ.on (c 0)) x) (total B (λ x. x) (λ i. c (suc i)) xs) (c 0 *ᵛ u) (weighted (λ i. c (suc i)) us)
        ((at j).mul_has (B.κ.on (c 0)) x (c 0) u (constants j (c 0)) h.0) (total-has j (λ i. c (suc i)) xs us h.1)

    module _ (moves : Moves E B.σ.on at) (letter : Value d) (s : ℤ) (ts : List Tree) (xs : List E.A) (c : ℕ → Value d) (g : E.A)
        (solves : Solves B (λ x. x) xs c g)
        (terms : (j : ℕ) → (us : List (Value d)) × Pairwise (λ t u. HasWorth letter t (s +ℤ pos j) u) ts us × Pairwise (at j).Has xs us) (regular : (j : ℕ) → (v : Value d) × (at j).Has g v) where
      abbrev pub value_of : ℕ → Value d
      value_of j = (regular j).0

      pub combined-step : (j : ℕ) → value_of (suc j) ≡ value_of j +ᵛ weighted c (terms j).0
      combined-step j =
          step E B.σ.on at moves g (total B (λ x. x) c xs) solves j (regular j).0 (regular (suc j)).0 (weighted c (terms j).0) (regular j).1 (regular (suc j)).1 (total-has j c xs (terms j).0 (terms j).2)

      -- the sums from s on up to a place
      abbrev pub AreSums : ℤ → List (Value d) → Type 0
      AreSums k us = Pairwise (λ t u. HasWorth letter (sum_from s t) k u) ts us

      abbrev pub AreTerms : ℤ → List (Value d) → Type 0
      AreTerms k us = Pairwise (λ t u. HasWorth letter t k u) ts us

    module _ (letter : Value d) (s : ℤ) where
      abbrev Sums : List Tree → ℤ → List (Value d) → Type 0
      Sums ts k us = Pairwise (λ t u. HasWorth letter (sum_from s t) k u) ts us

      abbrev Terms : List Tree → ℤ → List (Value d) → Type 0
      Terms ts k us = Pairwise (λ t u. HasWorth letter t k u) ts us

      sums-next : (k : ℤ) → s ≤ℤ k → (ts : List Tree) (us ws : List (Value d)) → Sums ts (k -ℤ pos 1) us → Terms ts k ws → Sums ts k (plus_each us ws)
      sums-next k le [] [] [] h i = tt
      sums-next k le [] [] (w ∷ ws) h i = absurd i
      sums-next k le [] (u ∷ us) ws h i = absurd h
      sums-next k le (t ∷ ts) [] ws h i = absurd h
      sums-next k le (t ∷ ts) (u ∷ us) [] h i = absurd i
      sums-next k le (t ∷ ts) (u ∷ us) (w ∷ ws) h i = (sum_step letter t s k u w le h.0 i.0, sums-next k le ts us ws h.1 i.1)

      abbrev none : List Tree → List (Value d)
      none [] = []
      none (t ∷ ts) = zero_value ∷ none ts

      sums-none : (ts : List Tree) → Sums ts (s -ℤ pos 1) (none ts)
      sums-none [] = tt
      sums-none (t ∷ ts) = (counted_total letter t s (s -ℤ pos 1) 0 zero_value (how_many-empty s) refl, sums-none ts)

      weighted-none : (c : ℕ → Value d) (ts : List Tree) → weighted c (none ts) ≡ zero_value
      weighted-none c [] = refl
      weighted-none c (t ∷ ts) = ap (λ z. c 0 *ᵛ zero_value +ᵛ z) (weighted-none (λ i. c (suc i)) ts) ∙ ring (ValueR d) (c 0 ∷ []) (search reads depth 16) refl

      weighted-add : (c : ℕ → Value d) (k l : ℤ) (ts : List Tree) (us ws : List (Value d)) → Sums ts k us → Terms ts l ws
          → weighted c (plus_each us ws) ≡ weighted c us +ᵛ weighted c ws
      weighted-add c k l [] [] [] h i = ring (ValueR d) [] (search reads depth 12) refl
      weighted-add c k l [] [] (w ∷ ws) h i = absurd i
      weighted-add c k l [] (u ∷ us) ws h i = absurd h
      weighted-add c k l (t ∷ ts) [] ws h i = absurd h
      weighted-add c k l (t ∷ ts) (u ∷ us) [] h i = absurd i
      weighted-add c k l (t ∷ ts) (u ∷ us) (w ∷ ws) h i =
          ap (λ z. c 0 *ᵛ (u +ᵛ w) +ᵛ z) (weighted-add (λ i. c (suc i)) k l ts us ws h.1 i.1) ∙ across (c 0) u w (weighted (λ i. c (suc i)) us) (weighted (λ i. c (suc i)) ws)
        where
          across : (a u w x y : Value d) → a *ᵛ (u +ᵛ w) +ᵛ (x +ᵛ y) ≡ (a *ᵛ u +ᵛ x) +ᵛ (a *ᵛ w +ᵛ y)
          across a u w x y = ring (ValueR d) (a ∷ u ∷ w ∷ x ∷ y ∷ []) (search reads depth 20) refl

      next-place : (ts : List Tree) (j : ℕ) (us : List (Value d)) → Sums ts (s +ℤ pos j) us → Sums ts ((s +ℤ pos (suc j)) -ℤ pos 1) us
      next-place ts j us h = let e : s +ℤ pos j ≡ (s +ℤ pos (suc j)) -ℤ pos 1 = omega (arith, ints) in subst (λ (k : ℤ). Sums ts k us) e h

      module _ (moves : Moves E B.σ.on at) (ts : List Tree) (xs : List E.A) (c : ℕ → Value d) (g : E.A) (solves : Solves B (λ x. x) xs c g)
          (terms : (j : ℕ) → (us : List (Value d)) × Pairwise (λ t u. HasWorth letter t (s +ℤ pos j) u) ts us × Pairwise (at j).Has xs us) (regular : (j : ℕ) → (v : Value d) × (at j).Has g v) where
        abbrev G : ℕ → Value d
        G j = (regular j).0

        grows : (j : ℕ) → G (suc j) ≡ G j +ᵛ weighted c (terms j).0
        grows j = combined-step moves letter s ts xs c g solves terms regular j

        first : (g g' f : Value d) → g' ≡ g +ᵛ f → zero_value +ᵛ f ≡ g' -ᵛ g
        first g g' f h = by (ValueR d) (g ∷ g' ∷ f ∷ []) (sym h) (search reads depth 16) refl

        later : (g0 g g' f x : Value d) → g' ≡ g +ᵛ f → x ≡ g -ᵛ g0 → x +ᵛ f ≡ g' -ᵛ g0
        later g0 g g' f x h e = by (ValueR d) (g0 ∷ g ∷ g' ∷ f ∷ x ∷ []) (ap₂ ◌-ᵛ◌ e h) (search reads depth 16) refl

        -- the sums from s on up to s + j, each with its constant, are the difference of the values of g at s + j + 1 and at s
        pub combined-sums : (j : ℕ)
            → (us : List (Value d)) × Pairwise (λ t u. HasWorth letter (sum_from s t) (s +ℤ pos j) u) ts us × (weighted c us ≡ (regular (suc j)).0 -ᵛ (regular 0).0)
        combined-sums zero =
            let e : s ≡ s +ℤ pos zero = omega (arith, ints) in
            let t = terms 0 in (
              plus_each (none ts) t.0,
              subst (λ (k : ℤ). Sums ts k (plus_each (none ts) t.0)) e (sums-next s (omega (arith, ints)) ts (none ts) t.0 (sums-none ts) (subst (λ (k : ℤ). Terms ts k t.0) (sym e) t.1)),
              weighted-add c (s -ℤ pos 1) (s +ℤ pos 0) ts (none ts) t.0 (sums-none ts) t.1 ∙ ap (λ z. z +ᵛ weighted c t.0) (weighted-none c ts) ∙ first (G 0) (G 1) (weighted c t.0) (grows 0),
            )
        combined-sums (suc j) =
            let r = combined-sums j in
            let t = terms (suc j) in (
              plus_each r.0 t.0,
              sums-next (s +ℤ pos (suc j)) (omega (arith, ints)) ts r.0 t.0 (next-place ts j r.0 r.1) t.1,
              weighted-add c (s +ℤ pos j) (s +ℤ pos (suc j)) ts r.0 t.0 r.1 t.1 ∙ later (G 0) (G (suc j)) (G (suc (suc j))) (weighted c t.0) (weighted c r.0) (grows (suc j)) r.2,
            )
