-- From antidifferences in values to formal ones.
--   IsQuotient       E is the quotient of the values of p and q, said without dividing, wherever both have one from b on
--   formal           an element f whose values are the differences of such an E from some place on has a formal antidifference
--   value_of         the other way: the values of a formal antidifference of f have the values of f as differences
use Rattle.std.proofs.Common.{ℕ, suc, ◌+◌, ◌≤◌, refl, [], ◌∷◌, arith}
use Rattle.sg_algebra.specs.Ring.{Domain, Hom}
use Rattle.sg_algebra.proofs.Solver.{by, scale, reads}
use Rattle.sg_tower_theory.proofs.Nested.{Telescopes}
use Rattle.sg_tower_theory.proofs.Lawful.{Lawful}
use Rattle.sg_value_theory.proofs.Integral.{Integral, integral_telescopes}
use Rattle.sg_value_theory.proofs.Places.{Places}
use Rattle.sg_value_theory.proofs.First.{zero_only}

module _ (D V : Domain) (σ : Hom D.R D.R) (places : Places D.R V.R σ) where
  open D use {R}
  open R use {A, ◌≈◌, ◌⊞◌, ◌⊠◌, ⊟, O}
  open places use {Has, from, has_past, has_unique}
  open V.R use {A as T, ◌≈◌ as ◌≃◌, ◌⊞◌ as ◌+ᵛ◌, ◌⊠◌ as ◌·◌, ⊟ as minus, O as Oᵛ}

  abbrev pub IsQuotient : A → A → (ℕ → T) → ℕ → Type 0
  IsQuotient p q E b = (k : ℕ) (u w : T) → b ≤ k → Has q k u → Has p k w → u · E k ≃ w

  -- E (k +ᵛ 1) - E k is the value of f at k
  abbrev pub StepsBy : A → (ℕ → T) → ℕ → Type 0
  StepsBy f E b = (k : ℕ) (v : T) → b ≤ k → Has f k v → E (suc k) +ᵛ minus (E k) ≃ v

  pub formal : Lawful D σ → Integral D σ → (p q f : A) → ¬ (q ≈ O) → (E : ℕ → T) (b : ℕ) → IsQuotient p q E b → StepsBy f E b → (g : A) × Telescopes R σ g f
  formal lawful good p q f n E b quotient steps = go (integral_telescopes D σ good p q f n crossed)
    where
      z : A
      z = (σ.on p ⊠ q ⊞ ⊟ (p ⊠ σ.on q)) ⊞ ⊟ (f ⊠ (q ⊠ σ.on q))

      go : (g : A) × (p ≈ q ⊠ g) × Telescopes R σ g f → (g : A) × Telescopes R σ g f
      go r = (r.0, r.2)

      bound : ℕ
      bound = b + (from p + (from q + from f))

      none : (k : ℕ) (v : T) → bound ≤ k → Has z k v → v ≃ Oᵛ
      none k v l h = at (has_past p k (omega arith)) (has_past q k (omega arith)) (has_past f k (omega arith)) (has_past p (suc k) (omega arith)) (has_past q (suc k) (omega arith))
        where
          values : (w u x w' u' E E' : T) → u · E ≃ w → u' · E' ≃ w' → E' +ᵛ minus E ≃ x → (w' · u +ᵛ minus (w · u')) +ᵛ minus (x · (u · u')) ≃ Oᵛ
          values w u x w' u' E E' h i j = by V.R (w ∷ u ∷ x ∷ w' ∷ u' ∷ E ∷ E' ∷ [])
              (V.R.add_cong (scale V.R u' h) (V.R.add_cong (scale V.R (minus u) i) (scale V.R (u · u') j))) (search reads depth 20 fits 4000) refl

          at : (w : T) × Has p k w → (u : T) × Has q k u → (x : T) × Has f k x → (w : T) × Has p (suc k) w → (u : T) × Has q (suc k) u → v ≃ Oᵛ
          at w u x w' u' = V.R.trans (has_unique z k v ((w'.0 · u.0 +ᵛ minus (w.0 · u'.0)) +ᵛ minus (x.0 · (u.0 · u'.0))) h
              (places.has_add (σ.on p ⊠ q ⊞ ⊟ (p ⊠ σ.on q)) (⊟ (f ⊠ (q ⊠ σ.on q))) k (w'.0 · u.0 +ᵛ minus (w.0 · u'.0)) (minus (x.0 · (u.0 · u'.0)))
              (places.has_add (σ.on p ⊠ q) (⊟ (p ⊠ σ.on q)) k (w'.0 · u.0) (minus (w.0 · u'.0))
              (places.has_mul (σ.on p) q k w'.0 u.0 (places.has_shift p k w'.0 w'.1) u.1)
              (places.has_neg (p ⊠ σ.on q) k (w.0 · u'.0) (places.has_mul p (σ.on q) k w.0 u'.0 w.1 (places.has_shift q k u'.0 u'.1))))
              (places.has_neg (f ⊠ (q ⊠ σ.on q)) k (x.0 · (u.0 · u'.0)) (places.has_mul f (q ⊠ σ.on q) k x.0 (u.0 · u'.0) x.1 (places.has_mul q (σ.on q) k u.0 u'.0 u.1 (places.has_shift q k u'.0 u'.1))))))
              (values w.0 u.0 x.0 w'.0 u'.0 (E k) (E (suc k)) (quotient k u.0 w.0 (omega arith) u.1 w.1) (quotient (suc k) u'.0 w'.0 (omega arith) u'.1 w'.1) (steps k x.0 (omega arith) x.1))

      crossed : σ.on p ⊠ q ⊞ ⊟ (p ⊠ σ.on q) ≈ f ⊠ (q ⊠ σ.on q)
      crossed = equal (σ.on p ⊠ q ⊞ ⊟ (p ⊠ σ.on q)) (f ⊠ (q ⊠ σ.on q)) (zero_only D V σ places lawful z bound none)
        where
          equal : (x y : A) → x ⊞ ⊟ y ≈ O → x ≈ y
          equal x y h = by R (x ∷ y ∷ []) h (search reads depth 12) refl

  pub value_of : (g f : A) → Telescopes R σ g f → (k : ℕ) (u u' v : T) → Has g k u → Has g (suc k) u' → Has f k v → u' +ᵛ minus u ≃ v
  value_of g f e k u u' v h i j = has_unique f k (u' +ᵛ minus u) v
      (places.has_same (σ.on g ⊞ ⊟ g) f k (u' +ᵛ minus u) (u' +ᵛ minus u) e V.R.rfl (places.has_add (σ.on g) (⊟ g) k u' (minus u) (places.has_shift g k u' i) (places.has_neg g k u h))) j
