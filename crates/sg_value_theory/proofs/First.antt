-- The first law, positive: an element that isn't zero has, from every place on, somewhere a value that isn't zero.
--   NonzeroAt       such a place
--   nonzero_at      from the law of combinations
--   zero_only       an element whose values are zero from some place on is zero
use Rattle.std.proofs.Common.{ℕ, suc, ◌+◌, ◌≤◌, List, [], ◌∷◌, arith}
use Rattle.sg_algebra.specs.Ring.{Domain, Hom}
use Rattle.sg_algebra.proofs.Ring.{mul_O}
use Rattle.sg_tower_theory.proofs.Combination.{Combo, combo, combo_of}
use Rattle.sg_tower_theory.proofs.Lawful.{Lawful}
use Rattle.sg_value_theory.proofs.Places.{Places}

module _ (D V : Domain) (σ : Hom D.R D.R) (p : Places D.R V.R σ) where
  open D use {R}
  open R use {A, ◌≈◌, O, I}
  open p use {Has, from}
  open V.R use {A as T, ◌≈◌ as ◌≃◌, ◌⊞◌ as ◌+ᵏ◌, ◌⊠◌ as ◌*ᵏ◌, O as Oᵏ, I as Iᵏ, rfl as rflᵏ, symm as symmᵏ, trans as transᵏ, add_cong as addᵏ, mul_cong as mulᵏ}

  pub record NonzeroAt (e : A) (b : ℕ) : Type 0 where
    pub k : ℕ
    pub past : b ≤ k
    pub v : T
    pub has : Has e k v
    pub ne : ¬ (v ≃ Oᵏ)

  -- past this all parts of the combination have values, and the element has one at the next place
  abbrev ready : List A → A → ℕ
  ready [] e = 0
  ready (c ∷ cs) e = from c + (from e + (from (combo R σ cs (σ.on e)) + ready cs (σ.on e)))

  later : (e : A) (k : ℕ) → from e ≤ k → NonzeroAt (σ.on e) k → NonzeroAt e k
  later e k l n = go (p.has_past e (suc n.k) (reach n.k n.past))
    where
      reach : (j : ℕ) → k ≤ j → from e ≤ suc j
      reach j q = omega arith

      less : (j : ℕ) → k ≤ j → k ≤ suc j
      less j q = omega arith

      go : (v : T) × Has e (suc n.k) v → NonzeroAt e k
      go h = record { k = suc n.k; past = less n.k n.past; v = h.0; has = h.1; ne = λ z. n.ne (transᵏ (p.has_unique (σ.on e) n.k n.v h.0 n.has (p.has_shift e n.k h.0 h.1)) z) }

  some : (cs : List A) (e : A) (k : ℕ) (t : T) → ready cs e ≤ k → Has (combo R σ cs e) k t → ¬ (t ≃ Oᵏ) → NonzeroAt e k
  some [] e k t l h ne = absurd (ne (p.has_unique O k t Oᵏ h (p.has_zero k)))
  some (c ∷ cs) e k t l h ne = go (p.has_past c k (omega arith)) (p.has_past e k (omega arith)) (p.has_past (combo R σ cs (σ.on e)) k (omega arith)) (λ u q n. some cs (σ.on e) k u (omega arith) q n)
    where
      go : (x : T) × Has c k x → (y : T) × Has e k y → (z : T) × Has (combo R σ cs (σ.on e)) k z → ((u : T) → Has (combo R σ cs (σ.on e)) k u → ¬ (u ≃ Oᵏ) → NonzeroAt (σ.on e) k) → NonzeroAt e k
      go x y z ih = elim (V.is_zero y.0) [
        | no n ↦ record { k = k; past = omega arith; v = y.0; has = y.1; ne = n }
        | yes q ↦ later e k (omega arith) (ih z.0 z.1 (λ w. ne (transᵏ (p.has_unique (combo R σ (c ∷ cs) e) k t ((x.0 *ᵏ y.0) +ᵏ z.0) h (p.has_add (R.◌⊠◌ c e) (combo R σ cs (σ.on e)) k (x.0 *ᵏ y.0) z.0 (p.has_mul c e k x.0 y.0 x.1 y.1) z.1))
            (transᵏ (addᵏ (transᵏ (mulᵏ rflᵏ q) (mul_O V.R)) w) V.R.add_O))))
      ]

  pub nonzero_at : Lawful D σ → (e : A) → ¬ (e ≈ O) → (b : ℕ) → NonzeroAt e b
  nonzero_at good e h b = go (combo_of R σ e (good.law e h))
    where
      go : Combo R σ e I → NonzeroAt e b
      go c = lower (some c.cs e (b + ready c.cs e) Iᵏ (omega arith) (p.has_same I (combo R σ c.cs e) (b + ready c.cs e) Iᵏ Iᵏ (R.symm c.is) rflᵏ (p.has_one (b + ready c.cs e))) V.one_ne)
        where
          lower : NonzeroAt e (b + ready c.cs e) → NonzeroAt e b
          lower n = record { k = n.k; past = less n.k n.past; v = n.v; has = n.has; ne = n.ne }
            where
              less : (j : ℕ) → b + ready c.cs e ≤ j → b ≤ j
              less j l = omega arith

  pub zero_only : Lawful D σ → (e : A) (b : ℕ) → ((k : ℕ) (v : T) → b ≤ k → Has e k v → v ≃ Oᵏ) → e ≈ O
  zero_only good e b h = elim (D.is_zero e) [ yes z ↦ z | no n ↦ absurd (clash (nonzero_at good e n b)) ]
    where
      clash : NonzeroAt e b → ⊥
      clash n = n.ne (h n.k n.v n.past n.has)
