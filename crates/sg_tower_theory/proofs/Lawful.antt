-- What a tower of sums keeps, and what a new sum keeps of it.
--   Lawful D σ       numerals of at least 1 aren't zero; a fixed element that isn't zero is a unit; combinations of an element that isn't zero and its shifts reach one
--   delta            σ(x) - x
--   no_top           an element has no coefficient where its difference has none there and one below: else the new sum would be an antidifference
--   lawful_field     a field is so, with any shift
--   lawful_above     one more sum that is free keeps the laws
use Rattle.std.proofs.Common.{◌≡◌, ℕ, zero, suc, ◌≤◌, refl, sym, subst, List, [], ◌∷◌, ◌⊎◌, inl, inr, arith, length}
use Rattle.sg_algebra.specs.Ring.{Domain, Field, Hom}
use Rattle.sg_algebra.specs.Coefficients.{coef}
use Rattle.sg_algebra.proofs.Ring.{nat, mul_O, neg_O}
use Rattle.sg_algebra.proofs.Solver.{by, scale, reads}
use Rattle.sg_algebra.proofs.Field.{domain, product_ne}
use Rattle.sg_algebra.proofs.Divides.{Divides, on-nat, on-neg}
use Rattle.sg_algebra.proofs.PolynomialRing.{PolyR, coef-zip, coef-each, coef-scale, constantH}
use Rattle.sg_algebra.proofs.Degree.{Below, below_up, below_zero, PolyD}
use Rattle.sg_algebra.proofs.Shift.{twist, twistH, twist-past, twist-top, twist-second}
use Rattle.sg_tower_theory.proofs.Combination.{Gen, g_self, g_add, g_mul, g_on, g_same, gen_trans}
use Rattle.sg_tower_theory.proofs.Ends.{below_length}
use Rattle.sg_tower_theory.proofs.Nested.{Telescopes}

pub record Lawful (D : Domain) (σ : Hom D.R D.R) : Type 0 where
  pub char : (n : ℕ) → ¬ (D.R.◌≈◌ (nat D.R (suc n)) D.R.O)
  pub fixed : (x : D.R.A) → D.R.◌≈◌ (σ.on x) x → ¬ (D.R.◌≈◌ x D.R.O) → Divides D.R x D.R.I
  pub law : (e : D.R.A) → ¬ (D.R.◌≈◌ e D.R.O) → Gen D.R σ e D.R.I

module _ (K : Field) (σ : Hom K.R K.R) where
  open K use {R, inv, mul_inv}
  open R use {A, ◌≈◌, O, I, symm, trans, mul_comm}

  pub lawful_field : ((n : ℕ) → ¬ (nat R (suc n) ≈ O)) → Lawful (domain K) σ
  lawful_field h = record {
    char = h;
    fixed = λ x e n. record { cofactor = inv x; is = symm (mul_inv x n) };
    law = λ e n. g_same (trans mul_comm (mul_inv e n)) (g_mul (inv e) g_self);
  }

module _ (D : Domain) (σ : Hom D.R D.R) (β : D.R.A) where
  open D use {R, is_zero, one_ne, cancel_mul}
  open R use {A, ◌≈◌, ◌⊞◌, ◌⊠◌, ⊟, O, I, rfl, symm, trans, add_cong, mul_cong, neg_cong, add_O, add_neg, mul_comm, mul_I}
  open PolyR R use {◌≈◌ as ◌≋◌, ◌⊞◌ as ◌⊕◌, ◌⊠◌ as ◌⊗◌, ⊟ as ⊖, trans as transp, symm as symmp, rfl as rflp}

  abbrev pub delta : A → A
  delta x = σ.on x ⊞ ⊟ x

  abbrev pub Delta : List A → List A
  Delta g = twist R σ β g ⊕ ⊖ g

  pub coef-Delta : (g : List A) (n : ℕ) → coef R (Delta g) n ≈ coef R (twist R σ β g) n ⊞ ⊟ (coef R g n)
  coef-Delta g n = trans (coef-zip R (twist R σ β g) (⊖ g) n) (add_cong rfl (coef-each R ⊟ (neg_O R) g n))

  -- the coefficient of the difference at the degree, and none past it
  pub Delta-top : (n : ℕ) (g : List A) → Below R (suc n) g → coef R (Delta g) n ≈ delta (coef R g n)
  Delta-top n g h = trans (coef-Delta g n) (add_cong (twist-top R σ β n g (λ i l. h.none_from i l)) rfl)

  pub Delta-past : (n : ℕ) (g : List A) → Below R (suc n) g → Below R (suc n) (Delta g)
  Delta-past n g h = record { none_from = λ k l. trans (coef-Delta g k) (trans (add_cong (twist-past R σ β n g (λ i q. h.none_from i q) k l) (trans (neg_cong (h.none_from k l)) (neg_O R))) add_O) }

  module _ (good : Lawful D σ) (free : (g : A) → ¬ Telescopes R σ g β) where
    -- no new degree: else β would be a difference below
    pub no_top : (n : ℕ) (g : List A) → Below R (suc (suc n)) g → coef R (Delta g) (suc n) ≈ O → coef R (Delta g) n ≈ O → coef R g (suc n) ≈ O
    no_top n g b top second = elim (is_zero l) [ yes z ↦ z | no z ↦ absurd (clash z (good.fixed x same (x_ne z))) ]
      where
        l : A
        l = coef R g (suc n)

        u : A
        u = coef R g n

        x : A
        x = nat R (suc n) ⊠ l

        lead : σ.on l ≈ l
        lead = by R (l ∷ σ.on l ∷ []) (trans (symm (Delta-top (suc n) g b)) top) (search reads depth 12) refl

        same : σ.on x ≈ x
        same = trans (σ.on-mul (nat R (suc n)) l) (mul_cong (on-nat R R σ (suc n)) lead)

        x_ne : ¬ (l ≈ O) → ¬ (x ≈ O)
        x_ne z = product_ne D (good.char n) z

        below : (σ.on u ⊞ β ⊠ (nat R (suc n) ⊠ σ.on l)) ⊞ ⊟ u ≈ O
        below = trans (symm (trans (coef-Delta g n) (add_cong (twist-second R σ β n g (λ i q. b.none_from i q)) rfl))) second

        clash : ¬ (l ≈ O) → Divides R x I → ⊥
        clash z d = free (⊟ u ⊠ d.cofactor) (trans (add_cong (trans (σ.on-mul (⊟ u) d.cofactor) (mul_cong (on-neg R R σ u) inverse)) rfl)
            (final u (σ.on u) (nat R (suc n)) l d.cofactor (trans (add_cong (add_cong rfl (mul_cong rfl (mul_cong rfl (symm lead)))) rfl) below) d.is))
          where
            -- the inverse of a fixed element is fixed
            inverse : σ.on d.cofactor ≈ d.cofactor
            inverse = cancel_mul (x_ne z) (trans (mul_cong (symm same) rfl) (trans (symm (σ.on-mul x d.cofactor)) (trans (σ.on_cong (x ⊠ d.cofactor) I (symm d.is)) (trans σ.on-one d.is))))

            final : (u v m l y : A) → (v ⊞ β ⊠ (m ⊠ l)) ⊞ ⊟ u ≈ O → I ≈ (m ⊠ l) ⊠ y → ⊟ v ⊠ y ⊞ ⊟ (⊟ u ⊠ y) ≈ β
            final u v m l y h k = by R (u ∷ v ∷ m ∷ l ∷ y ∷ β ∷ []) (add_cong (scale R (⊟ y) h) (scale R (⊟ β) k)) (search reads depth 20 fits 4000) refl

    -- no coefficient left: a fixed element has degree 0
    pub flat_below : (N : ℕ) (g : List A) → Below R N g → Delta g ≋ [] → Below R 1 g
    flat_below zero g b h = below_up R 0 1 g (omega arith) b
    flat_below (suc zero) g b h = b
    flat_below (suc (suc n)) g b h = flat_below (suc n) g (record { none_from = λ i l. at i (split i l) }) h
      where
        split : (i : ℕ) → suc n ≤ i → (i ≡ suc n) ⊎ (suc (suc n) ≤ i)
        split i l = grind arith

        at : (i : ℕ) → (i ≡ suc n) ⊎ (suc (suc n) ≤ i) → coef R g i ≈ O
        at i (inl q) = subst (λ (j : ℕ). coef R g j ≈ O) (sym q) (no_top n g b (h.image.at (suc n)) (h.image.at n))
        at i (inr q) = b.none_from i q

    pub fixed_above : (g : List A) → twist R σ β g ≋ g → ¬ (g ≋ []) → Divides (PolyR R) g (I ∷ [])
    fixed_above g h n = unit (good.fixed (coef R g 0) still (λ z. n (record { image = record { at = none z } })))
      where
        flat : Delta g ≋ []
        flat = by (PolyR R) (g ∷ twist R σ β g ∷ []) h (search reads depth 12) refl

        one : Below R 1 g
        one = flat_below (length g) g (below_length R g) flat

        still : σ.on (coef R g 0) ≈ coef R g 0
        still = by R (coef R g 0 ∷ σ.on (coef R g 0) ∷ []) (trans (symm (Delta-top 0 g one)) (flat.image.at 0)) (search reads depth 12) refl

        none : coef R g 0 ≈ O → (i : ℕ) → coef R g i ≈ O
        none z zero = z
        none z (suc i) = one.none_from (suc i) (omega arith)

        unit : Divides R (coef R g 0) I → Divides (PolyR R) g (I ∷ [])
        unit d = record { cofactor = d.cofactor ∷ []; is = record { image = record { at = at } } }
          where
            at : (i : ℕ) → coef R (I ∷ []) i ≈ coef R (g ⊗ (d.cofactor ∷ [])) i
            at i = trans (here i) (symm (trans (((PolyR R).mul_comm {x = g} {y = d.cofactor ∷ []}).image.at i) (coef-scale R d.cofactor g i)))
              where
                here : (i : ℕ) → coef R (I ∷ []) i ≈ d.cofactor ⊠ coef R g i
                here zero = trans d.is mul_comm
                here (suc i) = symm (trans (mul_cong rfl (one.none_from (suc i) (omega arith))) (mul_O R))

    -- ---- The law of combinations

    record Lifted (n : ℕ) (e : List A) (x : A) : Type 0 where
      u : List A
      gen : Gen (PolyR R) (twistH R σ β) e u
      short : Below R (suc n) u
      lead : coef R u n ≈ x

    lifted : (n : ℕ) (e : List A) → Below R (suc n) e → (l : A) → coef R e n ≈ l → {x : A} → Gen R σ l x → Lifted n e x
    lifted n e b l h g_self = record { u = e; gen = g_self; short = b; lead = h }
    lifted n e b l h (g_add p q) =
        let y = lifted n e b l h p in
        let z = lifted n e b l h q in
        record {
          u = y.u ⊕ z.u;
          gen = g_add y.gen z.gen;
          short = record { none_from = λ i k. trans (coef-zip R y.u z.u i) (trans (add_cong (y.short.none_from i k) (z.short.none_from i k)) add_O) };
          lead = trans (coef-zip R y.u z.u n) (add_cong y.lead z.lead);
        }
    lifted n e b l h (g_mul c p) =
        let y = lifted n e b l h p in
        record {
          u = (c ∷ []) ⊗ y.u;
          gen = g_mul (c ∷ []) y.gen;
          short = record { none_from = λ i k. trans (coef-scale R c y.u i) (trans (mul_cong rfl (y.short.none_from i k)) (mul_O R)) };
          lead = trans (coef-scale R c y.u n) (mul_cong rfl y.lead);
        }
    lifted n e b l h (g_on {x} p) =
        let y = lifted n e b l h p in
        record {
          u = twist R σ β y.u;
          gen = g_on y.gen;
          short = record { none_from = λ i k. twist-past R σ β n y.u (λ j q. y.short.none_from j q) i k };
          lead = trans (twist-top R σ β n y.u (λ j q. y.short.none_from j q)) (σ.on_cong (coef R y.u n) x y.lead);
        }
    lifted n e b l h (g_same k p) = let y = lifted n e b l h p in record { u = y.u; gen = y.gen; short = y.short; lead = trans y.lead k }

    difference : (e u : List A) → Gen (PolyR R) (twistH R σ β) e u → Gen (PolyR R) (twistH R σ β) e (Delta u)
    difference e u g = g_add (g_on g) (g_same (by (PolyR R) (u ∷ []) (rflp {x = []}) (search reads depth 12) refl) (g_mul (⊖ (I ∷ [])) g))

    law_by : (N : ℕ) (e : List A) → Below R N e → ¬ (e ≋ []) → Gen (PolyR R) (twistH R σ β) e (I ∷ [])
    law_by zero e b h = absurd (h (below_zero R e b))
    law_by (suc n) e b h = go (is_zero (coef R e n)) (law_by n)
      where
        less : coef R e n ≈ O → Below R n e
        less z = record { none_from = λ i l. at i (split i l) }
          where
            split : (i : ℕ) → n ≤ i → (i ≡ n) ⊎ (suc n ≤ i)
            split i l = grind arith

            at : (i : ℕ) → (i ≡ n) ⊎ (suc n ≤ i) → coef R e i ≈ O
            at i (inl q) = subst (λ (j : ℕ). coef R e j ≈ O) (sym q) z
            at i (inr q) = b.none_from i q

        go : Dec (coef R e n ≈ O) → ((w : List A) → Below R n w → ¬ (w ≋ []) → Gen (PolyR R) (twistH R σ β) w (I ∷ [])) → Gen (PolyR R) (twistH R σ β) e (I ∷ [])
        go (yes z) ih = ih e (less z) h
        go (no z) ih = monic n (lifted n e b (coef R e n) rfl (good.law (coef R e n) z)) ih
          where
            monic : (n : ℕ) → Lifted n e I → ((w : List A) → Below R n w → ¬ (w ≋ []) → Gen (PolyR R) (twistH R σ β) w (I ∷ [])) → Gen (PolyR R) (twistH R σ β) e (I ∷ [])
            monic zero y ih = g_same (record { image = record { at = at } }) y.gen
              where
                at : (i : ℕ) → coef R y.u i ≈ coef R (I ∷ []) i
                at zero = y.lead
                at (suc i) = y.short.none_from (suc i) (omega arith)
            monic (suc n) y ih = gen_trans (PolyR R) (twistH R σ β) e w (difference e y.u y.gen) (ih w short (λ z. one_ne (trans (symm y.lead) (no_top n y.u y.short (z.image.at (suc n)) (z.image.at n)))))
              where
                w : List A
                w = Delta y.u

                top : coef R w (suc n) ≈ O
                top = trans (Delta-top (suc n) y.u y.short) (trans (add_cong (trans (σ.on_cong (coef R y.u (suc n)) I y.lead) σ.on-one) (neg_cong y.lead)) add_neg)

                short : Below R (suc n) w
                short = record { none_from = λ i l. at i (split i l) }
                  where
                    split : (i : ℕ) → suc n ≤ i → (i ≡ suc n) ⊎ (suc (suc n) ≤ i)
                    split i l = grind arith

                    at : (i : ℕ) → (i ≡ suc n) ⊎ (suc (suc n) ≤ i) → coef R w i ≈ O
                    at i (inl q) = subst (λ (j : ℕ). coef R w j ≈ O) (sym q) top
                    at i (inr q) = (Delta-past (suc n) y.u y.short).none_from i q

    pub lawful_above : Lawful (PolyD D) (twistH R σ β)
    lawful_above = record {
      char = λ n z. good.char n (trans (on-nat-constant (suc n)) (z.image.at 0));
      fixed = fixed_above;
      law = λ e h. law_by (length e) e (below_length R e) h;
    }
      where
        on-nat-constant : (n : ℕ) → nat R n ≈ coef R (nat (PolyR R) n) 0
        on-nat-constant n = (on-nat R (PolyR R) (constantH R) n).image.at 0
