-- How one share after the other is settled.
--   Carries a ss moved ss' moved'    the sums with the difference of what was moved stay the same, with all constants
--   carries_refl, carries_trans, carries_reduced, carries_more
--   settled_replace       a denominator replaced by one that divides a power of it
--   IsPart w u v e        w is u v, where u divides a power of e, and v is coprime to e
--   left_part, right_part of a common divisor e: u is no unit; v is no unit where a is apart from its later images only
use Rattle.std.proofs.Common.{◌≡◌, ℕ, zero, suc, ◌<◌, refl, ◌∙◌, List, [], ◌∷◌, ◌++◌}
use Rattle.sg_algebra.specs.Ring.{Ring, Hom}
use Rattle.sg_algebra.specs.Coefficients.{Each}
use Rattle.sg_algebra.proofs.Ring.{pow}
use Rattle.sg_algebra.proofs.Solver.{ring, by, scale, reads}
use Rattle.sg_algebra.proofs.Divides.{Divides, dvd_refl, dvd_trans, dvd_same, dvd-mul, dvd_on, on-pow, iter}
use Rattle.sg_algebra.proofs.Coprime.{Coprime, coprime_unit}
use Rattle.sg_algebra.proofs.Value.{Value, zero_value, ◌+ᵛ◌}
use Rattle.sg_algebra.proofs.ValueField.{ValueR}
use Rattle.sg_algebra.proofs.Polynomial.{Polynomial}
use Rattle.sg_first_order_theory.proofs.Weighted.{weighted}
use Rattle.sg_first_order_theory.proofs.ValueFractions.{whole}
use Rattle.sg_reduction_theory.proofs.Apart.{Apart, apart_symm, apart_radical, free_radical, greatest_split}
use Rattle.sg_reduction_theory.proofs.Pieces.{Settled}
use Rattle.sg_reduction_theory.proofs.Moves.{Share, sum_at, difference, Reduced}
use Rattle.sg_reduction_theory.proofs.Steps.{step}

module _ {d : ℕ} where
  pub record Carries (a : Value d) (ss moved ss' moved' : List (Share d)) : Type 0 where
    pub is : (c : ℕ → Value d) → sum_at c ss +ᵛ difference a (sum_at c moved) ≡ sum_at c ss' +ᵛ difference a (sum_at c moved')

  pub carries_refl : (a : Value d) (ss moved : List (Share d)) → Carries a ss moved ss moved
  carries_refl a ss moved = record { is = λ c. refl }

  pub carries_trans : (a : Value d) (ss moved ss' moved' ss'' moved'' : List (Share d)) → Carries a ss moved ss' moved' → Carries a ss' moved' ss'' moved'' → Carries a ss moved ss'' moved''
  carries_trans a ss moved ss' moved' ss'' moved'' h k = record { is = λ c. h.is c ∙ k.is c }

  pub carries_more : (a : Value d) (s : Share d) (ss moved ss' moved' : List (Share d)) → Carries a ss moved ss' moved' → Carries a (s ∷ ss) moved (s ∷ ss') moved'
  carries_more a s ss moved ss' moved' h = record {
    is = λ c. by (ValueR (suc d)) (sum_at c (s ∷ []) ∷ sum_at c ss ∷ sum_at c ss' ∷ difference a (sum_at c moved) ∷ difference a (sum_at c moved') ∷ sum_at c (s ∷ ss) ∷ sum_at c (s ∷ ss') ∷ [])
        ((ValueR (suc d)).add_cong (h.is c) ((ValueR (suc d)).add_cong (first c ss) ((ValueR (suc d)).symm (first c ss')))) (search reads depth 16) refl;
  }
    where
      first : (c : ℕ → Value d) (ss : List (Share d)) → sum_at c (s ∷ ss) ≡ sum_at c (s ∷ []) +ᵛ sum_at c ss
      first c ss = by (ValueR (suc d)) (sum_at c (s ∷ ss) ∷ sum_at c (s ∷ []) ∷ sum_at c ss ∷ []) (taken c ss) (search reads depth 16) refl
        where
          taken : (c : ℕ → Value d) (ss : List (Share d)) → sum_at c (s ∷ ss) ≡ sum_at c (s ∷ []) +ᵛ sum_at c ss
          taken c ss = ring (ValueR (suc d)) (whole (weighted c s.uppers) ∷ Rattle.sg_algebra.proofs.Value.inv_value (whole s.lower) ∷ sum_at c ss ∷ []) (search reads depth 16) refl

  pub carries_reduced : (a : Value d) (fs : List (Value (suc d))) (ps : List (Polynomial d)) (ss moved ss' moved' : List (Share d)) → Carries a ss moved ss' moved' → Reduced a fs ps ss moved → Reduced a fs ps ss' moved'
  carries_reduced a fs ps ss moved ss' moved' h r = step a fs ps ss moved ss' moved' h.is r

module _ (R : Ring) (σ : Hom R R) where
  open R use {A, ◌≈◌, ◌⊞◌, ◌⊠◌, I, rfl, symm, trans, mul_cong}

  each_replace : (P : A → Type 0) (xs ys : List A) (v l : A) → (P v → P l) → Each P (xs ++ v ∷ ys) → Each P (xs ++ l ∷ ys)
  each_replace P [] ys v l f h = (f h.0, h.1)
  each_replace P (x ∷ xs) ys v l f h = (h.0, each_replace P xs ys v l f h.1)

  pub settled_replace : (xs ys : List A) (v l : A) (n : ℕ) → Divides R l (pow R v n) → Settled R σ (xs ++ v ∷ ys) → Settled R σ (xs ++ l ∷ ys)
  settled_replace [] ys v l n d h = (free_radical R σ v l n d h.0, (each_of ys h.1.0, h.1.1))
    where
      each_of : (ys : List A) → Each (λ w. Apart R σ v w) ys → Each (λ w. Apart R σ l w) ys
      each_of [] k = tt
      each_of (y ∷ ys) k = (apart_symm R σ y l (apart_radical R σ y v l n d (apart_symm R σ v y k.0)), each_of ys k.1)
  settled_replace (x ∷ xs) ys v l n d h = (h.0, (each_replace (λ w. Apart R σ x w) xs ys v l (apart_radical R σ x v l n d) h.1.0, settled_replace xs ys v l n d h.1.1))

  pub record IsPart (w u v e : A) : Type 0 where
    pub is : w ≈ u ⊠ v
    pub n : ℕ
    pub radical : Divides R u (pow R e n)
    pub rest : Coprime R v e

  unit_cancel : (u v : A) → Divides R u I → Divides R (u ⊠ v) v
  unit_cancel u v d = record { cofactor = d.cofactor; is = by R (u ∷ v ∷ d.cofactor ∷ []) (scale R v d.is) (search reads depth 16) refl }

  -- the first part of w by a divisor of it is no unit, unless the divisor is one
  pub left_part : (w u v e : A) → IsPart w u v e → Divides R e w → Divides R u I → Divides R e I
  left_part w u v e p d unit = coprime_unit R v e e (dvd_trans R e w v d (dvd_trans R w (u ⊠ v) v (record { cofactor = I; is = trans (symm p.is) (symm R.mul_I) }) (unit_cancel u v unit))) (dvd_refl R e) p.rest

  -- where the second part is a unit, all of w divides a power of the divisor
  pub right_part : (w u v e : A) (p : IsPart w u v e) → Divides R v I → Divides R w (pow R e p.n)
  right_part w u v e p unit = record {
    cofactor = p.radical.cofactor ⊠ unit.cofactor;
    is = by R (w ∷ u ∷ v ∷ pow R e p.n ∷ p.radical.cofactor ∷ unit.cofactor ∷ [])
        (R.add_cong p.radical.is (R.add_cong (scale R (p.radical.cofactor ⊠ u) unit.is) (scale R (R.⊟ (p.radical.cofactor ⊠ unit.cofactor)) p.is))) (search reads depth 20 fits 6000) refl;
  }

  -- of an element that is coprime to its images after more than h steps, but not to that after h steps, both parts are no units
  pub both_parts : (w u v e : A) (h : ℕ) → ((m : ℕ) → h < m → Coprime R w (iter R σ m w)) → 0 < h → Divides R e w → Divides R e (iter R σ h w) → IsPart w u v e → Divides R v I → Divides R e I
  both_parts w u v e h far l d k p unit = coprime_unit R w (iter R σ h w) e d k (greatest_split R σ w e h p.n far l k (right_part w u v e p unit))

module _ (R S : Ring) (τ : Hom R S) where
  open S use {◌≈◌, ◌⊠◌}

  dvd-pow : (a b : S.A) (n : ℕ) → Divides S a b → Divides S (pow S a n) (pow S b n)
  dvd-pow a b zero d = dvd_refl S S.I
  dvd-pow a b (suc n) d = dvd-mul S (pow S a n) a (pow S b n) b (dvd-pow a b n d) d

  -- what divides a power of e divides, after a map of rings, that power of what the image of e divides
  pub radical_on : (w e : R.A) (v : S.A) (n : ℕ) → Divides R w (pow R e n) → Divides S (τ.on e) v → Divides S (τ.on w) (pow S v n)
  radical_on w e v n d k = dvd_trans S (τ.on w) (pow S (τ.on e) n) (pow S v n)
      (dvd_same S (τ.on w) (τ.on (pow R e n)) (τ.on w) (pow S (τ.on e) n) S.rfl (on-pow R S τ e n) (dvd_on R S τ w (pow R e n) d)) (dvd-pow (τ.on e) v n k)
