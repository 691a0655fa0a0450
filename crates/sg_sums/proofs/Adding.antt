-- One list added to another in its place.
--   IsPartSum x y i r    r is x + y at the first i places, and x behind them
use Rattle.std.proofs.Common.{◌≡◌, ℕ, zero, suc, ◌+◌, ◌<◌, ◌≤◌, refl, sym, ◌∙◌, ap, subst, List, [], ◌∷◌, ◌⊎◌, inl, inr, map, length, get_or, slice_set, arith}
use Rattle.sg_algebra.specs.Ring.{Ring}
use Rattle.sg_algebra.proofs.PolynomialRing.{coef-zip}
use Rattle.sg_tower_theory.proofs.Formal.{elements}
use Rattle.sg_tower.specs.Elements.{Reading, IsZero, IsSum}
use Rattle.sg_sums.specs.Polynomials.{at_place, PolySum}
use Rattle.sg_sums.proofs.Building.{at_read, at_past}

module _ {d : ℕ} {E : Type 0} (ρ : Reading d E) where
  abbrev R : Ring
  R = elements ρ.formal

  open R use {◌≈◌, ◌⊞◌, O, rfl, symm, trans, add_cong, add_O}

  pub record IsPartSum (x y : List E) (i : ℕ) (r : List E) : Type 0 where
    pub size : length r ≡ length x
    pub done : (k : ℕ) → k < i → at_place ρ r k ≈ at_place ρ x k ⊞ at_place ρ y k
    pub rest : (k : ℕ) → i ≤ k → at_place ρ r k ≡ at_place ρ x k

  pub part_start : (x y : List E) → IsPartSum x y 0 x
  part_start x y = record { size = refl; done = λ k l. absurd (omega arith); rest = λ k l. refl }

  set-length : (r : List E) (i : ℕ) (s : E) → length (slice_set r i s) ≡ length r
  set-length [] i s = refl
  set-length (a ∷ r) zero s = refl
  set-length (a ∷ r) (suc i) s = ap suc (set-length r i s)

  at-set : (r : List E) (i : ℕ) (s : E) → i < length r → at_place ρ (slice_set r i s) i ≡ ρ.of s
  at-set [] i s l = absurd (omega arith)
  at-set (a ∷ r) zero s l = refl
  at-set (a ∷ r) (suc i) s l = at-set r i s (omega arith)

  at-set_other : (r : List E) (i k : ℕ) (s : E) → ¬ (k ≡ i) → at_place ρ (slice_set r i s) k ≡ at_place ρ r k
  at-set_other [] i k s h = refl
  at-set_other (a ∷ r) zero zero s h = absurd (h refl)
  at-set_other (a ∷ r) zero (suc k) s h = refl
  at-set_other (a ∷ r) (suc i) zero s h = refl
  at-set_other (a ∷ r) (suc i) (suc k) s h = at-set_other r i k s (λ e. h (ap suc e))

  side : (k i : ℕ) → k < i + 1 → (k < i) ⊎ (k ≡ i)
  side k i l = grind arith

  pub part_zero : (x y r : List E) (i : ℕ) (b : E) → IsPartSum x y i r → i < length y → b ≡ get_or y i b → IsZero ρ b → IsPartSum x y (i + 1) r
  part_zero x y r i b p l e z = record { size = p.size; done = λ k m. at k (side k i m); rest = λ k m. p.rest k (omega arith) }
    where
      own : at_place ρ r i ≈ at_place ρ x i ⊞ at_place ρ y i
      own = rw (p.rest i (omega arith), at_read R ρ.of y i b l e) (symm (trans (add_cong rfl z) add_O))

      at : (k : ℕ) → (k < i) ⊎ (k ≡ i) → at_place ρ r k ≈ at_place ρ x k ⊞ at_place ρ y k
      at k (inl m) = p.done k m
      at k (inr m) = subst (λ (j : ℕ). at_place ρ r j ≈ at_place ρ x j ⊞ at_place ρ y j) (sym m) own

  pub part_next : (x y r new : List E) (i : ℕ) (a b s : E) → IsPartSum x y i r → i < length y → length y ≤ length x → a ≡ get_or r i a → b ≡ get_or y i b → IsSum ρ a b s → new ≡ slice_set r i s → IsPartSum x y (i + 1) new
  part_next x y r new i a b s p l m e f h n = rw n (record {
    size = set-length r i s ∙ p.size;
    done = λ k q. at k (side k i q);
    rest = λ k q. at-set_other r i k s (λ z. absurd (omega (arith, z, q))) ∙ p.rest k (omega arith);
  })
    where
      inside : i < length r
      inside = omega (arith, p.size)

      own : at_place ρ (slice_set r i s) i ≈ at_place ρ x i ⊞ at_place ρ y i
      own = rw (at-set r i s inside, sym (p.rest i (omega arith)), at_read R ρ.of r i a inside e, at_read R ρ.of y i b l f) h

      at : (k : ℕ) → (k < i) ⊎ (k ≡ i) → at_place ρ (slice_set r i s) k ≈ at_place ρ x k ⊞ at_place ρ y k
      at k (inl q) = rw (at-set_other r i k s (λ z. absurd (omega (arith, z, q)))) (p.done k q)
      at k (inr q) = subst (λ (j : ℕ). at_place ρ (slice_set r i s) j ≈ at_place ρ x j ⊞ at_place ρ y j) (sym q) own

  pub part_end : (x y r : List E) (i : ℕ) → IsPartSum x y i r → i ≡ length y → PolySum ρ x y r
  part_end x y r i p e = record { image = record { at = λ k. trans (at k (split k i)) (symm (coef-zip R (map ρ.of x) (map ρ.of y) k)) } }
    where
      split : (k i : ℕ) → (k < i) ⊎ (i ≤ k)
      split k i = grind arith

      at : (k : ℕ) → (k < i) ⊎ (i ≤ k) → at_place ρ r k ≈ at_place ρ x k ⊞ at_place ρ y k
      at k (inl l) = p.done k l
      at k (inr l) = rw (p.rest k l, at_past R ρ.of y k (omega (arith, e))) (symm add_O)
