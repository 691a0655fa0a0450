-- Steps of Horner's rule, and of the lists that it goes over.
use Rattle.std.proofs.Common.{◌≡◌, ℕ, zero, suc, ◌+◌, ◌-◌, ◌<◌, ◌≤◌, refl, sym, ap, subst, List, [], ◌∷◌, map, length, drop, get_or, arith}
use Rattle.sg_algebra.specs.Ring.{Ring}
use Rattle.sg_algebra.specs.Coefficients.{coef}
use Rattle.sg_algebra.proofs.Solver.{by, scale, reads}
use Rattle.sg_algebra.proofs.PolynomialRing.{PolyR, X, cons-is, cons_cong, no_coefficient}
use Rattle.sg_algebra.proofs.Shift.{twist}
use Rattle.sg_tower_theory.proofs.Above.{monomial}
use Rattle.sg_tower_theory.proofs.Formal.{Element, elements, shifted}
use Rattle.sg_tower.specs.Elements.{Reading, raised, IsShifted, IsZero, IsCopy}
use Rattle.sg_sums.specs.Polynomials.{PolySum, PolyMultiple, PolyBehind, PolyMonomial}

-- the items from the place on are the item there and those behind
pub drop_step : {E : Type 0} (xs : List E) (k i : ℕ) (x : E) → i < length xs → k ≡ length xs - 1 - i → x ≡ get_or xs k x → drop (length xs - (i + 1)) xs ≡ x ∷ drop (length xs - i) xs
drop_step xs k i x l e h = subst (λ (a : ℕ). drop a xs ≡ x ∷ drop (length xs - i) xs) (first (length xs) k i l e) (subst (λ (b : ℕ). drop k xs ≡ x ∷ drop b xs) (second (length xs) k i l e) (at xs k x (inside (length xs) k i l e) h))
  where
    first : (n k i : ℕ) → i < n → k ≡ n - 1 - i → k ≡ n - (i + 1)
    first n k i l e = omega arith

    second : (n k i : ℕ) → i < n → k ≡ n - 1 - i → suc k ≡ n - i
    second n k i l e = omega arith

    inside : (n k i : ℕ) → i < n → k ≡ n - 1 - i → k < n
    inside n k i l e = omega arith

    at : {E : Type 0} (xs : List E) (k : ℕ) (x : E) → k < length xs → x ≡ get_or xs k x → drop k xs ≡ x ∷ drop (suc k) xs
    at [] k x l h = absurd (omega arith)
    at (y ∷ xs) zero x l h = ap (λ z. z ∷ xs) (sym h)
    at (y ∷ xs) (suc k) x l h = at xs k x (omega arith) h

pub drop_all : {E : Type 0} (xs : List E) (n : ℕ) → length xs ≤ n → drop n xs ≡ []
drop_all [] zero l = refl
drop_all [] (suc n) l = refl
drop_all (x ∷ xs) zero l = absurd (omega arith)
drop_all (x ∷ xs) (suc n) l = drop_all xs n (omega arith)

module _ {d : ℕ} {E : Type 0} (ρ : Reading d E) where
  abbrev R : Ring
  R = elements ρ.formal

  open R use {◌≈◌, ◌⊞◌, ◌⊠◌, ⊟, O, I, rfl, symm, trans, add_O}
  open PolyR R use {◌≈◌ as ◌≋◌, ◌⊞◌ as ◌⊕◌, ◌⊠◌ as ◌⊗◌, ⊟ as ⊖}

  abbrev P : Ring
  P = PolyR R

  -- ---- a + t x
  pub behind_is : (a : E) (x r : List E) → r ≡ a ∷ x → PolyBehind ρ a x r
  behind_is a x r e = rw e P.rfl

  -- ---- a t^n
  pub monomial_start : (a b : E) (r : List E) → IsCopy ρ a b → r ≡ b ∷ [] → PolyMonomial ρ 0 a r
  monomial_start a b r c e = rw e (cons_cong R (ρ.of b) (ρ.of a) [] [] c (P.rfl {x = []}))

  pub monomial_next : (a z : E) (r s : List E) (n : ℕ) → PolyMonomial ρ n a r → IsZero ρ z → PolyBehind ρ z r s → PolyMonomial ρ (n + 1) a s
  monomial_next a z r s n h none b = subst (λ (k : ℕ). PolyMonomial ρ k a s) (up n) (P.trans b (cons_cong R (ρ.of z) O (map ρ.of r) (monomial (shifted ρ.formal) O n (ρ.of a)) none h))
    where
      up : (n : ℕ) → suc n ≡ n + 1
      up n = omega arith

  -- ---- The shift
  module _ (β : E) where
    abbrev tw : List (Element ρ.formal) → List (Element ρ.formal)
    tw = twist R (shifted ρ.formal).σ (ρ.of β)

    point : ((ρ.of β) ∷ I ∷ []) ≋ ((ρ.of β) ∷ []) ⊕ X R
    point = record { image = record { at = go } }
      where
        go : (n : ℕ) → coef R ((ρ.of β) ∷ I ∷ []) n ≈ coef R (((ρ.of β) ∷ []) ⊕ X R) n
        go zero = symm add_O
        go (suc zero) = rfl
        go (suc (suc n)) = rfl

    horner_step : (s w t p x u b : List (Element ρ.formal)) → w ≋ s ⊕ x ⊗ t → p ≋ b ⊗ t → u ≋ b ⊕ x → w ⊕ p ≋ s ⊕ u ⊗ t
    horner_step s w t p x u b h j k = by P (s ∷ w ∷ t ∷ p ∷ x ∷ u ∷ b ∷ []) (P.add_cong h (P.add_cong j (scale P (⊖ t) k))) (search reads depth 20 fits 4000) refl

    pub shifted_next : (xs r moved product new : List E) (k i : ℕ) (x a b : E) → IsShifted (raised ρ β) (drop (length xs - i) xs) r → i < length xs → k ≡ length xs - 1 - i → x ≡ get_or xs k x → IsShifted ρ x a → PolyBehind ρ a r moved → PolyMultiple ρ (ρ.of β) r product
        → PolySum ρ moved product new → IsShifted (raised ρ β) (drop (length xs - (i + 1)) xs) new
    shifted_next xs r moved product new k i x a b h l e g s mv pr sm = rw (drop_step xs k i x l e g)
        (P.trans sm (horner_step ((shifted ρ.formal).σ.on (ρ.of x) ∷ []) (map ρ.of moved) (tw (map ρ.of (drop (length xs - i) xs))) (map ρ.of product) (X R) ((ρ.of β) ∷ I ∷ []) ((ρ.of β) ∷ [])
        (P.trans mv (P.trans (cons_cong R (ρ.of a) ((shifted ρ.formal).σ.on (ρ.of x)) (map ρ.of r) (tw (map ρ.of (drop (length xs - i) xs))) s h) (cons-is R ((shifted ρ.formal).σ.on (ρ.of x)) (tw (map ρ.of (drop (length xs - i) xs))))))
        (P.trans pr (P.mul_cong (P.rfl {x = (ρ.of β) ∷ []}) h)) point))

    pub shifted_start : (xs r : List E) → r ≡ [] → IsShifted (raised ρ β) (drop (length xs - 0) xs) r
    shifted_start xs r e = rw (e, drop_all xs (length xs - 0) (omega arith)) (P.rfl {x = []})

    pub shifted_end : (xs r : List E) (i : ℕ) → IsShifted (raised ρ β) (drop (length xs - i) xs) r → i ≡ length xs → IsShifted (raised ρ β) xs r
    shifted_end xs r i h e = subst (λ (k : ℕ). IsShifted (raised ρ β) (drop k xs) r) (none (length xs) i e) h
      where
        none : (n i : ℕ) → i ≡ n → n - i ≡ 0
        none n i e = omega arith

  -- ---- The product
  product_step : (w s y h z x r p q : List (Element ρ.formal)) → w ≋ s ⊗ y ⊕ h → h ≋ z ⊕ x ⊗ r → z ≋ [] → r ≋ p ⊗ y → q ≋ s ⊕ x ⊗ p → w ≋ q ⊗ y
  product_step w s y h z x r p q a b c e g = by P (w ∷ s ∷ y ∷ h ∷ z ∷ x ∷ r ∷ p ∷ q ∷ []) (P.add_cong a (P.add_cong b (P.add_cong c (P.add_cong (scale P x e) (scale P (⊖ y) g))))) (search reads depth 20 fits 4000) refl

  pub product_next : (xs ys r own higher new : List E) (k i : ℕ) (x z : E) → map ρ.of r ≋ map ρ.of (drop (length xs - i) xs) ⊗ map ρ.of ys → i < length xs → k ≡ length xs - 1 - i → x ≡ get_or xs k x → IsZero ρ z → PolyBehind ρ z r higher → PolyMultiple ρ (ρ.of x) ys own
      → PolySum ρ own higher new → map ρ.of new ≋ map ρ.of (drop (length xs - (i + 1)) xs) ⊗ map ρ.of ys
  product_next xs ys r own higher new k i x z h l e g none b w s = rw (drop_step xs k i x l e g)
      (product_step (map ρ.of new) (ρ.of x ∷ []) (map ρ.of ys) (map ρ.of higher) (O ∷ []) (X R) (map ρ.of r) (map ρ.of (drop (length xs - i) xs)) (ρ.of x ∷ map ρ.of (drop (length xs - i) xs))
      (P.trans s (P.add_cong w (P.rfl {x = map ρ.of higher})))
      (P.trans b (P.trans (cons_cong R (ρ.of z) O (map ρ.of r) (map ρ.of r) none (P.rfl {x = map ρ.of r})) (cons-is R O (map ρ.of r))))
      (no_coefficient R) h (cons-is R (ρ.of x) (map ρ.of (drop (length xs - i) xs))))

  pub product_start : (xs ys r : List E) → r ≡ [] → map ρ.of r ≋ map ρ.of (drop (length xs - 0) xs) ⊗ map ρ.of ys
  product_start xs ys r e = rw (e, drop_all xs (length xs - 0) (omega arith)) (P.rfl {x = []})

  pub product_end : (xs ys r : List E) (i : ℕ) → map ρ.of r ≋ map ρ.of (drop (length xs - i) xs) ⊗ map ρ.of ys → i ≡ length xs → map ρ.of r ≋ map ρ.of xs ⊗ map ρ.of ys
  product_end xs ys r i h e = subst (λ (k : ℕ). map ρ.of r ≋ map ρ.of (drop k xs) ⊗ map ρ.of ys) (none (length xs) i e) h
    where
      none : (n i : ℕ) → i ≡ n → n - i ≡ 0
      none n i e = omega arith
