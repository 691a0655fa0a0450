-- Powers with whole exponents in a field, and products of powers of the elements of a list.
--   Some F x           x isn't 0
--   power-suc, power-pred, power-add, power-mul, mul-power, power_ne    the laws
--   powers-sum, powers-multiple     the laws of exponents for products of powers
use Rattle.std.proofs.Common.{ℕ, zero, suc, refl, List, [], ◌∷◌, ℤ, pos, negsuc, ◌+ℤ◌, ◌*ℤ◌}
use lib.IntN.{suc_ℤ, pred_ℤ, suc_ℤ-+ℤ, pred_ℤ-+ℤ, suc_ℤ-*ℤ, pred_ℤ-*ℤ, +ℤ_idl, +ℤ_comm, zero-*ℤ, neg_ℤ}
use Rattle.sg_algebra.specs.Ring.{Field}
use Rattle.sg_algebra.specs.Coefficients.{Each}
use Rattle.sg_tower_theory.specs.Powers.{power as powerF, powers as powersF}
use Rattle.sg_relations_theory.specs.Rows.{sum_row, multiple_row}
use Rattle.sg_algebra.proofs.Ring.{pow, I_mul}
use Rattle.sg_algebra.proofs.Solver.{by, ring, scale, reads}
use Rattle.sg_algebra.proofs.Field.{domain, product_ne, inv_ne, inv_is}

-- a statement holds of all whole numbers, if it does of 0 and goes up and down by one
up_down : (P : ℤ → Type 0) → P (pos 0) → ((z : ℤ) → P z → P (suc_ℤ z)) → ((z : ℤ) → P z → P (pred_ℤ z)) → (z : ℤ) → P z
up_down P o u d (pos zero) = o
up_down P o u d (pos (suc n)) = u (pos n) (up_down P o u d (pos n))
up_down P o u d (negsuc zero) = d (pos zero) o
up_down P o u d (negsuc (suc n)) = d (negsuc n) (up_down P o u d (negsuc n))

module _ (F : Field) where
  open F use {R, inv, mul_inv, inv_cong, one_ne}
  open R use {A, ◌≈◌, ◌⊞◌, ◌⊠◌, ⊟, O, I, rfl, symm, trans, add_cong, mul_cong, mul_comm, mul_I, mul_assoc}

  abbrev power : A → ℤ → A
  power = powerF F

  abbrev powers : List A → List ℤ → A
  powers = powersF F

  abbrev pub Some : A → Type 0
  Some x = ¬ (x ≈ O)

  pow_ne : (x : A) (n : ℕ) → Some x → Some (pow R x n)
  pow_ne x zero h = one_ne
  pow_ne x (suc n) h = product_ne (domain F) (pow_ne x n h) h

  pub power_ne : (x : A) (e : ℤ) → Some x → Some (power x e)
  power_ne x (pos n) h = pow_ne x n h
  power_ne x (negsuc n) h = pow_ne (inv x) (suc n) (inv_ne F x h)

  pub powers_ne : (xs : List A) (es : List ℤ) → Each Some xs → Some (powers xs es)
  powers_ne [] es h = one_ne
  powers_ne (x ∷ xs) [] h = one_ne
  powers_ne (x ∷ xs) (e ∷ es) h = product_ne (domain F) (power_ne x e h.0) (powers_ne xs es h.1)

  down_up : (x y : A) → Some x → (y ⊠ inv x) ⊠ x ≈ y
  down_up x y h = by R (x ∷ y ∷ inv x ∷ []) (scale R y (mul_inv x h)) (search reads depth 16) refl

  pub power-suc : (x : A) (e : ℤ) → Some x → power x (suc_ℤ e) ≈ power x e ⊠ x
  power-suc x (pos n) h = rfl
  power-suc x (negsuc zero) h = symm (down_up x I h)
  power-suc x (negsuc (suc n)) h = symm (down_up x (pow R (inv x) (suc n)) h)

  pub power-pred : (x : A) (e : ℤ) → Some x → power x (pred_ℤ e) ≈ power x e ⊠ inv x
  power-pred x (pos zero) h = rfl
  power-pred x (pos (suc n)) h = by R (x ∷ pow R x n ∷ inv x ∷ []) (scale R (⊟ (pow R x n)) (mul_inv x h)) (search reads depth 16) refl
  power-pred x (negsuc n) h = rfl

  pub power-add : (x : A) (e f : ℤ) → Some x → power x (e +ℤ f) ≈ power x e ⊠ power x f
  power-add x e f h = up_down (λ e. power x (e +ℤ f) ≈ power x e ⊠ power x f)
      (rw (+ℤ_idl f) (symm (I_mul R)))
      (λ z k. rw (suc_ℤ-+ℤ z f) (trans (power-suc x (z +ℤ f) h) (trans (mul_cong k rfl) (trans (swap (power x z) (power x f) x) (mul_cong (symm (power-suc x z h)) rfl)))))
      (λ z k. rw (pred_ℤ-+ℤ z f) (trans (power-pred x (z +ℤ f) h) (trans (mul_cong k rfl) (trans (swap (power x z) (power x f) (inv x)) (mul_cong (symm (power-pred x z h)) rfl)))))
      e
    where
      swap : (a b c : A) → (a ⊠ b) ⊠ c ≈ (a ⊠ c) ⊠ b
      swap a b c = ring R (a ∷ b ∷ c ∷ []) (search reads depth 16) refl

  pub power_cong : (x y : A) (e : ℤ) → x ≈ y → power x e ≈ power y e
  power_cong x y (pos n) h = go n
    where
      go : (n : ℕ) → pow R x n ≈ pow R y n
      go zero = rfl
      go (suc n) = mul_cong (go n) h
  power_cong x y (negsuc n) h = go (suc n)
    where
      go : (n : ℕ) → pow R (inv x) n ≈ pow R (inv y) n
      go zero = rfl
      go (suc n) = mul_cong (go n) (inv_cong h)

  pub one-power : (e : ℤ) → power I e ≈ I
  one-power e = up_down (λ e. power I e ≈ I) rfl
      (λ z k. trans (power-suc I z one_ne) (trans mul_I k))
      (λ z k. trans (power-pred I z one_ne) (trans (mul_cong k one_inv) mul_I))
      e
    where
      one_inv : inv I ≈ I
      one_inv = symm (inv_is F I I one_ne mul_I)

  pub mul-power : (x y : A) (e : ℤ) → Some x → Some y → power (x ⊠ y) e ≈ power x e ⊠ power y e
  mul-power x y e h k = up_down (λ e. power (x ⊠ y) e ≈ power x e ⊠ power y e) (symm mul_I)
      (λ z p. trans (power-suc (x ⊠ y) z xy) (trans (mul_cong p rfl) (trans (four (power x z) (power y z) x y) (mul_cong (symm (power-suc x z h)) (symm (power-suc y z k))))))
      (λ z p. trans (power-pred (x ⊠ y) z xy) (trans (mul_cong p inverse) (trans (four (power x z) (power y z) (inv x) (inv y)) (mul_cong (symm (power-pred x z h)) (symm (power-pred y z k))))))
      e
    where
      xy : Some (x ⊠ y)
      xy = product_ne (domain F) h k

      four : (a b c d : A) → (a ⊠ b) ⊠ (c ⊠ d) ≈ (a ⊠ c) ⊠ (b ⊠ d)
      four a b c d = ring R (a ∷ b ∷ c ∷ d ∷ []) (search reads depth 16) refl

      inverse : inv (x ⊠ y) ≈ inv x ⊠ inv y
      inverse = symm (inv_is F (x ⊠ y) (inv x ⊠ inv y) xy (by R (x ∷ y ∷ inv x ∷ inv y ∷ []) (mul_cong (mul_inv x h) (mul_inv y k)) (search reads depth 16) refl))

  pub power-neg_one : (x : A) (e : ℤ) → Some x → power x (neg_ℤ e) ≈ inv (power x e)
  power-neg_one x e h = inv_is F (power x e) (power x (neg_ℤ e)) (power_ne x e h) (trans (symm (power-add x e (neg_ℤ e) h)) (rw (lib.IntN.+ℤ_invr e) rfl))

  pub power-mul : (x : A) (e f : ℤ) → Some x → power x (f *ℤ e) ≈ power (power x e) f
  power-mul x e f h = up_down (λ f. power x (f *ℤ e) ≈ power (power x e) f)
      (rw (zero-*ℤ e) rfl)
      (λ z k. rw (suc_ℤ-*ℤ z e) (trans (power-add x (z *ℤ e) e h) (trans (mul_cong k rfl) (symm (power-suc (power x e) z (power_ne x e h))))))
      (λ z k. rw (pred_ℤ-*ℤ z e) (trans (power-add x (z *ℤ e) (neg_ℤ e) h) (trans (mul_cong k (power-neg_one x e h)) (symm (power-pred (power x e) z (power_ne x e h))))))
      f

  pub powers-sum : (xs : List A) (e f : List ℤ) → Each Some xs → powers xs (sum_row e f) ≈ powers xs e ⊠ powers xs f
  powers-sum [] e f h = symm mul_I
  powers-sum (x ∷ xs) [] f h = symm (I_mul R)
  powers-sum (x ∷ xs) (e ∷ es) [] h = symm mul_I
  powers-sum (x ∷ xs) (e ∷ es) (f ∷ fs) h =
      trans (mul_cong (power-add x e f h.0) (powers-sum xs es fs h.1))
      (ring R (power x e ∷ power x f ∷ powers xs es ∷ powers xs fs ∷ []) (search reads depth 16) refl)

  pub powers-multiple : (xs : List A) (c : ℤ) (e : List ℤ) → Each Some xs → powers xs (multiple_row c e) ≈ power (powers xs e) c
  powers-multiple [] c e h = symm (one-power c)
  powers-multiple (x ∷ xs) c [] h = symm (one-power c)
  powers-multiple (x ∷ xs) c (e ∷ es) h =
      trans (mul_cong (power-mul x e c h.0) (powers-multiple xs c es h.1)) (symm (mul-power (power x e) (powers xs es) c (power_ne x e h.0) (powers_ne xs es h.1)))
