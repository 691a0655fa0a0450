-- What holds in every domain and in every field.
--   product_ne      a product of two that aren't zero isn't zero
--   alike           equality is decided, where equality to zero is
--   domain F        a field is a domain: `field_cancel` takes a factor away
--   inv_is          the inverse is what multiplies to one
--   quotient_is     z y = x gives z = x / y
--   inv_ne, inv-mul, inv-one, inv-inv     inverses that aren't zero, of a product, of one, of an inverse
-- A proof of an identity with quotients needs none of these by name: see `field` in FieldSolver.
use Rattle.std.proofs.Common.{refl, [], ◌∷◌}
use Rattle.sg_algebra.specs.Ring.{Ring, Domain, Field}
use Rattle.sg_algebra.proofs.Ring.{mul_O, eq_of_sub}
use Rattle.sg_algebra.proofs.Solver.{by, scale, reads}

module _ (R : Ring) (is_zero : (x : R.A) → Dec (R.◌≈◌ x R.O)) where
  open R use {A, ◌≈◌, ◌⊞◌, ⊟, rfl, trans, add_cong, add_neg}

  pub alike : (x y : A) → Dec (x ≈ y)
  alike x y = elim (is_zero (x ⊞ ⊟ y)) [ yes h ↦ yes (eq_of_sub R h) | no h ↦ no (λ e. h (trans (add_cong e rfl) add_neg)) ]

module _ (D : Domain) where
  open D use {R, cancel_mul}
  open R use {A, ◌≈◌, ◌⊠◌, O, symm, trans}

  pub product_ne : {x y : A} → ¬ (x ≈ O) → ¬ (y ≈ O) → ¬ (x ⊠ y ≈ O)
  product_ne h k e = k (cancel_mul h (trans e (symm (mul_O R))))

module _ (F : Field) where
  open F use {R, is_zero, one_ne, inv, mul_inv}
  open R use {A, ◌≈◌, ◌⊞◌, ◌⊠◌, ⊟, O, I, rfl, symm, trans, add_cong, mul_cong, mul_comm, mul_I}

  pub field_cancel : {c x y : A} → ¬ (c ≈ O) → c ⊠ x ≈ c ⊠ y → x ≈ y
  field_cancel {c} {x} {y} n h = by R (c ∷ x ∷ y ∷ inv c ∷ [])
      (add_cong (scale R (inv c) h) (scale R (y ⊞ ⊟ x) (mul_inv c n))) (search reads depth 20) refl

  abbrev pub domain : Domain
  domain = record { R = R; is_zero = is_zero; one_ne = one_ne; cancel_mul = field_cancel }

  pub inv_is : (x y : A) → ¬ (x ≈ O) → x ⊠ y ≈ I → y ≈ inv x
  inv_is x y h e = field_cancel h (trans e (symm (mul_inv x h)))

  pub quotient_is : (x y z : A) → ¬ (y ≈ O) → z ⊠ y ≈ x → z ≈ x ⊠ inv y
  quotient_is x y z h e = by R (x ∷ y ∷ z ∷ inv y ∷ []) (add_cong (scale R (inv y) e) (scale R (⊟ z) (mul_inv y h))) (search reads depth 16) refl

  pub inv_ne : (x : A) → ¬ (x ≈ O) → ¬ (inv x ≈ O)
  inv_ne x h e = one_ne (trans (symm (mul_inv x h)) (trans (mul_cong rfl e) (mul_O R)))

  pub inv-mul : (x y : A) → ¬ (x ≈ O) → ¬ (y ≈ O) → inv (x ⊠ y) ≈ inv x ⊠ inv y
  inv-mul x y h k = symm (inv_is (x ⊠ y) (inv x ⊠ inv y) (product_ne domain h k)
      (by R (x ∷ y ∷ inv x ∷ inv y ∷ []) (mul_cong (mul_inv x h) (mul_inv y k)) (search reads depth 16) refl))

  pub inv-one : inv I ≈ I
  inv-one = symm (inv_is I I one_ne mul_I)

  pub inv-inv : (x : A) → ¬ (x ≈ O) → inv (inv x) ≈ x
  inv-inv x h = symm (inv_is (inv x) x (inv_ne x h) (trans mul_comm (mul_inv x h)))
