-- The laws of any commutative ring that follow at once from its record.
--   nat R n, pow R x n    the numeral n, the n-th power of x
--   O_add, I_mul, O_mul, mul_O, distrib_right    the laws of zero and one on either side, and the other distributive law
--   add4, mul_swap        (a + b) + (c + d) = (a + c) + (b + d), a (b c) = b (a c)
--   cancel, eq_of_sub     x + y = x + z gives y = z; x - y = 0 gives x = y
--   neg_is                a negative is what adds to zero
--   neg_add, neg_neg, neg_O, mul_neg, neg_mul    where a negative may go
--   nat-add, nat-mul, pow_cong, pow-add          numerals and powers
-- A proof of an identity needs none of these by name: see `ring` in Solver.
use Rattle.std.proofs.Common.{ℕ, zero, suc, ◌+◌, ◌*◌, add-zero, add-suc, zero-mul, suc-mul}
use Rattle.sg_algebra.specs.Ring.{Ring}

module _ (R : Ring) where
  open R use {A, ◌≈◌, ◌⊞◌, ◌⊠◌, ⊟, O, I, rfl, symm, trans, add_cong, mul_cong, neg_cong, add_assoc, add_comm, add_O, add_neg, mul_assoc, mul_comm, mul_I, distrib}

  abbrev pub nat : ℕ → A
  nat zero = O
  nat (suc n) = nat n ⊞ I

  abbrev pub pow : A → ℕ → A
  pow x zero = I
  pow x (suc n) = pow x n ⊠ x

  pub O_add : {x : A} → O ⊞ x ≈ x
  O_add = trans add_comm add_O

  pub I_mul : {x : A} → I ⊠ x ≈ x
  I_mul = trans mul_comm mul_I

  pub distrib_right : {x y z : A} → (x ⊞ y) ⊠ z ≈ x ⊠ z ⊞ y ⊠ z
  distrib_right = trans mul_comm (trans distrib (add_cong mul_comm mul_comm))

  pub add4 : {a b c d : A} → (a ⊞ b) ⊞ (c ⊞ d) ≈ (a ⊞ c) ⊞ (b ⊞ d)
  add4 = trans add_assoc (trans (add_cong rfl (trans (symm add_assoc) (trans (add_cong add_comm rfl) add_assoc))) (symm add_assoc))

  pub mul_swap : {a b c : A} → a ⊠ (b ⊠ c) ≈ b ⊠ (a ⊠ c)
  mul_swap = trans (symm mul_assoc) (trans (mul_cong mul_comm rfl) mul_assoc)

  pub cancel : {x y z : A} → x ⊞ y ≈ x ⊞ z → y ≈ z
  cancel {x} {y} {z} h = trans (symm (undo x y)) (trans (add_cong rfl h) (undo x z))
    where
      undo : (x y : A) → ⊟ x ⊞ (x ⊞ y) ≈ y
      undo x y = trans (symm add_assoc) (trans (add_cong (trans add_comm add_neg) rfl) O_add)

  pub mul_O : {x : A} → x ⊠ O ≈ O
  mul_O {x} = cancel {x = x ⊠ O} (trans (symm distrib) (trans (mul_cong rfl add_O) (symm add_O)))

  pub O_mul : {x : A} → O ⊠ x ≈ O
  O_mul = trans mul_comm mul_O

  pub neg_is : {x y : A} → x ⊞ y ≈ O → y ≈ ⊟ x
  neg_is h = cancel (trans h (symm add_neg))

  pub neg_add : {x y : A} → ⊟ (x ⊞ y) ≈ ⊟ x ⊞ ⊟ y
  neg_add = symm (neg_is (trans add4 (trans (add_cong add_neg add_neg) add_O)))

  pub neg_neg : {x : A} → ⊟ (⊟ x) ≈ x
  neg_neg = symm (neg_is (trans add_comm add_neg))

  pub neg_O : ⊟ O ≈ O
  neg_O = symm (neg_is add_O)

  pub mul_neg : {x y : A} → x ⊠ ⊟ y ≈ ⊟ (x ⊠ y)
  mul_neg = neg_is (trans (symm distrib) (trans (mul_cong rfl add_neg) mul_O))

  pub neg_mul : {x y : A} → ⊟ x ⊠ y ≈ ⊟ (x ⊠ y)
  neg_mul = trans mul_comm (trans mul_neg (neg_cong mul_comm))

  pub eq_of_sub : {x y : A} → x ⊞ ⊟ y ≈ O → x ≈ y
  eq_of_sub h = trans (neg_is (trans add_comm h)) neg_neg

  pub nat-add : (m n : ℕ) → nat (m + n) ≈ nat m ⊞ nat n
  nat-add m zero = rw add-zero (symm add_O)
  nat-add m (suc n) = rw add-suc (trans (add_cong (nat-add m n) rfl) add_assoc)

  pub nat-mul : (m n : ℕ) → nat (m * n) ≈ nat m ⊠ nat n
  nat-mul zero n = rw zero-mul (symm O_mul)
  nat-mul (suc m) n = rw suc-mul (trans (nat-add (m * n) n) (trans (add_cong (nat-mul m n) (symm I_mul)) (symm distrib_right)))

  pub pow_cong : {x y : A} (n : ℕ) → x ≈ y → pow x n ≈ pow y n
  pow_cong zero h = rfl
  pow_cong (suc n) h = mul_cong (pow_cong n h) h

  pub pow-add : (x : A) (m n : ℕ) → pow x (m + n) ≈ pow x m ⊠ pow x n
  pow-add x m zero = rw add-zero (symm mul_I)
  pow-add x m (suc n) = rw add-suc (trans (mul_cong (pow-add x m n) rfl) mul_assoc)
