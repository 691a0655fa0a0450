-- Congruence in a ring: two elements whose difference is a multiple of h.
--   Modulo R h x y                h divides x - y
--   modulo_same, modulo_trans     equal elements are congruent; one congruence after another
--   modulo-add, modulo-scale      sums and multiples of congruent elements are congruent
--   modulo_unit                   where h divides 1, all are congruent
--   dvd_modulo                    what is congruent to a multiple of h is one
use Rattle.std.proofs.Common.{refl, [], ◌∷◌}
use Rattle.sg_algebra.specs.Ring.{Ring}
use Rattle.sg_algebra.proofs.Solver.{by, ring, reads}
use Rattle.sg_algebra.proofs.Divides.{Divides, dvd_same, dvd-add, dvd-sub, dvd-scale, dvd_O}

module _ (R : Ring) where
  open R use {A, ◌≈◌, ◌⊞◌, ◌⊠◌, ⊟, O, I, rfl, symm, trans, mul_cong, mul_I}

  abbrev pub Modulo : (h x y : A) → Type 0
  Modulo h x y = Divides R h (x ⊞ ⊟ y)

  pub modulo_same : (h x y : A) → x ≈ y → Modulo h x y
  modulo_same h x y e = dvd_same R h O h (x ⊞ ⊟ y) rfl (by R (x ∷ y ∷ []) (symm e) (search reads depth 12) refl) (dvd_O R h)

  pub modulo_trans : (h x y z : A) → Modulo h x y → Modulo h y z → Modulo h x z
  modulo_trans h x y z d e = dvd_same R h ((x ⊞ ⊟ y) ⊞ (y ⊞ ⊟ z)) h (x ⊞ ⊟ z) rfl (ring R (x ∷ y ∷ z ∷ []) (search reads depth 12) refl) (dvd-add R h (x ⊞ ⊟ y) (y ⊞ ⊟ z) d e)

  pub modulo-add : (h x y u v : A) → Modulo h x y → Modulo h u v → Modulo h (x ⊞ u) (y ⊞ v)
  modulo-add h x y u v d e =
      dvd_same R h ((x ⊞ ⊟ y) ⊞ (u ⊞ ⊟ v)) h ((x ⊞ u) ⊞ ⊟ (y ⊞ v)) rfl (ring R (x ∷ y ∷ u ∷ v ∷ []) (search reads depth 12) refl) (dvd-add R h (x ⊞ ⊟ y) (u ⊞ ⊟ v) d e)

  pub modulo-scale : (h c x y : A) → Modulo h x y → Modulo h (c ⊠ x) (c ⊠ y)
  modulo-scale h c x y d = dvd_same R h (c ⊠ (x ⊞ ⊟ y)) h (c ⊠ x ⊞ ⊟ (c ⊠ y)) rfl (ring R (c ∷ x ∷ y ∷ []) (search reads depth 12) refl) (dvd-scale R h c (x ⊞ ⊟ y) d)

  pub modulo_unit : (h x y : A) → Divides R h I → Modulo h x y
  modulo_unit h x y d = dvd_same R h ((x ⊞ ⊟ y) ⊠ I) h (x ⊞ ⊟ y) rfl mul_I (dvd-scale R h (x ⊞ ⊟ y) I d)

  pub dvd_modulo : (h x y : A) → Divides R h x → Modulo h x y → Divides R h y
  dvd_modulo h x y d e = dvd_same R h (x ⊞ ⊟ (x ⊞ ⊟ y)) h y rfl (ring R (x ∷ y ∷ []) (search reads depth 12) refl) (dvd-sub R h x (x ⊞ ⊟ y) d e)
