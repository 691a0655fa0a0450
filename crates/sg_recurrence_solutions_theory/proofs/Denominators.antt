-- The denominator q of a solution p/q, in lowest terms, of c y_0 + .. + a y_s = f, an equation of an order s from 1 on over a ring R with a
-- map σ, where greatest common divisors are combinations and what σ makes a unit of is one.
--   sides            the image of q after s steps divides a times the first s images of q, and q divides c times the next s
--   IsApartPast m    a is coprime to each image of c after more than s + m steps
--   far              then q is coprime to each image of it after more than m steps, if it is so from some place on
--   first_bound      and it divides the product of the first m + 1 images of c
--   last_bound       and its image after s + m steps divides the product of the first m + 1 images of a
--   unit             where a is coprime to each image of c after s and more steps, q is a unit
use Rattle.std.proofs.Common.{◌≡◌, ℕ, suc, ◌+◌, refl, subst, List, [], ◌∷◌, ◌++◌, length, arith}
use Rattle.std.proofs.lemmas.List.{length_push}
use Rattle.sg_algebra.specs.Ring.{Ring, Hom}
use Rattle.sg_algebra.proofs.Divides.{Divides, dvd_same, dvd_refl, iter}
use Rattle.sg_algebra.proofs.Coprime.{Coprime, gauss}
use Rattle.sg_algebra.proofs.Euclid.{Bezout}
use Rattle.sg_recurrence_solutions_theory.proofs.Orders.{below, OrderSides, far_below, order_step, order_descend, order_bound, Far, plus, back_iter}
use Rattle.sg_recurrence_solutions_theory.proofs.Unrolling.{total, image-image, unrolled_up, unrolled_down}

module _ (R : Ring) (σ : Hom R R) (L : Ring) (τ : Hom L L) (ι : Hom R L) (moves : (x : R.A) → L.◌≈◌ (τ.on (ι.on x)) (ι.on (σ.on x)))
    (injective : (a b : R.A) → L.◌≈◌ (ι.on a) (ι.on b) → R.◌≈◌ a b) (y : L.A) (p q : R.A) (lowest : Coprime R p q) (is : L.◌≈◌ (L.◌⊠◌ (ι.on q) y) (ι.on p))
    (c : R.A) (middle : List R.A) (a f : R.A) (equation : L.◌≈◌ (total R σ L τ ι moves y 0 (c ∷ (middle ++ a ∷ [])) 0) (ι.on f)) where
  abbrev pub order : ℕ
  order = suc (length middle)

  abbrev image : ℕ → R.A → R.A
  image n x = iter R σ n x

  count : length (middle ++ a ∷ []) ≡ suc (length middle)
  count = let e = length_push middle a in omega (arith, e)

  up : (m : ℕ) → Divides R q (R.◌⊠◌ (image (suc m) (below R σ order q)) (below R σ (suc m) c))
  up m = subst (λ (n : ℕ). Divides R q (R.◌⊠◌ (image (suc m) (below R σ n q)) (below R σ (suc m) c))) count
      (unrolled_up R σ L τ ι moves y p q is injective lowest c (middle ++ a ∷ []) f equation m)

  down : (m : ℕ) → Divides R (image (order + m) q) (R.◌⊠◌ (below R σ order q) (below R σ (suc m) a))
  down m = unrolled_down R σ L τ ι moves y p q is injective lowest (c ∷ middle) a f equation m

  one_factor : (x : R.A) → R.◌≈◌ (below R σ 1 x) x
  one_factor x = R.trans (R.mul_cong R.rfl σ.on-one) R.mul_I

  pub sides : OrderSides R σ order a c q
  sides = record {
    upper = dvd_same R (image (order + 0) q) (R.◌⊠◌ (below R σ order q) (below R σ 1 a)) (image order q) (R.◌⊠◌ a (below R σ order q))
        (subst (λ (n : ℕ). R.◌≈◌ (image n q) (image order q)) (let e : order ≡ order + 0 = omega arith in e) R.rfl)
        (R.trans R.mul_comm (R.mul_cong (one_factor a) R.rfl)) (down 0);
    lower = dvd_same R q (R.◌⊠◌ (image 1 (below R σ order q)) (below R σ 1 c)) q (R.◌⊠◌ c (σ.on (below R σ order q)))
        R.rfl (R.trans R.mul_comm (R.mul_cong (one_factor c) R.rfl)) (up 0);
  }

  module _ (bezout : (a b : R.A) → Bezout R a b) (back : (h : R.A) → Divides R (σ.on h) R.I → Divides R h R.I) where
    abbrev pub IsApartPast : ℕ → Type 0
    IsApartPast m = (i : ℕ) → Coprime R a (image order (image (suc (plus i m)) c))

    module _ (m : ℕ) (apart : IsApartPast m) (k : ℕ) (late : Far R σ bezout back q (plus k m)) where
      pub far : Far R σ bezout back q m
      far = order_descend R σ bezout back order a c q sides m apart k late

      pub first_bound : Divides R q (below R σ (suc m) c)
      first_bound = order_bound R σ bezout back order m (below R σ (suc m) c) q far (up m)

      pub last_bound : Divides R (image (order + m) q) (below R σ (suc m) a)
      last_bound =
          dvd_same R (image order (image m q)) (below R σ (suc m) a) (image (order + m) q) (below R σ (suc m) a) (image-image R σ order m (order + m) q refl) R.rfl
          (gauss R (image order (image m q)) (below R σ order q) (below R σ (suc m) a) (far_below R σ order m q far)
          (dvd_same R (image (order + m) q) (R.◌⊠◌ (below R σ order q) (below R σ (suc m) a)) (image order (image m q)) (R.◌⊠◌ (below R σ order q) (below R σ (suc m) a))
          (R.symm (image-image R σ order m (order + m) q refl)) R.rfl (down m)))

    pub unit : Coprime R a (image order c) → IsApartPast 0 → (k : ℕ) → Far R σ bezout back q (plus k 0) → Divides R q R.I
    unit here past k late =
        back_iter R σ bezout back order q
        (order_step R σ order a c q sides 0 here (far 0 past k late) q (dvd_refl R q) (dvd_refl R q))
