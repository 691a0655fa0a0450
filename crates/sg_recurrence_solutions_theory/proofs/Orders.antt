-- Denominators of solutions of equations of any order s, over a domain with a map σ. An image of q is what σ makes of it, so many times.
--   below s q           the product of the first s images of q, from q itself on
--   OrderSides s a b q  the image of q after s steps divides a times the product before it, and q divides b times the product after it
--   far_below           where q is coprime to its images after more than m steps, the image after s + m is coprime to the first s images
--   order_step          where q is coprime to its images after more than m steps, and a to the image of b after s + m, a common divisor of
--                       q and its image after m steps is a unit
--   Far q m             q is coprime to each image of it after more than m steps
--   order_descend       q is so from m on, if it is so from some place on and a is coprime to all images of b past s + m
--   order_bound         what q divides times its images after m + 1 to m + s steps, q divides alone
use Rattle.std.proofs.Common.{ℕ, zero, suc}
use Rattle.sg_algebra.specs.Ring.{Ring, Hom}
use Rattle.sg_algebra.proofs.Divides.{Divides, dvd_trans, dvd_same, iter, iter-on, iter-mul, dvd_iter}
use Rattle.sg_algebra.proofs.Coprime.{Coprime, coprime_symm, coprime_dvd, coprime_unit, coprime_on, coprime_one, coprime_same, coprime-mul, gauss}
use Rattle.sg_algebra.proofs.Euclid.{Bezout, bezout_dvd, coprime_of_unit}

-- a sum that computes by its first number
abbrev pub plus : ℕ → ℕ → ℕ
plus zero m = m
plus (suc k) m = suc (plus k m)

module _ (R : Ring) (σ : Hom R R) where
  open R use {A, ◌≈◌, ◌⊞◌, ◌⊠◌, ⊟, O, I, rfl, symm, trans, add_cong, mul_cong, mul_comm}

  abbrev after : ℕ → A → A
  after n x = iter R σ n x

  abbrev pub below : ℕ → A → A
  below zero q = I
  below (suc n) q = q ⊠ σ.on (below n q)

  pub record OrderSides (s : ℕ) (a b q : A) : Type 0 where
    pub upper : Divides R (after s q) (a ⊠ below s q)
    pub lower : Divides R q (b ⊠ σ.on (below s q))

  iter_one : (n : ℕ) → after n I ≈ I
  iter_one zero = rfl
  iter_one (suc n) = trans (σ.on_cong (after n I) I (iter_one n)) σ.on-one

  pub far_below : (s m : ℕ) (q : A) → ((t : ℕ) → Coprime R q (after (suc t) (after m q))) → Coprime R (after s (after m q)) (below s q)
  far_below zero m q far = coprime_one R (after m q)
  far_below (suc s) m q far = coprime-mul R (after (suc s) (after m q)) q (σ.on (below s q)) (coprime_symm R q (after (suc s) (after m q)) (far s))
      (coprime_on R R σ (after s (after m q)) (below s q) (far_below s m q far))

  before_after : (s k : ℕ) (q : A) → ((t : ℕ) → Coprime R q (after t (after k q))) → Coprime R q (after k (below s q))
  before_after zero k q far = coprime_same R q I q (after k I) rfl (symm (iter_one k)) (coprime_one R q)
  before_after (suc s) k q far = coprime_same R q (after k q ⊠ after (suc k) (below s q)) q (after k (q ⊠ σ.on (below s q))) rfl
      (symm (trans (iter-mul R σ k q (σ.on (below s q))) (mul_cong rfl (iter-on R σ k (below s q)))))
      (coprime-mul R q (after k q) (after (suc k) (below s q)) (far zero)
      (before_after s (suc k) q (λ t. coprime_same R q (after (suc t) (after k q)) q (after t (after (suc k) q)) rfl (symm (iter-on R σ t (after k q))) (far (suc t)))))

  pub order_step : (s : ℕ) (a b q : A) → OrderSides s a b q → (m : ℕ) → Coprime R a (after s (after m b))
      → ((t : ℕ) → Coprime R q (after (suc t) (after m q)))
      → (h : A) → Divides R h q → Divides R h (after m q) → Divides R (after s h) I
  order_step s a b q sides m apart far h hq hm = coprime_unit R a (after s (after m b)) (after s h) left right apart
    where
      left : Divides R (after s h) a
      left = gauss R (after s h) (below s q) a
          (coprime_dvd R (after s (after m q)) (below s q) (after s h) (dvd_iter R σ s h (after m q) hm) (far_below s m q far))
          (dvd_trans R (after s h) (after s q) (below s q ⊠ a) (dvd_iter R σ s h q hq)
          (dvd_same R (after s q) (a ⊠ below s q) (after s q) (below s q ⊠ a) rfl mul_comm sides.upper))

      wide : Divides R (after m q) (after (suc m) (below s q) ⊠ after m b)
      wide = dvd_same R (after m q) (after m (b ⊠ σ.on (below s q))) (after m q) (after (suc m) (below s q) ⊠ after m b) rfl
          (trans (iter-mul R σ m b (σ.on (below s q))) (trans (mul_cong rfl (iter-on R σ m (below s q))) mul_comm))
          (dvd_iter R σ m q (b ⊠ σ.on (below s q)) sides.lower)

      later : Coprime R q (after (suc m) (below s q))
      later = before_after s (suc m) q (λ t. coprime_same R q (after (suc t) (after m q)) q (after t (after (suc m) q)) rfl (symm (iter-on R σ t (after m q))) (far t))

      right : Divides R (after s h) (after s (after m b))
      right = dvd_iter R σ s h (after m b)
          (gauss R h (after (suc m) (below s q)) (after m b) (coprime_dvd R q (after (suc m) (below s q)) h hq later)
          (dvd_trans R h (after m q) (after (suc m) (below s q) ⊠ after m b) hm wide))

module _ (R : Ring) (σ : Hom R R) (bez : (a b : R.A) → Bezout R a b) (back : (h : R.A) → Divides R (σ.on h) R.I → Divides R h R.I) where
  open R use {A, ◌⊠◌, I, rfl, symm}

  pub back_iter : (n : ℕ) (h : A) → Divides R (iter R σ n h) I → Divides R h I
  back_iter zero h d = d
  back_iter (suc n) h d = back_iter n h (back (iter R σ n h) d)

  abbrev pub Far : A → ℕ → Type 0
  Far q m = (t : ℕ) → Coprime R q (iter R σ (suc t) (iter R σ m q))

  pub order_descend : (s : ℕ) (a b q : A) → OrderSides R σ s a b q → (m : ℕ) → ((i : ℕ) → Coprime R a (iter R σ s (iter R σ (suc (plus i m)) b)))
      → (k : ℕ) → Far q (plus k m) → Far q m
  order_descend s a b q sides m apart zero far = far
  order_descend s a b q sides m apart (suc k) far = order_descend s a b q sides m apart k closer
    where
      closer : Far q (plus k m)
      closer zero =
          let g = bez q (iter R σ (suc (plus k m)) q) in
          let both = bezout_dvd R q (iter R σ (suc (plus k m)) q) g in
          coprime_of_unit R q (iter R σ (suc (plus k m)) q) g (back_iter s g.g (order_step R σ s a b q sides (suc (plus k m)) (apart k) far g.g both.0 both.1))
      closer (suc t) = coprime_same R q (iter R σ (suc t) (iter R σ (suc (plus k m)) q)) q (iter R σ (suc (suc t)) (iter R σ (plus k m) q)) rfl
          (iter-on R σ (suc t) (iter R σ (plus k m) q)) (far t)

  pub order_bound : (s m : ℕ) (p q : A) → Far q m → Divides R q (iter R σ (suc m) (below R σ s q) ⊠ p) → Divides R q p
  order_bound s m p q far d = gauss R q (iter R σ (suc m) (below R σ s q)) p
      (before_after R σ s (suc m) q (λ t. coprime_same R q (iter R σ (suc t) (iter R σ m q)) q (iter R σ t (iter R σ (suc m) q)) rfl (symm (iter-on R σ t (iter R σ m q))) (far t))) d
