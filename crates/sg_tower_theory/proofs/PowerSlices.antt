-- One more sum t, with σ(t) = t + β, in slices: the slice at n of the polynomials below n + 1 is the coefficient at n, on which the problem is that of the ring below.
--   below_space n     polynomials below n
--   power_slice n     the slice at n
use Rattle.std.proofs.Common.{◌≡◌, ℕ, suc, ◌≤◌, sym, subst, List, ◌⊎◌, inl, inr, arith}
use Rattle.sg_algebra.specs.Ring.{Ring}
use Rattle.sg_algebra.specs.Coefficients.{coef}
use Rattle.sg_algebra.proofs.Degree.{Below, below_same, below-add, below-neg, below-scale}
use Rattle.sg_tower_theory.proofs.Difference.{Difference}
use Rattle.sg_tower_theory.proofs.Above.{above, coefficient_at, monomials, monomial-at, monomial-past, monomial_cong, delta-top, delta-past}
use Rattle.sg_tower_theory.proofs.Slices.{Space, Slice, differences}

module _ {C R : Ring} (B : Difference C R) (β : R.A) where
  open R use {A, ◌≈◌, O, rfl}

  pub below_space : (n : ℕ) → Space (above B β) (Below R n)
  below_space n = record {
    same = λ x y h b. below_same R n x y h b;
    none = record { none_from = λ i l. rfl };
    add = λ x y b c. below-add R n x y b c;
    scaled = λ c x b. below-scale R n (B.κ.on c) x b;
    neg = λ x b. below-neg R n x b;
  }

  pub lower : (n : ℕ) (x : List A) → Below R (suc n) x → coef R x n ≈ O → Below R n x
  lower n x b z = record { none_from = λ i l. at i (side i l) }
    where
      side : (i : ℕ) → n ≤ i → (i ≡ n) ⊎ (suc n ≤ i)
      side i l = grind arith

      at : (i : ℕ) → (i ≡ n) ⊎ (suc n ≤ i) → coef R x i ≈ O
      at i (inl q) = subst (λ (j : ℕ). coef R x j ≈ O) (sym q) z
      at i (inr q) = b.none_from i q

  abbrev pub power_slice : (n : ℕ) → Slice B (above B β) (differences B) (differences (above B β)) (Below R (suc n)) (Below R n)
  power_slice n = record {
    before = below_space (suc n);
    part = record { linear = coefficient_at B β n; cong = λ x y h. h.image.at n };
    put = record { linear = monomials B β n; cong = monomial_cong B β n };
    after = lower n;
    outer_before = λ x b. delta-past B β n x b;
    put_before = λ h. record { none_from = λ i l. monomial-past B β n i h l };
    part-put = monomial-at B β n;
    part-outer = λ x b. delta-top B β n x b;
  }
