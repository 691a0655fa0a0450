-- Steps of the reduction of an equation a y(k+1) - b y = c for y = q g, where c is f times the right side of the equation for g.
--   Apart a b m                a(k) and b(k + m) are coprime
--   IsReduction A B a b q f    the equation is that of A and B, reduced
--   Advances a b q f a' b' q' f'    the second equation is one that the first is reduced to, and it stays apart where the first is
use Rattle.std.specs.Prelude.{◌≡◌, ℕ}
use Rattle.sg_algebra.proofs.Divides.{iter}
use Rattle.sg_algebra.proofs.Coprime.{Coprime}
use Rattle.sg_algebra.proofs.Polynomial.{Polynomial, PolynomialR, PolynomialD, zero_polynomial}
use Rattle.sg_first_order_theory.proofs.Reduction.{Reduction}
use Rattle.sg_first_order_theory.proofs.Next.{nextH}

module _ {d : ℕ} where
  abbrev pub Apart : Polynomial d → Polynomial d → ℕ → Type 0
  Apart a b m = Coprime (PolynomialR d) a (iter (PolynomialR d) (nextH d) m b)

  abbrev pub IsReduction : (A B a b q f : Polynomial d) → Type 0
  IsReduction A B a b q f = Reduction (PolynomialD d) (nextH d) A B a b q f

  pub record Advances (a b q f a' b' q' f' : Polynomial d) : Type 0 where
    pub reduction : (A B : Polynomial d) → IsReduction A B a b q f → IsReduction A B a' b' q' f'
    pub left : ¬ (a ≡ zero_polynomial) → ¬ (a' ≡ zero_polynomial)
    pub keeps : (m : ℕ) → Apart a b m → Apart a' b' m
