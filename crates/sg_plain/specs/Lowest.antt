-- Whole coefficients over one denominator, in lowest terms.
--   falling_at cs x          the value of the polynomial with these coefficients, the highest first
--   turned cs                the list from its end
--   times g ns               each of the numbers times g
--   IsSummed F a ns e        the polynomial with the coefficients ns over e, in lowest terms, is 0 at a - 1 and grows by F(k) at each k
--   IsReduced cs d ns e       the numbers cs over d are the numbers ns over e, and these have no common divisor
use Rattle.std.specs.Prelude.{◌≡◌, List, [], ◌∷◌, ◌++◌, length, map, ℤ, pos, ◌+ℤ◌, ◌-ℤ◌, ◌*ℤ◌, ◌<ℤ◌, unsigned_abs}
use Rattle.sg_algebra.proofs.Ring.{pow}
use Rattle.sg_algebra.proofs.Whole.{ℤR}
use Rattle.sg_canonical.specs.Whole.{common_divisor}

abbrev pub falling_at : List ℤ → ℤ → ℤ
falling_at [] x = pos 0
falling_at (c ∷ cs) x = c *ℤ pow ℤR x (length cs) +ℤ falling_at cs x

abbrev pub turned : List ℤ → List ℤ
turned [] = []
turned (c ∷ cs) = turned cs ++ (c ∷ [])

abbrev pub times : ℤ → List ℤ → List ℤ
times g ns = map (λ n. n *ℤ g) ns

pub record IsReduced (cs : List ℤ) (d : ℤ) (ns : List ℤ) (e : ℤ) : Type 0 where
  pub divisor : ℤ
  pub some : pos 0 <ℤ divisor
  pub numbers : times divisor ns ≡ cs
  pub denominator : e *ℤ divisor ≡ d
  pub positive : pos 0 <ℤ e
  pub lowest : common_divisor ns (unsigned_abs e) ≡ 1

pub record IsSummed (F : ℤ → ℤ) (a : ℤ) (ns : List ℤ) (e : ℤ) : Type 0 where
  pub positive : pos 0 <ℤ e
  pub lowest : common_divisor ns (unsigned_abs e) ≡ 1
  pub start : falling_at ns (a -ℤ pos 1) ≡ pos 0
  pub step : (k : ℤ) → falling_at ns k ≡ falling_at ns (k -ℤ pos 1) +ℤ e *ℤ F k
