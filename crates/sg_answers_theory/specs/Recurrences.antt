-- Recurrences of a summand in its parameter n, in values; `recur` says that there are none of small order.
--   shifts_from i m f     f(n + i), f(n + i + 1), .., m of them
--   shifts J f            f(n), f(n + 1), .., f(n + J)
--   allowed_in es         what expressions over the products and sums of the expressions es are built of, the parameter too
--   combined cs n u       c_0(n) u_0 + c_1(n) u_1 + .., where cs are the coefficients of these polynomials, the lowest first; none where
--                         some u has no value
--   coefficient cs i j    the coefficient of c_i at n^j; 0 past the end
--   AreSome cs            one of them isn't 0
--   IsLateRelation        c_0(n) f(n, k) + .. + c_J(n) f(n + J, k) is g(n, k + 1) - g(n, k), at each k from some place on, and for it at
--                         each n from some number on, which may hang on k
--   NoRec f J             there is none of order J with an expression g over the products and sums of f(n), .., f(n + J) and the
--                         parameter, in whose divisors no sum stands
use Rattle.std.specs.Prelude.{◌≡◌, ◌≢◌, ℕ, zero, suc, true, ℤ, pos, ◌+ℤ◌, ◌≤ℤ◌, List, [], ◌∷◌, length, get_or, Option, Some}
use Rattle.sg_algebra.specs.Coefficients.{eval}
use Rattle.sg_algebra.proofs.Whole.{ℤR}
use Rattle.sg_spec.specs.Fraction.{Fraction, whole}
use Rattle.sg_spec.specs.Tree.{Tree}
use Rattle.sg_spec.specs.Value.{val, both, sum_of, product_of, SameValue}
use Rattle.sg_spec.specs.Generators.{Allowed, BuiltOver, prods, sums}
use Rattle.sg_spec.specs.Parameter.{substituted}
use Rattle.sg_spec.specs.Telescoping.{difference_of}

abbrev pub shifts_from : ℕ → ℕ → Tree → List Tree
shifts_from i zero f = []
shifts_from i (suc m) f = substituted i f ∷ shifts_from (suc i) m f

abbrev pub shifts : ℕ → Tree → List Tree
shifts J f = shifts_from 0 (suc J) f

abbrev pub allowed_in : List Tree → Allowed
allowed_in es = record { parameter = true; products = prods es; sums = sums es }

abbrev pub combined : List (List ℤ) → ℤ → (ℕ → Option Fraction) → Option Fraction
combined [] n u = Some (whole (pos 0))
combined (c ∷ cs) n u = both sum_of (both product_of (Some (whole (eval ℤR c n))) (u 0)) (combined cs n (λ i. u (suc i)))

abbrev pub coefficient : List (List ℤ) → ℕ → ℕ → ℤ
coefficient cs i j = get_or (get_or cs i []) j (pos 0)

abbrev pub AreSome : List (List ℤ) → Type 0
AreSome cs = (i : ℕ) × (j : ℕ) × (coefficient cs i j ≢ pos 0)

pub record IsLateRelation (allowed : Allowed) (f : Tree) (J : ℕ) (cs : List (List ℤ)) (g : Tree) (K : ℤ) : Type 0 where
  pub order : length cs ≡ suc J
  pub some : AreSome cs
  pub over : BuiltOver allowed g
  pub holds : (k : ℤ) → K ≤ℤ k → (B : ℤ) × ((n : ℤ) → pos 0 ≤ℤ n → B ≤ℤ n
      → SameValue (combined cs n (λ i. val f (n +ℤ pos i) k)) (both difference_of (val g n (k +ℤ pos 1)) (val g n k)))

abbrev pub NoRec : Tree → ℕ → Type 0
NoRec f J = (cs : List (List ℤ)) (g : Tree) (K : ℤ) → ¬ IsLateRelation (allowed_in (shifts J f)) f J cs g K
