-- The samples of a seed: sums of one to three terms. The text of a term is `c*k^p`, then nothing, `*H(k)`, `*H(k)^2` or `*H(k,2)`,
-- then nothing, `/k` or `/(k+1)`; terms are joined with `+`.
--   first_state    the state of 64 bits before the first draw
--   next_state     the state after a draw
--   drawn          the number below a bound that a draw with this state after it gives
--   harmonic, harmonic_squares     H(k) and H(k,2)
--   with_sum       a tree times nothing, H(k), H(k)^2 or H(k,2)
--   over           a tree over nothing, k or k+1
--   Shape, shape   what a term is made of; the four draws for it, from the state before them
--   term           the term of these
--   after_shape    the state after these draws
--   with_terms     a tree and so many terms after it
--   sampled        the sample with this number
use Rattle.std.specs.Prelude.{ℕ, zero, suc, ◌+◌, ◌*◌, ◌/◌, ◌%◌, ◌^◌, ◌==◌, cond, pos}
use Rattle.sg_spec.specs.Tree.{Tree, numeral, here, add, mul, div, power, sum_from}

abbrev pub first_state : ℕ → ℕ → ℕ
first_state seed i = (seed * 1000003 + i) % 2 ^ 64

unfoldable pub next_state : ℕ → ℕ
next_state x = (x * 6364136223846793005 + 1442695040888963407) % 2 ^ 64

abbrev pub drawn : ℕ → ℕ → ℕ
drawn bound x = (x / 2 ^ 33) % bound

abbrev pub harmonic : Tree
harmonic = sum_from (pos 1) (div (numeral (pos 1)) here)

abbrev pub harmonic_squares : Tree
harmonic_squares = sum_from (pos 1) (div (numeral (pos 1)) (power here 2))

abbrev pub with_sum : ℕ → Tree → Tree
with_sum u t = cond (u == 0) t (mul t (cond (u == 1) harmonic (cond (u == 2) (power harmonic 2) harmonic_squares)))

abbrev pub over : ℕ → Tree → Tree
over v t = cond (v == 0) t (div t (cond (v == 1) here (add here (numeral (pos 1)))))

pub record Shape : Type 0 where
  pub coefficient : ℕ
  pub exponent : ℕ
  pub sum : ℕ
  pub divisor : ℕ

unfoldable pub shape : ℕ → Shape
shape x = record {
  coefficient = 1 + drawn 9 (next_state x);
  exponent = drawn 3 (next_state (next_state x));
  sum = drawn 4 (next_state (next_state (next_state x)));
  divisor = drawn 3 (next_state (next_state (next_state (next_state x))));
}

abbrev pub after_shape : ℕ → ℕ
after_shape x = next_state (next_state (next_state (next_state x)))

abbrev pub term : Shape → Tree
term s = over s.divisor (with_sum s.sum (mul (numeral (pos s.coefficient)) (power here s.exponent)))

abbrev pub with_terms : ℕ → ℕ → Tree → Tree
with_terms zero x t = t
with_terms (suc n) x t = with_terms n (after_shape x) (add t (term (shape x)))

unfoldable pub sampled : ℕ → ℕ → Tree
sampled seed i = let x = next_state (first_state seed i) in with_terms (drawn 3 x) (after_shape x) (term (shape x))
