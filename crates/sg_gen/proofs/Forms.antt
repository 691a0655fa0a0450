-- A sample is an expression as it is read, without a parameter.
--   sampled-form    so it is
use Rattle.std.specs.Prelude.{ℕ, zero, suc, ◌==◌, cond, Bool, true, false, pos, ◌≤ℤ◌}
use Rattle.std.proofs.Common.{refl, arith}
use Rattle.std.proofs.lemmas.Int.{ints}
use Rattle.sg_spec.specs.Printing.{InForm}
use Rattle.sg_spec.specs.Tree.{Tree, numeral, here, add, mul, div, power}
use Rattle.sg_gen.specs.Sample.{first_state, next_state, drawn, shape, after_shape, harmonic, harmonic_squares, term, with_terms, sampled, Shape}

at-least : (n : ℕ) → pos 0 ≤ℤ pos n
at-least n = omega (arith, ints)

harmonic-form : InForm false false harmonic
harmonic-form = (refl, refl, (at-least 1, tt, refl))

squares-form : InForm false false harmonic_squares
squares-form = (refl, refl, (at-least 1, tt, refl))

sum-form : (a b c : Bool) (t : Tree) → InForm false false t → InForm false false (cond a t (mul t (cond b harmonic (cond c (power harmonic 2) harmonic_squares))))
sum-form true b c t f = f
sum-form false true c t f = (f, harmonic-form)
sum-form false false true t f = (f, harmonic-form)
sum-form false false false t f = (f, squares-form)

over-form : (a b : Bool) (t : Tree) → InForm false false t → InForm false false (cond a t (div t (cond b here (add here (numeral (pos 1))))))
over-form true b t f = f
over-form false true t f = (f, tt, refl)
over-form false false t f = (f, (tt, at-least 1), refl)

term-form : (s : Shape) → InForm false false (term s)
term-form s = over-form (s.divisor == 0) (s.divisor == 1) _ (sum-form (s.sum == 0) (s.sum == 1) (s.sum == 2) _ (at-least s.coefficient, tt))

terms-form : (n x : ℕ) (t : Tree) → InForm false false t → InForm false false (with_terms n x t)
terms-form zero x t f = f
terms-form (suc n) x t f = terms-form n (after_shape x) (add t (term (shape x))) (f, term-form (shape x))

pub sampled-form : (seed i : ℕ) → InForm false false (sampled seed i)
unfolding sampled
sampled-form seed i = terms-form (drawn 3 (next_state (first_state seed i))) (after_shape (next_state (first_state seed i))) _ (term-form (shape (next_state (first_state seed i))))
