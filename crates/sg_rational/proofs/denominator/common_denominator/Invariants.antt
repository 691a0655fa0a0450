use Rattle.std.proofs.Common.{◌≡◌, ℕ, ◌<◌, get_or, []}
use Rattle.sg_algebra.proofs.Polynomial.{zero_polynomial}
use Rattle.sg_poly.specs.Divisors.{◌∣ᵖ◌}
use Rattle.sg_poly.specs.Polynomials.{polynomial}
use Rattle.sg_rational.proofs.denominator.common_denominator.Given as goal

abbrev pub invariant-loop-i : goal.invariant-loop-i
invariant-loop-i g l = record {
  some : ¬ (polynomial g.F.Field.val l.v ≡ zero_polynomial);
  first : polynomial g.F.Field.val l.a.1 ∣ᵖ polynomial g.F.Field.val l.v;
  others : (j : ℕ) → j < l.i → polynomial g.F.Field.val (get_or l.fs j ([], [])).1 ∣ᵖ polynomial g.F.Field.val l.v;
}
