use Rattle.std.proofs.Common.{take, reverse}
use Rattle.sg_algebra.specs.Coefficients.{Each}
use Rattle.sg_tower_theory.proofs.Flat.{IsAfter}
use Rattle.sg_laurent.specs.Elements.{exponents}
use Rattle.sg_laurent.proofs.terms.place.Given as goal

abbrev pub invariant-loop-i : goal.invariant-loop-i
invariant-loop-i g l = Each (λ t. IsAfter (reverse (exponents t)) (reverse l.exps)) (take l.i l.terms)
