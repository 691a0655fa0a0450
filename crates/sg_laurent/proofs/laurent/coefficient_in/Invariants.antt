use Rattle.std.proofs.Common.{◌≡◌, take}
use Rattle.sg_algebra.specs.Coefficients.{Each}
use Rattle.sg_laurent.specs.Elements.{exponents}
use Rattle.sg_laurent.proofs.laurent.coefficient_in.Given as goal

abbrev pub invariant-loop-i : goal.invariant-loop-i
invariant-loop-i g l = Each (λ t. exponents t ≡ l.exps → ⊥) (take l.i l.terms)
