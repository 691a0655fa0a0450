use Rattle.std.proofs.Common.{◌≡◌, take, length}
use Rattle.sg_algebra.specs.Coefficients.{Each}
use Rattle.sg_laurent.specs.Elements.{exponents}
use Rattle.sg_products.specs.Supports.{Has, Grows}
use Rattle.sg_products.proofs.supports.with_terms.Given as goal

abbrev pub invariant-loop-i : goal.invariant-loop-i
invariant-loop-i g l = record {
  grows : Grows l.initial.row l.row;
  all : Each (λ t. Has (exponents t) l.row) (take l.i l.terms);
  fit : Each (λ e. length e ≡ l.n) l.row;
}
