-- What is done in the tower over the sums.
--   IsSuitedToSimplify, IsSimplestForm   an expression over the sums, and its simplest form
--   IsSuitedToCheck, IsCheckOf           two expressions over the sums, and whether the second telescopes the first
--   IsAnyTelling, AreTellings            what is told of the sums
use Rattle.std.specs.Prelude.{Bool, List}
use Rattle.sg_algebra.specs.Coefficients.{Each}
use Rattle.sg_expr.specs.Tree.{tree_of}
use Rattle.sg_expr.specs.declared.tree.Expr.{Expr}
use Rattle.sg_limits.specs.declared.inspection.Facts.{Facts}
use Rattle.sg_depth.specs.Commands.{sums_of}
use Rattle.sg_forms_theory.specs.Sums.{AreStandings}
use Rattle.sg_forms.specs.Wholes.{IsWhole}
use Rattle.sg_forms.specs.Marks.{marks_of}
use Rattle.sg_forms.specs.Listed.{IsListed, IsSimplestOf, IsPrintedForm, IsPrintedMark, IsCheck}
use Rattle.sg_forms.specs.declared.frees.Standing.{Standing}
use Rattle.sg_forms.specs.declared.simplest.Simplification.{Simplification}
use Rattle.sg_forms.specs.declared.checks.Check.{Check}
use Rattle.sg_forms.specs.declared.telling.Telling.{Telling}

abbrev pub IsSuitedToSimplify : Simplification → Facts → Type 0
IsSuitedToSimplify job facts = IsListed facts (tree_of job.expression)

abbrev pub IsSimplestForm : Simplification → Facts → Expr → Type 0
IsSimplestForm job facts h = IsSimplestOf facts (tree_of job.expression) (tree_of h) × IsPrintedForm facts (tree_of h)

abbrev pub IsSuitedToCheck : Check → Facts → Type 0
IsSuitedToCheck job facts = IsListed facts (tree_of job.summand) × IsListed facts (tree_of job.antidifference)

abbrev pub IsCheckOf : Check → Facts → Bool → Type 0
IsCheckOf job facts holds = IsCheck facts (tree_of job.summand) (tree_of job.antidifference) holds

abbrev pub AreTellings : Telling → Facts → List Standing → Type 0
AreTellings job facts sts = AreStandings IsWhole facts.start (sums_of facts) (marks_of sts) × Each (IsPrintedMark facts) (marks_of sts)

abbrev pub IsAnyTelling : Telling → Facts → Type 0
IsAnyTelling job facts = Unit {0}
