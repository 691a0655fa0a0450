use Rattle.sg_algebra.specs.Coefficients.{Each}
use Rattle.sg_forms.specs.Listed.{IsTelling, IsPrintedMark}
use Rattle.sg_forms.specs.Marks.{marks_of}
use Rattle.sg_forms.proofs.frees.standings_in.Given as goal

abbrev pub invariant-loop-i : goal.invariant-loop-i
invariant-loop-i g l = record { telling : IsTelling l.built.facts.now l.built.free_gens l.i l.told.next l.told.standings; printed : Each (IsPrintedMark l.built.facts.now) (marks_of l.told.standings) }
