use Rattle.std.proofs.Common.{◌≡◌, map, take}
use Rattle.sg_algebra.specs.Coefficients.{Each}
use Rattle.sg_expr.specs.Tree.{tree_of}
use Rattle.sg_forms.specs.Marks.{marks_of}
use Rattle.sg_top.specs.Lines.{standing_lines}
use Rattle.sg_top.specs.Output.{IsReadBack}
use Rattle.sg_top.proofs.tower.told_text.Given as goal

abbrev pub invariant-loop-i : goal.invariant-loop-i
invariant-loop-i l = record {
  text : l.text.items ≡ standing_lines l.start (map tree_of (take l.i l.sums)) (marks_of (take l.i l.told));
  read_back : Each IsReadBack (marks_of (take l.i l.told));
}
