-- What is told of a sum.
--   mark_of st      None for a new sum, else the tree of the expression that it is
--   marks_of sts    so for each
use Rattle.std.specs.Prelude.{Option, Some, None, List, map}
use Rattle.sg_spec.specs.Tree.{Tree}
use Rattle.sg_expr.specs.Tree.{tree_of}
use Rattle.sg_forms.specs.declared.frees.Standing.{Standing}
use Rattle.sg_forms.specs.declared.frees.Standing.TheVariants.{Free, Expressed}

abbrev pub mark_of : Standing → Option Tree
mark_of Free = None
mark_of (Expressed h) = Some (tree_of h)

abbrev pub marks_of : List Standing → List (Option Tree)
marks_of sts = map mark_of sts
