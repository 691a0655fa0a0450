use Rattle.std.proofs.Common.{map}
use Rattle.sg_expr.specs.Tree.{tree_of}
use Rattle.sg_top.proofs.Parted.{all_known}
use Rattle.sg_top.proofs.forms.tested.Goals as goal

pub inspect-requires-clause-form : goal.inspect-requires-clause-form
inspect-requires-clause-form c = all_known (map tree_of c.args.items.now) c.requires.form
