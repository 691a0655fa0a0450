use Rattle.std.proofs.Common.{◌∙◌}
use Rattle.sg_syntax.specs.Drafts.{placed_of}
use Rattle.sg_text.specs.Scopes.{names_of}
use Rattle.sg_text.proofs.Tested.{divisor_in-is}
use Rattle.sg_text.proofs.check.is_divisor.Goals as goal

pub returns : goal.returns
returns c = c.has_divisor_form-test.ensures ∙ divisor_in-is (names_of c.args.scope) (placed_of c.args.node.now)
