use Rattle.sg_expr.specs.Tree.{tree_of}
use Rattle.sg_forms.proofs.Facts.{item-listed, items-sound, items-plain, items-printed}
use Rattle.sg_forms.proofs.Commands.{first-simplified, one-form-is}
use Rattle.sg_forms.proofs.simplest.simplified.Goals as goal

pub simplest-requires-clause-listed : goal.simplest-requires-clause-listed
simplest-requires-clause-listed c =
    item-listed c.args.facts.now c.args.items.now c.args.lower c.requires.admitted 0 c.get.result.now c.requires.some c.get.ensures

pub simplest-requires-clause-sound : goal.simplest-requires-clause-sound
simplest-requires-clause-sound c = items-sound c.args.facts.now c.args.items.now c.args.lower c.requires.admitted

pub simplest-requires-clause-no_letter : goal.simplest-requires-clause-no_letter
simplest-requires-clause-no_letter c = items-plain c.args.facts.now c.args.items.now c.args.lower c.requires.admitted

pub returns-clause-simplified : goal.returns-clause-simplified
returns-clause-simplified c = first-simplified c.args.facts.now c.args.items.now c.get.result.now c.args.lower c.requires.some c.get.ensures c.requires.admitted.facts_are (tree_of c.in_ok-h.h) c.in_ok-h.ensures.simplest

pub returns-clause-one_form : goal.returns-clause-one_form
returns-clause-one_form c = one-form-is c.args.facts.now c.args.items.now c.get.result.now c.args.lower c.requires.some c.get.ensures c.requires.admitted.facts_are (tree_of c.in_ok-h.h) c.in_ok-h.ensures.simplest

pub returns-clause-form : goal.returns-clause-form
returns-clause-form c =
    c.in_ok-h.ensures.printed (items-printed c.args.facts.now c.args.items.now c.args.lower c.requires.admitted)
