use Rattle.std.proofs.Common.{arith}
use Rattle.sg_forms.proofs.Facts.{item-listed, items-sound, items-plain}
use Rattle.sg_forms.proofs.Commands.{check-yes, check-no}
use Rattle.sg_forms.proofs.checks.checked.Goals as goal

pub telescopes-requires-clause-summand : goal.telescopes-requires-clause-summand
telescopes-requires-clause-summand c =
    item-listed c.args.facts.now c.args.items.now c.args.lower c.requires.admitted 0 c.get.result.now (omega arith) c.get.ensures

pub telescopes-requires-clause-antidifference : goal.telescopes-requires-clause-antidifference
telescopes-requires-clause-antidifference c =
    item-listed c.args.facts.now c.args.items.now c.args.lower c.requires.admitted 1 c.get-2.result.now c.requires.two c.get-2.ensures

pub telescopes-requires-clause-sound : goal.telescopes-requires-clause-sound
telescopes-requires-clause-sound c = items-sound c.args.facts.now c.args.items.now c.args.lower c.requires.admitted

pub telescopes-requires-clause-no_letter : goal.telescopes-requires-clause-no_letter
telescopes-requires-clause-no_letter c = items-plain c.args.facts.now c.args.items.now c.args.lower c.requires.admitted

pub returns-clause-yes : goal.returns-clause-yes
returns-clause-yes c = check-yes c.args.facts.now c.args.items.now c.get.result.now c.get-2.result.now c.args.lower c.requires.two c.get.ensures c.get-2.ensures c.requires.admitted.facts_are c.in_ok-holds.holds c.in_ok-holds.ensures.check

pub returns-clause-no : goal.returns-clause-no
returns-clause-no c = check-no c.args.facts.now c.args.items.now c.get.result.now c.get-2.result.now c.args.lower c.requires.two c.get.ensures c.get-2.ensures c.requires.admitted.facts_are c.in_ok-holds.holds c.in_ok-holds.ensures.check
