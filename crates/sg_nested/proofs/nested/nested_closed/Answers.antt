use Rattle.std.proofs.Common.{FitsSigned, w64}
use Rattle.std.proofs.lemmas.Int.{to_z-of_z}
use Rattle.sg_nested.proofs.Facts.{command-summand, command-sound, command-plain, command-form}
use Rattle.sg_nested.proofs.nested.nested_closed.Goals as goal

pub summed-requires-clause-summand : goal.summed-requires-clause-summand
summed-requires-clause-summand c =
    let fits : FitsSigned w64 c.args.lower = c.ranges.lower in
    simp to_z-of_z (command-summand c.args.facts.now c.args.items.now c.get.result.now c.args.lower c.requires.some c.get.ensures c.requires.admitted)

pub summed-requires-clause-sound : goal.summed-requires-clause-sound
summed-requires-clause-sound c = command-sound c.args.facts.now c.args.items.now c.get.result.now c.args.lower c.requires.some c.get.ensures c.requires.admitted

pub summed-requires-clause-no_letter : goal.summed-requires-clause-no_letter
summed-requires-clause-no_letter c = command-plain c.args.facts.now c.args.items.now c.get.result.now c.args.lower c.requires.some c.get.ensures c.requires.admitted

pub returns-clause-form : goal.returns-clause-form
returns-clause-form c =
    let fits : FitsSigned w64 c.args.lower = c.ranges.lower in
    command-form c.args.facts.now c.args.items.now c.get.result.now c.args.lower c.requires.some c.get.ensures c.requires.admitted c.in_ok-found.found
    (simp to_z-of_z at c.in_ok-found.ensures.answer)
