use Rattle.std.proofs.Common.{map, negsuc}
use Rattle.sg_expr.specs.Tree.{tree_of}
use Rattle.sg_forms.proofs.Facts.{facts-sound, facts-plain, sums-printed}
use Rattle.sg_forms.proofs.Commands.{told-is, told-printed}
use Rattle.sg_forms.proofs.telling.standings.Goals as goal

pub with_tower-requires-clause-sound : goal.with_tower-requires-clause-sound
with_tower-requires-clause-sound c = facts-sound c.args.facts.now (map tree_of c.args.items.now) (negsuc 1000) c.requires.admitted

pub with_tower-requires-clause-no_letter : goal.with_tower-requires-clause-no_letter
with_tower-requires-clause-no_letter c = facts-plain c.args.facts.now (map tree_of c.args.items.now) (negsuc 1000) c.requires.admitted

pub returns-clause-told : goal.returns-clause-told
returns-clause-told c = told-is c.args.facts.now (map tree_of c.args.items.now) (negsuc 1000) c.requires.admitted.facts_are c.in_ok-told.told c.in_ok-told.ensures.done.0

pub returns-clause-printed : goal.returns-clause-printed
returns-clause-printed c =
    told-printed c.args.facts.now (map tree_of c.args.items.now) (negsuc 1000) c.requires.admitted.facts_are
    (sums-printed c.args.facts.now (map tree_of c.args.items.now) (negsuc 1000) c.requires.admitted) c.in_ok-told.told c.in_ok-told.ensures.done.1
