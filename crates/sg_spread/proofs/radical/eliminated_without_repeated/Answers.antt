use Rattle.std.proofs.Common.{map}
use Rattle.sg_num.specs.Value.{number}
use Rattle.sg_spread.proofs.Radicals.{radical_some, radicals_meet}
use Rattle.sg_spread.proofs.radical.eliminated_without_repeated.Goals as goal

pub eliminated-requires-clause-left : goal.eliminated-requires-clause-left
eliminated-requires-clause-left c = radical_some (map number c.args.a.now) (map number c.in_ok-left.left) c.in_ok-left.ensures.radical c.requires.left

pub eliminated-requires-clause-right : goal.eliminated-requires-clause-right
eliminated-requires-clause-right c = radical_some (map number c.args.b.now) (map number c.in_ok-right.right) c.in_ok-right.ensures.radical c.requires.right

pub returns-clause-shifts : goal.returns-clause-shifts
returns-clause-shifts c = λ m.
    let met = radicals_meet (map number c.args.a.now) (map number c.args.b.now) (map number c.in_ok-left.left) (map number c.in_ok-right.right) m c.in_ok-left.ensures.radical c.in_ok-right.ensures.radical c.requires.left c.requires.right in
    let list = c.in_ok-shifts.ensures.shifts m in
    (λ h. met.0 (list.0 h), λ k. list.1 (met.1 k))
