use Rattle.std.proofs.Common.{map}
use Rattle.sg_algebra.proofs.Polynomial.{poly}
use Rattle.sg_num.specs.Value.{number}
use Rattle.sg_spread.specs.Splits.{of_roots}
use Rattle.sg_spread.proofs.Apart.{split_meets}
use Rattle.sg_spread.proofs.Lists.{AllDiffer}
use Rattle.sg_spread.proofs.Parts.{factor_some}
use Rattle.sg_spread.proofs.meetings.meetings.Goals as goal

pub eliminated_without_repeated-requires-clause-left : goal.eliminated_without_repeated-requires-clause-left
eliminated_without_repeated-requires-clause-left c = factor_some (of_roots c.in_ok-left.left.roots) (poly (map number c.in_ok-left.left.rest)) (poly (map number c.args.a.now)) c.in_ok-left.ensures.product c.requires.left

pub eliminated_without_repeated-requires-clause-right : goal.eliminated_without_repeated-requires-clause-right
eliminated_without_repeated-requires-clause-right c = factor_some (of_roots c.in_ok-right.right.roots) (poly (map number c.in_ok-right.right.rest)) (poly (map number c.args.b.now)) c.in_ok-right.ensures.product c.requires.right

pub returns-clause-shifts : goal.returns-clause-shifts
returns-clause-shifts c = λ m.
    let left = c.in_ok-left.left in
    let right = c.in_ok-right.right in
    let is : AllDiffer c.in_ok-list.list left.roots right.roots c.in_ok-all.all = rw (c.as_slice.ensures, c.as_slice-2.ensures) at c.in_ok-all.ensures.items in
    split_meets (map number c.args.a.now) (map number c.args.b.now) (map number left.rest) (map number right.rest) left.roots right.roots c.in_ok-list.list c.in_ok-all.all m c.in_ok-left.ensures.product c.in_ok-right.ensures.product
    c.requires.left (factor_some (of_roots left.roots) (poly (map number left.rest)) (poly (map number c.args.a.now)) c.in_ok-left.ensures.product c.requires.left) c.in_ok-left.ensures.none c.in_ok-right.ensures.none
    (c.in_ok-list.ensures.shifts m) (is m)
