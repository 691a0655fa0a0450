use Rattle.std.proofs.Common.{◌<ℤ◌, take, ◌++◌, ◌∷◌, [], ℤ, List}
use Rattle.sg_spread.proofs.Lists.{Picked, Grown}
use Rattle.sg_spread.proofs.meetings.inserted.Given as goal

abbrev pub invariant-loop-i : goal.invariant-loop-i
invariant-loop-i l = Picked (λ x. x <ℤ l.m) (take l.i l.list) l.row

abbrev pub invariant-loop-i-2 : goal.invariant-loop-i-2
invariant-loop-i-2 l = record {
  low : List ℤ;
  first : Picked (λ x. x <ℤ l.m) l.list low;
  rest : Grown (low ++ l.m ∷ []) l.m (take l.i l.list) l.row;
}
