use Rattle.std.proofs.Common.{◌-◌, ◌+◌, map, length, ◌∷◌, []}
use Rattle.sg_algebra.proofs.Polynomial.{coefficient}
use Rattle.sg_algebra.proofs.Rows.{Builds}
use Rattle.sg_algebra.proofs.Value.{◌+ᵛ◌}
use Rattle.sg_num.specs.Value.{number}
use Rattle.sg_spread.proofs.Combined.{next_stands}
use Rattle.sg_spread.specs.Powers.{step_of}
use Rattle.sg_spread.proofs.horner.vanishes.Goals as goal

pub loop-t-preserved : goal.loop-t-preserved
loop-t-preserved c =
    let built : Builds number (λ p. step_of c.args.a.now c.args.b.now c.loop-t.row p +ᵛ coefficient (number c.index-list-list.result ∷ []) p) (length c.loop-t.row) c.in_ok-row-2.row = rw c.as_slice.ensures at c.in_ok-row-2.ensures.built in
    next_stands (length c.args.a.now - 1) (length c.args.b.now - 1) (map number c.args.a.now) (map number c.args.b.now) c.loop-t.row c.in_ok-row-2.row c.args.list.now c.index-list-list.result c.loop-t.t
    c.loop-t-test.true c.index-list-list.is c.loop-t.invariant built
