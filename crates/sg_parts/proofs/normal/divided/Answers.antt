use Rattle.std.proofs.Common.{◌≡◌, ℕ, [], ◌*ℤ◌, ◌+◌, arith, to_z, of_z}
use Rattle.std.specs.Int.{w128}
use Rattle.std.proofs.lemmas.Int.{to_z-of_z}
use Rattle.sg_parts.specs.Planes.{entry, coefficient}
use Rattle.sg_parts.proofs.NormalForms.{more_held, one_longer}
use Rattle.sg_parts.proofs.normal.divided.Goals as goal

pub column-requires-clause-divides : goal.column-requires-clause-divides
column-requires-clause-divides c = rw (to_z-of_z w128 c.args.divisor c.ranges.divisor) (λ i. c.requires.divides i c.loop-j.j)

pub loop-j-preserved : goal.loop-j-preserved
loop-j-preserved c =
    let d = to_z w128 (of_z w128 c.args.divisor) in
    record {
      size = one_longer c.loop-j.rows c.push.new.self c.in_ok-row.row c.loop-j.j (c.loop-j.j + 1) c.loop-j.invariant.size c.in_ok-push.ensures.ok (omega arith);
      divided = more_held [] (λ k row. (i : ℕ) → entry row i *ℤ d ≡ coefficient c.args.plane.now i k) c.loop-j.rows c.push.new.self c.in_ok-row.row c.loop-j.j (c.loop-j.j + 1) c.loop-j.invariant.size c.in_ok-push.ensures.ok (omega arith) c.loop-j.invariant.divided c.in_ok-row.ensures;
    }
