use Rattle.std.proofs.Common.{◌≡◌, ◌-◌, ◌+◌, ◌*◌, ◌<◌, map, length, [], List}
use Rattle.sg_num.specs.Value.{number}
use Rattle.sg_num.specs.declared.rat.Rat.{Rat}
use Rattle.sg_spread.specs.Powers.{ArePowers, IsNullBasis}
use Rattle.sg_spread.proofs.certificate.dependence.Given as goal

-- after each turn there is one row more, and no dependence was found
abbrev pub invariant-loop : goal.invariant-loop
invariant-loop l =
    (l.size ≡ (length l.a - 1) * (length l.b - 1)) × (length l.rows ≡ l.counter + 1) × ArePowers (length l.a - 1) (length l.b - 1) (map number l.a) (map number l.b) l.rows
    × (0 < l.counter → (basis : List (List Rat)) × (basis ≡ []) × IsNullBasis (length l.a - 1) (length l.b - 1) (map number l.a) (map number l.b) (length l.rows) basis)
