use Rattle.std.proofs.Common.{rules}
use Rattle.sg_num.proofs.Numbers.{number-zero, zero-number}
use Rattle.sg_num.proofs.rat.Rat.is_zero.Goals as goal

pub returns-clause-value : goal.returns-clause-value
returns-clause-value c = search rules

pub returns-clause-as_number : goal.returns-clause-as_number
returns-clause-as_number c =
    let v = returns-clause-value c in
    (λ t. number-zero c.args.self (v.0 t), λ e. v.1 (zero-number c.args.self e))
