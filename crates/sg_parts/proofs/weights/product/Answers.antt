use Rattle.std.proofs.Common.{rules, ◌≤◌, ◌*◌, ◌^◌}
use Rattle.sg_parts.proofs.Weighing.{mul_wide}
use Rattle.sg_parts.proofs.weights.product.Goals as goal

pub returns-clause-wide : goal.returns-clause-wide
returns-clause-wide c =
    let heavy : 2 ^ 127 ≤ c.args.a * c.args.b = search rules in
    mul_wide c.step.result c.args.a c.args.b c.step.ensures.op c.step.ensures.left c.step.ensures.right heavy
