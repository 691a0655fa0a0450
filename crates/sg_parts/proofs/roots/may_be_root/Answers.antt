use Rattle.std.proofs.Common.{◌≡◌, ◌∙◌, ap, ◌%◌, unsigned_abs, rules}
use Rattle.sg_parts.proofs.AllRows.{no_rest, told}
use Rattle.sg_parts.proofs.roots.may_be_root.Goals as goal

pub returns-else-size-eq0-clause-divisor : goal.returns-else-size-eq0-clause-divisor
returns-else-size-eq0-clause-divisor c = λ q l e f.
    let size : c.unsigned_abs-size.result ≡ unsigned_abs c.args.m = search rules in
    told (c.args.low % c.unsigned_abs-size.result) (ap (λ n. c.args.low % n) size ∙ no_rest q l c.args.m c.args.low e f)
