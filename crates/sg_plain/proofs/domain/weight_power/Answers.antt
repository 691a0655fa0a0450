use Rattle.std.proofs.Common.{◌≡◌, ◌≤◌, ◌^◌, ℕ, min, ap, ◌∙◌, arith}
use Rattle.sg_plain.proofs.Caps.{cap-one, cap-exponent}
use Rattle.sg_plain.proofs.domain.weight_power.Goals as goal

pub returns-then-w-eq1 : goal.returns-then-w-eq1
returns-then-w-eq1 c = cap-one c.args.w c.args.n c.if-w-eq1.true

pub returns : goal.returns
returns c =
    let e : c.loop-done._done ≡ min c.args.n 17 = omega arith in
    let two : 2 ≤ c.args.w = omega arith in
    c.loop-done.invariant ∙ ap (λ (x : ℕ). min 65537 (c.args.w ^ x)) e ∙ cap-exponent c.args.w c.args.n two
