use Rattle.std.proofs.Common.{◌≤◌, ◌*◌, unsigned_abs, ℕ, subst, sym, arith, rules, FitsSigned}
use Rattle.std.proofs.lemmas.Int.{to_z-of_z}
use Rattle.std.specs.Int.{w128}
use Rattle.sg_plain.proofs.quartic.coefficient.Goals as goal

pub exact-requires : goal.exact-requires
exact-requires c =
    let fits : FitsSigned w128 c.dot.result = search rules in
    let s = c.dot.ensures.small 67108864 c.requires.small in
    let t = subst (λ (n : ℕ). unsigned_abs c.dot.result ≤ n * (4096 * 67108864)) c.requires.five s in
    subst (λ z. unsigned_abs z ≤ 1374389534720) (sym (to_z-of_z w128 c.dot.result fits)) (omega (arith, t))
