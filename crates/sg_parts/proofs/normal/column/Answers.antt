use Rattle.std.proofs.Common.{◌≡◌, ◌∙◌, ap, pos, [], ◌∷◌, ◌*ℤ◌, ◌+◌, ◌++◌, rules, arith, FitsSigned, to_z, of_z}
use Rattle.std.specs.Int.{w128}
use Rattle.std.proofs.lemmas.Int.{to_z-of_z}
use Rattle.sg_parts.specs.Planes.{coefficient}
use Rattle.sg_parts.proofs.NormalForms.{light_entry, more_held, one_longer}
use Rattle.sg_parts.proofs.normal.column.Goals as goal

pub exact-c-requires-clause-small : goal.exact-c-requires-clause-small
exact-c-requires-clause-small c =
    let f : FitsSigned w128 c.coefficient_at.result = search rules in
    rw (to_z-of_z w128 c.coefficient_at.result f, c.coefficient_at.ensures) (light_entry c.args.plane.now c.loop-i.i c.args.j c.requires.light)

pub exact-c-requires-clause-divides : goal.exact-c-requires-clause-divides
exact-c-requires-clause-divides c =
    let f : FitsSigned w128 c.coefficient_at.result = search rules in
    rw (to_z-of_z w128 c.coefficient_at.result f, c.coefficient_at.ensures, to_z-of_z w128 c.args.divisor c.ranges.divisor) (c.requires.divides c.loop-i.i)

pub loop-i-preserved : goal.loop-i-preserved
loop-i-preserved c =
    let d = to_z w128 (of_z w128 c.args.divisor) in
    let f : FitsSigned w128 c.coefficient_at.result = search rules in
    let g : FitsSigned w128 c.exact-c.result = search rules in
    let here = c.exact-c.ensures ∙ to_z-of_z w128 c.coefficient_at.result f ∙ c.coefficient_at.ensures in
    let pushed : c.push.new.self ≡ c.loop-i.row ++ c.exact-c.result ∷ [] = c.in_ok-push.ensures.ok ∙ ap (λ x. c.loop-i.row ++ x ∷ []) (to_z-of_z w128 c.exact-c.result g) in
    record {
      size = one_longer c.loop-i.row c.push.new.self c.exact-c.result c.loop-i.i (c.loop-i.i + 1) c.loop-i.invariant.size pushed (omega arith);
      divided = more_held (pos 0) (λ k x. x *ℤ d ≡ coefficient c.args.plane.now k c.args.j) c.loop-i.row c.push.new.self c.exact-c.result c.loop-i.i (c.loop-i.i + 1) c.loop-i.invariant.size pushed (omega arith) c.loop-i.invariant.divided here;
    }
