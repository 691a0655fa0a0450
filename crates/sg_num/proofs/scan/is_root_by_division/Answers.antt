use Rattle.std.proofs.Common.{sym, ◌∙◌, ap, ◌+◌, get_or, pos, ◌+ℤ◌, ◌*ℤ◌, false, IsTrue, arith, rules, FitsSigned, to_z, of_z}
use Rattle.std.specs.Int.{w128}
use Rattle.std.proofs.lemmas.Int.{to_z-of_z}
use Rattle.sg_num.specs.Roots.{whole_at}
use Rattle.sg_num.proofs.WholeValues.{carried_on, stuck}
use Rattle.sg_num.proofs.scan.is_root_by_division.Goals as goal

never : IsTrue false → ⊥
never t = search (rules, t)

pub returns-in-None-clause-value : goal.returns-in-None-clause-value
returns-in-None-clause-value c =
    let x = get_or c.args.list.now c.loop-i.i (pos 0) in
    let a = to_z w128 c.loop-i.carry-bits in
    let m = to_z w128 (of_z w128 c.args.m) in
    let fx : FitsSigned w128 (get_or c.args.list.now c.loop-i.i (pos 0)) = search rules in
    let fm : FitsSigned w128 c.args.m = search rules in
    let fs : FitsSigned w128 c.in_ok-whole_sum.field-0 = search rules in
    let s = c.in_ok-whole_sum.ensures.value ∙ ap (λ y. a +ℤ y) (to_z-of_z w128 x fx) in
    let none = rw c.in-None.is at c.in_ok-q.ensures.none in
    let no = stuck c.args.list.now c.loop-i.i (c.loop-i.i + 1) m a c.in_ok-whole_sum.field-0 (omega arith) (omega arith) s c.loop-i.invariant (λ q e. none q (e ∙ sym (to_z-of_z w128 c.in_ok-whole_sum.field-0 fs))) in
    (λ t. absurd (never t), λ z. absurd (no (ap (λ y. whole_at c.args.list.now y) (to_z-of_z w128 c.args.m fm) ∙ z)))

pub loop-i-preserved : goal.loop-i-preserved
loop-i-preserved c =
    let x = get_or c.args.list.now c.loop-i.i (pos 0) in
    let a = to_z w128 c.loop-i.carry-bits in
    let m = to_z w128 (of_z w128 c.args.m) in
    let fx : FitsSigned w128 (get_or c.args.list.now c.loop-i.i (pos 0)) = search rules in
    let fm : FitsSigned w128 c.args.m = search rules in
    let fs : FitsSigned w128 c.in_ok-whole_sum.field-0 = search rules in
    let fq : FitsSigned w128 c.in-Some.q = search rules in
    let s = c.in_ok-whole_sum.ensures.value ∙ ap (λ y. a +ℤ y) (to_z-of_z w128 x fx) in
    let some = rw c.in-Some.is at c.in_ok-q.ensures.some in
    carried_on c.args.list.now c.loop-i.i (c.loop-i.i + 1) m a c.in_ok-whole_sum.field-0 (omega arith) (omega arith) s c.loop-i.invariant
    (to_z w128 (of_z w128 c.in-Some.q)) (λ z. c.requires (sym (to_z-of_z w128 c.args.m fm) ∙ z))
    (ap (λ q. q *ℤ m) (to_z-of_z w128 c.in-Some.q fq) ∙ some ∙ to_z-of_z w128 c.in_ok-whole_sum.field-0 fs)
