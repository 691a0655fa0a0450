use Rattle.std.proofs.Common.{rules, sym, ◌-◌, length, pos, get_or, to_z, of_z, FitsSigned, arith}
use Rattle.std.specs.Bool.{IsTrue}
use Rattle.std.specs.Int.{w128}
use Rattle.std.proofs.lemmas.Int.{to_z-of_z}
use Rattle.sg_laurent.proofs.Comparing.{after_here, same_here, no_difference, not_different}
use Rattle.sg_laurent.proofs.exponents.comes_after.Goals as goal

pub returns-then-differs : goal.returns-then-differs
returns-then-differs c =
    let left : FitsSigned w128 (get_or c.args.a.now (length c.args.a.now - 1 - c.loop-i.i) (pos 0)) = search rules in
    let right : FitsSigned w128 (get_or c.args.b.now (length c.args.b.now - 1 - c.loop-i.i) (pos 0)) = search rules in
    let t : IsTrue c.differs.result = grind (arith, c.if-differs.true) in
    let r = after_here c.args.a.now c.args.b.now c.loop-i.i
    (to_z w128 (of_z w128 (get_or c.args.a.now (length c.args.a.now - 1 - c.loop-i.i) (pos 0)))) (to_z w128 (of_z w128 (get_or c.args.b.now (length c.args.b.now - 1 - c.loop-i.i) (pos 0))))
    c.requires c.loop-i-test.true c.loop-i.invariant (sym (to_z-of_z w128 _ left)) (sym (to_z-of_z w128 _ right)) (c.differs.ensures.0 t) in
    ((λ h. r.comes (c.is_greater.ensures.0 h)), (λ h. c.is_greater.ensures.1 (r.greater h)))

pub loop-i-preserved : goal.loop-i-preserved
loop-i-preserved c =
    let left : FitsSigned w128 (get_or c.args.a.now (length c.args.a.now - 1 - c.loop-i.i) (pos 0)) = search rules in
    let right : FitsSigned w128 (get_or c.args.b.now (length c.args.b.now - 1 - c.loop-i.i) (pos 0)) = search rules in
    same_here c.args.a.now c.args.b.now c.loop-i.i
    (to_z w128 (of_z w128 (get_or c.args.a.now (length c.args.a.now - 1 - c.loop-i.i) (pos 0)))) (to_z w128 (of_z w128 (get_or c.args.b.now (length c.args.b.now - 1 - c.loop-i.i) (pos 0))))
    c.requires c.loop-i-test.true c.loop-i.invariant (sym (to_z-of_z w128 _ left)) (sym (to_z-of_z w128 _ right)) (not_different _ _ c.differs.result c.if-differs.false c.differs.ensures.1)

pub returns : goal.returns
returns c = let n = no_difference c.args.a.now c.args.b.now c.loop-i.i c.requires c.loop-i-test.false c.loop-i.invariant in ((λ t. grind (arith, t)), (λ h. absurd (n h)))
