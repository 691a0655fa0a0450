use Rattle.std.proofs.Common.{rules, sym, ◌∙◌, length, pos, get_or, FitsSigned, arith}
use Rattle.std.specs.Bool.{IsTrue}
use Rattle.std.specs.Int.{w128}
use Rattle.std.proofs.lemmas.Int.{to_z-of_z}
use Rattle.sg_laurent.proofs.Comparing.{not_different}
use Rattle.sg_laurent.proofs.Listing.{zeros_at, zeros_next, zeros_all}
use Rattle.sg_laurent.proofs.exponents.are_zero.Goals as goal

pub returns-then-differs : goal.returns-then-differs
returns-then-differs c =
    let own : FitsSigned w128 (get_or c.args.exps.now c.loop-i.i (pos 0)) = search rules in
    let t : IsTrue c.differs.result = grind (arith, c.if-differs.true) in
    ((λ f. grind (arith, f)), (λ e. absurd (c.differs.ensures.0 t (to_z-of_z w128 _ own ∙ zeros_at c.args.exps.now (length c.args.exps.now) c.loop-i.i e))))

pub loop-i-preserved : goal.loop-i-preserved
loop-i-preserved c =
    let own : FitsSigned w128 (get_or c.args.exps.now c.loop-i.i (pos 0)) = search rules in
    zeros_next c.args.exps.now c.loop-i.i c.loop-i-test.true c.loop-i.invariant (sym (to_z-of_z w128 _ own) ∙ not_different _ _ c.differs.result c.if-differs.false c.differs.ensures.1)

pub returns : goal.returns
returns c = ((λ t. zeros_all c.args.exps.now c.loop-i.i c.loop-i.auto.i-end c.loop-i-test.false c.loop-i.invariant), (λ e. grind arith))
