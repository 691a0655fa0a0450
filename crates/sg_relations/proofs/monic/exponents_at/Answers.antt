use Rattle.std.proofs.Common.{rules, ◌≡◌, List, subst, arith, FitsSigned, to_z, of_z}
use Rattle.std.specs.Int.{w128}
use Rattle.std.proofs.lemmas.Int.{to_z-of_z}
use Rattle.std.proofs.lemmas.List.{take_all}
use Rattle.sg_relations.specs.declared.factors.Factor.{Factor}
use Rattle.sg_relations.specs.Parts.{row_at}
use Rattle.sg_relations.proofs.Grown.{row_more}
use Rattle.sg_relations.proofs.monic.exponents_at.Goals as goal

pub loop-c-preserved : goal.loop-c-preserved
loop-c-preserved g c =
    let fits : FitsSigned w128 c.get-exponent.result.now = search rules in
    row_more c.args.factors.now c.args.count c.loop-c.c c.args.place c.get.result.now c.get-exponent.result.now (to_z w128 (of_z w128 c.get-exponent.result.now)) c.loop-c.row c.push.new.self (omega arith) c.requires.width c.requires.inside
    c.get.ensures c.get-exponent.ensures (to_z-of_z w128 c.get-exponent.result.now fits) c.loop-c.invariant c.in_ok-push.ensures.ok

pub returns-clause-value : goal.returns-clause-value
returns-clause-value g c = subst (λ (cs : List (Factor g.row.F.Denot)). c.loop-c.row ≡ row_at cs c.args.place) (take_all c.loop-c.c c.args.factors.now (omega arith)) c.loop-c.invariant
