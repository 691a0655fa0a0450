use Rattle.std.proofs.Common.{subst, sym, arith}
use Rattle.sg_reduction_theory.proofs.Places.{Fits}
use Rattle.sg_constant.specs.Shares.{share}
use Rattle.sg_constant.proofs.Conditioned.{conditions_none, conditions_more, conditions_all, fits_of}
use Rattle.sg_constant.proofs.conditions.rows.Goals as goal

pub loop-i-init : goal.loop-i-init
loop-i-init g c = conditions_none g.F.Field.val c.args.list.now c.new-rows.result c.new-rows.ensures

pub push_rows-requires : goal.push_rows-requires
push_rows-requires g c = subst (λ u. Fits (share g.F.Field.val u)) (sym c.index-list-i.is) (fits_of g.F.Field.val c.args.list.now c.loop-i.i c.index-list-i.result (omega arith) c.requires)

pub loop-i-preserved : goal.loop-i-preserved
loop-i-preserved g c = conditions_more g.F.Field.val c.args.list.now c.loop-i.i c.index-list-i.result c.loop-i.rows c.push_rows.new.rows (omega arith) c.index-list-i.is c.loop-i.invariant c.in_ok-push_rows.ensures.value

pub returns-clause-value : goal.returns-clause-value
returns-clause-value g c = conditions_all g.F.Field.val c.args.list.now c.loop-i.i c.loop-i.rows (omega arith) c.loop-i.invariant
