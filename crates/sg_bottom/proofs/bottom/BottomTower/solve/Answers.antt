use Rattle.std.proofs.Common.{List, map, sym, subst}
use Rattle.sg_tower_theory.proofs.Formal.{IndependentFactors}
use Rattle.sg_ratfun.specs.Fractions.{ratio}
use Rattle.sg_tower.specs.Elements.{AllSolve, IsComplete}
use Rattle.sg_products.specs.Readings.{laurents}
use Rattle.sg_bottom.proofs.Factors.{nonzero_each, empty_is}
use Rattle.sg_bottom.proofs.bottom.BottomTower.solve.Goals as goal

pub returns-then-is_empty-clause-sound : goal.returns-then-is_empty-clause-sound
returns-then-is_empty-clause-sound g c = rw (empty_is c.args.self.now.alphas c.is_empty.result c.if-is_empty.true c.is_empty.ensures) c.in_ok-rows.ensures.sound

pub returns-then-is_empty-clause-complete : goal.returns-then-is_empty-clause-complete
returns-then-is_empty-clause-complete g c = rw (empty_is c.args.self.now.alphas c.is_empty.result c.if-is_empty.true c.is_empty.ensures) c.in_ok-rows.ensures.complete

pub solved-requires-clause-some : goal.solved-requires-clause-some
solved-requires-clause-some g c = rw c.as_slice.ensures (nonzero_each g.F.Field.val c.args.self.now.alphas c.args.self.now.nonzero)

pub solved-requires-clause-free : goal.solved-requires-clause-free
solved-requires-clause-free g c = rw c.as_slice.ensures c.args.self.now.free

pub returns-clause-sound : goal.returns-clause-sound
returns-clause-sound g c = rw c.as_slice.ensures at c.in_ok-rows-2.ensures.sound

pub returns-clause-complete : goal.returns-clause-complete
returns-clause-complete g c = rw c.as_slice.ensures at c.in_ok-rows-2.ensures.complete
