use Rattle.std.proofs.Common.{List, sym, subst}
use Rattle.sg_tower.specs.Elements.{IsShifted}
use Rattle.sg_products.specs.Readings.{laurents}
use Rattle.sg_bottom.proofs.Factors.{nonzero_each}
use Rattle.sg_bottom.proofs.bottom.BottomTower.shift.Goals as goal

pub shifted-requires : goal.shifted-requires
shifted-requires g c = rw c.as_slice.ensures (nonzero_each g.F.Field.val c.args.self.now.alphas c.args.self.now.nonzero)

pub returns-clause-value : goal.returns-clause-value
returns-clause-value g c = rw c.as_slice.ensures at c.in_ok-r.ensures.value
