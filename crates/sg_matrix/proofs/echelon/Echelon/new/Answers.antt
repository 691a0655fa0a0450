use Rattle.sg_matrix.proofs.Adding.{system_start}
use Rattle.sg_matrix.proofs.echelon.Echelon.new.Goals as goal

pub invariant_of-result : goal.invariant_of-result
invariant_of-result g c = rw (c.new.ensures) (system_start g.F.Field.val c.args.width)

pub returns-clause-form : goal.returns-clause-form
returns-clause-form g c = rw (c.new.ensures) (system_start g.F.Field.val c.args.width)
