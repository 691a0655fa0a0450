use Rattle.std.proofs.Common.{◌∙◌}
use Rattle.sg_algebra.proofs.ValueField.{ValueF}
use Rattle.sg_tower_theory.proofs.Products.{coefficient_cong}
use Rattle.sg_laurent.specs.Elements.{element}
use Rattle.sg_laurent.proofs.laurent.Laurent.coefficient.Goals as goal

pub returns-clause-value : goal.returns-clause-value
returns-clause-value g c e p = c.in_ok-c.ensures.value e p ∙ coefficient_cong (ValueF g.K.Field.vars) c.args.n e (element g.K.Field.val c.args.n c.terms.result.now) (element g.K.Field.val c.args.n c.args.self.now) c.terms.ensures.value
