use Rattle.sg_laurent.specs.Elements.{element}
use Rattle.sg_laurent.proofs.Coefficients.{same_from, same_to}
use Rattle.sg_laurent.proofs.laurent.Laurent.same.Goals as goal

pub returns-clause-value : goal.returns-clause-value
returns-clause-value g c = (
  (λ t. same_from g.K.Field.val c.args.n (element g.K.Field.val c.args.n c.args.self.now) (element g.K.Field.val c.args.n c.args.other.now) (element g.K.Field.val c.args.n c.in_ok-difference.difference) c.in_ok-difference.ensures.value (c.is_zero.ensures.0 t)),
  (λ q. c.is_zero.ensures.1 (same_to g.K.Field.val c.args.n (element g.K.Field.val c.args.n c.args.self.now) (element g.K.Field.val c.args.n c.args.other.now) (element g.K.Field.val c.args.n c.in_ok-difference.difference) c.in_ok-difference.ensures.value q)),
)
