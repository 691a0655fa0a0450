use Rattle.std.proofs.Common.{◌≡◌, length, arith}
use Rattle.sg_laurent.specs.Elements.{element}
use Rattle.sg_laurent.proofs.Coefficients.{is_zero_from, is_zero_to}
use Rattle.sg_laurent.proofs.laurent.Laurent.is_zero.Goals as goal

pub returns : goal.returns
returns g c = (
  (λ t. let l : length c.terms.result.now ≡ 0 = grind (arith, t, c.is_empty.ensures) in is_zero_from g.K.Field.val c.args.n (element g.K.Field.val c.args.n c.args.self.now) c.terms.result.now c.terms.ensures.value l),
  (λ z. let l : length c.terms.result.now ≡ 0 = is_zero_to g.K.Field.val c.args.n (element g.K.Field.val c.args.n c.args.self.now) c.terms.result.now c.terms.ensures.value c.terms.ensures.normal z in grind (arith, l, c.is_empty.ensures)),
)
