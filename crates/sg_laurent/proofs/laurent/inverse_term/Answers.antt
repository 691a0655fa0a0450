use Rattle.std.proofs.Common.{◌∙◌, ap, length, neg_ℤ}
use Rattle.sg_algebra.proofs.Lists.{length_map}
use Rattle.sg_laurent.proofs.Coefficients.{divided}
use Rattle.sg_laurent.proofs.laurent.inverse_term.Goals as goal

pub returns-clause-value : goal.returns-clause-value
returns-clause-value g c = divided g.K.Field.val c.args.n (g.K.Field.val c.in_ok-coeff.coeff) (g.K.Field.val c.in_ok-one.one) (g.K.Field.val c.args.t.now.coeff) c.in_ok-one.ensures.value c.in_ok-coeff.ensures.value

pub returns-clause-fit : goal.returns-clause-fit
returns-clause-fit g c = ap length c.in_ok-exps.ensures.value ∙ length_map neg_ℤ c.as_slice.result.now ∙ ap length c.as_slice.ensures ∙ c.requires.fit
