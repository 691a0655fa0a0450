use Rattle.std.proofs.Common.{rules, ◌≡◌, sym, pos, get_or, FitsSigned}
use Rattle.std.specs.Int.{w128}
use Rattle.std.proofs.lemmas.Int.{to_z-of_z}
use Rattle.sg_laurent.proofs.Gathering.{each_at}
use Rattle.sg_products.proofs.Raising.{powers_step, powers_end}
use Rattle.sg_products.proofs.powers.factor.Goals as goal

pub to_power-requires : goal.to_power-requires
to_power-requires g c = each_at _ c.args.alphas.now c.loop-i.i c.index-alphas-i.result c.loop-i-test.true c.index-alphas-i.is c.requires.some

pub loop-i-preserved : goal.loop-i-preserved
loop-i-preserved g c =
    let own : FitsSigned w128 (get_or c.args.exps.now c.loop-i.i (pos 0)) = search rules in
    powers_step g.K.Field.val c.args.alphas.now c.args.exps.now c.loop-i.i c.index-alphas-i.result _ (g.K.Field.val c.loop-i.product) (g.K.Field.val c.in_ok-product-2.product) (g.K.Field.val c.in_ok-p.p)
    c.loop-i-test.true c.requires.count c.index-alphas-i.is (sym (to_z-of_z w128 _ own)) c.in_ok-p.ensures.value c.loop-i.invariant c.in_ok-product-2.ensures.value

pub returns-clause-value : goal.returns-clause-value
returns-clause-value g c = powers_end g.K.Field.val c.args.alphas.now c.args.exps.now c.loop-i.i (g.K.Field.val c.loop-i.product) c.loop-i-test.false c.requires.count c.loop-i.invariant
