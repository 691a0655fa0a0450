use Rattle.std.proofs.Common.{sym, subst, ℤ, arith, rules, FitsSigned}
use Rattle.std.specs.Int.{w128}
use Rattle.std.proofs.lemmas.Int.{to_z-of_z}
use Rattle.sg_num.specs.Value.{fraction}
use Rattle.sg_num.specs.declared.rat.Rat.{Rat}
use Rattle.sg_num.specs.Roots.{IsMultiple}
use Rattle.sg_num.proofs.clear.cleared.Goals as goal

pub multiplied-requires : goal.multiplied-requires
multiplied-requires c =
    let fits : FitsSigned w128 c.args.l = search rules in
    subst (λ (l : ℤ). IsMultiple l (fraction c.index-list-i.result).den) (sym (to_z-of_z w128 c.args.l fits))
    (subst (λ (r : Rat). IsMultiple c.args.l (fraction r).den) (sym c.index-list-i.is) (c.requires c.loop-i.i c.index-list-i.result (omega arith)))
