use Rattle.std.proofs.Common.{◌≡◌, map, neg_ℤ, sym, subst, rules}
use Rattle.sg_algebra.specs.Coefficients.{Each}
use Rattle.sg_canonical.specs.Whole.{IsSmall}
use Rattle.sg_plain.proofs.Sizes.{each-opposites}
use Rattle.sg_plain.proofs.terms.opposites.Goals as goal

pub returns-clause-small : goal.returns-clause-small
returns-clause-small c =
    let is : c.push_opposites.new.out ≡ map neg_ℤ c.args.list.now = search rules in
    subst (Each IsSmall) (sym is) (each-opposites c.args.list.now c.requires)
