use Rattle.sg_worth_theory.proofs.Planes.{plane-opposite}
use Rattle.std.proofs.Common.{◌≡◌, map, neg_ℤ, rules}
use Rattle.sg_spec.specs.Canonical.{negated, plane_of}
use Rattle.sg_canonical.proofs.monomials.turned_tree.Goals as goal

pub returns-clause-tree : goal.returns-clause-tree
returns-clause-tree c =
    let opposite : plane_of (map neg_ℤ c.args.p.now) ≡ negated (plane_of c.args.p.now) = plane-opposite c.args.p.now in
    search rules
