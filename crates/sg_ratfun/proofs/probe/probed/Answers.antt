use Rattle.std.proofs.Common.{◌≡◌, ◌++◌, ◌∷◌, [], rules}
use Rattle.sg_ratfun.specs.Gathered.{coefficients}
use Rattle.sg_ratfun.proofs.Probing.{inner_known, items_probe}
use Rattle.sg_ratfun.proofs.probe.probed.Goals as goal

pub found-requires : goal.found-requires
found-requires g c = inner_known g.F.Field.val c.in_ok-inner.inner.args c.in_ok-coeffs.coeffs (coefficients c.args.list.now) c.in_ok-inner.inner.values c.in_ok-coeffs.ensures.value c.in_ok-inner.ensures.value.each

pub returns-clause-value : goal.returns-clause-value
returns-clause-value g c =
    let e : c.push.new.self ≡ c.in_ok-inner.inner.args ++ c.in_ok-place.place.at ∷ [] = search rules in
    items_probe g.F.Field.val c.in_ok-inner.inner.args c.args.list.now c.in_ok-place.place.at c.push.new.self c.in_ok-place.place.values c.in_ok-inner.ensures.value.count e c.in_ok-place.ensures.value
