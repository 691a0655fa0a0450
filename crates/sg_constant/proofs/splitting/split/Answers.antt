use Rattle.std.proofs.Common.{map}
use Rattle.sg_poly.proofs.Dividers.{monic_some}
use Rattle.sg_constant.specs.Shares.{polys}
use Rattle.sg_constant.proofs.Numerators.{split_of}
use Rattle.sg_constant.proofs.Taken.{monic_degree}
use Rattle.sg_constant.proofs.splitting.split.Goals as goal

pub numerators-requires-clause-some : goal.numerators-requires-clause-some
numerators-requires-clause-some g c = monic_some (map g.F.Field.val c.args.factors.common) c.requires.monic

pub returns-clause-split : goal.returns-clause-split
returns-clause-split g c w e =
    let v = g.F.Field.val in
    let degree = monic_degree (map v c.args.factors.common) c.requires.monic in
    split_of (polys v c.args.uppers.now) (polys v c.in_ok-parts.parts.left) (polys v c.in_ok-parts.parts.right) (map v c.args.factors.common) (map v c.args.factors.rest) w c.requires.monic.0
    degree (monic_some (map v c.args.factors.common) c.requires.monic) c.requires.some e c.in_ok-parts.ensures.adds (c.in_ok-parts.ensures.under c.requires.monic.0 degree)
