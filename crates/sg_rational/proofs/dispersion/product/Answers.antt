use Rattle.std.proofs.Common.{refl, map, arith}
use Rattle.sg_poly.specs.Polynomials.{polynomial}
use Rattle.sg_rational.proofs.Taking.{product_start, product_more}
use Rattle.sg_rational.proofs.dispersion.product.Goals as goal

pub loop-i-init : goal.loop-i-init
loop-i-init g c = record {
  some = omega arith;
  within = omega (arith, c.requires);
  is = product_start (polynomial g.F.Field.val c.args.d.now) (polynomial g.F.Field.val c.in_ok-product.product) 1 refl c.in_ok-product.ensures.value;
}

pub loop-i-preserved : goal.loop-i-preserved
loop-i-preserved g c =
    record {
      some = omega arith;
      within = omega (arith, c.loop-i-test.true);
      is = product_more (map g.F.Field.val c.args.d.now) (map g.F.Field.val c.in_ok-factor.factor) (polynomial g.F.Field.val c.loop-i.product) (polynomial g.F.Field.val c.in_ok-product-2.product) c.loop-i.i
          c.loop-i.invariant.some c.loop-i.invariant.is c.in_ok-factor.ensures.value c.in_ok-product-2.ensures.value;
    }
