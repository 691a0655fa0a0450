use Rattle.std.proofs.Common.{List, ℤ, take, subst}
use Rattle.sg_algebra.proofs.Lists.{each_to}
use Rattle.sg_laurent.specs.Elements.{exponents}
use Rattle.sg_products.specs.Supports.{Has}
use Rattle.sg_laurent.proofs.Gathering.{each_more}
use Rattle.sg_products.proofs.Growing.{has_grown, grows_both}
use Rattle.sg_products.proofs.supports.with_terms.Goals as goal

pub loop-i-preserved : goal.loop-i-preserved
loop-i-preserved g c = record {
  grows = grows_both c.args.es c.loop-i.row c.in_ok-row.row c.loop-i.invariant.grows c.in_ok-row.ensures.grows;
  all = each_more (λ t. Has (exponents t) c.in_ok-row.row) c.args.terms.now c.loop-i.i c.index-terms-i.result c.loop-i-test.true c.index-terms-i.is
      (each_to (λ t. Has (exponents t) c.loop-i.row) (λ t. Has (exponents t) c.in_ok-row.row) (take c.loop-i.i c.args.terms.now) (λ t h. has_grown (exponents t) c.loop-i.row c.in_ok-row.row h c.in_ok-row.ensures.grows) c.loop-i.invariant.all)
      (subst (λ (e : List ℤ). Has e c.in_ok-row.row) c.as_slice.ensures c.in_ok-row.ensures.has);
  fit = c.in_ok-row.ensures.fit;
}
