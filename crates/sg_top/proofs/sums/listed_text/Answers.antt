use Rattle.std.proofs.Common.{◌∙◌}
use Rattle.sg_top.proofs.Listing.{form-at, listed-more}
use Rattle.sg_top.proofs.sums.listed_text.Goals as goal

pub print-requires-clause-form : goal.print-requires-clause-form
print-requires-clause-form c = form-at c.args.gens.now c.loop-g.g-index c.g-item.result c.loop-g-test.true c.g-item.is c.requires

pub loop-g-preserved : goal.loop-g-preserved
loop-g-preserved c =
    listed-more c.args.gens.now c.loop-g.g-index c.g-item.result c.loop-g.text.items c.extend_from_slice.new.self.items c.extend_from_slice-in-loop-g.new.self.items c.as_slice.result.now c.loop-g-test.true c.g-item.is
    c.loop-g.invariant c.in_ok-extend_from_slice.ensures.items (c.as_slice.ensures ∙ c.in_ok-form.ensures.text) c.in_ok-extend_from_slice-2.ensures.items
