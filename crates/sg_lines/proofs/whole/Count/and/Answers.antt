use Rattle.std.proofs.Common.{◌≡◌, sym, ◌∙◌, subst, true, false}
use Rattle.sg_lines.specs.Counting.{fits_so_far}
use Rattle.sg_lines.specs.declared.whole.Count.{Count}
use Rattle.sg_lines.proofs.Counted.{after-more, after-long}
use Rattle.sg_lines.proofs.whole.Count.and.Goals as goal

pub loop-b-preserved : goal.loop-b-preserved
loop-b-preserved c =
    let P : Count → Type 0 = λ x. fits_so_far x ≡ true in
    rw c.and_byte-count.ensures
    (after-more _ c.loop-b.count c.args.text.now c.loop-b.b-index c.loop-b-test.true c.loop-b.invariant (subst P c.and_byte-count.ensures (sym c.fits.ensures ∙ c.if-not-fits.false)))

pub returns-then-not-fits-clause-none : goal.returns-then-not-fits-clause-none
returns-then-not-fits-clause-none c =
    let P : Count → Type 0 = λ x. fits_so_far x ≡ false in
    after-long _ c.loop-b.count c.args.text.now c.loop-b.b-index c.loop-b-test.true c.loop-b.invariant (subst P c.and_byte-count.ensures (sym c.fits.ensures ∙ c.if-not-fits.true))
