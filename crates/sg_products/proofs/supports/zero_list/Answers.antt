use Rattle.std.proofs.Common.{◌≡◌, ℕ, subst, arith}
use Rattle.sg_laurent.specs.Exponents.{unit_exponents}
use Rattle.sg_laurent.proofs.Listing.{unit_off_more}
use Rattle.sg_products.proofs.supports.zero_list.Goals as goal

pub loop-j-init : goal.loop-j-init
loop-j-init c = c.new-row.ensures

pub loop-j-preserved : goal.loop-j-preserved
loop-j-preserved c = unit_off_more c.loop-j._j c.args.n c.loop-j.row c.pushed.new.row c.loop-j.invariant (λ e. omega (arith, e)) c.in_ok-pushed.ensures

pub returns : goal.returns
returns c = let all : c.loop-j._j ≡ c.args.n = omega arith in subst (λ (m : ℕ). c.loop-j.row ≡ unit_exponents m c.args.n) all c.loop-j.invariant
