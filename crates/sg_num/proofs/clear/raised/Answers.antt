use Rattle.std.proofs.Common.{◌≡◌, ◌∙◌, ap, ap₂, pos, ◌*ℤ◌, unsigned_abs, rules, FitsSigned, to_z, of_z}
use Rattle.std.specs.Int.{w128}
use Rattle.std.proofs.lemmas.Int.{to_z-of_z}
use Rattle.sg_algebra.specs.Fraction.{whole}
use Rattle.sg_num.specs.Value.{fraction}
use Rattle.sg_num.proofs.Numbers.{den-positive}
use Rattle.sg_num.proofs.WholeSteps.{raised_multiple, raised_some, raised_whole, raised_least}
use Rattle.sg_num.proofs.clear.raised.Goals as goal

pub returns : goal.returns
returns c =
    let l : FitsSigned w128 c.args.l = search rules in
    let d : FitsSigned w128 c.den-2.result = search rules in
    let b : FitsSigned w128 c.den.result = search rules in
    let m : FitsSigned w128 c.in_ok-multiple.multiple = search rules in
    let n = to_z w128 (of_z w128 c.in_ok-multiple.multiple) in
    let is : to_z w128 (of_z w128 c.in_ok-multiple.multiple) ≡ c.args.l *ℤ pos (fraction c.in_ok-quotient.quotient).den =
    to_z-of_z w128 c.in_ok-multiple.multiple m ∙ c.in_ok-multiple.ensures.value ∙ ap₂ ◌*ℤ◌ (to_z-of_z w128 c.args.l l) (to_z-of_z w128 c.den-2.result d ∙ c.den-2.ensures) in
    let x : fraction c.whole.result ≡ whole c.args.l = search rules in
    let y : fraction c.whole-2.result ≡ whole (pos (unsigned_abs c.args.r.den)) = c.whole-2.ensures.value ∙ ap whole (to_z-of_z w128 c.den.result b ∙ c.den.ensures) in
    record {
      some = raised_some c.args.l n c.in_ok-quotient.quotient is c.requires;
      whole = raised_whole c.args.l n c.in_ok-quotient.quotient is;
      multiple = raised_multiple c.args.l n (unsigned_abs c.args.r.den) c.whole.result c.whole-2.result c.in_ok-quotient.quotient x y c.in_ok-quotient.ensures.value is;
      least = λ m. raised_least c.args.l n m (unsigned_abs c.args.r.den) c.whole.result c.whole-2.result c.in_ok-quotient.quotient (den-positive c.args.r) x y c.in_ok-quotient.ensures.value is;
      wide = tt;
    }
