use Rattle.std.proofs.Common.{ap₂, unsigned_abs}
use Rattle.sg_algebra.proofs.Value.{fraction_value}
use Rattle.sg_num.proofs.Numbers.{same-number, equal_test}
use Rattle.sg_num.proofs.rational.RatField.same.Goals as goal

pub returns-clause-value : goal.returns-clause-value
returns-clause-value c =
    let x = c.args.self.now in
    let y = c.args.other.now in
    let test = equal_test c.eq.result x.num x.den y.num y.den c.eq.ensures in (
      λ t. let p = test.0 t in ap₂ (λ n d. fraction_value n (unsigned_abs d)) p.0 p.1,
      λ e. test.1 (same-number x y e),
    )
