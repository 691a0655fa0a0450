use Rattle.std.proofs.Common.{◌≡◌, subst, rules}
use Rattle.sg_algebra.proofs.Value.{zero_value}
use Rattle.sg_spec.specs.Worth.{HasWorth}
use Rattle.sg_build.specs.Found.{Finds}
use Rattle.sg_build.proofs.WorthParts.{none-over}
use Rattle.sg_build.proofs.values.quotient.Goals as goal

pub returns-in_ok-r-in-Some-Some-clause-value : goal.returns-in_ok-r-in-Some-Some-clause-value
returns-in_ok-r-in-Some-Some-clause-value g c =
    let n : ¬ (g.K.Field.val c.in-Some-Some.y ≡ zero_value) = search rules in
    λ l k s t h i. (
      g.K.Field.val c.in-Some-Some.x,
      g.K.Field.val c.in-Some-Some.y,
      subst (Finds g.K.Field.val (HasWorth l s k)) c.in-Some-Some.is-0 h,
      subst (Finds g.K.Field.val (HasWorth l t k)) c.in-Some-Some.is-1 i,
      n,
      c.in_ok-r-in-Some-Some.ensures.value,
    )

pub returns-then-is_zero-clause-value : goal.returns-then-is_zero-clause-value
returns-then-is_zero-clause-value g c =
    let z : g.K.Field.val c.in-Some-Some.y ≡ zero_value = search rules in
    λ l k s t h i. none-over l k s t (g.K.Field.val c.in-Some-Some.y) (subst (Finds g.K.Field.val (HasWorth l t k)) c.in-Some-Some.is-1 i) z
