use Rattle.std.proofs.Common.{subst}
use Rattle.sg_spec.specs.Worth.{HasWorth}
use Rattle.sg_build.specs.Found.{Finds}
use Rattle.sg_build.proofs.WorthParts.{zero-less}
use Rattle.sg_build.proofs.values.opposite.Goals as goal

pub returns-in_ok-r-in-Some-clause-value : goal.returns-in_ok-r-in-Some-clause-value
returns-in_ok-r-in-Some-clause-value g c = λ l k s h. (
  g.K.Field.val c.in-Some.x,
  subst (Finds g.K.Field.val (HasWorth l s k)) c.in-Some.is h,
  zero-less (g.K.Field.val c.in_ok-none-in-Some.none) (g.K.Field.val c.in-Some.x) (g.K.Field.val c.in_ok-r-in-Some.r) c.in_ok-none-in-Some.ensures.value c.in_ok-r-in-Some.ensures.value,
)
