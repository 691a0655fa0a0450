use Rattle.std.proofs.Common.{◌≡◌, true, false, refl}
use Rattle.sg_num.specs.Value.{fraction}
use Rattle.sg_value.proofs.Lowest.{above_zero}
use Rattle.sg_value.proofs.Operating.{operate-zero, operate-fits, operate-wide}
use Rattle.sg_value.proofs.step.operate.Goals as goal

pub returns-then-divides_by_zero : goal.returns-then-divides_by_zero
returns-then-divides_by_zero c = λ x y p q.
    let both = c.divides_by_zero.ensures.0 c.if-divides_by_zero.true in
    operate-zero c.args.op (fraction c.args.right) x y both.0 both.1 (above_zero c.args.right) q.0

pub returns-in-Ok : goal.returns-in-Ok
returns-in-Ok c = λ x y p q.
    operate-fits c.args.op c.args.left c.args.right c.in-Ok.r x y
    (λ e z. let t : c.divides_by_zero.result ≡ true = c.divides_by_zero.ensures.1 (e, z) in cc)
    c.in-Ok.ensures.value (c.in-Ok.ensures.exact.0 refl) p q

pub returns-in-Err : goal.returns-in-Err
returns-in-Err c = λ x y p q.
    operate-wide c.args.op c.args.left c.args.right c.in-Err.wide x y
    (λ e z. let t : c.divides_by_zero.result ≡ true = c.divides_by_zero.ensures.1 (e, z) in cc)
    c.in-Err.ensures.wide (λ f. let t : false ≡ true = c.in-Err.ensures.exact.1 f in cc) p q
