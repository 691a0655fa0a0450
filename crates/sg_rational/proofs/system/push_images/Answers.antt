use Rattle.std.proofs.Common.{◌≡◌, ◌∙◌, ap, sym, map, List, ◌++◌, ℕ, arith}
use Rattle.std.proofs.lemmas.List.{append-nil}
use Rattle.sg_algebra.proofs.Polynomial.{Polynomial}
use Rattle.sg_poly.specs.Polynomials.{polynomial}
use Rattle.sg_first_order_theory.proofs.Next.{next-one}
use Rattle.sg_first_order_theory.proofs.FirstOrder.{left}
use Rattle.sg_first_order_theory.proofs.Under.{powers}
use Rattle.sg_rational.proofs.Columns.{powers_more, power_more, next_variable, next_more}
use Rattle.sg_rational.proofs.system.push_images.Goals as goal

pub loop-degree-init : goal.loop-degree-init
loop-degree-init g c =
    let p : List g.row.F.Denot → Polynomial g.F.Field.vars = λ p. polynomial g.F.Field.val p in
    record { columns = sym (append-nil (map p c.args.columns.now)); power = c.in_ok-power.ensures.value; next = c.in_ok-next.ensures.value ∙ sym next-one }

pub loop-degree-preserved : goal.loop-degree-preserved
loop-degree-preserved g c =
    let v = g.F.Field.val in
    let p : List g.row.F.Denot → Polynomial g.F.Field.vars = λ p. polynomial g.F.Field.val p in
    record {
      columns = powers_more p (polynomial v c.args.a.now) (polynomial v c.args.b.now) (map p c.args.columns.now) c.loop-degree.columns c.push.new.self c.in_ok-image.field-0 c.loop-degree._degree (polynomial v c.loop-degree.power) (polynomial v c.loop-degree.next)
          c.loop-degree.invariant.power c.loop-degree.invariant.next c.in_ok-image.ensures.value c.in_ok-push.ensures.ok c.loop-degree.invariant.columns;
      power = power_more (polynomial v c.in_ok-x.x) (polynomial v c.loop-degree.power) (polynomial v c.in_ok-power-2.power) c.loop-degree._degree c.in_ok-x.ensures.value c.loop-degree.invariant.power c.in_ok-power-2.ensures.value;
      next = next_more (polynomial v c.in_ok-y.y) (polynomial v c.loop-degree.next) (polynomial v c.in_ok-next-2.next) c.loop-degree._degree (next_variable (map v c.in_ok-x.x) (polynomial v c.in_ok-y.y) c.in_ok-x.ensures.value c.in_ok-y.ensures.value)
          c.loop-degree.invariant.next c.in_ok-next-2.ensures.value;
    }

pub returns-clause-value : goal.returns-clause-value
returns-clause-value g c =
    let v = g.F.Field.val in
    let p : List g.row.F.Denot → Polynomial g.F.Field.vars = λ p. polynomial g.F.Field.val p in
    let e : c.loop-degree._degree ≡ c.args.n = omega arith in
    c.loop-degree.invariant.columns ∙ ap (λ (n : ℕ). map p c.args.columns.now ++ map (left (polynomial v c.args.a.now) (polynomial v c.args.b.now)) (powers n)) e
