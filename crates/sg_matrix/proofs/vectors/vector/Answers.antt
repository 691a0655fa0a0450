use Rattle.std.proofs.Common.{◌≡◌, ◌∙◌, arith}
use Rattle.sg_algebra.proofs.Rows.{builds_push, builds_all}
use Rattle.sg_matrix.specs.Steps.{image}
use Rattle.sg_matrix.proofs.Solutions.{image_past}
use Rattle.sg_matrix.proofs.vectors.vector.Goals as goal

pub loop-i-preserved : goal.loop-i-preserved
loop-i-preserved g c e = builds_push g.F.Field.val _ _ _ _ _ (c.loop-i.invariant e) (c.in_ok-entry.ensures.value e) c.in_ok-push.ensures.ok

pub returns-clause-value : goal.returns-clause-value
returns-clause-value g c e =
    let end : c.loop-i.i ≡ c.args.width = omega arith in
    record {
      size = (c.loop-i.invariant e).size ∙ end;
      is = builds_all g.F.Field.val (image g.F.Field.val c.args.rows.now e.pivot c.args.k) c.loop-i.i c.loop-i.r (c.loop-i.invariant e) (λ i h. image_past g.F.Field.val c.args.width c.args.rows.now e c.requires.system.sized c.args.k c.requires.inside i (omega arith));
    }
