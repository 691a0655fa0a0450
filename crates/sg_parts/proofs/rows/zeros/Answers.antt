use Rattle.std.proofs.Common.{◌≡◌, ◌+◌, ◌∙◌, ap, ◌++◌, [], ◌∷◌, length, pos, ℤ, List, length-append}
use Rattle.sg_parts.specs.Planes.{row_size, entry}
use Rattle.sg_parts.proofs.Adding.{entry-pushed, size-pushed}
use Rattle.sg_parts.proofs.rows.zeros.Goals as goal

pub loop-i-preserved : goal.loop-i-preserved
loop-i-preserved c =
    let row = c.loop-i.row.items in
    let e : c.push.new.self.items ≡ row ++ (pos 0 ∷ []) = c.in_ok-push.ensures.items in
    record {
      size = ap length e ∙ length-append row (pos 0 ∷ []) ∙ ap (λ n. n + 1) c.loop-i.invariant.size;
      zeros = λ i. ap (λ (l : List ℤ). entry l i) e ∙ entry-pushed row c.loop-i.invariant.zeros i;
      light = ap row_size e ∙ size-pushed row ∙ c.loop-i.invariant.light;
    }
