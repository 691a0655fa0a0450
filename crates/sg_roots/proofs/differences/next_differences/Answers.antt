use Rattle.std.proofs.Common.{[], ◌++◌, ◌≡◌, ◌+◌, get_or, pos, length, ap, ap₂, sym, ◌∙◌, ◌+ℤ◌, ◌∷◌, rules, arith, FitsSigned}
use Rattle.std.specs.Int.{w128}
use Rattle.std.proofs.lemmas.Int.{to_z-of_z}
use Rattle.std.proofs.lemmas.List.{length-append}
use Rattle.sg_roots.proofs.Neighbours.{entry_of, entry_more, next_value}
use Rattle.sg_roots.proofs.differences.next_differences.Goals as goal

pub loop-j-preserved : goal.loop-j-preserved
loop-j-preserved c =
    let fq : FitsSigned w128 (get_or c.args.q.now c.loop-j.j (pos 0)) = search rules in
    let fm : FitsSigned w128 c.in_ok-more.more = search rules in
    let fi : FitsSigned w128 c.in_ok-item.item = search rules in
    let fe : FitsSigned w128 c.entry.result = search rules in
    let fb : FitsSigned w128 c.entry_before.result = search rules in
    let more = simp to_z-of_z at c.in_ok-more.ensures.value in
    let item = simp to_z-of_z at c.in_ok-item.ensures.value in
    let is : c.in_ok-item.item ≡ entry_of c.args.q.now c.args.d.now (length c.loop-j.row) =
    item ∙ ap (λ x. get_or c.args.q.now c.loop-j.j (pos 0) +ℤ x) (more ∙ ap₂ ◌+ℤ◌ c.entry.ensures c.entry_before.ensures) ∙ ap (λ j. entry_of c.args.q.now c.args.d.now j) (sym c.loop-j.invariant.size) in
    let pushed = c.in_ok-push.ensures.ok ∙ ap (λ x. c.loop-j.row ++ x ∷ []) (to_z-of_z w128 c.in_ok-item.item fi) in
    let size : length c.push.new.self ≡ length c.loop-j.row + 1 = ap (λ s. length s) pushed ∙ length-append c.loop-j.row (c.in_ok-item.item ∷ []) in
    record {
      size = omega (arith, size);
      each = λ i l. entry_more (entry_of c.args.q.now c.args.d.now) c.loop-j.row c.push.new.self c.in_ok-item.item pushed is c.loop-j.invariant.each i (omega (arith, size));
    }

pub returns-clause-value : goal.returns-clause-value
returns-clause-value c m =
    next_value c.args.q.now c.args.d.now c.loop-j.row c.requires (omega arith) (λ i h. c.loop-j.invariant.each i (omega arith)) m
