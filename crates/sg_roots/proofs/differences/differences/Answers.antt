use Rattle.std.proofs.Common.{◌≡◌, ℕ, ◌-◌, ◌≤◌, List, [], length, drop, sym, subst, ℤ, arith}
use Rattle.std.proofs.lemmas.List.{length-drop, take_rest}
use Rattle.sg_roots.proofs.Neighbours.{differences_none, differences_next, with_rest}
use Rattle.sg_roots.proofs.differences.differences.Goals as goal

no_more : (s : List ℤ) (n : ℕ) → s ≡ [] → length s ≤ n
no_more s n e = subst (λ (t : List ℤ). length t ≤ n) (sym e) (omega arith)

pub loop-i-init : goal.loop-i-init
loop-i-init c =
    let size = length-drop (length c.args.list.now - 1) c.args.list.now in
    record {
      within = omega arith;
      short = no_more c.new-row.result (length c.args.list.now - length c.args.list.now) c.new-row.ensures;
      last = no_more c.new-row.result (length c.args.list.now - 1) c.new-row.ensures;
      value = λ m. differences_none (drop (length c.args.list.now - 1) c.args.list.now) c.new-row.result c.new-row.ensures (omega (arith, size)) m;
    }

pub loop-i-preserved : goal.loop-i-preserved
loop-i-preserved c =
    let list = c.args.list.now in
    let k = c.loop-i.i - 1 in
    let rest = take_rest list k in
    let size = length-drop k list in
    let short : length c.in_ok-row.row ≤ length (drop k list) = subst (λ (q : List ℤ). length c.in_ok-row.row ≤ length q) rest c.in_ok-row.ensures.shorter in
    record {
      within = omega arith;
      short = omega (arith, short, size);
      last = omega (arith, short, size);
      value = differences_next list c.loop-i.row c.in_ok-row.row (k - 1) k (omega arith) (omega arith) c.loop-i.invariant.value
          (with_rest list _ c.in_ok-row.row c.loop-i.row _ k rest c.as_slice.ensures c.in_ok-row.ensures.value);
    }

pub returns-clause-shorter : goal.returns-clause-shorter
returns-clause-shorter c = c.loop-i.invariant.last
