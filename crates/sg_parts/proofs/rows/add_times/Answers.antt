use Rattle.std.proofs.Common.{rules, ◌≡◌, ◌+◌, ◌*◌, ◌<◌, ◌^◌, ◌∙◌, ap, sym, [], ◌∷◌, drop, get_or, pos, ◌+ℤ◌, ◌*ℤ◌, unsigned_abs, FitsSigned, to_z, of_z, arith}
use Rattle.std.specs.Int.{w128}
use Rattle.std.proofs.lemmas.Int.{to_z-of_z}
use Rattle.sg_parts.specs.Planes.{row_size, entry, moved}
use Rattle.sg_parts.proofs.Adding.{term_next, term_last, carry_on, carry_all, none_added, light_product, light_term, size_on}
use Rattle.sg_parts.proofs.rows.add_times.Goals as goal

pub returns-then-c-eq0-clause-sum : goal.returns-then-c-eq0-clause-sum
returns-then-c-eq0-clause-sum c =
    let none : c.args.c ≡ pos 0 = search rules in
    λ i. none_added c.args.c (entry c.args.row.now.items i) (moved c.args.at c.args.list.now i) none

pub product-term-requires : goal.product-term-requires
product-term-requires c =
    let x = get_or c.args.list.now c.loop-j.j (pos 0) in
    let fx : FitsSigned w128 (get_or c.args.list.now c.loop-j.j (pos 0)) = search rules in
    light_product c.args.c c.args.list.now c.loop-j.j (row_size c.args.row.now.items) (to_z w128 (of_z w128 c.args.c)) (to_z w128 (of_z w128 x)) (to_z-of_z w128 c.args.c c.ranges.c) (to_z-of_z w128 x fx) c.requires.light

pub add_term-requires-clause-light : goal.add_term-requires-clause-light
add_term-requires-clause-light c =
    let x = get_or c.args.list.now c.loop-j.j (pos 0) in
    let fx : FitsSigned w128 (get_or c.args.list.now c.loop-j.j (pos 0)) = search rules in
    let ft : FitsSigned w128 c.product-term.result = search rules in
    let times = to_z w128 (of_z w128 c.args.c) in
    let same : unsigned_abs times ≡ unsigned_abs c.args.c = ap unsigned_abs (to_z-of_z w128 c.args.c c.ranges.c) in
    let bound : row_size c.args.row.now.items + unsigned_abs times * row_size c.args.list.now < 2 ^ 127 = rw same c.requires.light in
    light_term times c.args.list.now c.loop-j.j (row_size c.loop-j.row.items) (row_size c.args.row.now.items + unsigned_abs times * row_size c.args.list.now) (to_z w128 (of_z w128 c.product-term.result))
    c.loop-j-test.true (to_z-of_z w128 c.product-term.result ft ∙ c.product-term.ensures ∙ ap (λ y. times *ℤ y) (to_z-of_z w128 x fx)) c.loop-j.invariant.light bound

pub loop-j-preserved : goal.loop-j-preserved
loop-j-preserved c =
    let x = get_or c.args.list.now c.loop-j.j (pos 0) in
    let fx : FitsSigned w128 (get_or c.args.list.now c.loop-j.j (pos 0)) = search rules in
    let ft : FitsSigned w128 c.product-term.result = search rules in
    let times = to_z w128 (of_z w128 c.args.c) in
    let term = to_z w128 (of_z w128 c.product-term.result) in
    let e : term ≡ times *ℤ x = to_z-of_z w128 c.product-term.result ft ∙ c.product-term.ensures ∙ ap (λ y. times *ℤ y) (to_z-of_z w128 x fx) in
    let at = c.args.at in
    let j = c.loop-j.j in
    let p = c.args.list.now in
    record {
      size = c.add_term.ensures.size ∙ c.loop-j.invariant.size;
      sum = λ i. carry_on (entry c.add_term.new.row.items i) (entry c.loop-j.row.items i) (moved (at + j) (term ∷ []) i) (times *ℤ moved (at + j) (drop j p) i) (times *ℤ moved (at + (j + 1)) (drop (j + 1) p) i)
          (entry c.args.row.now.items i +ℤ times *ℤ moved at p i) (c.add_term.ensures.sum i)
          (term_next times p at j (j + 1) i c.loop-j-test.true (omega arith) ∙ ap (λ t. moved (at + j) (t ∷ []) i +ℤ times *ℤ moved (at + (j + 1)) (drop (j + 1) p) i) (sym e)) (c.loop-j.invariant.sum i);
      light = size_on times p j (j + 1) (row_size c.add_term.new.row.items) (row_size c.loop-j.row.items) (row_size c.args.row.now.items + unsigned_abs times * row_size p) term c.loop-j-test.true (omega arith) e c.add_term.ensures.light c.loop-j.invariant.light;
    }

pub returns-clause-sum : goal.returns-clause-sum
returns-clause-sum c =
    let times = to_z w128 (of_z w128 c.args.c) in
    λ i. carry_all (entry c.loop-j.row.items i) (times *ℤ moved (c.args.at + c.loop-j.j) (drop c.loop-j.j c.args.list.now) i) (entry c.args.row.now.items i +ℤ times *ℤ moved c.args.at c.args.list.now i)
    (term_last times c.args.list.now (c.args.at + c.loop-j.j) c.loop-j.j i c.loop-j-test.false) (c.loop-j.invariant.sum i)
    ∙ ap (λ t. entry c.args.row.now.items i +ℤ t *ℤ moved c.args.at c.args.list.now i) (to_z-of_z w128 c.args.c c.ranges.c)
