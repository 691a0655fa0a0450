use Rattle.std.proofs.Common.{rules, ◌≡◌, ◌+◌, ◌*◌, ◌∙◌, ap, sym, drop, get_or, pos, ◌+ℤ◌, ◌*ℤ◌, FitsSigned, to_z, of_z, arith}
use Rattle.std.specs.Int.{w128}
use Rattle.std.proofs.lemmas.Int.{to_z-of_z}
use Rattle.sg_parts.specs.Planes.{row_size, entry, moved, row_product}
use Rattle.sg_parts.proofs.Adding.{product_next, product_last, carry_on, carry_all, light_times, product_on}
use Rattle.sg_parts.proofs.rows.add_product.Goals as goal

pub add_times-requires-clause-light : goal.add_times-requires-clause-light
add_times-requires-clause-light c =
    let x = get_or c.args.p.now c.loop-i.i (pos 0) in
    let fx : FitsSigned w128 (get_or c.args.p.now c.loop-i.i (pos 0)) = search rules in
    light_times c.args.p.now c.args.q.now c.loop-i.i (row_size c.loop-i.row.items) (row_size c.args.row.now.items + row_size c.args.p.now * row_size c.args.q.now) (to_z w128 (of_z w128 x))
    c.loop-i-test.true (to_z-of_z w128 x fx) c.loop-i.invariant.light c.requires.light

pub loop-i-preserved : goal.loop-i-preserved
loop-i-preserved c =
    let x = get_or c.args.p.now c.loop-i.i (pos 0) in
    let fx : FitsSigned w128 (get_or c.args.p.now c.loop-i.i (pos 0)) = search rules in
    let v = to_z w128 (of_z w128 x) in
    let e : v ≡ x = to_z-of_z w128 x fx in
    let p = c.args.p.now in
    let q = c.args.q.now in
    let i = c.loop-i.i in
    record {
      size = c.add_times.ensures.size ∙ c.loop-i.invariant.size;
      sum = λ k. carry_on (entry c.add_times.new.row.items k) (entry c.loop-i.row.items k) (v *ℤ moved i q k) (moved i (row_product (drop i p) q) k) (moved (i + 1) (row_product (drop (i + 1) p) q) k)
          (entry c.args.row.now.items k +ℤ entry (row_product p q) k) (c.add_times.ensures.sum k)
          (product_next p q i (i + 1) k c.loop-i-test.true (omega arith) ∙ ap (λ v. v *ℤ moved i q k +ℤ moved (i + 1) (row_product (drop (i + 1) p) q) k) (sym e)) (c.loop-i.invariant.sum k);
      light = product_on p q i (i + 1) (row_size c.add_times.new.row.items) (row_size c.loop-i.row.items) (row_size c.args.row.now.items + row_size p * row_size q) v c.loop-i-test.true (omega arith) e c.add_times.ensures.light c.loop-i.invariant.light;
    }

pub returns-clause-sum : goal.returns-clause-sum
returns-clause-sum c =
    λ k. carry_all (entry c.loop-i.row.items k) (moved c.loop-i.i (row_product (drop c.loop-i.i c.args.p.now) c.args.q.now) k) (entry c.args.row.now.items k +ℤ entry (row_product c.args.p.now c.args.q.now) k)
    (product_last c.args.p.now c.args.q.now c.loop-i.i k c.loop-i-test.false) (c.loop-i.invariant.sum k)
