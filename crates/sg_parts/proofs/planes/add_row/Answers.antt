use Rattle.std.proofs.Common.{◌≡◌, ◌-◌, ◌∙◌, ap, map, get_or, [], List, ℤ, ◌+ℤ◌}
use Rattle.sg_parts.specs.Planes.{row_size, entry, moved_row, row_product}
use Rattle.sg_parts.proofs.Planar.{light_pair, pair_most, moved_row-each, moved_row_before, kept_entry}
use Rattle.sg_parts.proofs.planes.add_row.Goals as goal

pub add_product-requires-clause-light : goal.add_product-requires-clause-light
add_product-requires-clause-light c = rw c.row_at.ensures (light_pair c.args.p.now c.args.q.now (c.args.place - c.args.i) (row_size c.args.row.now.items) c.requires.light)

pub returns-then-i-place-clause-sum : goal.returns-then-i-place-clause-sum
returns-then-i-place-clause-sum c =
    λ j. c.add_product.ensures.sum j
    ∙ ap (λ v. entry c.args.row.now.items j +ℤ v) (ap (λ (r : List ℤ). entry (row_product c.args.p.now r) j) c.row_at.ensures ∙ moved_row-each c.args.p.now c.args.i c.args.q.now c.args.place j c.if-i-place.true)

pub returns-then-i-place-clause-light : goal.returns-then-i-place-clause-light
returns-then-i-place-clause-light c =
    pair_most c.args.p.now c.args.q.now (c.args.place - c.args.i) (row_size c.add_product.new.row.items) (row_size c.args.row.now.items)
    (let e : row_size c.row_at.result.now ≡ row_size (get_or c.args.q.now (c.args.place - c.args.i) []) = ap row_size c.row_at.ensures in rw e at c.add_product.ensures.light)

pub returns-else-i-place-clause-sum : goal.returns-else-i-place-clause-sum
returns-else-i-place-clause-sum c =
    λ j. kept_entry (entry c.args.row.now.items j) (entry (moved_row c.args.i (map (row_product c.args.p.now) c.args.q.now) c.args.place) j)
    (moved_row_before c.args.i (map (row_product c.args.p.now) c.args.q.now) c.args.place j c.if-i-place.false)
