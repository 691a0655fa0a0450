use Rattle.std.proofs.Common.{rules, ◌≡◌, ◌∙◌, ap₂, ◌+ℤ◌, FitsSigned, to_z, of_z, unsigned_abs}
use Rattle.std.specs.Int.{w128}
use Rattle.std.proofs.lemmas.Int.{to_z-of_z}
use Rattle.sg_parts.specs.Planes.{entry}
use Rattle.sg_parts.proofs.Adding.{entry-set, size-set, read_at, entry_fits, light_sum}
use Rattle.sg_parts.proofs.rows.add_term.Goals as goal

pub sum-requires : goal.sum-requires
sum-requires c =
    let p = c.args.row.now.items in
    let v = c.index-before.result.now in
    let read : v ≡ entry p c.args.at = read_at p c.args.at v c.requires.inside c.index-before.ensures in
    let fits : FitsSigned w128 v = rw read (entry_fits p c.args.at (unsigned_abs c.args.term) c.requires.light) in
    light_sum p c.args.at c.args.term (to_z w128 (of_z w128 v)) (to_z w128 (of_z w128 c.args.term)) (to_z-of_z w128 v fits ∙ read) (to_z-of_z w128 c.args.term c.ranges.term) c.requires.light

pub returns-clause-sum : goal.returns-clause-sum
returns-clause-sum c =
    let p = c.args.row.now.items in
    let v = c.index-before.result.now in
    let read : v ≡ entry p c.args.at = read_at p c.args.at v c.requires.inside c.index-before.ensures in
    let fits : FitsSigned w128 v = rw read (entry_fits p c.args.at (unsigned_abs c.args.term) c.requires.light) in
    let fs : FitsSigned w128 c.sum.result = search rules in
    let e : to_z w128 (of_z w128 c.sum.result) ≡ entry p c.args.at +ℤ c.args.term =
    to_z-of_z w128 c.sum.result fs ∙ c.sum.ensures.value ∙ ap₂ ◌+ℤ◌ (to_z-of_z w128 v fits ∙ read) (to_z-of_z w128 c.args.term c.ranges.term) in
    λ i. entry-set p c.args.at c.args.term (to_z w128 (of_z w128 c.sum.result)) i c.requires.inside e

pub returns-clause-light : goal.returns-clause-light
returns-clause-light c =
    let p = c.args.row.now.items in
    let v = c.index-before.result.now in
    let read : v ≡ entry p c.args.at = read_at p c.args.at v c.requires.inside c.index-before.ensures in
    let fits : FitsSigned w128 v = rw read (entry_fits p c.args.at (unsigned_abs c.args.term) c.requires.light) in
    let fs : FitsSigned w128 c.sum.result = search rules in
    let e : to_z w128 (of_z w128 c.sum.result) ≡ entry p c.args.at +ℤ c.args.term =
    to_z-of_z w128 c.sum.result fs ∙ c.sum.ensures.value ∙ ap₂ ◌+ℤ◌ (to_z-of_z w128 v fits ∙ read) (to_z-of_z w128 c.args.term c.ranges.term) in
    size-set p c.args.at c.args.term (to_z w128 (of_z w128 c.sum.result)) c.requires.inside e
