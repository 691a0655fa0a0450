use Rattle.std.proofs.Common.{rules, ◌≡◌, ◌≢◌, ◌∙◌, sym, ap, subst, ◌<◌, ◌≤◌, ◌*◌, ◌-◌, get_or, take, pos, unsigned_abs, arith, FitsSigned}
use Rattle.std.specs.Int.{w128}
use Rattle.std.proofs.lemmas.Int.{to_z-of_z}
use Rattle.sg_parts.specs.Planes.{greatest}
use Rattle.sg_parts.proofs.Shapes.{far_row, far_is, near_is, size_some, trimmed_none}
use Rattle.sg_parts.proofs.roots.is_far.Goals as goal

pub returns-then-n-eq0-clause-near : goal.returns-then-n-eq0-clause-near
returns-then-n-eq0-clause-near c =
    let n : c.length_of-n.result ≡ 0 = search rules in
    absurd (c.requires (trimmed_none c.args.row.now (λ k. c.length_of-n.ensures.zeros k (rw n (omega arith)))))

pub returns-clause-far : goal.returns-clause-far
returns-clause-far c = λ t.
    let last = get_or c.args.row.now (c.length_of-n.result - 1) (pos 0) in
    let some : 0 < c.length_of-n.result = search rules in
    let fits : FitsSigned w128 last = search rules in
    let ne : last ≢ pos 0 = c.length_of-n.ensures.last some in
    let size : c.unsigned_abs.result ≡ unsigned_abs last = c.unsigned_abs.ensures.value ∙ ap unsigned_abs (to_z-of_z w128 last fits) in
    let most : c.greatest.result ≡ greatest (take (c.length_of-n.result - 1) c.args.row.now) = c.greatest.ensures in
    let bound = far_row c.args.row.now c.length_of-n.result c.greatest.result c.unsigned_abs.result some c.length_of-n.ensures.within ne c.length_of-n.ensures.zeros most size in
    subst (λ b. 4096 < b) (sym bound) (far_is c.greatest.result c.unsigned_abs.result (rw size (size_some last ne)) (c.outweighs.ensures.0 t))

pub returns-clause-near : goal.returns-clause-near
returns-clause-near c = λ t.
    let last = get_or c.args.row.now (c.length_of-n.result - 1) (pos 0) in
    let some : 0 < c.length_of-n.result = search rules in
    let fits : FitsSigned w128 last = search rules in
    let ne : last ≢ pos 0 = c.length_of-n.ensures.last some in
    let size : c.unsigned_abs.result ≡ unsigned_abs last = c.unsigned_abs.ensures.value ∙ ap unsigned_abs (to_z-of_z w128 last fits) in
    let most : c.greatest.result ≡ greatest (take (c.length_of-n.result - 1) c.args.row.now) = c.greatest.ensures in
    let bound = far_row c.args.row.now c.length_of-n.result c.greatest.result c.unsigned_abs.result some c.length_of-n.ensures.within ne c.length_of-n.ensures.zeros most size in
    let light : (c.unsigned_abs.result * 4095 < c.greatest.result → ⊥) = λ lt. search (rules, t, c.outweighs.ensures.1 lt) in
    subst (λ b. b ≤ 4096) (sym bound) (near_is c.greatest.result c.unsigned_abs.result (rw size (size_some last ne)) (omega (arith, light)))
