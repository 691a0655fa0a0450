use Rattle.std.proofs.Common.{◌≡◌, ◌∙◌, ap, subst, ◌<◌, ◌≤ℤ◌, ◌<ℤ◌, pos, ◌-ℤ◌, unsigned_abs, rules, arith, FitsSigned, to_z, of_z}
use Rattle.std.specs.Int.{w128}
use Rattle.std.proofs.lemmas.Int.{ints, to_z-of_z}
use Rattle.sg_parts.specs.Normal.{plane_gcd, plane_lead}
use Rattle.sg_parts.proofs.NormalForms.{content_divides, normal_none, normal_from, normal_opposite, opposite_size}
use Rattle.sg_parts.proofs.normal.normal_rows.Goals as goal

pub returns-then-size-eq0 : goal.returns-then-size-eq0
returns-then-size-eq0 c =
    let none : plane_gcd 0 c.args.plane.now ≡ 0 = omega (arith, ints, c.whole_content-size.ensures, c.if-size-eq0.true) in
    rw c.new.ensures (normal_none c.args.plane.now none)

pub divided-requires-clause-divides : goal.divided-requires-clause-divides
divided-requires-clause-divides c =
    let z = c.whole_content-size.result in
    let fz : FitsSigned w128 c.whole_content-size.result = search rules in
    content_divides c.args.plane.now (to_z w128 (of_z w128 z)) (ap unsigned_abs (to_z-of_z w128 z fz ∙ c.whole_content-size.ensures))

pub returns-then-lead_of-ge0 : goal.returns-then-lead_of-ge0
returns-then-lead_of-ge0 c =
    let z = c.whole_content-size.result in
    let fz : FitsSigned w128 c.whole_content-size.result = search rules in
    let some : 0 < plane_gcd 0 c.args.plane.now = omega (arith, ints, c.whole_content-size.ensures, c.if-size-eq0.false) in
    let up : pos 0 ≤ℤ c.lead_of.result = search rules in
    let lead = subst (λ y. pos 0 ≤ℤ y) (c.lead_of.ensures ∙ ap plane_lead c.as_slice.ensures) up in
    normal_from c.args.plane.now c.in_ok-rows.rows (to_z w128 (of_z w128 z)) c.in_ok-rows.ensures (ap unsigned_abs (to_z-of_z w128 z fz ∙ c.whole_content-size.ensures)) some lead

pub divided-requires-2-clause-divides : goal.divided-requires-2-clause-divides
divided-requires-2-clause-divides c =
    let z = c.whole_content-size.result in
    let fz : FitsSigned w128 c.whole_content-size.result = search rules in
    let less = pos 0 -ℤ to_z w128 (of_z w128 z) in
    let fits : FitsSigned w128 (pos 0 -ℤ to_z w128 (of_z w128 c.whole_content-size.result)) = search rules in
    let same : to_z w128 (of_z w128 z) ≡ pos (plane_gcd 0 c.args.plane.now) = to_z-of_z w128 z fz ∙ c.whole_content-size.ensures in
    content_divides c.args.plane.now (to_z w128 (of_z w128 less))
    (ap unsigned_abs (to_z-of_z w128 less fits ∙ ap (λ y. pos 0 -ℤ y) same) ∙ opposite_size (plane_gcd 0 c.args.plane.now))

pub returns : goal.returns
returns c =
    let z = c.whole_content-size.result in
    let fz : FitsSigned w128 c.whole_content-size.result = search rules in
    let less = pos 0 -ℤ to_z w128 (of_z w128 z) in
    let fits : FitsSigned w128 (pos 0 -ℤ to_z w128 (of_z w128 c.whole_content-size.result)) = search rules in
    let same : to_z w128 (of_z w128 z) ≡ pos (plane_gcd 0 c.args.plane.now) = to_z-of_z w128 z fz ∙ c.whole_content-size.ensures in
    let some : 0 < plane_gcd 0 c.args.plane.now = omega (arith, ints, c.whole_content-size.ensures, c.if-size-eq0.false) in
    let down : c.lead_of.result <ℤ pos 0 = search rules in
    let lead = subst (λ y. y <ℤ pos 0) (c.lead_of.ensures ∙ ap plane_lead c.as_slice.ensures) down in
    normal_opposite c.args.plane.now c.in_ok-rows.rows c.in_ok-rows-2.rows (to_z w128 (of_z w128 z)) (to_z w128 (of_z w128 less)) (to_z-of_z w128 less fits) c.in_ok-rows.ensures c.in_ok-rows-2.ensures
    (ap unsigned_abs same) (ap unsigned_abs (to_z-of_z w128 less fits ∙ ap (λ y. pos 0 -ℤ y) same) ∙ opposite_size (plane_gcd 0 c.args.plane.now)) some lead
