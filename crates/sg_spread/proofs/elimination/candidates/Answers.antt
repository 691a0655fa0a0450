use Rattle.std.proofs.Common.{◌+◌, ◌<◌, ◌++◌, map, length, ap, ap₂, sym, ◌∙◌}
use Rattle.sg_algebra.proofs.Lists.{length_map}
use Rattle.sg_spread.proofs.Candidates.{probe_longer, candidate_root}
use Rattle.sg_spread.proofs.elimination.candidates.Goals as goal

pub vanishing-requires-clause-others : goal.vanishing-requires-clause-others
vanishing-requires-clause-others g c =
    let v = g.F.Field.val in
    let long : length c.coeffs-3.result.now + 1 < length c.in_ok-probe.probe.values =
    probe_longer g.F.Field.vars v c.in_ok-list.list c.in_ok-probe.probe.args c.in_ok-probe.probe.values (map v c.args.a.now) (map v c.args.b.now) (length c.coeffs-3.result.now) c.in_ok-probe.ensures.value
    (c.in_ok-list.ensures.value ∙ ap₂ (λ x y. map v x ++ map v y) c.coeffs.ensures.value c.coeffs-2.ensures.value)
    (rw (length_map v c.args.a.now) c.requires.left) (rw (length_map v c.args.b.now) c.requires.right) (ap length c.coeffs-3.ensures.value ∙ sym (length_map v c.args.a.now)) (rw (length_map v c.args.b.now) c.requires.others) in
    rw c.as_slice.ensures long

pub returns-clause-all : goal.returns-clause-all
returns-clause-all g c = λ m apart.
    let v = g.F.Field.val in
    let e = c.as_slice.ensures in
    (c.in_ok-roots.ensures.roots m).1
    (candidate_root g.F.Field.vars v c.in_ok-list.list c.in_ok-probe.probe.args c.in_ok-probe.probe.values (map v c.args.a.now) (map v c.args.b.now) (length c.coeffs-3.result.now) c.in_ok-probe.ensures.value
    (c.in_ok-list.ensures.value ∙ ap₂ (λ x y. map v x ++ map v y) c.coeffs.ensures.value c.coeffs-2.ensures.value)
    (rw (length_map v c.args.a.now) c.requires.left) (rw (length_map v c.args.b.now) c.requires.right) (ap length c.coeffs-3.ensures.value ∙ sym (length_map v c.args.a.now))
    c.in_ok-p.p (rw e at c.in_ok-p.ensures.roots) m apart)
