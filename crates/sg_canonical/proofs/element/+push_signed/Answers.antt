use Rattle.std.proofs.Common.{◌++◌, ◌+◌, suc, OnOk, ◌≡◌, map, List, subst, sym, ◌∙◌, arith}
use Rattle.sg_spec.specs.Canonical.{Signed}
use Rattle.sg_expr.specs.Tree.{tree_of}
use Rattle.sg_canonical.specs.Parts.{IsRun}
use Rattle.sg_canonical.specs.Signs.{signed_of}
use Rattle.sg_canonical.proofs.Runs.{power-at, part-sized, own-signed, push-step}
use Rattle.sg_canonical.proofs.element.+push_signed.Goals as goal

pub run-n-requires : goal.run-n-requires
run-n-requires t c k d h = part-sized c.args.i c.args.sums.now c.in-Some.below.now c.in-Some.s.now c.args.parts.now c.in-Some-split_first.rest.now c.in-Some-split_first.p.now c.in-Some.ensures.cases.0 c.in-Some-split_first.ensures.cases.0 c.requires.sized (suc k) d (omega (arith, h))

pub returns-in-None-clause-terms : goal.returns-in-None-clause-terms
returns-in-None-clause-terms t c =
    subst (λ (l : List Signed). OnOk c.push_parts.result (map signed_of c.push_parts.new.out ≡ map signed_of c.args.out.now ++ l)) (own-signed (map tree_of c.args.products.now) c.args.sums.now c.args.i c.args.parts.now c.in-None.ensures.cases) c.push_parts.ensures.terms

pub returns-in_ok-push_raised-in-Some-split_first-clause-terms :
    goal.returns-in_ok-push_raised-in-Some-split_first-clause-terms
returns-in_ok-push_raised-in-Some-split_first-clause-terms t c =
    let inside = part-sized c.args.i c.args.sums.now c.in-Some.below.now c.in-Some.s.now c.args.parts.now c.in-Some-split_first.rest.now c.in-Some-split_first.p.now c.in-Some.ensures.cases.0 c.in-Some-split_first.ensures.cases.0 c.requires.sized 0 c.in-Some-split_first.p.now (omega arith) in
    let power = power-at c.args.i c.in-Some-split_first.p.now.powers c.get-e.result.now inside c.get-e.ensures in
    subst (λ (l : List Signed). OnOk c.push_signed-in-Some-split_first.result (map signed_of c.push_signed-in-Some-split_first.new.out ≡ l))
    (push-step (map tree_of c.args.products.now) c.args.sums.now c.in-Some.below.now c.in-Some.s.now c.args.parts.now c.in-Some-split_first.rest.now c.split_at.result.0.now c.split_at.result.1.now c.in-Some-split_first.p.now
    c.args.i (c.args.i + 1) c.get-e.result.now c.run-n.result (1 + c.run-n.result) c.new-inner.result (map signed_of c.args.out.now) (map signed_of c.push_raised.new.out) (map signed_of c.push_signed.new.out)
    c.in-Some.ensures.cases.0 c.in-Some-split_first.ensures.cases.0 power c.run-n.ensures.run (omega arith) (omega arith) c.split_at.ensures.front c.split_at.ensures.back c.new-inner.ensures
    c.in_ok-push_signed-in-Some-split_first.ensures.terms c.in_ok-push_raised-in-Some-split_first.ensures.terms)
    c.push_signed-in-Some-split_first.ensures.terms
