use Rattle.std.proofs.Common.{◌≡◌, ℕ, suc, ◌+◌, ◌≤◌, List, ℤ, length, drop, subst, arith}
use Rattle.std.proofs.lemmas.List.{drop_all}
use Rattle.sg_products.specs.Solving.{State}
use Rattle.sg_products.proofs.solve.all_lowered.Goals as goal

pub loop-i-init : goal.loop-i-init
loop-i-init g c = c.requires.before

pub lowered-requires-clause-before : goal.lowered-requires-clause-before
lowered-requires-clause-before g c = c.loop-i.invariant

pub loop-i-preserved : goal.loop-i-preserved
loop-i-preserved g c =
    let next : suc c.loop-i.i ≡ c.loop-i.i + 1 = omega arith in
    subst (λ (k : ℕ). State g.F.Field.val c.args.alphas.now c.args.fs.now (drop k c.args.es.now) c.in_ok-last.last) next c.in_ok-last.ensures.value

pub returns-clause-value : goal.returns-clause-value
returns-clause-value g c =
    let past : length c.args.es.now ≤ c.loop-i.i = omega arith in
    subst (λ (es : List (List ℤ)). State g.F.Field.val c.args.alphas.now c.args.fs.now es c.loop-i.last) (drop_all c.loop-i.i c.args.es.now past) c.loop-i.invariant
