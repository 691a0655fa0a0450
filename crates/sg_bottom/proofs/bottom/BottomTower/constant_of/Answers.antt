use Rattle.std.proofs.lemmas.Option.{IfSome_then}
use Rattle.sg_ratfun.specs.Fractions.{ratio}
use Rattle.sg_products.proofs.Calls.{constant_call, no_constant_call, no_function_call}
use Rattle.sg_bottom.proofs.Factors.{none_then}
use Rattle.sg_bottom.proofs.bottom.BottomTower.constant_of.Goals as goal

pub returns-in-None-clause-none : goal.returns-in-None-clause-none
returns-in-None-clause-none g c = no_function_call g.F.Field.val c.args.self.now.alphas c.len.result c.len.ensures c.args.e.now (rw c.in-None.is at c.in_ok-function.ensures.none)

pub returns-in_ok-c-in-Some-clause-some : goal.returns-in_ok-c-in-Some-clause-some
returns-in_ok-c-in-Some-clause-some g c = IfSome_then c.in_ok-c-in-Some.c c.in_ok-c-in-Some.ensures.some (λ k h. constant_call g.F.Field.val c.args.self.now.alphas c.len.result c.len.ensures (g.F.Field.val k) (ratio g.F.Field.val c.in-Some.r) c.args.e.now h (rw c.in-Some.is at c.in_ok-function.ensures.some))

pub returns-in_ok-c-in-Some-clause-none : goal.returns-in_ok-c-in-Some-clause-none
returns-in_ok-c-in-Some-clause-none g c = none_then c.in_ok-c-in-Some.c c.in_ok-c-in-Some.ensures.none (λ h. no_constant_call g.F.Field.val c.args.self.now.alphas c.len.result c.len.ensures (ratio g.F.Field.val c.in-Some.r) c.args.e.now (rw c.in-Some.is at c.in_ok-function.ensures.some) h)
