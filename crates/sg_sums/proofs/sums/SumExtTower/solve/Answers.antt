use Rattle.std.proofs.Common.{◌≡◌, ℕ, ◌+◌, ◌-◌, subst, arith}
use Rattle.sg_sums.specs.Polynomials.{State}
use Rattle.sg_sums.proofs.Solving.{state_begin, finished_sound, finished_complete}
use Rattle.sg_sums.proofs.sums.SumExtTower.solve.Goals as goal

pub loop-i-init : goal.loop-i-init
loop-i-init g c =
    let e : c.greatest_length-degree.result + 1 ≡ c.greatest_length-degree.result - 0 + 1 = omega arith in
    subst (λ (k : ℕ). State (g.T.Tower.reading g.T.K.Field.vars g.T.K.Field.val c.args.self.now.below) g.T.K.Field.val c.args.self.now.beta c.args.fs.now k c.in_ok-first.first) e
    (state_begin (g.T.Tower.reading g.T.K.Field.vars g.T.K.Field.val c.args.self.now.below) g.T.K.Field.val c.args.self.now.beta c.args.fs.now c.greatest_length-degree.result c.in_ok-first.first (g.met.T.Tower.independent c.args.self.now.below) c.args.self.now.is_new c.greatest_length-degree.ensures c.in_ok-first.ensures.value)

pub loop-i-preserved : goal.loop-i-preserved
loop-i-preserved g c =
    let e : c.greatest_length-degree.result - c.loop-i.i ≡ c.greatest_length-degree.result - (c.loop-i.i + 1) + 1 = omega arith in
    subst (λ (k : ℕ). State (g.T.Tower.reading g.T.K.Field.vars g.T.K.Field.val c.args.self.now.below) g.T.K.Field.val c.args.self.now.beta c.args.fs.now k c.in_ok-rows.rows) e c.in_ok-rows.ensures.value

pub ended-requires : goal.ended-requires
ended-requires g c =
    let e : c.greatest_length-degree.result - c.loop-i.i + 1 ≡ 1 = omega arith in
    subst (λ (k : ℕ). State (g.T.Tower.reading g.T.K.Field.vars g.T.K.Field.val c.args.self.now.below) g.T.K.Field.val c.args.self.now.beta c.args.fs.now k c.loop-i.rows) e c.loop-i.invariant

pub returns-clause-sound : goal.returns-clause-sound
returns-clause-sound g c = finished_sound (g.T.Tower.reading g.T.K.Field.vars g.T.K.Field.val c.args.self.now.below) g.T.K.Field.val c.args.self.now.beta c.args.fs.now c.in_ok-last.last c.in_ok-answer.answer c.in_ok-last.ensures.value c.in_ok-answer.ensures.value

pub returns-clause-complete : goal.returns-clause-complete
returns-clause-complete g c = finished_complete (g.T.Tower.reading g.T.K.Field.vars g.T.K.Field.val c.args.self.now.below) g.T.K.Field.val c.args.self.now.beta c.args.fs.now c.in_ok-last.last c.in_ok-answer.answer c.in_ok-last.ensures.value c.in_ok-answer.ensures.value
