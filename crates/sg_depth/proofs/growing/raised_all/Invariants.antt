use Rattle.std.proofs.Common.{◌≡◌, [], ◌∷◌, map}
use Rattle.sg_depth.proofs.growing.raised_all.Given as goal

abbrev pub invariant-loop-e : goal.invariant-loop-e
invariant-loop-e g l = l.raised ≡ map (λ e. e ∷ []) l.yielded
