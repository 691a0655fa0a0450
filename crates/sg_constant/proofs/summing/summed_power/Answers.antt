use Rattle.std.proofs.Common.{◌≡◌, ◌∙◌, ◌+◌, suc, ℕ, map, subst, sym, arith, ◌<◌}
use Rattle.sg_algebra.proofs.Value.{zero_value}
use Rattle.sg_algebra.proofs.Polynomial.{coefficient}
use Rattle.sg_algebra.proofs.Embedding.{numeral_ne}
use Rattle.sg_constant.proofs.Summed.{term_summed}
use Rattle.sg_constant.proofs.summing.summed_power.Goals as goal

pub div-requires : goal.div-requires
div-requires g c z = numeral_ne g.F.Field.vars (suc c.args.n) (omega arith) (sym c.in_ok-m.ensures.value ∙ z)

pub returns-clause-value : goal.returns-clause-value
returns-clause-value g c =
    let v = g.F.Field.val in
    let same : c.args.n + 1 ≡ suc c.args.n = omega arith in
    term_summed c.args.n (v c.in_ok-m.m) (v c.in_ok-q.q) (v c.args.c.now) (map v c.in_ok-t.t) c.in_ok-m.ensures.value c.in_ok-q.ensures.value
    (subst (λ (i : ℕ). coefficient (map v c.in_ok-t.t) i ≡ v c.in_ok-q.q) same c.in_ok-t.ensures.top)
    (subst (λ (n : ℕ). (i : ℕ) → n < i → coefficient (map v c.in_ok-t.t) i ≡ zero_value) same c.in_ok-t.ensures.past)
