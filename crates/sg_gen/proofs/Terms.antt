-- The terms of a sample, one after another.
--   begins     the first term, and how many follow
--   goes-on    one more
--   ends       none is left
use Rattle.std.specs.Prelude.{◌≡◌, ℕ, suc, ◌+◌, ◌-◌, ◌<◌, ◌≤◌}
use Rattle.std.proofs.Common.{refl, sym, ap, ◌∙◌, arith}
use Rattle.sg_spec.specs.Tree.{Tree, add}
use Rattle.sg_gen.specs.Sample.{first_state, next_state, drawn, shape, after_shape, term, with_terms, sampled, Shape}

pub begins : (seed i more first second third : ℕ) (s : Shape) (t : Tree) → first ≡ first_state seed i → second ≡ next_state first → more ≡ drawn 3 second → third ≡ after_shape second
    → s ≡ shape second → t ≡ term s → with_terms (more - 0) third t ≡ sampled seed i
unfolding sampled
begins seed i more first second third s t e0 e1 e2 e3 e4 e5 =
    let less : more - 0 ≡ more = omega arith in
    rw (less, e5, e4, e3, e2, e1, e0) refl

pub goes-on : (seed i more counter state after : ℕ) (s : Shape) (t u : Tree) → counter < more → after ≡ after_shape state → s ≡ shape state → u ≡ term s
    → with_terms (more - counter) state t ≡ sampled seed i → with_terms (more - (counter + 1)) after (add t u) ≡ sampled seed i
goes-on seed i more counter state after s t u less e0 e1 e2 before =
    let left : more - counter ≡ suc (more - (counter + 1)) = omega arith in
    rw (e2, e1, e0) (ap (λ n. with_terms n state t) (sym left) ∙ before)

pub ends : (seed i more counter state : ℕ) (t : Tree) → more ≤ counter → with_terms (more - counter) state t ≡ sampled seed i → t ≡ sampled seed i
ends seed i more counter state t over before =
    let none : more - counter ≡ 0 = omega arith in
    ap (λ n. with_terms n state t) (sym none) ∙ before
