use Rattle.std.proofs.Common.{rules, ◌≡◌, ◌≢◌, ◌∙◌, sym, subst, ◌<◌, ◌≤◌, ◌-◌, get_or, ℕ, [], arith, ◌⊎◌, inl, inr}
use Rattle.std.proofs.lemmas.List.{get_or_default}
use Rattle.sg_spec.specs.Parts.{trimmed}
use Rattle.sg_parts.proofs.Shapes.{leading_at, leading_none, trimmed_some, trimmed_none}
use Rattle.sg_parts.proofs.roots.leading_place.Goals as goal

split : (i k : ℕ) → i - 1 ≤ k → 0 < i → (i ≤ k) ⊎ (k ≡ i - 1)
split i k h p = grind arith

pub returns-then-length_of-gt0-clause-some : goal.returns-then-length_of-gt0-clause-some
returns-then-length_of-gt0-clause-some c =
    let i = c.loop-i.i - 1 in
    let p = c.args.plane.now in
    let row : c.as_slice.result.now ≡ get_or p i [] = c.as_slice.ensures ∙ c.index-plane-i.is ∙ get_or_default p i c.index-plane-i.result [] (omega arith) in
    let more : 0 < c.length_of.result = search rules in
    let ne = (trimmed_some c.as_slice.result.now c.length_of.result more c.length_of.ensures.within (c.length_of.ensures.last more) c.length_of.ensures.zeros).1 in
    let some : trimmed (get_or p i []) ≢ [] = subst (λ r. trimmed r ≢ []) row ne in
    (leading_at p i (omega arith) some (λ k le. c.loop-i.invariant.none k (omega (arith, le))), some)

pub loop-i-preserved : goal.loop-i-preserved
loop-i-preserved c =
    let i = c.loop-i.i - 1 in
    let p = c.args.plane.now in
    let row : c.as_slice.result.now ≡ get_or p i [] = c.as_slice.ensures ∙ c.index-plane-i.is ∙ get_or_default p i c.index-plane-i.result [] (omega arith) in
    let n : c.length_of.result ≡ 0 = search rules in
    let nothing : trimmed (get_or p i []) ≡ [] = subst (λ r. trimmed r ≡ []) row (trimmed_none c.as_slice.result.now (λ k. c.length_of.ensures.zeros k (rw n (omega arith)))) in
    record {
      within = omega arith;
      none = λ k le. elim (split c.loop-i.i k le (omega arith)) [ inl h ↦ c.loop-i.invariant.none k h | inr e ↦ subst (λ k. trimmed (get_or p k []) ≡ []) (sym e) nothing ];
    }

pub returns-clause-none : goal.returns-clause-none
returns-clause-none c = leading_none c.args.plane.now (λ k. c.loop-i.invariant.none k (omega arith))
