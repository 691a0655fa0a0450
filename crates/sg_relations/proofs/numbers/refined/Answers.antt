use Rattle.std.proofs.Common.{rules, ◌≡◌, ℕ, ◌==◌, true, refl, sym, ◌∙◌, subst, ap, length, All, AllPairs, arith, List, [], ◌∷◌}
use Rattle.sg_algebra.proofs.Solver.{ring, reads}
use Rattle.sg_algebra.proofs.Value.{◌*ᵛ◌}
use Rattle.sg_algebra.proofs.ValueField.{ValueR}
use Rattle.sg_relations.specs.declared.numbers.Column.{Column}
use Rattle.sg_relations.specs.Columns.{product_at, IsPositive, IsProper, AreCoprime, HasWidth}
use Rattle.sg_relations.proofs.Steps.{All-remove, turn_falls, turn_kept}
use Rattle.sg_relations.proofs.numbers.refined.Goals as goal

none : (P : Column → Type 0) → All P []
none P k d l = absurd (omega arith)

none_pairs : AllPairs AreCoprime []
none_pairs i j d l k = absurd (omega arith)

product_one : (W S : List Column) → S ≡ [] → (i : ℕ) → product_at W i *ᵛ product_at S i ≡ product_at W i
product_one W S e i = ap (λ (S : List Column). product_at W i *ᵛ product_at S i) e ∙ ring (ValueR 0) (product_at W i ∷ []) (search reads depth 12) refl

one_product : (W S : List Column) → W ≡ [] → (i : ℕ) → product_at W i *ᵛ product_at S i ≡ product_at S i
one_product W S e i = ap (λ (W : List Column). product_at W i *ᵛ product_at S i) e ∙ ring (ValueR 0) (product_at S i ∷ []) (search reads depth 12) refl

no_columns : (W : List Column) → true ≡ (length W == 0) → W ≡ []
no_columns [] e = refl
no_columns (x ∷ W) e = absurd (grind arith)

pub loop-alloc-init : goal.loop-alloc-init
loop-alloc-init c = record {
  positive = c.requires.positive;
  waiting_width = c.requires.width;
  proper = subst (λ (S : List Column). All IsProper S) (sym c.new-standing.ensures) (none IsProper);
  standing_width = subst (λ (S : List Column). All (HasWidth c.args.count) S) (sym c.new-standing.ensures) (none (HasWidth c.args.count));
  coprime = subst (λ (S : List Column). AllPairs AreCoprime S) (sym c.new-standing.ensures) none_pairs;
  kept = product_one c.args.columns c.new-standing.result c.new-standing.ensures;
}

pub step-requires-clause-positive : goal.step-requires-clause-positive
step-requires-clause-positive c = subst (λ (S : List Column). All IsPositive S) (sym c.remove-w.ensures.new) (All-remove IsPositive c.loop-alloc.waiting _ c.loop-alloc.invariant.positive)

pub step-requires-clause-waiting_width : goal.step-requires-clause-waiting_width
step-requires-clause-waiting_width c = subst (λ (S : List Column). All (HasWidth c.args.count) S) (sym c.remove-w.ensures.new) (All-remove (HasWidth c.args.count) c.loop-alloc.waiting _ c.loop-alloc.invariant.waiting_width)

pub loop-alloc-smaller : goal.loop-alloc-smaller
loop-alloc-smaller c = turn_falls c.args.count c.loop-alloc.waiting c.loop-alloc.standing c.remove-w.new.self c.step.new.waiting c.step.new.standing c.remove-w.result _ (search rules) c.remove-w.ensures.item c.remove-w.ensures.new c.in_ok-step.ensures.value

pub loop-alloc-preserved : goal.loop-alloc-preserved
loop-alloc-preserved c = record {
  positive = c.in_ok-step.ensures.value.positive;
  waiting_width = c.in_ok-step.ensures.value.waiting_width;
  proper = c.in_ok-step.ensures.value.proper;
  standing_width = c.in_ok-step.ensures.value.standing_width;
  coprime = c.in_ok-step.ensures.value.coprime;
  kept = λ i. turn_kept c.args.count c.loop-alloc.waiting c.loop-alloc.standing c.remove-w.new.self c.step.new.waiting c.step.new.standing c.remove-w.result _ (search rules) c.remove-w.ensures.item c.remove-w.ensures.new c.in_ok-step.ensures.value i ∙ c.loop-alloc.invariant.kept i;
}

pub returns-clause-kept : goal.returns-clause-kept
returns-clause-kept c = λ i. sym (one_product c.loop-alloc.waiting c.loop-alloc.standing (no_columns c.loop-alloc.waiting c.loop-alloc-test.ensures) i) ∙ c.loop-alloc.invariant.kept i
