use Rattle.std.proofs.Common.{rules, ◌≡◌, ℕ, suc, ◌<◌, ◌==◌, true, refl, sym, ◌∙◌, subst, ap, length, All, arith, List, [], ◌∷◌, get_or}
use Rattle.sg_algebra.proofs.Solver.{ring, reads}
use Rattle.sg_algebra.proofs.Value.{Value, ◌*ᵛ◌}
use Rattle.sg_algebra.proofs.ValueField.{ValueR, ValueF}
use Rattle.sg_relations_theory.proofs.Similar.{similar_same, similar_refl}
use Rattle.sg_relations.specs.declared.factors.Factor.{Factor}
use Rattle.sg_relations.specs.declared.factors.Shifts.{Shifts}
use Rattle.sg_relations.specs.Factors.{field_map, AreAlike, product_at, IsFactor, IsProper, ArePairwise, HasWidth}
use Rattle.sg_relations.proofs.Steps.{All-remove}
use Rattle.sg_relations.proofs.FactorSteps.{turn_falls, turn_kept}
use Rattle.sg_relations.proofs.factors.refined.Goals as goal

none : {X : Type 0} (P : X → Type 0) → All P []
none P k d l = absurd (omega arith)

no_factors : {X : Type 0} (W : List X) → true ≡ (length W == 0) → W ≡ []
no_factors [] e = refl
no_factors (x ∷ W) e = absurd (grind arith)

module _ {K : Type 0} {d : ℕ} (v : K → Value d) (s : Shifts) where
  no_pairs : ArePairwise v s []
  no_pairs i j d l k = absurd (omega arith)

  begun : (W S : List (Factor K)) → S ≡ [] → (i : ℕ) → AreAlike s (product_at v W i) (product_at v W i *ᵛ product_at v S i)
  begun W S e i = similar_same (ValueF (suc d)) (field_map s d) (product_at v W i) (product_at v W i) (product_at v W i) (product_at v W i *ᵛ product_at v S i) refl
      (ring (ValueR (suc d)) (product_at v W i ∷ []) (search reads depth 12) refl ∙ ap (λ (S : List (Factor K)). product_at v W i *ᵛ product_at v S i) (sym e)) (similar_refl (ValueF (suc d)) (field_map s d) (product_at v W i))

  ended : (x : Value (suc d)) (W S : List (Factor K)) → W ≡ [] → (i : ℕ) → AreAlike s x (product_at v W i *ᵛ product_at v S i) → AreAlike s x (product_at v S i)
  ended x W S e i h = similar_same (ValueF (suc d)) (field_map s d) x (product_at v W i *ᵛ product_at v S i) x (product_at v S i) refl
      (ap (λ (W : List (Factor K)). product_at v W i *ᵛ product_at v S i) e ∙ ring (ValueR (suc d)) (product_at v S i ∷ []) (search reads depth 12) refl) h

pub loop-alloc-init : goal.loop-alloc-init
loop-alloc-init g c = record {
  monic = c.requires.monic;
  waiting_width = c.requires.width;
  proper = subst (λ (S : List (Factor g.row.F.Denot)). All (IsProper g.F.Field.val) S) (sym c.new-standing.ensures) (none (IsProper g.F.Field.val));
  standing_width = subst (λ (S : List (Factor g.row.F.Denot)). All (HasWidth c.args.count) S) (sym c.new-standing.ensures) (none (HasWidth c.args.count));
  pairwise = subst (λ (S : List (Factor g.row.F.Denot)). ArePairwise g.F.Field.val c.args.shifts S) (sym c.new-standing.ensures) (no_pairs g.F.Field.val c.args.shifts);
  kept = begun g.F.Field.val c.args.shifts c.args.factors c.new-standing.result c.new-standing.ensures;
}

item_of : {X : Type 0} (P : X → Type 0) (W : List X) (i : ℕ) (w : X) → i < length W → w ≡ get_or W i w → All P W → P w
item_of P W i w l e h = subst P (sym e) (h i w l)

pub step-requires-clause-monic : goal.step-requires-clause-monic
step-requires-clause-monic g c = subst (λ (W : List (Factor g.row.F.Denot)). All (IsFactor g.F.Field.val) W) (sym c.remove-w.ensures.new) (All-remove (IsFactor g.F.Field.val) c.loop-alloc.waiting _ c.loop-alloc.invariant.monic)

pub step-requires-clause-own : goal.step-requires-clause-own
step-requires-clause-own g c = item_of (IsFactor g.F.Field.val) c.loop-alloc.waiting _ c.remove-w.result (search rules) c.remove-w.ensures.item c.loop-alloc.invariant.monic

pub step-requires-clause-waiting_width : goal.step-requires-clause-waiting_width
step-requires-clause-waiting_width g c =
    subst (λ (n : ℕ). All (HasWidth n) c.remove-w.new.self) (sym (item_of (HasWidth c.args.count) c.loop-alloc.waiting _ c.remove-w.result (search rules) c.remove-w.ensures.item c.loop-alloc.invariant.waiting_width))
    (subst (λ (W : List (Factor g.row.F.Denot)). All (HasWidth c.args.count) W) (sym c.remove-w.ensures.new) (All-remove (HasWidth c.args.count) c.loop-alloc.waiting _ c.loop-alloc.invariant.waiting_width))

pub loop-alloc-smaller : goal.loop-alloc-smaller
loop-alloc-smaller g c = turn_falls g.F.Field.val c.args.shifts (length c.remove-w.result.exps) c.loop-alloc.waiting c.loop-alloc.standing c.remove-w.new.self c.step.new.waiting c.step.new.standing c.remove-w.result _ (search rules) c.remove-w.ensures.item c.remove-w.ensures.new c.in_ok-step.ensures.value

pub loop-alloc-preserved : goal.loop-alloc-preserved
loop-alloc-preserved g c =
    let width : length c.remove-w.result.exps ≡ c.args.count = item_of (HasWidth c.args.count) c.loop-alloc.waiting _ c.remove-w.result (search rules) c.remove-w.ensures.item c.loop-alloc.invariant.waiting_width in
    record {
      monic = c.in_ok-step.ensures.value.monic;
      waiting_width = subst (λ (n : ℕ). All (HasWidth n) c.step.new.waiting) width c.in_ok-step.ensures.value.waiting_width;
      proper = c.in_ok-step.ensures.value.proper;
      standing_width = subst (λ (n : ℕ). All (HasWidth n) c.step.new.standing) width c.in_ok-step.ensures.value.standing_width;
      pairwise = c.in_ok-step.ensures.value.pairwise;
      kept = λ i. turn_kept g.F.Field.val c.args.shifts (length c.remove-w.result.exps) c.loop-alloc.waiting c.loop-alloc.standing c.remove-w.new.self c.step.new.waiting c.step.new.standing c.remove-w.result _ (search rules) c.remove-w.ensures.item c.remove-w.ensures.new c.in_ok-step.ensures.value
          c.loop-alloc.invariant.monic c.loop-alloc.invariant.proper (product_at g.F.Field.val c.args.factors i) i (c.loop-alloc.invariant.kept i);
    }

pub returns-clause-kept : goal.returns-clause-kept
returns-clause-kept g c = λ i. ended g.F.Field.val c.args.shifts (product_at g.F.Field.val c.args.factors i) c.loop-alloc.waiting c.loop-alloc.standing (no_factors c.loop-alloc.waiting c.loop-alloc-test.ensures) i (c.loop-alloc.invariant.kept i)
