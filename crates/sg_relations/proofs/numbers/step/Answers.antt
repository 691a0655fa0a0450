use Rattle.std.proofs.Common.{◌≡◌, ℕ, ◌<◌, ◌/◌, refl, sym, ◌∙◌, subst, ap, ap₂, length, All, arith, List, [], ◌∷◌, ◌++◌, get_or}
use Rattle.std.specs.List.{remove}
use Rattle.sg_algebra.specs.Divisor.{gcd}
use Rattle.sg_algebra.proofs.Divisor.{gcd_positive}
use Rattle.sg_relations_theory.specs.Rows.{sum_row}
use Rattle.sg_relations.specs.Columns.{IsStep}
use Rattle.sg_relations.specs.declared.numbers.Column.{Column}
use Rattle.sg_relations.proofs.Steps.{unit_step, move_step, split_step}
use Rattle.sg_relations.proofs.numbers.step.Goals as goal

above : {a : ℕ} → 1 < a → 0 < a
above h = omega arith

pub returns-then-w-eq1-clause-value : goal.returns-then-w-eq1-clause-value
returns-then-w-eq1-clause-value c = unit_step c.args.count c.args.w c.args.waiting.now c.args.standing.now c.requires.some c.requires.positive c.requires.proper c.requires.coprime c.requires.own_width c.requires.waiting_width c.requires.standing_width c.if-w-eq1.true

pub returns-in_default-clause-value : goal.returns-in_default-clause-value
returns-in_default-clause-value c = subst (λ (S' : List Column). IsStep c.args.count c.args.w c.args.waiting.now c.args.standing.now c.args.waiting.now S') (sym c.in_ok-push.ensures.ok)
    (move_step c.args.count c.args.w c.args.waiting.now c.args.standing.now c.requires.some c.requires.positive c.requires.proper c.requires.coprime c.requires.own_width c.requires.waiting_width c.requires.standing_width c.if-w-eq1.false
    (subst (λ (S : List Column). All (λ x. gcd c.args.w.base x.base ≡ 1) S) c.as_slice.ensures (c.in_default.ensures.none refl)))

pub nonzero_div-b : goal.nonzero_div-b
nonzero_div-b c = subst (λ (k : ℕ). 0 < k) (sym c.gcd_of-g.ensures.value) (gcd_positive c.args.w.base c.remove-b.result.base
    (above (subst (λ (x : Column). 1 < x.base) (sym c.remove-b.ensures.item) (c.requires.proper c.in-Some.j c.remove-b.result (subst (λ (S : List Column). c.in-Some.j < length S) c.as_slice.ensures c.in-Some.ensures.some)))))

pub nonzero_div-w : goal.nonzero_div-w
nonzero_div-w c = subst (λ (k : ℕ). 0 < k) (sym c.gcd_of-g.ensures.value) (gcd_positive c.args.w.base c.remove-b.result.base
    (above (subst (λ (x : Column). 1 < x.base) (sym c.remove-b.ensures.item) (c.requires.proper c.in-Some.j c.remove-b.result (subst (λ (S : List Column). c.in-Some.j < length S) c.as_slice.ensures c.in-Some.ensures.some)))))

pub returns-clause-value : goal.returns-clause-value
returns-clause-value c = moved (split_step c.args.count c.args.w c.args.waiting.now c.args.standing.now c.requires.some c.requires.positive c.requires.proper c.requires.coprime c.requires.own_width c.requires.waiting_width c.requires.standing_width
    c.in-Some.j (subst (λ (S : List Column). c.in-Some.j < length S) c.as_slice.ensures c.in-Some.ensures.some)
    (record { base = c.gcd_of-g.result; exps = c.in_ok-exps.exps }) c.remove-b.result (record { base = c.remove-b.result.base / c.gcd_of-g.result; exps = c.remove-b.result.exps }) (record { base = c.args.w.base / c.gcd_of-g.result; exps = c.args.w.exps })
    c.remove-b.ensures.item
    (λ e. subst (λ (S : List Column). (d : Column) → ¬ (gcd c.args.w.base (get_or S c.in-Some.j d).base ≡ 1)) c.as_slice.ensures c.in-Some.ensures.met c.remove-b.result (ap (λ (x : Column). gcd c.args.w.base x.base) (sym c.remove-b.ensures.item) ∙ e))
    c.gcd_of-g.ensures.value
    (c.in_ok-exps.ensures.value ∙ ap₂ sum_row c.as_slice-2.ensures c.as_slice-3.ensures)
    refl refl refl refl)
  where
    moved : IsStep c.args.count c.args.w c.args.waiting.now c.args.standing.now (((c.args.waiting.now ++ (record { base = c.gcd_of-g.result; exps = c.in_ok-exps.exps }) ∷ []) ++ (record { base = c.remove-b.result.base / c.gcd_of-g.result; exps = c.remove-b.result.exps }) ∷ []) ++ (record { base = c.args.w.base / c.gcd_of-g.result; exps = c.args.w.exps }) ∷ []) (remove c.args.standing.now c.in-Some.j)
        → IsStep c.args.count c.args.w c.args.waiting.now c.args.standing.now c.push-4.new.self c.remove-b.new.self
    moved s = subst (λ (S' : List Column). IsStep c.args.count c.args.w c.args.waiting.now c.args.standing.now c.push-4.new.self S') (sym c.remove-b.ensures.new)
        (subst (λ (W' : List Column). IsStep c.args.count c.args.w c.args.waiting.now c.args.standing.now W' (remove c.args.standing.now c.in-Some.j))
        (sym (c.in_ok-push-4.ensures.ok ∙ ap (λ W. W ++ (record { base = c.args.w.base / c.gcd_of-g.result; exps = c.args.w.exps }) ∷ []) (c.in_ok-push-3.ensures.ok ∙ ap (λ W. W ++ (record { base = c.remove-b.result.base / c.gcd_of-g.result; exps = c.remove-b.result.exps }) ∷ []) c.in_ok-push-2.ensures.ok))) s)
