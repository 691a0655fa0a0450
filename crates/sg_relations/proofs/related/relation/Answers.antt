use Rattle.std.proofs.Common.{◌≡◌, ◌∙◌, ℕ, suc, ◌<◌, ap, sym, subst, map, List, [], length, get_or, ℤ, arith}
use Rattle.sg_algebra.proofs.Lists.{length_map}
use Rattle.sg_algebra.proofs.Value.{one_value}
use Rattle.sg_algebra.proofs.ValueField.{ValueF}
use Rattle.sg_matrix.specs.NullBasis.{SpanNull}
use Rattle.sg_num.specs.Value.{number}
use Rattle.sg_num.specs.declared.rat.Rat.{Rat}
use Rattle.sg_ratfun.specs.Fractions.{ratio}
use Rattle.sg_tower_theory.specs.Powers.{powers}
use Rattle.sg_relations_theory.specs.Relations.{IsRatio, Holds}
use Rattle.sg_relations.specs.Parts.{lead}
use Rattle.sg_relations.specs.Shortest.{IsShortest}
use Rattle.sg_relations.proofs.Meetings.{some_first, no_items, first_item}
use Rattle.sg_relations.proofs.Leads.{leads_some}
use Rattle.sg_relations.proofs.Found.{all_some, table_found, free_found, long_found, sign_found, sized_found, one_found, holds_found, answer_found}
use Rattle.sg_relations.proofs.related.relation.Goals as goal

pub leads_of-requires : goal.leads_of-requires
leads_of-requires g c = all_some g.F.Field.val c.args.alphas.now c.in_ok-all.all c.args.new.now c.requires.some c.requires.nonzero c.in_ok-all.ensures.value

pub rows_of-requires-clause-some : goal.rows_of-requires-clause-some
rows_of-requires-clause-some g c = all_some g.F.Field.val c.args.alphas.now c.in_ok-all.all c.args.new.now c.requires.some c.requires.nonzero c.in_ok-all.ensures.value

pub rows_of-requires-clause-leads_some : goal.rows_of-requires-clause-leads_some
rows_of-requires-clause-leads_some g c = leads_some g.F.Field.val c.in_ok-all.all c.in_ok-leads.leads c.in_ok-leads.ensures.value c.in_ok-leads.ensures.leads (all_some g.F.Field.val c.args.alphas.now c.in_ok-all.all c.args.new.now c.requires.some c.requires.nonzero c.in_ok-all.ensures.value)

pub null_basis-requires : goal.null_basis-requires
null_basis-requires g c = λ i l. table_found g.F.Field.val c.args.alphas.now c.in_ok-all.all c.args.new.now c.requires.some c.requires.nonzero c.in_ok-all.ensures.value (map g.F.Field.val c.in_ok-leads.leads) c.in_ok-rows.rows c.in_ok-table.table c.in_ok-rows.ensures.value c.in_ok-table.ensures.value i l ∙ sym c.len.ensures

pub returns-then-is_empty-clause-value : goal.returns-then-is_empty-clause-value
returns-then-is_empty-clause-value g c =
    let sizes : (i : ℕ) → i < length c.in_ok-basis.basis → length (get_or c.in_ok-basis.basis i []) ≡ length c.in_ok-all.all = λ i l. c.in_ok-basis.ensures.sized i l ∙ c.len.ensures in
    let spans : SpanNull number (length c.in_ok-all.all) c.in_ok-table.table c.in_ok-basis.basis = subst (λ (n : ℕ). SpanNull number n c.in_ok-table.table c.in_ok-basis.basis) c.len.ensures c.in_ok-basis.ensures.complete in
    free_found g.F.Field.val c.args.alphas.now c.in_ok-all.all c.args.new.now c.requires.some c.requires.nonzero c.in_ok-all.ensures.value c.requires.free c.in_ok-leads.leads (leads_some g.F.Field.val c.in_ok-all.all c.in_ok-leads.leads c.in_ok-leads.ensures.value c.in_ok-leads.ensures.leads (all_some g.F.Field.val c.args.alphas.now c.in_ok-all.all c.args.new.now c.requires.some c.requires.nonzero c.in_ok-all.ensures.value)) c.in_ok-rows.rows c.in_ok-rows.ensures.value c.in_ok-table.table c.in_ok-table.ensures.value c.in_ok-basis.basis sizes c.in_ok-basis.ensures.sound c.in_ok-basis.ensures.form spans
    (no_items c.in_ok-basis.basis c.if-is_empty.ensures)

pub signed-requires-clause-some : goal.signed-requires-clause-some
signed-requires-clause-some g c = leads_some g.F.Field.val c.in_ok-all.all c.in_ok-leads.leads c.in_ok-leads.ensures.value c.in_ok-leads.ensures.leads (all_some g.F.Field.val c.args.alphas.now c.in_ok-all.all c.args.new.now c.requires.some c.requires.nonzero c.in_ok-all.ensures.value)

pub signed-requires-clause-sized : goal.signed-requires-clause-sized
signed-requires-clause-sized g c =
    let sizes : (i : ℕ) → i < length c.in_ok-basis.basis → length (get_or c.in_ok-basis.basis i []) ≡ length c.in_ok-all.all = λ i l. c.in_ok-basis.ensures.sized i l ∙ c.len.ensures in
    let spans : SpanNull number (length c.in_ok-all.all) c.in_ok-table.table c.in_ok-basis.basis = subst (λ (n : ℕ). SpanNull number n c.in_ok-table.table c.in_ok-basis.basis) c.len.ensures c.in_ok-basis.ensures.complete in
    let more : 0 < length c.in_ok-basis.basis = some_first c.in_ok-basis.basis c.if-is_empty.ensures in
    let short : IsShortest (get_or c.in_ok-basis.basis 0 []) c.in_ok-least.least = subst (λ (b : List Rat). IsShortest b c.in_ok-least.least) (c.as_slice.ensures ∙ first_item c.in_ok-basis.basis c.get.result.now [] more c.get.ensures) c.in_ok-least.ensures.value in
    long_found g.F.Field.val c.args.alphas.now c.in_ok-all.all c.args.new.now c.requires.some c.requires.nonzero c.in_ok-all.ensures.value c.requires.free c.in_ok-leads.leads (leads_some g.F.Field.val c.in_ok-all.all c.in_ok-leads.leads c.in_ok-leads.ensures.value c.in_ok-leads.ensures.leads (all_some g.F.Field.val c.args.alphas.now c.in_ok-all.all c.args.new.now c.requires.some c.requires.nonzero c.in_ok-all.ensures.value)) c.in_ok-rows.rows c.in_ok-rows.ensures.value c.in_ok-table.table c.in_ok-table.ensures.value c.in_ok-basis.basis sizes c.in_ok-basis.ensures.sound c.in_ok-basis.ensures.form spans more c.in_ok-least.least short
    ∙ ap length (sym c.in_ok-leads.ensures.value) ∙ length_map g.F.Field.val c.in_ok-leads.leads

pub signed-requires-clause-sign : goal.signed-requires-clause-sign
signed-requires-clause-sign g c =
    let sizes : (i : ℕ) → i < length c.in_ok-basis.basis → length (get_or c.in_ok-basis.basis i []) ≡ length c.in_ok-all.all = λ i l. c.in_ok-basis.ensures.sized i l ∙ c.len.ensures in
    let spans : SpanNull number (length c.in_ok-all.all) c.in_ok-table.table c.in_ok-basis.basis = subst (λ (n : ℕ). SpanNull number n c.in_ok-table.table c.in_ok-basis.basis) c.len.ensures c.in_ok-basis.ensures.complete in
    let more : 0 < length c.in_ok-basis.basis = some_first c.in_ok-basis.basis c.if-is_empty.ensures in
    let short : IsShortest (get_or c.in_ok-basis.basis 0 []) c.in_ok-least.least = subst (λ (b : List Rat). IsShortest b c.in_ok-least.least) (c.as_slice.ensures ∙ first_item c.in_ok-basis.basis c.get.result.now [] more c.get.ensures) c.in_ok-least.ensures.value in
    sign_found g.F.Field.val c.args.alphas.now c.in_ok-all.all c.args.new.now c.requires.some c.requires.nonzero c.in_ok-all.ensures.value c.requires.free c.in_ok-leads.leads (leads_some g.F.Field.val c.in_ok-all.all c.in_ok-leads.leads c.in_ok-leads.ensures.value c.in_ok-leads.ensures.leads (all_some g.F.Field.val c.args.alphas.now c.in_ok-all.all c.args.new.now c.requires.some c.requires.nonzero c.in_ok-all.ensures.value)) c.in_ok-rows.rows c.in_ok-rows.ensures.value c.in_ok-table.table c.in_ok-table.ensures.value c.in_ok-basis.basis sizes c.in_ok-basis.ensures.sound c.in_ok-basis.ensures.form spans more c.in_ok-least.least short

pub ratio_of-requires-clause-some : goal.ratio_of-requires-clause-some
ratio_of-requires-clause-some g c = all_some g.F.Field.val c.args.alphas.now c.in_ok-all.all c.args.new.now c.requires.some c.requires.nonzero c.in_ok-all.ensures.value

pub ratio_of-requires-clause-sized : goal.ratio_of-requires-clause-sized
ratio_of-requires-clause-sized g c =
    let sizes : (i : ℕ) → i < length c.in_ok-basis.basis → length (get_or c.in_ok-basis.basis i []) ≡ length c.in_ok-all.all = λ i l. c.in_ok-basis.ensures.sized i l ∙ c.len.ensures in
    let spans : SpanNull number (length c.in_ok-all.all) c.in_ok-table.table c.in_ok-basis.basis = subst (λ (n : ℕ). SpanNull number n c.in_ok-table.table c.in_ok-basis.basis) c.len.ensures c.in_ok-basis.ensures.complete in
    let more : 0 < length c.in_ok-basis.basis = some_first c.in_ok-basis.basis c.if-is_empty.ensures in
    let short : IsShortest (get_or c.in_ok-basis.basis 0 []) c.in_ok-least.least = subst (λ (b : List Rat). IsShortest b c.in_ok-least.least) (c.as_slice.ensures ∙ first_item c.in_ok-basis.basis c.get.result.now [] more c.get.ensures) c.in_ok-least.ensures.value in
    ap length c.as_slice-2.ensures ∙ sized_found g.F.Field.val c.args.alphas.now c.in_ok-all.all c.args.new.now c.requires.some c.requires.nonzero c.in_ok-all.ensures.value c.requires.free c.in_ok-leads.leads (leads_some g.F.Field.val c.in_ok-all.all c.in_ok-leads.leads c.in_ok-leads.ensures.value c.in_ok-leads.ensures.leads (all_some g.F.Field.val c.args.alphas.now c.in_ok-all.all c.args.new.now c.requires.some c.requires.nonzero c.in_ok-all.ensures.value)) c.in_ok-rows.rows c.in_ok-rows.ensures.value c.in_ok-table.table c.in_ok-table.ensures.value c.in_ok-basis.basis sizes c.in_ok-basis.ensures.sound c.in_ok-basis.ensures.form spans more c.in_ok-least.least short c.in_ok-leads.ensures.value c.in_ok-exps.exps c.in_ok-exps.ensures.value

pub ratio_of-requires-clause-one : goal.ratio_of-requires-clause-one
ratio_of-requires-clause-one g c =
    let sizes : (i : ℕ) → i < length c.in_ok-basis.basis → length (get_or c.in_ok-basis.basis i []) ≡ length c.in_ok-all.all = λ i l. c.in_ok-basis.ensures.sized i l ∙ c.len.ensures in
    let spans : SpanNull number (length c.in_ok-all.all) c.in_ok-table.table c.in_ok-basis.basis = subst (λ (n : ℕ). SpanNull number n c.in_ok-table.table c.in_ok-basis.basis) c.len.ensures c.in_ok-basis.ensures.complete in
    let more : 0 < length c.in_ok-basis.basis = some_first c.in_ok-basis.basis c.if-is_empty.ensures in
    let short : IsShortest (get_or c.in_ok-basis.basis 0 []) c.in_ok-least.least = subst (λ (b : List Rat). IsShortest b c.in_ok-least.least) (c.as_slice.ensures ∙ first_item c.in_ok-basis.basis c.get.result.now [] more c.get.ensures) c.in_ok-least.ensures.value in
    subst (λ (es : List ℤ). powers (ValueF g.F.Field.vars) (map (lead g.F.Field.val) c.in_ok-all.all) es ≡ one_value) (sym c.as_slice-2.ensures)
    (one_found g.F.Field.val c.args.alphas.now c.in_ok-all.all c.args.new.now c.requires.some c.requires.nonzero c.in_ok-all.ensures.value c.requires.free c.in_ok-leads.leads (leads_some g.F.Field.val c.in_ok-all.all c.in_ok-leads.leads c.in_ok-leads.ensures.value c.in_ok-leads.ensures.leads (all_some g.F.Field.val c.args.alphas.now c.in_ok-all.all c.args.new.now c.requires.some c.requires.nonzero c.in_ok-all.ensures.value)) c.in_ok-rows.rows c.in_ok-rows.ensures.value c.in_ok-table.table c.in_ok-table.ensures.value c.in_ok-basis.basis sizes c.in_ok-basis.ensures.sound c.in_ok-basis.ensures.form spans more c.in_ok-least.least short c.in_ok-leads.ensures.value c.in_ok-exps.exps c.in_ok-exps.ensures.value)

pub ratio_of-requires-clause-holds : goal.ratio_of-requires-clause-holds
ratio_of-requires-clause-holds g c =
    let sizes : (i : ℕ) → i < length c.in_ok-basis.basis → length (get_or c.in_ok-basis.basis i []) ≡ length c.in_ok-all.all = λ i l. c.in_ok-basis.ensures.sized i l ∙ c.len.ensures in
    let spans : SpanNull number (length c.in_ok-all.all) c.in_ok-table.table c.in_ok-basis.basis = subst (λ (n : ℕ). SpanNull number n c.in_ok-table.table c.in_ok-basis.basis) c.len.ensures c.in_ok-basis.ensures.complete in
    let more : 0 < length c.in_ok-basis.basis = some_first c.in_ok-basis.basis c.if-is_empty.ensures in
    let short : IsShortest (get_or c.in_ok-basis.basis 0 []) c.in_ok-least.least = subst (λ (b : List Rat). IsShortest b c.in_ok-least.least) (c.as_slice.ensures ∙ first_item c.in_ok-basis.basis c.get.result.now [] more c.get.ensures) c.in_ok-least.ensures.value in
    subst (λ (es : List ℤ). Holds (map (ratio g.F.Field.val) c.in_ok-all.all) es) (sym c.as_slice-2.ensures)
    (holds_found g.F.Field.val c.args.alphas.now c.in_ok-all.all c.args.new.now c.requires.some c.requires.nonzero c.in_ok-all.ensures.value c.requires.free c.in_ok-leads.leads (leads_some g.F.Field.val c.in_ok-all.all c.in_ok-leads.leads c.in_ok-leads.ensures.value c.in_ok-leads.ensures.leads (all_some g.F.Field.val c.args.alphas.now c.in_ok-all.all c.args.new.now c.requires.some c.requires.nonzero c.in_ok-all.ensures.value)) c.in_ok-rows.rows c.in_ok-rows.ensures.value c.in_ok-table.table c.in_ok-table.ensures.value c.in_ok-basis.basis sizes c.in_ok-basis.ensures.sound c.in_ok-basis.ensures.form spans more c.in_ok-least.least short c.in_ok-leads.ensures.value c.in_ok-exps.exps c.in_ok-exps.ensures.value)

pub answered-requires : goal.answered-requires
answered-requires g c =
    let sizes : (i : ℕ) → i < length c.in_ok-basis.basis → length (get_or c.in_ok-basis.basis i []) ≡ length c.in_ok-all.all = λ i l. c.in_ok-basis.ensures.sized i l ∙ c.len.ensures in
    let spans : SpanNull number (length c.in_ok-all.all) c.in_ok-table.table c.in_ok-basis.basis = subst (λ (n : ℕ). SpanNull number n c.in_ok-table.table c.in_ok-basis.basis) c.len.ensures c.in_ok-basis.ensures.complete in
    let more : 0 < length c.in_ok-basis.basis = some_first c.in_ok-basis.basis c.if-is_empty.ensures in
    let short : IsShortest (get_or c.in_ok-basis.basis 0 []) c.in_ok-least.least = subst (λ (b : List Rat). IsShortest b c.in_ok-least.least) (c.as_slice.ensures ∙ first_item c.in_ok-basis.basis c.get.result.now [] more c.get.ensures) c.in_ok-least.ensures.value in
    let long : length c.in_ok-exps.exps ≡ length c.in_ok-all.all = sized_found g.F.Field.val c.args.alphas.now c.in_ok-all.all c.args.new.now c.requires.some c.requires.nonzero c.in_ok-all.ensures.value c.requires.free c.in_ok-leads.leads (leads_some g.F.Field.val c.in_ok-all.all c.in_ok-leads.leads c.in_ok-leads.ensures.value c.in_ok-leads.ensures.leads (all_some g.F.Field.val c.args.alphas.now c.in_ok-all.all c.args.new.now c.requires.some c.requires.nonzero c.in_ok-all.ensures.value)) c.in_ok-rows.rows c.in_ok-rows.ensures.value c.in_ok-table.table c.in_ok-table.ensures.value c.in_ok-basis.basis sizes c.in_ok-basis.ensures.sound c.in_ok-basis.ensures.form spans more c.in_ok-least.least short c.in_ok-leads.ensures.value c.in_ok-exps.exps c.in_ok-exps.ensures.value in
    let all_long = Rattle.sg_relations.proofs.Found.all_long g.F.Field.val c.args.alphas.now c.in_ok-all.all c.args.new.now c.requires.some c.requires.nonzero c.in_ok-all.ensures.value in
    omega (arith, long, all_long)

pub returns-clause-value : goal.returns-clause-value
returns-clause-value g c =
    let sizes : (i : ℕ) → i < length c.in_ok-basis.basis → length (get_or c.in_ok-basis.basis i []) ≡ length c.in_ok-all.all = λ i l. c.in_ok-basis.ensures.sized i l ∙ c.len.ensures in
    let spans : SpanNull number (length c.in_ok-all.all) c.in_ok-table.table c.in_ok-basis.basis = subst (λ (n : ℕ). SpanNull number n c.in_ok-table.table c.in_ok-basis.basis) c.len.ensures c.in_ok-basis.ensures.complete in
    let more : 0 < length c.in_ok-basis.basis = some_first c.in_ok-basis.basis c.if-is_empty.ensures in
    let short : IsShortest (get_or c.in_ok-basis.basis 0 []) c.in_ok-least.least = subst (λ (b : List Rat). IsShortest b c.in_ok-least.least) (c.as_slice.ensures ∙ first_item c.in_ok-basis.basis c.get.result.now [] more c.get.ensures) c.in_ok-least.ensures.value in
    answer_found g.F.Field.val c.args.alphas.now c.in_ok-all.all c.args.new.now c.requires.some c.requires.nonzero c.in_ok-all.ensures.value c.requires.free c.in_ok-leads.leads (leads_some g.F.Field.val c.in_ok-all.all c.in_ok-leads.leads c.in_ok-leads.ensures.value c.in_ok-leads.ensures.leads (all_some g.F.Field.val c.args.alphas.now c.in_ok-all.all c.args.new.now c.requires.some c.requires.nonzero c.in_ok-all.ensures.value)) c.in_ok-rows.rows c.in_ok-rows.ensures.value c.in_ok-table.table c.in_ok-table.ensures.value c.in_ok-basis.basis sizes c.in_ok-basis.ensures.sound c.in_ok-basis.ensures.form spans more c.in_ok-least.least short c.in_ok-leads.ensures.value c.in_ok-exps.exps c.in_ok-exps.ensures.value
    c.in_ok-ratio.ratio (subst (λ (es : List ℤ). IsRatio (powers (ValueF (suc g.F.Field.vars)) (map (ratio g.F.Field.val) c.in_ok-all.all) es) (ratio g.F.Field.val c.in_ok-ratio.ratio)) c.as_slice-2.ensures c.in_ok-ratio.ensures.value) c.in_ok-ratio.ensures.monic c.in_ok-answer.answer c.in_ok-answer.ensures.value
