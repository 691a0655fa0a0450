use Rattle.std.proofs.Common.{◌≡◌, ◌∙◌, rules, codes, sym}
use Rattle.sg_words.proofs.Finding.{words-split}
use Rattle.sg_words.proofs.words.command_of.Goals as goal

pub returns-then-eq : goal.returns-then-eq
returns-then-eq c =
    let word : c.as_slice.result.now ≡ codes "sum" = search rules in
    rw (words-split c.args.words.now c.word-item.result (codes "sum") c.in-len1-up.len_at_least c.word-item.is (sym c.as_slice.ensures ∙ word)) c.sum_command.ensures

pub returns-then-eq-2 : goal.returns-then-eq-2
returns-then-eq-2 c =
    let word : c.as_slice-else-eq.result.now ≡ codes "simplify" = search rules in
    rw (words-split c.args.words.now c.word-item.result (codes "simplify") c.in-len1-up.len_at_least c.word-item.is (sym c.as_slice-else-eq.ensures ∙ word)) c.simplify_command.ensures

pub returns-then-eq-3 : goal.returns-then-eq-3
returns-then-eq-3 c =
    let word : c.as_slice-else-eq-2-2.result.now ≡ codes "check" = search rules in
    rw (words-split c.args.words.now c.word-item.result (codes "check") c.in-len1-up.len_at_least c.word-item.is (sym c.as_slice-else-eq-2-2.ensures ∙ word)) c.check_command.ensures

pub returns-then-eq-4 : goal.returns-then-eq-4
returns-then-eq-4 c =
    let word : c.as_slice-else-eq-3.result.now ≡ codes "value" = search rules in
    rw (words-split c.args.words.now c.word-item.result (codes "value") c.in-len1-up.len_at_least c.word-item.is (sym c.as_slice-else-eq-3.ensures ∙ word)) c.value_command.ensures

pub returns-then-eq-5 : goal.returns-then-eq-5
returns-then-eq-5 c =
    let word : c.as_slice-else-eq-4.result.now ≡ codes "tower" = search rules in
    rw (words-split c.args.words.now c.word-item.result (codes "tower") c.in-len1-up.len_at_least c.word-item.is (sym c.as_slice-else-eq-4.ensures ∙ word)) c.tower_command.ensures
