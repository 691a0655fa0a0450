use Rattle.std.proofs.Common.{◌≡◌, ◌∙◌, rules, codes, sym}
use Rattle.sg_words.proofs.Finding.{gen-words, no-seed, no-count}
use Rattle.sg_words.proofs.words.gen_of.Goals as goal

pub returns-in_err-seed : goal.returns-in_err-seed
returns-in_err-seed c =
    rw c.from_residual.ensures (no-seed c.args.words.now c.index-words-1.result c.index-words-1.is (λ z h. c.in_err-seed.ensures z (rw c.as_slice-2.ensures h)))

pub returns-in_err-count : goal.returns-in_err-count
returns-in_err-count c =
    rw c.from_residual-in_err-count.ensures (no-count c.args.words.now c.index-words-2.result c.index-words-2.is (λ z h. c.in_err-count.ensures z (rw c.as_slice-3.ensures h)))

pub returns : goal.returns
returns c =
    let word : c.as_slice.result.now ≡ codes "gen" = search rules in
    gen-words c.args.words.now c.index-words-0.result c.index-words-1.result c.index-words-2.result c.in_ok-seed.seed c.in_ok-count.count c.if-words-ne3.false c.index-words-0.is c.index-words-1.is
    c.index-words-2.is (sym c.as_slice.ensures ∙ word) (rw c.as_slice-2.ensures at c.in_ok-seed.ensures) (rw c.as_slice-3.ensures at c.in_ok-count.ensures)
