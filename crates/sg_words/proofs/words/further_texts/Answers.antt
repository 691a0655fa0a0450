use Rattle.std.proofs.Common.{◌≡◌, ◌∙◌, rules, codes, sym}
use Rattle.sg_words.proofs.Finding.{with-split}
use Rattle.sg_words.proofs.words.further_texts.Goals as goal

pub returns : goal.returns
returns c =
    let word : c.as_slice.result.now ≡ codes "with" = search rules in
    with-split c.args.words.now c.index-words-0.result c.if-words-lt2.false c.if-words-gt-MOST_NAMING.false c.index-words-0.is (sym c.as_slice.ensures ∙ word)
