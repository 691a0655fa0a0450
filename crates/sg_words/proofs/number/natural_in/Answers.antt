use Rattle.std.proofs.Common.{FitsSigned, rules, arith, ℤ, pos, ◌≤ℤ◌, subst, sym}
use Rattle.std.specs.Int.{w128}
use Rattle.std.proofs.lemmas.Int.{to_z-of_z, ints}
use Rattle.sg_words.specs.Words.{IsNumberWord}
use Rattle.sg_words.proofs.Finding.{natural-same}
use Rattle.sg_words.proofs.number.natural_in.Goals as goal

pub returns-in-Ok : goal.returns-in-Ok
returns-in-Ok c =
    let fits : FitsSigned w128 c.in-Ok.z = search rules in
    let low : pos 0 ≤ℤ c.in-Ok.z = omega (arith, ints) in
    let word : IsNumberWord (pos 0) (pos c.args.most) c.args.word.now c.in-Ok.z = record {
      no_plus = search rules;
      digits = search rules;
      value = search rules;
      not_low = low;
      not_high = omega (arith, ints, c.from.ensures);
    } in
    rw (to_z-of_z w128 c.in-Ok.z fits) (subst (λ (z : ℤ). IsNumberWord (pos 0) (pos c.args.most) c.args.word.now z) (sym (natural-same c.in-Ok.z low)) word)
