use Rattle.std.proofs.Common.{FitsSigned, rules, arith}
use Rattle.std.specs.Int.{w64}
use Rattle.std.proofs.lemmas.Int.{to_z-of_z, ints}
use Rattle.sg_words.proofs.number.number_in.Goals as goal

pub returns-in-Ok : goal.returns-in-Ok
returns-in-Ok c =
    let fits : FitsSigned w64 c.in-Ok.z = search rules in
    rw (to_z-of_z w64 c.in-Ok.z fits) (record {
      no_plus = search rules;
      digits = search rules;
      value = search rules;
      not_low = omega (arith, ints);
      not_high = omega (arith, ints);
    })
