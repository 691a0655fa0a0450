use Rattle.std.proofs.Common.{FitsSigned, rules, subst, pos, negsuc}
use Rattle.std.specs.Int.{w64}
use Rattle.std.proofs.lemmas.Int.{to_z-of_z}
use Rattle.sg_words.specs.Words.{IsNumberWord}
use Rattle.sg_words.proofs.Finding.{value-no_parameter, value-at_parameter}
use Rattle.sg_words.proofs.words.value_command.Goals as goal

pub returns-in_err-parameter : goal.returns-in_err-parameter
returns-in_err-parameter c =
    rw c.from_residual-in_err-parameter.ensures
    (value-no_parameter c.args.rest.now c.index-rest-1-then-rest-eq3.result c.if-rest-eq3.true c.index-rest-1-then-rest-eq3.is
    (λ n h. c.in_err-parameter.ensures n (rw c.as_slice-then-rest-eq3-2.ensures h)))

pub returns-then-rest-eq3 : goal.returns-then-rest-eq3
returns-then-rest-eq3 c =
    let fits_k : FitsSigned w64 c.in_ok-point-2.point = search rules in
    let fits_n : FitsSigned w64 c.in_ok-parameter.parameter = search rules in
    value-at_parameter c.args.rest.now c.index-rest-0-then-rest-eq3.result c.index-rest-1-then-rest-eq3.result c.index-rest-2.result c.in_ok-parameter.parameter c.in_ok-point-2.point _ _ c.if-rest-eq3.true
    c.index-rest-0-then-rest-eq3.is c.index-rest-1-then-rest-eq3.is c.index-rest-2.is
    (subst (λ w. IsNumberWord (negsuc 99999) (pos 100000) w c.in_ok-point-2.point) c.as_slice-then-rest-eq3.ensures c.in_ok-point-2.ensures)
    (subst (λ w. IsNumberWord (pos 0) (pos 100000) w c.in_ok-parameter.parameter) c.as_slice-then-rest-eq3-2.ensures c.in_ok-parameter.ensures)
    (to_z-of_z w64 c.in_ok-parameter.parameter fits_n) (to_z-of_z w64 c.in_ok-point-2.point fits_k)
