use Rattle.std.proofs.Common.{rules, subst, pos, ℕ, ℤ, ◌≡◌, ◌∙◌, ◌%◌, ap, sym, ◌<ℤ◌, unsigned_abs, nat_eq, FitsSigned, to_z, of_z}
use Rattle.std.specs.Int.{w128}
use Rattle.std.proofs.lemmas.Int.{to_z-of_z}
use Rattle.sg_algebra.proofs.ValueField.{ValueF}
use Rattle.sg_num.specs.Value.{number}
use Rattle.sg_tower_theory.specs.Powers.{power}
use Rattle.sg_relations.specs.Signs.{HasSign}
use Rattle.sg_relations.proofs.Signs.{sign_above, sign_below}
use Rattle.sg_relations.proofs.numbers.is_odd_below.Goals as goal

pub returns-then-not-is_below : goal.returns-then-not-is_below
returns-then-not-is_below c =
    let fits : FitsSigned w128 c.num.result = search rules in
    let same : to_z w128 (of_z w128 c.num.result) ≡ c.args.r.num = to_z-of_z w128 c.num.result fits ∙ c.num.ensures in
    record { value = sign_above c.args.r c.args.e c.requires (λ h. let k = c.is_below.ensures.1 (subst (λ (z : ℤ). z <ℤ pos 0) (sym same) h) in cc) }

pub returns : goal.returns
returns c =
    let fits : FitsSigned w128 c.num.result = search rules in
    let same : to_z w128 (of_z w128 c.num.result) ≡ c.args.r.num = to_z-of_z w128 c.num.result fits ∙ c.num.ensures in
    let size : c.unsigned_abs.result ≡ unsigned_abs c.args.e = c.unsigned_abs.ensures.value ∙ ap unsigned_abs (to_z-of_z w128 c.args.e c.ranges.e) in
    record {
      value = subst (λ (n : ℕ). HasSign (nat_eq (n % 2) 1) (power (ValueF 0) (number c.args.r) c.args.e)) (sym size)
          (sign_below c.args.r c.args.e (subst (λ (z : ℤ). z <ℤ pos 0) same (c.is_below.ensures.0 c.if-not-is_below.false)));
    }
