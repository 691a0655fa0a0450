use Rattle.std.proofs.Common.{◌≡◌, All, List, map, pos, subst, sym}
use Rattle.sg_algebra.proofs.ValueField.{ValueF}
use Rattle.sg_num.specs.Value.{number}
use Rattle.sg_num.specs.declared.rat.Rat.{Rat}
use Rattle.sg_tower_theory.specs.Powers.{powers}
use Rattle.sg_relations.specs.Signs.{HasSign}
use Rattle.sg_relations.proofs.Signs.{numbers_some, sign_is}
use Rattle.sg_relations.proofs.consts.RatConsts.is_minus_one.Goals as goal

pub is_negative-requires-clause-some : goal.is_negative-requires-clause-some
is_negative-requires-clause-some c = subst (λ (xs : List Rat). All (λ r. ¬ (r.num ≡ pos 0)) xs) (sym c.as_slice.ensures) (numbers_some c.args.list.now c.requires.some)

pub returns-clause-value : goal.returns-clause-value
returns-clause-value c = sign_is c.is_negative.result (powers (ValueF 0) (map number c.args.list.now) c.args.exps.now)
    (subst (λ (xs : List Rat). HasSign c.is_negative.result (powers (ValueF 0) (map number xs) c.args.exps.now)) c.as_slice.ensures c.is_negative.ensures.value) c.requires.sign
