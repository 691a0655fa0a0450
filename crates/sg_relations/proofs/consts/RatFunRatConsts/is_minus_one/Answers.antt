use Rattle.std.proofs.Common.{◌≡◌, List, subst, sym, IsTrue, ◌↔◌}
use Rattle.sg_algebra.proofs.Value.{Value, neg_value, one_value}
use Rattle.sg_algebra.proofs.ValueField.{ValueF}
use Rattle.sg_num.specs.Value.{number}
use Rattle.sg_tower_theory.specs.Powers.{powers}
use Rattle.sg_relations_theory.specs.Relations.{IsSign}
use Rattle.sg_relations.proofs.Leads.{leads_some, leads_sign, leads_minus}
use Rattle.sg_relations.proofs.consts.RatFunRatConsts.is_minus_one.Goals as goal

pub is_minus_one-requires-clause-some : goal.is_minus_one-requires-clause-some
is_minus_one-requires-clause-some c = leads_some number c.args.list.now c.in_ok-leads.leads c.in_ok-leads.ensures.value c.in_ok-leads.ensures.leads c.requires.some

pub is_minus_one-requires-clause-sign : goal.is_minus_one-requires-clause-sign
is_minus_one-requires-clause-sign c = subst (λ (xs : List (Value 0)). IsSign (powers (ValueF 0) xs c.args.exps.now)) (sym c.in_ok-leads.ensures.value)
    (leads_sign number c.args.list.now c.args.exps.now c.in_ok-leads.ensures.leads c.requires.some c.requires.sign)

pub returns-clause-value : goal.returns-clause-value
returns-clause-value c =
    let e = subst (λ (xs : List (Value 0)). IsTrue c.in_ok-negative.negative ↔ (powers (ValueF 0) xs c.args.exps.now ≡ neg_value one_value)) c.in_ok-leads.ensures.value c.in_ok-negative.ensures.value in
    let m = leads_minus number c.args.list.now c.args.exps.now c.in_ok-leads.ensures.leads c.requires.some c.requires.sign in
    (λ t. m.0 (e.0 t), λ q. e.1 (m.1 q))
