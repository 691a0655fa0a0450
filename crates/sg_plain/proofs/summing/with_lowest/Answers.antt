use Rattle.std.proofs.Common.{◌≡◌, ◌≤◌, ◌*ℤ◌, neg_ℤ, unsigned_abs, [], ◌∷◌, ◌++◌, sym, subst, arith, rules, FitsSigned}
use Rattle.std.proofs.lemmas.Int.{to_z-of_z}
use Rattle.std.specs.Int.{w128}
use Rattle.sg_algebra.specs.Coefficients.{Each, eval}
use Rattle.sg_algebra.proofs.Whole.{ℤR}
use Rattle.sg_plain.specs.Lowest.{turned}
use Rattle.sg_plain.proofs.Lowest.{each-append, each-turned}
use Rattle.sg_plain.proofs.summing.with_lowest.Goals as goal

pub returns-clause-size : goal.returns-clause-size
returns-clause-size c =
    let fits-b : FitsSigned w128 c.args.b = search rules in
    let v = simp to_z-of_z at c.opposite_at.ensures.value in
    let s = c.opposite_at.ensures.size in
    let is : c.push.new.self ≡ turned c.args.terms.now ++ (neg_ℤ (c.args.b *ℤ eval ℤR c.args.terms.now c.args.b) ∷ []) = search rules in
    subst (Each (λ z. unsigned_abs z ≤ 1267650600228229401496703205376)) (sym is)
    (each-append 1267650600228229401496703205376 (turned c.args.terms.now) (neg_ℤ (c.args.b *ℤ eval ℤR c.args.terms.now c.args.b) ∷ [])
    (each-turned 2305843009213693952 1267650600228229401496703205376 (omega arith) c.args.terms.now c.requires.small)
    (subst (λ z. unsigned_abs z ≤ 1267650600228229401496703205376) v s, tt))
