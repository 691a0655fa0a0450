use Rattle.std.proofs.Common.{map, rules, arith, IsTrue}
use Rattle.sg_poly.proofs.Dividers.{monic_some}
use Rattle.sg_ratfun.proofs.Coprimes.{lowest_parts}
use Rattle.sg_ratfun.proofs.Quotients.{over_equal, cross_over}
use Rattle.sg_ratfun.proofs.field.RatFunField.same.Goals as goal

pub returns-then-not-nums-clause-value : goal.returns-then-not-nums-clause-value
returns-then-not-nums-clause-value g c =
    let p = map g.F.Field.val c.args.self.now.0 in
    let q = map g.F.Field.val c.args.self.now.1 in
    let r = map g.F.Field.val c.args.other.now.0 in
    let s = map g.F.Field.val c.args.other.now.1 in
    let a = c.upper.ensures.reduced in
    let b = c.upper-2.ensures.reduced in (
      λ t. search (rules, t),
      λ e. let t : IsTrue c.in_ok-nums.nums = c.in_ok-nums.ensures.value.1 (rw (c.upper.ensures.value, c.upper-2.ensures.value)
          ((lowest_parts p q r s a.coprime b.coprime a.monic b.monic (cross_over p q r s (monic_some q a.monic) (monic_some s b.monic) e)).0)) in
          grind (arith, t, c.if-not-nums.true),
    )

pub returns-clause-value : goal.returns-clause-value
returns-clause-value g c =
    let p = map g.F.Field.val c.args.self.now.0 in
    let q = map g.F.Field.val c.args.self.now.1 in
    let r = map g.F.Field.val c.args.other.now.0 in
    let s = map g.F.Field.val c.args.other.now.1 in
    let a = c.upper.ensures.reduced in
    let b = c.upper-2.ensures.reduced in
    let n : IsTrue c.in_ok-nums.nums = grind (arith, c.if-not-nums.false) in (
      λ t. over_equal p q r s (monic_some q a.monic) (rw (c.upper.ensures.value, c.upper-2.ensures.value) at (c.in_ok-nums.ensures.value.0 n)) (rw (c.lower.ensures.value, c.lower-2.ensures.value) at (c.in_ok-dens.ensures.value.0 t)),
      λ e. c.in_ok-dens.ensures.value.1 (rw (c.lower.ensures.value, c.lower-2.ensures.value)
          ((lowest_parts p q r s a.coprime b.coprime a.monic b.monic (cross_over p q r s (monic_some q a.monic) (monic_some s b.monic) e)).1)),
    )
