use Rattle.std.proofs.Common.{◌-◌, ◌*◌, ◌<◌, List, map, length, subst, rules, arith}
use Rattle.sg_algebra.proofs.ValueField.{ValueR}
use Rattle.sg_algebra.proofs.Tables.{row_read}
use Rattle.sg_num.specs.Value.{number}
use Rattle.sg_num.specs.declared.rat.Rat.{Rat}
use Rattle.sg_dispersion_theory.proofs.Certificate.{Certificate}
use Rattle.sg_spread.specs.Powers.{IsSome}
use Rattle.sg_spread.proofs.Powers.{null_some, null_is, null_none, product_some}
use Rattle.sg_spread.proofs.certificate.dependence.Goals as goal

pub returns-then-not-is_empty-clause-some : goal.returns-then-not-is_empty-clause-some
returns-then-not-is_empty-clause-some c =
    let l : 0 < length c.in_ok-basis.basis = search rules in
    subst (λ (r : List Rat). IsSome (map number r)) (row_read c.in_ok-basis.basis 0 c.remove.result l c.remove.ensures.item)
    (null_some (length c.args.a.now - 1) (length c.args.b.now - 1) (map number c.args.a.now) (map number c.args.b.now) (length c.grow.new.rows) c.in_ok-basis.basis c.in_ok-basis.ensures.basis l)

pub returns-then-not-is_empty-clause-certificate : goal.returns-then-not-is_empty-clause-certificate
returns-then-not-is_empty-clause-certificate c =
    let l : 0 < length c.in_ok-basis.basis = search rules in
    subst (λ (r : List Rat). Certificate (ValueR 0) (length c.args.a.now - 1) (length c.args.b.now - 1) (map number c.args.a.now) (map number c.args.b.now) (map number r)) (row_read c.in_ok-basis.basis 0 c.remove.result l c.remove.ensures.item)
    (null_is (length c.args.a.now - 1) (length c.args.b.now - 1) (map number c.args.a.now) (map number c.args.b.now) (length c.grow.new.rows) c.in_ok-basis.basis c.in_ok-basis.ensures.basis l)

pub returns-clause-some : goal.returns-clause-some
returns-clause-some c =
    let (size, count, powers, none) = c.loop.invariant in
    let positive : 0 < (length c.args.a.now - 1) * (length c.args.b.now - 1) = product_some (length c.args.a.now - 1) (length c.args.b.now - 1) (omega arith) (omega arith) in
    let (basis, is, m) = none (omega (arith, size, positive)) in
    absurd (null_none (length c.args.a.now - 1) (length c.args.b.now - 1) (map number c.args.a.now) (map number c.args.b.now) (length c.loop.rows) basis m is (omega (arith, size, count)))
