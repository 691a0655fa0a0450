use Rattle.std.proofs.Common.{◌-◌, ◌<◌, length, sym, ◌∙◌, rules, arith, [], IsTrue, map}
use Rattle.sg_algebra.proofs.Polynomial.{same_poly}
use Rattle.sg_algebra.proofs.Rows.{at_read}
use Rattle.sg_num.specs.Value.{number}
use Rattle.sg_polynomial_tests.proofs.whole_roots.has_roots.Goals as goal

pub whole_roots-requires : goal.whole_roots-requires
whole_roots-requires c z =
    let p = c.in_ok-p.p in
    let some : 0 < length p = grind arith in
    let t : IsTrue c.is_zero.result = c.is_zero.ensures.1
    (sym (at_read number p (length p - 1) c.get-last.result.now (omega arith) (let e = c.get-last.ensures in search rules)) ∙ same_poly (map number p) [] (rw c.as_slice.ensures at z) (length p - 1)) in
    search (rules, t, c.if-is_zero.false)
