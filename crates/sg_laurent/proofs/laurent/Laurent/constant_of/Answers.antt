use Rattle.std.proofs.Common.{◌≡◌, ◌<◌, sym, length, arith}
use Rattle.std.specs.Bool.{IsTrue}
use Rattle.sg_laurent.specs.Elements.{element}
use Rattle.sg_laurent.proofs.Coefficients.{constant_none, constant_many, constant_power, constant_one}
use Rattle.sg_laurent.proofs.laurent.Laurent.constant_of.Goals as goal

pub returns-then-is_empty-clause-some : goal.returns-then-is_empty-clause-some
returns-then-is_empty-clause-some g c =
    let l : length c.terms-own.result.now ≡ 0 = grind (arith, c.is_empty.ensures, c.if-is_empty.true) in
    constant_none g.K.Field.val c.args.n (element g.K.Field.val c.args.n c.args.self.now) c.terms-own.result.now (g.K.Field.val c.in_ok-zero.zero) c.terms-own.ensures.value l c.in_ok-zero.ensures.value

pub returns-then-own-gt1-clause-none : goal.returns-then-own-gt1-clause-none
returns-then-own-gt1-clause-none g c = constant_many g.K.Field.val c.args.n (element g.K.Field.val c.args.n c.args.self.now) c.terms-own.result.now c.terms-own.ensures.value c.terms-own.ensures.normal c.if-own-gt1.true

pub returns-then-not-are_zero-clause-none : goal.returns-then-not-are_zero-clause-none
returns-then-not-are_zero-clause-none g c =
    let l : 0 < length c.terms-own.result.now = grind (arith, c.is_empty.ensures, c.if-is_empty.false) in
    constant_power g.K.Field.val c.args.n (element g.K.Field.val c.args.n c.args.self.now) c.terms-own.result.now c.index-own-0.result c.terms-own.ensures.value c.terms-own.ensures.normal l c.index-own-0.is
    (λ e. let t : IsTrue c.are_zero.result = c.are_zero.ensures.1 (rw (sym c.as_slice.ensures) at e) in grind (arith, t, c.if-not-are_zero.true))

pub returns-clause-some : goal.returns-clause-some
returns-clause-some g c =
    let l : length c.terms-own.result.now ≡ 1 = grind (arith, c.is_empty.ensures, c.if-is_empty.false, c.if-own-gt1.false) in
    let t : IsTrue c.are_zero.result = grind (arith, c.if-not-are_zero.false) in
    constant_one g.K.Field.val c.args.n (element g.K.Field.val c.args.n c.args.self.now) c.terms-own.result.now c.index-own-0.result (g.K.Field.val c.in_ok-c.c) c.terms-own.ensures.value c.terms-own.ensures.normal l c.index-own-0.is
    (rw c.as_slice.ensures at (c.are_zero.ensures.0 t)) c.in_ok-c.ensures.value
