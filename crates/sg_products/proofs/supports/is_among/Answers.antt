use Rattle.std.proofs.Common.{◌≡◌, List, ℤ, get_or, subst, sym, arith}
use Rattle.std.specs.Bool.{IsTrue}
use Rattle.sg_products.proofs.Growing.{has_at}
use Rattle.sg_products.proofs.supports.is_among.Goals as goal

pub returns-then-are_same : goal.returns-then-are_same
returns-then-are_same c t =
    let s : IsTrue c.are_same.result = grind (arith, c.if-are_same.true) in
    has_at c.args.es.now c.loop-i.i c.as_slice.result.now c.args.e.now (omega arith)
    (subst (λ (z : List ℤ). z ≡ get_or c.args.es.now c.loop-i.i z) (sym c.as_slice.ensures) c.get-own.ensures) (c.are_same.ensures.0 s)
