use Rattle.std.proofs.Common.{◌≡◌, ℕ, suc, ◌+◌, ◌<◌, ℤ, sym, ap, subst, ◌∙◌, w64, SFits, to_z, of_z, arith, rules}
use Rattle.std.proofs.lemmas.Int.{to_z-of_z}
use Rattle.sg_spec.specs.Tree.{Tree}
use Rattle.sg_spec.specs.Value.{how_many}
use Rattle.sg_spec.specs.Worth.{IsFolded, HasWorth}
use Rattle.sg_expr.specs.Tree.{tree_of}
use Rattle.sg_build.specs.Letters.{letter}
use Rattle.sg_build.specs.Found.{Finds, IsFold, join_of, start_of}
use Rattle.sg_build.specs.declared.values.Folding.TheVariants.{Sum, Product}
use Rattle.sg_build.proofs.WorthParts.{found-sum, found-product, fold-none}
use Rattle.sg_build.proofs.values.+find_value.Goals as goal

pub find_value-returns-in_ok-r-in-Add-clause-value : goal.find_value-returns-in_ok-r-in-Add-clause-value
find_value-returns-in_ok-r-in-Add-clause-value g t c =
    let v = g.K.Field.val in
    let l = letter g.K.Field.vars in
    let x = subst (λ (e : Tree). Finds v (HasWorth l e c.args.k.now) c.in_ok-x-in-Add.x) (ap tree_of c.deref.ensures) c.in_ok-x-in-Add.ensures.value in
    let y = subst (λ (e : Tree). Finds v (HasWorth l e c.args.k.now) c.in_ok-y-in-Add.y) (ap tree_of c.deref-in-Add.ensures) c.in_ok-y-in-Add.ensures.value in
    rw c.in-Add.is (found-sum v l c.args.k.now (tree_of c.in-Add.a.value) (tree_of c.in-Add.b.value) c.in_ok-x-in-Add.x c.in_ok-y-in-Add.y c.in_ok-r-in-Add.r x y c.in_ok-r-in-Add.ensures.value)

pub find_value-returns-in_ok-r-in-Neg-clause-value : goal.find_value-returns-in_ok-r-in-Neg-clause-value
find_value-returns-in_ok-r-in-Neg-clause-value g t c =
    let v = g.K.Field.val in
    let l = letter g.K.Field.vars in
    let x = subst (λ (e : Tree). Finds v (HasWorth l e c.args.k.now) c.in_ok-x-in-Neg.x) (ap tree_of c.deref-in-Neg.ensures) c.in_ok-x-in-Neg.ensures.value in
    rw c.in-Neg.is (c.in_ok-r-in-Neg.ensures.value l c.args.k.now (tree_of c.in-Neg.a.value) x)

pub find_value-returns-in_ok-r-in-Mul-clause-value : goal.find_value-returns-in_ok-r-in-Mul-clause-value
find_value-returns-in_ok-r-in-Mul-clause-value g t c =
    let v = g.K.Field.val in
    let l = letter g.K.Field.vars in
    let x = subst (λ (e : Tree). Finds v (HasWorth l e c.args.k.now) c.in_ok-x-in-Mul.x) (ap tree_of c.deref-in-Mul.ensures) c.in_ok-x-in-Mul.ensures.value in
    let y = subst (λ (e : Tree). Finds v (HasWorth l e c.args.k.now) c.in_ok-y-in-Mul.y) (ap tree_of c.deref-in-Mul-2.ensures) c.in_ok-y-in-Mul.ensures.value in
    rw c.in-Mul.is (found-product v l c.args.k.now (tree_of c.in-Mul.a.value) (tree_of c.in-Mul.b.value) c.in_ok-x-in-Mul.x c.in_ok-y-in-Mul.y c.in_ok-r-in-Mul.r x y c.in_ok-r-in-Mul.ensures.value)

pub find_value-returns-in_ok-r-in-Div-clause-value : goal.find_value-returns-in_ok-r-in-Div-clause-value
find_value-returns-in_ok-r-in-Div-clause-value g t c =
    let v = g.K.Field.val in
    let l = letter g.K.Field.vars in
    let x = subst (λ (e : Tree). Finds v (HasWorth l e c.args.k.now) c.in_ok-x-in-Div.x) (ap tree_of c.deref-in-Div.ensures) c.in_ok-x-in-Div.ensures.value in
    let y = subst (λ (e : Tree). Finds v (HasWorth l e c.args.k.now) c.in_ok-y-in-Div.y) (ap tree_of c.deref-in-Div-2.ensures) c.in_ok-y-in-Div.ensures.value in
    rw c.in-Div.is (c.in_ok-r-in-Div.ensures.value l c.args.k.now (tree_of c.in-Div.a.value) (tree_of c.in-Div.b.value) x y)

pub find_value-returns-in_ok-r-in-Pow-clause-value : goal.find_value-returns-in_ok-r-in-Pow-clause-value
find_value-returns-in_ok-r-in-Pow-clause-value g t c =
    let v = g.K.Field.val in
    let l = letter g.K.Field.vars in
    let x = subst (λ (e : Tree). Finds v (HasWorth l e c.args.k.now) c.in_ok-x-in-Pow.x) (ap tree_of c.deref-in-Pow.ensures) c.in_ok-x-in-Pow.ensures.value in
    rw c.in-Pow.is (c.in_ok-r-in-Pow.ensures.value l c.args.k.now (tree_of c.in-Pow.a.value) x)

pub find_value-returns-in_ok-r-in-Sum-clause-value : goal.find_value-returns-in_ok-r-in-Sum-clause-value
find_value-returns-in_ok-r-in-Sum-clause-value g t c =
    let v = g.K.Field.val in
    let l = letter g.K.Field.vars in
    rw c.in-Sum.is (subst (λ (e : Tree). Finds v (IsFold l Sum e c.in-Sum.from c.args.k.now) c.in_ok-r-in-Sum.r) (ap tree_of c.deref-in-Sum.ensures) c.in_ok-r-in-Sum.ensures.value)

pub find_value-returns-in_ok-r-in-Prod-clause-value : goal.find_value-returns-in_ok-r-in-Prod-clause-value
find_value-returns-in_ok-r-in-Prod-clause-value g t c =
    let v = g.K.Field.val in
    let l = letter g.K.Field.vars in
    rw c.in-Prod.is (subst (λ (e : Tree). Finds v (IsFold l Product e c.in-Prod.from c.args.k.now) c.in_ok-r-in-Prod.r) (ap tree_of c.deref-in-Prod.ensures) c.in_ok-r-in-Prod.ensures.value)

pub fold-returns-in-None-clause-value : goal.fold-returns-in-None-clause-value
fold-returns-in-None-clause-value g t c =
    let v = g.K.Field.val in
    let l = letter g.K.Field.vars in
    let body = tree_of c.args.body.now in
    let fits : SFits w64 c.term_place-place.result = search rules in
    let place = to_z-of_z w64 c.term_place-place.result fits ∙ c.term_place-place.ensures in
    let none = subst (Finds v (HasWorth l body (to_z w64 (of_z w64 c.term_place-place.result)))) c.in-None.is c.in_ok-term.ensures.value in
    let room : c.loop-i.i < how_many c.args.from.now c.args.last.now = omega arith in
    fold-none (join_of c.args.op) (start_of c.args.op) (HasWorth l body) c.args.from.now c.loop-i.i (how_many c.args.from.now c.args.last.now) room
    (λ w q. none w (subst (λ (k : ℤ). HasWorth l body k w) (sym place) q))

pub fold-loop-i-preserved : goal.fold-loop-i-preserved
fold-loop-i-preserved g t c =
    let v = g.K.Field.val in
    let l = letter g.K.Field.vars in
    let body = tree_of c.args.body.now in
    let fits : SFits w64 c.term_place-place.result = search rules in
    let place = to_z-of_z w64 c.term_place-place.result fits ∙ c.term_place-place.ensures in
    let some = subst (Finds v (HasWorth l body (to_z w64 (of_z w64 c.term_place-place.result)))) c.in-Some.is c.in_ok-term.ensures.value in
    let more : suc c.loop-i.i ≡ c.loop-i.i + 1 = omega arith in
    subst (λ (n : ℕ). IsFolded (join_of c.args.op) (start_of c.args.op) (HasWorth l body) c.args.from.now n (v c.in_ok-so_far-in-Some.so_far)) more
    (v c.loop-i.so_far, v c.in-Some.x, c.loop-i.invariant, subst (λ (k : ℤ). HasWorth l body k (v c.in-Some.x)) place some, c.in_ok-so_far-in-Some.ensures.value)

pub fold-returns-clause-value : goal.fold-returns-clause-value
fold-returns-clause-value g t c =
    let all : c.loop-i.i ≡ how_many c.args.from.now c.args.last.now = omega arith in
    subst (λ (n : ℕ). IsFolded (join_of c.args.op) (start_of c.args.op) (HasWorth (letter g.K.Field.vars) (tree_of c.args.body.now)) c.args.from.now n (g.K.Field.val c.loop-i.so_far)) all c.loop-i.invariant
