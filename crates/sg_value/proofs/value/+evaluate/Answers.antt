use Rattle.std.proofs.Common.{◌≡◌, ◌≤◌, ◌+◌, ◌/◌, ℕ, suc, refl, subst, arith, rules, w64, SFits, ℤ, to_z, of_z, ◌∙◌}
use Rattle.std.proofs.lemmas.Int.{to_z-of_z}
use Rattle.sg_spec.specs.Fraction.{Fraction}
use Rattle.sg_spec.specs.Value.{val, folded, how_many}
use Rattle.sg_spec.specs.Steps.{Operation, steps, folded_steps, result_of}
use Rattle.sg_spec.specs.Tree.{Tree}
use Rattle.sg_expr.specs.Tree.{tree_of}
use Rattle.sg_num.specs.Value.{fraction}
use Rattle.sg_value.specs.declared.step.Outcome.{Outcome}
use Rattle.sg_value.specs.declared.step.Outcome.TheVariants.{Value}
use Rattle.sg_value.specs.Answer.{Answers, operation_of}
use Rattle.sg_value.proofs.LeftParts.{middle, part-within}
use Rattle.sg_value.proofs.Climbing.{two-climbs}
use Rattle.sg_value.proofs.Folding.{fold-next, fold-given, folded-ends}
use Rattle.sg_value.proofs.value.+evaluate.Goals as goal

-- a number as it is handed on
abbrev given : ℤ → ℤ
given z = to_z w64 (of_z w64 z)

abbrev folds : Outcome → Operation → Fraction → Tree → ℤ → ℤ → ℕ → Type 0
folds r op start body n from i = Answers r (folded (result_of op) start (val body n) from i) (folded_steps op start (val body n) (steps body n) from i)

pub fold-returns-in_default : goal.fold-returns-in_default
fold-returns-in_default t c =
    let op = operation_of c.args.op in
    let start = fraction c.args.start in
    let body = tree_of c.args.body.now in
    let fits_place : SFits w64 c.place.result = search rules in
    let place = to_z-of_z w64 c.place.result fits_place in
    let next = fold-next op start body (given c.args.n) (given c.args.from) (given c.place.result) c.loop-i.i c.loop-i.so_far c.evaluate-term.result c.join.result
    (place ∙ c.place.ensures) c.loop-i.invariant c.evaluate-term.ensures c.join.ensures in
    let fits_from : SFits w64 c.args.from = c.ranges.from in
    let fits_last : SFits w64 c.args.last = c.ranges.last in
    let terms = simp to_z-of_z at c.count-terms.ensures in
    let more : suc c.loop-i.i ≤ how_many c.args.from c.args.last = omega arith in
    folded-ends op start body c.args.n c.args.from (suc c.loop-i.i) (how_many c.args.from c.args.last) c.join.result c.in_default.not-Value more
    (fold-given op start body c.args.n (given c.args.n) c.args.from (given c.args.from) (suc c.loop-i.i) (suc c.loop-i.i) c.join.result
    (to_z-of_z w64 c.args.n c.ranges.n) (to_z-of_z w64 c.args.from c.ranges.from) refl next)

pub fold-loop-i-preserved : goal.fold-loop-i-preserved
fold-loop-i-preserved t c =
    let op = operation_of c.args.op in
    let start = fraction c.args.start in
    let body = tree_of c.args.body.now in
    let fits_place : SFits w64 c.place.result = search rules in
    let place = to_z-of_z w64 c.place.result fits_place in
    let next = fold-next op start body (given c.args.n) (given c.args.from) (given c.place.result) c.loop-i.i c.loop-i.so_far c.evaluate-term.result c.join.result
    (place ∙ c.place.ensures) c.loop-i.invariant c.evaluate-term.ensures c.join.ensures in
    let last = subst (λ (r : Outcome). folds r op start body (given c.args.n) (given c.args.from) (suc c.loop-i.i)) c.in-Value.is next in
    let one_more : suc c.loop-i.i ≡ c.loop-i.i + 1 = omega arith in
    fold-given op start body (given c.args.n) (given c.args.n) (given c.args.from) (given c.args.from) (suc c.loop-i.i) (c.loop-i.i + 1) (Value c.in-Value.next) refl refl one_more last

pub fold-returns : goal.fold-returns
fold-returns t c =
    let fits_from : SFits w64 c.args.from = c.ranges.from in
    let fits_last : SFits w64 c.args.last = c.ranges.last in
    let terms = simp to_z-of_z at c.count-terms.ensures in
    let all : c.loop-i.i ≡ how_many c.args.from c.args.last = omega arith in
    fold-given (operation_of c.args.op) (fraction c.args.start) (tree_of c.args.body.now) c.args.n (given c.args.n) c.args.from (given c.args.from) c.loop-i.i (how_many c.args.from c.args.last)
    (Value c.loop-i.so_far) (to_z-of_z w64 c.args.n c.ranges.n) (to_z-of_z w64 c.args.from c.ranges.from) all c.loop-i.invariant

pub evaluate_part-returns-in-Sum : goal.evaluate_part-returns-in-Sum
evaluate_part-returns-in-Sum t c =
    let fits_n : SFits w64 c.args.n = c.ranges.n in
    let fits_k : SFits w64 c.args.k = c.ranges.k in
    let fits_from : SFits w64 c.in-Sum.from = search rules in
    rw c.in-Sum.is (simp to_z-of_z at (rw (c.whole-in-Sum.ensures.value, c.deref-in-Sum.ensures) at c.fold.ensures))

pub evaluate_part-returns-in-Prod : goal.evaluate_part-returns-in-Prod
evaluate_part-returns-in-Prod t c =
    let fits_n : SFits w64 c.args.n = c.ranges.n in
    let fits_k : SFits w64 c.args.k = c.ranges.k in
    let fits_from : SFits w64 c.in-Prod.from = search rules in
    rw c.in-Prod.is (simp to_z-of_z at (rw (c.whole-in-Prod.ensures.value, c.deref-in-Prod.ensures) at c.fold-in-Prod.ensures))

pub climb-climb-middle-requires : goal.climb-climb-middle-requires
climb-climb-middle-requires t c =
    let mid = middle (tree_of c.args.e.now) (tree_of c.left_part.result.now) (c.args.count / 2) c.args.count c.requires (omega arith) (omega arith) c.left_part.ensures in
    (omega (arith, c.decreases, mid.lower), mid.room)

pub climb-climb-requires : goal.climb-climb-requires
climb-climb-requires t c =
    let mid = middle (tree_of c.args.e.now) (tree_of c.left_part.result.now) (c.args.count / 2) c.args.count c.requires (omega arith) (omega arith) c.left_part.ensures in
    let most = c.requires in
    (omega (arith, c.decreases, mid.upper), omega arith)

pub climb-returns : goal.climb-returns
climb-returns t c =
    let mid = middle (tree_of c.args.e.now) (tree_of c.left_part.result.now) (c.args.count / 2) c.args.count c.requires (omega arith) (omega arith) c.left_part.ensures in
    two-climbs (tree_of c.args.e.now) (tree_of c.left_part.result.now) (c.args.count / 2) c.args.count c.args.below c.climb-middle.result c.climb.result c.args.n (given c.args.n) c.args.k (given c.args.k)
    mid c.left_part.ensures (to_z-of_z w64 c.args.n c.ranges.n) (to_z-of_z w64 c.args.k c.ranges.k) c.climb-middle.ensures c.climb.ensures

pub evaluate-evaluate_part-lowest-requires : goal.evaluate-evaluate_part-lowest-requires
evaluate-evaluate_part-lowest-requires t c =
    let within = part-within (tree_of c.args.e.now) (tree_of c.left_part.result.now) c.left_depth-depth.result c.left_depth-depth.ensures c.left_part.ensures in
    (omega (arith, c.decreases, within), tt)
