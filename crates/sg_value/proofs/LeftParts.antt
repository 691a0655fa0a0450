-- How large left operands are, and where they stand.
--   operand-depth, operand-nodes    the left operand of a tree that has one
--   part-part                       a part of a part
--   part-depth, part-nodes          a part so far below
--   part-above                      a part is larger than those below it
--   part-within                     no part is larger than the tree
--   Middle, middle                  the two halves of the way to a part
use Rattle.std.specs.Prelude.{◌≡◌, ℕ, zero, suc, ◌+◌, ◌-◌, ◌≤◌, ◌<◌}
use Rattle.std.proofs.Common.{sym, ap, ◌∙◌, subst, arith}
use Rattle.sg_spec.specs.Tree.{Tree, numeral, here, param, add, neg, mul, div, power, sum_from, prod_from}
use Rattle.sg_spec.specs.Limits.{nodes}
use Rattle.sg_value.specs.Left.{left_operand, left_depth, left_part}

pub operand-depth : (t : Tree) → 0 < left_depth t → left_depth (left_operand t) + 1 ≡ left_depth t
operand-depth (numeral c) h = absurd (omega arith)
operand-depth here h = absurd (omega arith)
operand-depth param h = absurd (omega arith)
operand-depth (add x y) h = omega arith
operand-depth (neg x) h = absurd (omega arith)
operand-depth (mul x y) h = omega arith
operand-depth (div x y) h = omega arith
operand-depth (power x e) h = absurd (omega arith)
operand-depth (sum_from from body) h = absurd (omega arith)
operand-depth (prod_from from body) h = absurd (omega arith)

pub operand-nodes : (t : Tree) → 0 < left_depth t → nodes (left_operand t) < nodes t
operand-nodes (numeral c) h = absurd (omega arith)
operand-nodes here h = absurd (omega arith)
operand-nodes param h = absurd (omega arith)
operand-nodes (add x y) h = omega arith
operand-nodes (neg x) h = absurd (omega arith)
operand-nodes (mul x y) h = omega arith
operand-nodes (div x y) h = omega arith
operand-nodes (power x e) h = absurd (omega arith)
operand-nodes (sum_from from body) h = absurd (omega arith)
operand-nodes (prod_from from body) h = absurd (omega arith)

pub part-part : (t : Tree) (i j : ℕ) → left_part (left_part t i) j ≡ left_part t (i + j)
part-part t i zero = let e : i ≡ i + 0 = omega arith in ap (left_part t) e
part-part t i (suc j) = let e : suc (i + j) ≡ i + suc j = omega arith in ap left_operand (part-part t i j) ∙ ap (left_part t) e

pub part-depth : (t : Tree) (i : ℕ) → i ≤ left_depth t → left_depth (left_part t i) + i ≡ left_depth t
part-depth t zero h = omega arith
part-depth t (suc i) h =
    let below = part-depth t i (omega arith) in
    let one = operand-depth (left_part t i) (omega arith) in
    omega arith

pub part-nodes : (t : Tree) (i : ℕ) → i ≤ left_depth t → nodes (left_part t i) + i ≤ nodes t
part-nodes t zero h = omega arith
part-nodes t (suc i) h =
    let below = part-depth t i (omega arith) in
    let size = part-nodes t i (omega arith) in
    let one = operand-nodes (left_part t i) (omega arith) in
    omega arith

pub part-above : (t : Tree) (i j : ℕ) → i + j ≤ left_depth t → nodes (left_part t (i + j)) + j ≤ nodes (left_part t i)
part-above t i j h =
    let below = part-depth t i (omega arith) in
    let size = part-nodes (left_part t i) j (omega arith) in
    subst (λ (u : Tree). nodes u + j ≤ nodes (left_part t i)) (part-part t i j) size

pub part-within : (t u : Tree) (i : ℕ) → i ≤ left_depth t → u ≡ left_part t i → nodes u ≤ nodes t
part-within t u i h is =
    let size = part-nodes t i h in
    subst (λ (v : Tree). nodes v ≤ nodes t) (sym is) (omega arith)

-- the part m stands half way down to the part at `count`
pub record Middle (t m : Tree) (half count : ℕ) : Type 0 where
  pub room : count - half ≤ left_depth m
  pub rest : left_part m (count - half) ≡ left_part t count
  pub lower : nodes m - nodes (left_part m (count - half)) < nodes t - nodes (left_part t count)
  pub upper : nodes t - nodes (left_part t half) < nodes t - nodes (left_part t count)

pub middle : (t m : Tree) (half count : ℕ) → count ≤ left_depth t → 0 < half → half < count → m ≡ left_part t half → Middle t m half count
middle t m half count h some less is = subst (λ (u : Tree). Middle t u half count) (sym is) (record {
  room = let below = part-depth t half (omega arith) in omega arith;
  rest = whole;
  lower = let a = above in let w = ap nodes whole in let size = part-nodes t half (omega arith) in omega arith;
  upper = let a = above in let size = part-nodes t half (omega arith) in omega arith;
})
  where
    all : half + (count - half) ≡ count
    all = omega arith

    whole : left_part (left_part t half) (count - half) ≡ left_part t count
    whole = part-part t half (count - half) ∙ ap (left_part t) all

    above : nodes (left_part t count) + (count - half) ≤ nodes (left_part t half)
    above = subst (λ (i : ℕ). nodes (left_part t i) + (count - half) ≤ nodes (left_part t half)) all (part-above t half (count - half) (omega arith))
