-- What placed trees mean.
--   means-add, means-sub, ..     the tree of a placed tree from those of its parts
use Rattle.std.specs.Prelude.{◌≡◌, ℕ, pos, Bool, true, List, [], ◌++◌}
use Rattle.std.proofs.Common.{refl, ap, ◌∙◌}
use Rattle.sg_spec.specs.Tree.{Tree, numeral, add, neg, mul, div, power}
use Rattle.sg_spec.specs.Syntax.{Spot, Placed, number, negated, added, subtracted, multiplied, divided, raised}
use Rattle.sg_spec.specs.Reading.{is_divisor, tree_in, Kind, numeral_fault, exponent_fault, form, Limits, fault_unless, faults}
use Rattle.sg_text.proofs.Printed.{at_spot, Means, MeansDivisor}

pub both_empty : {A : Type 0} (a b : List A) → a ≡ [] → b ≡ [] → a ++ b ≡ []
both_empty a b h k = ap (λ q. q ++ b) h ∙ k

pub no_fault_if : (t : Bool) (kind : Kind) (place : ℕ) → t ≡ true → fault_unless t kind place ≡ []
no_fault_if t kind place h = ap (λ q. fault_unless q kind place) h

module _ (limits : Limits) (in_product : Bool) (names : List ℕ) where
  pub means-number : (n s : ℕ) → limits.numeral n ≡ true → Means limits in_product names (numeral (pos n)) (number (at_spot s n))
  means-number n s h = record { no_fault = no_fault_if (limits.numeral n) numeral_fault s h; meaning = refl }

  pub means-neg : (e : Tree) (x : Placed) → Means limits in_product names e x → Means limits in_product names (neg e) (negated x)
  means-neg e x h = record { no_fault = h.no_fault; meaning = ap neg h.meaning }

  pub means-add : (e f : Tree) (x y : Placed) → Means limits in_product names e x → Means limits in_product names f y → Means limits in_product names (add e f) (added x y)
  means-add e f x y h k = record {
    no_fault = both_empty (faults limits in_product names x) (faults limits in_product names y) h.no_fault k.no_fault;
    meaning = ap (λ q. add q (tree_in names y)) h.meaning ∙ ap (add e) k.meaning;
  }

  pub means-sub : (e f : Tree) (x y : Placed) → Means limits in_product names e x → Means limits in_product names f y → Means limits in_product names (add e (neg f)) (subtracted x y)
  means-sub e f x y h k = record {
    no_fault = both_empty (faults limits in_product names x) (faults limits in_product names y) h.no_fault k.no_fault;
    meaning = ap (λ q. add q (neg (tree_in names y))) h.meaning ∙ ap (λ q. add e (neg q)) k.meaning;
  }

  pub means-mul : (e f : Tree) (x y : Placed) → Means limits in_product names e x → Means limits in_product names f y → Means limits in_product names (mul e f) (multiplied x y)
  means-mul e f x y h k = record {
    no_fault = both_empty (faults limits in_product names x) (faults limits in_product names y) h.no_fault k.no_fault;
    meaning = ap (λ q. mul q (tree_in names y)) h.meaning ∙ ap (mul e) k.meaning;
  }

  pub means-div : (e f : Tree) (x y : Placed) (s : Spot) → Means limits in_product names e x → MeansDivisor limits in_product names f y → Means limits in_product names (div e f) (divided x s y)
  means-div e f x y s h k = record {
    no_fault = both_empty (faults limits in_product names x ++ fault_unless (is_divisor names y) form s.place) (faults limits in_product names y)
        (both_empty (faults limits in_product names x) (fault_unless (is_divisor names y) form s.place) h.no_fault (no_fault_if (is_divisor names y) form s.place k.divides))
        k.means.no_fault;
    meaning = ap (λ q. div q (tree_in names y)) h.meaning ∙ ap (div e) k.means.meaning;
  }

  pub means-power : (e : Tree) (x : Placed) (n s : ℕ) → limits.exponent n ≡ true → Means limits in_product names e x → Means limits in_product names (power e n) (raised x (at_spot s n))
  means-power e x n s k h = record {
    no_fault = both_empty (faults limits in_product names x) (fault_unless (limits.exponent n) exponent_fault s) h.no_fault (no_fault_if (limits.exponent n) exponent_fault s k);
    meaning = ap (λ q. power q n) h.meaning;
  }
