-- What the nodes and the draft of the reader stand for. Numbers are kept up to 2^128; a greater one stands for that.
--   capped            a number, or 2^128 where it is greater
--   capped_action     an action on a state whose numbers are capped
--   value_of          what the value of a numeral stands for
--   mark_spot, numeral_spot, placed_of, draft_of      what a mark, a numeral, a node, a draft stands for
--   with_mark, without_mark, ..     a state with one more mark, number or tree, and without the newest
--   IsHead, without_head            the newest spots are those of a sum or product; a state without them
use Rattle.std.specs.Prelude.{◌≡◌, ℕ, ◌+◌, ◌-◌, ◌*◌, ◌^◌, min, List, ◌∷◌, map, reverse, Option, Some, None}
use Rattle.sg_spec.specs.Grammar.{Action, digit}
use Rattle.sg_spec.specs.Syntax.{Spot, Placed, number, named, negated, added, subtracted, multiplied, divided, raised, sum_call, product_call, harmonic, harmonic_of_order, factorial, binomial, constant_power, State, after_action, top_spot, second, third, fourth, rest}
use Rattle.sg_syntax.specs.declared.node.Mark.{Mark}
use Rattle.sg_syntax.specs.declared.node.Numeral.{Numeral}
use Rattle.sg_syntax.specs.declared.node.Head.{Head}
use Rattle.sg_syntax.specs.declared.node.Node.{Node, Number, LargeNumber, Named, Negated', Added', Subtracted', Multiplied', Divided', Raised', SumCall', ProductCall', Harmonic, HarmonicOfOrder, Factorial, Binomial', ConstantPower'}
use Rattle.sg_syntax.specs.declared.draft.Draft.{Draft}

abbrev pub capped : ℕ → ℕ
capped n = min n (2 ^ 128)

abbrev pub with_capped_digit : ℕ → List Spot → List Spot
with_capped_digit b ss = record { place = (top_spot ss).place; value = capped ((top_spot ss).value * 10 + (b - 48)) } ∷ rest ss

abbrev pub capped_action : Action → State → State
capped_action digit s = record s { numbers = with_capped_digit s.last s.numbers }
capped_action a s = after_action a s

abbrev pub value_of : Option ℕ → ℕ
value_of None = 2 ^ 128
value_of (Some v) = v

abbrev pub mark_spot : Mark → Spot
mark_spot m = record { place = m.at; value = m.value }

abbrev pub numeral_spot : Numeral → Spot
numeral_spot n = record { place = n.at; value = value_of n.value }

abbrev pub placed_of : Node → Placed
placed_of (Number at v) = number (record { place = at; value = v })
placed_of (LargeNumber n) = number (numeral_spot n.value)
placed_of (Named m) = named (mark_spot m)
placed_of (Negated' p x) = negated (placed_of x)
placed_of (Added' p x q y) = added (placed_of x) (placed_of y)
placed_of (Subtracted' p x q y) = subtracted (placed_of x) (placed_of y)
placed_of (Multiplied' p x q y) = multiplied (placed_of x) (placed_of y)
placed_of (Divided' p x m q y) = divided (placed_of x) (mark_spot m) (placed_of y)
placed_of (Raised' p x n) = raised (placed_of x) (numeral_spot n.value)
placed_of (SumCall' h p x) = sum_call (mark_spot h.value.call) (mark_spot h.value.bound) (mark_spot h.value.sign) (numeral_spot h.value.lower) (mark_spot h.value.upper) (placed_of x)
placed_of (ProductCall' h p x) = product_call (mark_spot h.value.call) (mark_spot h.value.bound) (mark_spot h.value.sign) (numeral_spot h.value.lower) (mark_spot h.value.upper) (placed_of x)
placed_of (Harmonic c v) = harmonic (mark_spot c) (mark_spot v)
placed_of (HarmonicOfOrder c v r) = harmonic_of_order (mark_spot c) (mark_spot v) (numeral_spot r.value)
placed_of (Factorial c v) = factorial (mark_spot c) (mark_spot v)
placed_of (Binomial' c m p x v) = binomial (mark_spot c) (mark_spot m) (placed_of x) (mark_spot v)
placed_of (ConstantPower' c p x v) = constant_power (mark_spot c) (placed_of x) (mark_spot v)

abbrev pub draft_of : Draft → State
draft_of d = record {
  place = d.place;
  last = d.last;
  marks = map mark_spot (reverse d.marks.items);
  numbers = map numeral_spot (reverse d.numbers.items);
  trees = map (λ b. placed_of b.value) (reverse d.trees.items);
}

abbrev pub with_mark : Spot → State → State
with_mark m s = record s { marks = m ∷ s.marks }

abbrev pub without_mark : State → State
without_mark s = record s { marks = rest s.marks }

abbrev pub with_number : Spot → State → State
with_number n s = record s { numbers = n ∷ s.numbers }

abbrev pub without_number : State → State
without_number s = record s { numbers = rest s.numbers }

abbrev pub with_tree : Placed → State → State
with_tree t s = record s { trees = t ∷ s.trees }

abbrev pub without_tree : State → State
without_tree s = record s { trees = rest s.trees }

-- the five newest spots of a sum or product
pub record IsHead (s : State) (h : Head) : Type 0 where
  pub call : mark_spot h.call ≡ fourth s.marks
  pub bound : mark_spot h.bound ≡ third s.marks
  pub sign : mark_spot h.sign ≡ second s.marks
  pub lower : numeral_spot h.lower ≡ top_spot s.numbers
  pub upper : mark_spot h.upper ≡ top_spot s.marks

abbrev pub without_head : State → State
without_head s = record s { marks = rest (rest (rest (rest s.marks))); numbers = rest s.numbers }
