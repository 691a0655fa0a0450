-- The tree of a text with the places of its parts, and how it is built while the text is read. Places count bytes from 0.
--   Spot           a place, with the letter, the number or the sign that stands there; a sign is 1 for a minus and 0 elsewhere
--   Placed         a tree as it is written. A call begins with the spot of its word. `sum` and `prod` have the spots of the
--                  bound name, of the lower limit with its sign, of its digits, and of the upper name, and then the body;
--                  `divided x s y` has the spot of the factor after the `/`, `binomial c s x n` that of the first argument
--   State          where reading stands: the place of the next byte, the last byte, the spots of marks and names and those of
--                  numbers that no tree holds yet, and the finished trees; what came last stands first
--   top, rest      the first of a list (or a stand-in, where it is empty), and the others
--   after_byte     a byte is read
--   after_action   an action is done: a mark is set, a letter, sign or digit goes to the newest spot, or a tree is made
--                  of the newest spots and trees
use Rattle.std.specs.Prelude.{ℕ, ◌+◌, ◌-◌, ◌*◌, List, [], ◌∷◌}
use Rattle.sg_spec.specs.Grammar.{Action, mark, letter, minus_sign, begin_number, digit, use_number, use_name, negate, add_up, subtract, multiply, divide, raise, make_sum, make_product, make_harmonic, make_harmonic_of_order, make_factorial, make_binomial, make_power}

pub record Spot : Type 0 where
  pub place : ℕ
  pub value : ℕ

pub data Placed : Type 0 where
  number : Spot → Placed
  named : Spot → Placed
  negated : Placed → Placed
  added : Placed → Placed → Placed
  subtracted : Placed → Placed → Placed
  multiplied : Placed → Placed → Placed
  divided : Placed → Spot → Placed → Placed
  raised : Placed → Spot → Placed
  sum_call : Spot → Spot → Spot → Spot → Spot → Placed → Placed
  product_call : Spot → Spot → Spot → Spot → Spot → Placed → Placed
  harmonic : Spot → Spot → Placed
  harmonic_of_order : Spot → Spot → Spot → Placed
  factorial : Spot → Spot → Placed
  binomial : Spot → Spot → Placed → Spot → Placed
  constant_power : Spot → Placed → Spot → Placed

pub record State : Type 0 where
  pub place : ℕ
  pub last : ℕ
  pub marks : List Spot
  pub numbers : List Spot
  pub trees : List Placed

abbrev pub top_spot : List Spot → Spot
top_spot [] = record { place = 0; value = 0 }
top_spot (s ∷ ss) = s

abbrev pub top_tree : List Placed → Placed
top_tree [] = number (record { place = 0; value = 0 })
top_tree (t ∷ ts) = t

abbrev pub rest : {A : Type 0} → List A → List A
rest [] = []
rest (x ∷ xs) = xs

-- the state before the first byte
abbrev pub at_start : State
at_start = record { place = 0; last = 0; marks = []; numbers = []; trees = [] }

abbrev pub after_byte : ℕ → State → State
after_byte b s = record s { place = s.place + 1; last = b }

-- the newest spot with this letter or sign in place of what stood there
abbrev pub with_value : ℕ → List Spot → List Spot
with_value v ss = record { place = (top_spot ss).place; value = v } ∷ rest ss

-- the newest number with one more digit
abbrev pub with_digit : ℕ → List Spot → List Spot
with_digit b ss = record { place = (top_spot ss).place; value = (top_spot ss).value * 10 + (b - 48) } ∷ rest ss

-- of the spots, the newest and those below it
abbrev pub second : List Spot → Spot
second ss = top_spot (rest ss)

abbrev pub third : List Spot → Spot
third ss = top_spot (rest (rest ss))

abbrev pub fourth : List Spot → Spot
fourth ss = top_spot (rest (rest (rest ss)))

-- a tree is made of the two newest ones
abbrev pub joined_by : (Placed → Placed → Placed) → List Placed → List Placed
joined_by f ts = f (top_tree (rest ts)) (top_tree ts) ∷ rest (rest ts)

abbrev pub after_action : Action → State → State
after_action mark s = record s { marks = record { place = s.place; value = 0 } ∷ s.marks }
after_action letter s = record s { marks = with_value s.last s.marks }
after_action minus_sign s = record s { marks = with_value 1 s.marks }
after_action begin_number s = record s { numbers = record { place = s.place; value = 0 } ∷ s.numbers }
after_action digit s = record s { numbers = with_digit s.last s.numbers }
after_action use_number s = record s { numbers = rest s.numbers; trees = number (top_spot s.numbers) ∷ s.trees }
after_action use_name s = record s { marks = rest s.marks; trees = named (top_spot s.marks) ∷ s.trees }
after_action negate s = record s { trees = negated (top_tree s.trees) ∷ rest s.trees }
after_action add_up s = record s { trees = joined_by added s.trees }
after_action subtract s = record s { trees = joined_by subtracted s.trees }
after_action multiply s = record s { trees = joined_by multiplied s.trees }
after_action divide s = record s { marks = rest s.marks; trees = joined_by (λ x y. divided x (top_spot s.marks) y) s.trees }
after_action raise s = record s { numbers = rest s.numbers; trees = raised (top_tree s.trees) (top_spot s.numbers) ∷ rest s.trees }
after_action make_sum s = record s {
  marks = rest (rest (rest (rest s.marks)));
  numbers = rest s.numbers;
  trees = sum_call (fourth s.marks) (third s.marks) (second s.marks) (top_spot s.numbers) (top_spot s.marks) (top_tree s.trees) ∷ rest s.trees;
}
after_action make_product s = record s {
  marks = rest (rest (rest (rest s.marks)));
  numbers = rest s.numbers;
  trees = product_call (fourth s.marks) (third s.marks) (second s.marks) (top_spot s.numbers) (top_spot s.marks) (top_tree s.trees) ∷ rest s.trees;
}
after_action make_harmonic s = record s {
  marks = rest (rest s.marks);
  trees = harmonic (second s.marks) (top_spot s.marks) ∷ s.trees;
}
after_action make_harmonic_of_order s = record s {
  marks = rest (rest s.marks);
  numbers = rest s.numbers;
  trees = harmonic_of_order (second s.marks) (top_spot s.marks) (top_spot s.numbers) ∷ s.trees;
}
after_action make_factorial s = record s {
  marks = rest (rest s.marks);
  trees = factorial (second s.marks) (top_spot s.marks) ∷ s.trees;
}
after_action make_binomial s = record s {
  marks = rest (rest (rest s.marks));
  trees = binomial (third s.marks) (second s.marks) (top_tree s.trees) (top_spot s.marks) ∷ rest s.trees;
}
after_action make_power s = record s {
  marks = rest (rest s.marks);
  trees = constant_power (second s.marks) (top_tree s.trees) (top_spot s.marks) ∷ rest s.trees;
}
