-- The parts of the grammar that a stack of symbols stands for; its last item is the part that comes next.
--   action_of, part_of     an action, a part
--   parts_of               the parts, the next one first
use Rattle.std.specs.Prelude.{List, map, reverse}
use Rattle.sg_spec.specs.Grammar.{Action as Deed, mark, letter, minus_sign, begin_number, digit, use_number, use_name, negate, add_up, subtract, multiply, divide, raise, make_sum, make_product, make_harmonic, make_harmonic_of_order, make_factorial, make_binomial, make_power}
use Rattle.sg_syntax.specs.Table.{Symbol as Part, span, act, blanks, text, expr, more_terms, term, more_factors, factor, exponent, atom, worded, variable, bounds_and_body, name_and_order, one_name, expr_and_name, const_and_name, order, int, const, divisor, name, digits, more_digits, after_s, after_p, after_f, after_b}
use Rattle.sg_syntax.specs.declared.symbol.Action.{Action}
use Rattle.sg_syntax.specs.declared.symbol.Action.TheVariants.{Mark, Letter, MinusSign, BeginNumber, Digit, UseNumber, UseName, Negate, AddUp, Subtract, Multiply, Divide, Raise, MakeSum, MakeProduct, MakeHarmonic, MakeHarmonicOfOrder, MakeFactorial, MakeBinomial, MakePower}
use Rattle.sg_syntax.specs.declared.symbol.Symbol.{Symbol}
use Rattle.sg_syntax.specs.declared.symbol.Symbol.TheVariants.{Span, Act, Blanks, Text, Expr, MoreTerms, Term, MoreFactors, Factor, Exponent, Atom, Worded, Variable, BoundsAndBody, NameAndOrder, OneName, ExprAndName, ConstAndName, Order, Int, Const, Divisor, Name, Digits, MoreDigits, AfterS, AfterP, AfterF, AfterB}

abbrev pub action_of : Action → Deed
action_of Mark = mark
action_of Letter = letter
action_of MinusSign = minus_sign
action_of BeginNumber = begin_number
action_of Digit = digit
action_of UseNumber = use_number
action_of UseName = use_name
action_of Negate = negate
action_of AddUp = add_up
action_of Subtract = subtract
action_of Multiply = multiply
action_of Divide = divide
action_of Raise = raise
action_of MakeSum = make_sum
action_of MakeProduct = make_product
action_of MakeHarmonic = make_harmonic
action_of MakeHarmonicOfOrder = make_harmonic_of_order
action_of MakeFactorial = make_factorial
action_of MakeBinomial = make_binomial
action_of MakePower = make_power

abbrev pub part_of : Symbol → Part
part_of (Span low more) = span low more
part_of (Act a) = act (action_of a)
part_of Blanks = blanks
part_of Text = text
part_of Expr = expr
part_of MoreTerms = more_terms
part_of Term = term
part_of MoreFactors = more_factors
part_of Factor = factor
part_of Exponent = exponent
part_of Atom = atom
part_of Worded = worded
part_of Variable = variable
part_of BoundsAndBody = bounds_and_body
part_of NameAndOrder = name_and_order
part_of OneName = one_name
part_of ExprAndName = expr_and_name
part_of ConstAndName = const_and_name
part_of Order = order
part_of Int = int
part_of Const = const
part_of Divisor = divisor
part_of Name = name
part_of Digits = digits
part_of MoreDigits = more_digits
part_of AfterS = after_s
part_of AfterP = after_p
part_of AfterF = after_f
part_of AfterB = after_b

abbrev pub parts_of : List Symbol → List Part
parts_of items = map part_of (reverse items)
