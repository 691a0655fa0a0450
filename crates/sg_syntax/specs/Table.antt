-- The table of the machine: the symbols of the grammar and the ways to write them, with four symbols more, so that each
-- letter of a name or a word tells the way. Same (in proofs/) says that it writes what the grammar writes.
--   Symbol          a symbol of the grammar, or what may come after the first letter of a name or a word
--   token           the bytes of a token, the blanks after it, and further symbols
--   rules           for each symbol the ways to write it
use Rattle.std.specs.Prelude.{ℕ, List, [], ◌∷◌, codes}
use Rattle.sg_spec.specs.Grammar.{Action, mark, letter, minus_sign, begin_number, digit, use_number, use_name, negate, add_up, subtract, multiply, divide, raise, make_sum, make_product, make_harmonic, make_harmonic_of_order, make_factorial, make_binomial, make_power}

pub data Symbol : Type 0 where
  span : ℕ → ℕ → Symbol
  act : Action → Symbol
  blanks : Symbol
  text : Symbol
  expr : Symbol
  more_terms : Symbol
  term : Symbol
  more_factors : Symbol
  factor : Symbol
  exponent : Symbol
  atom : Symbol
  worded : Symbol
  variable : Symbol
  call : Symbol
  bounds_and_body : Symbol
  name_and_order : Symbol
  one_name : Symbol
  expr_and_name : Symbol
  const_and_name : Symbol
  order : Symbol
  int : Symbol
  const : Symbol
  divisor : Symbol
  name : Symbol
  digits : Symbol
  more_digits : Symbol
  after_s : Symbol
  after_p : Symbol
  after_f : Symbol
  after_b : Symbol

abbrev pub token : List ℕ → List Symbol → List Symbol
token [] parts = blanks ∷ parts
token (c ∷ w) parts = span c 0 ∷ token w parts

abbrev pub rules : Symbol → List (List Symbol)
rules (span low more) = []
rules (act a) = [] ∷ []
rules blanks = (span 32 0 ∷ blanks ∷ []) ∷ [] ∷ []
rules text = (blanks ∷ expr ∷ []) ∷ []
rules expr = token (codes "-") (term ∷ act negate ∷ more_terms ∷ []) ∷ (term ∷ more_terms ∷ []) ∷ []
rules more_terms = token (codes "+") (term ∷ act add_up ∷ more_terms ∷ [])
    ∷ token (codes "-") (term ∷ act subtract ∷ more_terms ∷ [])
    ∷ []
    ∷ []
rules term = (factor ∷ more_factors ∷ []) ∷ []
rules more_factors = token (codes "*") (factor ∷ act multiply ∷ more_factors ∷ [])
    ∷ token (codes "/") (act mark ∷ factor ∷ act divide ∷ more_factors ∷ [])
    ∷ []
    ∷ []
rules factor = (atom ∷ exponent ∷ []) ∷ []
rules exponent = token (codes "^") (digits ∷ act raise ∷ []) ∷ [] ∷ []
rules atom = (digits ∷ act use_number ∷ []) ∷ token (codes "(") (expr ∷ token (codes ")") []) ∷ (act mark ∷ worded ∷ []) ∷ []
rules worded = (variable ∷ []) ∷ (call ∷ []) ∷ []
rules variable = (span 97 25 ∷ act letter ∷ act use_name ∷ blanks ∷ []) ∷ []
rules call = token (codes "sum") (bounds_and_body ∷ act make_sum ∷ [])
    ∷ token (codes "prod") (bounds_and_body ∷ act make_product ∷ [])
    ∷ token (codes "H") (name_and_order ∷ [])
    ∷ token (codes "fact") (one_name ∷ act make_factorial ∷ [])
    ∷ token (codes "binom") (expr_and_name ∷ act make_binomial ∷ [])
    ∷ token (codes "pow") (const_and_name ∷ act make_power ∷ [])
    ∷ []
rules bounds_and_body = token (codes "(") (name ∷ token (codes ",") (act mark ∷ int ∷ token (codes ",") (name ∷ token (codes ",") (expr ∷ token (codes ")") [])))) ∷ []
rules name_and_order = token (codes "(") (name ∷ order ∷ token (codes ")") []) ∷ []
rules one_name = token (codes "(") (name ∷ token (codes ")") []) ∷ []
rules expr_and_name = token (codes "(") (act mark ∷ expr ∷ token (codes ",") (name ∷ token (codes ")") [])) ∷ []
rules const_and_name = token (codes "(") (const ∷ token (codes ",") (name ∷ token (codes ")") [])) ∷ []
rules order = token (codes ",") (digits ∷ act make_harmonic_of_order ∷ []) ∷ (act make_harmonic ∷ []) ∷ []
rules int = token (codes "-") (act minus_sign ∷ digits ∷ []) ∷ (digits ∷ []) ∷ []
rules const = token (codes "-") (digits ∷ act use_number ∷ divisor ∷ act negate ∷ []) ∷ (digits ∷ act use_number ∷ divisor ∷ []) ∷ []
rules divisor = token (codes "/") (act mark ∷ digits ∷ act use_number ∷ act divide ∷ []) ∷ [] ∷ []
rules name = (act mark ∷ span 97 25 ∷ act letter ∷ blanks ∷ []) ∷ []
rules digits = (act begin_number ∷ span 48 9 ∷ act digit ∷ more_digits ∷ blanks ∷ []) ∷ []
rules more_digits = (span 48 9 ∷ act digit ∷ more_digits ∷ []) ∷ [] ∷ []
rules after_s = token (codes "um") (bounds_and_body ∷ act make_sum ∷ []) ∷ (act letter ∷ act use_name ∷ blanks ∷ []) ∷ []
rules after_p = token (codes "rod") (bounds_and_body ∷ act make_product ∷ [])
    ∷ token (codes "ow") (const_and_name ∷ act make_power ∷ [])
    ∷ (act letter ∷ act use_name ∷ blanks ∷ [])
    ∷ []
rules after_f = token (codes "act") (one_name ∷ act make_factorial ∷ []) ∷ (act letter ∷ act use_name ∷ blanks ∷ []) ∷ []
rules after_b = token (codes "inom") (expr_and_name ∷ act make_binomial ∷ []) ∷ (act letter ∷ act use_name ∷ blanks ∷ []) ∷ []
