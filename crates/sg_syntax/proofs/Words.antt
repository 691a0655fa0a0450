-- Each stack of parts spells some word.
--   spells_join     two stacks after one another
--   word_of         a word of each part
--   some_word       a word of each stack
use Rattle.std.specs.Prelude.{ℕ, List, [], ◌∷◌, ◌++◌, codes}
use Rattle.std.proofs.Common.{arith, append_assoc}
use Rattle.std.proofs.lemmas.List.{append-nil}
use Rattle.sg_spec.specs.Grammar.{mark, letter, begin_number, digit, use_number, use_name, make_factorial, make_harmonic, Action, IsOneOf, first, later}
use Rattle.sg_syntax.specs.Table.{Symbol, span, act, blanks, text, expr, more_terms, term, more_factors, factor, exponent, atom, worded, variable, call, bounds_and_body, name_and_order, one_name, expr_and_name, const_and_name, order, int, const, divisor, name, digits, more_digits, after_s, after_p, after_f, after_b, token, rules}
use Rattle.sg_syntax.proofs.Deriving.{Spells, nothing, one_byte, by_rule}

pub spells_join : {st : List Symbol} {u : List ℕ} (more : List Symbol) (v : List ℕ) → Spells st u → Spells more v → Spells (st ++ more) (u ++ v)
spells_join more v nothing t = t
spells_join more v (one_byte b l h s) t = one_byte b l h (spells_join more v s t)
spells_join more v (by_rule {parts = parts} way i s) t = by_rule way i (rw (← append_assoc way parts more) (spells_join more v s t))

abbrev Word : Symbol → Type 0
Word part = (w : List ℕ) × Spells (part ∷ []) w

abbrev Words : List Symbol → Type 0
Words parts = (w : List ℕ) × Spells parts w

-- one way of a part, spelled out
way_word : (part : Symbol) (way : List Symbol) → IsOneOf way (rules part) → Words way → Word part
way_word part way i x = (x.0, by_rule way i (rw (append-nil way) x.1))

-- a part and then a row of parts
pair : {part : Symbol} {parts : List Symbol} → Word part → Words parts → Words (part ∷ parts)
pair {parts = parts} x y = (x.0 ++ y.0, spells_join parts y.0 x.1 y.1)

none : Words []
none = ([], nothing)

span_word : (low more : ℕ) → Word (span low more)
span_word low more = (low ∷ [], one_byte low (omega arith) (omega arith) nothing)

act_word : (a : Action) → Word (act a)
act_word a = way_word (act a) [] first none

blanks_word : Word blanks
blanks_word = way_word blanks [] (later first) none

token_word : (c : List ℕ) (parts : List Symbol) → Words parts → Words (token c parts)
token_word [] parts x = pair blanks_word x
token_word (c ∷ w) parts x = pair (span_word c 0) (token_word w parts x)

more_digits_word : Word more_digits
more_digits_word = way_word more_digits [] (later first) none

digits_word : Word digits
digits_word = way_word digits (act begin_number ∷ span 48 9 ∷ act digit ∷ more_digits ∷ blanks ∷ []) first
    (pair (act_word begin_number) (pair (span_word 48 9) (pair (act_word digit) (pair more_digits_word blanks_word))))

name_word : Word name
name_word = way_word name (act mark ∷ span 97 25 ∷ act letter ∷ blanks ∷ []) first (pair (act_word mark) (pair (span_word 97 25) (pair (act_word letter) blanks_word)))

variable_word : Word variable
variable_word = way_word variable (span 97 25 ∷ act letter ∷ act use_name ∷ blanks ∷ []) first (pair (span_word 97 25) (pair (act_word letter) (pair (act_word use_name) blanks_word)))

atom_word : Word atom
atom_word = way_word atom (digits ∷ act use_number ∷ []) first (pair digits_word (act_word use_number))

factor_word : Word factor
factor_word = way_word factor (atom ∷ exponent ∷ []) first (pair atom_word (way_word exponent [] (later first) none))

term_word : Word term
term_word = way_word term (factor ∷ more_factors ∷ []) first (pair factor_word (way_word more_factors [] (later (later first)) none))

expr_word : Word expr
expr_word = way_word expr (term ∷ more_terms ∷ []) (later first) (pair term_word (way_word more_terms [] (later (later first)) none))

int_word : Word int
int_word = way_word int (digits ∷ []) (later first) digits_word

const_word : Word const
const_word = way_word const (digits ∷ act use_number ∷ divisor ∷ []) (later first) (pair digits_word (pair (act_word use_number) (way_word divisor [] (later first) none)))

order_word : Word order
order_word = way_word order (act make_harmonic ∷ []) (later first) (act_word make_harmonic)

one_name_word : Word one_name
one_name_word = way_word one_name (token (codes "(") (name ∷ token (codes ")") [])) first
    (token_word (codes "(") (name ∷ token (codes ")") []) (pair name_word (token_word (codes ")") [] none)))

-- the bytes of the other arguments of calls
bounds_word : Word bounds_and_body
bounds_word = way_word bounds_and_body (token (codes "(") (name ∷ token (codes ",") (act mark ∷ int ∷ token (codes ",") (name ∷ token (codes ",") (expr ∷ token (codes ")") []))))) first
    (token_word (codes "(") (name ∷ token (codes ",") (act mark ∷ int ∷ token (codes ",") (name ∷ token (codes ",") (expr ∷ token (codes ")") []))))
    (pair name_word (token_word (codes ",") (act mark ∷ int ∷ token (codes ",") (name ∷ token (codes ",") (expr ∷ token (codes ")") [])))
    (pair (act_word mark) (pair int_word (token_word (codes ",") (name ∷ token (codes ",") (expr ∷ token (codes ")") []))
    (pair name_word (token_word (codes ",") (expr ∷ token (codes ")") []) (pair expr_word (token_word (codes ")") [] none))))))))))

order_arguments_word : Word name_and_order
order_arguments_word = way_word name_and_order (token (codes "(") (name ∷ order ∷ token (codes ")") [])) first
    (token_word (codes "(") (name ∷ order ∷ token (codes ")") []) (pair name_word (pair order_word (token_word (codes ")") [] none))))

expr_arguments_word : Word expr_and_name
expr_arguments_word = way_word expr_and_name (token (codes "(") (act mark ∷ expr ∷ token (codes ",") (name ∷ token (codes ")") []))) first
    (token_word (codes "(") (act mark ∷ expr ∷ token (codes ",") (name ∷ token (codes ")") []))
    (pair (act_word mark) (pair expr_word (token_word (codes ",") (name ∷ token (codes ")") []) (pair name_word (token_word (codes ")") [] none))))))

const_arguments_word : Word const_and_name
const_arguments_word = way_word const_and_name (token (codes "(") (const ∷ token (codes ",") (name ∷ token (codes ")") []))) first
    (token_word (codes "(") (const ∷ token (codes ",") (name ∷ token (codes ")") []))
    (pair const_word (token_word (codes ",") (name ∷ token (codes ")") []) (pair name_word (token_word (codes ")") [] none)))))

letter_word : Words (act letter ∷ act use_name ∷ blanks ∷ [])
letter_word = pair (act_word letter) (pair (act_word use_name) blanks_word)

-- each part spells some word
pub word_of : (part : Symbol) → Word part
word_of (span low more) = span_word low more
word_of (act a) = act_word a
word_of blanks = blanks_word
word_of text = way_word text (blanks ∷ expr ∷ []) first (pair blanks_word expr_word)
word_of expr = expr_word
word_of more_terms = way_word more_terms [] (later (later first)) none
word_of term = term_word
word_of more_factors = way_word more_factors [] (later (later first)) none
word_of factor = factor_word
word_of exponent = way_word exponent [] (later first) none
word_of atom = atom_word
word_of worded = way_word worded (variable ∷ []) first variable_word
word_of variable = variable_word
word_of call = way_word call (token (codes "fact") (one_name ∷ act make_factorial ∷ [])) (later (later (later first)))
    (token_word (codes "fact") (one_name ∷ act make_factorial ∷ []) (pair one_name_word (act_word make_factorial)))
word_of bounds_and_body = bounds_word
word_of name_and_order = order_arguments_word
word_of one_name = one_name_word
word_of expr_and_name = expr_arguments_word
word_of const_and_name = const_arguments_word
word_of order = order_word
word_of int = int_word
word_of const = const_word
word_of divisor = way_word divisor [] (later first) none
word_of name = name_word
word_of digits = digits_word
word_of more_digits = more_digits_word
word_of after_s = way_word after_s (act letter ∷ act use_name ∷ blanks ∷ []) (later first) letter_word
word_of after_p = way_word after_p (act letter ∷ act use_name ∷ blanks ∷ []) (later (later first)) letter_word
word_of after_f = way_word after_f (act letter ∷ act use_name ∷ blanks ∷ []) (later first) letter_word
word_of after_b = way_word after_b (act letter ∷ act use_name ∷ blanks ∷ []) (later first) letter_word

pub some_word : (st : List Symbol) → Words st
some_word [] = none
some_word (part ∷ parts) = pair (word_of part) (some_word parts)
