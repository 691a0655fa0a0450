-- A reader with one stack of parts: the next byte tells which way the part on top takes.
--   firsts, ends    the bytes that a part may begin with; whether it may be empty
--   ways            the ways among which the next byte tells: those of the rules, but for a name or a word
--   opens           the bytes that a stack may begin with, where these may come after it
--   may_end         whether all parts of a stack may be empty
--   predict         the way that the next byte tells: the first that begins with it, else the last
--   cost, lead      how often a part, a stack is at most opened before a byte is taken
--   opened, acted   the stack with a byte on top or nothing left, and the state after the actions on the way
--   accepts, next   whether a byte may come now, and the stack after it
--   runs            whether these bytes may come
--   stack_after, state_after     the stack and the state after them
--   finished        the state after the actions that are left at the end
use Rattle.std.specs.Prelude.{ℕ, zero, suc, ◌+◌, List, [], ◌∷◌, ◌++◌, Bool, true, false, cond, ◌&&◌, codes}
use Rattle.sg_spec.specs.Grammar.{Action, letter, use_name}
use Rattle.sg_syntax.specs.Table.{Symbol, span, act, blanks, text, expr, more_terms, term, more_factors, factor, exponent, atom, worded, variable, call, bounds_and_body, name_and_order, one_name, expr_and_name, const_and_name, order, int, const, divisor, name, digits, more_digits, after_s, after_p, after_f, after_b, token, rules}
use Rattle.sg_spec.specs.Syntax.{rest}
use Rattle.sg_syntax.specs.Ranges.{Range, from, in_range, has}

abbrev pub firsts : Symbol → List Range
firsts (span low more) = from low more ∷ []
firsts (act a) = []
firsts blanks = from 32 0 ∷ []
firsts text = from 32 0 ∷ from 40 0 ∷ from 45 0 ∷ from 48 9 ∷ from 72 0 ∷ from 97 25 ∷ []
firsts expr = from 40 0 ∷ from 45 0 ∷ from 48 9 ∷ from 72 0 ∷ from 97 25 ∷ []
firsts more_terms = from 43 0 ∷ from 45 0 ∷ []
firsts term = from 40 0 ∷ from 48 9 ∷ from 72 0 ∷ from 97 25 ∷ []
firsts more_factors = from 42 0 ∷ from 47 0 ∷ []
firsts factor = from 40 0 ∷ from 48 9 ∷ from 72 0 ∷ from 97 25 ∷ []
firsts exponent = from 94 0 ∷ []
firsts atom = from 40 0 ∷ from 48 9 ∷ from 72 0 ∷ from 97 25 ∷ []
firsts worded = from 72 0 ∷ from 97 25 ∷ []
firsts variable = from 97 25 ∷ []
firsts call = from 72 0 ∷ from 97 25 ∷ []
firsts bounds_and_body = from 40 0 ∷ []
firsts name_and_order = from 40 0 ∷ []
firsts one_name = from 40 0 ∷ []
firsts expr_and_name = from 40 0 ∷ []
firsts const_and_name = from 40 0 ∷ []
firsts order = from 44 0 ∷ []
firsts int = from 45 0 ∷ from 48 9 ∷ []
firsts const = from 45 0 ∷ from 48 9 ∷ []
firsts divisor = from 47 0 ∷ []
firsts name = from 97 25 ∷ []
firsts digits = from 48 9 ∷ []
firsts more_digits = from 48 9 ∷ []
firsts after_s = from 32 0 ∷ from 117 0 ∷ []
firsts after_p = from 32 0 ∷ from 111 0 ∷ from 114 0 ∷ []
firsts after_f = from 32 0 ∷ from 97 0 ∷ []
firsts after_b = from 32 0 ∷ from 105 0 ∷ []

abbrev pub ends : Symbol → Bool
ends (act a) = true
ends blanks = true
ends more_terms = true
ends more_factors = true
ends exponent = true
ends order = true
ends divisor = true
ends more_digits = true
ends after_s = true
ends after_p = true
ends after_f = true
ends after_b = true
ends part = false

abbrev pub ways : Symbol → List (List Symbol)
ways worded = (span 115 0 ∷ after_s ∷ []) ∷ (span 112 0 ∷ after_p ∷ []) ∷ (span 102 0 ∷ after_f ∷ []) ∷ (span 98 0 ∷ after_b ∷ [])
    ∷ token (codes "H") (name_and_order ∷ [])
    ∷ (span 97 25 ∷ act letter ∷ act use_name ∷ blanks ∷ [])
    ∷ []
ways part = rules part

abbrev pub opens : List Symbol → List Range → List Range
opens [] f = f
opens (part ∷ parts) f = cond (ends part) (firsts part ++ opens parts f) (firsts part)

abbrev pub may_end : List Symbol → Bool
may_end [] = true
may_end (part ∷ parts) = ends part && may_end parts

abbrev pub first_fit : List (List Symbol) → ℕ → List Symbol
first_fit [] b = []
first_fit (way ∷ []) b = way
first_fit (way ∷ (x ∷ more)) b = cond (has (opens way []) b) way (first_fit (x ∷ more) b)

abbrev pub predict : Symbol → ℕ → List Symbol
predict part b = first_fit (ways part) b

abbrev pub cost : Symbol → ℕ
cost (span low more) = 0
cost (act a) = 1
cost blanks = 1
cost text = 12
cost expr = 10
cost more_terms = 1
cost term = 8
cost more_factors = 1
cost factor = 6
cost exponent = 1
cost atom = 4
cost worded = 1
cost variable = 1
cost call = 1
cost bounds_and_body = 1
cost name_and_order = 1
cost one_name = 1
cost expr_and_name = 1
cost const_and_name = 1
cost order = 2
cost int = 3
cost const = 5
cost divisor = 1
cost name = 2
cost digits = 2
cost more_digits = 1
cost after_s = 4
cost after_p = 4
cost after_f = 4
cost after_b = 4

abbrev pub lead : List Symbol → ℕ
lead [] = 0
lead (span low more ∷ parts) = 0
lead (part ∷ parts) = cost part + lead parts

-- the first number bounds how often a part is opened
abbrev pub opened : ℕ → ℕ → List Symbol → List Symbol
opened k b [] = []
opened k b (span low more ∷ parts) = span low more ∷ parts
opened zero b (part ∷ parts) = part ∷ parts
opened (suc k) b (part ∷ parts) = opened k b (predict part b ++ parts)

abbrev pub acted : {State : Type 0} → (Action → State → State) → ℕ → ℕ → List Symbol → State → State
acted after_action k b [] x = x
acted after_action k b (span low more ∷ parts) x = x
acted after_action zero b (part ∷ parts) x = x
acted after_action (suc k) b (act a ∷ parts) x = acted after_action k b parts (after_action a x)
acted after_action (suc k) b (part ∷ parts) x = acted after_action k b (predict part b ++ parts) x

abbrev pub takes : ℕ → List Symbol → Bool
takes b [] = false
takes b (span low more ∷ parts) = in_range (from low more) b
takes b (part ∷ parts) = false

abbrev pub accepts : ℕ → List Symbol → Bool
accepts b st = takes b (opened (lead st) b st)

abbrev pub next : ℕ → List Symbol → List Symbol
next b st = rest (opened (lead st) b st)

abbrev pub runs : List ℕ → List Symbol → Bool
runs [] st = true
runs (b ∷ u) st = accepts b st && runs u (next b st)

abbrev pub stack_after : List ℕ → List Symbol → List Symbol
stack_after [] st = st
stack_after (b ∷ u) st = stack_after u (next b st)

abbrev pub state_after : {State : Type 0} → (ℕ → State → State) → (Action → State → State) → List ℕ → List Symbol → State → State
state_after after_byte after_action [] st x = x
state_after after_byte after_action (b ∷ u) st x = state_after after_byte after_action u (next b st) (after_byte b (acted after_action (lead st) b st x))

-- a byte that no part begins with stands for the end
abbrev pub finished : {State : Type 0} → (Action → State → State) → List Symbol → State → State
finished after_action st x = acted after_action (lead st) 0 st x
