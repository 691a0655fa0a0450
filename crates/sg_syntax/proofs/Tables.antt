-- What is computed of the grammar's tables, part by part.
--   follows        the bytes that may come after a part
--   stands         a part of the reader's stack: each but `call`
--   keeps          what comes after each part of a way is foreseen
--   tells          the ways begin differently
--   firm           of the ways only the last may be empty
--   by_table       a test that holds of each span, of each action and of all named symbols holds of every symbol
--   rules_begin, ways_keep, ways_firm, rules_firm, ways_tell, ways_lead, ways_end     the checks
use Rattle.std.specs.Prelude.{◌≡◌, ◌<◌, ℕ, zero, suc, length, List, [], ◌∷◌, Bool, true, false, not, ◌&&◌, ltb}
use Rattle.std.proofs.Common.{refl, ap, arith}
use Rattle.sg_spec.specs.Grammar.{Action}
use Rattle.sg_syntax.specs.Table.{Symbol, span, act, blanks, text, expr, more_terms, term, more_factors, factor, exponent, atom, worded, variable, call, bounds_and_body, name_and_order, one_name, expr_and_name, const_and_name, order, int, const, divisor, name, digits, more_digits, after_s, after_p, after_f, after_b, rules}
use Rattle.sg_syntax.specs.Ranges.{Range, from}
use Rattle.sg_syntax.specs.Stack.{firsts, ends, ways, opens, may_end, predict, cost, lead}
use Rattle.sg_syntax.proofs.Ranges.{covers, apart}

abbrev pub follows : Symbol → List Range
follows (span low more) = from 0 255 ∷ []
follows (act a) = from 0 255 ∷ []
follows blanks = from 33 222 ∷ []
follows text = []
follows expr = from 41 0 ∷ from 44 0 ∷ []
follows more_terms = from 41 0 ∷ from 44 0 ∷ []
follows term = from 41 0 ∷ from 43 0 ∷ from 44 0 ∷ from 45 0 ∷ []
follows more_factors = from 41 0 ∷ from 43 0 ∷ from 44 0 ∷ from 45 0 ∷ []
follows factor = from 41 4 ∷ from 47 0 ∷ []
follows exponent = from 41 4 ∷ from 47 0 ∷ []
follows order = from 41 0 ∷ []
follows int = from 44 0 ∷ []
follows const = from 44 0 ∷ []
follows divisor = from 44 0 ∷ []
follows more_digits = from 32 0 ∷ from 41 4 ∷ from 47 0 ∷ from 94 0 ∷ []
follows part = from 41 4 ∷ from 47 0 ∷ from 94 0 ∷ []

abbrev pub stands : Symbol → Bool
stands call = false
stands part = true

abbrev pub is_span : Symbol → Bool
is_span (span low more) = true
is_span part = false

abbrev pub is_worded : Symbol → Bool
is_worded worded = true
is_worded part = false

abbrev pub keeps : List Symbol → List Range → Bool
keeps [] f = true
keeps (part ∷ parts) f = (stands part && covers (opens parts f) (follows part)) && keeps parts f

abbrev pub implies : Bool → Bool → Bool
implies true b = b
implies false b = true

-- each way begins as the part may, and is empty only where the part may be
abbrev pub begins_as : Symbol → List (List Symbol) → Bool
begins_as part [] = true
begins_as part (way ∷ more) = (covers (opens way []) (firsts part) && implies (may_end way) (ends part)) && begins_as part more

abbrev pub all_keep : List (List Symbol) → List Range → Bool
all_keep [] f = true
all_keep (way ∷ more) f = keeps way f && all_keep more f

abbrev pub apart_from : List Range → List (List Symbol) → List Range → Bool
apart_from r [] f = true
apart_from r (way ∷ more) f = apart r (opens way f) && apart_from r more f

abbrev pub tells : List (List Symbol) → List Range → Bool
tells [] f = true
tells (way ∷ more) f = apart_from (opens way f) more f && tells more f

abbrev pub firm : List (List Symbol) → Bool
firm [] = true
firm (way ∷ []) = true
firm (way ∷ (x ∷ more)) = not (may_end way) && firm (x ∷ more)

abbrev pub is_empty : List (List Symbol) → Bool
is_empty [] = true
is_empty (way ∷ more) = false

abbrev pub all_lead : List (List Symbol) → ℕ → Bool
all_lead [] n = true
all_lead (way ∷ more) n = ltb (lead way) n && all_lead more n

abbrev pub last_of : List (List Symbol) → List Symbol
last_of [] = []
last_of (x ∷ []) = x
last_of (x ∷ (y ∷ more)) = last_of (y ∷ more)

-- ---- One lemma for all tables

abbrev pub named : List Symbol
named = blanks ∷ text ∷ expr ∷ more_terms ∷ term ∷ more_factors ∷ factor ∷ exponent ∷ atom ∷ worded ∷ variable ∷ call ∷ bounds_and_body ∷ name_and_order ∷ one_name ∷ expr_and_name ∷ const_and_name ∷ order ∷ int ∷ const ∷ divisor ∷ name ∷ digits ∷ more_digits ∷ after_s ∷ after_p ∷ after_f ∷ after_b ∷ []

abbrev pub holds_of : (Symbol → Bool) → List Symbol → Bool
holds_of test [] = true
holds_of test (x ∷ xs) = test x && holds_of test xs

-- the item at a place
abbrev pub item : ℕ → List Symbol → Symbol
item n [] = text
item zero (x ∷ xs) = x
item (suc n) (x ∷ xs) = item n xs

left_of : (a b : Bool) → (a && b) ≡ true → a ≡ true
left_of true b h = refl
left_of false b h = h

right_of : (a b : Bool) → (a && b) ≡ true → b ≡ true
right_of true b h = h
right_of false b h = absurd (cc)

pub item_holds : (test : Symbol → Bool) (xs : List Symbol) (n : ℕ) → n < length xs → holds_of test xs ≡ true → test (item n xs) ≡ true
item_holds test [] n l h = absurd (omega arith)
item_holds test (x ∷ xs) zero l h = left_of (test x) (holds_of test xs) h
item_holds test (x ∷ xs) (suc n) l h = item_holds test xs n (omega arith) (right_of (test x) (holds_of test xs) h)

-- a test of each part of the grammar is one of the spans, of the actions, and of the named parts
pub by_table : (test : Symbol → Bool) → ((low more : ℕ) → test (span low more) ≡ true) → ((a : Action) → test (act a) ≡ true) → holds_of test named ≡ true → (part : Symbol) → test part ≡ true
by_table test of_span of_act h (span low more) = of_span low more
by_table test of_span of_act h (act a) = of_act a
by_table test of_span of_act h blanks = item_holds test named 0 (omega arith) h
by_table test of_span of_act h text = item_holds test named 1 (omega arith) h
by_table test of_span of_act h expr = item_holds test named 2 (omega arith) h
by_table test of_span of_act h more_terms = item_holds test named 3 (omega arith) h
by_table test of_span of_act h term = item_holds test named 4 (omega arith) h
by_table test of_span of_act h more_factors = item_holds test named 5 (omega arith) h
by_table test of_span of_act h factor = item_holds test named 6 (omega arith) h
by_table test of_span of_act h exponent = item_holds test named 7 (omega arith) h
by_table test of_span of_act h atom = item_holds test named 8 (omega arith) h
by_table test of_span of_act h worded = item_holds test named 9 (omega arith) h
by_table test of_span of_act h variable = item_holds test named 10 (omega arith) h
by_table test of_span of_act h call = item_holds test named 11 (omega arith) h
by_table test of_span of_act h bounds_and_body = item_holds test named 12 (omega arith) h
by_table test of_span of_act h name_and_order = item_holds test named 13 (omega arith) h
by_table test of_span of_act h one_name = item_holds test named 14 (omega arith) h
by_table test of_span of_act h expr_and_name = item_holds test named 15 (omega arith) h
by_table test of_span of_act h const_and_name = item_holds test named 16 (omega arith) h
by_table test of_span of_act h order = item_holds test named 17 (omega arith) h
by_table test of_span of_act h int = item_holds test named 18 (omega arith) h
by_table test of_span of_act h const = item_holds test named 19 (omega arith) h
by_table test of_span of_act h divisor = item_holds test named 20 (omega arith) h
by_table test of_span of_act h name = item_holds test named 21 (omega arith) h
by_table test of_span of_act h digits = item_holds test named 22 (omega arith) h
by_table test of_span of_act h more_digits = item_holds test named 23 (omega arith) h
by_table test of_span of_act h after_s = item_holds test named 24 (omega arith) h
by_table test of_span of_act h after_p = item_holds test named 25 (omega arith) h
by_table test of_span of_act h after_f = item_holds test named 26 (omega arith) h
by_table test of_span of_act h after_b = item_holds test named 27 (omega arith) h

pub rules_begin : (part : Symbol) → begins_as part (rules part) ≡ true
rules_begin = by_table (λ part. begins_as part (rules part)) (λ low more. refl) (λ a. refl) refl

pub ways_keep : (part : Symbol) → all_keep (ways part) (follows part) ≡ true
ways_keep = by_table (λ part. all_keep (ways part) (follows part)) (λ low more. refl) (λ a. refl) refl

pub ways_firm : (part : Symbol) → firm (ways part) ≡ true
ways_firm = by_table (λ part. firm (ways part)) (λ low more. refl) (λ a. refl) refl

pub rules_firm : (part : Symbol) → firm (rules part) ≡ true
rules_firm = by_table (λ part. firm (rules part)) (λ low more. refl) (λ a. refl) refl

pub ways_lead : (part : Symbol) → all_lead (ways part) (cost part) ≡ true
ways_lead = by_table (λ part. all_lead (ways part) (cost part)) (λ low more. refl) (λ a. refl) refl

pub implied : (a b : Bool) → implies a b ≡ true → a ≡ true → b ≡ true
implied true b h e = h
implied false b h e = absurd (cc)

stands_apart : (part : Symbol) → (stands part && not (is_worded part)) ≡ true → tells (ways part) (follows part) ≡ true
stands_apart part = implied (stands part && not (is_worded part)) (tells (ways part) (follows part))
    (by_table (λ x. implies (stands x && not (is_worded x)) (tells (ways x) (follows x))) (λ low more. refl) (λ a. refl) refl part)

first_alone : (a b : Bool) → a ≡ true → b ≡ false → (a && not b) ≡ true
first_alone true b h k = ap not k
first_alone false b h k = absurd (cc)

pub ways_tell : (part : Symbol) → stands part ≡ true → is_worded part ≡ false → tells (ways part) (follows part) ≡ true
ways_tell part h k = stands_apart part (first_alone (stands part) (is_worded part) h k)

-- at the end each part that may be empty takes its last way
pub ways_end : (part : Symbol) → ends part ≡ true → predict part 0 ≡ last_of (rules part)
ways_end (act a) h = refl
ways_end blanks h = refl
ways_end more_terms h = refl
ways_end more_factors h = refl
ways_end exponent h = refl
ways_end order h = refl
ways_end divisor h = refl
ways_end more_digits h = refl
ways_end after_s h = refl
ways_end after_p h = refl
ways_end after_f h = refl
ways_end after_b h = refl
ways_end part h = absurd (cc)
