-- The table of the machine writes and builds just what the grammar does.
--   symbol_of, symbols_of              a symbol of the grammar, a row of them, in the table
--   builds-to, builds-from             what a row builds
--   fault-from                         the place of a fault
--   spelled, some_state, made_is       for the grammar: what is built is spelled, what is spelled builds some state, and that is
--                                      the one that the machine makes
use Rattle.std.specs.Prelude.{◌≡◌, ℕ, ◌+◌, ◌≤◌, List, [], ◌∷◌, ◌++◌, map, take}
use Rattle.std.proofs.Common.{refl, sym, ap, ◌∙◌, subst, inl, inr}
use Rattle.std.proofs.lemmas.List.{map-append}
use Rattle.sg_spec.specs.Grammar.{Action, IsOneOf, first, later}
use Rattle.sg_spec.specs.Grammar as grammar
use Rattle.sg_syntax.specs.Table.{Symbol, span, act, blanks, text, expr, more_terms, term, more_factors, factor, exponent, atom, worded, variable, call, bounds_and_body, name_and_order, one_name, expr_and_name, const_and_name, order, int, const, divisor, name, digits, more_digits, rules}
use Rattle.sg_syntax.specs.Stack.{stack_after, state_after, finished}
use Rattle.sg_syntax.proofs.Deriving.{Spells, nothing, one_byte, by_rule, is_act, Builds, none_left, eats, acts, opens_by, IsSyntaxFault}
use Rattle.sg_syntax.proofs.Runs as machine

abbrev pub symbol_of : grammar.Symbol → Symbol
symbol_of (grammar.span low more) = span low more
symbol_of (grammar.act a) = act a
symbol_of grammar.blanks = blanks
symbol_of grammar.text = text
symbol_of grammar.expr = expr
symbol_of grammar.more_terms = more_terms
symbol_of grammar.term = term
symbol_of grammar.more_factors = more_factors
symbol_of grammar.factor = factor
symbol_of grammar.exponent = exponent
symbol_of grammar.atom = atom
symbol_of grammar.worded = worded
symbol_of grammar.variable = variable
symbol_of grammar.call = call
symbol_of grammar.bounds_and_body = bounds_and_body
symbol_of grammar.name_and_order = name_and_order
symbol_of grammar.one_name = one_name
symbol_of grammar.expr_and_name = expr_and_name
symbol_of grammar.const_and_name = const_and_name
symbol_of grammar.order = order
symbol_of grammar.int = int
symbol_of grammar.const = const
symbol_of grammar.divisor = divisor
symbol_of grammar.name = name
symbol_of grammar.digits = digits
symbol_of grammar.more_digits = more_digits

abbrev pub symbols_of : List grammar.Symbol → List Symbol
symbols_of parts = map symbol_of parts

rules_of : (part : grammar.Symbol) → rules (symbol_of part) ≡ map symbols_of (grammar.rules part)
rules_of (grammar.span low more) = refl
rules_of (grammar.act a) = refl
rules_of part = refl

way_to : (way : List grammar.Symbol) (all : List (List grammar.Symbol)) → IsOneOf way all → IsOneOf (symbols_of way) (map symbols_of all)
way_to way [] i = elim i [ ]
way_to way (x ∷ more) first = first
way_to way (x ∷ more) (later i) = later (way_to way more i)

record Way (way : List Symbol) (all : List (List grammar.Symbol)) : Type 0 where
  from : List grammar.Symbol
  is_one : IsOneOf from all
  same : way ≡ symbols_of from

later_way : (way : List Symbol) (x : List grammar.Symbol) (more : List (List grammar.Symbol)) → Way way more → Way way (x ∷ more)
later_way way x more w = record { from = w.from; is_one = later w.is_one; same = w.same }

way_from : (way : List Symbol) (all : List (List grammar.Symbol)) → IsOneOf way (map symbols_of all) → Way way all
way_from way [] i = elim i [ ]
way_from way (x ∷ more) first = record { from = x; is_one = first; same = refl }
way_from way (x ∷ more) (later i) = later_way way x more (way_from way more i)

act_to : (part : grammar.Symbol) → is_act (symbol_of part) ≡ grammar.is_act part
act_to (grammar.act a) = refl
act_to part = refl

spells-to : {st : List grammar.Symbol} {w : List ℕ} → grammar.Spells st w → Spells (symbols_of st) w
spells-to grammar.nothing = nothing
spells-to (grammar.one_byte b l h s) = one_byte b l h (spells-to s)
spells-to (grammar.by_rule {part = part} {parts = parts} {w = w} way i s) =
    by_rule (symbols_of way) (subst (IsOneOf (symbols_of way)) (sym (rules_of part)) (way_to way (grammar.rules part) i))
    (subst (λ q. Spells q w) (map-append symbol_of way parts) (spells-to s))

pub spelled : {V : Type 0} {eat : ℕ → V → V} {does : Action → V → V} {x y : V} {st : List grammar.Symbol} {w : List ℕ} → grammar.Builds eat does st w x y → grammar.Spells st w
spelled grammar.none_left = grammar.nothing
spelled (grammar.eats b l h s) = grammar.one_byte b l h (spelled s)
spelled (grammar.acts s) = grammar.by_rule [] first (spelled s)
spelled (grammar.opens_by way p i s) = grammar.by_rule way i (spelled s)

module _ {V : Type 0} (eat : ℕ → V → V) (does : Action → V → V) where
  pub builds-to : {st : List grammar.Symbol} {w : List ℕ} {x y : V} → grammar.Builds eat does st w x y → Builds eat does (symbols_of st) w x y
  builds-to grammar.none_left = none_left
  builds-to (grammar.eats b l h s) = eats b l h (builds-to s)
  builds-to (grammar.acts s) = acts (builds-to s)
  builds-to (grammar.opens_by {part = part} {parts = parts} {w = w} {x = x} {y = y} way p i s) =
      opens_by (symbols_of way) (act_to part ∙ p) (subst (IsOneOf (symbols_of way)) (sym (rules_of part)) (way_to way (grammar.rules part) i))
      (subst (λ q. Builds eat does q w x y) (map-append symbol_of way parts) (builds-to s))

  -- by the first symbol
  from_none : (st : List grammar.Symbol) → [] ≡ symbols_of st → {x : V} → grammar.Builds eat does st [] x x
  from_none [] e = grammar.none_left
  from_none (part ∷ parts) e = absurd (cc)

  pub builds-from_row : {row : List Symbol} {w : List ℕ} {x y : V} → Builds eat does row w x y → (st : List grammar.Symbol) → row ≡ symbols_of st → grammar.Builds eat does st w x y
  builds-from_row none_left st e = from_none st e
  builds-from_row (eats {low = low} {more = more} b l h s) [] e = absurd (cc)
  builds-from_row (eats {low = low} {more = more} {parts = parts} {w = w} {x = x} {y = y} b l h s) (grammar.span k n ∷ rest) e =
      let a : low ≡ k = cc in let c : more ≡ n = cc in let d : parts ≡ symbols_of rest = cc in
      grammar.eats b (subst (λ q. q ≤ b) a l) (subst (λ q. b ≤ q) (ap (λ q. q + more) a ∙ ap (λ q. k + q) c) h) (builds-from_row s rest d)
  builds-from_row (eats {low = low} {more = more} b l h s) (part ∷ rest) e = absurd (cc)
  builds-from_row (acts {a = a} s) [] e = absurd (cc)
  builds-from_row (acts {a = a} {parts = parts} {w = w} {x = x} {y = y} s) (grammar.act d ∷ rest) e =
      let same : a ≡ d = cc in let others : parts ≡ symbols_of rest = cc in
      grammar.acts (subst (λ q. grammar.Builds eat does rest w (does q x) y) same (builds-from_row s rest others))
  builds-from_row (acts {a = a} s) (part ∷ rest) e = absurd (cc)
  builds-from_row (opens_by {part = part} way p i s) [] e = absurd (cc)
  builds-from_row (opens_by {part = part} {parts = parts} {w = w} {x = x} {y = y} way p i s) (symbol ∷ rest) e =
      let a : part ≡ symbol_of symbol = cc in
      let d : parts ≡ symbols_of rest = cc in
      let found = way_from way (grammar.rules symbol) (subst (IsOneOf way) (ap rules a ∙ rules_of symbol) i) in
      let row : way ++ parts ≡ symbols_of (found.from ++ rest) = ap (λ q. q ++ parts) found.same ∙ (ap (λ q. symbols_of found.from ++ q) d ∙ sym (map-append symbol_of found.from rest)) in
      grammar.opens_by found.from (sym (act_to symbol) ∙ (ap is_act (sym a) ∙ p)) found.is_one (builds-from_row s (found.from ++ rest) row)

  pub builds-from : (st : List grammar.Symbol) {w : List ℕ} {x y : V} → Builds eat does (symbols_of st) w x y → grammar.Builds eat does st w x y
  builds-from st s = builds-from_row s st refl

  -- what is spelled builds some state
  pub some_state : {st : List grammar.Symbol} {w : List ℕ} → grammar.Spells st w → (x : V) → (y : V) × grammar.Builds eat does st w x y
  some_state {st = st} s x = let (y, t) = machine.some_state eat does (spells-to s) x in (y, builds-from st t)

  -- what a text builds is what the machine makes
  pub made_is : (w : List ℕ) {x y : V} → grammar.Builds eat does (grammar.text ∷ []) w x y
      → finished does (stack_after w (text ∷ [])) (state_after eat does w (text ∷ []) x) ≡ y
  made_is w {x = x} s = (machine.built_is eat does w (text ∷ []) x machine.good_start (builds-to s)).2

-- no state at all
skip_byte : ℕ → Unit {0} → Unit {0}
skip_byte b x = x

skip_action : Action → Unit {0} → Unit {0}
skip_action a x = x

text-from : (w : List ℕ) → Spells (text ∷ []) w → grammar.IsText w
text-from w s = let (y, t) = machine.some_state skip_byte skip_action s tt in spelled (builds-from skip_byte skip_action (grammar.text ∷ []) t)

front-from : (w : List ℕ) → ((rest : List ℕ) × Spells (text ∷ []) (w ++ rest)) → grammar.IsFront w
front-from w (rest, s) = (rest, text-from (w ++ rest) s)

front-to : (w : List ℕ) → grammar.IsFront w → ((rest : List ℕ) × Spells (text ∷ []) (w ++ rest))
front-to w (rest, s) = (rest, spells-to s)

pub fault-from : (w : List ℕ) (p : ℕ) → IsSyntaxFault w p → grammar.IsSyntaxFault w p
fault-from w p f = record {
  before = λ q h. front-from (take (q + 1) w) (f.before q h);
  fault = elim f.fault [
    | inl a ↦ inl (a.0, λ x. a.1 (front-to (take (p + 1) w) x))
    | inr a ↦ inr (a.0, λ x. a.1 (spells-to x))
  ];
}
