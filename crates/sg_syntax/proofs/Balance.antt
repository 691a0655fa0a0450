-- A text leaves just one tree.
--   Sizes            how many marks, numbers and trees wait
--   after_act, after_part, after_parts     how many wait after an action, a part, a row of parts; none where some are wanting
--   Builds-sizes     as many wait as the parts say
--   has_tree         a whole text leaves one tree and nothing else
use Rattle.std.specs.Prelude.{◌≡◌, ℕ, zero, suc, List, [], ◌∷◌, ◌++◌, length, false, Option, Some, None}
use Rattle.std.proofs.Common.{refl, ap, ◌∙◌, arith}
use Rattle.sg_spec.specs.Grammar.{Action, mark, letter, minus_sign, begin_number, digit, use_number, use_name, negate, add_up, subtract, multiply, divide, raise, make_sum, make_product, make_harmonic, make_harmonic_of_order, make_factorial, make_binomial, make_power, Symbol, span, act, blanks, text, expr, more_terms, term, more_factors, factor, exponent, atom, worded, variable, call, bounds_and_body, name_and_order, one_name, expr_and_name, const_and_name, order, int, const, divisor, name, digits, more_digits, rules, IsOneOf, first, later, is_act, Builds, none_left, eats, acts, opens_by}
use Rattle.sg_spec.specs.Reading.{HasTree}
use Rattle.sg_spec.specs.Syntax.{Spot, Placed, State, at_start, after_byte, after_action, top_tree}

pub data Sizes : Type 0 where
  sizes : ℕ → ℕ → ℕ → Sizes

abbrev pub after_act : Action → Sizes → Option Sizes
after_act mark (sizes m n t) = Some (sizes (suc m) n t)
after_act letter (sizes (suc m) n t) = Some (sizes (suc m) n t)
after_act letter s = None
after_act minus_sign (sizes (suc m) n t) = Some (sizes (suc m) n t)
after_act minus_sign s = None
after_act begin_number (sizes m n t) = Some (sizes m (suc n) t)
after_act digit (sizes m (suc n) t) = Some (sizes m (suc n) t)
after_act digit s = None
after_act use_number (sizes m (suc n) t) = Some (sizes m n (suc t))
after_act use_number s = None
after_act use_name (sizes (suc m) n t) = Some (sizes m n (suc t))
after_act use_name s = None
after_act negate (sizes m n (suc t)) = Some (sizes m n (suc t))
after_act negate s = None
after_act add_up (sizes m n (suc (suc t))) = Some (sizes m n (suc t))
after_act add_up s = None
after_act subtract (sizes m n (suc (suc t))) = Some (sizes m n (suc t))
after_act subtract s = None
after_act multiply (sizes m n (suc (suc t))) = Some (sizes m n (suc t))
after_act multiply s = None
after_act divide (sizes (suc m) n (suc (suc t))) = Some (sizes m n (suc t))
after_act divide s = None
after_act raise (sizes m (suc n) (suc t)) = Some (sizes m n (suc t))
after_act raise s = None
after_act make_sum (sizes (suc (suc (suc (suc m)))) (suc n) (suc t)) = Some (sizes m n (suc t))
after_act make_sum s = None
after_act make_product (sizes (suc (suc (suc (suc m)))) (suc n) (suc t)) = Some (sizes m n (suc t))
after_act make_product s = None
after_act make_harmonic (sizes (suc (suc m)) n t) = Some (sizes m n (suc t))
after_act make_harmonic s = None
after_act make_harmonic_of_order (sizes (suc (suc m)) (suc n) t) = Some (sizes m n (suc t))
after_act make_harmonic_of_order s = None
after_act make_factorial (sizes (suc (suc m)) n t) = Some (sizes m n (suc t))
after_act make_factorial s = None
after_act make_binomial (sizes (suc (suc (suc m))) n (suc t)) = Some (sizes m n (suc t))
after_act make_binomial s = None
after_act make_power (sizes (suc (suc m)) n (suc t)) = Some (sizes m n (suc t))
after_act make_power s = None

abbrev pub after_part : Symbol → Sizes → Option Sizes
after_part (span low more) s = Some s
after_part (act a) s = after_act a s
after_part blanks s = Some s
after_part text (sizes m n t) = Some (sizes m n (suc t))
after_part expr (sizes m n t) = Some (sizes m n (suc t))
after_part more_terms (sizes m n (suc t)) = Some (sizes m n (suc t))
after_part more_terms s = None
after_part term (sizes m n t) = Some (sizes m n (suc t))
after_part more_factors (sizes m n (suc t)) = Some (sizes m n (suc t))
after_part more_factors s = None
after_part factor (sizes m n t) = Some (sizes m n (suc t))
after_part exponent (sizes m n (suc t)) = Some (sizes m n (suc t))
after_part exponent s = None
after_part atom (sizes m n t) = Some (sizes m n (suc t))
after_part worded (sizes (suc m) n t) = Some (sizes m n (suc t))
after_part worded s = None
after_part variable (sizes (suc m) n t) = Some (sizes m n (suc t))
after_part variable s = None
after_part call (sizes (suc m) n t) = Some (sizes m n (suc t))
after_part call s = None
after_part bounds_and_body (sizes m n t) = Some (sizes (suc (suc (suc m))) (suc n) (suc t))
after_part name_and_order (sizes (suc m) n t) = Some (sizes m n (suc t))
after_part name_and_order s = None
after_part one_name (sizes m n t) = Some (sizes (suc m) n t)
after_part expr_and_name (sizes m n t) = Some (sizes (suc (suc m)) n (suc t))
after_part const_and_name (sizes m n t) = Some (sizes (suc m) n (suc t))
after_part order (sizes (suc (suc m)) n t) = Some (sizes m n (suc t))
after_part order s = None
after_part int (sizes (suc m) n t) = Some (sizes (suc m) (suc n) t)
after_part int s = None
after_part const (sizes m n t) = Some (sizes m n (suc t))
after_part divisor (sizes m n (suc t)) = Some (sizes m n (suc t))
after_part divisor s = None
after_part name (sizes m n t) = Some (sizes (suc m) n t)
after_part digits (sizes m n t) = Some (sizes m (suc n) t)
after_part more_digits (sizes m (suc n) t) = Some (sizes m (suc n) t)
after_part more_digits s = None

abbrev pub onward : Option Sizes → (Sizes → Option Sizes) → Option Sizes
onward None f = None
onward (Some s) f = f s

abbrev pub after_parts : List Symbol → Sizes → Option Sizes
after_parts [] s = Some s
after_parts (part ∷ parts) s = onward (after_part part s) (after_parts parts)

rule_sizes : (part : Symbol) (way : List Symbol) → is_act part ≡ false → IsOneOf way (rules part) → (s r : Sizes) → after_part part s ≡ Some r → after_parts way s ≡ Some r
rule_sizes (span low more) way h i s r e = elim i [ ]
rule_sizes (act a) way h i s r e = absurd (cc)
rule_sizes blanks way h first s r e = e
rule_sizes blanks way h (later first) s r e = e
rule_sizes blanks way h (later (later i)) s r e = elim i [ ]
rule_sizes text way h first (sizes m n t) r e = e
rule_sizes text way h (later i) s r e = elim i [ ]
rule_sizes expr way h first (sizes m n t) r e = e
rule_sizes expr way h (later first) (sizes m n t) r e = e
rule_sizes expr way h (later (later i)) s r e = elim i [ ]
rule_sizes more_terms way h first (sizes m n (suc t)) r e = e
rule_sizes more_terms way h first (sizes m n zero) r e = absurd (cc)
rule_sizes more_terms way h (later first) (sizes m n (suc t)) r e = e
rule_sizes more_terms way h (later first) (sizes m n zero) r e = absurd (cc)
rule_sizes more_terms way h (later (later first)) (sizes m n (suc t)) r e = e
rule_sizes more_terms way h (later (later first)) (sizes m n zero) r e = absurd (cc)
rule_sizes more_terms way h (later (later (later i))) s r e = elim i [ ]
rule_sizes term way h first (sizes m n t) r e = e
rule_sizes term way h (later i) s r e = elim i [ ]
rule_sizes more_factors way h first (sizes m n (suc t)) r e = e
rule_sizes more_factors way h first (sizes m n zero) r e = absurd (cc)
rule_sizes more_factors way h (later first) (sizes m n (suc t)) r e = e
rule_sizes more_factors way h (later first) (sizes m n zero) r e = absurd (cc)
rule_sizes more_factors way h (later (later first)) (sizes m n (suc t)) r e = e
rule_sizes more_factors way h (later (later first)) (sizes m n zero) r e = absurd (cc)
rule_sizes more_factors way h (later (later (later i))) s r e = elim i [ ]
rule_sizes factor way h first (sizes m n t) r e = e
rule_sizes factor way h (later i) s r e = elim i [ ]
rule_sizes exponent way h first (sizes m n (suc t)) r e = e
rule_sizes exponent way h first (sizes m n zero) r e = absurd (cc)
rule_sizes exponent way h (later first) (sizes m n (suc t)) r e = e
rule_sizes exponent way h (later first) (sizes m n zero) r e = absurd (cc)
rule_sizes exponent way h (later (later i)) s r e = elim i [ ]
rule_sizes atom way h first (sizes m n t) r e = e
rule_sizes atom way h (later first) (sizes m n t) r e = e
rule_sizes atom way h (later (later first)) (sizes m n t) r e = e
rule_sizes atom way h (later (later (later i))) s r e = elim i [ ]
rule_sizes worded way h first (sizes (suc m) n t) r e = e
rule_sizes worded way h first (sizes zero n t) r e = absurd (cc)
rule_sizes worded way h (later first) (sizes (suc m) n t) r e = e
rule_sizes worded way h (later first) (sizes zero n t) r e = absurd (cc)
rule_sizes worded way h (later (later i)) s r e = elim i [ ]
rule_sizes variable way h first (sizes (suc m) n t) r e = e
rule_sizes variable way h first (sizes zero n t) r e = absurd (cc)
rule_sizes variable way h (later i) s r e = elim i [ ]
rule_sizes call way h first (sizes (suc m) n t) r e = e
rule_sizes call way h first (sizes zero n t) r e = absurd (cc)
rule_sizes call way h (later first) (sizes (suc m) n t) r e = e
rule_sizes call way h (later first) (sizes zero n t) r e = absurd (cc)
rule_sizes call way h (later (later first)) (sizes (suc m) n t) r e = e
rule_sizes call way h (later (later first)) (sizes zero n t) r e = absurd (cc)
rule_sizes call way h (later (later (later first))) (sizes (suc m) n t) r e = e
rule_sizes call way h (later (later (later first))) (sizes zero n t) r e = absurd (cc)
rule_sizes call way h (later (later (later (later first)))) (sizes (suc m) n t) r e = e
rule_sizes call way h (later (later (later (later first)))) (sizes zero n t) r e = absurd (cc)
rule_sizes call way h (later (later (later (later (later first))))) (sizes (suc m) n t) r e = e
rule_sizes call way h (later (later (later (later (later first))))) (sizes zero n t) r e = absurd (cc)
rule_sizes call way h (later (later (later (later (later (later i)))))) s r e = elim i [ ]
rule_sizes bounds_and_body way h first (sizes m n t) r e = e
rule_sizes bounds_and_body way h (later i) s r e = elim i [ ]
rule_sizes name_and_order way h first (sizes (suc m) n t) r e = e
rule_sizes name_and_order way h first (sizes zero n t) r e = absurd (cc)
rule_sizes name_and_order way h (later i) s r e = elim i [ ]
rule_sizes one_name way h first (sizes m n t) r e = e
rule_sizes one_name way h (later i) s r e = elim i [ ]
rule_sizes expr_and_name way h first (sizes m n t) r e = e
rule_sizes expr_and_name way h (later i) s r e = elim i [ ]
rule_sizes const_and_name way h first (sizes m n t) r e = e
rule_sizes const_and_name way h (later i) s r e = elim i [ ]
rule_sizes order way h first (sizes (suc (suc m)) n t) r e = e
rule_sizes order way h first (sizes zero n t) r e = absurd (cc)
rule_sizes order way h first (sizes (suc zero) n t) r e = absurd (cc)
rule_sizes order way h (later first) (sizes (suc (suc m)) n t) r e = e
rule_sizes order way h (later first) (sizes zero n t) r e = absurd (cc)
rule_sizes order way h (later first) (sizes (suc zero) n t) r e = absurd (cc)
rule_sizes order way h (later (later i)) s r e = elim i [ ]
rule_sizes int way h first (sizes (suc m) n t) r e = e
rule_sizes int way h first (sizes zero n t) r e = absurd (cc)
rule_sizes int way h (later first) (sizes (suc m) n t) r e = e
rule_sizes int way h (later first) (sizes zero n t) r e = absurd (cc)
rule_sizes int way h (later (later i)) s r e = elim i [ ]
rule_sizes const way h first (sizes m n t) r e = e
rule_sizes const way h (later first) (sizes m n t) r e = e
rule_sizes const way h (later (later i)) s r e = elim i [ ]
rule_sizes divisor way h first (sizes m n (suc t)) r e = e
rule_sizes divisor way h first (sizes m n zero) r e = absurd (cc)
rule_sizes divisor way h (later first) (sizes m n (suc t)) r e = e
rule_sizes divisor way h (later first) (sizes m n zero) r e = absurd (cc)
rule_sizes divisor way h (later (later i)) s r e = elim i [ ]
rule_sizes name way h first (sizes m n t) r e = e
rule_sizes name way h (later i) s r e = elim i [ ]
rule_sizes digits way h first (sizes m n t) r e = e
rule_sizes digits way h (later i) s r e = elim i [ ]
rule_sizes more_digits way h first (sizes m (suc n) t) r e = e
rule_sizes more_digits way h first (sizes m zero t) r e = absurd (cc)
rule_sizes more_digits way h (later first) (sizes m (suc n) t) r e = e
rule_sizes more_digits way h (later first) (sizes m zero t) r e = absurd (cc)
rule_sizes more_digits way h (later (later i)) s r e = elim i [ ]

abbrev pub sizes_of : State → Sizes
sizes_of x = sizes (length x.marks) (length x.numbers) (length x.trees)

abbrev at : ℕ → ℕ → List Spot → List Spot → List Placed → State
at p l ms ns ts = record { place = p; last = l; marks = ms; numbers = ns; trees = ts }

-- an action on a state with enough that waits
act_at : (a : Action) (p l : ℕ) (ms ns : List Spot) (ts : List Placed) (r : Sizes) → after_act a (sizes_of (at p l ms ns ts)) ≡ Some r → sizes_of (after_action a (at p l ms ns ts)) ≡ r
act_at mark p l ms ns ts r e = cc
act_at letter p l (ms0 ∷ ms) ns ts r e = cc
act_at letter p l [] ns ts r e = absurd (cc)
act_at minus_sign p l (ms0 ∷ ms) ns ts r e = cc
act_at minus_sign p l [] ns ts r e = absurd (cc)
act_at begin_number p l ms ns ts r e = cc
act_at digit p l ms (ns0 ∷ ns) ts r e = cc
act_at digit p l ms [] ts r e = absurd (cc)
act_at use_number p l ms (ns0 ∷ ns) ts r e = cc
act_at use_number p l ms [] ts r e = absurd (cc)
act_at use_name p l (ms0 ∷ ms) ns ts r e = cc
act_at use_name p l [] ns ts r e = absurd (cc)
act_at negate p l ms ns (ts0 ∷ ts) r e = cc
act_at negate p l ms ns [] r e = absurd (cc)
act_at add_up p l ms ns (ts1 ∷ (ts0 ∷ ts)) r e = cc
act_at add_up p l ms ns [] r e = absurd (cc)
act_at add_up p l ms ns (ts0 ∷ []) r e = absurd (cc)
act_at subtract p l ms ns (ts1 ∷ (ts0 ∷ ts)) r e = cc
act_at subtract p l ms ns [] r e = absurd (cc)
act_at subtract p l ms ns (ts0 ∷ []) r e = absurd (cc)
act_at multiply p l ms ns (ts1 ∷ (ts0 ∷ ts)) r e = cc
act_at multiply p l ms ns [] r e = absurd (cc)
act_at multiply p l ms ns (ts0 ∷ []) r e = absurd (cc)
act_at divide p l (ms0 ∷ ms) ns (ts1 ∷ (ts0 ∷ ts)) r e = cc
act_at divide p l [] ns ts r e = absurd (cc)
act_at divide p l (ms0 ∷ ms) ns [] r e = absurd (cc)
act_at divide p l (ms0 ∷ ms) ns (ts0 ∷ []) r e = absurd (cc)
act_at raise p l ms (ns0 ∷ ns) (ts0 ∷ ts) r e = cc
act_at raise p l ms [] ts r e = absurd (cc)
act_at raise p l ms (ns0 ∷ ns) [] r e = absurd (cc)
act_at make_sum p l (ms3 ∷ (ms2 ∷ (ms1 ∷ (ms0 ∷ ms)))) (ns0 ∷ ns) (ts0 ∷ ts) r e = cc
act_at make_sum p l [] ns ts r e = absurd (cc)
act_at make_sum p l (ms0 ∷ []) ns ts r e = absurd (cc)
act_at make_sum p l (ms1 ∷ (ms0 ∷ [])) ns ts r e = absurd (cc)
act_at make_sum p l (ms2 ∷ (ms1 ∷ (ms0 ∷ []))) ns ts r e = absurd (cc)
act_at make_sum p l (ms3 ∷ (ms2 ∷ (ms1 ∷ (ms0 ∷ ms)))) [] ts r e = absurd (cc)
act_at make_sum p l (ms3 ∷ (ms2 ∷ (ms1 ∷ (ms0 ∷ ms)))) (ns0 ∷ ns) [] r e = absurd (cc)
act_at make_product p l (ms3 ∷ (ms2 ∷ (ms1 ∷ (ms0 ∷ ms)))) (ns0 ∷ ns) (ts0 ∷ ts) r e = cc
act_at make_product p l [] ns ts r e = absurd (cc)
act_at make_product p l (ms0 ∷ []) ns ts r e = absurd (cc)
act_at make_product p l (ms1 ∷ (ms0 ∷ [])) ns ts r e = absurd (cc)
act_at make_product p l (ms2 ∷ (ms1 ∷ (ms0 ∷ []))) ns ts r e = absurd (cc)
act_at make_product p l (ms3 ∷ (ms2 ∷ (ms1 ∷ (ms0 ∷ ms)))) [] ts r e = absurd (cc)
act_at make_product p l (ms3 ∷ (ms2 ∷ (ms1 ∷ (ms0 ∷ ms)))) (ns0 ∷ ns) [] r e = absurd (cc)
act_at make_harmonic p l (ms1 ∷ (ms0 ∷ ms)) ns ts r e = cc
act_at make_harmonic p l [] ns ts r e = absurd (cc)
act_at make_harmonic p l (ms0 ∷ []) ns ts r e = absurd (cc)
act_at make_harmonic_of_order p l (ms1 ∷ (ms0 ∷ ms)) (ns0 ∷ ns) ts r e = cc
act_at make_harmonic_of_order p l [] ns ts r e = absurd (cc)
act_at make_harmonic_of_order p l (ms0 ∷ []) ns ts r e = absurd (cc)
act_at make_harmonic_of_order p l (ms1 ∷ (ms0 ∷ ms)) [] ts r e = absurd (cc)
act_at make_factorial p l (ms1 ∷ (ms0 ∷ ms)) ns ts r e = cc
act_at make_factorial p l [] ns ts r e = absurd (cc)
act_at make_factorial p l (ms0 ∷ []) ns ts r e = absurd (cc)
act_at make_binomial p l (ms2 ∷ (ms1 ∷ (ms0 ∷ ms))) ns (ts0 ∷ ts) r e = cc
act_at make_binomial p l [] ns ts r e = absurd (cc)
act_at make_binomial p l (ms0 ∷ []) ns ts r e = absurd (cc)
act_at make_binomial p l (ms1 ∷ (ms0 ∷ [])) ns ts r e = absurd (cc)
act_at make_binomial p l (ms2 ∷ (ms1 ∷ (ms0 ∷ ms))) ns [] r e = absurd (cc)
act_at make_power p l (ms1 ∷ (ms0 ∷ ms)) ns (ts0 ∷ ts) r e = cc
act_at make_power p l [] ns ts r e = absurd (cc)
act_at make_power p l (ms0 ∷ []) ns ts r e = absurd (cc)
act_at make_power p l (ms1 ∷ (ms0 ∷ ms)) ns [] r e = absurd (cc)

then_some : (o : Option Sizes) (f : Sizes → Option Sizes) (r : Sizes) → onward o f ≡ Some r → (s : Sizes) × (o ≡ Some s) × (f s ≡ Some r)
then_some None f r h = absurd (cc)
then_some (Some s) f r h = (s, refl, h)

onward_join : (o : Option Sizes) (f g h : Sizes → Option Sizes) → ((s : Sizes) → h s ≡ onward (f s) g) → onward o h ≡ onward (onward o f) g
onward_join None f g h e = refl
onward_join (Some s) f g h e = e s

after_parts-append : (a b : List Symbol) (s : Sizes) → after_parts (a ++ b) s ≡ onward (after_parts a s) (after_parts b)
after_parts-append [] b s = refl
after_parts-append (part ∷ a) b s = onward_join (after_part part s) (after_parts a) (after_parts b) (after_parts (a ++ b)) (after_parts-append a b)

opened_sizes : (part : Symbol) (way parts : List Symbol) → is_act part ≡ false → IsOneOf way (rules part) → (s r : Sizes) → after_parts (part ∷ parts) s ≡ Some r → after_parts (way ++ parts) s ≡ Some r
opened_sizes part way parts h i s r e =
    let (q, f, g) = then_some (after_part part s) (after_parts parts) r e in
    after_parts-append way parts s ∙ (ap (λ o. onward o (after_parts parts)) (rule_sizes part way h i s q f) ∙ g)

pub Builds-sizes : {st : List Symbol} {w : List ℕ} {x y : State} → Builds after_byte after_action st w x y → (r : Sizes) → after_parts st (sizes_of x) ≡ Some r → sizes_of y ≡ r
Builds-sizes none_left r e = cc
Builds-sizes (eats b l h s) r e = Builds-sizes s r e
Builds-sizes (acts {a = a} {parts = parts} {x = x} s) r e =
    let (q, f, g) = then_some (after_act a (sizes_of x)) (after_parts parts) r e in
    Builds-sizes s r (ap (after_parts parts) (act_at a x.place x.last x.marks x.numbers x.trees q f) ∙ g)
Builds-sizes (opens_by {part = part} {parts = parts} {x = x} way p i s) r e = Builds-sizes s r (opened_sizes part way parts p i (sizes_of x) r e)

lone : (ts : List Placed) → length ts ≡ 1 → ts ≡ top_tree ts ∷ []
lone [] h = absurd (omega arith)
lone (t ∷ []) h = refl
lone (t ∷ (u ∷ us)) h = absurd (omega arith)

none : (ss : List Spot) → length ss ≡ 0 → ss ≡ []
none [] h = refl
none (s ∷ ss) h = absurd (omega arith)

one_tree : (x : State) → sizes_of x ≡ sizes 0 0 1 → length x.trees ≡ 1
one_tree x h = cc

no_mark : (x : State) → sizes_of x ≡ sizes 0 0 1 → length x.marks ≡ 0
no_mark x h = cc

no_number : (x : State) → sizes_of x ≡ sizes 0 0 1 → length x.numbers ≡ 0
no_number x h = cc

pub has_tree : (w : List ℕ) (y : State) → Builds after_byte after_action (text ∷ []) w at_start y → HasTree w (top_tree y.trees)
has_tree w y s =
    let e = Builds-sizes s (sizes 0 0 1) refl in
    record { end = y; built = s; left = lone y.trees (one_tree y e); no_marks = none y.marks (no_mark y e); no_numbers = none y.numbers (no_number y e) }
