-- What every way of writing a tree costs at least: an estimate of trees that each rule of the grammar keeps bounds what
-- a text pays by its closing parentheses.
--   Model       costs of trees at the levels of the grammar, and of the numbers, quotients and constants in `pow`, which no
--               rule makes greater, but for what a closing parenthesis pays
--   Estimate    what is owed for the trees that are made so far
--   Effect      what a part of the grammar does to them: nothing; paying once; an action; a new tree; a new tree for the last
--   Holds       an estimate before a part, given the one after it
--   Typed       an estimate before these parts, so that the last tree is paid for at their end
--   each_way    an estimate before a part is one before each way of writing it
--   owed        a text pays for its tree
use Rattle.std.specs.Prelude.{◌≡◌, ◌==◌, ℕ, ◌+◌, ◌-◌, ◌≤◌, Bool, true, false, cond, ◌&&◌, List, [], ◌∷◌, ◌++◌, codes}
use Rattle.std.proofs.Common.{refl, sym, ap, subst, arith}
use Rattle.std.proofs.lemmas.Bool.Decides.{nat_tests}
use Rattle.sg_spec.specs.Grammar.{Action, mark, letter, minus_sign, digit, use_number, negate, add_up, subtract, multiply, divide, raise, make_sum, make_product, make_harmonic_of_order, make_factorial, make_binomial, make_power, Symbol, span, act, blanks, text, expr, more_terms, term, more_factors, factor, exponent, atom, worded, variable, call, bounds_and_body, name_and_order, one_name, expr_and_name, const_and_name, order, int, const, divisor, name, digits, more_digits, token, rules, IsOneOf, first, later, is_act, Builds, none_left, eats, acts, opens_by}
use Rattle.sg_spec.specs.Syntax.{Spot, Placed, number, named, negated, added, subtracted, multiplied, divided, raised, sum_call, product_call, harmonic, harmonic_of_order, factorial, binomial, constant_power, State, after_byte, after_action, top_spot, second, third, fourth, top_tree, rest}
use Rattle.sg_spec.specs.Reading.{HasTree}
use Rattle.sg_text.specs.declared.printing.Level.{Level}
use Rattle.sg_text.specs.declared.printing.Level.TheVariants.{Sum, Term, Factor, Atom}

pub record Model : Type 0 where
  pub at : Level → Placed → ℕ
  pub at_number : Placed → ℕ
  pub at_quotient : Placed → ℕ
  pub at_const : Placed → ℕ
  pub pay : ℕ
  pub of_number : (s : Spot) → at Atom (number s) ≡ 0
  pub of_named : (s : Spot) → at Atom (named s) ≡ 0
  pub of_negated : (x : Placed) → at Sum (negated x) ≤ at Term x
  pub of_added : (x y : Placed) → at Sum (added x y) ≤ at Sum x + at Term y
  pub of_subtracted : (x y : Placed) → at Sum (subtracted x y) ≤ at Sum x + at Term y
  pub of_multiplied : (x y : Placed) → at Term (multiplied x y) ≤ at Term x + at Factor y
  pub of_divided : (x : Placed) (s : Spot) (y : Placed) → at Term (divided x s y) ≤ at Term x + at Factor y
  pub of_raised : (x : Placed) (e : Spot) → at Factor (raised x e) ≤ at Atom x
  pub as_term : (x : Placed) → at Sum x ≤ at Term x
  pub as_factor : (x : Placed) → at Term x ≤ at Factor x
  pub as_atom : (x : Placed) → at Factor x ≤ at Atom x
  pub enclosed : (x : Placed) → at Atom x ≤ at Sum x + pay
  pub of_sum : (c b s l u : Spot) (x : Placed) → at Atom (sum_call c b s l u x) ≤ at Sum x + pay
  pub of_product : (c b s l u : Spot) (x : Placed) → at Atom (product_call c b s l u x) ≤ at Sum x + pay
  pub of_harmonic : (c v : Spot) → at Atom (harmonic c v) ≤ pay
  pub of_harmonic_of_order : (c v r : Spot) → at Atom (harmonic_of_order c v r) ≤ pay
  pub of_factorial : (c v : Spot) → at Atom (factorial c v) ≤ pay
  pub of_binomial : (c s : Spot) (x : Placed) (v : Spot) → at Atom (binomial c s x v) ≤ at Sum x + pay
  pub of_power : (c : Spot) (x : Placed) (v : Spot) → at Atom (constant_power c x v) ≤ at_const x + pay
  pub of_one : (s : Spot) → at_number (number s) ≡ 0
  pub as_quotient : (x : Placed) → at_quotient x ≤ at_number x
  pub of_quotient : (x : Placed) (s : Spot) (y : Placed) → at_quotient (divided x s y) ≤ at_number x + at_number y
  pub as_const : (x : Placed) → at_const x ≤ at_quotient x
  pub of_opposite : (x : Placed) → at_const (negated x) ≤ at_quotient x

abbrev pub Estimate : Type 0
Estimate = List Placed → ℕ

pub data Effect : Type 0 where
  quiet : Effect
  closes : Effect
  does : Action → Effect
  pushes : (Placed → ℕ) → Effect
  turns : (Placed → ℕ) → (Placed → ℕ) → Effect

abbrev pub Each : List (List Symbol) → (List Symbol → Type 0) → Type 0
Each [] P = Unit {0}
Each (way ∷ ways) P = P way × Each ways P

pick : (P : List Symbol → Type 0) (way : List Symbol) (ways : List (List Symbol)) → IsOneOf way ways → Each ways P → P way
pick P way [] i e = elim i [ ]
pick P way (w ∷ ways) first e = e.0
pick P way (w ∷ ways) (later i) e = pick P way ways i e.1

abbrev pub paid : ℕ → List ℕ → ℕ
paid pay [] = 0
paid pay (b ∷ w) = cond (b == 41) (paid pay w + pay) (paid pay w)

module _ (m : Model) where
  abbrev effect : Symbol → Effect
  effect (span low more) = cond ((low == 41) && (more == 0)) closes quiet
  effect (act a) = does a
  effect text = pushes (m.at Sum)
  effect expr = pushes (m.at Sum)
  effect more_terms = turns (m.at Sum) (m.at Sum)
  effect term = pushes (m.at Term)
  effect more_factors = turns (m.at Term) (m.at Term)
  effect factor = pushes (m.at Factor)
  effect exponent = turns (m.at Atom) (m.at Factor)
  effect atom = pushes (m.at Atom)
  effect worded = pushes (m.at Atom)
  effect variable = pushes (m.at Atom)
  effect call = pushes (m.at Atom)
  effect bounds_and_body = pushes (λ t. m.at Sum t + m.pay)
  effect name_and_order = pushes (m.at Atom)
  effect one_name = closes
  effect expr_and_name = pushes (λ t. m.at Sum t + m.pay)
  effect const_and_name = pushes (λ t. m.at_const t + m.pay)
  effect order = pushes (λ t. m.at Atom t - m.pay)
  effect const = pushes m.at_const
  effect divisor = turns m.at_number m.at_quotient
  effect blanks = quiet
  effect int = quiet
  effect name = quiet
  effect digits = quiet
  effect more_digits = quiet

  abbrev Holds : Effect → Estimate → Estimate → Type 0
  Holds quiet f g = (ts : List Placed) → g ts ≤ f ts
  Holds closes f g = (ts : List Placed) → g ts ≤ f ts + m.pay
  Holds (does a) f g = (x : State) → g (after_action a x).trees ≤ f x.trees
  Holds (pushes c) f g = (ts : List Placed) → g ts ≤ c (top_tree ts) + f (rest ts)
  Holds (turns c d) f g = (b : Estimate) × ((ts : List Placed) → g ts ≤ d (top_tree ts) + b (rest ts)) × ((ts : List Placed) → c (top_tree ts) + b (rest ts) ≤ f ts)

  abbrev Typed : List Symbol → Estimate → Type 0
  Typed [] f = (ts : List Placed) → m.at Sum (top_tree ts) ≤ f ts
  Typed (part ∷ parts) f = (g : Estimate) × Typed parts g × Holds (effect part) f g

  weaker_hold : (e : Effect) (f h g : Estimate) → ((ts : List Placed) → f ts ≤ h ts) → Holds e f g → Holds e h g
  weaker_hold quiet f h g le k = λ ts. (let a = le ts in let b = k ts in omega arith)
  weaker_hold closes f h g le k = λ ts. (let a = le ts in let b = k ts in omega arith)
  weaker_hold (does a) f h g le k = λ x. (let c = le x.trees in let b = k x in omega arith)
  weaker_hold (pushes c) f h g le k = λ ts. (let a = le (rest ts) in let b = k ts in omega arith)
  weaker_hold (turns c d) f h g le (b, up, low) = (b, up, λ ts. (let a = le ts in let k = low ts in omega arith))

  weaker : (parts : List Symbol) (f h : Estimate) → ((ts : List Placed) → f ts ≤ h ts) → Typed parts f → Typed parts h
  weaker [] f h le t = λ ts. (let a = le ts in let b = t ts in omega arith)
  weaker (part ∷ parts) f h le (g, t, k) = (g, t, weaker_hold (effect part) f h g le k)

  same : (f : Estimate) (ts : List Placed) → f ts ≤ f ts
  same f ts = omega arith

  over : (part : Symbol) (parts : List Symbol) (f : Estimate) → effect part ≡ quiet → Typed parts f → Typed (part ∷ parts) f
  over part parts f q t = (f, t, subst (λ e. Holds e f f) (sym q) (same f))

  -- bytes of a token that pay nothing
  abbrev no_close : List ℕ → Bool
  no_close [] = true
  no_close (c ∷ w) = cond (c == 41) false (no_close w)

  over_token : (w : List ℕ) (parts others : List Symbol) (f : Estimate) → no_close w ≡ true → Typed (parts ++ others) f → Typed (token w parts ++ others) f
  over_token [] parts others f n t = over blanks (parts ++ others) f refl t
  over_token (c ∷ w) parts others f n t =
      let k : (c == 41) ≡ false = elim (c == 41) as (λ q. cond q false (no_close w) ≡ true → q ≡ false) [ true ↦ λ h. cc | false ↦ λ h. refl ] n in
      let k2 : no_close w ≡ true = elim (c == 41) as (λ q. cond q false (no_close w) ≡ true → no_close w ≡ true) [ true ↦ λ h. cc | false ↦ λ h. h ] n in
      over (span c 0) (token w parts ++ others) f (subst (λ q. cond (q && true) closes quiet ≡ quiet) (sym k) refl) (over_token w parts others f k2 t)

  -- a parenthesis that is closed
  close : (parts : List Symbol) (g : Estimate) → Typed parts g → Typed (span 41 0 ∷ (blanks ∷ parts)) (λ ts. g ts - m.pay)
  close parts g t = (g, over blanks parts g refl t, λ ts. omega arith)

  each_expr : (ps : List Symbol) (f : Estimate) → Typed (expr ∷ ps) f → Each (rules expr) (λ way. Typed (way ++ ps) f)
  each_expr ps f (g, t, c) =
      let sum : Estimate = λ ts. m.at Sum (top_tree ts) + f (rest ts) in
      let term_first : Estimate = λ ts. m.at Term (top_tree ts) + f (rest ts) in
      let more : Typed (more_terms ∷ ps) sum = (g, t, (f, c, same sum)) in (
        over_token (codes "-") (term ∷ (act negate ∷ (more_terms ∷ []))) ps f refl
            (term_first, (sum, more, λ x. (let h = m.of_negated (top_tree x.trees) in omega arith)), same term_first),
        ((sum, more, λ ts. (let h = m.as_term (top_tree ts) in omega arith)), tt),
      )

  each_more_terms : (ps : List Symbol) (f : Estimate) → Typed (more_terms ∷ ps) f → Each (rules more_terms) (λ way. Typed (way ++ ps) f)
  each_more_terms ps f (g, t, (b, up, low)) =
      let sum : Estimate = λ ts. m.at Sum (top_tree ts) + b (rest ts) in
      let two : Estimate = λ ts. m.at Term (top_tree ts) + sum (rest ts) in
      let more : Typed (more_terms ∷ ps) sum = (g, t, (b, up, same sum)) in (
        over_token (codes "+") (term ∷ (act add_up ∷ (more_terms ∷ []))) ps f refl
            (two, (sum, more, λ x. (let h = m.of_added (top_tree (rest x.trees)) (top_tree x.trees) in omega arith)), λ ts. (let h = low (rest ts) in omega arith)),
        (
          over_token (codes "-") (term ∷ (act subtract ∷ (more_terms ∷ []))) ps f refl
              (two, (sum, more, λ x. (let h = m.of_subtracted (top_tree (rest x.trees)) (top_tree x.trees) in omega arith)), λ ts. (let h = low (rest ts) in omega arith)),
          (weaker ps g f (λ ts. (let h = up ts in let k = low ts in omega arith)) t, tt),
        ),
      )

  each_more_factors : (ps : List Symbol) (f : Estimate) → Typed (more_factors ∷ ps) f → Each (rules more_factors) (λ way. Typed (way ++ ps) f)
  each_more_factors ps f (g, t, (b, up, low)) =
      let product : Estimate = λ ts. m.at Term (top_tree ts) + b (rest ts) in
      let two : Estimate = λ ts. m.at Factor (top_tree ts) + product (rest ts) in
      let more : Typed (more_factors ∷ ps) product = (g, t, (b, up, same product)) in (
        over_token (codes "*") (factor ∷ (act multiply ∷ (more_factors ∷ []))) ps f refl
            (two, (product, more, λ x. (let h = m.of_multiplied (top_tree (rest x.trees)) (top_tree x.trees) in omega arith)), λ ts. (let h = low (rest ts) in omega arith)),
        (
          over_token (codes "/") (act mark ∷ (factor ∷ (act divide ∷ (more_factors ∷ [])))) ps f refl
              (f, (two, (product, more, λ x. (let h = m.of_divided (top_tree (rest x.trees)) (top_spot x.marks) (top_tree x.trees) in omega arith)), λ ts. (let h = low (rest ts) in omega arith)), λ x. same f x.trees),
          (weaker ps g f (λ ts. (let h = up ts in let k = low ts in omega arith)) t, tt),
        ),
      )

  each_exponent : (ps : List Symbol) (f : Estimate) → Typed (exponent ∷ ps) f → Each (rules exponent) (λ way. Typed (way ++ ps) f)
  each_exponent ps f (g, t, (b, up, low)) = (
    over_token (codes "^") (digits ∷ (act raise ∷ [])) ps f refl
        (over digits (act raise ∷ ps) f refl
        (g, t, λ x. (let h = m.of_raised (top_tree x.trees) (top_spot x.numbers) in let k = up (raised (top_tree x.trees) (top_spot x.numbers) ∷ rest x.trees) in let q = low x.trees in omega arith))),
    (weaker ps g f (λ ts. (let h = up ts in let k = low ts in let q = m.as_atom (top_tree ts) in omega arith)) t, tt),
  )

  each_atom : (ps : List Symbol) (f : Estimate) → Typed (atom ∷ ps) f → Each (rules atom) (λ way. Typed (way ++ ps) f)
  each_atom ps f (g, t, c) = (
    over digits (act use_number ∷ ps) f refl (g, t, λ x. (let h = m.of_number (top_spot x.numbers) in let k = c (number (top_spot x.numbers) ∷ x.trees) in omega arith)),
    (
      over_token (codes "(") (expr ∷ token (codes ")") []) ps f refl
          (λ ts. g ts - m.pay, close ps g t, λ ts. (let h = m.enclosed (top_tree ts) in let k = c ts in omega arith)),
      ((f, (g, t, c), λ x. same f x.trees), tt),
    ),
  )

  each_variable : (ps : List Symbol) (f : Estimate) → Typed (variable ∷ ps) f → Each (rules variable) (λ way. Typed (way ++ ps) f)
  each_variable ps f (g, t, c) =
      ((f, (f, (g, over blanks ps g refl t, λ x. (let h = m.of_named (top_spot x.marks) in let k = c (named (top_spot x.marks) ∷ x.trees) in omega arith)), λ x. same f x.trees), same f), tt)

  each_call : (ps : List Symbol) (f : Estimate) → Typed (call ∷ ps) f → Each (rules call) (λ way. Typed (way ++ ps) f)
  each_call ps f (g, t, c) =
      let body : Estimate = λ ts. m.at Sum (top_tree ts) + m.pay + f (rest ts) in
      let base : Estimate = λ ts. m.at_const (top_tree ts) + m.pay + f (rest ts) in
      let closed : Estimate = λ ts. f ts + m.pay in (
        over_token (codes "sum") (bounds_and_body ∷ (act make_sum ∷ [])) ps f refl (
          body,
          (
            g,
            t,
            λ x. (let s = sum_call (fourth x.marks) (third x.marks) (second x.marks) (top_spot x.numbers) (top_spot x.marks) (top_tree x.trees) in
                let h = m.of_sum (fourth x.marks) (third x.marks) (second x.marks) (top_spot x.numbers) (top_spot x.marks) (top_tree x.trees) in let k = c (s ∷ rest x.trees) in omega arith),
          ),
          same body,
        ),
        (
          over_token (codes "prod") (bounds_and_body ∷ (act make_product ∷ [])) ps f refl (
            body,
            (
              g,
              t,
              λ x. (let s = product_call (fourth x.marks) (third x.marks) (second x.marks) (top_spot x.numbers) (top_spot x.marks) (top_tree x.trees) in
                  let h = m.of_product (fourth x.marks) (third x.marks) (second x.marks) (top_spot x.numbers) (top_spot x.marks) (top_tree x.trees) in let k = c (s ∷ rest x.trees) in omega arith),
            ),
            same body,
          ),
          (
            over_token (codes "H") (name_and_order ∷ []) ps f refl (g, t, c),
            (
              over_token (codes "fact") (one_name ∷ (act make_factorial ∷ [])) ps f refl
                  (closed, (g, t, λ x. (let h = m.of_factorial (second x.marks) (top_spot x.marks) in let k = c (factorial (second x.marks) (top_spot x.marks) ∷ x.trees) in omega arith)), same closed),
              (
                over_token (codes "binom") (expr_and_name ∷ (act make_binomial ∷ [])) ps f refl (
                  body,
                  (
                    g,
                    t,
                    λ x. (let s = binomial (third x.marks) (second x.marks) (top_tree x.trees) (top_spot x.marks) in
                        let h = m.of_binomial (third x.marks) (second x.marks) (top_tree x.trees) (top_spot x.marks) in let k = c (s ∷ rest x.trees) in omega arith),
                  ),
                  same body,
                ),
                (
                  over_token (codes "pow") (const_and_name ∷ (act make_power ∷ [])) ps f refl (
                    base,
                    (
                      g,
                      t,
                      λ x. (let s = constant_power (second x.marks) (top_tree x.trees) (top_spot x.marks) in
                          let h = m.of_power (second x.marks) (top_tree x.trees) (top_spot x.marks) in let k = c (s ∷ rest x.trees) in omega arith),
                    ),
                    same base,
                  ),
                  tt,
                ),
              ),
            ),
          ),
        ),
      )

  each_bounds_and_body : (ps : List Symbol) (f : Estimate) → Typed (bounds_and_body ∷ ps) f → Each (rules bounds_and_body) (λ way. Typed (way ++ ps) f)
  each_bounds_and_body ps f (g, t, c) =
      let last : List Symbol = token (codes ")") [] in
      let upper : List Symbol = name ∷ token (codes ",") (expr ∷ last) in
      let limit : List Symbol = act mark ∷ (int ∷ token (codes ",") upper) in (
        over_token (codes "(") (name ∷ token (codes ",") limit) ps f refl
            (over name (token (codes ",") limit ++ ps) f refl
            (over_token (codes ",") limit ps f refl (
              f,
              over int (token (codes ",") upper ++ ps) f refl
                  (over_token (codes ",") upper ps f refl
                  (over name (token (codes ",") (expr ∷ last) ++ ps) f refl
                  (over_token (codes ",") (expr ∷ last) ps f refl
                  (λ ts. g ts - m.pay, close ps g t, λ ts. (let k = c ts in omega arith))))),
              λ x. same f x.trees,
            ))),
        tt,
      )

  each_name_and_order : (ps : List Symbol) (f : Estimate) → Typed (name_and_order ∷ ps) f → Each (rules name_and_order) (λ way. Typed (way ++ ps) f)
  each_name_and_order ps f (g, t, c) = (
    over_token (codes "(") (name ∷ (order ∷ token (codes ")") [])) ps f refl
        (over name (order ∷ (token (codes ")") [] ++ ps)) f refl
        (λ ts. g ts - m.pay, close ps g t, λ ts. (let k = c ts in omega arith))),
    tt,
  )

  each_one_name : (ps : List Symbol) (f : Estimate) → Typed (one_name ∷ ps) f → Each (rules one_name) (λ way. Typed (way ++ ps) f)
  each_one_name ps f (g, t, c) = (
    over_token (codes "(") (name ∷ token (codes ")") []) ps f refl
        (over name (token (codes ")") [] ++ ps) f refl
        (weaker (token (codes ")") [] ++ ps) (λ ts. g ts - m.pay) f (λ ts. (let k = c ts in omega arith)) (close ps g t))),
    tt,
  )

  each_expr_and_name : (ps : List Symbol) (f : Estimate) → Typed (expr_and_name ∷ ps) f → Each (rules expr_and_name) (λ way. Typed (way ++ ps) f)
  each_expr_and_name ps f (g, t, c) =
      let last : List Symbol = name ∷ token (codes ")") [] in
      let less : Estimate = λ ts. g ts - m.pay in (
        over_token (codes "(") (act mark ∷ (expr ∷ token (codes ",") last)) ps f refl
            (f, (less, over_token (codes ",") last ps less refl (over name (token (codes ")") [] ++ ps) less refl (close ps g t)), λ ts. (let k = c ts in omega arith)), λ x. same f x.trees),
        tt,
      )

  each_const_and_name : (ps : List Symbol) (f : Estimate) → Typed (const_and_name ∷ ps) f → Each (rules const_and_name) (λ way. Typed (way ++ ps) f)
  each_const_and_name ps f (g, t, c) =
      let last : List Symbol = name ∷ token (codes ")") [] in
      let less : Estimate = λ ts. g ts - m.pay in (
        over_token (codes "(") (const ∷ token (codes ",") last) ps f refl
            (less, over_token (codes ",") last ps less refl (over name (token (codes ")") [] ++ ps) less refl (close ps g t)), λ ts. (let k = c ts in omega arith)),
        tt,
      )

  each_order : (ps : List Symbol) (f : Estimate) → Typed (order ∷ ps) f → Each (rules order) (λ way. Typed (way ++ ps) f)
  each_order ps f (g, t, c) = (
    over_token (codes ",") (digits ∷ (act make_harmonic_of_order ∷ [])) ps f refl
        (over digits (act make_harmonic_of_order ∷ ps) f refl (
          g,
          t,
          λ x. (let h = m.of_harmonic_of_order (second x.marks) (top_spot x.marks) (top_spot x.numbers) in
              let k = c (harmonic_of_order (second x.marks) (top_spot x.marks) (top_spot x.numbers) ∷ x.trees) in omega arith),
        )),
    ((g, t, λ x. (let h = m.of_harmonic (second x.marks) (top_spot x.marks) in let k = c (harmonic (second x.marks) (top_spot x.marks) ∷ x.trees) in omega arith)), tt),
  )

  each_const : (ps : List Symbol) (f : Estimate) → Typed (const ∷ ps) f → Each (rules const) (λ way. Typed (way ++ ps) f)
  each_const ps f (g, t, c) =
      let quotient : Estimate = λ ts. m.at_quotient (top_tree ts) + f (rest ts) in
      let one : Estimate = λ ts. m.at_number (top_tree ts) + f (rest ts) in
      let opposite : Typed (act negate ∷ ps) quotient = (g, t, λ x. (let h = m.of_opposite (top_tree x.trees) in let k = c (negated (top_tree x.trees) ∷ rest x.trees) in omega arith)) in (
        over_token (codes "-") (digits ∷ (act use_number ∷ (divisor ∷ (act negate ∷ [])))) ps f refl
            (over digits (act use_number ∷ (divisor ∷ (act negate ∷ ps))) f refl
            (one, (quotient, opposite, (f, same quotient, same one)), λ x. (let h = m.of_one (top_spot x.numbers) in omega arith))),
        (
          over digits (act use_number ∷ (divisor ∷ ps)) f refl
              (one, (g, t, (f, λ ts. (let k = c ts in let h = m.as_const (top_tree ts) in omega arith), same one)), λ x. (let h = m.of_one (top_spot x.numbers) in omega arith)),
          tt,
        ),
      )

  each_divisor : (ps : List Symbol) (f : Estimate) → Typed (divisor ∷ ps) f → Each (rules divisor) (λ way. Typed (way ++ ps) f)
  each_divisor ps f (g, t, (b, up, low)) =
      let two : Estimate = λ ts. m.at_number (top_tree ts) + (m.at_number (top_tree (rest ts)) + b (rest (rest ts))) in (
        over_token (codes "/") (act mark ∷ (digits ∷ (act use_number ∷ (act divide ∷ [])))) ps f refl (
          f,
          over digits (act use_number ∷ (act divide ∷ ps)) f refl (
            two,
            (
              g,
              t,
              λ x. (let s = divided (top_tree (rest x.trees)) (top_spot x.marks) (top_tree x.trees) in
                  let h = m.of_quotient (top_tree (rest x.trees)) (top_spot x.marks) (top_tree x.trees) in let k = up (s ∷ rest (rest x.trees)) in omega arith),
            ),
            λ x. (let h = m.of_one (top_spot x.numbers) in let k = low x.trees in omega arith),
          ),
          λ x. same f x.trees,
        ),
        (weaker ps g f (λ ts. (let h = up ts in let k = low ts in let q = m.as_quotient (top_tree ts) in omega arith)) t, tt),
      )

  -- parts that make no tree
  each_name : (ps : List Symbol) (f : Estimate) → Typed ps f → Each (rules name) (λ way. Typed (way ++ ps) f)
  each_name ps f t =
      ((f, over (span 97 25) (act letter ∷ (blanks ∷ ps)) f refl (f, over blanks ps f refl t, λ x. same f x.trees), λ x. same f x.trees), tt)

  each_digits : (ps : List Symbol) (f : Estimate) → Typed ps f → Each (rules digits) (λ way. Typed (way ++ ps) f)
  each_digits ps f t =
      ((f, over (span 48 9) (act digit ∷ (more_digits ∷ (blanks ∷ ps))) f refl (f, over more_digits (blanks ∷ ps) f refl (over blanks ps f refl t), λ x. same f x.trees), λ x. same f x.trees), tt)

  each_more_digits : (ps : List Symbol) (f : Estimate) → Typed ps f → Each (rules more_digits) (λ way. Typed (way ++ ps) f)
  each_more_digits ps f t = (over (span 48 9) (act digit ∷ (more_digits ∷ ps)) f refl (f, over more_digits ps f refl t, λ x. same f x.trees), (t, tt))

  each_int : (ps : List Symbol) (f : Estimate) → Typed ps f → Each (rules int) (λ way. Typed (way ++ ps) f)
  each_int ps f t =
      (over_token (codes "-") (act minus_sign ∷ (digits ∷ [])) ps f refl (f, over digits ps f refl t, λ x. same f x.trees), (over digits ps f refl t, tt))

  each_way : (part : Symbol) (ps : List Symbol) (f : Estimate) → is_act part ≡ false → Typed (part ∷ ps) f → Each (rules part) (λ way. Typed (way ++ ps) f)
  each_way (span low more) ps f n t = tt
  each_way (act a) ps f n t = cc
  each_way blanks ps f n (g, t, c) =
      let u : Typed ps f = weaker ps g f c t in
      (over (span 32 0) (blanks ∷ ps) f refl (over blanks ps f refl u), (u, tt))
  each_way text ps f n t = (over blanks (expr ∷ ps) f refl t, tt)
  each_way expr ps f n t = each_expr ps f t
  each_way more_terms ps f n t = each_more_terms ps f t
  each_way term ps f n (g, t, c) =
      let product : Estimate = λ ts. m.at Term (top_tree ts) + f (rest ts) in
      ((product, (g, t, (f, c, same product)), λ ts. (let h = m.as_factor (top_tree ts) in omega arith)), tt)
  each_way more_factors ps f n t = each_more_factors ps f t
  each_way factor ps f n (g, t, c) =
      let whole : Estimate = λ ts. m.at Atom (top_tree ts) + f (rest ts) in
      ((whole, (g, t, (f, c, same whole)), same whole), tt)
  each_way exponent ps f n t = each_exponent ps f t
  each_way atom ps f n t = each_atom ps f t
  each_way worded ps f n t = (t, (t, tt))
  each_way variable ps f n t = each_variable ps f t
  each_way call ps f n t = each_call ps f t
  each_way bounds_and_body ps f n t = each_bounds_and_body ps f t
  each_way name_and_order ps f n t = each_name_and_order ps f t
  each_way one_name ps f n t = each_one_name ps f t
  each_way expr_and_name ps f n t = each_expr_and_name ps f t
  each_way const_and_name ps f n t = each_const_and_name ps f t
  each_way order ps f n t = each_order ps f t
  each_way int ps f n (g, t, c) = each_int ps f (weaker ps g f c t)
  each_way const ps f n t = each_const ps f t
  each_way divisor ps f n t = each_divisor ps f t
  each_way name ps f n (g, t, c) = each_name ps f (weaker ps g f c t)
  each_way digits ps f n (g, t, c) = each_digits ps f (weaker ps g f c t)
  each_way more_digits ps f n (g, t, c) = each_more_digits ps f (weaker ps g f c t)

  -- a byte pays, if it closes a parenthesis
  byte_pays : (low more b : ℕ) (w : List ℕ) (f g : Estimate) (ts : List Placed) (owed : ℕ) → low ≤ b → b ≤ low + more → (q : Bool) → ((low == 41) && (more == 0)) ≡ q
      → Holds (cond q closes quiet) f g → owed ≤ paid m.pay w + g ts → owed ≤ paid m.pay (b ∷ w) + f ts
  byte_pays low more b w f g ts owed l h true e c k =
      let same_low : low ≡ 41 = grind (arith, nat_tests) in
      let none : more ≡ 0 = grind (arith, nat_tests) in
      let is : (b == 41) ≡ true = grind (arith, nat_tests) in
      let d = c ts in
      subst (λ q. owed ≤ cond q (paid m.pay w + m.pay) (paid m.pay w) + f ts) (sym is) (omega arith)
  byte_pays low more b w f g ts owed l h false e c k =
      let d = c ts in
      elim (b == 41) as (λ q. owed ≤ cond q (paid m.pay w + m.pay) (paid m.pay w) + f ts) [ true ↦ omega arith | false ↦ omega arith ]

  owed_by : {parts : List Symbol} {w : List ℕ} {x y : State} → Builds after_byte after_action parts w x y → (f : Estimate) → Typed parts f → m.at Sum (top_tree y.trees) ≤ paid m.pay w + f x.trees
  owed_by (none_left {x = x}) f t = let h = t x.trees in omega arith
  owed_by (eats {low = low} {more = more} {w = w} {x = x} {y = y} b l h d) f (g, t, c) =
      byte_pays low more b w f g x.trees (m.at Sum (top_tree y.trees)) l h ((low == 41) && (more == 0)) refl c (owed_by d g t)
  owed_by (acts {x = x} d) f (g, t, c) = let h = owed_by d g t in let k = c x in omega arith
  owed_by (opens_by {part = part} {parts = parts} way n i d) f t =
      owed_by d f (pick (λ u. Typed (u ++ parts) f) way (rules part) i (each_way part parts f n t))

  pub owed : (w : List ℕ) (t : Placed) → HasTree w t → m.at Sum t ≤ paid m.pay w
  owed w t h =
      let end : Estimate = λ ts. m.at Sum (top_tree ts) in
      let typed : Typed (text ∷ []) (λ ts. 0) = (end, same end, λ ts. omega arith) in
      let k = owed_by h.built (λ ts. 0) typed in
      subst (λ q. m.at Sum q ≤ paid m.pay w) (ap top_tree h.left) (omega arith)
