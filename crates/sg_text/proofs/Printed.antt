-- How texts without blanks read: a tree's text is put together from the texts of its parts.
--   Ends          the parts spell these bytes from a state, and the tree that is on top at the end is a good one
--   Leaves        a part spells these bytes, up to the parts that are left, and puts a tree of this kind on top
--   Sum, Product, Factor, Atom     the same for the four levels; a sum and a product may go on
--   Means         a placed tree without fault, and its tree
use Rattle.std.specs.Prelude.{◌≡◌, ℕ, ◌+◌, ◌-◌, ◌*◌, ◌≤◌, ◌<◌, Bool, true, false, List, [], ◌∷◌, ◌++◌}
use Rattle.std.proofs.Common.{refl, sym, subst, arith, append_assoc}
use Rattle.std.proofs.lemmas.List.{append-nil}
use Rattle.std.proofs.lemmas.Bool.Decides.{nat_tests}
use Rattle.std.specs.Char.{digit_value}
use Rattle.std.specs.Str.Parse.{AllDigits, IsNumeral, digits_value, digits_value_after}
use Rattle.std.proofs.lemmas.Str.Parse.{digit_from_value}
use Rattle.sg_spec.specs.Tree.{Tree}
use Rattle.sg_spec.specs.Grammar.{Action, mark, letter, begin_number, digit, use_name, negate, add_up, subtract, multiply, divide, raise, Symbol, span, act, blanks, text, expr, more_terms, term, more_factors, factor, exponent, atom, worded, variable, digits, more_digits, rules, IsOneOf, first, later, is_act, Builds, none_left, eats, acts, opens_by}
use Rattle.sg_spec.specs.Syntax.{Spot, Placed, named, negated, added, subtracted, multiplied, divided, raised, State, at_start, after_byte, after_action, top_tree}
use Rattle.sg_syntax.proofs.Balance.{has_tree}
use Rattle.sg_spec.specs.Reading.{tree_in, is_divisor, Limits, faults, unlimited, Reads}

abbrev pub Ends : (Placed → Type 0) → List Symbol → List ℕ → State → Type 0
Ends G parts w x = (end : State) × Builds after_byte after_action parts w x end × G (top_tree end.trees)

abbrev pub at_spot : ℕ → ℕ → Spot
at_spot p v = record { place = p; value = v }

abbrev pub reading : ℕ → ℕ → List Spot → List Spot → List Placed → State
reading p l marks numbers trees = record { place = p; last = l; marks = marks; numbers = numbers; trees = trees }

module _ (G : Placed → Type 0) where
  ends_nothing : (x : State) → G (top_tree x.trees) → Ends G [] [] x
  ends_nothing x g = (x, none_left, g)

  pub ends_byte : (low more b : ℕ) (parts : List Symbol) (w : List ℕ) (x : State) → low ≤ b → b ≤ low + more → Ends G parts w (after_byte b x) → Ends G (span low more ∷ parts) (b ∷ w) x
  ends_byte low more b parts w x l h (y, s, g) = (y, eats b l h s, g)

  pub ends_this : (b : ℕ) (parts : List Symbol) (w : List ℕ) (x : State) → Ends G parts w (after_byte b x) → Ends G (span b 0 ∷ parts) (b ∷ w) x
  ends_this b parts w x e = ends_byte b 0 b parts w x (omega arith) (omega arith) e

  pub ends_act : (a : Action) (parts : List Symbol) (w : List ℕ) (x : State) → Ends G parts w (after_action a x) → Ends G (act a ∷ parts) w x
  ends_act a parts w x (y, s, g) = (y, acts s, g)

  pub ends_way : (part : Symbol) (way parts : List Symbol) (w : List ℕ) (x : State) → is_act part ≡ false → IsOneOf way (rules part) → Ends G (way ++ parts) w x → Ends G (part ∷ parts) w x
  ends_way part way parts w x h i (y, s, g) = (y, opens_by way h i s, g)

  pub ends_blanks : (parts : List Symbol) (w : List ℕ) (x : State) → Ends G parts w x → Ends G (blanks ∷ parts) w x
  ends_blanks parts w x e = ends_way blanks [] parts w x refl (later first) e

  -- from here on the part spells these bytes and then goes on with what is left
  abbrev pub Leaves : (Placed → Type 0) → Symbol → List Symbol → List ℕ → Type 0
  Leaves P part left w = (parts : List Symbol) (more : List ℕ) (p l : ℕ) (marks numbers : List Spot) (trees : List Placed)
      → ((q k : ℕ) (t : Placed) → P t → Ends G (left ++ parts) more (reading q k marks numbers (t ∷ trees)))
      → Ends G (part ∷ parts) (w ++ more) (reading p l marks numbers trees)

  abbrev pub Sum : (Placed → Type 0) → List ℕ → Type 0
  Sum P w = Leaves P expr (more_terms ∷ []) w

  abbrev pub Product : (Placed → Type 0) → List ℕ → Type 0
  Product P w = Leaves P term (more_factors ∷ []) w

  abbrev pub Factor : (Placed → Type 0) → List ℕ → Type 0
  Factor P w = Leaves P factor [] w

  abbrev pub Atom : (Placed → Type 0) → List ℕ → Type 0
  Atom P w = Leaves P atom [] w

  -- the levels hold one another
  pub factor-atom : {P : Placed → Type 0} (w : List ℕ) → Atom P w → Factor P w
  factor-atom w a parts more p l marks numbers trees f =
      ends_way factor (atom ∷ exponent ∷ []) parts (w ++ more) (reading p l marks numbers trees) refl first
      (a (exponent ∷ parts) more p l marks numbers trees (λ q k t h. ends_way exponent [] parts more (reading q k marks numbers (t ∷ trees)) refl (later first) (f q k t h)))

  pub product-factor : {P : Placed → Type 0} (w : List ℕ) → Factor P w → Product P w
  product-factor w a parts more p l marks numbers trees f =
      ends_way term (factor ∷ more_factors ∷ []) parts (w ++ more) (reading p l marks numbers trees) refl first
      (a (more_factors ∷ parts) more p l marks numbers trees f)

  pub sum-product : {P : Placed → Type 0} (w : List ℕ) → Product P w → Sum P w
  sum-product w a parts more p l marks numbers trees f =
      ends_way expr (term ∷ more_terms ∷ []) parts (w ++ more) (reading p l marks numbers trees) refl (later first)
      (a (more_terms ∷ parts) more p l marks numbers trees
      (λ q k t h. ends_way more_factors [] (more_terms ∷ parts) more (reading q k marks numbers (t ∷ trees)) refl (later (later first)) (f q k t h)))

  -- a term on the right, as a whole
  whole_term : {P : Placed → Type 0} (w : List ℕ) → Product P w → Leaves P term [] w
  whole_term w a parts more p l marks numbers trees f =
      a parts more p l marks numbers trees (λ q k t h. ends_way more_factors [] parts more (reading q k marks numbers (t ∷ trees)) refl (later (later first)) (f q k t h))

  pub whole_sum : {P : Placed → Type 0} (w : List ℕ) → Sum P w → Leaves P expr [] w
  whole_sum w a parts more p l marks numbers trees f =
      a parts more p l marks numbers trees (λ q k t h. ends_way more_terms [] parts more (reading q k marks numbers (t ∷ trees)) refl (later (later first)) (f q k t h))

  regrouped : (v w more : List ℕ) (b : ℕ) (parts : List Symbol) (x : State) → Ends G parts (v ++ (b ∷ (w ++ more))) x → Ends G parts ((v ++ (b ∷ w)) ++ more) x
  regrouped v w more b parts x e = subst (λ q. Ends G parts q x) (sym (append_assoc v (b ∷ w) more)) e

  pub sum-add : {P Q R : Placed → Type 0} (v w : List ℕ) → ((x y : Placed) → P x → Q y → R (added x y)) → Sum P v → Product Q w → Sum R (v ++ (43 ∷ w))
  sum-add v w r a c parts more p l marks numbers trees f =
      regrouped v w more 43 (expr ∷ parts) (reading p l marks numbers trees)
      (a parts (43 ∷ (w ++ more)) p l marks numbers trees
      (λ q k x h. ends_way more_terms (span 43 0 ∷ blanks ∷ term ∷ act add_up ∷ more_terms ∷ []) parts (43 ∷ (w ++ more)) (reading q k marks numbers (x ∷ trees)) refl first
      (ends_this 43 (blanks ∷ term ∷ act add_up ∷ more_terms ∷ parts) (w ++ more) (reading q k marks numbers (x ∷ trees))
      (ends_blanks (term ∷ act add_up ∷ more_terms ∷ parts) (w ++ more) (reading (q + 1) 43 marks numbers (x ∷ trees))
      (whole_term w c (act add_up ∷ more_terms ∷ parts) more (q + 1) 43 marks numbers (x ∷ trees)
      (λ q2 k2 y g. ends_act add_up (more_terms ∷ parts) more (reading q2 k2 marks numbers (y ∷ (x ∷ trees))) (f q2 k2 (added x y) (r x y h g))))))))

  pub sum-sub : {P Q R : Placed → Type 0} (v w : List ℕ) → ((x y : Placed) → P x → Q y → R (subtracted x y)) → Sum P v → Product Q w → Sum R (v ++ (45 ∷ w))
  sum-sub v w r a c parts more p l marks numbers trees f =
      regrouped v w more 45 (expr ∷ parts) (reading p l marks numbers trees)
      (a parts (45 ∷ (w ++ more)) p l marks numbers trees
      (λ q k x h. ends_way more_terms (span 45 0 ∷ blanks ∷ term ∷ act subtract ∷ more_terms ∷ []) parts (45 ∷ (w ++ more)) (reading q k marks numbers (x ∷ trees)) refl (later first)
      (ends_this 45 (blanks ∷ term ∷ act subtract ∷ more_terms ∷ parts) (w ++ more) (reading q k marks numbers (x ∷ trees))
      (ends_blanks (term ∷ act subtract ∷ more_terms ∷ parts) (w ++ more) (reading (q + 1) 45 marks numbers (x ∷ trees))
      (whole_term w c (act subtract ∷ more_terms ∷ parts) more (q + 1) 45 marks numbers (x ∷ trees)
      (λ q2 k2 y g. ends_act subtract (more_terms ∷ parts) more (reading q2 k2 marks numbers (y ∷ (x ∷ trees))) (f q2 k2 (subtracted x y) (r x y h g))))))))

  pub sum-neg : {P R : Placed → Type 0} (w : List ℕ) → ((x : Placed) → P x → R (negated x)) → Product P w → Sum R (45 ∷ w)
  sum-neg w r c parts more p l marks numbers trees f =
      ends_way expr (span 45 0 ∷ blanks ∷ term ∷ act negate ∷ more_terms ∷ []) parts (45 ∷ (w ++ more)) (reading p l marks numbers trees) refl first
      (ends_this 45 (blanks ∷ term ∷ act negate ∷ more_terms ∷ parts) (w ++ more) (reading p l marks numbers trees)
      (ends_blanks (term ∷ act negate ∷ more_terms ∷ parts) (w ++ more) (reading (p + 1) 45 marks numbers trees)
      (whole_term w c (act negate ∷ more_terms ∷ parts) more (p + 1) 45 marks numbers trees
      (λ q k x h. ends_act negate (more_terms ∷ parts) more (reading q k marks numbers (x ∷ trees)) (f q k (negated x) (r x h))))))

  pub product-mul : {P Q R : Placed → Type 0} (v w : List ℕ) → ((x y : Placed) → P x → Q y → R (multiplied x y)) → Product P v → Factor Q w → Product R (v ++ (42 ∷ w))
  product-mul v w r a c parts more p l marks numbers trees f =
      regrouped v w more 42 (term ∷ parts) (reading p l marks numbers trees)
      (a parts (42 ∷ (w ++ more)) p l marks numbers trees
      (λ q k x h. ends_way more_factors (span 42 0 ∷ blanks ∷ factor ∷ act multiply ∷ more_factors ∷ []) parts (42 ∷ (w ++ more)) (reading q k marks numbers (x ∷ trees)) refl first
      (ends_this 42 (blanks ∷ factor ∷ act multiply ∷ more_factors ∷ parts) (w ++ more) (reading q k marks numbers (x ∷ trees))
      (ends_blanks (factor ∷ act multiply ∷ more_factors ∷ parts) (w ++ more) (reading (q + 1) 42 marks numbers (x ∷ trees))
      (c (act multiply ∷ more_factors ∷ parts) more (q + 1) 42 marks numbers (x ∷ trees)
      (λ q2 k2 y g. ends_act multiply (more_factors ∷ parts) more (reading q2 k2 marks numbers (y ∷ (x ∷ trees))) (f q2 k2 (multiplied x y) (r x y h g))))))))

  pub product-div : {P Q R : Placed → Type 0} (v w : List ℕ) → ((x y : Placed) (s : Spot) → P x → Q y → R (divided x s y)) → Product P v → Factor Q w → Product R (v ++ (47 ∷ w))
  product-div v w r a c parts more p l marks numbers trees f =
      regrouped v w more 47 (term ∷ parts) (reading p l marks numbers trees)
      (a parts (47 ∷ (w ++ more)) p l marks numbers trees
      (λ q k x h. ends_way more_factors (span 47 0 ∷ blanks ∷ act mark ∷ factor ∷ act divide ∷ more_factors ∷ []) parts (47 ∷ (w ++ more)) (reading q k marks numbers (x ∷ trees)) refl (later first)
      (ends_this 47 (blanks ∷ act mark ∷ factor ∷ act divide ∷ more_factors ∷ parts) (w ++ more) (reading q k marks numbers (x ∷ trees))
      (ends_blanks (act mark ∷ factor ∷ act divide ∷ more_factors ∷ parts) (w ++ more) (reading (q + 1) 47 marks numbers (x ∷ trees))
      (ends_act mark (factor ∷ act divide ∷ more_factors ∷ parts) (w ++ more) (reading (q + 1) 47 marks numbers (x ∷ trees))
      (c (act divide ∷ more_factors ∷ parts) more (q + 1) 47 (at_spot (q + 1) 0 ∷ marks) numbers (x ∷ trees)
      (λ q2 k2 y g. ends_act divide (more_factors ∷ parts) more (reading q2 k2 (at_spot (q + 1) 0 ∷ marks) numbers (y ∷ (x ∷ trees)))
      (f q2 k2 (divided x (at_spot (q + 1) 0) y) (r x y (at_spot (q + 1) 0) h g)))))))))

  pub atom-parens : {P : Placed → Type 0} (w : List ℕ) → Sum P w → Atom P (40 ∷ (w ++ (41 ∷ [])))
  atom-parens w a parts more p l marks numbers trees f =
      ends_way atom (span 40 0 ∷ blanks ∷ expr ∷ span 41 0 ∷ blanks ∷ []) parts (40 ∷ ((w ++ (41 ∷ [])) ++ more)) (reading p l marks numbers trees) refl (later first)
      (ends_this 40 (blanks ∷ expr ∷ span 41 0 ∷ blanks ∷ parts) ((w ++ (41 ∷ [])) ++ more) (reading p l marks numbers trees)
      (ends_blanks (expr ∷ span 41 0 ∷ blanks ∷ parts) ((w ++ (41 ∷ [])) ++ more) (reading (p + 1) 40 marks numbers trees)
      (regrouped w [] more 41 (expr ∷ span 41 0 ∷ blanks ∷ parts) (reading (p + 1) 40 marks numbers trees)
      (whole_sum w a (span 41 0 ∷ blanks ∷ parts) (41 ∷ more) (p + 1) 40 marks numbers trees
      (λ q k t h. ends_this 41 (blanks ∷ parts) more (reading q k marks numbers (t ∷ trees))
      (ends_blanks parts more (reading (q + 1) 41 marks numbers (t ∷ trees)) (f (q + 1) 41 t h)))))))

  -- a digit's value
  digit_is : (c : ℕ) → digit_value c < 10 → digit_value c ≡ c - 48
  digit_is c h = let (low, high) = digit_from_value c h in grind (arith, nat_tests)

  one_digit : (c s v : ℕ) (cs more : List ℕ) (parts : List Symbol) (p l : ℕ) (marks numbers : List Spot) (trees : List Placed) → digit_value c < 10
      → Ends G (more_digits ∷ parts) (cs ++ more) (reading (p + 1) c marks (at_spot s (v * 10 + digit_value c) ∷ numbers) trees)
      → Ends G (span 48 9 ∷ act digit ∷ more_digits ∷ parts) (c ∷ (cs ++ more)) (reading p l marks (at_spot s v ∷ numbers) trees)
  one_digit c s v cs more parts p l marks numbers trees h e =
      let (low, high) = digit_from_value c h in
      ends_byte 48 9 c (act digit ∷ more_digits ∷ parts) (cs ++ more) (reading p l marks (at_spot s v ∷ numbers) trees) low high
      (ends_act digit (more_digits ∷ parts) (cs ++ more) (reading (p + 1) c marks (at_spot s v ∷ numbers) trees)
      (subst (λ d. Ends G (more_digits ∷ parts) (cs ++ more) (reading (p + 1) c marks (at_spot s (v * 10 + d) ∷ numbers) trees)) (digit_is c h) e))

  further_digits : (ds more : List ℕ) (parts : List Symbol) (p l s v : ℕ) (marks numbers : List Spot) (trees : List Placed) → AllDigits 10 ds
      → ((q k : ℕ) → Ends G parts more (reading q k marks (at_spot s (digits_value_after 10 v ds) ∷ numbers) trees))
      → Ends G (more_digits ∷ parts) (ds ++ more) (reading p l marks (at_spot s v ∷ numbers) trees)
  further_digits [] more parts p l s v marks numbers trees h f =
      ends_way more_digits [] parts more (reading p l marks (at_spot s v ∷ numbers) trees) refl (later first) (f p l)
  further_digits (c ∷ cs) more parts p l s v marks numbers trees h f =
      ends_way more_digits (span 48 9 ∷ act digit ∷ more_digits ∷ []) parts (c ∷ (cs ++ more)) (reading p l marks (at_spot s v ∷ numbers) trees) refl first
      (one_digit c s v cs more parts p l marks numbers trees h.0
      (further_digits cs more parts (p + 1) c s (v * 10 + digit_value c) marks numbers trees h.1 f))

  -- digits put their number on top
  pub all_digits : (w more : List ℕ) (parts : List Symbol) (p l : ℕ) (marks numbers : List Spot) (trees : List Placed) → IsNumeral 10 w
      → ((q k s : ℕ) → Ends G parts more (reading q k marks (at_spot s (digits_value 10 w) ∷ numbers) trees))
      → Ends G (digits ∷ parts) (w ++ more) (reading p l marks numbers trees)
  all_digits [] more parts p l marks numbers trees h f = let n : 0 < 0 = h.0 in absurd (omega arith)
  all_digits (c ∷ cs) more parts p l marks numbers trees h f =
      ends_way digits (act begin_number ∷ span 48 9 ∷ act digit ∷ more_digits ∷ blanks ∷ []) parts (c ∷ (cs ++ more)) (reading p l marks numbers trees) refl first
      (ends_act begin_number (span 48 9 ∷ act digit ∷ more_digits ∷ blanks ∷ parts) (c ∷ (cs ++ more)) (reading p l marks numbers trees)
      (one_digit c p 0 cs more (blanks ∷ parts) p l marks numbers trees (h.1).0
      (further_digits cs more (blanks ∷ parts) (p + 1) c p (0 * 10 + digit_value c) marks numbers trees (h.1).1
      (λ q k. ends_blanks parts more (reading q k marks (at_spot p (digits_value 10 (c ∷ cs)) ∷ numbers) trees) (f q k p)))))

  pub atom-name : {P : Placed → Type 0} (c : ℕ) → 97 ≤ c → c ≤ 122 → ((s : ℕ) → P (named (at_spot s c))) → Atom P (c ∷ [])
  atom-name c low high r parts more p l marks numbers trees f =
      ends_way atom (act mark ∷ worded ∷ []) parts (c ∷ more) (reading p l marks numbers trees) refl (later (later first))
      (ends_act mark (worded ∷ parts) (c ∷ more) (reading p l marks numbers trees)
      (ends_way worded (variable ∷ []) parts (c ∷ more) (reading p l (at_spot p 0 ∷ marks) numbers trees) refl first
      (ends_way variable (span 97 25 ∷ act letter ∷ act use_name ∷ blanks ∷ []) parts (c ∷ more) (reading p l (at_spot p 0 ∷ marks) numbers trees) refl first
      (ends_byte 97 25 c (act letter ∷ act use_name ∷ blanks ∷ parts) more (reading p l (at_spot p 0 ∷ marks) numbers trees) low high
      (ends_act letter (act use_name ∷ blanks ∷ parts) more (reading (p + 1) c (at_spot p 0 ∷ marks) numbers trees)
      (ends_act use_name (blanks ∷ parts) more (reading (p + 1) c (at_spot p c ∷ marks) numbers trees)
      (ends_blanks parts more (reading (p + 1) c marks numbers (named (at_spot p c) ∷ trees)) (f (p + 1) c (named (at_spot p c)) (r p)))))))))

  pub factor-power : {P R : Placed → Type 0} (v w : List ℕ) → IsNumeral 10 w → ((x : Placed) (s : ℕ) → P x → R (raised x (at_spot s (digits_value 10 w)))) → Atom P v → Factor R (v ++ (94 ∷ w))
  factor-power v w n r a parts more p l marks numbers trees f =
      regrouped v w more 94 (factor ∷ parts) (reading p l marks numbers trees)
      (ends_way factor (atom ∷ exponent ∷ []) parts (v ++ (94 ∷ (w ++ more))) (reading p l marks numbers trees) refl first
      (a (exponent ∷ parts) (94 ∷ (w ++ more)) p l marks numbers trees
      (λ q k x h. ends_way exponent (span 94 0 ∷ blanks ∷ digits ∷ act raise ∷ []) parts (94 ∷ (w ++ more)) (reading q k marks numbers (x ∷ trees)) refl first
      (ends_this 94 (blanks ∷ digits ∷ act raise ∷ parts) (w ++ more) (reading q k marks numbers (x ∷ trees))
      (ends_blanks (digits ∷ act raise ∷ parts) (w ++ more) (reading (q + 1) 94 marks numbers (x ∷ trees))
      (all_digits w more (act raise ∷ parts) (q + 1) 94 marks numbers (x ∷ trees) n
      (λ q2 k2 s. ends_act raise parts more (reading q2 k2 marks (at_spot s (digits_value 10 w) ∷ numbers) (x ∷ trees))
      (f q2 k2 (raised x (at_spot s (digits_value 10 w))) (r x s h)))))))))

  -- a whole text
  pub ends_text : (w : List ℕ) → Sum G w → Ends G (text ∷ []) w at_start
  ends_text w a =
      ends_way text (blanks ∷ expr ∷ []) [] w at_start refl first
      (ends_blanks (expr ∷ []) w at_start
      (subst (λ q. Ends G (expr ∷ []) q at_start) (append-nil w)
      (whole_sum w a [] [] 0 0 [] [] [] (λ q k t h. ends_nothing (reading q k [] [] (t ∷ [])) h))))

pub record Means (limits : Limits) (in_product : Bool) (names : List ℕ) (e : Tree) (t : Placed) : Type 0 where
  pub no_fault : faults limits in_product names t ≡ []
  pub meaning : tree_in names t ≡ e

-- a divisor besides
pub record MeansDivisor (limits : Limits) (in_product : Bool) (names : List ℕ) (e : Tree) (t : Placed) : Type 0 where
  pub means : Means limits in_product names e t
  pub divides : is_divisor names t ≡ true

pub reads_text : (w names : List ℕ) (e : Tree) → Sum (Means unlimited false names e) (Means unlimited false names e) w → Reads w names e
reads_text w names e a =
    let (end, built, good) = ends_text (Means unlimited false names e) w a in
    record { placed = top_tree end.trees; has_tree = has_tree w end built; no_fault = good.no_fault; meaning = good.meaning }
