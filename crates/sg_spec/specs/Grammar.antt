-- The grammar of texts. A text is a row of bytes; blanks may stand after each token, and once at the head.
--   Action          what is noted or made while a text is read from left to right; Syntax says what each one does
--   Symbol          a part of a text: one byte (`span low more`: from low to low + more), an action, or a named part
--   token           the bytes of a token, the blanks after it, and further parts
--   rules           for each named part the ways to write it, each a row of parts
--   IsOneOf         an element of a list
--   Spells          these parts, one after another, may be written as these bytes
--   Builds          the same, with what the bytes and the actions make of a state
--   IsText          a text
--   IsFront         the first bytes of some text
--   IsSyntaxFault   the place at which a text stops being one
use Rattle.std.specs.Prelude.{◌≡◌, ℕ, ◌+◌, ◌≤◌, ◌<◌, ◌⊎◌, Bool, true, false, List, [], ◌∷◌, ◌++◌, length, take, codes}

pub data Action : Type 0 where
  mark : Action
  letter : Action
  minus_sign : Action
  begin_number : Action
  digit : Action
  use_number : Action
  use_name : Action
  negate : Action
  add_up : Action
  subtract : Action
  multiply : Action
  divide : Action
  raise : Action
  make_sum : Action
  make_product : Action
  make_harmonic : Action
  make_harmonic_of_order : Action
  make_factorial : Action
  make_binomial : Action
  make_power : Action

pub data Symbol : Type 0 where
  span : ℕ → ℕ → Symbol
  act : Action → Symbol
  blanks : Symbol
  text : Symbol
  expr : Symbol
  more_terms : Symbol
  term : Symbol
  more_factors : Symbol
  factor : Symbol
  exponent : Symbol
  atom : Symbol
  worded : Symbol
  variable : Symbol
  call : Symbol
  bounds_and_body : Symbol
  name_and_order : Symbol
  one_name : Symbol
  expr_and_name : Symbol
  const_and_name : Symbol
  order : Symbol
  int : Symbol
  const : Symbol
  divisor : Symbol
  name : Symbol
  digits : Symbol
  more_digits : Symbol

abbrev pub token : List ℕ → List Symbol → List Symbol
token [] parts = blanks ∷ parts
token (c ∷ w) parts = span c 0 ∷ token w parts

abbrev pub rules : Symbol → List (List Symbol)
rules (span low more) = []
rules (act a) = [] ∷ []
rules blanks = (span 32 0 ∷ blanks ∷ []) ∷ [] ∷ []
rules text = (blanks ∷ expr ∷ []) ∷ []
rules expr = token (codes "-") (term ∷ act negate ∷ more_terms ∷ []) ∷ (term ∷ more_terms ∷ []) ∷ []
rules more_terms = token (codes "+") (term ∷ act add_up ∷ more_terms ∷ [])
    ∷ token (codes "-") (term ∷ act subtract ∷ more_terms ∷ [])
    ∷ []
    ∷ []
rules term = (factor ∷ more_factors ∷ []) ∷ []
rules more_factors = token (codes "*") (factor ∷ act multiply ∷ more_factors ∷ [])
    ∷ token (codes "/") (act mark ∷ factor ∷ act divide ∷ more_factors ∷ [])
    ∷ []
    ∷ []
rules factor = (atom ∷ exponent ∷ []) ∷ []
rules exponent = token (codes "^") (digits ∷ act raise ∷ []) ∷ [] ∷ []
rules atom = (digits ∷ act use_number ∷ []) ∷ token (codes "(") (expr ∷ token (codes ")") []) ∷ (act mark ∷ worded ∷ []) ∷ []
rules worded = (variable ∷ []) ∷ (call ∷ []) ∷ []
rules variable = (span 97 25 ∷ act letter ∷ act use_name ∷ blanks ∷ []) ∷ []
rules call = token (codes "sum") (bounds_and_body ∷ act make_sum ∷ [])
    ∷ token (codes "prod") (bounds_and_body ∷ act make_product ∷ [])
    ∷ token (codes "H") (name_and_order ∷ [])
    ∷ token (codes "fact") (one_name ∷ act make_factorial ∷ [])
    ∷ token (codes "binom") (expr_and_name ∷ act make_binomial ∷ [])
    ∷ token (codes "pow") (const_and_name ∷ act make_power ∷ [])
    ∷ []
rules bounds_and_body = token (codes "(") (name ∷ token (codes ",") (act mark ∷ int ∷ token (codes ",") (name ∷ token (codes ",") (expr ∷ token (codes ")") [])))) ∷ []
rules name_and_order = token (codes "(") (name ∷ order ∷ token (codes ")") []) ∷ []
rules one_name = token (codes "(") (name ∷ token (codes ")") []) ∷ []
rules expr_and_name = token (codes "(") (act mark ∷ expr ∷ token (codes ",") (name ∷ token (codes ")") [])) ∷ []
rules const_and_name = token (codes "(") (const ∷ token (codes ",") (name ∷ token (codes ")") [])) ∷ []
rules order = token (codes ",") (digits ∷ act make_harmonic_of_order ∷ []) ∷ (act make_harmonic ∷ []) ∷ []
rules int = token (codes "-") (act minus_sign ∷ digits ∷ []) ∷ (digits ∷ []) ∷ []
rules const = token (codes "-") (digits ∷ act use_number ∷ divisor ∷ act negate ∷ []) ∷ (digits ∷ act use_number ∷ divisor ∷ []) ∷ []
rules divisor = token (codes "/") (act mark ∷ digits ∷ act use_number ∷ act divide ∷ []) ∷ [] ∷ []
rules name = (act mark ∷ span 97 25 ∷ act letter ∷ blanks ∷ []) ∷ []
rules digits = (act begin_number ∷ span 48 9 ∷ act digit ∷ more_digits ∷ blanks ∷ []) ∷ []
rules more_digits = (span 48 9 ∷ act digit ∷ more_digits ∷ []) ∷ [] ∷ []

pub data IsOneOf {A : Type 0} (x : A) : List A → Type 0 where
  first : {xs : List A} → IsOneOf x (x ∷ xs)
  later : {y : A} {xs : List A} → IsOneOf x xs → IsOneOf x (y ∷ xs)

pub data Spells : List Symbol → List ℕ → Type 0 where
  nothing : Spells [] []
  one_byte : {low more : ℕ} {parts : List Symbol} {w : List ℕ} (b : ℕ) → low ≤ b → b ≤ low + more → Spells parts w → Spells (span low more ∷ parts) (b ∷ w)
  by_rule : {part : Symbol} {parts : List Symbol} {w : List ℕ} (way : List Symbol) → IsOneOf way (rules part) → Spells (way ++ parts) w → Spells (part ∷ parts) w

abbrev pub is_act : Symbol → Bool
is_act (act a) = true
is_act part = false

-- from the state x to the state y
pub data Builds {State : Type 0} (after_byte : ℕ → State → State) (after_action : Action → State → State) : List Symbol → List ℕ → State → State → Type 0 where
  none_left : {x : State} → Builds after_byte after_action [] [] x x
  eats : {low more : ℕ} {parts : List Symbol} {w : List ℕ} {x y : State} (b : ℕ) → low ≤ b → b ≤ low + more
      → Builds after_byte after_action parts w (after_byte b x) y → Builds after_byte after_action (span low more ∷ parts) (b ∷ w) x y
  acts : {a : Action} {parts : List Symbol} {w : List ℕ} {x y : State}
      → Builds after_byte after_action parts w (after_action a x) y → Builds after_byte after_action (act a ∷ parts) w x y
  opens_by : {part : Symbol} {parts : List Symbol} {w : List ℕ} {x y : State} (way : List Symbol) → is_act part ≡ false → IsOneOf way (rules part)
      → Builds after_byte after_action (way ++ parts) w x y → Builds after_byte after_action (part ∷ parts) w x y

abbrev pub IsText : List ℕ → Type 0
IsText w = Spells (text ∷ []) w

abbrev pub IsFront : List ℕ → Type 0
IsFront u = (rest : List ℕ) × IsText (u ++ rest)

-- p is the least number for which the first p + 1 bytes are no front; the length, where the text is a front and no text
pub record IsSyntaxFault (w : List ℕ) (p : ℕ) : Type 0 where
  pub before : (q : ℕ) → q < p → IsFront (take (q + 1) w)
  pub fault : ((p < length w) × (IsFront (take (p + 1) w) → ⊥)) ⊎ ((p ≡ length w) × (IsText w → ⊥))
