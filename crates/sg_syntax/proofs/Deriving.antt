-- What the table of the machine writes and builds, in the words of the grammar.
--   Spells, Builds                     as for the grammar
--   IsText, IsFront, IsSyntaxFault     as for the grammar
use Rattle.std.specs.Prelude.{◌≡◌, ℕ, ◌+◌, ◌≤◌, ◌<◌, ◌⊎◌, Bool, true, false, List, [], ◌∷◌, ◌++◌, length, take}
use Rattle.sg_spec.specs.Grammar.{Action, IsOneOf}
use Rattle.sg_syntax.specs.Table.{Symbol, span, act, text, rules}

pub data Spells : List Symbol → List ℕ → Type 0 where
  nothing : Spells [] []
  one_byte : {low more : ℕ} {parts : List Symbol} {w : List ℕ} (b : ℕ) → low ≤ b → b ≤ low + more → Spells parts w → Spells (span low more ∷ parts) (b ∷ w)
  by_rule : {part : Symbol} {parts : List Symbol} {w : List ℕ} (way : List Symbol) → IsOneOf way (rules part) → Spells (way ++ parts) w → Spells (part ∷ parts) w

abbrev pub is_act : Symbol → Bool
is_act (act a) = true
is_act part = false

-- from the state x to the state y
pub data Builds {State : Type 0} (after_byte : ℕ → State → State) (after_action : Action → State → State) : List Symbol → List ℕ → State → State → Type 0 where
  none_left : {x : State} → Builds after_byte after_action [] [] x x
  eats : {low more : ℕ} {parts : List Symbol} {w : List ℕ} {x y : State} (b : ℕ) → low ≤ b → b ≤ low + more
      → Builds after_byte after_action parts w (after_byte b x) y → Builds after_byte after_action (span low more ∷ parts) (b ∷ w) x y
  acts : {a : Action} {parts : List Symbol} {w : List ℕ} {x y : State}
      → Builds after_byte after_action parts w (after_action a x) y → Builds after_byte after_action (act a ∷ parts) w x y
  opens_by : {part : Symbol} {parts : List Symbol} {w : List ℕ} {x y : State} (way : List Symbol) → is_act part ≡ false → IsOneOf way (rules part)
      → Builds after_byte after_action (way ++ parts) w x y → Builds after_byte after_action (part ∷ parts) w x y

abbrev pub IsText : List ℕ → Type 0
IsText w = Spells (text ∷ []) w

abbrev pub IsFront : List ℕ → Type 0
IsFront u = (rest : List ℕ) × IsText (u ++ rest)

-- p is the least number for which the first p + 1 bytes are no front; the length, where the text is a front and no text
pub record IsSyntaxFault (w : List ℕ) (p : ℕ) : Type 0 where
  pub before : (q : ℕ) → q < p → IsFront (take (q + 1) w)
  pub fault : ((p < length w) × (IsFront (take (p + 1) w) → ⊥)) ⊎ ((p ≡ length w) × (IsText w → ⊥))
