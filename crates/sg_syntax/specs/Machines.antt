-- What the machine stands for.
--   stack_of, state_of     its stack and its state
--   topped                 the stack with the byte that was taken off; nothing, where there was none
--   Advances               the stack and the state before and after a byte
--   HasCappedTree          the placed tree of a text, with capped numbers
--   IsParseFault           why no tree was made
use Rattle.std.specs.Prelude.{◌≡◌, ℕ, List, [], ◌∷◌, Option, Some, None}
use Rattle.sg_spec.specs.Grammar.{text as start, Builds, IsSyntaxFault}
use Rattle.sg_syntax.specs.Table.{Symbol as Part, span}
use Rattle.sg_spec.specs.Syntax.{Placed, State, at_start, after_byte, top_tree}
use Rattle.sg_syntax.specs.Stack.{next, lead, acted}
use Rattle.sg_syntax.specs.Parts.{parts_of}
use Rattle.sg_syntax.specs.Drafts.{draft_of, capped_action}
use Rattle.sg_syntax.specs.declared.machine.Machine.{Machine}
use Rattle.sg_syntax.specs.declared.fault.SyntaxFault.{SyntaxFault}
use Rattle.sg_syntax.specs.declared.fault.SyntaxFault.TheVariants.{Syntax, Memory}

abbrev pub stack_of : Machine → List Part
stack_of m = parts_of m.stack.items

abbrev pub state_of : Machine → State
state_of m = draft_of m.draft

abbrev pub topped : Option (ℕ × ℕ) → List Part → List Part
topped None parts = []
topped (Some r) parts = span r.0 r.1 ∷ parts

-- a byte was taken
pub record Advances (b : ℕ) (p : List Part) (s : State) (q : List Part) (t : State) : Type 0 where
  pub stack : q ≡ next b p
  pub state : t ≡ after_byte b (acted capped_action (lead p) b p s)

-- the placed tree of a text, with capped numbers
pub record HasCappedTree (w : List ℕ) (t : Placed) : Type 0 where
  pub end : State
  pub built : Builds after_byte capped_action (start ∷ []) w at_start end
  pub on_top : top_tree end.trees ≡ t

-- what makes the machine give up: the place at which the text stops being one, or out of memory
abbrev pub IsParseFault : List ℕ → SyntaxFault → Type 0
IsParseFault w (Syntax p) = IsSyntaxFault w p
IsParseFault w (Memory e) = Unit {0}
