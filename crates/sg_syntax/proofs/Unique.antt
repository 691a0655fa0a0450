-- A text has at most one tree.
--   state_is          the state that a text ends in is what the machine makes
--   HasTree-unique    two placed trees of one text are equal
--   Reads-unique      two trees that a text reads as are equal
use Rattle.std.specs.Prelude.{◌≡◌, ℕ, List, [], ◌∷◌}
use Rattle.std.proofs.Common.{sym, ap, ◌∙◌}
use Rattle.sg_spec.specs.Tree.{Tree}
use Rattle.sg_spec.specs.Grammar.{text as start, Builds}
use Rattle.sg_syntax.specs.Table.{text}
use Rattle.sg_spec.specs.Syntax.{Placed, State, at_start, after_byte, after_action, top_tree}
use Rattle.sg_spec.specs.Reading.{tree_in, HasTree, Reads}
use Rattle.sg_syntax.specs.Stack.{stack_after, state_after, finished}
use Rattle.sg_syntax.proofs.Same.{made_is}

abbrev pub made : List ℕ → State
made w = finished after_action (stack_after w (text ∷ [])) (state_after after_byte after_action w (text ∷ []) at_start)

pub state_is : (w : List ℕ) (y : State) → Builds after_byte after_action (start ∷ []) w at_start y → made w ≡ y
state_is w y s = made_is after_byte after_action w s

pub tree_is : (w : List ℕ) (t : Placed) → HasTree w t → top_tree (made w).trees ≡ t
tree_is w t h = ap (λ q. top_tree q.trees) (state_is w h.end h.built) ∙ ap top_tree h.left

pub HasTree-unique : (w : List ℕ) (s t : Placed) → HasTree w s → HasTree w t → s ≡ t
HasTree-unique w s t h k = sym (tree_is w s h) ∙ tree_is w t k

pub Reads-unique : (w names : List ℕ) (e f : Tree) → Reads w names e → Reads w names f → e ≡ f
Reads-unique w names e f h k = sym h.meaning ∙ (ap (tree_in names) (HasTree-unique w h.placed k.placed h.has_tree k.has_tree) ∙ k.meaning)
