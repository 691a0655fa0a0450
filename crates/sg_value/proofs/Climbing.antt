-- From a part of a tree up to the tree.
--   evaluates-given    the same answer for equal numbers
--   two-climbs         from below to the middle, and from there up
use Rattle.std.specs.Prelude.{◌≡◌, ℕ, ◌-◌, ℤ}
use Rattle.std.proofs.Common.{sym, subst}
use Rattle.sg_spec.specs.Tree.{Tree}
use Rattle.sg_value.specs.declared.step.Outcome.{Outcome}
use Rattle.sg_value.specs.Answer.{Evaluates}
use Rattle.sg_value.specs.Left.{left_part}
use Rattle.sg_value.proofs.LeftParts.{Middle}

pub evaluates-given : (out : Outcome) (t : Tree) (n n' k k' : ℤ) → n' ≡ n → k' ≡ k → Evaluates out t n' k' → Evaluates out t n k
evaluates-given out t n n' k k' en ek a =
    let a' = subst (λ (i : ℤ). Evaluates out t i k') en a in
    subst (λ (i : ℤ). Evaluates out t n i) ek a'

pub two-climbs : (t m : Tree) (half count : ℕ) (below between out : Outcome) (n n' k k' : ℤ) → Middle t m half count → m ≡ left_part t half → n' ≡ n → k' ≡ k
    → (Evaluates below (left_part m (count - half)) n' k' → Evaluates between m n' k')
    → (Evaluates between (left_part t half) n' k' → Evaluates out t n' k')
    → Evaluates below (left_part t count) n k → Evaluates out t n k
two-climbs t m half count below between out n n' k k' mid is en ek lower upper a =
    let a' = evaluates-given below (left_part t count) n' n k' k (sym en) (sym ek) a in
    let low = lower (subst (λ (u : Tree). Evaluates below u n' k') (sym mid.rest) a') in
    evaluates-given out t n n' k k' en ek (upper (subst (λ (u : Tree). Evaluates between u n' k') is low))
