-- Points at which the products and sums of a tower have the values of expressions, and elements that have those of an expression.
--   AreValues letter k gens ts    the expressions gens have at k the values ts
--   IsPointOf letter ps ss p      the products and sums have at p the values of the expressions ps and ss
--   Agrees letter f p x e         the element x has at p each value of the expression e there
--   Expresses letter f p x e      the expression e has at p each value of the element x there
use Rattle.std.proofs.Common.{ℕ, suc, ℤ, List, [], ◌∷◌}
use Rattle.sg_algebra.proofs.Value.{Value}
use Rattle.sg_spec.specs.Tree.{Tree}
use Rattle.sg_tower_theory.proofs.Formal.{Formal, Element}
use Rattle.sg_value_theory.proofs.Elements.{Point, HasElement}
use Rattle.sg_spec.specs.Worth.{HasWorth}

module _ {d : ℕ} (letter : Value d) where
  abbrev pub AreValues : ℤ → List Tree → (ℕ → Value d) → Type 0
  AreValues k [] ts = Unit {0}
  AreValues k (g ∷ gs) ts = HasWorth letter g k (ts 0) × AreValues k gs (λ i. ts (suc i))

  abbrev pub IsPointOf : List Tree → List Tree → Point d → Type 0
  IsPointOf ps ss p = AreValues p.variable ps p.products × AreValues p.variable ss p.sums

  abbrev pub Agrees : (f : Formal d) → Point d → Element f → Tree → Type 0
  Agrees f p x e = (v : Value d) → HasWorth letter e p.variable v → HasElement f p x v

  abbrev pub Expresses : (f : Formal d) → Point d → Element f → Tree → Type 0
  Expresses f p x e = (v : Value d) → HasElement f p x v → HasWorth letter e p.variable v
