-- What the expressions of a command have where none of their parts is 0.
--   IsSound letter a es          each expression has a value from a on, and so have the bodies of all sums and products; from the start on no range runs down
use Rattle.std.specs.Prelude.{ℕ, ℤ, List}
use Rattle.sg_algebra.specs.Coefficients.{Each}
use Rattle.sg_algebra.proofs.Value.{Value}
use Rattle.sg_spec.specs.Tree.{Tree}
use Rattle.sg_spec.specs.Generators.{sums, prods, start}
use Rattle.sg_worth_theory.proofs.Bodies.{HasValues, HasBody, StartsBy}

module _ {d : ℕ} (letter : Value d) where
  pub record IsSound (a : ℤ) (es : List Tree) : Type 0 where
    pub values : Each (HasValues letter a) es
    pub sums_have : Each (HasBody letter) (sums es)
    pub products_have : Each (HasBody letter) (prods es)
    pub sums_start : Each (StartsBy (start es a)) (sums es)
    pub products_start : Each (StartsBy (start es a)) (prods es)
