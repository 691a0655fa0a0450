-- The answers with products and with the parameter, as statements on values.
--   HasNoAntidifference es f  `none over`: no expression over the products and sums of the expressions es telescopes f from any point on;
--                             without products a sum may stand in a divisor
--   IsNewSum ps before g      `free g` of a sum: no expression over the products ps and the sums before it agrees with it from any point on
--   IsNewProduct before p     no expression over the products before agrees with the product p from any point on
--   HasNoneTo f d             `none to order d`: there is no recurrence of an order up to d
--   IsLeast f J               there is none of an order below J
use Rattle.std.specs.Prelude.{ℕ, ◌<◌, ◌≤◌, false, List, []}
use Rattle.sg_spec.specs.Tree.{Tree}
use Rattle.sg_spec.specs.Closed.{IsOverOwn}
use Rattle.sg_spec.specs.Generators.{BuiltOver, prods, sums}
use Rattle.sg_spec.specs.Telescoping.{Tele, Agree}
use Rattle.sg_answers_theory.specs.Recurrences.{NoRec}

abbrev pub HasNoAntidifference : List Tree → Tree → Type 0
HasNoAntidifference es f = (e : Tree) → IsOverOwn (prods es) (sums es) e → ¬ Tele e f

abbrev pub IsNewSum : List Tree → List Tree → Tree → Type 0
IsNewSum ps before g = (e : Tree) → IsOverOwn ps before e → ¬ Agree e g

abbrev pub IsNewProduct : List Tree → Tree → Type 0
IsNewProduct before p = (e : Tree) → BuiltOver (record { parameter = false; products = before; sums = [] }) e → ¬ Agree e p

abbrev pub HasNoneTo : Tree → ℕ → Type 0
HasNoneTo f d = (J : ℕ) → J ≤ d → NoRec f J

abbrev pub IsLeast : Tree → ℕ → Type 0
IsLeast f J = (i : ℕ) → i < J → NoRec f i
