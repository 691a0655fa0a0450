-- When products agree with one another in values.
--   AgreeInParameter e g      for each k from a point on, and for it for all n from a bound on, the two expressions have one value
--   power_tree, powers_tree   a product of powers of expressions with whole exponents
--   IsRational parameter e    built from numerals, the variable and the operations, and the parameter where it is allowed: a rational
--                             function
--   Same parameter e g        they agree: from a point on, or with a parameter as above
--   IsMatch parameter qs p es e     the product of the powers of the qs, by es, and of p, by e, agrees with a rational function, and e
--                                   isn't 0
--   HasNoMatch                so p is free over qs
--   IsExpressedOver           so p is expressed over them: there is a match in which p has the exponent 1
--   IsDependentOver           p is neither
use Rattle.std.specs.Prelude.{◌≡◌, ◌≢◌, suc, ℤ, pos, negsuc, ◌≤ℤ◌, Bool, true, false, IsTrue, List, [], ◌∷◌, length}
use Rattle.sg_spec.specs.Tree.{Tree, numeral, here, param, add, neg, mul, div, power, sum_from, prod_from}
use Rattle.sg_spec.specs.Value.{val, SameValue}
use Rattle.sg_spec.specs.Telescoping.{Agree}

pub record AgreeInParameter (e g : Tree) : Type 0 where
  pub from : ℤ
  pub same : (k : ℤ) → from ≤ℤ k → (bound : ℤ) × ((n : ℤ) → bound ≤ℤ n → SameValue (val e n k) (val g n k))

abbrev pub Same : Bool → Tree → Tree → Type 0
Same false e g = Agree e g
Same true e g = AgreeInParameter e g

abbrev pub power_tree : Tree → ℤ → Tree
power_tree p (pos e) = power p e
power_tree p (negsuc e) = div (numeral (pos 1)) (power p (suc e))

abbrev pub powers_tree : List Tree → List ℤ → Tree
powers_tree [] es = numeral (pos 1)
powers_tree (p ∷ ps) [] = numeral (pos 1)
powers_tree (p ∷ ps) (e ∷ es) = mul (power_tree p e) (powers_tree ps es)

abbrev pub IsRational : Bool → Tree → Type 0
IsRational parameter (numeral c) = Unit {0}
IsRational parameter here = Unit {0}
IsRational parameter param = IsTrue parameter
IsRational parameter (add x y) = IsRational parameter x × IsRational parameter y
IsRational parameter (neg x) = IsRational parameter x
IsRational parameter (mul x y) = IsRational parameter x × IsRational parameter y
IsRational parameter (div x y) = IsRational parameter x × IsRational parameter y
IsRational parameter (power x e) = IsRational parameter x
IsRational parameter (sum_from from body) = ⊥
IsRational parameter (prod_from from body) = ⊥

pub record IsMatch (parameter : Bool) (qs : List Tree) (p : Tree) (es : List ℤ) (e : ℤ) : Type 0 where
  pub sized : length es ≡ length qs
  pub some : e ≢ pos 0
  pub ratio : Tree
  pub rational : IsRational parameter ratio
  pub same : Same parameter (mul (powers_tree qs es) (power_tree p e)) ratio

abbrev pub HasNoMatch : Bool → List Tree → Tree → Type 0
HasNoMatch parameter qs p = (es : List ℤ) (e : ℤ) → ¬ IsMatch parameter qs p es e

abbrev pub IsExpressedOver : Bool → List Tree → Tree → Type 0
IsExpressedOver parameter qs p = (es : List ℤ) × IsMatch parameter qs p es (pos 1)

abbrev pub IsDependentOver : Bool → List Tree → Tree → Type 0
IsDependentOver parameter qs p = ¬ HasNoMatch parameter qs p × ¬ IsExpressedOver parameter qs p
