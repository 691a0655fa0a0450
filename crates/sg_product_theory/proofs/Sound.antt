-- The products and sums of a command that are sound.
--   IsProduct p          a product, over a rational function
--   AreSound letter s ps ss      at most twenty products, each over a rational function that is never 0, and at most eight sums, each over
--                                the products and the sums before it; no range runs down from s on, and the bodies have values from their
--                                lower limits on
--   products-units       each product has a value other than 0 everywhere
--   sums-values          each sum has a value everywhere
--   over-earlier         each sum is one over the products and those before it
use Rattle.std.proofs.Common.{◌≡◌, ℕ, zero, suc, ◌<◌, ◌≤◌, ℤ, pos, negsuc, ◌≤ℤ◌, refl, ap, subst, List, [], ◌∷◌, ◌++◌, length, take, drop, get_or, arith}
use Rattle.sg_algebra.specs.Coefficients.{Each}
use Rattle.sg_algebra.proofs.Value.{Value}
use Rattle.sg_spec.specs.Tree.{Tree, here, numeral, param, add, neg, mul, div, power, sum_from, prod_from}
use Rattle.sg_worth_theory.proofs.Bodies.{HasBody, StartsBy}
use Rattle.sg_value_theory.proofs.TowerOf.{IsSumOver, BuiltOver}
use Rattle.sg_value_theory.proofs.PointsOf.{HasValues, HasUnits, sum_worth}
use Rattle.sg_value_theory.proofs.Lists.{each-at}
use Rattle.sg_answers_theory.proofs.OwnProducts.{product_worth}

abbrev pub IsProduct : Tree → Type 0
IsProduct (numeral c) = ⊥
IsProduct here = ⊥
IsProduct param = ⊥
IsProduct (add x y) = ⊥
IsProduct (neg x) = ⊥
IsProduct (mul x y) = ⊥
IsProduct (div x y) = ⊥
IsProduct (power x e) = ⊥
IsProduct (sum_from from body) = ⊥
IsProduct (prod_from from body) = BuiltOver [] [] body

pub record AreSound {d : ℕ} (letter : Value d) (s : ℤ) (ps ss : List Tree) : Type 0 where
  pub few_products : length ps ≤ 20
  pub few_sums : length ss ≤ 8
  pub not_low : negsuc 1000 ≤ℤ s
  pub not_high : s ≤ℤ pos 1000
  pub products_are : Each IsProduct ps
  pub products_start : Each (StartsBy s) ps
  pub products_have : Each (HasBody letter) ps
  pub sums_start : Each (StartsBy s) ss
  pub sums_have : Each (HasBody letter) ss
  pub over_earlier : (before after : List Tree) (g : Tree) → ss ≡ before ++ g ∷ after → IsSumOver ps before g

split_at : {A : Type 0} (n : ℕ) (xs : List A) (d : A) → n < length xs → xs ≡ take n xs ++ get_or xs n d ∷ drop (suc n) xs
split_at zero [] d l = absurd (omega (arith, l))
split_at (suc n) [] d l = absurd (omega (arith, l))
split_at zero (x ∷ xs) d l = refl
split_at (suc n) (x ∷ xs) d l = ap (λ ys. x ∷ ys) (split_at n xs d (omega (arith, l)))

module _ {d : ℕ} (letter : Value d) where
  units-of : (g : Tree) → IsProduct g → HasBody letter g → HasUnits letter g
  units-of (numeral c) o h = absurd o
  units-of here o h = absurd o
  units-of param o h = absurd o
  units-of (add x y) o h = absurd o
  units-of (neg x) o h = absurd o
  units-of (mul x y) o h = absurd o
  units-of (div x y) o h = absurd o
  units-of (power x e) o h = absurd o
  units-of (sum_from from body) o h = absurd o
  units-of (prod_from from body) o h = product_worth letter from body h

  values-of : (ps ss : List Tree) (g : Tree) → IsSumOver ps ss g → HasBody letter g → HasValues letter g
  values-of ps ss (numeral c) o h = absurd o
  values-of ps ss here o h = absurd o
  values-of ps ss param o h = absurd o
  values-of ps ss (add x y) o h = absurd o
  values-of ps ss (neg x) o h = absurd o
  values-of ps ss (mul x y) o h = absurd o
  values-of ps ss (div x y) o h = absurd o
  values-of ps ss (power x e) o h = absurd o
  values-of ps ss (sum_from from body) o h = sum_worth letter from body h
  values-of ps ss (prod_from from body) o h = absurd o

  each-unit : (ps : List Tree) → Each IsProduct ps → Each (HasBody letter) ps → Each (HasUnits letter) ps
  each-unit [] o h = tt
  each-unit (p ∷ ps) o h = (units-of p o.0 h.0, each-unit ps o.1 h.1)

module _ {d : ℕ} (letter : Value d) (s : ℤ) (ps ss : List Tree) (sound : AreSound letter s ps ss) where
  pub products-units : Each (HasUnits letter) ps
  products-units = each-unit letter ps sound.products_are sound.products_have

  pub over-earlier : (m : ℕ) → m < length ss → IsSumOver ps (take m ss) (get_or ss m here)
  over-earlier m l = sound.over_earlier (take m ss) (drop (suc m) ss) (get_or ss m here) (split_at m ss here l)

  pub sums-values : (m : ℕ) → m < length ss → HasValues letter (get_or ss m here)
  sums-values m l = values-of letter ps (take m ss) (get_or ss m here) (over-earlier m l) (each-at (HasBody letter) ss m here l sound.sums_have)

  module _ (m : ℕ) (inside : m < length ss) (from : ℤ) (body : Tree) (is : get_or ss m here ≡ sum_from from body) where
    pub next-built : BuiltOver ps (take m ss) body
    next-built = subst (IsSumOver ps (take m ss)) is (over-earlier m inside)

    pub next-starts : StartsBy s (sum_from from body)
    next-starts = subst (StartsBy s) is (each-at (StartsBy s) ss m here inside sound.sums_start)

    pub next-has : HasBody letter (sum_from from body)
    next-has = subst (HasBody letter) is (each-at (HasBody letter) ss m here inside sound.sums_have)
