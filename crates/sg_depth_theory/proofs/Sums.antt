-- What soundness says of the sum at a place in the list, and of those before it.
--   over-earlier       it is a sum over those before it
--   next-built, next-starts, next-has      its body is built over those before it, has values, and its range doesn't run down
--   each_place         what holds at the first places of a list holds at each place of some of them
--   frees-have         each sum at one of the places has a value everywhere
use Rattle.std.proofs.Common.{◌≡◌, ℕ, zero, suc, ◌<◌, ℤ, pos, ◌-ℤ◌, ◌≤ℤ◌, refl, sym, ap, ◌∙◌, subst, List, [], ◌∷◌, ◌++◌, length, take, drop, get_or, arith}
use Rattle.std.proofs.Math.Seq.{take-suc}
use Rattle.std.proofs.lemmas.List.{length-take-le, get_or-take}
use Rattle.sg_algebra.specs.Coefficients.{Each}
use Rattle.sg_algebra.proofs.Value.{Value}
use Rattle.sg_spec.specs.Tree.{Tree, here, numeral, param, add, neg, mul, div, power, sum_from, prod_from}
use Rattle.sg_spec.specs.Worth.{HasWorth}
use Rattle.sg_worth_theory.proofs.Bodies.{HasBody, StartsBy}
use Rattle.sg_value_theory.proofs.TowerOf.{IsSound, IsSumOver, BuiltOver, at_places}
use Rattle.sg_value_theory.proofs.PointsOf.{HasValues, HasUnits, sum_worth}
use Rattle.sg_value_theory.proofs.Lists.{each-at}

split_at : {A : Type 0} (n : ℕ) (xs : List A) (d : A) → n < length xs → xs ≡ take n xs ++ get_or xs n d ∷ drop (suc n) xs
split_at zero [] d l = absurd (omega (arith, l))
split_at (suc n) [] d l = absurd (omega (arith, l))
split_at zero (x ∷ xs) d l = refl
split_at (suc n) (x ∷ xs) d l = ap (λ ys. x ∷ ys) (split_at n xs d (omega (arith, l)))

pub each_place : (P : Tree → Type 0) (ss : List Tree) (m : ℕ) (places : List ℕ) → ((i : ℕ) → i < m → P (get_or ss i here)) → Each (λ i. i < m) places → Each P (at_places ss places)
each_place P ss m [] k h = tt
each_place P ss m (i ∷ is) k h = (k i h.0, each_place P ss m is k h.1)

module _ {d : ℕ} (letter : Value d) where
  values-of : (ps ss : List Tree) (g : Tree) → IsSumOver ps ss g → HasBody letter g → HasValues letter g
  values-of ps ss (numeral c) o h k = absurd o
  values-of ps ss here o h k = absurd o
  values-of ps ss param o h k = absurd o
  values-of ps ss (add x y) o h k = absurd o
  values-of ps ss (neg x) o h k = absurd o
  values-of ps ss (mul x y) o h k = absurd o
  values-of ps ss (div x y) o h k = absurd o
  values-of ps ss (power x e) o h k = absurd o
  values-of ps ss (sum_from from body) o h k = sum_worth letter from body h k
  values-of ps ss (prod_from from body) o h k = absurd o

module _ {d : ℕ} (letter : Value d) (s : ℤ) (ps ss : List Tree) (sound : IsSound letter s ps ss) where
  pub units : Each (HasUnits letter) ps
  units = subst (λ (gs : List Tree). Each (HasUnits letter) gs) (sym sound.no_products) tt

  pub over-earlier : (n : ℕ) → n < length ss → IsSumOver ps (take n ss) (get_or ss n here)
  over-earlier n l = sound.over_earlier (take n ss) (drop (suc n) ss) (get_or ss n here) (split_at n ss here l)

  pub has-values : (n : ℕ) → n < length ss → HasValues letter (get_or ss n here)
  has-values n l = values-of letter ps (take n ss) (get_or ss n here) (over-earlier n l) (each-at (HasBody letter) ss n here l sound.bodies)

  module _ (n : ℕ) (inside : n < length ss) where
    abbrev before : List Tree
    before = take n ss

    pub before-length : length before ≡ n
    before-length = length-take-le n ss (let l = inside in omega (arith, l))

    pub frees-have : (places : List ℕ) → Each (λ i. i < length before) places → Each (HasValues letter) (at_places before places)
    frees-have places h =
        each_place (HasValues letter) before (length before) places
        (λ i l. let b = before-length in let w = inside in subst (λ (g : Tree). HasValues letter g) (sym (get_or-take n ss i here (omega (arith, l, b)))) (has-values i (omega (arith, l, b, w)))) h

    module _ (from : ℤ) (body : Tree) (is : get_or ss n here ≡ sum_from from body) where
      pub next-built : BuiltOver ps before body
      next-built = subst (λ (g : Tree). IsSumOver ps before g) is (over-earlier n inside)

      pub next-starts : (from -ℤ pos 1) ≤ℤ s
      next-starts = subst (StartsBy s) is (each-at (StartsBy s) ss n here inside sound.starts)

      pub next-has : (j : ℤ) → from ≤ℤ j → (v : Value d) × HasWorth letter body j v
      next-has = subst (HasBody letter) is (each-at (HasBody letter) ss n here inside sound.bodies)

      pub one-further : take (suc n) ss ≡ before ++ sum_from from body ∷ []
      one-further = take-suc ss n here inside ∙ ap (λ (g : Tree). before ++ g ∷ []) is
