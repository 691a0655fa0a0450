-- What the bodies of sums and products have.
--   StartsBy s g                 the range of a sum or product doesn't run down from s on
--   HasValues letter from t      the tree has a value at each number from a first one on
--   HasFactors letter from t     one other than 0
--   HasBody letter g             the body of a sum has a value at each number from its lower limit on, that of a product one other than 0
use Rattle.std.specs.Prelude.{◌≡◌, ℕ, ℤ, pos, ◌-ℤ◌, ◌≤ℤ◌}
use Rattle.sg_algebra.proofs.Value.{Value, zero_value}
use Rattle.sg_spec.specs.Tree.{Tree, numeral, here, param, add, neg, mul, div, power, sum_from, prod_from}
use Rattle.sg_spec.specs.Worth.{HasWorth}

abbrev pub StartsBy : ℤ → Tree → Type 0
StartsBy s (numeral c) = ⊥
StartsBy s here = ⊥
StartsBy s param = ⊥
StartsBy s (add x y) = ⊥
StartsBy s (neg x) = ⊥
StartsBy s (mul x y) = ⊥
StartsBy s (div x y) = ⊥
StartsBy s (power x e) = ⊥
StartsBy s (sum_from from body) = (from -ℤ pos 1) ≤ℤ s
StartsBy s (prod_from from body) = (from -ℤ pos 1) ≤ℤ s

module _ {d : ℕ} (letter : Value d) where
  abbrev pub HasValues : ℤ → Tree → Type 0
  HasValues from t = (k : ℤ) → from ≤ℤ k → (v : Value d) × HasWorth letter t k v

  abbrev pub HasFactors : ℤ → Tree → Type 0
  HasFactors from t = (k : ℤ) → from ≤ℤ k → (v : Value d) × HasWorth letter t k v × ¬ (v ≡ zero_value)

  abbrev pub HasBody : Tree → Type 0
  HasBody (numeral c) = ⊥
  HasBody here = ⊥
  HasBody param = ⊥
  HasBody (add x y) = ⊥
  HasBody (neg x) = ⊥
  HasBody (mul x y) = ⊥
  HasBody (div x y) = ⊥
  HasBody (power x e) = ⊥
  HasBody (sum_from from body) = HasValues from body
  HasBody (prod_from from body) = HasFactors from body
