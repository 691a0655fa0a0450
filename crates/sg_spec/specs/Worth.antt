-- The value of an expression in a field of values of any depth, where the parameter is the value `letter`.
--   IsFolded op start term from n v    v is start, joined by op with n terms in turn, those from the place `from` on
--   HasWorth letter t k v              t has the value v where the variable is k; a quotient has one where the value of its divisor isn't 0
use Rattle.std.specs.Prelude.{◌≡◌, ℕ, zero, suc, ℤ, pos, ◌+ℤ◌}
use Rattle.sg_algebra.proofs.Ring.{pow}
use Rattle.sg_algebra.proofs.Value.{Value, ◌+ᵛ◌, ◌*ᵛ◌, ◌/ᵛ◌, neg_value, zero_value, one_value}
use Rattle.sg_algebra.proofs.ValueField.{ValueR}
use Rattle.sg_algebra.proofs.Rational.{whole_value}
use Rattle.sg_spec.specs.Tree.{Tree, numeral, here, param, add, neg, mul, div, power, sum_from, prod_from}
use Rattle.sg_spec.specs.Value.{how_many}

abbrev pub IsFolded : {B : Type 0} → (B → B → B) → B → (ℤ → B → Type 0) → ℤ → ℕ → B → Type 0
IsFolded op start term from zero v = v ≡ start
IsFolded {B} op start term from (suc n) v = (u : B) × (w : B) × IsFolded op start term from n u × term (from +ℤ pos n) w × (v ≡ op u w)

module _ {d : ℕ} (letter : Value d) where
  abbrev pub HasWorth : Tree → ℤ → Value d → Type 0
  HasWorth (numeral c) k v = v ≡ whole_value d c
  HasWorth here k v = v ≡ whole_value d k
  HasWorth param k v = v ≡ letter
  HasWorth (add x y) k v = (u : Value d) × (w : Value d) × HasWorth x k u × HasWorth y k w × (v ≡ u +ᵛ w)
  HasWorth (neg x) k v = (u : Value d) × HasWorth x k u × (v ≡ neg_value u)
  HasWorth (mul x y) k v = (u : Value d) × (w : Value d) × HasWorth x k u × HasWorth y k w × (v ≡ u *ᵛ w)
  HasWorth (div x y) k v = (u : Value d) × (w : Value d) × HasWorth x k u × HasWorth y k w × ¬ (w ≡ zero_value) × (v ≡ u /ᵛ w)
  HasWorth (power x e) k v = (u : Value d) × HasWorth x k u × (v ≡ pow (ValueR d) u e)
  HasWorth (sum_from from body) k v = IsFolded ◌+ᵛ◌ zero_value (HasWorth body) from (how_many from k) v
  HasWorth (prod_from from body) k v = IsFolded ◌*ᵛ◌ one_value (HasWorth body) from (how_many from k) v
