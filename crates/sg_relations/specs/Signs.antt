-- The signs of fractions.
--   IsAbove x       x is a fraction above 0
--   HasSign b x     x is below 0 where b is true, and above 0 where it is false
use Rattle.std.specs.Prelude.{◌≡◌, ℕ, ◌<◌, Bool, true, false, pos}
use Rattle.sg_algebra.proofs.Value.{Value, neg_value, fraction_value}

pub record IsAbove (x : Value 0) : Type 0 where
  pub upper : ℕ
  pub lower : ℕ
  pub upper_some : 0 < upper
  pub lower_some : 0 < lower
  pub is : x ≡ fraction_value (pos upper) lower

abbrev pub HasSign : Bool → Value 0 → Type 0
HasSign true x = IsAbove (neg_value x)
HasSign false x = IsAbove x
