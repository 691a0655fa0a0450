-- Steps of Euclid's algorithm with one factor kept.
--   IsMultiple w u x t    x is t u, up to a multiple of w
--   IsScaled x t x' t'    both are c times what they were, for a constant c with an inverse
--   IsLess x t y s x' t'  q times the second pair is taken from the first
--   IsRest u w r          r is u up to a multiple of w
use Rattle.std.specs.Prelude.{◌≡◌, ℕ}
use Rattle.sg_algebra.proofs.Divides.{Divides}
use Rattle.sg_algebra.proofs.Value.{Value, ◌*ᵛ◌, one_value}
use Rattle.sg_algebra.proofs.Polynomial.{Polynomial, PolynomialR, constant, ◌+ᵖ◌, ◌-ᵖ◌, ◌*ᵖ◌}

abbrev pub IsMultiple : {d : ℕ} → Polynomial d → Polynomial d → Polynomial d → Polynomial d → Type 0
IsMultiple {d} w u x t = Divides (PolynomialR d) w (x -ᵖ t *ᵖ u)

pub record IsScaled {d : ℕ} (x t x' t' : Polynomial d) : Type 0 where
  pub c : Value d
  pub inverse : Value d
  pub unit : inverse *ᵛ c ≡ one_value
  pub value : x' ≡ constant c *ᵖ x
  pub factor : t' ≡ constant c *ᵖ t

pub record IsLess {d : ℕ} (x t y s x' t' : Polynomial d) : Type 0 where
  pub q : Polynomial d
  pub value : x ≡ q *ᵖ y +ᵖ x'
  pub factor : t' ≡ t -ᵖ q *ᵖ s

pub record IsRest {d : ℕ} (u w r : Polynomial d) : Type 0 where
  pub q : Polynomial d
  pub is : u ≡ q *ᵖ w +ᵖ r
