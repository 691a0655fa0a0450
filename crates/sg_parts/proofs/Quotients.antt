-- Exact quotients of whole numbers that fit 128 bits fit them.
use Rattle.std.proofs.Common.{◌≡◌, ◌≢◌, ◌%◌, ◌^◌, ◌<◌, ℤ, pos, unsigned_abs, arith, FitsSigned}
use Rattle.std.specs.Int.{w128}
use Rattle.std.proofs.lemmas.Int.{fits_signed_from_abs}
use Rattle.std.specs.Int.RustNames.{int_div}
use Rattle.sg_num.proofs.WholeSteps.{whole_quotient}
use Rattle.sg_parts.proofs.Dividing.{small_quotient}

pub small_fits : (a : ℤ) → unsigned_abs a < 2 ^ 127 → FitsSigned w128 a
small_fits a h = fits_signed_from_abs w128 a (omega (arith, h))

pub quotient_fits : (a b : ℤ) → b ≢ pos 0 → unsigned_abs a < 2 ^ 127 → unsigned_abs a % unsigned_abs b ≡ 0 → FitsSigned w128 (int_div a b)
quotient_fits a b ne h e = small_fits (int_div a b) (let q = small_quotient (int_div a b) b a ne (whole_quotient a b e) in omega (arith, q, h))
