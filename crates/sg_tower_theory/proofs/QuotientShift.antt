-- The shift of the fractions over a domain with a shift.
--   quotientH     σ(p)/σ(q), a map of rings
--   quotient-on   fractions over one shift as their numerators
--   quotient_keeps    no fraction but zero goes to zero
use Rattle.sg_algebra.specs.Ring.{Domain, Hom}
use Rattle.sg_algebra.proofs.Quotient.{Quotient, ◌≃◌, QuotientR, whole_quotient, num_zero, zero_num}
use Rattle.sg_algebra.proofs.ShiftValue.{shift_quotient, shift_quotient_cong, shift_quotient-add, shift_quotient-mul, shift_quotient-one}

module _ (D : Domain) (σ : Hom D.R D.R) (keeps : (x : D.R.A) → ¬ (D.R.◌≈◌ x D.R.O) → ¬ (D.R.◌≈◌ (σ.on x) D.R.O)) where
  open D use {R}
  open R use {A, ◌≈◌, O, I, rfl, mul_cong}

  abbrev pub quotientH : Hom (QuotientR D) (QuotientR D)
  quotientH = record { on = shift_quotient D σ keeps; on_cong = shift_quotient_cong D σ keeps; on-add = shift_quotient-add D σ keeps; on-mul = shift_quotient-mul D σ keeps; on-one = shift_quotient-one D σ keeps }

  pub quotient-on : (x : A) → ◌≃◌ D (whole_quotient D (σ.on x)) (shift_quotient D σ keeps (whole_quotient D x))
  quotient-on x = record { cross = mul_cong rfl σ.on-one }

  pub quotient_keeps : (x : Quotient D) → ¬ (◌≃◌ D x (whole_quotient D O)) → ¬ (◌≃◌ D (shift_quotient D σ keeps x) (whole_quotient D O))
  quotient_keeps x n e = keeps x.num (λ z. n (num_zero D z)) (zero_num D e)
