-- Whole numbers among the values of any depth.
--   whole_value-add, whole_value-mul, whole_value-neg     their sums, products and opposites
use Rattle.std.proofs.Common.{◌≡◌, ℕ, zero, suc, refl, sym, ap, ap₂, ◌∙◌, ℤ, pos, negsuc, neg_ℤ, ◌+ℤ◌, ◌*ℤ◌}
use Rattle.sg_algebra.proofs.Ring.{neg_neg, neg_O}
use Rattle.sg_algebra.proofs.Value.{◌+ᵛ◌, ◌*ᵛ◌, neg_value}
use Rattle.sg_algebra.proofs.ValueField.{ValueR}
use Rattle.sg_algebra.proofs.Rational.{whole_value}
use Rattle.sg_algebra.proofs.Embedding.{constant_value, constant_valueH, constant_value-whole}
use Rattle.sg_num.proofs.WholeSteps

pub whole_value-add : (d : ℕ) (a b : ℤ) → whole_value d (a +ℤ b) ≡ whole_value d a +ᵛ whole_value d b
whole_value-add zero a b = WholeSteps.whole_value-add a b
whole_value-add (suc d) a b =
    sym (constant_value-whole d (a +ℤ b)) ∙ ap (constant_value d) (whole_value-add d a b) ∙ (constant_valueH d).on-add (whole_value d a) (whole_value d b)
    ∙ ap₂ ◌+ᵛ◌ (constant_value-whole d a) (constant_value-whole d b)

pub whole_value-mul : (d : ℕ) (a b : ℤ) → whole_value d (a *ℤ b) ≡ whole_value d a *ᵛ whole_value d b
whole_value-mul zero a b = WholeSteps.whole_value-mul a b
whole_value-mul (suc d) a b =
    sym (constant_value-whole d (a *ℤ b)) ∙ ap (constant_value d) (whole_value-mul d a b) ∙ (constant_valueH d).on-mul (whole_value d a) (whole_value d b)
    ∙ ap₂ ◌*ᵛ◌ (constant_value-whole d a) (constant_value-whole d b)

pub whole_value-neg : (d : ℕ) (a : ℤ) → whole_value d (neg_ℤ a) ≡ neg_value (whole_value d a)
whole_value-neg d (pos zero) = sym (neg_O (ValueR d))
whole_value-neg d (pos (suc n)) = refl
whole_value-neg d (negsuc n) = sym (neg_neg (ValueR d))
