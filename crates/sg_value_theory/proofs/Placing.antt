-- The element of an expression, part by part, at one place.
--   AgreesAt x e       the element x has each value of the expression e
--   agrees-..          it holds of a compound where it holds of its parts
use Rattle.std.proofs.Common.{◌≡◌, ℕ, ℤ, sym, subst}
use Rattle.sg_algebra.specs.Ring.{Ring}
use Rattle.sg_algebra.proofs.Ring.{pow}
use Rattle.sg_algebra.proofs.Value.{Value, ◌+ᵛ◌, ◌*ᵛ◌, ◌/ᵛ◌, neg_value, inv_value, zero_value, one_value}
use Rattle.sg_algebra.proofs.ValueField.{ValueR}
use Rattle.sg_algebra.proofs.Rational.{whole_value}
use Rattle.sg_spec.specs.Tree.{Tree, numeral, here, param, add, neg, mul, div, power}
use Rattle.sg_spec.specs.Worth.{HasWorth}
use Rattle.sg_value_theory.proofs.Evaluation.{Evaluation, pow_has}

module _ (E : Ring) {d : ℕ} (V : Evaluation E d) (letter : Value d) (k : ℤ) where
  open E use {A, ◌⊞◌, ◌⊠◌, ⊟, O, I}
  open V use {Has}

  abbrev pub AgreesAt : A → Tree → Type 0
  AgreesAt x e = (v : Value d) → HasWorth letter e k v → Has x v

  has_value : (x : A) (v w : Value d) → v ≡ w → Has x w → Has x v
  has_value x v w e h = subst (Has x) (sym e) h

  pub agrees-numeral : (x : A) (c : ℤ) → Has x (whole_value d c) → AgreesAt x (numeral c)
  agrees-numeral x c h v e = has_value x v (whole_value d c) e h

  pub agrees-here : (x : A) → Has x (whole_value d k) → AgreesAt x here
  agrees-here x h v e = has_value x v (whole_value d k) e h

  pub agrees-param : (x : A) → Has x letter → AgreesAt x param
  agrees-param x h v e = has_value x v letter e h

  pub agrees-add : (x y : A) (e f : Tree) → AgreesAt x e → AgreesAt y f → AgreesAt (x ⊞ y) (add e f)
  agrees-add x y e f h i v p = has_value (x ⊞ y) v (p.0 +ᵛ p.1) p.4 (V.add_has x y p.0 p.1 (h p.0 p.2) (i p.1 p.3))

  pub agrees-neg : (x : A) (e : Tree) → AgreesAt x e → AgreesAt (⊟ x) (neg e)
  agrees-neg x e h v p = has_value (⊟ x) v (neg_value p.0) p.2 (V.neg_has x p.0 (h p.0 p.1))

  pub agrees-mul : (x y : A) (e f : Tree) → AgreesAt x e → AgreesAt y f → AgreesAt (x ⊠ y) (mul e f)
  agrees-mul x y e f h i v p = has_value (x ⊠ y) v (p.0 *ᵛ p.1) p.4 (V.mul_has x y p.0 p.1 (h p.0 p.2) (i p.1 p.3))

  -- the power 0 is 1 without the base
  pub agrees-power : (x : A) (e : Tree) (n : ℕ) → AgreesAt x e → AgreesAt (pow E x n) (power e n)
  agrees-power x e n h v p = has_value (pow E x n) v (pow (ValueR d) p.0 n) p.2 (pow_has V x p.0 n (h p.0 p.1))

  pub agrees-power_zero : (e : Tree) → AgreesAt I (power e 0)
  agrees-power_zero e v p = has_value I v one_value p.2 V.one_has

  -- y is what `invert` answers for the divisor
  pub agrees-div : (x y z : A) (e f : Tree) → AgreesAt x e → AgreesAt y f → ((w : Value d) → Has y w → ¬ (w ≡ zero_value) → Has z (inv_value w)) → AgreesAt (x ⊠ z) (div e f)
  agrees-div x y z e f h i n v p = has_value (x ⊠ z) v (p.0 /ᵛ p.1) p.5 (V.mul_has x z p.0 (inv_value p.1) (h p.0 p.2) (n p.1 (i p.1 p.3) p.4))

  pub agrees_same : (x y : A) (e : Tree) → E.◌≈◌ x y → AgreesAt x e → AgreesAt y e
  agrees_same x y e q h v p = V.same x y v q (h v p)
