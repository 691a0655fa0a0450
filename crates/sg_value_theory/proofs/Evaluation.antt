-- Partial values of the elements of a ring.
--   Laws E d Has       which element of the ring E has which value of depth d, said by `Has`: each at most one; 0 and 1 have theirs, and sums, opposites and products
--                      of elements that have one have that of the results
--   Evaluation E d     such a relation with its laws
--   evaluation_of, laws_of     one from the other
use Rattle.std.proofs.Common.{◌≡◌, ℕ, zero, suc}
use Rattle.sg_algebra.specs.Ring.{Ring}
use Rattle.sg_algebra.proofs.Ring.{pow}
use Rattle.sg_algebra.proofs.Value.{Value, ◌+ᵛ◌, ◌*ᵛ◌, neg_value, zero_value, one_value}
use Rattle.sg_algebra.proofs.ValueField.{ValueR}

pub record Laws (E : Ring) (d : ℕ) (Has : E.A → Value d → Type 0) : Type 0 where
  pub same : (x y : E.A) (v : Value d) → E.◌≈◌ x y → Has x v → Has y v
  pub unique : (x : E.A) (v w : Value d) → Has x v → Has x w → v ≡ w
  pub zero_has : Has E.O zero_value
  pub one_has : Has E.I one_value
  pub add_has : (x y : E.A) (v w : Value d) → Has x v → Has y w → Has (E.◌⊞◌ x y) (v +ᵛ w)
  pub neg_has : (x : E.A) (v : Value d) → Has x v → Has (E.⊟ x) (neg_value v)
  pub mul_has : (x y : E.A) (v w : Value d) → Has x v → Has y w → Has (E.◌⊠◌ x y) (v *ᵛ w)

pub record Evaluation (E : Ring) (d : ℕ) : Type 1 where
  pub Has : E.A → Value d → Type 0
  pub same : (x y : E.A) (v : Value d) → E.◌≈◌ x y → Has x v → Has y v
  pub unique : (x : E.A) (v w : Value d) → Has x v → Has x w → v ≡ w
  pub zero_has : Has E.O zero_value
  pub one_has : Has E.I one_value
  pub add_has : (x y : E.A) (v w : Value d) → Has x v → Has y w → Has (E.◌⊞◌ x y) (v +ᵛ w)
  pub neg_has : (x : E.A) (v : Value d) → Has x v → Has (E.⊟ x) (neg_value v)
  pub mul_has : (x y : E.A) (v w : Value d) → Has x v → Has y w → Has (E.◌⊠◌ x y) (v *ᵛ w)

module _ {E : Ring} {d : ℕ} where
  abbrev pub evaluation_of : {Has : E.A → Value d → Type 0} → Laws E d Has → Evaluation E d
  evaluation_of {Has} l = record { Has = Has; same = l.same; unique = l.unique; zero_has = l.zero_has; one_has = l.one_has; add_has = l.add_has; neg_has = l.neg_has; mul_has = l.mul_has }

  abbrev pub laws_of : (V : Evaluation E d) → Laws E d V.Has
  laws_of V = record { same = V.same; unique = V.unique; zero_has = V.zero_has; one_has = V.one_has; add_has = V.add_has; neg_has = V.neg_has; mul_has = V.mul_has }

  pub pow_has : (V : Evaluation E d) (x : E.A) (v : Value d) (n : ℕ) → V.Has x v → V.Has (pow E x n) (pow (ValueR d) v n)
  pow_has V x v zero h = V.one_has
  pow_has V x v (suc n) h = V.mul_has (pow E x n) x (pow (ValueR d) v n) v (pow_has V x v n h) h
