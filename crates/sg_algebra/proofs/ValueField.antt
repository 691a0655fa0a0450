-- Values of any depth are a field with ≡.
--   ValueR d, ValueF d, ValueD d    the ring, the field and the domain: `ring (ValueR d) (x ∷ y ∷ []) (search reads depth 16) refl`
--   same_raw, raw_same              values are equal where what stands in their records is
--   value_add_assoc, -comm, -zero, -neg, value_mul_assoc, -comm, -one, -inv, value_distrib    the laws, for `simp` and for tactics
--   value_is_zero, value_same       equality is decided
--   zero_add_value, sub_zero_value, zero_mul_value, mul_zero_value, neg_neg_value    laws that follow
--   inv_value-zero                  the inverse of zero is zero
--   value_quotient, value_product   z y = x gives z = x / y; (x / y) y = x
use Rattle.std.proofs.Common.{◌≡◌, ◌≢◌, ℕ, refl, sym, ◌∙◌, ap, ap₂, [], ◌∷◌}
use Rattle.sg_algebra.specs.Ring.{Ring, Domain, Field}
use Rattle.sg_algebra.proofs.Solver.{ring, reads}
use Rattle.sg_algebra.proofs.FieldSolver.{field, freads, ne}
use Rattle.sg_algebra.proofs.Field.{domain, alike, quotient_is}
use Rattle.sg_algebra.proofs.Level.{Level, level_path, level_inv-O}
use Rattle.sg_algebra.proofs.Value.{Value, ◌+ᵛ◌, ◌-ᵛ◌, ◌*ᵛ◌, ◌/ᵛ◌, neg_value, inv_value, zero_value, one_value}

module _ (d : ℕ) where
  open Level d use {R, is_zero, one_ne, inv, inv_cong, mul_inv}

  pub same_raw : (x y : Value d) → R.◌≈◌ x.raw y.raw → x ≡ y
  same_raw x y e = ap (λ r. record { raw = r }) (level_path d x.raw y.raw e)

  pub raw_same : (x y : Value d) → x ≡ y → R.◌≈◌ x.raw y.raw
  raw_same x y e = rw e R.rfl

  pub value_add_assoc : (x y z : Value d) → (x +ᵛ y) +ᵛ z ≡ x +ᵛ (y +ᵛ z)
  unfolding ◌+ᵛ◌
  value_add_assoc x y z = same_raw _ _ R.add_assoc

  pub value_add_comm : (x y : Value d) → x +ᵛ y ≡ y +ᵛ x
  unfolding ◌+ᵛ◌
  value_add_comm x y = same_raw _ _ R.add_comm

  pub value_add-zero : (x : Value d) → x +ᵛ zero_value ≡ x
  unfolding ◌+ᵛ◌ zero_value
  value_add-zero x = same_raw _ _ R.add_O

  pub value_add-neg : (x : Value d) → x +ᵛ neg_value x ≡ zero_value
  unfolding ◌+ᵛ◌ zero_value neg_value
  value_add-neg x = same_raw _ _ R.add_neg

  pub value_mul_assoc : (x y z : Value d) → (x *ᵛ y) *ᵛ z ≡ x *ᵛ (y *ᵛ z)
  unfolding ◌*ᵛ◌
  value_mul_assoc x y z = same_raw _ _ R.mul_assoc

  pub value_mul_comm : (x y : Value d) → x *ᵛ y ≡ y *ᵛ x
  unfolding ◌*ᵛ◌
  value_mul_comm x y = same_raw _ _ R.mul_comm

  pub value_mul-one : (x : Value d) → x *ᵛ one_value ≡ x
  unfolding ◌*ᵛ◌ one_value
  value_mul-one x = same_raw _ _ R.mul_I

  pub value_distrib : (x y z : Value d) → x *ᵛ (y +ᵛ z) ≡ x *ᵛ y +ᵛ x *ᵛ z
  unfolding ◌+ᵛ◌ ◌*ᵛ◌
  value_distrib x y z = same_raw _ _ R.distrib

  abbrev pub ValueR : Ring
  ValueR = record {
    A = Value d;
    ◌≈◌ = λ x y. x ≡ y;
    ◌⊞◌ = ◌+ᵛ◌;
    ◌⊠◌ = ◌*ᵛ◌;
    ⊟ = neg_value;
    O = zero_value;
    I = one_value;
    rfl = refl;
    symm = sym;
    trans = ◌∙◌;
    add_cong = ap₂ ◌+ᵛ◌;
    mul_cong = ap₂ ◌*ᵛ◌;
    neg_cong = ap neg_value;
    add_assoc = λ {x} {y} {z}. value_add_assoc x y z;
    add_comm = λ {x} {y}. value_add_comm x y;
    add_O = λ {x}. value_add-zero x;
    add_neg = λ {x}. value_add-neg x;
    mul_assoc = λ {x} {y} {z}. value_mul_assoc x y z;
    mul_comm = λ {x} {y}. value_mul_comm x y;
    mul_I = λ {x}. value_mul-one x;
    distrib = λ {x} {y} {z}. value_distrib x y z;
  }

  pub value_is_zero : (x : Value d) → Dec (x ≡ zero_value)
  unfolding zero_value
  value_is_zero x = elim (is_zero x.raw) [ yes h ↦ yes (same_raw x zero_value h) | no h ↦ no (λ e. h (raw_same x zero_value e)) ]

  pub value_one_ne : ¬ (◌≡◌ {A = Value d} one_value zero_value)
  unfolding zero_value one_value
  value_one_ne e = one_ne (raw_same one_value zero_value e)

  pub value_mul-inv : (x : Value d) → ¬ (x ≡ zero_value) → x *ᵛ inv_value x ≡ one_value
  unfolding ◌*ᵛ◌ zero_value one_value inv_value
  value_mul-inv x h = same_raw _ _ (mul_inv x.raw (λ e. h (same_raw x zero_value e)))

  abbrev pub ValueF : Field
  ValueF = record { R = ValueR; is_zero = value_is_zero; one_ne = value_one_ne; inv = inv_value; inv_cong = ap inv_value; mul_inv = value_mul-inv }

  abbrev pub ValueD : Domain
  ValueD = domain ValueF

  pub value_same : (x y : Value d) → Dec (x ≡ y)
  value_same = alike ValueR value_is_zero

-- ---- Laws that follow

module _ {d : ℕ} where
  pub zero_add_value : (x : Value d) → zero_value +ᵛ x ≡ x
  zero_add_value x = ring (ValueR d) (x ∷ []) (search reads depth 16) refl

  pub sub_zero_value : (x : Value d) → x -ᵛ zero_value ≡ x
  sub_zero_value x = ring (ValueR d) (x ∷ []) (search reads depth 16) refl

  pub zero_mul_value : (x : Value d) → zero_value *ᵛ x ≡ zero_value
  zero_mul_value x = ring (ValueR d) (x ∷ []) (search reads depth 16) refl

  pub mul_zero_value : (x : Value d) → x *ᵛ zero_value ≡ zero_value
  mul_zero_value x = ring (ValueR d) (x ∷ []) (search reads depth 16) refl

  pub one_mul_value : (x : Value d) → one_value *ᵛ x ≡ x
  one_mul_value x = ring (ValueR d) (x ∷ []) (search reads depth 16) refl

  pub neg_neg_value : (x : Value d) → neg_value (neg_value x) ≡ x
  neg_neg_value x = ring (ValueR d) (x ∷ []) (search reads depth 16) refl

  pub value_quotient : (x y z : Value d) → ¬ (y ≡ zero_value) → z *ᵛ y ≡ x → z ≡ x /ᵛ y
  value_quotient x y z h e = quotient_is (ValueF d) x y z h e

  pub value_product : (x y : Value d) → ¬ (y ≡ zero_value) → (x /ᵛ y) *ᵛ y ≡ x
  value_product x y h = field (ValueF d) (x ∷ y ∷ []) (search freads depth 20) refl (search)

pub inv_value-zero : {d : ℕ} → inv_value {d = d} zero_value ≡ zero_value
unfolding inv_value zero_value
inv_value-zero {d} = ap (λ r. record { raw = r }) (level_inv-O d)

-- the identities of a field with quotients, at values
sample : {d : ℕ} (x y : Value d) → x ≢ zero_value → y ≢ zero_value → inv_value x +ᵛ inv_value y ≡ (x +ᵛ y) /ᵛ (x *ᵛ y)
sample {d} x y h k = field (ValueF d) (x ∷ y ∷ []) (search freads depth 16) refl (search (ne (ValueF d) []))
