-- Polynomials over the values of one depth, with operators and ≡, for clauses on the program's polynomials.
--   Polynomial d                a polynomial; `poly p` is the one with the coefficients p, the lowest first
--   x +ᵖ y, x -ᵖ y, x *ᵖ y, neg_polynomial    sum, difference, product, opposite
--   zero_polynomial, one_polynomial, constant c
--   coefficient p n             the coefficient at n, 0 past the end
--   EndsNonzero p               the last coefficient isn't 0
--   PolynomialR d, PolynomialD d    the ring and the domain
--   poly_same, same_poly        polynomials are equal exactly where all coefficients are
--   poly-add, poly-mul, poly-neg    the operations on lists are those on polynomials
--   listed                      a statement holds of all polynomials, if it does of those of lists
use Rattle.std.proofs.Common.{◌≡◌, ℕ, suc, refl, sym, ◌∙◌, ap, ap₂, List, [], ◌∷◌, map, length}
use mathlib.Core.Quot.{mk, sound, ind, Quot-set}
use Rattle.sg_algebra.specs.Ring.{Ring, Domain}
use Rattle.sg_algebra.specs.Coefficients.{zip_longest, coef, poly_mul}
use Rattle.sg_algebra.proofs.Solver.{by, reads}
use Rattle.sg_algebra.proofs.Field.{alike}
use Rattle.sg_algebra.proofs.PolynomialRing.{PolyR}
use Rattle.sg_algebra.proofs.Degree.{poly_zero, poly_factor}
use Rattle.sg_algebra.proofs.Classes.{ClassR, exact, Dec-prop}
use Rattle.sg_algebra.proofs.Value.{Value, ◌+ᵛ◌, neg_value, zero_value, one_value}
use Rattle.sg_algebra.proofs.ValueField.{ValueR, ValueD, value_is_zero, value_one_ne}

-- the coefficients of polynomials over the values of depth d
abbrev pub ListR : ℕ → Ring
ListR d = PolyR (ValueR d)

pub record Polynomial (d : ℕ) : Type 0 where
  pub raw : (ClassR (ListR d)).A

unfoldable pub poly : {d : ℕ} → List (Value d) → Polynomial d
poly {d} p = record { raw = mk p }

infixl 6 ◌+ᵖ◌
infixl 6 ◌-ᵖ◌
infixl 7 ◌*ᵖ◌
unfoldable pub ◌+ᵖ◌ : {d : ℕ} → Polynomial d → Polynomial d → Polynomial d
◌+ᵖ◌ {d} x y = record { raw = (ClassR (ListR d)).◌⊞◌ x.raw y.raw }

unfoldable pub ◌*ᵖ◌ : {d : ℕ} → Polynomial d → Polynomial d → Polynomial d
◌*ᵖ◌ {d} x y = record { raw = (ClassR (ListR d)).◌⊠◌ x.raw y.raw }

unfoldable pub neg_polynomial : {d : ℕ} → Polynomial d → Polynomial d
neg_polynomial {d} x = record { raw = (ClassR (ListR d)).⊟ x.raw }

abbrev pub ◌-ᵖ◌ : {d : ℕ} → Polynomial d → Polynomial d → Polynomial d
x -ᵖ y = x +ᵖ neg_polynomial y

abbrev pub zero_polynomial : {d : ℕ} → Polynomial d
zero_polynomial = poly []

abbrev pub one_polynomial : {d : ℕ} → Polynomial d
one_polynomial = poly (one_value ∷ [])

abbrev pub constant : {d : ℕ} → Value d → Polynomial d
constant c = poly (c ∷ [])

abbrev pub coefficient : {d : ℕ} → List (Value d) → ℕ → Value d
coefficient {d} p n = coef (ValueR d) p n

abbrev pub EndsNonzero : {d : ℕ} → List (Value d) → Type 0
EndsNonzero p = (n : ℕ) → length p ≡ suc n → ¬ (coefficient p n ≡ zero_value)

-- ---- The ring

module _ (d : ℕ) where
  open ClassR (ListR d) use {add_assoc, add_comm, add_O, add_neg, mul_assoc, mul_comm, mul_I, distrib}

  wrap : {x y : (ClassR (ListR d)).A} → x ≡ y → ◌≡◌ {A = Polynomial d} (record { raw = x }) (record { raw = y })
  wrap e = ap (λ r. record { raw = r }) e

  pub polynomial_add_assoc : (x y z : Polynomial d) → (x +ᵖ y) +ᵖ z ≡ x +ᵖ (y +ᵖ z)
  unfolding ◌+ᵖ◌
  polynomial_add_assoc x y z = wrap (add_assoc {x = x.raw} {y = y.raw} {z = z.raw})

  pub polynomial_add_comm : (x y : Polynomial d) → x +ᵖ y ≡ y +ᵖ x
  unfolding ◌+ᵖ◌
  polynomial_add_comm x y = wrap (add_comm {x = x.raw} {y = y.raw})

  pub polynomial_add-zero : (x : Polynomial d) → x +ᵖ zero_polynomial ≡ x
  unfolding ◌+ᵖ◌ poly
  polynomial_add-zero x = wrap (add_O {x = x.raw})

  pub polynomial_add-neg : (x : Polynomial d) → x +ᵖ neg_polynomial x ≡ zero_polynomial
  unfolding ◌+ᵖ◌ neg_polynomial poly
  polynomial_add-neg x = wrap (add_neg {x = x.raw})

  pub polynomial_mul_assoc : (x y z : Polynomial d) → (x *ᵖ y) *ᵖ z ≡ x *ᵖ (y *ᵖ z)
  unfolding ◌*ᵖ◌
  polynomial_mul_assoc x y z = wrap (mul_assoc {x = x.raw} {y = y.raw} {z = z.raw})

  pub polynomial_mul_comm : (x y : Polynomial d) → x *ᵖ y ≡ y *ᵖ x
  unfolding ◌*ᵖ◌
  polynomial_mul_comm x y = wrap (mul_comm {x = x.raw} {y = y.raw})

  pub polynomial_mul-one : (x : Polynomial d) → x *ᵖ one_polynomial ≡ x
  unfolding ◌*ᵖ◌ poly
  polynomial_mul-one x = wrap (mul_I {x = x.raw})

  pub polynomial_distrib : (x y z : Polynomial d) → x *ᵖ (y +ᵖ z) ≡ x *ᵖ y +ᵖ x *ᵖ z
  unfolding ◌+ᵖ◌ ◌*ᵖ◌
  polynomial_distrib x y z = wrap (distrib {x = x.raw} {y = y.raw} {z = z.raw})

  abbrev pub PolynomialR : Ring
  PolynomialR = record {
    A = Polynomial d;
    ◌≈◌ = λ x y. x ≡ y;
    ◌⊞◌ = ◌+ᵖ◌;
    ◌⊠◌ = ◌*ᵖ◌;
    ⊟ = neg_polynomial;
    O = zero_polynomial;
    I = one_polynomial;
    rfl = refl;
    symm = sym;
    trans = ◌∙◌;
    add_cong = ap₂ ◌+ᵖ◌;
    mul_cong = ap₂ ◌*ᵖ◌;
    neg_cong = ap neg_polynomial;
    add_assoc = λ {x} {y} {z}. polynomial_add_assoc x y z;
    add_comm = λ {x} {y}. polynomial_add_comm x y;
    add_O = λ {x}. polynomial_add-zero x;
    add_neg = λ {x}. polynomial_add-neg x;
    mul_assoc = λ {x} {y} {z}. polynomial_mul_assoc x y z;
    mul_comm = λ {x} {y}. polynomial_mul_comm x y;
    mul_I = λ {x}. polynomial_mul-one x;
    distrib = λ {x} {y} {z}. polynomial_distrib x y z;
  }

-- ---- Lists of coefficients and their polynomials

module _ {d : ℕ} where
  pub poly_cong : {p q : List (Value d)} → (ListR d).◌≈◌ p q → poly p ≡ poly q
  unfolding poly
  poly_cong h = ap (λ r. record { raw = r }) (sound h)

  pub poly_same : (p q : List (Value d)) → ((n : ℕ) → coefficient p n ≡ coefficient q n) → poly p ≡ poly q
  poly_same p q h = poly_cong (record { image = record { at = h } })

  pub same_list : (p q : List (Value d)) → poly p ≡ poly q → (ListR d).◌≈◌ p q
  unfolding poly
  same_list p q e = exact (ListR d) (alike (ListR d) (poly_zero (ValueR d) (value_is_zero d))) p q (ap (λ (r : Polynomial d). r.raw) e)

  pub same_poly : (p q : List (Value d)) → poly p ≡ poly q → (n : ℕ) → coefficient p n ≡ coefficient q n
  same_poly p q e = (same_list p q e).image.at

  pub poly-add : (p q : List (Value d)) → poly (zip_longest ◌+ᵛ◌ p q) ≡ poly p +ᵖ poly q
  unfolding poly ◌+ᵖ◌
  poly-add p q = refl

  pub poly-mul : (p q : List (Value d)) → poly (poly_mul (ValueR d) p q) ≡ poly p *ᵖ poly q
  unfolding poly ◌*ᵖ◌
  poly-mul p q = refl

  pub poly-neg : (p : List (Value d)) → poly (map neg_value p) ≡ neg_polynomial (poly p)
  unfolding poly neg_polynomial
  poly-neg p = refl

  pub listed : (P : Polynomial d → Type 0) → ((x : Polynomial d) → IsProp (P x)) → ((p : List (Value d)) → P (poly p)) → (x : Polynomial d) → P x
  unfolding poly
  listed P h f x = ind (λ q. h (record { raw = q })) f x.raw

  pub same_difference : (p q : Polynomial d) → p -ᵖ q ≡ zero_polynomial → p ≡ q
  same_difference p q h = by (PolynomialR d) (p ∷ q ∷ []) h (search reads depth 16) refl

  pub difference_same : (p q : Polynomial d) → p ≡ q → p -ᵖ q ≡ zero_polynomial
  difference_same p q h = by (PolynomialR d) (p ∷ q ∷ []) h (search reads depth 16) refl

-- ---- The domain

pub polynomial_set : (d : ℕ) → IsSet (Polynomial d)
polynomial_set d = hlevel Quot-set

pub polynomial_is_zero : {d : ℕ} (x : Polynomial d) → Dec (x ≡ zero_polynomial)
polynomial_is_zero {d} = listed (λ x. Dec (x ≡ zero_polynomial)) (λ x. Dec-prop (polynomial_set d x zero_polynomial))
    (λ p. elim (poly_zero (ValueR d) (value_is_zero d) p) [ yes h ↦ yes (poly_cong h) | no h ↦ no (λ e. h (same_list p [] e)) ])

pub polynomial_one_ne : {d : ℕ} → ¬ (one_polynomial {d = d} ≡ zero_polynomial)
polynomial_one_ne {d} e = value_one_ne d (same_poly (one_value ∷ []) [] e 0)

-- a product is zero only where a factor is
pub polynomial_factor : {d : ℕ} (x y : Polynomial d) → ¬ (x ≡ zero_polynomial) → x *ᵖ y ≡ zero_polynomial → y ≡ zero_polynomial
polynomial_factor {d} x y = listed (λ x. ¬ (x ≡ zero_polynomial) → x *ᵖ y ≡ zero_polynomial → y ≡ zero_polynomial) (λ x. hlevel (polynomial_set d))
    (λ p. listed (λ y. ¬ (poly p ≡ zero_polynomial) → poly p *ᵖ y ≡ zero_polynomial → y ≡ zero_polynomial) (λ y. hlevel (polynomial_set d)) (λ q h e. at p q h e) y) x
  where
    at : (p q : List (Value d)) → ¬ (poly p ≡ zero_polynomial) → poly p *ᵖ poly q ≡ zero_polynomial → poly q ≡ zero_polynomial
    at p q h e = poly_cong (poly_factor (ValueD d) {p = p} {q = q} (λ z. h (poly_cong z)) (same_list (poly_mul (ValueR d) p q) [] (poly-mul p q ∙ e)))

module _ (d : ℕ) where
  pub polynomial_cancel : {c x y : Polynomial d} → ¬ (c ≡ zero_polynomial) → c *ᵖ x ≡ c *ᵖ y → x ≡ y
  polynomial_cancel {c} {x} {y} h e = same_difference x y (polynomial_factor c (x -ᵖ y) h (by (PolynomialR d) (c ∷ x ∷ y ∷ []) e (search reads depth 16) refl))

  abbrev pub PolynomialD : Domain
  PolynomialD = record { R = PolynomialR d; is_zero = polynomial_is_zero; one_ne = polynomial_one_ne; cancel_mul = polynomial_cancel }
