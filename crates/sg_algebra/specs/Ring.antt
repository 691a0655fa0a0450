-- Rings, domains and fields whose equality is a relation: fractions are equal by their cross products, polynomials by their coefficients.
--   Ring      a commutative ring with one
--     A               its elements
--     x ≈ y           x and y are equal; `rfl`, `symm`, `trans` say that this is an equality, the names in `_cong` that operations respect it
--     ⊞ ⊠ ⊟ O I       sum, product, opposite, zero, one
--   Domain    a ring where equality to zero is decided, one isn't zero, and a factor that isn't zero is cancelled
--   Field     a ring where equality to zero is decided, one isn't zero, and each element but zero has an inverse
--   Hom R S   a map from R to S that keeps sums, products and one
pub record Ring : Type 1 where
  infix 4 ◌≈◌
  infixl 6 ◌⊞◌
  infixl 7 ◌⊠◌
  pub A : Type 0
  pub ◌≈◌ : A → A → Type 0
  pub ◌⊞◌ : A → A → A
  pub ◌⊠◌ : A → A → A
  pub ⊟ : A → A
  pub O : A
  pub I : A
  pub rfl : {x : A} → x ≈ x
  pub symm : {x y : A} → x ≈ y → y ≈ x
  pub trans : {x y z : A} → x ≈ y → y ≈ z → x ≈ z
  pub add_cong : {x y u v : A} → x ≈ y → u ≈ v → x ⊞ u ≈ y ⊞ v
  pub mul_cong : {x y u v : A} → x ≈ y → u ≈ v → x ⊠ u ≈ y ⊠ v
  pub neg_cong : {x y : A} → x ≈ y → ⊟ x ≈ ⊟ y
  pub add_assoc : {x y z : A} → (x ⊞ y) ⊞ z ≈ x ⊞ (y ⊞ z)
  pub add_comm : {x y : A} → x ⊞ y ≈ y ⊞ x
  pub add_O : {x : A} → x ⊞ O ≈ x
  pub add_neg : {x : A} → x ⊞ ⊟ x ≈ O
  pub mul_assoc : {x y z : A} → (x ⊠ y) ⊠ z ≈ x ⊠ (y ⊠ z)
  pub mul_comm : {x y : A} → x ⊠ y ≈ y ⊠ x
  pub mul_I : {x : A} → x ⊠ I ≈ x
  pub distrib : {x y z : A} → x ⊠ (y ⊞ z) ≈ x ⊠ y ⊞ x ⊠ z

pub record Domain : Type 1 where
  pub R : Ring
  pub is_zero : (x : R.A) → Dec (R.◌≈◌ x R.O)
  pub one_ne : ¬ (R.◌≈◌ R.I R.O)
  pub cancel_mul : {c x y : R.A} → ¬ (R.◌≈◌ c R.O) → R.◌≈◌ (R.◌⊠◌ c x) (R.◌⊠◌ c y) → R.◌≈◌ x y

pub record Field : Type 1 where
  pub R : Ring
  pub is_zero : (x : R.A) → Dec (R.◌≈◌ x R.O)
  pub one_ne : ¬ (R.◌≈◌ R.I R.O)
  pub inv : R.A → R.A
  pub inv_cong : {x y : R.A} → R.◌≈◌ x y → R.◌≈◌ (inv x) (inv y)
  pub mul_inv : (x : R.A) → ¬ (R.◌≈◌ x R.O) → R.◌≈◌ (R.◌⊠◌ x (inv x)) R.I

pub record Hom (R S : Ring) : Type 0 where
  pub on : R.A → S.A
  pub on_cong : (x y : R.A) → R.◌≈◌ x y → S.◌≈◌ (on x) (on y)
  pub on-add : (x y : R.A) → S.◌≈◌ (on (R.◌⊞◌ x y)) (S.◌⊞◌ (on x) (on y))
  pub on-mul : (x y : R.A) → S.◌≈◌ (on (R.◌⊠◌ x y)) (S.◌⊠◌ (on x) (on y))
  pub on-one : S.◌≈◌ (on R.I) S.I
