-- The field solver: identities with quotients `x ⊠ inv y` and inverses `inv y`, whose divisors are known not to be zero.
--   field F atoms (search freads depth 20) refl (search (ne F []))    both sides are brought to one fraction, and the cross products are compared
--   freads          the rules by which `search` reads a term with quotients
--   ne F []         a product of two that aren't zero isn't zero; the last argument of `field` is a nest of pairs of `¬ (divisor ≈ O)`,
--                   found by `search (ne F [])` from hypotheses, or given by hand
--   Good            no divisor of a term is zero
use Rattle.std.proofs.Common.{◌≡◌, ℕ, refl, List, [], ◌∷◌, length}
use Rattle.sg_algebra.specs.Ring.{Field}
use Rattle.sg_algebra.proofs.Ring.{nat, O_add}
use Rattle.sg_algebra.proofs.Normal.{Exp, var, con, ◌⊕◌, ◌⊗◌, neg, left_over, exp_value, solve}
use Rattle.sg_algebra.proofs.Solver.{by, scale, reads, In, here, there, place, atom-place}
use Rattle.sg_algebra.proofs.Field.{domain, field_cancel, product_ne}

-- the element is made from the atoms xs, with quotients
pub data FReads (F : Field) (xs : List F.R.A) : F.R.A → Type 0 where
  f_add : {x y : F.R.A} → FReads F xs x → FReads F xs y → FReads F xs (F.R.◌⊞◌ x y)
  f_div : {x y : F.R.A} → FReads F xs x → FReads F xs y → FReads F xs (F.R.◌⊠◌ x (F.inv y))
  f_mul : {x y : F.R.A} → FReads F xs x → FReads F xs y → FReads F xs (F.R.◌⊠◌ x y)
  f_neg : {x : F.R.A} → FReads F xs x → FReads F xs (F.R.⊟ x)
  f_inv : {x : F.R.A} → FReads F xs x → FReads F xs (F.inv x)
  f_O : FReads F xs F.R.O
  f_I : FReads F xs F.R.I
  f_atom : {x : F.R.A} → In xs x → FReads F xs x
  f_num : {x : F.R.A} (n : ℕ) → F.R.◌≈◌ (nat F.R n) x → FReads F xs x
  f_as : {x y : F.R.A} → F.R.◌≈◌ x y → FReads F xs x → FReads F xs y

-- numerator and denominator
abbrev pub parts : {F : Field} {xs : List F.R.A} {x : F.R.A} → FReads F xs x → Exp × Exp
parts (f_add p q) = let a = parts p in let b = parts q in (a.0 ⊗ b.1 ⊕ b.0 ⊗ a.1, a.1 ⊗ b.1)
parts (f_div p q) = let a = parts p in let b = parts q in (a.0 ⊗ b.1, a.1 ⊗ b.0)
parts (f_mul p q) = let a = parts p in let b = parts q in (a.0 ⊗ b.0, a.1 ⊗ b.1)
parts (f_neg p) = let a = parts p in (neg a.0, a.1)
parts (f_inv p) = let a = parts p in (a.1, a.0)
parts f_O = (con 0, con 1)
parts f_I = (con 1, con 1)
parts (f_atom i) = (var (place i), con 1)
parts (f_num n h) = (con n, con 1)
parts (f_as h p) = parts p

-- no divisor is zero
abbrev pub Good : {F : Field} {xs : List F.R.A} {x : F.R.A} → FReads F xs x → Type 0
Good (f_add p q) = Good p × Good q
Good {F} (f_div {x} {y} p q) = Good p × Good q × (¬ F.R.◌≈◌ y F.R.O)
Good (f_mul p q) = Good p × Good q
Good (f_neg p) = Good p
Good {F} (f_inv {x} p) = Good p × (¬ F.R.◌≈◌ x F.R.O)
Good f_O = Unit {0}
Good f_I = Unit {0}
Good (f_atom i) = Unit {0}
Good (f_num n h) = Unit {0}
Good (f_as h p) = Good p

-- both sides of an identity are
pub data FBoth (F : Field) (xs : List F.R.A) : F.R.A → F.R.A → Type 0 where
  f_both : {x y : F.R.A} → FReads F xs x → FReads F xs y → FBoth F xs x y

pub ruleset freads = (f_both, f_add, f_div, f_mul, f_neg, f_inv, f_O, f_I, f_atom, here, there)

module _ (F : Field) (xs : List F.R.A) where
  open F use {R, inv, mul_inv, one_ne}
  open R use {A, ◌≈◌, ◌⊞◌, ◌⊠◌, ⊟, O, I, rfl, symm, trans, add_cong, mul_cong, neg_cong}

  value : Exp → A
  value e = exp_value R (length xs) xs e

  -- x is the quotient of its parts
  record Is (x : A) (e : Exp × Exp) : Type 0 where
    lower : ¬ (value e.1 ≈ O)
    times : x ⊠ value e.1 ≈ value e.0

  one : I ≈ value (con 1)
  unfolding value
  one = symm (O_add R)

  over_one : (x : A) (e : Exp) → value e ≈ x → Is x (e, con 1)
  over_one x e h = record { lower = λ z. one_ne (trans one z); times = trans (mul_cong rfl (symm one)) (trans R.mul_I (symm h)) }

  pub ne : {x y : A} → ¬ (x ≈ O) → ¬ (y ≈ O) → ¬ (x ⊠ y ≈ O)
  ne h k = product_ne (domain F) h k

  -- x = a / b and y = c / d
  module _ (x y a b c d : A) (p : x ⊠ b ≈ a) (q : y ⊠ d ≈ c) where
    sum_parts : (x ⊞ y) ⊠ (b ⊠ d) ≈ a ⊠ d ⊞ c ⊠ b
    sum_parts = by R (x ∷ y ∷ a ∷ b ∷ c ∷ d ∷ []) (add_cong (scale R d p) (scale R b q)) (search reads depth 16) refl

    product_parts : (x ⊠ y) ⊠ (b ⊠ d) ≈ a ⊠ c
    product_parts = by R (x ∷ y ∷ a ∷ b ∷ c ∷ d ∷ []) (mul_cong p q) (search reads depth 16) refl

    quotient_parts : ¬ (y ≈ O) → (x ⊠ inv y) ⊠ (b ⊠ c) ≈ a ⊠ d
    quotient_parts h = by R (x ∷ y ∷ inv y ∷ a ∷ b ∷ c ∷ d ∷ [])
        (add_cong (scale R (⊟ (x ⊠ inv y ⊠ b)) q) (add_cong (scale R (x ⊠ b ⊠ d) (mul_inv y h)) (scale R d p))) (search reads depth 16 fits 4000) refl

    equal_parts : a ⊠ d ≈ c ⊠ b → ¬ (b ≈ O) → ¬ (d ≈ O) → x ≈ y
    equal_parts e h j = field_cancel F (ne h j) (by R (x ∷ y ∷ a ∷ b ∷ c ∷ d ∷ []) (add_cong (add_cong (scale R d p) (scale R (⊟ b) q)) e) (search reads depth 16 fits 4000) refl)

  neg_parts : (x a b : A) → x ⊠ b ≈ a → ⊟ x ⊠ b ≈ ⊟ a
  neg_parts x a b p = by R (x ∷ a ∷ b ∷ []) (neg_cong p) (search reads depth 16) refl

  inv_parts : (x a b : A) → x ⊠ b ≈ a → ¬ (x ≈ O) → inv x ⊠ a ≈ b
  inv_parts x a b p h = by R (x ∷ inv x ∷ a ∷ b ∷ []) (add_cong (scale R (⊟ (inv x)) p) (scale R b (mul_inv x h))) (search reads depth 16) refl

  is : {x : A} (p : FReads F xs x) → Good p → Is x (parts p)
  unfolding value
  is (f_add {x} {y} p q) g =
      let a = is p g.0 in
      let b = is q g.1 in
      record { lower = ne a.lower b.lower; times = sum_parts x y _ _ _ _ a.times b.times }
  is (f_div {x} {y} p q) g =
      let a = is p g.0 in
      let b = is q g.1 in
      record { lower = ne a.lower (λ z. ne g.2 b.lower (trans b.times z)); times = quotient_parts x y _ _ _ _ a.times b.times g.2 }
  is (f_mul {x} {y} p q) g =
      let a = is p g.0 in
      let b = is q g.1 in
      record { lower = ne a.lower b.lower; times = product_parts x y _ _ _ _ a.times b.times }
  is (f_neg {x} p) g = let a = is p g in record { lower = a.lower; times = neg_parts x _ _ a.times }
  is (f_inv {x} p) g = let a = is p g.0 in record { lower = λ z. ne g.1 a.lower (trans a.times z); times = inv_parts x _ _ a.times g.1 }
  is f_O g = over_one O (con 0) rfl
  is f_I g = over_one I (con 1) (symm one)
  is (f_atom {x} i) g = over_one x (var (place i)) (rw (atom-place R i) rfl)
  is (f_num {x} n h) g = over_one x (con n) h
  is (f_as h p) g = let a = is p g in record { lower = a.lower; times = trans (mul_cong (symm h) rfl) a.times }

  abbrev pub FGood : {x y : A} → FBoth F xs x y → Type 0
  FGood (f_both p q) = Good p × Good q

  -- one side's numerator times the other's denominator
  abbrev pub cross1 : {x y : A} → FBoth F xs x y → Exp
  cross1 (f_both p q) = (parts p).0 ⊗ (parts q).1

  abbrev pub cross2 : {x y : A} → FBoth F xs x y → Exp
  cross2 (f_both p q) = (parts q).0 ⊗ (parts p).1

  pub field : {x y : A} (b : FBoth F xs x y) → left_over (length xs) (cross1 b) (cross2 b) ≡ [] → FGood b → x ≈ y
  unfolding value
  field {x} {y} (f_both p q) e g =
      let a = is p g.0 in
      let b = is q g.1 in
      equal_parts x y _ _ _ _ a.times b.times (solve R (length xs) xs ((parts p).0 ⊗ (parts q).1) ((parts q).0 ⊗ (parts p).1) e) a.lower b.lower
