-- Divisibility in any ring, and maps that keep it.
--   Divides R a b     b is a times a cofactor; `Divides R x I` says that x is a unit
--   dvd_refl, dvd_trans, dvd_same    an order, up to equality of either side
--   dvd_O, dvd-add, dvd-sub, dvd-scale, dvd-mul    of zero, of a sum, of a difference, of a multiple, of products on both sides
--   identity, after                  the identity as a map, and one map after another
--   on-O, on-neg, on-nat, on-pow, dvd_on    every map between rings keeps zero, negatives, numerals, powers and divisibility
--   iter σ n x        the map σ, n times
use Rattle.std.proofs.Common.{ℕ, zero, suc, refl, [], ◌∷◌}
use Rattle.sg_algebra.specs.Ring.{Ring, Hom}
use Rattle.sg_algebra.proofs.Ring.{nat, pow, cancel, neg_is, mul_O}
use Rattle.sg_algebra.proofs.Solver.{by, scale, reads}

pub record Divides (R : Ring) (a b : R.A) : Type 0 where
  pub cofactor : R.A
  pub is : R.◌≈◌ b (R.◌⊠◌ a cofactor)

module _ (R : Ring) where
  open R use {A, ◌≈◌, ◌⊞◌, ◌⊠◌, ⊟, O, I, rfl, symm, trans, add_cong, mul_cong, neg_cong, add_O, add_neg, mul_I}

  pub dvd_refl : (a : A) → Divides R a a
  dvd_refl a = record { cofactor = I; is = symm mul_I }

  pub dvd_trans : (a b c : A) → Divides R a b → Divides R b c → Divides R a c
  dvd_trans a b c d e = record {
    cofactor = d.cofactor ⊠ e.cofactor;
    is = by R (a ∷ b ∷ c ∷ d.cofactor ∷ e.cofactor ∷ []) (add_cong e.is (scale R e.cofactor d.is)) (search reads depth 16) refl;
  }

  pub dvd_same : (a b a' b' : A) → a ≈ a' → b ≈ b' → Divides R a b → Divides R a' b'
  dvd_same a b a' b' h k d = record { cofactor = d.cofactor; is = trans (symm k) (trans d.is (mul_cong h rfl)) }

  pub dvd_O : (a : A) → Divides R a O
  dvd_O a = record { cofactor = O; is = symm (mul_O R) }

  pub dvd-add : (a x y : A) → Divides R a x → Divides R a y → Divides R a (x ⊞ y)
  dvd-add a x y d e = record {
    cofactor = d.cofactor ⊞ e.cofactor;
    is = by R (a ∷ x ∷ y ∷ d.cofactor ∷ e.cofactor ∷ []) (add_cong d.is e.is) (search reads depth 16) refl;
  }

  pub dvd-sub : (a x y : A) → Divides R a x → Divides R a y → Divides R a (x ⊞ ⊟ y)
  dvd-sub a x y d e = record {
    cofactor = d.cofactor ⊞ ⊟ e.cofactor;
    is = by R (a ∷ x ∷ y ∷ d.cofactor ∷ e.cofactor ∷ []) (add_cong d.is (neg_cong e.is)) (search reads depth 16) refl;
  }

  pub dvd-scale : (a c x : A) → Divides R a x → Divides R a (c ⊠ x)
  dvd-scale a c x d = record { cofactor = c ⊠ d.cofactor; is = by R (a ∷ x ∷ c ∷ d.cofactor ∷ []) (scale R c d.is) (search reads depth 16) refl }

  pub dvd-mul : (a b x y : A) → Divides R a x → Divides R b y → Divides R (a ⊠ b) (x ⊠ y)
  dvd-mul a b x y d e = record {
    cofactor = d.cofactor ⊠ e.cofactor;
    is = by R (a ∷ b ∷ x ∷ y ∷ d.cofactor ∷ e.cofactor ∷ []) (mul_cong d.is e.is) (search reads depth 16 fits 4000) refl;
  }

  abbrev pub identity : Hom R R
  identity = record { on = λ x. x; on_cong = λ x y h. h; on-add = λ x y. rfl; on-mul = λ x y. rfl; on-one = rfl }

-- ---- Maps between rings

module _ (R S : Ring) (σ : Hom R S) where
  open R use {A, ◌⊞◌, ◌⊠◌, ⊟, O}
  open S use {◌≈◌, symm, trans}

  pub on-O : σ.on O ≈ S.O
  on-O = cancel S {x = σ.on O} (trans (symm (σ.on-add O O)) (trans (σ.on_cong (O ⊞ O) O R.add_O) (symm S.add_O)))

  pub on-neg : (x : A) → σ.on (⊟ x) ≈ S.⊟ (σ.on x)
  on-neg x = neg_is S (trans (symm (σ.on-add x (⊟ x))) (trans (σ.on_cong (x ⊞ ⊟ x) O R.add_neg) on-O))

  pub on-nat : (n : ℕ) → σ.on (nat R n) ≈ nat S n
  on-nat zero = on-O
  on-nat (suc n) = trans (σ.on-add (nat R n) R.I) (S.add_cong (on-nat n) σ.on-one)

  pub on-pow : (x : A) (n : ℕ) → σ.on (pow R x n) ≈ pow S (σ.on x) n
  on-pow x zero = σ.on-one
  on-pow x (suc n) = trans (σ.on-mul (pow R x n) x) (S.mul_cong (on-pow x n) S.rfl)

  pub dvd_on : (a b : A) → Divides R a b → Divides S (σ.on a) (σ.on b)
  dvd_on a b d = record { cofactor = σ.on d.cofactor; is = trans (σ.on_cong b (a ⊠ d.cofactor) d.is) (σ.on-mul a d.cofactor) }

module _ (R S T : Ring) (σ : Hom R S) (τ : Hom S T) where
  open T use {trans}

  -- one map after another
  abbrev pub after : Hom R T
  after = record {
    on = λ x. τ.on (σ.on x);
    on_cong = λ x y h. τ.on_cong (σ.on x) (σ.on y) (σ.on_cong x y h);
    on-add = λ x y. trans (τ.on_cong (σ.on (R.◌⊞◌ x y)) (S.◌⊞◌ (σ.on x) (σ.on y)) (σ.on-add x y)) (τ.on-add (σ.on x) (σ.on y));
    on-mul = λ x y. trans (τ.on_cong (σ.on (R.◌⊠◌ x y)) (S.◌⊠◌ (σ.on x) (σ.on y)) (σ.on-mul x y)) (τ.on-mul (σ.on x) (σ.on y));
    on-one = trans (τ.on_cong (σ.on R.I) S.I σ.on-one) τ.on-one;
  }

module _ (R : Ring) (σ : Hom R R) where
  open R use {A, ◌≈◌, ◌⊠◌, rfl, trans}

  abbrev pub iter : ℕ → A → A
  iter zero x = x
  iter (suc n) x = σ.on (iter n x)

  pub iter_cong : (n : ℕ) (x y : A) → x ≈ y → iter n x ≈ iter n y
  iter_cong zero x y h = h
  iter_cong (suc n) x y h = σ.on_cong (iter n x) (iter n y) (iter_cong n x y h)

  pub iter-on : (n : ℕ) (x : A) → iter n (σ.on x) ≈ iter (suc n) x
  iter-on zero x = rfl
  iter-on (suc n) x = σ.on_cong (iter n (σ.on x)) (iter (suc n) x) (iter-on n x)

  pub iter-mul : (n : ℕ) (x y : A) → iter n (x ⊠ y) ≈ iter n x ⊠ iter n y
  iter-mul zero x y = rfl
  iter-mul (suc n) x y = trans (σ.on_cong (iter n (x ⊠ y)) (iter n x ⊠ iter n y) (iter-mul n x y)) (σ.on-mul (iter n x) (iter n y))

  pub dvd_iter : (n : ℕ) (a b : A) → Divides R a b → Divides R (iter n a) (iter n b)
  dvd_iter zero a b d = d
  dvd_iter (suc n) a b d = dvd_on R R σ (iter n a) (iter n b) (dvd_iter n a b d)
