-- Lists of coefficients without zeros at the end: one list for each polynomial, where equality of coefficients is ≡ and equality to zero is decided.
--   strip R is_zero p      p without the zeros at its end
--   strip-at               it has the same coefficients
--   strip_zero, strip_same the zero polynomial gives the empty list; equal polynomials give one list
use Rattle.std.proofs.Common.{◌≡◌, ℕ, zero, suc, refl, sym, ◌∙◌, ap, ap₂, List, [], ◌∷◌}
use Rattle.sg_algebra.specs.Ring.{Ring}
use Rattle.sg_algebra.specs.Coefficients.{coef}

module _ (R : Ring) (is_zero : (x : R.A) → Dec (R.◌≈◌ x R.O)) where
  open R use {A, ◌≈◌, O, rfl, symm, trans}

  -- a before s; nothing where both are zero
  pub put : {a : A} → Dec (a ≈ O) → List A → List A
  put {a} (yes h) [] = []
  put {a} (yes h) (b ∷ s) = a ∷ b ∷ s
  put {a} (no h) s = a ∷ s

  pub strip : List A → List A
  strip [] = []
  strip (a ∷ p) = put (is_zero a) (strip p)

  put-at : (a : A) (d : Dec (a ≈ O)) (s : List A) (n : ℕ) → coef R (put d s) n ≈ coef R (a ∷ s) n
  unfolding put
  put-at a (yes h) [] zero = symm h
  put-at a (yes h) [] (suc n) = rfl
  put-at a (yes h) (b ∷ s) n = rfl
  put-at a (no h) s n = rfl

  pub strip-at : (p : List A) (n : ℕ) → coef R (strip p) n ≈ coef R p n
  unfolding strip
  strip-at [] n = rfl
  strip-at (a ∷ p) zero = put-at a (is_zero a) (strip p) zero
  strip-at (a ∷ p) (suc n) = trans (put-at a (is_zero a) (strip p) (suc n)) (strip-at p n)

  put_zero : (a : A) (d : Dec (a ≈ O)) → a ≈ O → put d [] ≡ []
  unfolding put
  put_zero a (yes h) e = refl
  put_zero a (no h) e = absurd (h e)

  pub strip_zero : (p : List A) → ((n : ℕ) → coef R p n ≈ O) → strip p ≡ []
  unfolding strip
  strip_zero [] h = refl
  strip_zero (a ∷ p) h = ap (put (is_zero a)) (strip_zero p (λ n. h (suc n))) ∙ put_zero a (is_zero a) (h 0)

  pub strip_same : ((x y : A) → x ≈ y → x ≡ y) → (p q : List A) → ((n : ℕ) → coef R p n ≈ coef R q n) → strip p ≡ strip q
  unfolding strip
  strip_same path [] q h = sym (strip_zero q (λ n. symm (h n)))
  strip_same path (a ∷ p) [] h = strip_zero (a ∷ p) h
  strip_same path (a ∷ p) (b ∷ q) h = ap₂ (λ x s. put (is_zero x) s) (path a b (h 0)) (strip_same path p q (λ n. h (suc n)))
