-- Values of polynomials: at an element, at another polynomial, and in another ring.
--   evalH R S f x        p ↦ f p₀ + x (f p₁ + ..), a map of rings from polynomials over R to S, for a map of rings f
--   eval-add, eval-mul, eval-neg, eval_cong, eval-zero    the value at an element of R
--   compose R p q        p at the polynomial q
--   compose-add, compose-mul, compose_cong, compose-X, compose-constant    its laws; p at X is p
--   compose-eval         the value of p(q) is that of p at the value of q
--   compose-compose      p(q)(r) is p(q(r))
use Rattle.std.proofs.Common.{ℕ, suc, List, [], ◌∷◌, map}
use Rattle.sg_algebra.specs.Ring.{Ring, Hom}
use Rattle.sg_algebra.specs.Coefficients.{zip_longest, coef, horner, poly_mul, eval}
use Rattle.sg_algebra.proofs.Ring.{mul_O}
use Rattle.sg_algebra.proofs.Horner.{horner-zip, horner-conv, horner-neg, horner_cong, hom-horner}
use Rattle.sg_algebra.proofs.Divides.{identity, on-O}
use Rattle.sg_algebra.proofs.PolynomialRing.{PolyR, X, cons-is, constantH}

module _ (R S : Ring) (f : Hom R S) (x : S.A) where
  open R use {A}
  open S use {◌≈◌, ◌⊞◌, ◌⊠◌, O, I, rfl, symm, trans, add_cong, mul_cong, add_O}

  pub value-zero : (p : List A) → ((n : ℕ) → R.◌≈◌ (coef R p n) R.O) → horner S f.on x p ≈ O
  value-zero [] h = rfl
  value-zero (a ∷ p) h = trans (add_cong (trans (f.on_cong a R.O (h 0)) (on-O R S f)) (trans (mul_cong rfl (value-zero p (λ n. h (suc n)))) (mul_O S))) add_O

  pub value_same : (p q : List A) → ((n : ℕ) → R.◌≈◌ (coef R p n) (coef R q n)) → horner S f.on x p ≈ horner S f.on x q
  value_same [] q h = symm (value-zero q (λ n. R.symm (h n)))
  value_same (a ∷ p) [] h = value-zero (a ∷ p) h
  value_same (a ∷ p) (b ∷ q) h = add_cong (f.on_cong a b (h 0)) (mul_cong rfl (value_same p q (λ n. h (suc n))))

  pub value-add : (p q : List A) → horner S f.on x (zip_longest R.◌⊞◌ p q) ≈ horner S f.on x p ⊞ horner S f.on x q
  value-add p q = horner-zip S f.on x R.◌⊞◌ f.on-add p q

  pub value-mul : (p q : List A) → horner S f.on x (poly_mul R p q) ≈ horner S f.on x p ⊠ horner S f.on x q
  value-mul p q = horner-conv S f.on x R.◌⊞◌ R.◌⊠◌ R.O f.on-add f.on-mul (on-O R S f) p q

  -- a constant has the value that f gives it
  pub value-constant : (a : A) → horner S f.on x (a ∷ []) ≈ f.on a
  value-constant a = trans (add_cong rfl (mul_O S)) add_O

  pub value-one : horner S f.on x (R.I ∷ []) ≈ I
  value-one = trans (value-constant R.I) f.on-one

  abbrev pub evalH : Hom (PolyR R) S
  evalH = record {
    on = λ p. horner S f.on x p;
    on_cong = λ p q h. value_same p q h.image.at;
    on-add = value-add;
    on-mul = value-mul;
    on-one = value-one;
  }

module _ (R : Ring) where
  open R use {A, ◌≈◌, ◌⊞◌, ◌⊠◌, ⊟, O, I, rfl, symm, trans, add_cong, mul_cong, add_O}
  open PolyR R use {◌≈◌ as ◌≋◌, ◌⊞◌ as ◌⊕◌, ◌⊠◌ as ◌⊗◌}

  -- ---- The value at an element

  pub eval-add : (p q : List A) (x : A) → eval R (p ⊕ q) x ≈ eval R p x ⊞ eval R q x
  eval-add p q x = value-add R R (identity R) x p q

  pub eval-mul : (p q : List A) (x : A) → eval R (p ⊗ q) x ≈ eval R p x ⊠ eval R q x
  eval-mul p q x = value-mul R R (identity R) x p q

  pub eval-neg : (p : List A) (x : A) → eval R (map ⊟ p) x ≈ ⊟ (eval R p x)
  eval-neg p x = horner-neg R (λ a. a) x ⊟ (λ a. rfl) p

  pub eval-zero : (p : List A) (x : A) → ((n : ℕ) → coef R p n ≈ O) → eval R p x ≈ O
  eval-zero p x h = value-zero R R (identity R) x p h

  pub eval_cong : (p q : List A) (x y : A) → p ≋ q → x ≈ y → eval R p x ≈ eval R q y
  eval_cong p q x y h e = trans (value_same R R (identity R) x p q h.image.at) (horner_cong R (λ a. a) (λ a. a) x y q (λ a. rfl) e)

  -- ---- p at a polynomial

  abbrev pub compose : List A → List A → List A
  compose p q = horner (PolyR R) (λ a. a ∷ []) q p

  abbrev pub composeH : List A → Hom (PolyR R) (PolyR R)
  composeH q = evalH R (PolyR R) (constantH R) q

  pub compose-add : (p q r : List A) → compose (p ⊕ q) r ≋ compose p r ⊕ compose q r
  compose-add p q r = value-add R (PolyR R) (constantH R) r p q

  pub compose-mul : (p q r : List A) → compose (p ⊗ q) r ≋ compose p r ⊗ compose q r
  compose-mul p q r = value-mul R (PolyR R) (constantH R) r p q

  pub compose-constant : (a : A) (q : List A) → compose (a ∷ []) q ≋ (a ∷ [])
  compose-constant a q = value-constant R (PolyR R) (constantH R) q a

  pub compose_cong : (p p' q q' : List A) → p ≋ p' → q ≋ q' → compose p q ≋ compose p' q'
  compose_cong p p' q q' h k =
      (PolyR R).trans (value_same R (PolyR R) (constantH R) q p p' h.image.at)
      (horner_cong (PolyR R) (λ a. a ∷ []) (λ a. a ∷ []) q q' p' (λ a. (PolyR R).rfl) k)

  pub compose-X : (p : List A) → compose p (X R) ≋ p
  compose-X [] = (PolyR R).rfl
  compose-X (a ∷ p) =
      (PolyR R).trans
      ((PolyR R).add_cong {x = a ∷ []} {y = a ∷ []} (PolyR R).rfl ((PolyR R).mul_cong {x = X R} {y = X R} {u = compose p (X R)} {v = p} (PolyR R).rfl (compose-X p)))
      ((PolyR R).symm (cons-is R a p))

  pub compose-eval : (p q : List A) (x : A) → eval R (compose p q) x ≈ eval R p (eval R q x)
  compose-eval p q x =
      trans (hom-horner (PolyR R) R (evalH R R (identity R) x) (λ a. a ∷ []) q p rfl)
      (horner_cong R (λ a. eval R (a ∷ []) x) (λ a. a) (eval R q x) (eval R q x) p (λ a. value-constant R R (identity R) x a) rfl)

  pub compose-compose : (p q r : List A) → compose (compose p q) r ≋ compose p (compose q r)
  compose-compose p q r =
      (PolyR R).trans (hom-horner (PolyR R) (PolyR R) (composeH r) (λ a. a ∷ []) q p (PolyR R).rfl)
      (horner_cong (PolyR R) (λ a. compose (a ∷ []) r) (λ a. a ∷ []) (compose q r) (compose q r) p (λ a. compose-constant a r) (PolyR R).rfl)
