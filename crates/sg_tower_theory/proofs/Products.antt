-- Laurent polynomials in several products x₁, x₂, .. over a field F with a shift σ, where σ(x_i) = α_i x_i.
--   LaurentsD n            in n products: the carrier depends on n alone
--   lift n                 an element of F as a Laurent polynomial
--   shift αs               the shift, a map of rings
--   Exponents n            one whole exponent for each product
--   coefficient n es x     the coefficient of x at the exponents es
--   coefficient-shift      exponents by exponents: c goes to α₁^e₁ α₂^e₂ .. σ(c)
--   Independent αs         no exponents but zeros make the product of powers σ(r)/r
--   expressed_product      an element that isn't 0 with σ(x) = γ x: γ is a product of powers times σ(r)/r
--   lawful_products        then the laws of the tower hold
--   fixed_lift             and only elements of F that σ fixes are fixed
use Rattle.std.proofs.Common.{◌≡◌, ℕ, zero, suc, refl, ap, List, [], ◌∷◌, ℤ, pos, negsuc, length, get_or}
use Rattle.sg_algebra.specs.Ring.{Ring, Domain, Field, Hom}
use Rattle.sg_algebra.specs.Coefficients.{Each}
use Rattle.sg_algebra.proofs.Ring.{nat, I_mul}
use Rattle.sg_algebra.proofs.Solver.{by, scale, reads}
use Rattle.sg_algebra.proofs.Field.{domain, inv_ne}
use Rattle.sg_algebra.proofs.Divides.{identity, after, on-pow}
use Rattle.sg_tower_theory.specs.Powers.{power, powers}
use Rattle.sg_tower_theory.proofs.Lawful.{Lawful, lawful_field}
use Rattle.sg_tower_theory.proofs.Laurent.{LaurentD, constantsH}
use Rattle.sg_tower_theory.proofs.LaurentCoefficients.{at, at_cong, same_at, at-add, at-scale, at-neg, at-none, some_at}
use Rattle.sg_tower_theory.proofs.LaurentShift.{unit_power, shiftedH, at-shifted}
use Rattle.sg_tower_theory.proofs.OneProduct.{IsFree, only_constant, lawful_product}

-- one whole exponent for each product
abbrev pub Exponents : ℕ → Type 0
Exponents zero = Unit {0}
Exponents (suc n) = ℤ × Exponents n

abbrev pub listed : (n : ℕ) → Exponents n → List ℤ
listed zero es = []
listed (suc n) es = es.0 ∷ listed n es.1

abbrev pub zeros : (n : ℕ) → Exponents n
zeros zero = tt
zeros (suc n) = (pos 0, zeros n)

abbrev pub AllZero : List ℤ → Type 0
AllZero es = (i : ℕ) → get_or es i (pos 0) ≡ pos 0

pub listed_length : (n : ℕ) (es : Exponents n) → length (listed n es) ≡ n
listed_length zero es = refl
listed_length (suc n) es = ap suc (listed_length n es.1)

pub zeros_are : (n : ℕ) (es : Exponents n) → AllZero (listed n es) → es ≡ zeros n
zeros_are zero es h = refl
zeros_are (suc n) es h = rw (h 0, zeros_are n es.1 (λ i. h (suc i))) refl

module _ (F : Field) where
  open F use {R, inv, mul_inv, one_ne}
  open R use {A, ◌≈◌, ◌⊞◌, ◌⊠◌, ⊟, O, I, rfl, symm, trans, add_cong, mul_cong, neg_cong}

  abbrev pub Some : A → Type 0
  Some x = ¬ (x ≈ O)

  abbrev pub LaurentsD : ℕ → Domain
  LaurentsD zero = domain F
  LaurentsD (suc n) = LaurentD (LaurentsD n)

  abbrev pub LaurentsR : ℕ → Ring
  LaurentsR n = (LaurentsD n).R

  abbrev pub lift : (n : ℕ) → Hom R (LaurentsR n)
  lift zero = identity R
  lift (suc n) = after R (LaurentsR n) (LaurentsR (suc n)) (lift n) (constantsH (LaurentsD n))

  abbrev pub coefficient : (n : ℕ) → Exponents n → (LaurentsR n).A → A
  coefficient zero es x = x
  coefficient (suc n) es x = coefficient n es.1 (at (LaurentsD n) es.0 x)

  pub coefficient_cong : (n : ℕ) (es : Exponents n) (x y : (LaurentsR n).A) → (LaurentsR n).◌≈◌ x y → coefficient n es x ≈ coefficient n es y
  coefficient_cong zero es x y h = h
  coefficient_cong (suc n) es x y h = coefficient_cong n es.1 (at (LaurentsD n) es.0 x) (at (LaurentsD n) es.0 y) (at_cong (LaurentsD n) x y h es.0)

  pub same_coefficients : (n : ℕ) (x y : (LaurentsR n).A) → ((es : Exponents n) → coefficient n es x ≈ coefficient n es y) → (LaurentsR n).◌≈◌ x y
  same_coefficients zero x y h = h tt
  same_coefficients (suc n) x y h = same_at (LaurentsD n) x y (λ e. same_coefficients n (at (LaurentsD n) e x) (at (LaurentsD n) e y) (λ es. h (e, es)))

  pub coefficient-add : (n : ℕ) (es : Exponents n) (x y : (LaurentsR n).A) → coefficient n es ((LaurentsR n).◌⊞◌ x y) ≈ coefficient n es x ⊞ coefficient n es y
  coefficient-add zero es x y = rfl
  coefficient-add (suc n) es x y = trans (coefficient_cong n es.1 (at (LaurentsD n) es.0 ((LaurentsR (suc n)).◌⊞◌ x y)) ((LaurentsR n).◌⊞◌ (at (LaurentsD n) es.0 x) (at (LaurentsD n) es.0 y)) (at-add (LaurentsD n) x y es.0))
      (coefficient-add n es.1 (at (LaurentsD n) es.0 x) (at (LaurentsD n) es.0 y))

  pub coefficient-neg : (n : ℕ) (es : Exponents n) (x : (LaurentsR n).A) → coefficient n es ((LaurentsR n).⊟ x) ≈ ⊟ (coefficient n es x)
  coefficient-neg zero es x = rfl
  coefficient-neg (suc n) es x = trans (coefficient_cong n es.1 (at (LaurentsD n) es.0 ((LaurentsR (suc n)).⊟ x)) ((LaurentsR n).⊟ (at (LaurentsD n) es.0 x)) (at-neg (LaurentsD n) x es.0)) (coefficient-neg n es.1 (at (LaurentsD n) es.0 x))

  pub coefficient-none : (n : ℕ) (es : Exponents n) → coefficient n es (LaurentsR n).O ≈ O
  coefficient-none zero es = rfl
  coefficient-none (suc n) es = trans (coefficient_cong n es.1 (at (LaurentsD n) es.0 (LaurentsR (suc n)).O) (LaurentsR n).O (at-none (LaurentsD n) es.0)) (coefficient-none n es.1)

  pub coefficient-scale : (n : ℕ) (es : Exponents n) (c : A) (x : (LaurentsR n).A) → coefficient n es ((LaurentsR n).◌⊠◌ ((lift n).on c) x) ≈ c ⊠ coefficient n es x
  coefficient-scale zero es c x = rfl
  coefficient-scale (suc n) es c x = trans (coefficient_cong n es.1 (at (LaurentsD n) es.0 ((LaurentsR (suc n)).◌⊠◌ ((lift (suc n)).on c) x)) ((LaurentsR n).◌⊠◌ ((lift n).on c) (at (LaurentsD n) es.0 x)) (at-scale (LaurentsD n) ((lift n).on c) x es.0))
      (coefficient-scale n es.1 c (at (LaurentsD n) es.0 x))

  pub some_coefficient : (n : ℕ) (x : (LaurentsR n).A) → ¬ ((LaurentsR n).◌≈◌ x (LaurentsR n).O) → (es : Exponents n) × Some (coefficient n es x)
  some_coefficient zero x h = (tt, h)
  some_coefficient (suc n) x h =
      let r = some_at (LaurentsD n) x h in
      let s = some_coefficient n (at (LaurentsD n) r.0 x) r.1 in
      ((r.0, s.0), s.1)

  -- ---- The shift

  pub unit_lift : (n : ℕ) (α : A) → Some α → (LaurentsR n).◌≈◌ ((LaurentsR n).◌⊠◌ ((lift n).on α) ((lift n).on (inv α))) (LaurentsR n).I
  unit_lift n α h = (LaurentsR n).trans ((LaurentsR n).symm ((lift n).on-mul α (inv α))) ((LaurentsR n).trans ((lift n).on_cong (α ⊠ inv α) I (mul_inv α h)) (lift n).on-one)

  pub unit_power_lift : (n : ℕ) (α : A) (e : ℤ) → (LaurentsR n).◌≈◌ (unit_power (LaurentsR n) ((lift n).on α) ((lift n).on (inv α)) e) ((lift n).on (power F α e))
  unit_power_lift n α (pos m) = (LaurentsR n).symm (on-pow R (LaurentsR n) (lift n) α m)
  unit_power_lift n α (negsuc m) = (LaurentsR n).symm (on-pow R (LaurentsR n) (lift n) (inv α) (suc m))

  module _ (σ : Hom R R) where
    abbrev pub shift : (αs : List A) → Each Some αs → Hom (LaurentsR (length αs)) (LaurentsR (length αs))
    shift [] s = σ
    shift (α ∷ αs) s = shiftedH (LaurentsD (length αs)) (shift αs s.1) ((lift (length αs)).on α) ((lift (length αs)).on (inv α)) (unit_lift (length αs) α s.0)

    -- exponents by exponents
    pub coefficient-shift : (αs : List A) (s : Each Some αs) (es : Exponents (length αs)) (x : (LaurentsR (length αs)).A)
        → coefficient (length αs) es ((shift αs s).on x) ≈ powers F αs (listed (length αs) es) ⊠ σ.on (coefficient (length αs) es x)
    coefficient-shift [] s es x = symm (I_mul R)
    coefficient-shift (α ∷ αs) s es x =
        trans (coefficient_cong n es.1 (at (LaurentsD n) es.0 ((shift (α ∷ αs) s).on x)) (S.◌⊠◌ ((lift n).on (power F α es.0)) ((shift αs s.1).on y))
        (S.trans (at-shifted (LaurentsD n) (shift αs s.1) ((lift n).on α) ((lift n).on (inv α)) (unit_lift n α s.0) x es.0) (S.mul_cong (unit_power_lift n α es.0) S.rfl)))
        (trans (coefficient-scale n es.1 (power F α es.0) ((shift αs s.1).on y))
        (trans (mul_cong rfl (coefficient-shift αs s.1 es.1 y)) (symm R.mul_assoc)))
      where
        n : ℕ
        n = length αs

        S : Ring
        S = LaurentsR n

        y : S.A
        y = at (LaurentsD n) es.0 x

    -- ---- Independence

    pub record Independent (αs : List A) : Type 0 where
      pub only_zero : (es : List ℤ) → length es ≡ length αs → (r : A) → Some r → σ.on r ≈ powers F αs es ⊠ r → AllZero es

    pub independent_rest : (α : A) (αs : List A) → Independent (α ∷ αs) → Independent αs
    independent_rest α αs i = record { only_zero = λ es l r h e j. i.only_zero (pos 0 ∷ es) (ap suc l) r h (trans e (mul_cong (symm (I_mul R)) rfl)) (suc j) }

    -- an element that its product of powers and the shift leave is at exponents 0, or is 0
    pub leaves : (αs : List A) → Independent αs → (es : Exponents (length αs)) (c : A) → Some c → powers F αs (listed (length αs) es) ⊠ σ.on c ≈ c → AllZero (listed (length αs) es)
    leaves αs i es c h e = i.only_zero (listed (length αs) es) (listed_length (length αs) es) (inv c) (inv_ne F c h) inverse
      where
        p : A
        p = powers F αs (listed (length αs) es)

        whole : σ.on c ⊠ σ.on (inv c) ≈ I
        whole = trans (symm (σ.on-mul c (inv c))) (trans (σ.on_cong (c ⊠ inv c) I (mul_inv c h)) σ.on-one)

        inverse : σ.on (inv c) ≈ p ⊠ inv c
        inverse = by R (p ∷ c ∷ inv c ∷ σ.on c ∷ σ.on (inv c) ∷ [])
            (add_cong (scale R (p ⊠ inv c) whole) (add_cong (scale R (⊟ (σ.on (inv c) ⊠ inv c)) e) (scale R (⊟ (σ.on (inv c))) (mul_inv c h)))) (search reads depth 20 fits 5000) refl

    pub free_product : (α : A) (αs : List A) (s : Each Some (α ∷ αs)) → Independent (α ∷ αs) → IsFree (LaurentsD (length αs)) (shift αs s.1) ((lift (length αs)).on α) ((lift (length αs)).on (inv α))
    free_product α αs s i e h g k = elim ((LaurentsD n).is_zero g) [ yes z ↦ z | no z ↦ absurd (clash (some_coefficient n g z)) ]
      where
        n : ℕ
        n = length αs

        S : Ring
        S = LaurentsR n

        clash : (es : Exponents n) × Some (coefficient n es g) → ⊥
        clash r = h (leaves (α ∷ αs) i (e, r.0) (coefficient n r.0 g) r.1 still 0)
          where
            still : (power F α e ⊠ powers F αs (listed n r.0)) ⊠ σ.on (coefficient n r.0 g) ≈ coefficient n r.0 g
            still = trans R.mul_assoc (trans (mul_cong rfl (symm (coefficient-shift αs s.1 r.0 g)))
                (trans (symm (coefficient-scale n r.0 (power F α e) ((shift αs s.1).on g)))
                (coefficient_cong n r.0 (S.◌⊠◌ ((lift n).on (power F α e)) ((shift αs s.1).on g)) g (S.trans (S.mul_cong (S.symm (unit_power_lift n α e)) S.rfl) k))))

    -- only elements of F are fixed
    pub fixed_lift : (αs : List A) (s : Each Some αs) → Independent αs → (x : (LaurentsR (length αs)).A) → (LaurentsR (length αs)).◌≈◌ ((shift αs s).on x) x
        → (c : A) × (LaurentsR (length αs)).◌≈◌ x ((lift (length αs)).on c) × (σ.on c ≈ c)
    fixed_lift [] s i x h = (x, rfl, h)
    fixed_lift (α ∷ αs) s i x h = go (only_constant (LaurentsD n) (shift αs s.1) ((lift n).on α) ((lift n).on (inv α)) (unit_lift n α s.0) (free_product α αs s i) x h) (λ k. fixed_lift αs s.1 (independent_rest α αs i) (at (LaurentsD (length αs)) (pos 0) x) k)
      where
        n : ℕ
        n = length αs

        S : Ring
        S = LaurentsR n

        y : S.A
        y = at (LaurentsD n) (pos 0) x

        go : (LaurentsR (suc n)).◌≈◌ x ((constantsH (LaurentsD n)).on y) × S.◌≈◌ ((shift αs s.1).on y) y → (S.◌≈◌ ((shift αs s.1).on y) y → (c : A) × S.◌≈◌ y ((lift n).on c) × (σ.on c ≈ c))
            → (c : A) × (LaurentsR (suc n)).◌≈◌ x ((lift (suc n)).on c) × (σ.on c ≈ c)
        go k again =
            let r = again k.1 in
            (r.0, (LaurentsR (suc n)).trans k.0 ((constantsH (LaurentsD n)).on_cong y ((lift n).on r.0) r.1), r.2)

    -- an element that isn't 0 and that the shift multiplies by γ: then γ is a product of powers times σ(r)/r
    pub record Expresses (αs : List A) (γ : A) : Type 0 where
      pub exponents : Exponents (length αs)
      pub ratio : A
      pub some : Some ratio
      pub is : γ ⊠ ratio ≈ powers F αs (listed (length αs) exponents) ⊠ σ.on ratio

    pub expressed_product : (αs : List A) (s : Each Some αs) (γ : A) (x : (LaurentsR (length αs)).A) → ¬ ((LaurentsR (length αs)).◌≈◌ x (LaurentsR (length αs)).O)
        → (LaurentsR (length αs)).◌≈◌ ((shift αs s).on x) ((LaurentsR (length αs)).◌⊠◌ ((lift (length αs)).on γ) x) → Expresses αs γ
    expressed_product αs s γ x h e = go (some_coefficient n x h)
      where
        n : ℕ
        n = length αs

        go : (es : Exponents n) × Some (coefficient n es x) → Expresses αs γ
        go r = record {
          exponents = r.0;
          ratio = coefficient n r.0 x;
          some = r.1;
          is = trans (symm (coefficient-scale n r.0 γ x)) (trans (symm (coefficient_cong n r.0 ((shift αs s).on x) ((LaurentsR n).◌⊠◌ ((lift n).on γ) x) e)) (coefficient-shift αs s r.0 x));
        }

    -- ---- The laws

    module _ (char : (n : ℕ) → ¬ (nat R (suc n) ≈ O)) where
      pub lawful_products : (αs : List A) (s : Each Some αs) → Independent αs → Lawful (LaurentsD (length αs)) (shift αs s)
      lawful_products [] s i = lawful_field F σ char
      lawful_products (α ∷ αs) s i = lawful_product (LaurentsD (length αs)) (shift αs s.1) ((lift (length αs)).on α) ((lift (length αs)).on (inv α)) (unit_lift (length αs) α s.0)
          (free_product α αs s i) (lawful_products αs s.1 (independent_rest α αs i))
