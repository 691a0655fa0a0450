-- All solutions of σ(g) - g = c 0 f₀ + c 1 f₁ + .. for Laurent polynomials: exponents by exponents.
--   monomial n es c          c times the product of powers
--   laurents B αs            Laurent polynomials as a ring with a shift over the constants of B
--   Inside es x              outside the list es of exponents x has no coefficient
--   slice_at e es            the slice at e, on which the problem is α^e σ(h) - h = ..
--   inside_of                all solutions are inside a list that has all exponents of the right sides, and 0
--   state_begin, all_sound, all_complete    the recursion over such a list
use Rattle.std.proofs.Common.{◌≡◌, ℕ, zero, suc, refl, sym, ap, subst, List, [], ◌∷◌, ℤ, length}
use lib.IntN.{ℤ_discrete}
use Rattle.sg_algebra.specs.Ring.{Ring, Field, Hom}
use Rattle.sg_algebra.specs.Coefficients.{Each}
use Rattle.sg_algebra.proofs.Ring.{mul_O, neg_O}
use Rattle.sg_algebra.proofs.Solver.{by, reads}
use Rattle.sg_algebra.proofs.Divides.{after, on-O}
use Rattle.sg_algebra.proofs.Lists.{each_to}
use Rattle.sg_algebra.proofs.Place.{Pairwise}
use Rattle.sg_tower_theory.specs.Powers.{powers}
use Rattle.sg_tower_theory.proofs.Difference.{Difference, total, total_O, on-total, Spanned}
use Rattle.sg_tower_theory.proofs.Laurent.{constantsH}
use Rattle.sg_tower_theory.proofs.LaurentCoefficients.{at, term, term-at, term-past}
use Rattle.sg_tower_theory.proofs.LaurentShift.{shifted-constant}
use Rattle.sg_tower_theory.proofs.Products.{Exponents, listed, zeros, zeros_are, Some, LaurentsD, LaurentsR, lift, unit_lift, coefficient, coefficient_cong, same_coefficients, coefficient-add, coefficient-neg, coefficient-none, coefficient-scale, coefficient-shift, shift, Independent, leaves}
use Rattle.sg_tower_theory.proofs.Slices.{Map, Space, Slice, twisted, differences, IsState, IsNext, state_next, state_sound, state_complete}
use Rattle.sg_tower_theory.proofs.Starting.{Starts, state_start}

pub exponents_same : (n : ℕ) (es fs : Exponents n) → Dec (es ≡ fs)
exponents_same zero es fs = yes refl
exponents_same (suc n) es fs = go (ℤ_discrete es.0 fs.0) (exponents_same n es.1 fs.1)
  where
    go : Dec (es.0 ≡ fs.0) → Dec (es.1 ≡ fs.1) → Dec (es ≡ fs)
    go (yes h) (yes k) = yes (rw (h, k) refl)
    go (no h) k = no (λ e. h (ap (λ (s : Exponents (suc n)). s.0) e))
    go (yes h) (no k) = no (λ e. k (ap (λ (s : Exponents (suc n)). s.1) e))

module _ (F : Field) where
  open F use {R}
  open R use {A, ◌≈◌, ◌⊞◌, ◌⊠◌, ⊟, O, I, rfl, symm, trans, add_cong, mul_cong, neg_cong}

  abbrev pub monomial : (n : ℕ) → Exponents n → A → (LaurentsR F n).A
  monomial zero es c = c
  monomial (suc n) es c = term (LaurentsD F n) es.0 (monomial n es.1 c)

  pub monomial-at : (n : ℕ) (es : Exponents n) (c : A) → coefficient F n es (monomial n es c) ≈ c
  monomial-at zero es c = rfl
  monomial-at (suc n) es c = trans (coefficient_cong F n es.1 (at (LaurentsD F n) es.0 (monomial (suc n) es c)) (monomial n es.1 c) (term-at (LaurentsD F n) es.0 (monomial n es.1 c))) (monomial-at n es.1 c)

  pub monomial-past : (n : ℕ) (es fs : Exponents n) (c : A) → ¬ (fs ≡ es) → coefficient F n fs (monomial n es c) ≈ O
  monomial-past zero es fs c h = absurd (h refl)
  monomial-past (suc n) es fs c h = go (ℤ_discrete fs.0 es.0) (λ k. monomial-past n es.1 fs.1 c k)
    where
      go : Dec (fs.0 ≡ es.0) → (¬ (fs.1 ≡ es.1) → coefficient F n fs.1 (monomial n es.1 c) ≈ O) → coefficient F n fs.1 (at (LaurentsD F n) fs.0 (term (LaurentsD F n) es.0 (monomial n es.1 c))) ≈ O
      go (yes e) again = subst (λ (z : ℤ). coefficient F n fs.1 (at (LaurentsD F n) z (term (LaurentsD F n) es.0 (monomial n es.1 c))) ≈ O) (sym e)
          (trans (coefficient_cong F n fs.1 (at (LaurentsD F n) es.0 (term (LaurentsD F n) es.0 (monomial n es.1 c))) (monomial n es.1 c) (term-at (LaurentsD F n) es.0 (monomial n es.1 c))) (again (λ k. h (rw (e, k) refl))))
      go (no e) again = trans (coefficient_cong F n fs.1 (at (LaurentsD F n) fs.0 (term (LaurentsD F n) es.0 (monomial n es.1 c))) (LaurentsR F n).O (term-past (LaurentsD F n) es.0 fs.0 (monomial n es.1 c) e)) (coefficient-none F n fs.1)

  -- equal where the coefficients at the exponents are, and at all others nothing is
  pub same_monomial : (n : ℕ) (es : Exponents n) (x : A) (y : (LaurentsR F n).A) → coefficient F n es y ≈ x → ((fs : Exponents n) → ¬ (fs ≡ es) → coefficient F n fs y ≈ O) → (LaurentsR F n).◌≈◌ (monomial n es x) y
  same_monomial n es x y h k = same_coefficients F n (monomial n es x) y (λ fs. go fs (exponents_same n fs es))
    where
      go : (fs : Exponents n) → Dec (fs ≡ es) → coefficient F n fs (monomial n es x) ≈ coefficient F n fs y
      go fs (yes e) = subst (λ (z : Exponents n). coefficient F n z (monomial n es x) ≈ coefficient F n z y) (sym e) (trans (monomial-at n es x) (symm h))
      go fs (no e) = trans (monomial-past n es fs x e) (symm (k fs e))

  pub monomial_cong : (n : ℕ) (es : Exponents n) (x y : A) → x ≈ y → (LaurentsR F n).◌≈◌ (monomial n es x) (monomial n es y)
  monomial_cong n es x y h = same_monomial n es x (monomial n es y) (trans (monomial-at n es y) (symm h)) (λ fs k. monomial-past n es fs y k)

  pub monomial-add : (n : ℕ) (es : Exponents n) (x y : A) → (LaurentsR F n).◌≈◌ (monomial n es (x ⊞ y)) ((LaurentsR F n).◌⊞◌ (monomial n es x) (monomial n es y))
  monomial-add n es x y = same_monomial n es (x ⊞ y) ((LaurentsR F n).◌⊞◌ (monomial n es x) (monomial n es y))
      (trans (coefficient-add F n es (monomial n es x) (monomial n es y)) (add_cong (monomial-at n es x) (monomial-at n es y)))
      (λ fs k. trans (coefficient-add F n fs (monomial n es x) (monomial n es y)) (trans (add_cong (monomial-past n es fs x k) (monomial-past n es fs y k)) R.add_O))

  pub monomial-scale : (n : ℕ) (es : Exponents n) (c x : A) → (LaurentsR F n).◌≈◌ (monomial n es (c ⊠ x)) ((LaurentsR F n).◌⊠◌ ((lift F n).on c) (monomial n es x))
  monomial-scale n es c x = same_monomial n es (c ⊠ x) ((LaurentsR F n).◌⊠◌ ((lift F n).on c) (monomial n es x))
      (trans (coefficient-scale F n es c (monomial n es x)) (mul_cong rfl (monomial-at n es x)))
      (λ fs k. trans (coefficient-scale F n fs c (monomial n es x)) (trans (mul_cong rfl (monomial-past n es fs x k)) (mul_O R)))

  pub monomial-none : (n : ℕ) (es : Exponents n) → (LaurentsR F n).◌≈◌ (monomial n es O) (LaurentsR F n).O
  monomial-none n es = same_monomial n es O (LaurentsR F n).O (coefficient-none F n es) (λ fs k. coefficient-none F n fs)

  module _ (σ : Hom R R) where
    pub shift-lift : (αs : List A) (s : Each (Some F) αs) (c : A) → (LaurentsR F (length αs)).◌≈◌ ((shift F σ αs s).on ((lift F (length αs)).on c)) ((lift F (length αs)).on (σ.on c))
    shift-lift [] s c = rfl
    shift-lift (α ∷ αs) s c = (LaurentsR F (suc (length αs))).trans
        (shifted-constant (LaurentsD F (length αs)) (shift F σ αs s.1) ((lift F (length αs)).on α) ((lift F (length αs)).on (F.inv α)) (unit_lift F (length αs) α s.0) ((lift F (length αs)).on c))
        ((constantsH (LaurentsD F (length αs))).on_cong ((shift F σ αs s.1).on ((lift F (length αs)).on c)) ((lift F (length αs)).on (σ.on c)) (shift-lift αs s.1 c))

module _ (F : Field) {C : Ring} (B : Difference C F.R) (αs : List F.R.A) (s : Each (Some F) αs) where
  open F use {R}
  open R use {A, ◌≈◌, ◌⊞◌, ◌⊠◌, ⊟, O, I, rfl, symm, trans, add_cong, mul_cong, neg_cong}

  abbrev pub n : ℕ
  n = length αs

  abbrev pub S : Ring
  S = LaurentsR F n

  abbrev pub laurents : Difference C S
  laurents = record {
    σ = shift F B.σ αs s;
    κ = after C R S B.κ (lift F n);
    fixed = λ c. S.trans (shift-lift F B.σ αs s (B.κ.on c)) ((lift F n).on_cong (B.σ.on (B.κ.on c)) (B.κ.on c) (B.fixed c));
  }

  abbrev pub factor : Exponents n → A
  factor es = powers F αs (listed n es)

  pub coefficient-difference : (es : Exponents n) (x : S.A) → coefficient F n es (S.◌⊞◌ (laurents.σ.on x) (S.⊟ x)) ≈ factor es ⊠ B.σ.on (coefficient F n es x) ⊞ ⊟ (coefficient F n es x)
  coefficient-difference es x = trans (coefficient-add F n es (laurents.σ.on x) (S.⊟ x)) (add_cong (coefficient-shift F B.σ αs s es x) (coefficient-neg F n es x))

  abbrev pub Outside : Exponents n → List (Exponents n) → Type 0
  Outside e es = Each (λ f. ¬ (e ≡ f)) es

  -- no coefficient outside the list
  pub record Inside (es : List (Exponents n)) (x : S.A) : Type 0 where
    pub none : (e : Exponents n) → Outside e es → coefficient F n e x ≈ O

  abbrev pub parts : Exponents n → Map laurents B
  parts e = record {
    linear = record { on = coefficient F n e; on-add = coefficient-add F n e; on-scale = λ c x. coefficient-scale F n e (B.κ.on c) x; on-none = coefficient-none F n e };
    cong = coefficient_cong F n e;
  }

  abbrev pub puts : Exponents n → Map B laurents
  puts e = record {
    linear = record { on = monomial F n e; on-add = monomial-add F n e; on-scale = λ c x. monomial-scale F n e (B.κ.on c) x; on-none = monomial-none F n e };
    cong = monomial_cong F n e;
  }

  pub inside_space : (es : List (Exponents n)) → Space laurents (Inside es)
  inside_space es = record {
    same = λ x y h b. record { none = λ e o. trans (symm (coefficient_cong F n e x y h)) (b.none e o) };
    none = record { none = λ e o. coefficient-none F n e };
    add = λ x y b c. record { none = λ e o. trans (coefficient-add F n e x y) (trans (add_cong (b.none e o) (c.none e o)) R.add_O) };
    scaled = λ k x b. record { none = λ e o. trans (coefficient-scale F n e (B.κ.on k) x) (trans (mul_cong rfl (b.none e o)) (mul_O R)) };
    neg = λ x b. record { none = λ e o. trans (coefficient-neg F n e x) (trans (neg_cong (b.none e o)) (neg_O R)) };
  }

  pub inside_end : (x : S.A) → Inside [] x → S.◌≈◌ x S.O
  inside_end x b = same_coefficients F n x S.O (λ e. trans (b.none e tt) (symm (coefficient-none F n e)))

  pub after_at : (e : Exponents n) (es : List (Exponents n)) (x : S.A) → Inside (e ∷ es) x → coefficient F n e x ≈ O → Inside es x
  after_at e es x b z = record { none = λ f o. go f o (exponents_same n f e) }
    where
      go : (f : Exponents n) → Outside f es → Dec (f ≡ e) → coefficient F n f x ≈ O
      go f o (yes q) = subst (λ (i : Exponents n). coefficient F n i x ≈ O) (sym q) z
      go f o (no q) = b.none f (q, o)

  pub difference_inside : (es : List (Exponents n)) (x : S.A) → Inside es x → Inside es (S.◌⊞◌ (laurents.σ.on x) (S.⊟ x))
  difference_inside es x b = record { none = λ f o. trans (coefficient-difference f x) (nothing (factor f) (coefficient F n f x) (b.none f o)) }
    where
      nothing : (a c : A) → c ≈ O → a ⊠ B.σ.on c ⊞ ⊟ c ≈ O
      nothing a c h = trans (add_cong (trans (mul_cong rfl (trans (B.σ.on_cong c O h) (on-O R R B.σ))) (mul_O R)) (trans (neg_cong h) (neg_O R))) R.add_O

  pub monomial_inside : (e : Exponents n) (es : List (Exponents n)) (h : A) → Inside (e ∷ es) (monomial F n e h)
  monomial_inside e es h = record { none = λ f o. monomial-past F n e f h o.0 }

  -- the slice at e
  abbrev pub slice_at : (e : Exponents n) (es : List (Exponents n)) → Slice B laurents (twisted B (factor e)) (differences laurents) (Inside (e ∷ es)) (Inside es)
  slice_at e es = record {
    before = inside_space (e ∷ es);
    part = parts e;
    put = puts e;
    after = after_at e es;
    outer_before = difference_inside (e ∷ es);
    put_before = monomial_inside e es;
    part-put = monomial-at F n e;
    part-outer = λ x b. coefficient-difference e x;
  }

  module _ (i : Independent F B.σ αs) {X : Type 0} (m : X → S.A) (fs : List X) where
    -- a solution has exponents of the right sides, and 0, alone
    pub inside_of : (es : List (Exponents n)) → Each (λ f. Inside (zeros n ∷ es) (m f)) fs → (c : ℕ → C.A) (g : S.A) → S.◌≈◌ (S.◌⊞◌ (laurents.σ.on g) (S.⊟ g)) (total laurents m c fs) → Inside (zeros n ∷ es) g
    inside_of es h c g e = record { none = λ f o. at f o (F.is_zero (coefficient F n f g)) }
      where
        still : (f : Exponents n) → Outside f (zeros n ∷ es) → factor f ⊠ B.σ.on (coefficient F n f g) ≈ coefficient F n f g
        still f o = by R (factor f ∷ B.σ.on (coefficient F n f g) ∷ coefficient F n f g ∷ [])
            (trans (symm (coefficient-difference f g)) (trans (coefficient_cong F n f (S.◌⊞◌ (laurents.σ.on g) (S.⊟ g)) (total laurents m c fs) e)
            (trans (on-total laurents B (parts f).linear m c fs) (total_O B (λ x. coefficient F n f (m x)) c fs (each_to (λ x. Inside (zeros n ∷ es) (m x)) (λ x. coefficient F n f (m x) ≈ O) fs (λ x b. b.none f o) h))))) (search reads depth 16) refl

        at : (f : Exponents n) → Outside f (zeros n ∷ es) → Dec (coefficient F n f g ≈ O) → coefficient F n f g ≈ O
        at f o (yes z) = z
        at f o (no z) = absurd (o.0 (zeros_are n f (leaves F B.σ αs i f (coefficient F n f g) z (still f o))))

    module _ {W : Type 0} (consts : W → ℕ → C.A) (value left : W → S.A) where
      abbrev pub State : List (Exponents n) → List W → Type 0
      State es rows = IsState laurents (differences laurents) m fs consts value left (Inside es) rows

      pub state_begin : (es : List (Exponents n)) (rows : List W) → Starts laurents (differences laurents) m fs consts value left 0 fs rows → Each (λ f. Inside (zeros n ∷ es) (m f)) fs → State (zeros n ∷ es) rows
      state_begin es rows s h = state_start laurents (differences laurents) m fs consts value left (Inside (zeros n ∷ es)) (inside_space (zeros n ∷ es)) rows s h (inside_of es h)

      pub all_sound : (rows : List W) → State [] rows → Each (λ w. S.◌≈◌ (S.◌⊞◌ (laurents.σ.on (value w)) (S.⊟ (value w))) (total laurents m (consts w) fs)) rows
      all_sound rows st = state_sound laurents (differences laurents) m fs consts value left (Inside []) inside_end rows st

      pub all_complete : (rows : List W) → State [] rows → (c : ℕ → C.A) (g : S.A) → S.◌≈◌ (S.◌⊞◌ (laurents.σ.on g) (S.⊟ g)) (total laurents m c fs) → Spanned laurents (length fs) consts value rows c g
      all_complete rows st = state_complete laurents (differences laurents) m fs consts value left (Inside []) inside_end rows st

      -- one list of exponents: the inner problem is a h(k + 1) - h(k), with a = α₁^e₁ α₂^e₂ ..
      module _ (e : Exponents n) (es : List (Exponents n)) (rows : List W) {G : Type 0} (l : G → A) (ls : List G) {Y : Type 0} (inner_consts : Y → ℕ → C.A) (inner_value : Y → A) where
        abbrev pub Sides : Type 0
        Sides = Pairwise (λ w x. l x ≈ coefficient F n e (left w)) rows ls

        abbrev pub Next : Y → W → Type 0
        Next = IsNext B laurents (twisted B (factor e)) (differences laurents) m fs consts value left (Inside (e ∷ es)) (Inside es) (slice_at e es) rows l ls inner_consts inner_value

        pub all_next : (solved : List Y) (new : List W) → State (e ∷ es) rows → Sides
            → Each (λ v. factor e ⊠ B.σ.on (inner_value v) ⊞ ⊟ (inner_value v) ≈ total B l (inner_consts v) ls) solved
            → ((c : ℕ → C.A) (h : A) → factor e ⊠ B.σ.on h ⊞ ⊟ h ≈ total B l c ls → Spanned B (length ls) inner_consts inner_value solved c h)
            → Pairwise Next solved new → State es new
        all_next = state_next B laurents (twisted B (factor e)) (differences laurents) m fs consts value left (Inside (e ∷ es)) (Inside es) (slice_at e es) rows l ls inner_consts inner_value
