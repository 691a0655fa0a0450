-- Solutions of A τ(g) - B g = c in a field of fractions of a domain with a map σ, where τ is σ on the domain.
--   Fractions D σ K     ι takes the domain into the field; each g of the field is p g / q g in lowest terms
--   Solves a b c g      ι a τ(g) - ι b g = c
--   reduced_to, reduced_from    with a, b reduced to a', b', Q, M: g solves for c exactly where Q g solves the reduced equation for M c
--   solution_sides      the denominator of a solution divides as `Sides` says, where c is in the domain
--   whole_part          a fraction with a unit below is in the domain
--   solves_below, solves_above    the equation of elements of the domain, in the domain and in the field
use Rattle.std.proofs.Common.{refl, [], ◌∷◌}
use Rattle.sg_algebra.specs.Ring.{Domain, Field, Hom}
use Rattle.sg_algebra.proofs.Solver.{by, scale, reads}
use Rattle.sg_algebra.proofs.Field.{field_cancel}
use Rattle.sg_algebra.proofs.Divides.{Divides}
use Rattle.sg_algebra.proofs.Coprime.{Coprime}
use Rattle.sg_first_order_theory.proofs.Terminal.{Sides, sides}
use Rattle.sg_first_order_theory.proofs.Reduction.{Reduction}

module _ (D : Domain) (σ : Hom D.R D.R) where
  open D use {R}
  open R use {A, ◌≈◌, ◌⊞◌, ◌⊠◌, ⊟, O, I}

  pub record Fractions (K : Field) : Type 0 where
    pub ι : A → K.R.A
    pub ι_cong : (x y : A) → x ≈ y → K.R.◌≈◌ (ι x) (ι y)
    pub ι_same : (x y : A) → K.R.◌≈◌ (ι x) (ι y) → x ≈ y
    pub ι-add : (x y : A) → K.R.◌≈◌ (ι (x ⊞ y)) (K.R.◌⊞◌ (ι x) (ι y))
    pub ι-mul : (x y : A) → K.R.◌≈◌ (ι (x ⊠ y)) (K.R.◌⊠◌ (ι x) (ι y))
    pub ι-neg : (x : A) → K.R.◌≈◌ (ι (⊟ x)) (K.R.⊟ (ι x))
    pub ι-one : K.R.◌≈◌ (ι I) K.R.I
    pub ι-zero : K.R.◌≈◌ (ι O) K.R.O
    pub τ : Hom K.R K.R
    pub ι-on : (x : A) → K.R.◌≈◌ (τ.on (ι x)) (ι (σ.on x))
    pub p : K.R.A → A
    pub q : K.R.A → A
    pub q_ne : (g : K.R.A) → ¬ (q g ≈ O)
    pub lowest : (g : K.R.A) → Coprime R (p g) (q g)
    pub parts : (g : K.R.A) → K.R.◌≈◌ (K.R.◌⊠◌ g (ι (q g))) (ι (p g))

  module _ (K : Field) (f : Fractions K) where
    open f use {ι, ι_cong, ι_same, ι-add, ι-mul, ι-neg, ι-one, ι-zero, τ, ι-on, parts, lowest, q_ne}
    open K use {R as S}
    open S use {A as T, ◌≈◌ as ◌≃◌, ◌⊞◌ as ◌+ᵏ◌, ◌⊠◌ as ◌*ᵏ◌, ⊟ as minus, O as Oᵏ, I as Iᵏ, rfl as rflᵏ, symm as symmᵏ, trans as transᵏ, add_cong as addᵏ, mul_cong as mulᵏ}

    abbrev pub Solves : A → A → T → T → Type 0
    Solves a b c g = ι a *ᵏ τ.on g +ᵏ minus (ι b *ᵏ g) ≃ c

    module _ (a b a' b' Q M : A) (r : Reduction D σ a b a' b' Q M) (c g : T) where
      top : ι a *ᵏ ι M ≃ ι a' *ᵏ ι (σ.on Q)
      top = transᵏ (symmᵏ (ι-mul a M)) (transᵏ (ι_cong (a ⊠ M) (a' ⊠ σ.on Q) r.upper) (ι-mul a' (σ.on Q)))

      bottom : ι b *ᵏ ι M ≃ ι b' *ᵏ ι Q
      bottom = transᵏ (symmᵏ (ι-mul b M)) (transᵏ (ι_cong (b ⊠ M) (b' ⊠ Q) r.lower) (ι-mul b' Q))

      moved_y : τ.on (ι Q *ᵏ g) ≃ ι (σ.on Q) *ᵏ τ.on g
      moved_y = transᵏ (τ.on-mul (ι Q) g) (mulᵏ (ι-on Q) rflᵏ)

      pub reduced_to : Solves a b c g → Solves a' b' (ι M *ᵏ c) (ι Q *ᵏ g)
      reduced_to h = by S (ι a ∷ ι b ∷ ι a' ∷ ι b' ∷ ι Q ∷ ι (σ.on Q) ∷ ι M ∷ g ∷ τ.on g ∷ τ.on (ι Q *ᵏ g) ∷ c ∷ [])
          (addᵏ (scale S (ι M) h) (addᵏ (scale S (ι a') moved_y) (addᵏ (scale S (minus (τ.on g)) top) (scale S g bottom)))) (search reads depth 24 fits 8000) refl

      pub reduced_from : Solves a' b' (ι M *ᵏ c) (ι Q *ᵏ g) → Solves a b c g
      reduced_from h = field_cancel K (λ z. r.M_ne (ι_same M O (transᵏ z (symmᵏ ι-zero))))
          (by S (ι a ∷ ι b ∷ ι a' ∷ ι b' ∷ ι Q ∷ ι (σ.on Q) ∷ ι M ∷ g ∷ τ.on g ∷ τ.on (ι Q *ᵏ g) ∷ c ∷ [])
          (addᵏ h (addᵏ (scale S (minus (ι a')) moved_y) (addᵏ (scale S (τ.on g) top) (scale S (minus g) bottom)))) (search reads depth 24 fits 8000) refl)

    pub solves_cong : (a b : A) (c c' g g' : T) → c ≃ c' → g ≃ g' → Solves a b c g → Solves a b c' g'
    solves_cong a b c c' g g' h k s = transᵏ (symmᵏ (addᵏ (mulᵏ {x = ι a} {y = ι a} rflᵏ (τ.on_cong g g' k)) (S.neg_cong (mulᵏ {x = ι b} {y = ι b} rflᵏ k)))) (transᵏ s h)

    pub solution_sides : (a b c : A) (y : T) → Solves a b (ι c) y → Sides R σ a b (f.q y)
    solution_sides a b c y h = sides R σ a b c (f.p y) (f.q y) (lowest y) (ι_same _ _ (transᵏ left (transᵏ middle (symmᵏ right))))
      where
        three : (x y z : A) → ι (x ⊠ (y ⊠ z)) ≃ ι x *ᵏ (ι y *ᵏ ι z)
        three x y z = transᵏ (ι-mul x (y ⊠ z)) (mulᵏ rflᵏ (ι-mul y z))

        left : ι (a ⊠ (σ.on (f.p y) ⊠ f.q y) ⊞ ⊟ (b ⊠ (f.p y ⊠ σ.on (f.q y)))) ≃ ι a *ᵏ (ι (σ.on (f.p y)) *ᵏ ι (f.q y)) +ᵏ minus (ι b *ᵏ (ι (f.p y) *ᵏ ι (σ.on (f.q y))))
        left = transᵏ (ι-add (a ⊠ (σ.on (f.p y) ⊠ f.q y)) (⊟ (b ⊠ (f.p y ⊠ σ.on (f.q y))))) (addᵏ (three a (σ.on (f.p y)) (f.q y)) (transᵏ (ι-neg (b ⊠ (f.p y ⊠ σ.on (f.q y)))) (S.neg_cong (three b (f.p y) (σ.on (f.q y))))))

        right : ι (c ⊠ (f.q y ⊠ σ.on (f.q y))) ≃ ι c *ᵏ (ι (f.q y) *ᵏ ι (σ.on (f.q y)))
        right = three c (f.q y) (σ.on (f.q y))

        moved_p : τ.on y *ᵏ ι (σ.on (f.q y)) ≃ ι (σ.on (f.p y))
        moved_p = transᵏ (mulᵏ rflᵏ (symmᵏ (ι-on (f.q y)))) (transᵏ (symmᵏ (τ.on-mul y (ι (f.q y)))) (transᵏ (τ.on_cong (y *ᵏ ι (f.q y)) (ι (f.p y)) (parts y)) (ι-on (f.p y))))

        middle : ι a *ᵏ (ι (σ.on (f.p y)) *ᵏ ι (f.q y)) +ᵏ minus (ι b *ᵏ (ι (f.p y) *ᵏ ι (σ.on (f.q y)))) ≃ ι c *ᵏ (ι (f.q y) *ᵏ ι (σ.on (f.q y)))
        middle = by S (ι a ∷ ι b ∷ ι c ∷ y ∷ τ.on y ∷ ι (f.p y) ∷ ι (f.q y) ∷ ι (σ.on (f.p y)) ∷ ι (σ.on (f.q y)) ∷ [])
            (addᵏ (scale S (ι (f.q y) *ᵏ ι (σ.on (f.q y))) h) (addᵏ (scale S (ι b *ᵏ ι (σ.on (f.q y))) (parts y)) (scale S (minus (ι a *ᵏ ι (f.q y))) moved_p))) (search reads depth 24 fits 8000) refl

    pub whole_part : (y : T) (d : Divides R (f.q y) I) → y ≃ ι (f.p y ⊠ d.cofactor)
    whole_part y d = transᵏ (by S (y ∷ ι (f.p y) ∷ ι (f.q y) ∷ ι d.cofactor ∷ []) (addᵏ (scale S (ι d.cofactor) (parts y)) (scale S y one)) (search reads depth 16) refl) (symmᵏ (ι-mul (f.p y) d.cofactor))
      where
        one : Iᵏ ≃ ι (f.q y) *ᵏ ι d.cofactor
        one = transᵏ (symmᵏ ι-one) (transᵏ (ι_cong I (f.q y ⊠ d.cofactor) d.is) (ι-mul (f.q y) d.cofactor))

    pub solves_below : (a b c y : A) → Solves a b (ι c) (ι y) → a ⊠ σ.on y ⊞ ⊟ (b ⊠ y) ≈ c
    solves_below a b c y h = ι_same _ _ (transᵏ (transᵏ (ι-add (a ⊠ σ.on y) (⊟ (b ⊠ y))) (addᵏ (transᵏ (ι-mul a (σ.on y)) (mulᵏ rflᵏ (symmᵏ (ι-on y)))) (transᵏ (ι-neg (b ⊠ y)) (S.neg_cong (ι-mul b y))))) h)

    pub solves_above : (a b c y : A) → a ⊠ σ.on y ⊞ ⊟ (b ⊠ y) ≈ c → Solves a b (ι c) (ι y)
    solves_above a b c y h = transᵏ (symmᵏ (transᵏ (ι-add (a ⊠ σ.on y) (⊟ (b ⊠ y))) (addᵏ (transᵏ (ι-mul a (σ.on y)) (mulᵏ rflᵏ (symmᵏ (ι-on y)))) (transᵏ (ι-neg (b ⊠ y)) (S.neg_cong (ι-mul b y)))))) (ι_cong _ _ h)
