-- Rings with a shift over constants, and sums with constants as factors.
--   Difference C R          a shift of R, and the constants C in R, which it fixes
--   trivial C               the constants over themselves
--   delta B x               σ(x) - x
--   total B f m xs          m 0 f(x₀) + m 1 f(x₁) + .. for the items x₀, x₁, .. of xs
--   mixed C f m xs          the same for vectors f(x) of constants, place by place
--   Linear B D              a map of rings with constants that keeps sums and constant factors
--   Solves, Spanned         the equation σ(g) - g = c 0 f₀ + c 1 f₁ + ..; a combination of rows
use Rattle.std.proofs.Common.{ℕ, suc, ◌<◌, refl, List, [], ◌∷◌, length, arith}
use Rattle.sg_algebra.specs.Ring.{Ring, Hom}
use Rattle.sg_algebra.specs.Coefficients.{Each}
use Rattle.sg_algebra.proofs.Ring.{mul_O, O_mul, add4}
use Rattle.sg_algebra.proofs.Solver.{ring, reads}
use Rattle.sg_algebra.proofs.Divides.{identity, on-O}
use Rattle.sg_algebra.proofs.Place.{Pairwise}

pub record Difference (C R : Ring) : Type 0 where
  pub σ : Hom R R
  pub κ : Hom C R
  pub fixed : (x : C.A) → R.◌≈◌ (σ.on (κ.on x)) (κ.on x)

abbrev pub trivial : (C : Ring) → Difference C C
trivial C = record { σ = identity C; κ = identity C; fixed = λ x. C.rfl }

module _ {C R : Ring} (B : Difference C R) where
  open B use {σ, κ, fixed}
  open R use {A, ◌≈◌, ◌⊞◌, ◌⊠◌, ⊟, O, I, rfl, symm, trans, add_cong, mul_cong, neg_cong, add_O}

  abbrev pub delta : A → A
  delta x = σ.on x ⊞ ⊟ x

  pub delta_cong : (x y : A) → x ≈ y → delta x ≈ delta y
  delta_cong x y h = add_cong (σ.on_cong x y h) (neg_cong h)

  abbrev pub total : {X : Type 0} → (X → A) → (ℕ → C.A) → List X → A
  total f m [] = O
  total f m (x ∷ xs) = κ.on (m 0) ⊠ f x ⊞ total f (λ i. m (suc i)) xs

  pub total_cong : {X : Type 0} (f g : X → A) (m k : ℕ → C.A) (xs : List X) → ((x : X) → f x ≈ g x) → ((i : ℕ) → i < length xs → C.◌≈◌ (m i) (k i)) → total f m xs ≈ total g k xs
  total_cong f g m k [] h e = rfl
  total_cong f g m k (x ∷ xs) h e = add_cong (mul_cong (κ.on_cong (m 0) (k 0) (e 0 (omega arith))) (h x)) (total_cong f g (λ i. m (suc i)) (λ i. k (suc i)) xs h (λ i l. e (suc i) (omega arith)))

  pub total_pairwise : {X Y : Type 0} (f : X → A) (g : Y → A) (m : ℕ → C.A) (xs : List X) (ys : List Y) → Pairwise (λ x y. f x ≈ g y) xs ys → total f m xs ≈ total g m ys
  total_pairwise f g m [] [] p = rfl
  total_pairwise f g m [] (y ∷ ys) p = absurd p
  total_pairwise f g m (x ∷ xs) [] p = absurd p
  total_pairwise f g m (x ∷ xs) (y ∷ ys) p = add_cong (mul_cong rfl p.0) (total_pairwise f g (λ i. m (suc i)) xs ys p.1)

  pub total-add : {X : Type 0} (f g : X → A) (m : ℕ → C.A) (xs : List X) → total (λ x. f x ⊞ g x) m xs ≈ total f m xs ⊞ total g m xs
  total-add f g m [] = symm add_O
  total-add f g m (x ∷ xs) = trans (add_cong R.distrib (total-add f g (λ i. m (suc i)) xs)) (add4 R)

  pub total-none : {X : Type 0} (f : X → A) (xs : List X) → total f (λ i. C.O) xs ≈ O
  total-none f [] = rfl
  total-none f (x ∷ xs) = trans (add_cong (trans (mul_cong (on-O C R κ) rfl) (O_mul R)) (total-none f xs)) add_O

  pub total_O : {X : Type 0} (f : X → A) (m : ℕ → C.A) (xs : List X) → Each (λ x. f x ≈ O) xs → total f m xs ≈ O
  total_O f m [] h = rfl
  total_O f m (x ∷ xs) h = trans (add_cong (trans (mul_cong rfl h.0) (mul_O R)) (total_O f (λ i. m (suc i)) xs h.1)) add_O

  pub total-plus : {X : Type 0} (f : X → A) (a : C.A) (m k : ℕ → C.A) (xs : List X) → total f (λ i. C.◌⊞◌ (C.◌⊠◌ a (m i)) (k i)) xs ≈ κ.on a ⊠ total f m xs ⊞ total f k xs
  total-plus f a m k [] = symm (trans (add_cong (mul_O R) rfl) add_O)
  total-plus f a m k (x ∷ xs) = trans (add_cong (mul_cong (trans (κ.on-add (C.◌⊠◌ a (m 0)) (k 0)) (add_cong (κ.on-mul a (m 0)) rfl)) rfl) (total-plus f a (λ i. m (suc i)) (λ i. k (suc i)) xs))
      (ring R (κ.on a ∷ κ.on (m 0) ∷ κ.on (k 0) ∷ f x ∷ total f (λ i. m (suc i)) xs ∷ total f (λ i. k (suc i)) xs ∷ []) (search reads depth 20) refl)

  -- one unit factor
  pub total_one : {X : Type 0} (f : X → A) (m : ℕ → C.A) (xs : List X) → ((i : ℕ) → C.◌≈◌ (m i) C.O) → total f m xs ≈ O
  total_one f m xs h = trans (total_cong f f m (λ i. C.O) xs (λ x. rfl) (λ i l. h i)) (total-none f xs)

abbrev pub mixed : (C : Ring) {X : Type 0} → (X → ℕ → C.A) → (ℕ → C.A) → List X → ℕ → C.A
mixed C f m xs i = total (trivial C) (λ x. f x i) m xs

module _ {C R : Ring} (B : Difference C R) where
  open B use {κ}
  open R use {A, ◌≈◌, trans, rfl, add_cong}

  pub total-mixed : {X Y : Type 0} (f : X → A) (b : Y → ℕ → C.A) (m : ℕ → C.A) (ys : List Y) (xs : List X) → total B f (mixed C b m ys) xs ≈ total B (λ y. total B f (b y) xs) m ys
  total-mixed f b m [] xs = total-none B f xs
  total-mixed f b m (y ∷ ys) xs = trans (total-plus B f (m 0) (b y) (mixed C b (λ i. m (suc i)) ys) xs) (add_cong rfl (total-mixed f b (λ i. m (suc i)) ys xs))

  -- σ(g) - g = c 0 m(f₀) + c 1 m(f₁) + ..
  abbrev pub Solves : {X : Type 0} → (X → A) → List X → (ℕ → C.A) → A → Type 0
  Solves m fs c g = delta B g ≈ total B m c fs

  -- the first n constants, and the element, are a combination of those of the rows
  pub record Spanned {Y : Type 0} (n : ℕ) (consts : Y → ℕ → C.A) (value : Y → A) (rows : List Y) (c : ℕ → C.A) (g : A) : Type 0 where
    pub weights : ℕ → C.A
    pub same_consts : (i : ℕ) → i < n → C.◌≈◌ (c i) (mixed C consts weights rows i)
    pub same_value : g ≈ total B value weights rows

-- maps that are linear over the constants
pub record Linear {C R S : Ring} (B : Difference C R) (D : Difference C S) : Type 0 where
  pub on : R.A → S.A
  pub on-add : (x y : R.A) → S.◌≈◌ (on (R.◌⊞◌ x y)) (S.◌⊞◌ (on x) (on y))
  pub on-scale : (c : C.A) (x : R.A) → S.◌≈◌ (on (R.◌⊠◌ (B.κ.on c) x)) (S.◌⊠◌ (D.κ.on c) (on x))
  pub on-none : S.◌≈◌ (on R.O) S.O

pub on-total : {C R S : Ring} (B : Difference C R) (D : Difference C S) (l : Linear B D) {X : Type 0} (f : X → R.A) (m : ℕ → C.A) (xs : List X) → S.◌≈◌ (l.on (total B f m xs)) (total D (λ x. l.on (f x)) m xs)
on-total B D l f m [] = l.on-none
on-total {C} {R} {S} B D l f m (x ∷ xs) = S.trans (l.on-add (R.◌⊠◌ (B.κ.on (m 0)) (f x)) (total B f (λ i. m (suc i)) xs)) (S.add_cong (l.on-scale (m 0) (f x)) (on-total B D l f (λ i. m (suc i)) xs))
