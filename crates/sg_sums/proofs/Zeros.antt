-- Which polynomials in t are zero, equal, constant.
use Rattle.std.proofs.Common.{◌≡◌, ℕ, zero, suc, ◌+◌, ◌<◌, ◌≤◌, sym, subst, List, [], ◌∷◌, map, length, take, get_or, ◌⊎◌, inl, inr, arith, Option, Some, None, IfSome, IfNone, neg_ℤ}
use Rattle.sg_algebra.specs.Ring.{Ring}
use Rattle.sg_algebra.specs.Coefficients.{coef, Each}
use Rattle.sg_algebra.proofs.Lists.{each_to}
use Rattle.sg_algebra.proofs.Ring.{eq_of_sub}
use Rattle.sg_algebra.proofs.PolynomialRing.{PolyR}
use Rattle.sg_algebra.proofs.Value.{Value}
use Rattle.sg_tower_theory.proofs.Formal.{elements, shifted}
use Rattle.sg_algebra.proofs.PolynomialRing.{cons_cong}
use Rattle.sg_algebra.proofs.Value.{inv_value}
use Rattle.sg_tower_theory.proofs.Flat.{unit_in}
use Rattle.sg_tower.specs.Terms.{IsInverse, IsNoUnit}
use Rattle.sg_tower.specs.Elements.{Reading, raised, Same, IsZero, IsCopy, IsValue, IsConstant, IsDifference}
use Rattle.sg_sums.specs.Polynomials.{at_place, ZeroFrom}
use Rattle.sg_sums.proofs.Building.{at_read, at_past, each_push, take_next, take_whole}

module _ {d : ℕ} {E : Type 0} (ρ : Reading d E) where
  abbrev R : Ring
  R = elements ρ.formal

  open R use {◌≈◌, ⊟, ◌⊞◌, O, rfl, symm, trans, add_cong, add_neg}

  abbrev pub ZeroTo : List E → ℕ → ℕ → Type 0
  ZeroTo p n i = (k : ℕ) → n ≤ k → k < i → at_place ρ p k ≈ O

  pub zero_here : (p : List E) (i : ℕ) (x : E) → i < length p → x ≡ get_or p i x → at_place ρ p i ≈ O → IsZero ρ x
  zero_here p i x l e h = rw (at_read R ρ.of p i x l e) at h

  pub zero_next : (p : List E) (n i : ℕ) (x : E) → ZeroTo p n i → i < length p → x ≡ get_or p i x → IsZero ρ x → ZeroTo p n (i + 1)
  zero_next p n i x h l e z k a b = go (side k i b)
    where
      side : (k i : ℕ) → k < i + 1 → (k < i) ⊎ (k ≡ i)
      side k i b = grind arith

      go : (k < i) ⊎ (k ≡ i) → at_place ρ p k ≈ O
      go (inl q) = h k a q
      go (inr q) = subst (λ (j : ℕ). at_place ρ p j ≈ O) (sym q) (rw (at_read R ρ.of p i x l e) z)

  pub zero_whole : (p : List E) (n i : ℕ) → ZeroTo p n i → length p ≤ i → ZeroFrom ρ p n
  zero_whole p n i h l k a = go (side k i)
    where
      side : (k i : ℕ) → (k < i) ⊎ (i ≤ k)
      side k i = grind arith

      go : (k < i) ⊎ (i ≤ k) → at_place ρ p k ≈ O
      go (inl q) = h k a q
      go (inr q) = rw (at_past R ρ.of p k (omega arith)) rfl

  pub zero_past : (p : List E) (n : ℕ) → length p ≤ n → ZeroFrom ρ p n
  zero_past p n h i l = rw (at_past R ρ.of p i (omega arith)) rfl

  later : (fs : List (List E)) (old new : ℕ) → old ≤ new → Each (λ f. ZeroFrom ρ f old) fs → Each (λ f. ZeroFrom ρ f new) fs
  later fs old new l e = each_to (λ f. ZeroFrom ρ f old) (λ f. ZeroFrom ρ f new) fs (λ f z i k. z i (omega arith)) e

  pub zeros_next : (fs : List (List E)) (i : ℕ) (x q : List E) (old own new : ℕ) → Each (λ f. ZeroFrom ρ f old) (take i fs) → i < length fs → x ≡ get_or fs i x → q ≡ x → ZeroFrom ρ q own → old ≤ new → own ≤ new
      → Each (λ f. ZeroFrom ρ f new) (take (i + 1) fs)
  zeros_next fs i x q old own new e l h s z o n = rw (take_next fs i x l h) (each_push (λ f. ZeroFrom ρ f new) (take i fs) x (later (take i fs) old new o e) (λ j k. subst (λ (p : List E). ZeroFrom ρ p own) s z j (omega arith)))

  pub zeros_whole : (fs : List (List E)) (i n : ℕ) → Each (λ f. ZeroFrom ρ f n) (take i fs) → i ≡ length fs → Each (λ f. ZeroFrom ρ f n) fs
  zeros_whole fs i n e h = rw (take_whole fs i h) at e

  module _ (β : E) where
    pub zero_poly : (p : List E) → ZeroFrom ρ p 0 → IsZero (raised ρ β) p
    zero_poly p h = record { image = record { at = λ n. h n (omega arith) } }

    pub poly_zeros : (p : List E) → IsZero (raised ρ β) p → ZeroFrom ρ p 0
    poly_zeros p h i l = h.image.at i

    pub equal_of_zero : (x y r : List E) → IsDifference (raised ρ β) x y r → IsZero (raised ρ β) r → IsCopy (raised ρ β) y x
    equal_of_zero x y r h z = eq_of_sub (PolyR R) ((PolyR R).trans ((PolyR R).symm h) z)

    pub zero_of_equal : (x y r : List E) → IsDifference (raised ρ β) x y r → IsCopy (raised ρ β) y x → IsZero (raised ρ β) r
    zero_of_equal x y r h e = (PolyR R).trans h ((PolyR R).trans ((PolyR R).add_cong e ((PolyR R).rfl {x = (PolyR R).⊟ (map ρ.of y)})) ((PolyR R).add_neg))

    pub swapped : (x y : List E) → IsCopy (raised ρ β) y x → IsCopy (raised ρ β) x y
    swapped x y h = (PolyR R).symm h

    pub none_above : (p : List E) → ¬ ZeroFrom ρ p 1 → (c : Value d) → ¬ IsValue (raised ρ β) c p
    none_above p n c h = n (λ i l. trans (h.image.at i) (past i l))
      where
        past : (i : ℕ) → 1 ≤ i → coef R ((shifted ρ.formal).κ.on c ∷ []) i ≈ O
        past zero l = absurd (omega arith)
        past (suc i) l = rfl

    pub constant_is : {K : Type 0} (v : K → Value d) (p : List E) (low : E) (c : K) → ZeroFrom ρ p 1 → Same ρ (ρ.of low) (at_place ρ p 0) → IsConstant ρ v c low → IsConstant (raised ρ β) v c p
    constant_is v p low c z e h = record { image = record { at = go } }
      where
        go : (n : ℕ) → at_place ρ p n ≈ coef R ((shifted ρ.formal).κ.on (v c) ∷ []) n
        go zero = trans (symm e) h
        go (suc n) = z (suc n) (omega arith)

    pub none_lowest : (p : List E) (low : E) → Same ρ (ρ.of low) (at_place ρ p 0) → ((c : Value d) → ¬ IsValue ρ c low) → (c : Value d) → ¬ IsValue (raised ρ β) c p
    none_lowest p low e n c h = n c (trans e (h.image.at 0))

    -- inverses
    pub unit_raised : (p : List E) (low x : E) (r : List E) → ZeroFrom ρ p 1 → Same ρ (ρ.of low) (at_place ρ p 0) → IsInverse ρ low x → r ≡ x ∷ [] → IsInverse (raised ρ β) p r
    unit_raised p low x r z e u s = record {
      exponents = u.exponents;
      sized = u.sized;
      function = u.function;
      nonzero = u.nonzero;
      left = record { image = record { at = go } };
      right = rw s (cons_cong R (ρ.of x) (unit_in ρ.formal.products ρ.formal.sums (map neg_ℤ u.exponents) (inv_value u.function)) [] [] u.right ((PolyR R).rfl {x = []}));
    }
      where
        go : (n : ℕ) → at_place ρ p n ≈ coef R (unit_in ρ.formal.products ρ.formal.sums u.exponents u.function ∷ []) n
        go zero = trans (symm e) u.left
        go (suc n) = z (suc n) (omega arith)

    pub no_unit_above : (p : List E) → ¬ ZeroFrom ρ p 1 → IsNoUnit (raised ρ β) p
    no_unit_above p n y u = n (λ i l. trans (u.left.image.at i) (past i l))
      where
        past : (i : ℕ) → 1 ≤ i → coef R (unit_in ρ.formal.products ρ.formal.sums u.exponents u.function ∷ []) i ≈ O
        past zero l = absurd (omega arith)
        past (suc i) l = rfl

    pub no_unit_lowest : (p : List E) (low : E) → Same ρ (ρ.of low) (at_place ρ p 0) → IsNoUnit ρ low → IsNoUnit (raised ρ β) p
    no_unit_lowest p low e n y u = n (unit_in ρ.formal.products ρ.formal.sums (map neg_ℤ u.exponents) (inv_value u.function))
        (record { exponents = u.exponents; sized = u.sized; function = u.function; nonzero = u.nonzero; left = trans e (u.left.image.at 0); right = rfl })

pub if_some_to : {K : Type 0} (o : Option K) (P Q : K → Type 0) → ((k : K) → P k → Q k) → IfSome o P → IfSome o Q
if_some_to (Some k) P Q h e = h k e
if_some_to None P Q h e = tt

pub if_none_to : {K : Type 0} (o : Option K) (P Q : Type 0) → (P → Q) → IfNone o P → IfNone o Q
if_none_to (Some k) P Q h e = tt
if_none_to None P Q h e = h e

module _ {d : ℕ} {E : Type 0} (ρ : Reading d E) where
  pub zero_same : (q p : List E) → q ≡ p → ZeroFrom ρ q 1 → ZeroFrom ρ p 1
  zero_same q p e h = subst (λ (z : List E). ZeroFrom ρ z 1) e h

  pub low_same : (q p : List E) (low : E) → q ≡ p → Same ρ (ρ.of low) (at_place ρ q 0) → Same ρ (ρ.of low) (at_place ρ p 0)
  low_same q p low e h = subst (λ (z : List E). Same ρ (ρ.of low) (at_place ρ z 0)) e h
