-- Coefficients as lists of whole numbers.
--   list_tree c           the polynomial as an expression; `list-value` its value, `list-function` its function
--   recurs_of             what holds with lists holds with their expressions
--   no_late_relation      no formal recurrence, no relation from any point on
use Rattle.std.proofs.Common.{◌≡◌, ℕ, zero, suc, ◌+◌, ◌<◌, ℤ, pos, ◌+ℤ◌, ◌*ℤ◌, ◌≤ℤ◌, unsigned_abs, refl, sym, ap, ap₂, ◌∙◌, subst, List, [], ◌∷◌, length, map, get_or, Contains, IsTrue, Option, Some, arith}
use Rattle.std.proofs.lemmas.Int.{ints}
use Rattle.std.proofs.lemmas.List.{length-map}
use Rattle.sg_algebra.specs.Coefficients.{Each, coef, eval}
use Rattle.sg_algebra.proofs.Whole.{ℤR}
use Rattle.sg_algebra.proofs.Place.{Pairwise}
use Rattle.sg_algebra.proofs.PolynomialRing.{PolyR, X, cons-is}
use Rattle.sg_algebra.proofs.Value.{◌+ᵛ◌, ◌*ᵛ◌, zero_value}
use Rattle.sg_algebra.proofs.ValueField.{ValueR}
use Rattle.sg_algebra.proofs.Embedding.{constant_value, constant_value-whole, polynomial_value, polynomial_value_cong, polynomial_value-add, polynomial_value-mul, polynomial_value-zero, polynomial_value_same, whole_value_zero}
use Rattle.sg_algebra.proofs.Rational.{whole_value}
use Rattle.sg_spec.specs.Fraction.{Fraction, whole, plus}
use Rattle.sg_spec.specs.Tree.{Tree, numeral, param, add, mul}
use Rattle.sg_spec.specs.Shape.{is_constant_tree}
use Rattle.sg_spec.specs.Value.{val, both, sum_of, product_of, SameValue}
use Rattle.sg_spec.specs.Generators.{Allowed}
use Rattle.sg_spec.specs.Telescoping.{difference_of}
use Rattle.sg_tower_theory.proofs.Formal.{Formal, Element, IsIndependent}
use Rattle.sg_value_theory.proofs.PointsOf.{HasValues, HasUnits}
use Rattle.sg_answers_theory.specs.Recurrences.{shifts_from, shifts, combined, coefficient, IsLateRelation}
use Rattle.sg_answers_theory.proofs.Combinations.{combination, HoldsAt, Recurs}
use Rattle.sg_answers_theory.proofs.AtParameters.{letter}
use Rattle.sg_answers_theory.proofs.ElementsOver.{AgreesFrom, IsPlaced}
use Rattle.sg_answers_theory.proofs.ZeroPast.{FollowFrom}
use Rattle.sg_answers_theory.proofs.NoRecurrences.{coefficient_of, coefficients, OnlyZero, zero_coefficients}

abbrev pub list_tree : List ℤ → Tree
list_tree [] = numeral (pos 0)
list_tree (z ∷ zs) = add (numeral z) (mul param (list_tree zs))

list-constant : (c : List ℤ) → IsTrue (is_constant_tree (list_tree c))
list-constant [] = refl
list-constant (z ∷ zs) = list-constant zs

whole-plus : (a b : ℤ) → plus (whole a) (whole b) ≡ whole (a +ℤ b)
whole-plus a b =
    let e : a *ℤ pos 1 +ℤ b *ℤ pos 1 ≡ a +ℤ b = omega (arith, ints) in
    ap (λ (z : ℤ). whole z) e

pub list-value : (c : List ℤ) (n k : ℤ) → val (list_tree c) n k ≡ Some (whole (eval ℤR c n))
list-value [] n k = refl
list-value (z ∷ zs) n k = ap (λ u. both sum_of (Some (whole z)) (both product_of (Some (whole n)) u)) (list-value zs n k) ∙ ap (λ x. Some x) (whole-plus z (n *ℤ eval ℤR zs n))

abbrev pub trees : List (List ℤ) → List Tree
trees cs = map list_tree cs

all-constant : (cs : List (List ℤ)) → Each (λ c. IsTrue (is_constant_tree c)) (trees cs)
all-constant [] = tt
all-constant (c ∷ cs) = (list-constant c, all-constant cs)

-- the same combination
combination-same : (cs : List (List ℤ)) (i : ℕ) (f : Tree) (n k : ℤ) (u : ℕ → Option Fraction) → ((j m : ℕ) → m ≡ i + j → u j ≡ val f (n +ℤ pos m) k)
    → combined cs n u ≡ combination (trees cs) i f n k
combination-same [] i f n k u h = refl
combination-same (c ∷ cs) i f n k u h =
    ap₂ (both sum_of) (ap₂ (both product_of) (sym (list-value c n (pos 0))) (h 0 i (at_once i))) (combination-same cs (suc i) f n k (λ j. u (suc j)) (λ j m e. h (suc j) m (one_more i j m e)))
  where
    at_once : (i : ℕ) → i ≡ i + 0
    at_once i = omega arith

    one_more : (i j m : ℕ) → m ≡ suc i + j → m ≡ i + suc j
    one_more i j m e = omega (arith, e)

recurs_of : (cs : List (List ℤ)) (f g : Tree) (K : ℤ)
    → ((k : ℤ) → K ≤ℤ k → (B : ℤ) × ((n : ℤ) → pos 0 ≤ℤ n → B ≤ℤ n → SameValue (combined cs n (λ i. val f (n +ℤ pos i) k)) (both difference_of (val g n (k +ℤ pos 1)) (val g n k)))) → Recurs (trees cs) f g
recurs_of cs f g K h = record { from = K; holds = λ k l. let r = h k l in (pos (unsigned_abs r.0), λ n m. at n k (r.1 n (above n r.0 m) (past n r.0 m))) }
  where
    above : (n b : ℤ) → pos (unsigned_abs b) ≤ℤ n → pos 0 ≤ℤ n
    above n b l = grind (arith, ints, l)

    past : (n b : ℤ) → pos (unsigned_abs b) ≤ℤ n → b ≤ℤ n
    past n b l = grind (arith, ints, l)

    whole_index : (n : ℤ) (j m : ℕ) → m ≡ 0 + j → n +ℤ pos j ≡ n +ℤ pos m
    whole_index n j m e = omega (arith, ints, e)

    at : (n k : ℤ) → SameValue (combined cs n (λ i. val f (n +ℤ pos i) k)) (both difference_of (val g n (k +ℤ pos 1)) (val g n k))
        → HoldsAt (trees cs) f g n k
    at n k e = subst (λ (u : Option Fraction). SameValue u (both difference_of (val g n (k +ℤ pos 1)) (val g n k)))
        (combination-same cs 0 f n k (λ i. val f (n +ℤ pos i) k) (λ j m e. ap (λ (z : ℤ). val f z k) (whole_index n j m e))) e

-- ---- Their functions

list-function : (c : List ℤ) → coefficient_of (list_tree c) ≡ polynomial_value 0 (map (whole_value 0) c)
unfolding coefficient_of
list-function [] = sym (polynomial_value-zero 0)
list-function (z ∷ zs) =
    ap₂ ◌+ᵛ◌ (sym (constant_value-whole 0 z)) (ap (◌*ᵛ◌ letter) (list-function zs))
    ∙ sym (polynomial_value_cong 0 (whole_value 0 z ∷ map (whole_value 0) zs) ((PolyR (ValueR 0)).◌⊞◌ (whole_value 0 z ∷ []) ((PolyR (ValueR 0)).◌⊠◌ (X (ValueR 0)) (map (whole_value 0) zs))) (cons-is (ValueR 0) (whole_value 0 z) (map (whole_value 0) zs))
    ∙ polynomial_value-add 0 (whole_value 0 z ∷ []) ((PolyR (ValueR 0)).◌⊠◌ (X (ValueR 0)) (map (whole_value 0) zs)) ∙ ap (◌+ᵛ◌ (constant_value 0 (whole_value 0 z))) (polynomial_value-mul 0 (X (ValueR 0)) (map (whole_value 0) zs)))

zero_entry : (c : List ℤ) → ((j : ℕ) → coef (ValueR 0) (map (whole_value 0) c) j ≡ zero_value) → (j : ℕ) → get_or c j (pos 0) ≡ pos 0
zero_entry [] h j = refl
zero_entry (z ∷ zs) h zero = whole_value_zero 0 z (h 0)
zero_entry (z ∷ zs) h (suc j) = zero_entry zs (λ i. h (suc i)) j

zero_list : (c : List ℤ) → coefficient_of (list_tree c) ≡ zero_value → (j : ℕ) → get_or c j (pos 0) ≡ pos 0
zero_list c e = zero_entry c (λ j. (polynomial_value_same 0 (map (whole_value 0) c) [] (sym (list-function c) ∙ e ∙ sym (polynomial_value-zero 0))).image.at j)

all-zero : (cs : List (List ℤ)) → ((i : ℕ) → i < length (trees cs) → coefficients (trees cs) i ≡ zero_value) → (i j : ℕ) → coefficient cs i j ≡ pos 0
all-zero [] h i j = refl
all-zero (c ∷ cs) h zero j = zero_list c (h 0 (omega arith)) j
all-zero (c ∷ cs) h (suc i) j = all-zero cs (λ m l. h (suc m) (omega (arith, l))) i j

module _ (s : ℤ) (ps gens : List Tree) (F : Formal 1) (follow : FollowFrom letter s ps gens F) (units : Each (HasUnits letter) ps)
    (values : Each (HasValues letter) gens) (independent : IsIndependent F)
    (allowed : Allowed) (products : (g : Tree) → Contains allowed.products g → IsPlaced letter s ps gens F g) (sums : (g : Tree) → Contains allowed.sums g → (x : Element F) × AgreesFrom letter s ps gens F x g) where
  pub no_late_relation : (f : Tree) (J : ℕ) (xs : List (Element F)) → Pairwise (AgreesFrom letter s ps gens F) xs (shifts J f)
      → OnlyZero s ps gens F follow units values independent xs
      → (cs : List (List ℤ)) (g : Tree) (K : ℤ) → ¬ IsLateRelation allowed f J cs g K
  no_late_relation f J xs a none cs g K r =
      r.some.2 (all-zero cs
      (zero_coefficients s ps gens F follow units values independent allowed products sums f g (trees cs) xs
      (subst (λ (n : ℕ). Pairwise (AgreesFrom letter s ps gens F) xs (shifts_from 0 n f)) (sym (length-map cs list_tree ∙ r.order)) a) none (all-constant cs) r.over (recurs_of cs f g K r.holds)) r.some.0 r.some.1)
