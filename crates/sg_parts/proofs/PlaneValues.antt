-- The value of a part is that of its polynomial.
--   IsPolynomialTree built from numerals, the variable, the parameter, sums, products, opposites and powers alone
--   plane_value      the value of a polynomial at a parameter and a variable
--   value_of_tree    such a tree has the value of its coefficients, at every parameter and variable
use Rattle.std.proofs.Common.{◌≡◌, ℕ, zero, suc, refl, sym, ap, ap₂, ◌∙◌, List, [], ◌∷◌, map, ℤ, pos, neg_ℤ, ◌+ℤ◌, ◌-ℤ◌, ◌*ℤ◌, Option, Some}
use Rattle.sg_algebra.specs.Coefficients.{zip_longest, conv, horner, eval}
use Rattle.sg_algebra.proofs.Whole.{ℤR, readsℤ, mul-oneℤ}
use Rattle.sg_algebra.proofs.Solver.{ring}
use Rattle.sg_algebra.proofs.Horner.{horner-zip, horner-conv, horner-neg}
use Rattle.sg_spec.specs.Fraction.{Fraction, whole}
use Rattle.sg_spec.specs.Tree.{Tree, numeral, here, param, add, neg, mul, div, power, sum_from, prod_from}
use Rattle.sg_spec.specs.Value.{val, both, sum_of, product_of, opposite_of, power_of}
use Rattle.sg_spec.specs.Parts.{Plane, plane_add, plane_mul, plane_neg, plane_power, coefficients}

abbrev pub IsPolynomialTree : Tree → Type 0
IsPolynomialTree (numeral c) = Unit {0}
IsPolynomialTree here = Unit {0}
IsPolynomialTree param = Unit {0}
IsPolynomialTree (add x y) = IsPolynomialTree x × IsPolynomialTree y
IsPolynomialTree (neg x) = IsPolynomialTree x
IsPolynomialTree (mul x y) = IsPolynomialTree x × IsPolynomialTree y
IsPolynomialTree (div x y) = ⊥
IsPolynomialTree (power x e) = IsPolynomialTree x
IsPolynomialTree (sum_from from body) = ⊥
IsPolynomialTree (prod_from from body) = ⊥

abbrev pub plane_value : Plane → ℤ → ℤ → ℤ
plane_value p n k = horner ℤR (λ row. eval ℤR row k) n p

module _ (n k : ℤ) where
  row-add : (p q : List ℤ) → eval ℤR (zip_longest ◌+ℤ◌ p q) k ≡ eval ℤR p k +ℤ eval ℤR q k
  row-add p q = horner-zip ℤR (λ a. a) k ◌+ℤ◌ (λ a b. refl) p q

  row-mul : (p q : List ℤ) → eval ℤR (conv ◌+ℤ◌ ◌*ℤ◌ (pos 0) p q) k ≡ eval ℤR p k *ℤ eval ℤR q k
  row-mul p q = horner-conv ℤR (λ a. a) k ◌+ℤ◌ ◌*ℤ◌ (pos 0) (λ a b. refl) (λ a b. refl) refl p q

  row-neg : (p : List ℤ) → eval ℤR (map neg_ℤ p) k ≡ neg_ℤ (eval ℤR p k)
  row-neg p = horner-neg ℤR (λ a. a) k neg_ℤ (λ a. refl) p

  pub value-add : (p q : Plane) → plane_value (plane_add p q) n k ≡ plane_value p n k +ℤ plane_value q n k
  value-add p q = horner-zip ℤR (λ row. eval ℤR row k) n (zip_longest ◌+ℤ◌) row-add p q

  pub value-mul : (p q : Plane) → plane_value (plane_mul p q) n k ≡ plane_value p n k *ℤ plane_value q n k
  value-mul p q = horner-conv ℤR (λ row. eval ℤR row k) n (zip_longest ◌+ℤ◌) (conv ◌+ℤ◌ ◌*ℤ◌ (pos 0)) [] row-add row-mul refl p q

  pub value-neg : (p : Plane) → plane_value (plane_neg p) n k ≡ neg_ℤ (plane_value p n k)
  value-neg p = horner-neg ℤR (λ row. eval ℤR row k) n (map neg_ℤ) row-neg p

  whole_sum : (u v : Option Fraction) (a b : ℤ) → u ≡ Some (whole a) → v ≡ Some (whole b) → both sum_of u v ≡ Some (whole (a +ℤ b))
  whole_sum u v a b e f = ap₂ (both sum_of) e f ∙ ap (λ z. Some (whole z)) (ap₂ ◌+ℤ◌ (mul-oneℤ a) (mul-oneℤ b))

  whole_product : (u v : Option Fraction) (a b : ℤ) → u ≡ Some (whole a) → v ≡ Some (whole b) → both product_of u v ≡ Some (whole (a *ℤ b))
  whole_product u v a b e f = ap₂ (both product_of) e f

  whole_opposite : (u : Option Fraction) (a : ℤ) → u ≡ Some (whole a) → opposite_of u ≡ Some (whole (neg_ℤ a))
  whole_opposite u a e = ap opposite_of e ∙ ap (λ z. Some (whole z)) (less a)
    where
      less : (a : ℤ) → pos 0 *ℤ pos 1 -ℤ a *ℤ pos 1 ≡ neg_ℤ a
      less a = ring ℤR (a ∷ []) (search readsℤ depth 16) refl

  single : (c : ℤ) → plane_value ((c ∷ []) ∷ []) n k ≡ c
  single c = ring ℤR (c ∷ n ∷ k ∷ []) (search readsℤ depth 16) refl

  variable : plane_value ((pos 0 ∷ (pos 1 ∷ [])) ∷ []) n k ≡ k
  variable = ring ℤR (n ∷ k ∷ []) (search readsℤ depth 16) refl

  parameter : plane_value ([] ∷ ((pos 1 ∷ []) ∷ [])) n k ≡ n
  parameter = ring ℤR (n ∷ k ∷ []) (search readsℤ depth 16) refl

  swap : (a b : ℤ) → a *ℤ b ≡ b *ℤ a
  swap a b = ring ℤR (a ∷ b ∷ []) (search readsℤ depth 16) refl

  whole_power : (u : Option Fraction) (p : Plane) (e : ℕ) → u ≡ Some (whole (plane_value p n k)) → power_of u e ≡ Some (whole (plane_value (plane_power p e) n k))
  whole_power u p zero h = ap (λ u. power_of u zero) h ∙ ap (λ z. Some (whole z)) (sym (single (pos 1)))
  whole_power u p (suc e) h =
      ap (λ u. power_of u (suc e)) h
      ∙ whole_product (power_of (Some (whole (plane_value p n k))) e) (Some (whole (plane_value p n k))) (plane_value (plane_power p e) n k) (plane_value p n k)
      (whole_power (Some (whole (plane_value p n k))) p e refl) refl
      ∙ ap (λ z. Some (whole z)) (swap (plane_value (plane_power p e) n k) (plane_value p n k) ∙ sym (value-mul p (plane_power p e)))

  pub value_of_tree : (t : Tree) → IsPolynomialTree t → val t n k ≡ Some (whole (plane_value (coefficients t) n k))
  value_of_tree (numeral c) h = ap (λ z. Some (whole z)) (sym (single c))
  value_of_tree here h = ap (λ z. Some (whole z)) (sym variable)
  value_of_tree param h = ap (λ z. Some (whole z)) (sym parameter)
  value_of_tree (add x y) h =
      whole_sum (val x n k) (val y n k) (plane_value (coefficients x) n k) (plane_value (coefficients y) n k) (value_of_tree x h.0) (value_of_tree y h.1)
      ∙ ap (λ z. Some (whole z)) (sym (value-add (coefficients x) (coefficients y)))
  value_of_tree (neg x) h =
      whole_opposite (val x n k) (plane_value (coefficients x) n k) (value_of_tree x h) ∙ ap (λ z. Some (whole z)) (sym (value-neg (coefficients x)))
  value_of_tree (mul x y) h =
      whole_product (val x n k) (val y n k) (plane_value (coefficients x) n k) (plane_value (coefficients y) n k) (value_of_tree x h.0) (value_of_tree y h.1)
      ∙ ap (λ z. Some (whole z)) (sym (value-mul (coefficients x) (coefficients y)))
  value_of_tree (div x y) h = absurd h
  value_of_tree (power x e) h = whole_power (val x n k) (coefficients x) e (value_of_tree x h)
  value_of_tree (sum_from from body) h = absurd h
  value_of_tree (prod_from from body) h = absurd h
