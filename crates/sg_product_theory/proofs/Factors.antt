-- Products, each with its factor, along the places from the start on.
--   grows          they go from one place to the next by the values of their factors
--   factors-some   no factor is 0
--   factors-many   there are as many factors as products
--   follows        so their values follow the equations of the tower over them
use Rattle.std.proofs.Common.{◌≡◌, ℕ, suc, ℤ, pos, ◌+ℤ◌, ◌≤ℤ◌, sym, subst, List, [], ◌∷◌, length}
use Rattle.sg_algebra.specs.Coefficients.{Each}
use Rattle.sg_algebra.proofs.Value.{Value, zero_value}
use Rattle.sg_spec.specs.Tree.{Tree}
use Rattle.sg_tower_theory.proofs.Formal.{factors, factors_same}
use Rattle.sg_tower_theory.proofs.Products.{Some}
use Rattle.sg_algebra.proofs.ValueField.{ValueF}
use Rattle.sg_value_theory.proofs.Elements.{FollowsProducts}
use Rattle.sg_value_theory.proofs.TreePoints.{AreValues}
use Rattle.sg_product_theory.proofs.Growth.{Grows}
use Rattle.sg_tower_theory.proofs.Slices.{pairwise_length}
use Rattle.sg_answers_theory.proofs.Answers.{IsProductOf, step_factor}
use Rattle.sg_answers_theory.proofs.Relating.{AreProducts}

module _ {d : ℕ} (letter : Value d) (s : ℤ) where
  pub grows : (gs : List Tree) (αs : List (Value (suc d))) → AreProducts letter s gs αs → (k : ℤ) → s ≤ℤ k → (ts us : ℕ → Value d)
      → ((i : ℕ) → ¬ (ts i ≡ zero_value)) → AreValues letter k gs ts → AreValues letter (k +ℤ pos 1) gs us → Grows αs k ts us
  grows [] [] fs k l ts us n h i = tt
  grows [] (α ∷ αs) fs k l ts us n h i = absurd fs
  grows (g ∷ gs) [] fs k l ts us n h i = absurd fs
  grows (g ∷ gs) (α ∷ αs) fs k l ts us n h i =
      let r = step_factor letter s g α fs.0 k l (ts 0) (us 0) h.0 i.0 in
      ((r.0, r.1, r.2, n 0, r.3), grows gs αs fs.1 k l (λ j. ts (suc j)) (λ j. us (suc j)) (λ j. n (suc j)) h.1 i.1)

  pub factors-some : (gs : List Tree) (αs : List (Value (suc d))) → AreProducts letter s gs αs → Each (Some (ValueF (suc d))) αs
  factors-some [] [] fs = tt
  factors-some [] (α ∷ αs) fs = absurd fs
  factors-some (g ∷ gs) [] fs = absurd fs
  factors-some (g ∷ gs) (α ∷ αs) fs = (fs.0.some, factors-some gs αs fs.1)

  pub factors-many : (gs : List Tree) (αs : List (Value (suc d))) → AreProducts letter s gs αs → length gs ≡ length αs
  factors-many gs αs fs = pairwise_length (IsProductOf letter s) gs αs fs

following : {d : ℕ} (αs : List (Value (suc d))) (k : ℤ) (ts us : ℕ → Value d) → Grows αs k ts us → FollowsProducts αs k ts us
following [] k ts us g = tt
following (α ∷ αs) k ts us g = ((g.0.0, g.0.1, g.0.4), following αs k (λ i. ts (suc i)) (λ i. us (suc i)) g.1)

pub follows : {d : ℕ} (letter : Value d) (s : ℤ) (gs : List Tree) (αs : List (Value (suc d))) → AreProducts letter s gs αs → (k : ℤ) → s ≤ℤ k
    → (ts us : ℕ → Value d) → ((i : ℕ) → ¬ (ts i ≡ zero_value))
    → AreValues letter k gs ts → AreValues letter (k +ℤ pos 1) gs us → FollowsProducts (factors αs) k ts us
follows {d} letter s gs αs fs k l ts us n h i =
    subst (λ (βs : List (Value (suc d))). FollowsProducts βs k ts us) (sym (factors_same αs (factors-some letter s gs αs fs)))
    (following αs k ts us (grows letter s gs αs fs k l ts us n h i))
