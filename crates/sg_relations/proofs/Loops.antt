-- What the loops over columns keep.
--   sum_row-more       the sum of two rows, one place further
--   product-remove     what a column adds to the product
--   product-push       a column at the end
--   weight-remove, weight-push, weight_waiting-push
--   coprime-split      ..
use Rattle.std.proofs.Common.{◌≡◌, ℕ, zero, suc, ◌+◌, ◌-◌, ◌*◌, ◌<◌, ◌≤◌, refl, ap, ◌∙◌, List, [], ◌∷◌, ◌++◌, length, take, get_or, ℤ, ◌+ℤ◌, arith}
use Rattle.std.specs.List.{remove}
use Rattle.sg_algebra.proofs.Solver.{ring, reads}
use Rattle.sg_algebra.proofs.Value.{◌*ᵛ◌}
use Rattle.sg_algebra.proofs.ValueField.{ValueR}
use Rattle.sg_relations_theory.specs.Rows.{sum_row}
use Rattle.sg_relations.specs.declared.numbers.Column.{Column}
use Rattle.sg_relations.specs.Columns.{product_at, column_value, weight_waiting, weight_standing}

sum_row-next : (a b : List ℤ) (i : ℕ) (d e : ℤ) → i < length a → i < length b → sum_row (take (suc i) a) (take (suc i) b) ≡ sum_row (take i a) (take i b) ++ (get_or a i d +ℤ get_or b i e) ∷ []
sum_row-next [] b i d e l k = absurd (omega arith)
sum_row-next (x ∷ a) [] i d e l k = absurd (omega arith)
sum_row-next (x ∷ a) (y ∷ b) zero d e l k = refl
sum_row-next (x ∷ a) (y ∷ b) (suc i) d e l k = ap (λ r. (x +ℤ y) ∷ r) (sum_row-next a b i d e (omega arith) (omega arith))

pub sum_row-more : (a b : List ℤ) (i : ℕ) (d e : ℤ) → i < length a → length a ≡ length b → sum_row (take (i + 1) a) (take (i + 1) b) ≡ sum_row (take i a) (take i b) ++ (get_or a i d +ℤ get_or b i e) ∷ []
sum_row-more a b i d e l k = let q : i + 1 ≡ suc i = omega arith in rw q (sum_row-next a b i d e l (omega arith))

pub product-push : (cs : List Column) (c : Column) (i : ℕ) → product_at (cs ++ c ∷ []) i ≡ column_value c i *ᵛ product_at cs i
product-push [] c i = refl
product-push (x ∷ cs) c i = ap (λ y. column_value x i *ᵛ y) (product-push cs c i) ∙ ring (ValueR 0) (column_value x i ∷ column_value c i ∷ product_at cs i ∷ []) (search reads depth 12) refl

pub product-remove : (cs : List Column) (j : ℕ) (d : Column) (i : ℕ) → j < length cs → column_value (get_or cs j d) i *ᵛ product_at (remove cs j) i ≡ product_at cs i
product-remove [] j d i l = absurd (omega arith)
product-remove (c ∷ cs) zero d i l = refl
product-remove (c ∷ cs) (suc j) d i l = ring (ValueR 0) (column_value (get_or cs j d) i ∷ column_value c i ∷ product_at (remove cs j) i ∷ []) (search reads depth 12) refl
    ∙ ap (λ y. column_value c i *ᵛ y) (product-remove cs j d i (omega arith))

pub weight_waiting-push : (cs : List Column) (c : Column) → weight_waiting (cs ++ c ∷ []) ≡ (4 * (c.base - 1) + 1) + weight_waiting cs
weight_waiting-push [] c = refl
weight_waiting-push (x ∷ cs) c = rw (weight_waiting-push cs c) (omega arith)

pub weight_standing-push : (cs : List Column) (c : Column) → weight_standing (cs ++ c ∷ []) ≡ 4 * (c.base - 1) + weight_standing cs
weight_standing-push [] c = refl
weight_standing-push (x ∷ cs) c = rw (weight_standing-push cs c) (omega arith)

pub weight_standing-remove : (cs : List Column) (j : ℕ) (d : Column) → j < length cs → 4 * ((get_or cs j d).base - 1) + weight_standing (remove cs j) ≡ weight_standing cs
weight_standing-remove [] j d l = absurd (omega arith)
weight_standing-remove (c ∷ cs) zero d l = refl
weight_standing-remove (c ∷ cs) (suc j) d l = let e = weight_standing-remove cs j d (omega arith) in omega arith

-- the numbers that are left, and g, weigh less
pub split_falls : (w b w' b' g : ℕ) → w ≡ g * w' → b ≡ g * b' → 1 < g → 0 < w' → 0 < b' → ((4 * (w' - 1) + 1) + ((4 * (b' - 1) + 1) + (4 * (g - 1) + 1))) < (4 * (w - 1) + 1) + 4 * (b - 1)
split_falls w (b) (suc w') (suc b') (suc (suc g)) e k l p q = rw (e, k) (go g w' b' (suc (suc g) * suc w') (suc (suc g) * suc b') (larger g w') (larger g b'))
  where
    larger : (g w' : ℕ) → g + (w' + (w' + 2)) ≤ suc (suc g) * suc w'
    larger g w' = grind arith

    go : (g w' b' W B : ℕ) → g + (w' + (w' + 2)) ≤ W → g + (b' + (b' + 2)) ≤ B → ((4 * (suc w' - 1) + 1) + ((4 * (suc b' - 1) + 1) + (4 * (suc (suc g) - 1) + 1))) < (4 * (W - 1) + 1) + 4 * (B - 1)
    go g w' b' W B h j = omega arith
split_falls w b zero b' g e k l p q = absurd (omega arith)
split_falls w b (suc w') zero g e k l p q = absurd (omega arith)
split_falls w b (suc w') (suc b') zero e k l p q = absurd (omega arith)
split_falls w b (suc w') (suc b') (suc zero) e k l p q = absurd (omega arith)
