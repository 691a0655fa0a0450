-- A system of as many rows as columns has a pivot in each column, so its basis is empty.
--   pivot_is        the pivot of the row i is i
--   columns_none    no column is free
use Rattle.std.proofs.Common.{◌≡◌, ℕ, zero, suc, ◌+◌, ◌-◌, ◌<◌, ◌≤◌, refl, subst, ap, List, [], ◌∷◌, length, get_or, arith}
use Rattle.sg_algebra.proofs.Value.{Value}
use Rattle.sg_algebra.proofs.Linear.{row}
use Rattle.sg_matrix.specs.Systems.{LeadsAt, IsEchelon}
use Rattle.sg_matrix.proofs.Adding.{leads_pivot}
use Rattle.sg_matrix.proofs.Solutions.{IsColumns, pivot_within}

module _ {K : Type 0} {d : ℕ} (v : K → Value d) where
  climb : (bs : List (List K)) (e : IsEchelon v bs) (i j : ℕ) → i + j < length bs → e.pivot i + j ≤ e.pivot (i + j)
  climb bs e i zero l = let s : i + 0 ≡ i = omega arith in omega (arith, ap e.pivot s)
  climb bs e i (suc j) l = let s : i + suc j ≡ suc (i + j) = omega arith in let up : e.pivot (i + j) < e.pivot (suc (i + j)) = e.ascending (i + j) (suc (i + j)) (omega arith) (omega arith) in
      omega (arith, ap e.pivot s, climb bs e i j (omega arith))

  pub pivot_is : (w : ℕ) (bs : List (List K)) (e : IsEchelon v bs) → ((i : ℕ) → i < length bs → length (get_or bs i []) ≡ w) → length bs ≡ w → (i : ℕ) → i < w → e.pivot i ≡ i
  pivot_is w bs e s h i l =
      let rest : i + (w - suc i) ≡ w - 1 = omega arith in
      let inside : e.pivot (w - 1) < w = pivot_within v w bs e s (w - 1) (omega arith) in
      let low : e.pivot 0 + i ≤ e.pivot (0 + i) = climb bs e 0 i (omega arith) in
      let same : 0 + i ≡ i = omega arith in
      omega (arith, climb bs e i (w - suc i) (omega arith), ap e.pivot rest, ap e.pivot same)

  pub columns_none : (w : ℕ) (bs : List (List K)) (e : IsEchelon v bs) (basis : List (List K)) → ((i : ℕ) → i < length bs → length (get_or bs i []) ≡ w) → length bs ≡ w → IsColumns v bs e.pivot w w basis → basis ≡ []
  columns_none w bs e [] s h b = refl
  columns_none w bs e (x ∷ basis) s h b = absurd (b.free 0 (omega arith) (b.own 0) (omega (arith, h, within)) (subst (λ (p : ℕ). LeadsAt (row v bs (b.own 0)) p) (pivot_is w bs e s h (b.own 0) within) (leads_pivot v bs e (b.own 0) (omega (arith, h, within)))))
    where
      within : b.own 0 < w
      within = b.below 0 (omega arith)
