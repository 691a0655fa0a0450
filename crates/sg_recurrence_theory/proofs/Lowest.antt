-- The values of polynomials at numbers and at the letter.
--   lowest-value       the canonical order, the highest first, has the value of the other
--   worth-number       over the fractions, at a whole parameter
use Rattle.std.proofs.Common.{◌≡◌, ℕ, zero, suc, refl, ap, ap₂, ◌∙◌, List, [], ◌∷◌, ◌++◌, map, length, reverse, ℤ, ◌+ℤ◌, ◌*ℤ◌}
use Rattle.std.proofs.lemmas.List.{length-map, length-reverse, reverse-append}
use Rattle.sg_algebra.specs.Coefficients.{eval}
use Rattle.sg_algebra.proofs.Ring.{pow}
use Rattle.sg_algebra.proofs.Whole.{ℤR}
use Rattle.sg_algebra.proofs.Solver.{ring, reads}
use Rattle.sg_algebra.proofs.Value.{Value, ◌+ᵛ◌, ◌*ᵛ◌}
use Rattle.sg_algebra.proofs.ValueField.{ValueR}
use Rattle.sg_algebra.proofs.Rational.{whole_value}
use Rattle.sg_spec.specs.Parts.{Plane}
use Rattle.sg_worth_theory.proofs.WrittenElements.{row_value, plane_value}
use Rattle.sg_recurrence_theory.specs.Planes.{value_at}
use Rattle.sg_limits.proofs.Wholes.{whole_value-add, whole_value-mul}
use Rattle.sg_recurrence_theory.proofs.Turned.{append-value}
use Rattle.sg_recurrence_theory.specs.Listing.{lowest_first}

reverse-next : {A : Type 0} (x : A) (xs : List A) → reverse (x ∷ xs) ≡ reverse xs ++ (x ∷ [])
reverse-next x xs = reverse-append (x ∷ []) xs

whole-pow : (x : ℤ) (e : ℕ) → whole_value 0 (pow ℤR x e) ≡ pow (ValueR 0) (whole_value 0 x) e
whole-pow x zero = ring (ValueR 0) [] (search reads depth 12) refl
whole-pow x (suc e) = whole_value-mul 0 (pow ℤR x e) x ∙ ap (λ v. v *ᵛ whole_value 0 x) (whole-pow x e)

joined : (a b c : ℤ) (u v w : Value 0) → whole_value 0 a ≡ u → whole_value 0 b ≡ v → whole_value 0 c ≡ w → whole_value 0 (a +ℤ b *ℤ c) ≡ v *ᵛ w +ᵛ u
joined a b c u v w e f g =
    whole_value-add 0 a (b *ℤ c) ∙ ap₂ ◌+ᵛ◌ e (whole_value-mul 0 b c ∙ ap₂ ◌*ᵛ◌ f g) ∙ swap u (v *ᵛ w)
  where
    swap : (x y : Value 0) → x +ᵛ y ≡ y +ᵛ x
    swap x y = ring (ValueR 0) (x ∷ y ∷ []) (search reads depth 12) refl

module _ (n k : ℤ) where
  row-lowest : (row : List ℤ) → whole_value 0 (eval ℤR (reverse row) n) ≡ row_value (whole_value 0 n) k row
  row-lowest [] = refl
  row-lowest (c ∷ row) =
      ap (λ (r : List ℤ). whole_value 0 (eval ℤR r n)) (reverse-next c row) ∙ ap (whole_value 0) (append-value (λ a. a) n (reverse row) c)
      ∙ joined (eval ℤR (reverse row) n) c (pow ℤR n (length (reverse row))) (row_value (whole_value 0 n) k row) (whole_value 0 c) (pow (ValueR 0) (whole_value 0 n) (length row))
      (row-lowest row) refl (whole-pow n (length (reverse row)) ∙ ap (λ (m : ℕ). pow (ValueR 0) (whole_value 0 n) m) (length-reverse row))

  pub lowest-value : (p : Plane) → whole_value 0 (value_at (lowest_first p) n k) ≡ plane_value (whole_value 0 n) k p
  lowest-value [] = refl
  lowest-value (row ∷ p) =
      ap (λ (q : Plane). whole_value 0 (value_at q n k)) (reverse-next (reverse row) (map reverse p)) ∙ ap (whole_value 0) (append-value (λ r. eval ℤR r n) k (reverse (map reverse p)) (reverse row))
      ∙ joined (value_at (lowest_first p) n k) (eval ℤR (reverse row) n) (pow ℤR k (length (reverse (map reverse p)))) (plane_value (whole_value 0 n) k p) (row_value (whole_value 0 n) k row) (pow (ValueR 0) (whole_value 0 k) (length p))
      (lowest-value p) (row-lowest row) (whole-pow k (length (reverse (map reverse p))) ∙ ap (λ (m : ℕ). pow (ValueR 0) (whole_value 0 k) m) (length-reverse (map reverse p) ∙ length-map p reverse))
