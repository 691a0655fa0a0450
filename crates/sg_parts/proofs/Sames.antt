-- What equal coefficients share: the coefficient of the highest power of the parameter, and where all rows are 0.
--   same_leading     the coefficient of the highest power of the parameter
--   same_vanishes    where all rows are 0
--   zero_same        what is told of where a polynomial is 0
--   far_at, near_at  the bound of the leading coefficient by that of its row
--   stop_heavy       a step that is kept in weighing a sum
use Rattle.std.proofs.Common.{◌≡◌, ℕ, suc, ◌<◌, ◌≤◌, refl, sym, ap₂, subst, ◌∙◌, List, [], ◌∷◌, get_or, ℤ, pos, ◌+ℤ◌, ◌*ℤ◌, arith}
use Rattle.sg_algebra.specs.Coefficients.{eval}
use Rattle.sg_algebra.proofs.Whole.{ℤR, readsℤ}
use Rattle.sg_algebra.proofs.Solver.{ring}
use Rattle.sg_spec.specs.Tree.{Tree, add}
use Rattle.sg_spec.specs.Parts.{Plane, before, trimmed, later_or, leading, cauchy, ratio_of}
use Rattle.sg_num.specs.Stopped.{IsTooWide}
use Rattle.sg_num.specs.declared.step.Wide.{Wide}
use Rattle.sg_num.specs.declared.step.Stop.TheVariants.{Wide as WideStep}
use Rattle.sg_parts.specs.Planes.{entry, SamePlane, VanishesAt, IsLeastZero}
use Rattle.sg_parts.specs.Weights.{IsHeavySum, StopsHeavy}
use Rattle.sg_parts.specs.Zeros.{IsZero}
use Rattle.sg_parts.specs.declared.zeros.Zero.{Zero}
use Rattle.sg_parts.specs.declared.zeros.Zero.TheVariants.{Far, At, Nowhere}
use Rattle.sg_parts.proofs.Shapes.{trimmed_none, leading_none}

same_trimmed : (p q : List ℤ) → ((j : ℕ) → entry p j ≡ entry q j) → trimmed p ≡ trimmed q
same_trimmed [] q h = sym (trimmed_none q (λ j. sym (h j)))
same_trimmed (a ∷ p) [] h = trimmed_none (a ∷ p) h
same_trimmed (a ∷ p) (b ∷ q) h = ap₂ before (h 0) (same_trimmed p q (λ j. h (suc j)))

pub same_leading : (p q : Plane) → SamePlane p q → leading p ≡ leading q
same_leading [] q h = sym (leading_none q (λ i. trimmed_none (get_or q i []) (λ j. sym (h i j))))
same_leading (a ∷ p) [] h = leading_none (a ∷ p) (λ i. trimmed_none (get_or (a ∷ p) i []) (λ j. h i j))
same_leading (a ∷ p) (b ∷ q) h = ap₂ later_or (same_trimmed a b (h 0)) (same_leading p q (λ i. h (suc i)))

nothing : (k : ℤ) → pos 0 +ℤ k *ℤ pos 0 ≡ pos 0
nothing k = ring ℤR (k ∷ []) (search readsℤ depth 16) refl

zero_value : (p : List ℤ) (k : ℤ) → ((j : ℕ) → entry p j ≡ pos 0) → eval ℤR p k ≡ pos 0
zero_value [] k h = refl
zero_value (c ∷ p) k h = ap₂ (λ c v. c +ℤ k *ℤ v) (h 0) (zero_value p k (λ j. h (suc j))) ∙ nothing k

same_value : (p q : List ℤ) (k : ℤ) → ((j : ℕ) → entry p j ≡ entry q j) → eval ℤR p k ≡ eval ℤR q k
same_value [] q k h = sym (zero_value q k (λ j. sym (h j)))
same_value (a ∷ p) [] k h = zero_value (a ∷ p) k h
same_value (a ∷ p) (b ∷ q) k h = ap₂ (λ c v. c +ℤ k *ℤ v) (h 0) (same_value p q k (λ j. h (suc j)))

pub same_vanishes : (p q : Plane) (k : ℤ) → SamePlane p q → VanishesAt p k → VanishesAt q k
same_vanishes p [] k h z = tt
same_vanishes [] (b ∷ q) k h z = (sym (same_value [] b k (h 0)), same_vanishes [] q k (λ i. h (suc i)) tt)
same_vanishes (a ∷ p) (b ∷ q) k h z = (sym (same_value a b k (h 0)) ∙ z.0, same_vanishes p q k (λ i. h (suc i)) z.1)

module _ (p q : Plane) (l : ℤ) (h : SamePlane p q) where
  back : SamePlane q p
  back i j = sym (h i j)

  same_least : (m : ℤ) → IsLeastZero p l m → IsLeastZero q l m
  same_least m z = record {
    inside = z.inside;
    zero = same_vanishes p q m h z.zero;
    least = λ k le lt v. z.least k le lt (same_vanishes q p k back v);
  }

  near : cauchy (leading p) ≤ 4096 → cauchy (leading q) ≤ 4096
  near le = subst (λ r. cauchy r ≤ 4096) (same_leading p q h) le

  pub zero_same : (z : Zero) → IsZero z p l → IsZero z q l
  zero_same Far far = subst (λ r. 4096 < cauchy r) (same_leading p q h) far
  zero_same (At m) (le, z) = (near le, same_least m z)
  zero_same Nowhere (le, none) = (near le, λ m inside v. none m inside (same_vanishes q p m back v))

pub far_at : (p : Plane) (row : List ℤ) → leading p ≡ trimmed row → 4096 < cauchy (trimmed row) → 4096 < cauchy (leading p)
far_at p row e h = subst (λ r. 4096 < cauchy r) (sym e) h

pub near_at : (p : Plane) (row : List ℤ) → leading p ≡ trimmed row → cauchy (trimmed row) ≤ 4096 → cauchy (leading p) ≤ 4096
near_at p row e h = subst (λ r. cauchy r ≤ 4096) (sym e) h

pub near_nothing : (p : Plane) → leading p ≡ [] → cauchy (leading p) ≤ 4096
near_nothing p e = subst (λ r. cauchy r ≤ 4096) (sym e) (omega arith)

pub stop_heavy : (w : Wide) (x y : Tree) → IsTooWide w → IsHeavySum (ratio_of x) (ratio_of y) → StopsHeavy (WideStep w) (add x y)
stop_heavy w x y h k = (h, omega (arith, k))
