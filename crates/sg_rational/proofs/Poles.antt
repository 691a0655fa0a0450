-- No pole from the start on, of what `solve_first` answers.
--   basis_poles         where the denominators of a and of all f have no root at x, x + 1, .., the denominator of no solution in lowest terms has one
--   whole_poles         the same over the fractions, of the whole numbers from s on
use Rattle.std.proofs.Common.{ℕ, refl, List, [], ◌∷◌, map, ℤ, ◌≤ℤ◌}
use Rattle.sg_algebra.specs.Coefficients.{Each}
use Rattle.sg_algebra.proofs.Lists.{each_to, each_map}
use Rattle.sg_algebra.proofs.Rational.{whole_value}
use Rattle.sg_algebra.proofs.Value.{Value}
use Rattle.sg_algebra.proofs.Polynomial.{poly_cong}
use Rattle.sg_num.specs.Roots.{IsRoot}
use Rattle.sg_poly.proofs.Dividers.{monic_some}
use Rattle.sg_ratfun.specs.Fractions.{ratio}
use Rattle.sg_ratfun.specs.Reduced.{IsReduced}
use Rattle.sg_dispersion_theory.proofs.Listed.{poly_coprime}
use Rattle.sg_first_order_theory.specs.Solutions.{Pair, pair, IsBasis}
use Rattle.sg_first_order_theory.proofs.NoPole.{Free, FreeFrom, lowest_free, basis_free, free_from, free_at}

each_of_map : {B C : Type 0} (P : C → Type 0) (f : B → C) (xs : List B) → Each P (map f xs) → Each (λ x. P (f x)) xs
each_of_map P f [] h = tt
each_of_map P f (x ∷ xs) h = (h.0, each_of_map P f xs h.1)

module _ {K : Type 0} {d : ℕ} (v : K → Value d) (x : Value d) where
  abbrev pub FreeBelow : List K × List K → Type 0
  FreeBelow f = Free x (map v f.1)

  ratio_free : (f : List K × List K) → FreeBelow f → FreeFrom x (ratio v f)
  ratio_free f h = record { upper = map v f.0; lower = map v f.1; free = h; is = refl }

  reduced_free : (f : List K × List K) → FreeFrom x (ratio v f) → IsReduced (map v f.0) (map v f.1) → FreeBelow f
  reduced_free f h r = lowest_free x (ratio v f) (map v f.0) (map v f.1) h refl (λ z. monic_some (map v f.1) r.monic (poly_cong z)) (poly_coprime (map v f.0) (map v f.1) r.coprime)

  pub basis_poles : {S : Type 0} (consts : S → List (Value d)) (value : S → List K × List K) (a : List K × List K) (fs : List (List K × List K)) (rs : List S)
      → IsBasis (ratio v a) (map (ratio v) fs) (map (λ s. pair (consts s) (ratio v (value s))) rs) → FreeBelow a → Each FreeBelow fs
      → Each (λ s. IsReduced (map v (value s).0) (map v (value s).1) → FreeBelow (value s)) rs
  basis_poles consts value a fs rs b free_a free_fs =
      each_to (λ s. FreeFrom x (ratio v (value s))) (λ s. IsReduced (map v (value s).0) (map v (value s).1) → FreeBelow (value s)) rs (λ s h. reduced_free (value s) h)
      (each_of_map (λ (p : Pair d). FreeFrom x p.value) (λ s. pair (consts s) (ratio v (value s))) rs
      (basis_free x (ratio v a) (map (ratio v) fs) (map (λ s. pair (consts s) (ratio v (value s))) rs) b (ratio_free a free_a) (each_map (FreeFrom x) (ratio v) fs (each_to FreeBelow (λ f. FreeFrom x (ratio v f)) fs ratio_free free_fs))))

module _ {K : Type 0} (v : K → Value 0) (s : ℤ) where
  abbrev pub NoPoleFrom : List K × List K → Type 0
  NoPoleFrom f = (m : ℤ) → s ≤ℤ m → ¬ IsRoot (map v f.1) m

  pub whole_poles : {S : Type 0} (consts : S → List (Value 0)) (value : S → List K × List K) (a : List K × List K) (fs : List (List K × List K)) (rs : List S)
      → IsBasis (ratio v a) (map (ratio v) fs) (map (λ s. pair (consts s) (ratio v (value s))) rs) → NoPoleFrom a → Each NoPoleFrom fs
      → Each (λ s. IsReduced (map v (value s).0) (map v (value s).1) → NoPoleFrom (value s)) rs
  whole_poles consts value a fs rs b free_a free_fs =
      each_to (λ r. IsReduced (map v (value r).0) (map v (value r).1) → FreeBelow v (whole_value 0 s) (value r)) (λ r. IsReduced (map v (value r).0) (map v (value r).1) → NoPoleFrom (value r)) rs
      (λ r h k. free_at (map v (value r).1) s (h k))
      (basis_poles v (whole_value 0 s) consts value a fs rs b (free_from (map v a.1) s free_a) (each_to NoPoleFrom (FreeBelow v (whole_value 0 s)) fs (λ f. free_from (map v f.1) s) free_fs))
