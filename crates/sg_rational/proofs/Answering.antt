-- What the calls of `solve_first` answer, put together.
--   side_value          a right side of the reduced equation
--   read_divides        the denominator of one of them divides the common one
--   left_some           the left side isn't 0
--   first_reduced       the equation of polynomials that the given one is reduced to
--   basis_answered      the basis of its solutions
--   vectors_space       the basis of the vectors of the linear system
--   all_long            each of these is long enough
use Rattle.std.proofs.Common.{◌≡◌, ℕ, suc, ◌≤◌, ◌<◌, refl, sym, ◌∙◌, subst, List, [], ◌∷◌, map, length, get_or, arith}
use Rattle.std.proofs.lemmas.List.{get_or_default}
use Rattle.sg_algebra.proofs.Solver.{by, scale, reads}
use Rattle.sg_algebra.proofs.Lists.{length_map}
use Rattle.sg_algebra.proofs.Linear.{row_times, Span, table, Form}
use Rattle.sg_algebra.proofs.Value.{Value, zero_value, ◌*ᵛ◌}
use Rattle.sg_algebra.proofs.Polynomial.{Polynomial, PolynomialR, poly, coefficient, zero_polynomial, ◌*ᵖ◌}
use Rattle.sg_poly.specs.Divisors.{◌∣ᵖ◌}
use Rattle.sg_poly.specs.Polynomials.{polynomial}
use Rattle.sg_ratfun.specs.Fractions.{ratio}
use Rattle.sg_first_order_theory.specs.Solutions.{Pair, IsBasis}
use Rattle.sg_first_order_theory.proofs.ValueFractions.{whole}
use Rattle.sg_first_order_theory.proofs.Weighted.{Cleared}
use Rattle.sg_first_order_theory.proofs.FirstOrder.{IsReduced, reduced_first}
use Rattle.sg_first_order_theory.proofs.System.{columns}
use Rattle.sg_first_order_theory.proofs.Basis.{IsBound, IsSpace, pair_of, is_basis}
use Rattle.sg_rational.specs.Reductions.{Apart, IsReduction}
use Rattle.sg_rational.specs.Systems.{IsFilled, Sends}
use Rattle.sg_first_order_theory.proofs.Bounded.{cleared_value, cleared_some}
use Rattle.sg_rational.proofs.Degrees.{map-map}
use Rattle.sg_rational.proofs.Filling.{space_filled, lists_short}

module _ {K : Type 0} {d : ℕ} (v : K → Value d) where
  abbrev P : List K → Polynomial d
  P p = polynomial v p

  pub side_value : (factor vl c r : List K) (f : List K × List K) → P c *ᵖ P f.1 ≡ P vl *ᵖ P f.0 → ¬ (P f.1 ≡ zero_polynomial) → P r ≡ P c *ᵖ P factor → whole (P factor *ᵖ P vl) *ᵛ ratio v f ≡ whole (P r)
  side_value factor vl c r f h some e = cleared_value (map v f.0) (map v f.1) some (P r) (P factor *ᵖ P vl)
      (by (PolynomialR d) (P factor ∷ P vl ∷ P c ∷ P r ∷ P f.0 ∷ P f.1 ∷ []) ((PolynomialR d).add_cong (scale (PolynomialR d) (P f.1) e) (scale (PolynomialR d) (P factor) h)) (search reads depth 20 fits 4000) refl)

  pub read_divides : (fs : List (List K × List K)) (i : ℕ) (f : List K × List K) (x : Polynomial d) → i < length fs → f ≡ get_or fs i f → ((j : ℕ) → j < length fs → P (get_or fs j ([], [])).1 ∣ᵖ x) → P f.1 ∣ᵖ x
  read_divides fs i f x l e h = subst (λ (y : List K × List K). P y.1 ∣ᵖ x) (get_or_default fs i ([], []) f l ∙ sym e) (h i l)

  pub left_some : (vl left : List K) (a : List K × List K) → P left *ᵖ P a.1 ≡ P vl *ᵖ P a.0 → ¬ (P a.1 ≡ zero_polynomial) → ¬ (P vl ≡ zero_polynomial) → ¬ (ratio v a ≡ zero_value) → ¬ (P left ≡ zero_polynomial)
  left_some vl left a h some n k = cleared_some (map v a.0) (map v a.1) some (P left) (P vl) h n k

  pub first_reduced : (a : List K × List K) (fs : List (List K × List K)) (vl left right ea eb lower factor : List K) (list : List (List K))
      → ¬ (P vl ≡ zero_polynomial) → P left *ᵖ P a.1 ≡ P vl *ᵖ P a.0 → ¬ (P a.1 ≡ zero_polynomial) → P right ≡ P vl
      → IsReduction (P left) (P right) (P ea) (P eb) (P lower) (P factor) → ((m : ℕ) → Apart (P ea) (P eb) (suc m))
      → Cleared (P factor *ᵖ P vl) (map (ratio v) fs) (map (polynomial v) list)
      → IsReduced (ratio v a) (map (ratio v) fs) (P ea) (P eb) (P lower) (map (polynomial v) list)
  first_reduced a fs vl left right ea eb lower factor list some h some_a e red far cleared =
      reduced_first d (ratio v a) (map (ratio v) fs) (P left) (P vl) (P ea) (P eb) (P lower) (P factor) (map (polynomial v) list) some (cleared_value (map v a.0) (map v a.1) some_a (P left) (P vl) h)
      (subst (λ (b : Polynomial d). IsReduction (P left) b (P ea) (P eb) (P lower) (P factor)) e red) cleared far

  pub basis_answered : {R : Type 0} (answer : R → Pair d) (a b q : Polynomial d) (sides : List (List K)) (n : ℕ) (bs : List (List K)) (r : List R)
      → IsBound n a b (map (polynomial v) sides) → IsSpace v a b (map (polynomial v) sides) n bs → map answer r ≡ map (pair_of v (length sides) q) bs
      → (f : Value (suc d)) (fs : List (Value (suc d))) → length sides ≡ length fs → IsReduced f fs a b q (map (polynomial v) sides) → IsBasis f fs (map answer r)
  basis_answered answer a b q sides n bs r bound space e f fs same red = subst (λ (ps : List (Pair d)). IsBasis f fs ps) (sym e)
      (subst (λ (m : ℕ). IsBasis f fs (map (pair_of v m q) bs)) (length_map (polynomial v) sides)
      (is_basis v f fs a b q (map (polynomial v) sides) n bs red bound space (length_map (polynomial v) sides ∙ same)))

  pub all_long : (a b : Polynomial d) (sides : List (List K)) (n : ℕ) (bs : List (List K)) → IsSpace v a b (map (polynomial v) sides) n bs → (i : ℕ) → i < length bs → length sides ≤ length (get_or bs i [])
  all_long a b sides n bs s i l = omega (arith, s.sized i l, length_map (polynomial v) sides)

  pub vectors_space : (a b : Polynomial d) (sides list : List (List K)) (n m w : ℕ) (held basis : List (List K))
      → map (polynomial v) list ≡ columns a b (map (polynomial v) sides) n → w ≡ length list → ((i : ℕ) → i < length list → length (get_or list i []) ≤ m)
      → IsFilled v (map (map v) list) (length list) m held → ((i : ℕ) → i < length basis → length (get_or basis i []) ≡ w)
      → ((j : ℕ) → j < length held → (i : ℕ) → row_times (map v (get_or held j [])) (coefficient (map v (get_or basis i []))) ≡ zero_value)
      → Form v basis → (length held ≡ w → basis ≡ []) → ((f : ℕ → Value d) → ((k : ℕ) → w ≤ k → f k ≡ zero_value) → Sends v held f → Span (table v basis) f)
      → IsSpace v a b (map (polynomial v) sides) n basis
  vectors_space a b sides list n m w held basis are wide short filled sized sound form full complete =
      space_filled v a b (map (polynomial v) sides) n (map (map v) list) (sym (map-map poly (map v) list) ∙ are) w m (wide ∙ sym (length_map (map v) list)) (lists_short v list m short) held basis
      (subst (λ (k : ℕ). IsFilled v (map (map v) list) k m held) (sym wide) filled) sized sound form full complete
