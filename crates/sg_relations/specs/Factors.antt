-- Monic polynomials with their exponents in each of some elements, where v says which value a coefficient has.
--   base_of v c             the polynomial of a factor
--   exponent c i            its exponent in the element i
--   product_at v cs i       the product of the factors to their exponents in the element i
--   HasWidth n c            it has exponents in n elements
--   IsFactor v c            its polynomial is monic; IsProper v c: and of positive degree
--   AreUnmet v s w c        the polynomials w and that of c have no common divisor of positive degree, at no shift or as they are
--   ArePairwise v s cs      no two of them have
--   field_map s d, polynomial_map s d      what may stand between two products that count as one: the shift k to k + 1, or nothing
--   AreAlike s x y          y times r(k + 1)/r(k) is x, for some r that isn't 0; where only the shift 0 is looked at, x is y
--   IsMeetingHere v cs w j, IsMeeting v cs w j m    w and the polynomial at the place j have a common divisor at the shift 0, or m
--   waiting_weight, standing_weight      what falls at each step
--   IsSplit v s n w b W W'  the factors w and b are split: W' waits after W did
--   IsStep v s n w W S W' S'      W' and S' wait and stand after the factor w was taken from what waits
use Rattle.std.specs.Prelude.{◌≡◌, ℕ, suc, ◌+◌, ◌-◌, ◌*◌, ◌<◌, List, [], ◌∷◌, length, map, get_or, ℤ, pos, All, AllPairs}
use Rattle.sg_algebra.specs.Ring.{Hom}
use Rattle.sg_algebra.proofs.Degree.{poly_size}
use Rattle.sg_algebra.proofs.Divides.{Divides, identity}
use Rattle.sg_algebra.proofs.Value.{Value, ◌*ᵛ◌, one_value}
use Rattle.sg_algebra.proofs.ValueField.{ValueR, ValueF, value_is_zero}
use Rattle.sg_algebra.proofs.Polynomial.{Polynomial, PolynomialR, poly, one_polynomial}
use Rattle.sg_poly.specs.Divisors.{IsMonic}
use Rattle.sg_spread.specs.Shifts.{Meets}
use Rattle.sg_algebra.proofs.ShiftValue.{shift_valueH}
use Rattle.sg_first_order_theory.proofs.Next.{nextH}
use Rattle.sg_first_order_theory.proofs.ValueFractions.{whole}
use Rattle.sg_tower_theory.specs.Powers.{power}
use Rattle.sg_relations_theory.proofs.Similar.{Similar}
use Rattle.sg_relations.specs.declared.factors.Factor.{Factor}
use Rattle.sg_relations.specs.declared.factors.Shifts.{Shifts}
use Rattle.sg_relations.specs.declared.factors.Shifts.TheVariants.{All as Every, Zero}

abbrev pub field_map : Shifts → (d : ℕ) → Hom (ValueR (suc d)) (ValueR (suc d))
field_map Every d = shift_valueH d
field_map Zero d = identity (ValueR (suc d))

abbrev pub polynomial_map : Shifts → (d : ℕ) → Hom (PolynomialR d) (PolynomialR d)
polynomial_map Every d = nextH d
polynomial_map Zero d = identity (PolynomialR d)

-- a shift that is looked at
abbrev pub IsShift : Shifts → ℤ → Type 0
IsShift Every m = Unit {0}
IsShift Zero m = m ≡ pos 0

abbrev pub AreAlike : {d : ℕ} → Shifts → Value (suc d) → Value (suc d) → Type 0
AreAlike {d} s x y = Similar (ValueF (suc d)) (field_map s d) x y

abbrev pub exponent : {K : Type 0} → Factor K → ℕ → ℤ
exponent c i = get_or c.exps i (pos 0)

abbrev pub HasWidth : {K : Type 0} → ℕ → Factor K → Type 0
HasWidth n c = length c.exps ≡ n

abbrev pub size : {d : ℕ} → List (Value d) → ℕ
size {d} p = poly_size (ValueR d) (value_is_zero d) p

module _ {K : Type 0} {d : ℕ} (v : K → Value d) where
  abbrev pub base_of : Factor K → Polynomial d
  base_of c = poly (map v c.base)

  abbrev pub factor_at : Factor K → ℕ → Value (suc d)
  factor_at c i = power (ValueF (suc d)) (whole (base_of c)) (exponent c i)

  abbrev pub product_at : List (Factor K) → ℕ → Value (suc d)
  product_at [] i = one_value
  product_at (c ∷ cs) i = factor_at c i *ᵛ product_at cs i

  abbrev pub IsFactor : Factor K → Type 0
  IsFactor c = IsMonic (map v c.base)

  pub record IsProper (c : Factor K) : Type 0 where
    pub monic : IsMonic (map v c.base)
    pub proper : ¬ Divides (PolynomialR d) (base_of c) one_polynomial

  abbrev pub AreUnmet : Shifts → List K → Factor K → Type 0
  AreUnmet Every w c = (m : ℤ) → ¬ Meets (map v w) (map v c.base) m
  AreUnmet Zero w c = ¬ Meets (map v w) (map v c.base) (pos 0)

  -- the later one of a pair was compared with those that stood
  abbrev pub ArePairwise : Shifts → List (Factor K) → Type 0
  ArePairwise s cs = AllPairs (λ a b. AreUnmet s b.base a) cs

  pub record IsMeeting (cs : List (Factor K)) (w : List K) (j : ℕ) (m : ℤ) : Type 0 where
    pub inside : j < length cs
    pub met : (c : Factor K) → Meets (map v w) (map v (get_or cs j c).base) m

  abbrev pub IsMeetingHere : List (Factor K) → List K → ℕ → Type 0
  IsMeetingHere cs w j = IsMeeting cs w j (pos 0)

  abbrev pub waiting_weight : List (Factor K) → ℕ
  waiting_weight [] = 0
  waiting_weight (c ∷ cs) = (3 * (size (map v c.base) - 1) + 1) + waiting_weight cs

  abbrev pub standing_weight : List (Factor K) → ℕ
  standing_weight [] = 0
  standing_weight (c ∷ cs) = 3 * (size (map v c.base) - 1) + standing_weight cs

  pub record IsSplit (s : Shifts) (n : ℕ) (w b : Factor K) (W W' : List (Factor K)) : Type 0 where
    pub monic : All IsFactor W → All IsFactor W'
    pub width : All (HasWidth n) W → All (HasWidth n) W'
    pub kept : (i : ℕ) → AreAlike s (factor_at w i *ᵛ (factor_at b i *ᵛ product_at W i)) (product_at W' i)
    pub falls : waiting_weight W' < ((3 * (size (map v w.base) - 1) + 1) + 3 * (size (map v b.base) - 1)) + waiting_weight W

  pub record IsStep (s : Shifts) (n : ℕ) (w : Factor K) (W S W' S' : List (Factor K)) : Type 0 where
    pub monic : All IsFactor W'
    pub proper : All IsProper S'
    pub waiting_width : All (HasWidth n) W'
    pub standing_width : All (HasWidth n) S'
    pub pairwise : ArePairwise s S'
    pub kept : (i : ℕ) → AreAlike s ((factor_at w i *ᵛ product_at W i) *ᵛ product_at S i) (product_at W' i *ᵛ product_at S' i)
    pub falls : waiting_weight W' + standing_weight S' < ((3 * (size (map v w.base) - 1) + 1) + waiting_weight W) + standing_weight S
