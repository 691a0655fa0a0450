-- Shares of the program, and what the steps with them do. A share has numerators, one for each of several functions, over one denominator.
--   polys v ps            the polynomials with these rows of coefficients
--   share v s, shares v list    what a share of the program, and a list of them, stand for
--   over us w             the share with the numerators us over w
--   image_of m c s        c times the share at k + m
--   scaled_by c s         c times the share
--   size p                how many coefficients p has without the zeros at its end
--   IsCut v w u r         w is u r, which are coprime, both are shorter, and u is monic
--   IsFree w ss           no image of w has a common divisor with another one, or with an image of a denominator of ss
--   IsJoint w v m         the image of w at k - m divides a power of v
--   IsJointAt v w list i m    the same of w and the denominator at the place i of a list of shares of the program
--   IsMeeting w v u r     w is u r, where u divides a power of the greatest common divisor of w and v, and r is coprime to it
--   IsGreatest shifts m   m is the greatest of the shifts, and positive
--   HasLowers ss          no denominator is 0
--   lower_at list i       the coefficients of the denominator at the place i
--   IsSplit s t r         s is the sum of t and r
--   IsJoined s t l        l is the sum of s and t, over a divisor of the product of the denominators
--   IsCarried a m s mv r mv'    s is moved to k + m, and becomes r; what is moved is noted in mv
--   Settles a s ss mv ss' mv'   s is added to the settled shares ss, and the sums stay the same, with what was moved
--   Peels a s ss mv r ss' mv'   a part of s is split off and settled, and r is left
--   Settling, Peeling v a s old new      the same of shares of the program
use Rattle.std.specs.Prelude.{◌≡◌, ℕ, ◌<◌, List, [], ◌∷◌, length, map, get_or, ℤ, pos, neg_ℤ, ◌<ℤ◌, ◌≤ℤ◌, Contains}
use Rattle.sg_algebra.specs.Coefficients.{Each}
use Rattle.sg_algebra.proofs.Ring.{pow}
use Rattle.sg_algebra.proofs.Divides.{Divides}
use Rattle.sg_algebra.proofs.Coprime.{Coprime}
use Rattle.sg_algebra.proofs.Degree.{poly_size}
use Rattle.sg_algebra.proofs.Value.{Value, ◌+ᵛ◌}
use Rattle.sg_algebra.proofs.ValueField.{ValueR, value_is_zero}
use Rattle.sg_algebra.proofs.Polynomial.{Polynomial, PolynomialR, poly, constant, zero_polynomial, ◌*ᵖ◌}
use Rattle.sg_poly.specs.Divisors.{IsMonic, IsGcd}
use Rattle.sg_first_order_theory.proofs.Next.{nextH, moved_polynomial}
use Rattle.sg_reduction_theory.proofs.Apart.{Free, Apart}
use Rattle.sg_reduction_theory.proofs.Moves.{Share}
use Rattle.sg_reduction_theory.proofs.Answer.{bottoms}
use Rattle.sg_reduction_theory.proofs.Spanning.{Sized}
use Rattle.sg_reduction_theory.proofs.Steps.{term}
use Rattle.sg_reduction_theory.proofs.Settling.{Carries, IsPart}
use Rattle.sg_reduction_theory.proofs.Places.{Fits, Good}
use Rattle.sg_constant.specs.declared.shares.Share.{Share as Given}
use Rattle.sg_constant.specs.declared.shares.State.{State}

abbrev pub polys : {K : Type 0} {d : ℕ} → (K → Value d) → List (List K) → List (Polynomial d)
polys v ps = map (λ p. poly (map v p)) ps

abbrev pub over : {d : ℕ} → List (Polynomial d) → Polynomial d → Share d
over us w = record { uppers = us; lower = w }

abbrev pub share : {K : Type 0} {d : ℕ} → (K → Value d) → Given K → Share d
share v s = over (polys v s.uppers) (poly (map v s.lower))

abbrev pub shares : {K : Type 0} {d : ℕ} → (K → Value d) → List (Given K) → List (Share d)
shares v list = map (share v) list

abbrev pub image_of : {d : ℕ} → ℤ → Value d → Share d → Share d
image_of m c s = over (map (λ x. constant c *ᵖ moved_polynomial m x) s.uppers) (moved_polynomial m s.lower)

abbrev pub scaled_by : {d : ℕ} → Value d → Share d → Share d
scaled_by c s = over (map (λ x. constant c *ᵖ x) s.uppers) s.lower

abbrev pub size : {d : ℕ} → List (Value d) → ℕ
size {d} p = poly_size (ValueR d) (value_is_zero d) p

pub record IsCut {K : Type 0} {d : ℕ} (v : K → Value d) (w u r : List K) : Type 0 where
  pub is : poly (map v w) ≡ poly (map v u) *ᵖ poly (map v r)
  pub monic : IsMonic (map v u)
  pub apart : Coprime (PolynomialR d) (poly (map v u)) (poly (map v r))
  pub left : size (map v u) < size (map v w)
  pub right : size (map v r) < size (map v w)

pub record IsFree {d : ℕ} (w : Polynomial d) (ss : List (Share d)) : Type 0 where
  pub own : Free (PolynomialR d) (nextH d) w
  pub others : Each (Apart (PolynomialR d) (nextH d) w) (bottoms ss)

pub record IsJoint {d : ℕ} (w v : Polynomial d) (m : ℤ) : Type 0 where
  pub n : ℕ
  pub is : Divides (PolynomialR d) (moved_polynomial (neg_ℤ m) w) (pow (PolynomialR d) v n)

pub record IsMeeting {d : ℕ} (w v u r : Polynomial d) : Type 0 where
  pub e : Polynomial d
  pub common : IsGcd e w v
  pub part : IsPart (PolynomialR d) (nextH d) w u r e

pub record IsGreatest (shifts : List ℤ) (m : ℤ) : Type 0 where
  pub positive : pos 0 <ℤ m
  pub inside : Contains shifts m
  pub largest : (k : ℤ) → Contains shifts k → k ≤ℤ m

abbrev pub HasLowers : {d : ℕ} → List (Share d) → Type 0
HasLowers ss = Each (λ t. ¬ (t.lower ≡ zero_polynomial)) ss

abbrev pub lower_at : {K : Type 0} → List (Given K) → ℕ → List K
lower_at list i = get_or (map (λ t. t.lower) list) i []

pub record IsSplit {d : ℕ} (s t r : Share d) : Type 0 where
  pub is : (c : ℕ → Value d) → term c s ≡ term c t +ᵛ term c r
  pub fits : Fits s → Fits t × Fits r
  pub first : length t.uppers ≡ length s.uppers
  pub second : length r.uppers ≡ length s.uppers

pub record IsJoined {d : ℕ} (s t l : Share d) : Type 0 where
  pub is : (c : ℕ → Value d) → term c l ≡ term c s +ᵛ term c t
  pub fits : Fits s → Fits t → Fits l
  pub number : length l.uppers ≡ length s.uppers
  pub lower : Divides (PolynomialR d) l.lower (s.lower *ᵖ t.lower)

pub record IsCarried {d : ℕ} (a : Value d) (m : ℤ) (s : Share d) (mv : List (Share d)) (r : Share d) (mv' : List (Share d)) : Type 0 where
  pub carries : Carries a (s ∷ []) mv (r ∷ []) mv'
  pub lower : r.lower ≡ moved_polynomial m s.lower
  pub number : length r.uppers ≡ length s.uppers
  pub fits : Fits s → Fits r
  pub sized : (n : ℕ) → length s.uppers ≡ n → Sized n mv → Sized n mv'
  pub lowers : HasLowers mv → HasLowers mv'

pub record Settles {d : ℕ} (a : Value d) (s : Share d) (ss mv ss' mv' : List (Share d)) : Type 0 where
  pub good : Good (length s.uppers) ss → Good (length s.uppers) ss'
  pub sized : Sized (length s.uppers) mv → Sized (length s.uppers) mv'
  pub lowers : HasLowers mv → HasLowers mv'
  pub carries : Carries a (s ∷ ss) mv ss' mv'

abbrev pub IsJointAt : {K : Type 0} {d : ℕ} → (K → Value d) → List K → List (Given K) → ℕ → ℤ → Type 0
IsJointAt v w list i m = (i < length list) × IsJoint (poly (map v w)) (poly (map v (lower_at list i))) m

-- after a part of s is split off and settled, r is left
pub record Peels {d : ℕ} (a : Value d) (s : Share d) (ss mv : List (Share d)) (r : Share d) (ss' mv' : List (Share d)) : Type 0 where
  pub good : Good (length s.uppers) ss → Good (length s.uppers) ss'
  pub sized : Sized (length s.uppers) mv → Sized (length s.uppers) mv'
  pub lowers : HasLowers mv → HasLowers mv'
  pub carries : Carries a (s ∷ ss) mv (r ∷ ss') mv'
  pub fits : Fits s → Fits r
  pub number : length r.uppers ≡ length s.uppers

abbrev pub Settling : {K : Type 0} {d : ℕ} → (K → Value d) → Value d → Given K → State K → State K → Type 0
Settling v a s old new = Settles a (share v s) (shares v old.settled) (shares v old.moved) (shares v new.settled) (shares v new.moved)

abbrev pub Peeling : {K : Type 0} {d : ℕ} → (K → Value d) → Value d → Given K → State K → Given K → State K → Type 0
Peeling v a s old r new = Peels a (share v s) (shares v old.settled) (shares v old.moved) (share v r) (shares v new.settled) (shares v new.moved)
