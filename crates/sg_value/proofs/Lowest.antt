-- Fractions in lowest terms.
--   lowest-same    lowest terms are an equal fraction
--   above_zero     a denominator is at least 1
--   lowest_is      a fraction in lowest terms is the lowest terms of each equal one
use Rattle.std.proofs.Common.{◌≡◌, ℕ, suc, [], ◌∷◌, ◌/◌, ◌<◌, ℤ, pos, negsuc, ◌+ℤ◌, ◌*ℤ◌, neg_ℤ, ◌<ℤ◌, unsigned_abs, refl, ap₂, arith}
use Rattle.std.proofs.lemmas.Int.{ints}
use Rattle.sg_algebra.specs.Divisor.{gcd}
use Rattle.sg_algebra.proofs.Coprime.{Coprime}
use Rattle.sg_algebra.proofs.Divisor.{coprime_parts, coprime_whole, lowest_same}
use Rattle.sg_algebra.proofs.Solver.{by}
use Rattle.sg_algebra.proofs.Whole.{ℤR, readsℤ}
use Rattle.sg_spec.specs.Fraction.{Fraction, Same}
use Rattle.sg_spec.specs.Width.{differ, is_below_zero}
use Rattle.sg_spec.specs.Steps.{lowest}
use Rattle.sg_spec.proofs.Fractions.{Same-trans, Same-sym}
use Rattle.sg_num.specs.declared.rat.Rat.{Rat}
use Rattle.sg_num.specs.Value.{fraction}
use Rattle.sg_num.proofs.Signs.{unsigned_abs-with_sign}
use Rattle.sg_num.proofs.Terms.{reduced-value, divided-positive}

pub lowest-same : (x : Fraction) → Same (lowest x) x
lowest-same x = reduced-value x.num (pos x.den)

coprime_signed : (z : ℤ) (b : ℕ) → gcd (unsigned_abs z) b ≡ 1 → Coprime ℤR z (pos b)
coprime_signed (pos a) b h = coprime_whole a b h
coprime_signed (negsuc a) b h =
    let c = coprime_whole (suc a) b h in
    record { u = neg_ℤ c.u; w = c.w; comb = turned c.u c.w (pos (suc a)) (pos b) c.comb }
  where
    turned : (u w a b : ℤ) → u *ℤ a +ℤ w *ℤ b ≡ pos 1 → neg_ℤ u *ℤ neg_ℤ a +ℤ w *ℤ b ≡ pos 1
    turned u w a b e = by ℤR (u ∷ w ∷ a ∷ b ∷ []) e (search readsℤ depth 16) refl

lowest-coprime : (x : Fraction) → 0 < x.den → gcd (unsigned_abs (lowest x).num) (lowest x).den ≡ 1
lowest-coprime x h =
    let a = unsigned_abs x.num in
    let e = unsigned_abs-with_sign (differ (is_below_zero x.num) (is_below_zero (pos x.den))) (a / gcd a x.den) in
    rw e (coprime_parts a x.den h)

pub above_zero : (r : Rat) → 0 < (fraction r).den
above_zero r = let p : pos 0 <ℤ r.den = r.positive in omega (arith, ints)

pub lowest_is : (r : Rat) (x : Fraction) → Same (fraction r) x → 0 < x.den → fraction r ≡ lowest x
lowest_is r x same h =
    let through : Same (fraction r) (lowest x) = Same-trans (fraction r) x (lowest x) h same (Same-sym (lowest x) x (lowest-same x)) in
    let parts = lowest_same r.num (lowest x).num (fraction r).den (lowest x).den (above_zero r) (divided-positive (unsigned_abs x.num) x.den h)
    (coprime_signed r.num (fraction r).den r.lowest) (coprime_signed (lowest x).num (lowest x).den (lowest-coprime x h)) through in
    ap₂ (λ (n : ℤ) (d : ℕ). let z : Fraction = record { num = n; den = d } in z) parts.0 parts.1
