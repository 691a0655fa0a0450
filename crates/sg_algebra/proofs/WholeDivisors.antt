-- Euclid at the whole numbers, and divisors of natural numbers as divisors of whole numbers.
--   ℤE, bezoutℤ                 the whole numbers with their division; Bezout for each two
--   lowest_sameℤ                two equal fractions in lowest terms with positive denominators have the same parts
--   unit_abs                    a unit has the size 1
--   dvd_whole, whole_dvd        natural numbers divide each other exactly where they do as whole numbers
use Rattle.std.proofs.Common.{◌≡◌, ℕ, ◌*◌, ◌⊎◌, inl, inr, refl, sym, ap, subst, ◌∙◌, [], ◌∷◌, ℤ, pos, negsuc, ◌*ℤ◌, ◌<ℤ◌, unsigned_abs, int_div, int_rem, ◌/◌, arith}
use Rattle.std.proofs.lemmas.Int.{ints, unsigned_abs-mul}
use Rattle.std.proofs.Math.Nat.{dvd-mul_right, mul-div_cancel'}
use Rattle.std.specs.Int.{◌∣◌}
use Rattle.sg_algebra.proofs.Solver.{ring}
use Rattle.sg_algebra.proofs.Whole.{ℤR, readsℤ, ℤD, division, positive_ne}
use Rattle.sg_algebra.proofs.Divides.{Divides}
use Rattle.sg_algebra.proofs.Coprime.{Coprime, unit_between}
use Rattle.sg_algebra.proofs.Euclid.{Euclidean, Bezout, bezout}

abbrev pub ℤE : Euclidean
ℤE = record {
  D = ℤD;
  size = unsigned_abs;
  divide = λ a b h. record { q = int_div a b; r = int_rem a b; is = (division a b h).0; less = (division a b h).1 };
}

pub bezoutℤ : (a b : ℤ) → Bezout ℤR a b
bezoutℤ = bezout ℤE

-- ---- Units and lowest terms

product_one : (a b : ℕ) → a * b ≡ 1 → a ≡ 1
product_one a b h = grind arith

pub unit_abs : (m m' : ℤ) → m *ℤ m' ≡ pos 1 → unsigned_abs m ≡ 1
unit_abs m m' e = product_one (unsigned_abs m) (unsigned_abs m') (sym (unsigned_abs-mul m m') ∙ ap unsigned_abs e)

pub one_or_minus_one : (m : ℤ) → unsigned_abs m ≡ 1 → (m ≡ pos 1) ⊎ (m ≡ negsuc 0)
one_or_minus_one m h = grind (arith, ints)

not_both : (q q' : ℤ) → pos 0 <ℤ q → pos 0 <ℤ q' → q' ≡ q *ℤ negsuc 0 → ⊥
not_both q q' h j e = grind (arith, ints)

times_one : (x : ℤ) → x *ℤ pos 1 ≡ x
times_one x = ring ℤR (x ∷ []) (search readsℤ depth 12) refl

pub lowest_sameℤ : (p q p' q' : ℤ) → pos 0 <ℤ q → pos 0 <ℤ q' → Coprime ℤR p q → Coprime ℤR p' q' → p *ℤ q' ≡ p' *ℤ q → (p ≡ p') × (q ≡ q')
lowest_sameℤ p q p' q' a b c c' h =
    let w = unit_between ℤD p q p' q' (positive_ne q a) c c' h in
    go w.m w.lower w.upper (one_or_minus_one w.m (unit_abs w.m w.m' w.unit))
  where
    go : (m : ℤ) → q' ≡ q *ℤ m → p' ≡ p *ℤ m → (m ≡ pos 1) ⊎ (m ≡ negsuc 0) → (p ≡ p') × (q ≡ q')
    go m k l (inl e) = (sym (l ∙ ap (◌*ℤ◌ p) e ∙ times_one p), sym (k ∙ ap (◌*ℤ◌ q) e ∙ times_one q))
    go m k l (inr e) = absurd (not_both q q' a b (k ∙ ap (◌*ℤ◌ q) e))

-- ---- Natural numbers

pub whole_dvd : (a b : ℕ) → a ∣ b → Divides ℤR (pos a) (pos b)
whole_dvd a b d = record { cofactor = pos (b / a); is = ap pos (sym (mul-div_cancel' a d)) }

pub dvd_abs : (a b : ℤ) → Divides ℤR a b → unsigned_abs a ∣ unsigned_abs b
dvd_abs a b d = subst (λ (t : ℕ). unsigned_abs a ∣ t) (sym (ap unsigned_abs d.is ∙ unsigned_abs-mul a d.cofactor)) (dvd-mul_right (unsigned_abs a) (unsigned_abs d.cofactor))

pub dvd_whole : (a b : ℕ) → Divides ℤR (pos a) (pos b) → a ∣ b
dvd_whole a b d = dvd_abs (pos a) (pos b) d
