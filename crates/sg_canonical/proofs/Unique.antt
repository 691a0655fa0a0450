-- A quotient has one form with whole coefficients.
--   wholes-same       lists of whole numbers that are equal as fractions are equal
--   content-times     the common divisor of multiples
--   whole-unique      two forms of one quotient are equal
use Rattle.std.proofs.Common.{◌≡◌, ℕ, ◌*◌, ◌<◌, ℤ, pos, negsuc, ◌*ℤ◌, ◌<ℤ◌, unsigned_abs, List, [], ◌∷◌, ◌++◌, map, reverse, refl, sym, ap, ap₂, subst, ◌∙◌, arith, mul_comm}
use Rattle.std.proofs.lemmas.Int.{ints, unsigned_abs-mul}
use Rattle.std.proofs.lemmas.List.{map-append}
use Rattle.sg_algebra.specs.Divisor.{gcd}
use Rattle.sg_algebra.proofs.Divisor.{gcd-scaled, gcd_from_IsGcd}
use Rattle.sg_algebra.proofs.Rational.{whole_value}
use Rattle.sg_algebra.proofs.Value.{Value, ◌*ᵛ◌, zero_value}
use Rattle.sg_spec.specs.Canonical.{content, leading, plane_of}
use Rattle.sg_canonical.specs.Whole.{IsPrimitiveQuotient, wholes, multiplied}
use Rattle.sg_canonical.proofs.CommonDenominator.{wholes-times, reverse-multiplied}
use Rattle.sg_canonical.proofs.WholeQuotients.{whole-same}

abbrev head_or : List (Value 0) → Value 0
head_or [] = zero_value
head_or (v ∷ l) = v

abbrev rest_of : List (Value 0) → List (Value 0)
rest_of [] = []
rest_of (v ∷ l) = l

abbrev is_some : List (Value 0) → ℕ
is_some [] = 0
is_some (v ∷ l) = 1

pub wholes-same : (a b : List ℤ) → wholes a ≡ wholes b → a ≡ b
wholes-same [] [] h = refl
wholes-same [] (y ∷ b) h = let e : 0 ≡ 1 = ap is_some h in absurd (omega (arith, e))
wholes-same (x ∷ a) [] h = let e : 1 ≡ 0 = ap is_some h in absurd (omega (arith, e))
wholes-same (x ∷ a) (y ∷ b) h = ap₂ (λ (z : ℤ) (l : List ℤ). z ∷ l) (whole-same x y (ap head_or h)) (wholes-same a b (ap rest_of h))

pub content-times : (cs : List ℤ) (b : ℕ) → 0 < b → content (map (λ a. a *ℤ pos b) cs) ≡ b * content cs
content-times [] b h = let e : 0 ≡ b * 0 = omega arith in e
content-times (c ∷ cs) b h =
    ap₂ gcd (unsigned_abs-mul c (pos b) ∙ mul_comm (unsigned_abs c) b) (content-times cs b h)
    ∙ sym (gcd_from_IsGcd (b * unsigned_abs c) (b * content cs) (b * gcd (unsigned_abs c) (content cs)) (gcd-scaled b (unsigned_abs c) (content cs) h))

multiples-same : (p : List (Value 0)) (us us' : List ℤ) (l l' : ℤ) → wholes us ≡ reverse (multiplied l p) → wholes us' ≡ reverse (multiplied l' p) → map (λ a. a *ℤ l') us ≡ map (λ a. a *ℤ l) us'
multiples-same p us us' l l' h h' =
    let swap : l *ℤ l' ≡ l' *ℤ l = omega (arith, ints) in
    wholes-same (map (λ a. a *ℤ l') us) (map (λ a. a *ℤ l) us')
    (wholes-times us l' ∙ ap (map (λ v. v *ᵛ whole_value 0 l')) h ∙ reverse-multiplied l l' p ∙ ap (λ (z : ℤ). reverse (multiplied z p)) swap
    ∙ sym (wholes-times us' l ∙ ap (map (λ v. v *ᵛ whole_value 0 l)) h' ∙ reverse-multiplied l' l p))

factor-same : (a b : ℕ) (cs ds : List ℤ) → 0 < a → 0 < b → content cs ≡ 1 → content ds ≡ 1 → map (λ x. x *ℤ pos b) cs ≡ map (λ x. x *ℤ pos a) ds → a ≡ b
factor-same a b cs ds ha hb one one' h =
    let e : b * content cs ≡ a * content ds = sym (content-times cs b hb) ∙ ap content h ∙ content-times ds a ha in
    let f : b * 1 ≡ a * 1 = ap (λ (n : ℕ). b * n) (sym one) ∙ e ∙ ap (λ (n : ℕ). a * n) one' in
    omega (arith, f)

whole-factors : (l l' : ℤ) (cs ds : List ℤ) → pos 0 <ℤ l → pos 0 <ℤ l' → content cs ≡ 1 → content ds ≡ 1 → map (λ x. x *ℤ l') cs ≡ map (λ x. x *ℤ l) ds → l ≡ l'
whole-factors (pos a) (pos b) cs ds h k one one' e = ap pos (factor-same a b cs ds (omega (arith, ints, h)) (omega (arith, ints, k)) one one' e)
whole-factors (pos a) (negsuc b) cs ds h k one one' e = absurd (omega (arith, ints, k))
whole-factors (negsuc a) l' cs ds h k one one' e = absurd (omega (arith, ints, h))

pub whole-unique : (p q : List (Value 0)) (us ls us' ls' : List ℤ) → IsPrimitiveQuotient p q us ls → IsPrimitiveQuotient p q us' ls' → (us ≡ us') × (ls ≡ ls')
whole-unique p q us ls us' ls' h h' =
    let l : ℤ = leading (plane_of ls) in
    let l' : ℤ = leading (plane_of ls') in
    let all : map (λ a. a *ℤ leading (plane_of ls')) (us ++ ls) ≡ map (λ a. a *ℤ leading (plane_of ls)) (us' ++ ls') =
    map-append (λ a. a *ℤ leading (plane_of ls')) us ls
    ∙ ap₂ (λ (a b : List ℤ). a ++ b) (multiples-same p us us' (leading (plane_of ls)) (leading (plane_of ls')) h.upper h'.upper) (multiples-same q ls ls' (leading (plane_of ls)) (leading (plane_of ls')) h.lower h'.lower)
    ∙ sym (map-append (λ a. a *ℤ leading (plane_of ls)) us' ls') in
    let e : leading (plane_of ls) ≡ leading (plane_of ls') = whole-factors (leading (plane_of ls)) (leading (plane_of ls')) (us ++ ls) (us' ++ ls') h.positive h'.positive h.primitive h'.primitive all in
    (wholes-same us us' (h.upper ∙ ap (λ (z : ℤ). reverse (multiplied z p)) e ∙ sym h'.upper), wholes-same ls ls' (h.lower ∙ ap (λ (z : ℤ). reverse (multiplied z q)) e ∙ sym h'.lower))
