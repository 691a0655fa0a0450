-- Quotients with whole coefficients.
--   whole-same        equal fractions are equal whole numbers
--   whole-is          both lists of coefficients over their least common denominator, where the lower polynomial is monic
use Rattle.std.proofs.Common.{◌≡◌, ℕ, zero, suc, ◌-◌, ◌<◌, ℤ, pos, ◌*ℤ◌, ◌<ℤ◌, unsigned_abs, List, [], ◌∷◌, ◌++◌, length, map, take, drop, reverse, refl, sym, ap, ap₂, subst, ◌∙◌, arith}
use Rattle.std.proofs.lemmas.Int.{ints}
use Rattle.std.proofs.lemmas.List.{reverse-append, map-append, length-reverse, length-map, take-map}
use Rattle.std.proofs.lemmas.Nat.Gcd.{dvd_antisymm, dvd_refl, dvd_trans}
use Rattle.std.proofs.Math.Nat.{one-dvd}
use Rattle.std.specs.Int.{◌∣◌}
use Rattle.sg_algebra.specs.Coefficients.{Each, coef}
use Rattle.sg_algebra.specs.Divisor.{gcd}
use Rattle.sg_algebra.proofs.Degree.{Monic}
use Rattle.sg_algebra.proofs.Divisor.{gcd-is}
use Rattle.sg_algebra.proofs.Rational.{whole_value, same_fraction_value, fraction_value-whole}
use Rattle.sg_algebra.proofs.Solver.{ring, reads}
use Rattle.sg_algebra.proofs.Value.{Value, ◌*ᵛ◌, zero_value, one_value}
use Rattle.sg_algebra.proofs.ValueField.{ValueR, value_one_ne}
use Rattle.sg_num.specs.Value.{number}
use Rattle.sg_num.specs.declared.rat.Rat.{Rat}
use Rattle.sg_spec.specs.Canonical.{content, leading, plane_of}
use Rattle.sg_canonical.specs.Whole.{IsCommon, IsPrimitiveQuotient, wholes, multiplied, common_divisor}
use Rattle.sg_canonical.proofs.CommonDenominator.{divides-all, divisor-denominator, divisor-each, reverse-cons}

pub whole-same : (m n : ℤ) → whole_value 0 m ≡ whole_value 0 n → m ≡ n
whole-same m n h =
    let crossed : m *ℤ pos 1 ≡ n *ℤ pos 1 = same_fraction_value m n 1 1 (omega arith) (omega arith) (fraction_value-whole m ∙ h ∙ sym (fraction_value-whole n)) in
    omega (arith, ints, crossed)

-- ---- Lists

take-exact : (n : ℕ) (a b : List (Value 0)) → length a ≡ n → take n (a ++ b) ≡ a
take-exact zero [] b h = refl
take-exact zero (x ∷ a) b h = absurd (omega arith)
take-exact (suc n) [] b h = absurd (omega arith)
take-exact (suc n) (x ∷ a) b h = ap (λ (l : List (Value 0)). x ∷ l) (take-exact n a b (omega arith))

drop-exact : (n : ℕ) (a b : List (Value 0)) → length a ≡ n → drop n (a ++ b) ≡ b
drop-exact zero [] b h = refl
drop-exact zero (x ∷ a) b h = absurd (omega arith)
drop-exact (suc n) [] b h = absurd (omega arith)
drop-exact (suc n) (x ∷ a) b h = drop-exact n a b (omega arith)

wholes-drop : (n : ℕ) (cs : List ℤ) → wholes (drop n cs) ≡ drop n (wholes cs)
wholes-drop zero cs = refl
wholes-drop (suc n) [] = refl
wholes-drop (suc n) (c ∷ cs) = wholes-drop n cs

last-in : (n : ℕ) (q : List (Value 0)) → length q ≡ suc n → coef (ValueR 0) q n ≡ one_value → (l : List (Value 0)) × (q ≡ l ++ (one_value ∷ []))
last-in n [] e h = absurd (omega (arith, e))
last-in zero (a ∷ []) e h = ([], ap (λ (v : Value 0). v ∷ []) h)
last-in (suc n) (a ∷ []) e h = absurd (omega (arith, e))
last-in zero (a ∷ (b ∷ q)) e h = absurd (omega (arith, e))
last-in (suc n) (a ∷ (b ∷ q)) e h = let r = last-in n (b ∷ q) (omega (arith, e)) h in (a ∷ r.0, ap (λ (l : List (Value 0)). a ∷ l) r.1)

last-is : (q : List (Value 0)) → coef (ValueR 0) q (length q - 1) ≡ one_value → (l : List (Value 0)) × (q ≡ l ++ (one_value ∷ []))
last-is [] h = absurd (value_one_ne 0 (sym h))
last-is (a ∷ q) h =
    let n : length (a ∷ q) - 1 ≡ length q = omega arith in
    last-in (length q) (a ∷ q) refl (subst (λ (n : ℕ). coef (ValueR 0) (a ∷ q) n ≡ one_value) n h)

abbrev first : List (Value 0) → Value 0
first [] = zero_value
first (v ∷ l) = v

first-leading : (cs : List ℤ) → whole_value 0 (leading (plane_of cs)) ≡ first (wholes cs)
unfolding zero_value
first-leading [] = refl
first-leading (c ∷ cs) = refl

multiplied-append : (d : ℤ) (a b : List (Value 0)) → multiplied d (a ++ b) ≡ multiplied d a ++ multiplied d b
multiplied-append d a b = map-append (λ v. whole_value 0 d *ᵛ v) a b

times-one : (d : Value 0) → d *ᵛ one_value ≡ d
times-one d = ring (ValueR 0) (d ∷ []) (search reads depth 16) refl

reverse-last : (d : ℤ) (q l : List (Value 0)) → q ≡ l ++ (one_value ∷ []) → first (reverse (multiplied d q)) ≡ whole_value 0 d
reverse-last d q l e =
    ap (λ (t : List (Value 0)). first (reverse (multiplied d t))) e ∙ ap (λ (t : List (Value 0)). first (reverse t)) (multiplied-append d l (one_value ∷ []))
    ∙ ap first (reverse-append (multiplied d l) ((whole_value 0 d *ᵛ one_value) ∷ [])) ∙ times-one (whole_value 0 d)

-- ---- Common divisors

content-is : (cs : List ℤ) → content cs ≡ common_divisor cs 0
content-is [] = refl
content-is (c ∷ cs) = ap (gcd (unsigned_abs c)) (content-is cs)

each-append : (k : ℕ) (a b : List ℤ) → Each (λ c. k ∣ unsigned_abs c) a → Each (λ c. k ∣ unsigned_abs c) b → Each (λ c. k ∣ unsigned_abs c) (a ++ b)
each-append k [] b h i = i
each-append k (x ∷ a) b h i = (h.0, each-append k a b h.1 i)

each-left : (k : ℕ) (a b : List ℤ) → Each (λ c. k ∣ unsigned_abs c) (a ++ b) → Each (λ c. k ∣ unsigned_abs c) a
each-left k [] b h = tt
each-left k (x ∷ a) b h = (h.0, each-left k a b h.1)

each-right : (k : ℕ) (a b : List ℤ) → Each (λ c. k ∣ unsigned_abs c) (a ++ b) → Each (λ c. k ∣ unsigned_abs c) b
each-right k [] b h = h
each-right k (x ∷ a) b h = each-right k a b h.1

-- what divides each divides the leading one
each-leading : (k : ℕ) (cs : List ℤ) (d : ℤ) → leading (plane_of cs) ≡ d → ¬ (d ≡ pos 0) → Each (λ c. k ∣ unsigned_abs c) cs → k ∣ unsigned_abs d
each-leading k [] d e n h = absurd (n (sym e))
each-leading k (c ∷ cs) d e n h = subst (λ (z : ℤ). k ∣ unsigned_abs z) e h.0

content-one : (us ls cs : List ℤ) (d : ℤ) → cs ≡ ls ++ us → leading (plane_of ls) ≡ d → ¬ (d ≡ pos 0) → common_divisor cs (unsigned_abs d) ≡ 1 → content (us ++ ls) ≡ 1
content-one us ls cs d e l n one =
    let k : ℕ = content (us ++ ls) in
    let each : Each (λ c. content (us ++ ls) ∣ unsigned_abs c) (us ++ ls) = subst (λ (k : ℕ). Each (λ c. k ∣ unsigned_abs c) (us ++ ls)) (sym (content-is (us ++ ls))) (divisor-each (us ++ ls) 0) in
    let lower : Each (λ c. content (us ++ ls) ∣ unsigned_abs c) ls = each-right (content (us ++ ls)) us ls each in
    let all : Each (λ c. content (us ++ ls) ∣ unsigned_abs c) (ls ++ us) = each-append (content (us ++ ls)) ls us lower (each-left (content (us ++ ls)) us ls each) in
    let divides : content (us ++ ls) ∣ common_divisor (ls ++ us) (unsigned_abs d) = divides-all (content (us ++ ls)) (ls ++ us) (unsigned_abs d) (each-leading (content (us ++ ls)) ls d l n lower) all in
    dvd_antisymm (subst (λ (t : ℕ). content (us ++ ls) ∣ t) (ap (λ (t : List ℤ). common_divisor t (unsigned_abs d)) (sym e) ∙ one) divides) (one-dvd (content (us ++ ls)))

take-drop : (n : ℕ) (cs : List ℤ) → cs ≡ take n cs ++ drop n cs
take-drop zero cs = refl
take-drop (suc n) [] = refl
take-drop (suc n) (c ∷ cs) = ap (λ (l : List ℤ). c ∷ l) (take-drop n cs)

-- ---- The quotient

pub whole-is : (p q list : List Rat) (cs us ls : List ℤ) (d : ℤ) → list ≡ p ++ q → Monic (ValueR 0) (length q - 1) (map number q) → IsCommon list cs d → ls ≡ take (length q) cs → us ≡ drop (length q) cs
    → IsPrimitiveQuotient (map number p) (map number q) us ls
whole-is p q list cs us ls d hl m h l u =
    let P : List (Value 0) = map number p in
    let Q : List (Value 0) = map number q in
    let both : wholes cs ≡ reverse (multiplied d (map number q)) ++ reverse (multiplied d (map number p)) =
    h.value ∙ ap (λ (t : List Rat). reverse (multiplied d (map number t))) hl ∙ ap (λ (t : List (Value 0)). reverse (multiplied d t)) (map-append number p q)
    ∙ ap reverse (multiplied-append d (map number p) (map number q)) ∙ reverse-append (multiplied d (map number p)) (multiplied d (map number q)) in
    let size : length (reverse (multiplied d (map number q))) ≡ length q = length-reverse (multiplied d (map number q)) ∙ length-map (map number q) (λ v. whole_value 0 d *ᵛ v) ∙ length-map q number in
    let lower : wholes ls ≡ reverse (multiplied d (map number q)) =
    ap wholes l ∙ sym (take-map (whole_value 0) (length q) cs) ∙ ap (take (length q)) both ∙ take-exact (length q) (reverse (multiplied d (map number q))) (reverse (multiplied d (map number p))) size in
    let upper : wholes us ≡ reverse (multiplied d (map number p)) =
    ap wholes u ∙ wholes-drop (length q) cs ∙ ap (drop (length q)) both ∙ drop-exact (length q) (reverse (multiplied d (map number q))) (reverse (multiplied d (map number p))) size in
    let last = last-is (map number q) (subst (λ (n : ℕ). coef (ValueR 0) (map number q) (n - 1) ≡ one_value) (sym (length-map q number)) m.top) in
    let leads : leading (plane_of ls) ≡ d = whole-same (leading (plane_of ls)) d (first-leading ls ∙ ap first lower ∙ reverse-last d (map number q) last.0 last.1) in
    record {
      upper = upper ∙ ap (λ (z : ℤ). reverse (multiplied z (map number p))) (sym leads);
      lower = lower ∙ ap (λ (z : ℤ). reverse (multiplied z (map number q))) (sym leads);
      positive = subst (λ (z : ℤ). pos 0 <ℤ z) (sym leads) h.positive;
      primitive = content-one us ls cs d (take-drop (length q) cs ∙ ap₂ (λ (a b : List ℤ). a ++ b) (sym l) (sym u)) leads (λ e. absurd (omega (arith, ints, e, h.positive))) h.lowest;
    }
