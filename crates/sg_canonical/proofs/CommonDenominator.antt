-- Fractions over a common denominator.
--   common-none, common-more       the recursion's start and step
use Rattle.std.proofs.Common.{◌≡◌, ℕ, ◌*◌, ◌<◌, ℤ, pos, ◌*ℤ◌, ◌<ℤ◌, unsigned_abs, List, [], ◌∷◌, ◌++◌, length, map, reverse, refl, sym, ap, ap₂, subst, ◌∙◌, arith, mul_comm}
use Rattle.std.proofs.lemmas.Int.{ints, unsigned_abs-mul}
use Rattle.std.proofs.lemmas.List.{reverse-append}
use Rattle.std.proofs.lemmas.Nat.Gcd.{dvd_antisymm, dvd_refl, dvd_trans}
use Rattle.std.proofs.Math.Nat.{one-dvd}
use Rattle.std.specs.Int.{◌∣◌}
use Rattle.sg_algebra.specs.Coefficients.{Each}
use Rattle.sg_algebra.specs.Divisor.{gcd}
use Rattle.sg_algebra.proofs.Whole.{mul_positive}
use Rattle.sg_algebra.proofs.Divisor.{gcd-is, coprime_of_dvd, dvd_of_coprime}
use Rattle.sg_algebra.proofs.Ring.{nat}
use Rattle.sg_algebra.proofs.Rational.{whole_value, fraction_value-rational, nat_ne}
use Rattle.sg_algebra.proofs.Solver.{ring, reads}
use Rattle.sg_algebra.proofs.Value.{Value, ◌*ᵛ◌}
use Rattle.sg_algebra.proofs.ValueField.{ValueR, value_product}
use Rattle.sg_num.proofs.Numbers.{den-positive, number-whole}
use Rattle.sg_num.specs.Value.{fraction, number}
use Rattle.sg_num.specs.declared.rat.Rat.{Rat}
use Rattle.sg_spec.specs.Fraction.{whole}
use Rattle.sg_num.proofs.WholeSteps.{whole_value-mul}
use Rattle.sg_canonical.specs.Whole.{IsCommon, wholes, multiplied, common_divisor}

-- ---- The common divisor

pub divides-all : (k : ℕ) (cs : List ℤ) (d : ℕ) → k ∣ d → Each (λ c. k ∣ unsigned_abs c) cs → k ∣ common_divisor cs d
divides-all k [] d h all = h
divides-all k (c ∷ cs) d h all = (gcd-is (unsigned_abs c) (common_divisor cs d)).2 k all.0 (divides-all k cs d h all.1)

pub divisor-denominator : (cs : List ℤ) (d : ℕ) → common_divisor cs d ∣ d
divisor-denominator [] d = dvd_refl d
divisor-denominator (c ∷ cs) d = dvd_trans (common_divisor (c ∷ cs) d) (gcd-is (unsigned_abs c) (common_divisor cs d)).1 (divisor-denominator cs d)

below-each : (k g : ℕ) (cs : List ℤ) → k ∣ g → Each (λ c. g ∣ unsigned_abs c) cs → Each (λ c. k ∣ unsigned_abs c) cs
below-each k g [] h all = tt
below-each k g (c ∷ cs) h all = (dvd_trans k h all.0, below-each k g cs h all.1)

pub divisor-each : (cs : List ℤ) (d : ℕ) → Each (λ c. common_divisor cs d ∣ unsigned_abs c) cs
divisor-each [] d = tt
divisor-each (c ∷ cs) d = (
  (gcd-is (unsigned_abs c) (common_divisor cs d)).0,
  below-each (common_divisor (c ∷ cs) d) (common_divisor cs d) cs (gcd-is (unsigned_abs c) (common_divisor cs d)).1 (divisor-each cs d),
)

-- what divides each multiple and is coprime to the factor divides each
each-divided : (k : ℕ) (b : ℕ) (cs : List ℤ) (n : ℤ) → gcd k b ≡ 1 → Each (λ c. k ∣ unsigned_abs c) (map (λ a. a *ℤ pos b) cs ++ (n ∷ [])) → Each (λ c. k ∣ unsigned_abs c) cs
each-divided k b [] n one all = tt
each-divided k b (c ∷ cs) n one all =
    (dvd_of_coprime k b (unsigned_abs c) one (subst (λ (t : ℕ). k ∣ t) (unsigned_abs-mul c (pos b) ∙ mul_comm (unsigned_abs c) b) all.0), each-divided k b cs n one all.1)

each-last : (k : ℕ) (cs : List ℤ) (n : ℤ) → Each (λ c. k ∣ unsigned_abs c) (cs ++ (n ∷ [])) → k ∣ unsigned_abs n
each-last k [] n all = all.0
each-last k (c ∷ cs) n all = each-last k cs n all.1

pub lowest-more : (cs : List ℤ) (d b : ℕ) (n : ℤ) → gcd (unsigned_abs n) b ≡ 1 → common_divisor cs d ≡ 1 → common_divisor (map (λ a. a *ℤ pos b) cs ++ (n ∷ [])) (d * b) ≡ 1
lowest-more cs d b n coprime lowest = all-one (common_divisor (map (λ a. a *ℤ pos b) cs ++ (n ∷ [])) (d * b)) (divisor-denominator (map (λ a. a *ℤ pos b) cs ++ (n ∷ [])) (d * b)) (divisor-each (map (λ a. a *ℤ pos b) cs ++ (n ∷ [])) (d * b))
  where
    all-one : (k : ℕ) → k ∣ d * b → Each (λ c. k ∣ unsigned_abs c) (map (λ a. a *ℤ pos b) cs ++ (n ∷ [])) → k ≡ 1
    all-one k h all =
        let one : gcd k b ≡ 1 = coprime_of_dvd (unsigned_abs n) b k coprime (each-last k (map (λ a. a *ℤ pos b) cs) n all) in
        let below : k ∣ d = dvd_of_coprime k b d one (subst (λ (t : ℕ). k ∣ t) (mul_comm d b) h) in
        dvd_antisymm (subst (λ (t : ℕ). k ∣ t) lowest (divides-all k cs d below (each-divided k b cs n one all))) (one-dvd k)

-- ---- The loop

pub common-none : (p : List Rat) (cs : List ℤ) → length p ≡ 0 → cs ≡ [] → IsCommon p cs (pos 1)
common-none [] cs e f = subst (λ (l : List ℤ). IsCommon [] l (pos 1)) (sym f) (record { positive = omega (arith, ints); value = refl; lowest = refl })
common-none (a ∷ p) cs e f = absurd (omega arith)

size-is : (d : ℤ) (b : ℕ) → unsigned_abs (d *ℤ pos b) ≡ unsigned_abs d * b
size-is d b = unsigned_abs-mul d (pos b)

above-zero : (d : ℤ) (b : ℕ) → pos 0 <ℤ d → 0 < b → pos 0 <ℤ (d *ℤ pos b)
above-zero d b h k = mul_positive d (pos b) h (omega (arith, ints))

wholes-push : (cs : List ℤ) (n : ℤ) → wholes (cs ++ (n ∷ [])) ≡ wholes cs ++ (whole_value 0 n ∷ [])
wholes-push [] n = refl
wholes-push (c ∷ cs) n = ap (λ (l : List (Value 0)). whole_value 0 c ∷ l) (wholes-push cs n)

times_last : Value 0 → List (Value 0) → List (Value 0)
times_last b l = map (λ v. v *ᵛ b) l

pub wholes-times : (cs : List ℤ) (b : ℤ) → wholes (map (λ a. a *ℤ b) cs) ≡ map (λ v. v *ᵛ whole_value 0 b) (wholes cs)
wholes-times [] b = refl
wholes-times (c ∷ cs) b = ap₂ (λ (v : Value 0) (l : List (Value 0)). v ∷ l) (whole_value-mul c b) (wholes-times cs b)

map-push : (b : Value 0) (l : List (Value 0)) (x : Value 0) → map (λ v. v *ᵛ b) (l ++ (x ∷ [])) ≡ map (λ v. v *ᵛ b) l ++ ((x *ᵛ b) ∷ [])
map-push b [] x = refl
map-push b (y ∷ l) x = ap (λ (t : List (Value 0)). (y *ᵛ b) ∷ t) (map-push b l x)

pub reverse-cons : {A : Type 0} (x : A) (l : List A) → reverse (x ∷ l) ≡ reverse l ++ (x ∷ [])
reverse-cons x l = reverse-append (x ∷ []) l

pub reverse-multiplied : (d b : ℤ) (l : List (Value 0)) → map (λ v. v *ᵛ whole_value 0 b) (reverse (multiplied d l)) ≡ reverse (multiplied (d *ℤ b) l)
reverse-multiplied d b [] = refl
reverse-multiplied d b (x ∷ l) =
    ap (map (λ v. v *ᵛ whole_value 0 b)) (reverse-cons (whole_value 0 d *ᵛ x) (multiplied d l))
    ∙ map-push (whole_value 0 b) (reverse (multiplied d l)) (whole_value 0 d *ᵛ x)
    ∙ ap₂ (λ (t : List (Value 0)) (v : Value 0). t ++ (v ∷ [])) (reverse-multiplied d b l) (turned (whole_value 0 d) (whole_value 0 b) x ∙ ap (λ v. v *ᵛ x) (sym (whole_value-mul d b)))
    ∙ sym (reverse-cons (whole_value 0 (d *ℤ b) *ᵛ x) (multiplied (d *ℤ b) l))
  where
    turned : (d b x : Value 0) → (d *ᵛ x) *ᵛ b ≡ (d *ᵛ b) *ᵛ x
    turned d b x = ring (ValueR 0) (d ∷ b ∷ x ∷ []) (search reads depth 16) refl

pub common-more : (p rest : List Rat) (c z more : Rat) (cs lent all : List ℤ) (d e : ℤ) → p ≡ c ∷ rest → IsCommon rest cs d → fraction z ≡ whole d → number more ≡ number z *ᵛ number c → lent ≡ cs
    → all ≡ map (λ a. a *ℤ pos (unsigned_abs more.den)) lent ++ (more.num ∷ []) → e ≡ d *ℤ pos (unsigned_abs more.den) → IsCommon p all e
common-more p rest c z more cs lent all d e is h hz k l ha he =
    subst (λ (q : List Rat). IsCommon q all e) (sym is)
    (subst (λ (l : List ℤ). IsCommon (c ∷ rest) l e) (sym (ha ∙ ap (λ (t : List ℤ). map (λ a. a *ℤ pos b) t ++ (more.num ∷ [])) l))
    (subst (λ (z : ℤ). IsCommon (c ∷ rest) (map (λ a. a *ℤ pos b) cs ++ (more.num ∷ [])) z) (sym he)
    (record {
      positive = above-zero d b h.positive (den-positive more);
      value = wholes-push (map (λ a. a *ℤ pos b) cs) more.num
          ∙ ap₂ (λ (t : List (Value 0)) (v : Value 0). t ++ (v ∷ [])) (wholes-times cs (pos b) ∙ ap (map (λ v. v *ᵛ whole_value 0 (pos b))) h.value ∙ reverse-multiplied d (pos b) (map number rest)) last
          ∙ sym (reverse-cons (whole_value 0 (d *ℤ pos b) *ᵛ number c) (multiplied (d *ℤ pos b) (map number rest)));
      lowest = ap (common_divisor (map (λ a. a *ℤ pos b) cs ++ (more.num ∷ []))) (size-is d b) ∙ lowest-more cs (unsigned_abs d) b more.num more.lowest h.lowest;
    })))
  where
    b : ℕ
    b = unsigned_abs more.den

    numerator : whole_value 0 more.num ≡ number more *ᵛ whole_value 0 (pos (unsigned_abs more.den))
    numerator =
        sym (value_product (whole_value 0 more.num) (nat (ValueR 0) (unsigned_abs more.den)) (nat_ne (unsigned_abs more.den) (den-positive more)))
        ∙ ap (λ v. v *ᵛ nat (ValueR 0) (unsigned_abs more.den)) (sym (fraction_value-rational more.num (unsigned_abs more.den) (den-positive more)))

    turned : (d b x : Value 0) → (d *ᵛ x) *ᵛ b ≡ (d *ᵛ b) *ᵛ x
    turned d b x = ring (ValueR 0) (d ∷ b ∷ x ∷ []) (search reads depth 16) refl

    last : whole_value 0 more.num ≡ whole_value 0 (d *ℤ pos (unsigned_abs more.den)) *ᵛ number c
    last = numerator ∙ ap (λ v. v *ᵛ whole_value 0 (pos (unsigned_abs more.den))) (k ∙ ap (λ v. v *ᵛ number c) (number-whole z d hz))
        ∙ turned (whole_value 0 d) (whole_value 0 (pos (unsigned_abs more.den))) (number c) ∙ ap (λ v. v *ᵛ number c) (sym (whole_value-mul d (pos (unsigned_abs more.den))))
