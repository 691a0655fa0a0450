-- The closed form of the sum of a plain polynomial.
--   plain-sums, plain-prods, plain-start    a plain polynomial has no sums, no products, and starts at the lower limit
--   over-canonical, form-is                 the canonical tree is built over nothing, and may be printed
--   closed-plain, canonical-plain           it is a closed form in canonical form, where its polynomial telescopes the summand's
--   empty-plain                             before the first term it is 0
use Rattle.std.proofs.Common.{◌≡◌, ◌==◌, ℕ, zero, suc, ◌<◌, ℤ, pos, negsuc, neg_ℤ, ◌-ℤ◌, ◌*ℤ◌, ◌<ℤ◌, unsigned_abs, Bool, true, false, cond, Some, List, [], ◌∷◌, ◌++◌, length, map, sym, refl, ap, ap₂, subst, ◌∙◌, arith}
use Rattle.std.proofs.lemmas.Int.{ints}
use Rattle.sg_algebra.proofs.Rational.{whole_value, nat_ne, fraction_value-zero}
use Rattle.sg_algebra.proofs.Solver.{ring, reads}
use Rattle.sg_algebra.proofs.Value.{Value, ◌+ᵛ◌, ◌*ᵛ◌, ◌/ᵛ◌, inv_value, zero_value}
use Rattle.sg_algebra.proofs.ValueField.{ValueR, value_quotient, value_product}
use Rattle.sg_num.proofs.WholeSteps.{whole_value-add, whole_value-mul}
use Rattle.sg_spec.specs.Canonical.{IsCanonicalOver}
use Rattle.sg_spec.specs.Closed.{Closed, IsOverOwn}
use Rattle.sg_spec.specs.Fraction.{whole}
use Rattle.sg_spec.specs.Generators.{Over, all_sums, all_prods, sums, prods, distinct, start_of}
use Rattle.sg_spec.specs.Polynomials.{IsPolynomial}
use Rattle.sg_spec.specs.Printing.{InForm}
use Rattle.sg_spec.specs.Tree.{Tree, numeral, here, param, add, neg, mul, div, power, sum_from, prod_from}
use Rattle.sg_spec.specs.Value.{val, SameValue}
use Rattle.sg_spec.proofs.Values.{val-proper}
use Rattle.sg_spec.proofs.Worth.{worth_cong, worth_same, total_worth}
use Rattle.sg_plain.specs.Lowest.{falling_at, IsSummed}
use Rattle.sg_plain.specs.Plain.{whole_at}
use Rattle.sg_plain.specs.Terms.{variable_power, monomial, with_term, with_terms, numerator, leads_below_zero, canonical, falling_value}
use Rattle.sg_plain.proofs.Canonical.{worth-canonical}
use Rattle.sg_plain.proofs.CanonicalOver.{canonical-over}
use Rattle.sg_plain.proofs.Wholes.{falling-whole, worth-whole_at}

-- ---- The summand

pub plain-all_sums : (t : Tree) → IsPolynomial t → all_sums t ≡ []
plain-all_sums (numeral c) h = refl
plain-all_sums here h = refl
plain-all_sums param h = absurd h
plain-all_sums (add x y) h = ap₂ ◌++◌ (plain-all_sums x h.0) (plain-all_sums y h.1)
plain-all_sums (neg x) h = plain-all_sums x h
plain-all_sums (mul x y) h = ap₂ ◌++◌ (plain-all_sums x h.0) (plain-all_sums y h.1)
plain-all_sums (div x y) h = absurd h
plain-all_sums (power x e) h = plain-all_sums x h
plain-all_sums (sum_from from body) h = absurd h
plain-all_sums (prod_from from body) h = absurd h

pub plain-all_prods : (t : Tree) → IsPolynomial t → all_prods t ≡ []
plain-all_prods (numeral c) h = refl
plain-all_prods here h = refl
plain-all_prods param h = absurd h
plain-all_prods (add x y) h = ap₂ ◌++◌ (plain-all_prods x h.0) (plain-all_prods y h.1)
plain-all_prods (neg x) h = plain-all_prods x h
plain-all_prods (mul x y) h = ap₂ ◌++◌ (plain-all_prods x h.0) (plain-all_prods y h.1)
plain-all_prods (div x y) h = absurd h
plain-all_prods (power x e) h = plain-all_prods x h
plain-all_prods (sum_from from body) h = absurd h
plain-all_prods (prod_from from body) h = absurd h

pub plain-start : (t : Tree) (a : ℤ) → IsPolynomial t → start_of t a ≡ a
plain-start (numeral c) a h = refl
plain-start here a h = refl
plain-start param a h = refl
plain-start (add x y) a h = ap (start_of y) (plain-start x a h.0) ∙ plain-start y a h.1
plain-start (neg x) a h = plain-start x a h
plain-start (mul x y) a h = ap (start_of y) (plain-start x a h.0) ∙ plain-start y a h.1
plain-start (div x y) a h = absurd h
plain-start (power x e) a h = plain-start x a h
plain-start (sum_from from body) a h = absurd h
plain-start (prod_from from body) a h = absurd h

pub plain-sums : (t : Tree) → IsPolynomial t → sums (t ∷ []) ≡ []
plain-sums t h = ap (λ (l : List Tree). distinct (l ++ [])) (plain-all_sums t h)

pub plain-prods : (t : Tree) → IsPolynomial t → prods (t ∷ []) ≡ []
plain-prods t h = ap (λ (l : List Tree). distinct (l ++ [])) (plain-all_prods t h)

-- ---- A property that all trees of polynomials have

record Holds (P : Tree → Type 0) : Type 0 where
  number : (c : ℕ) → P (numeral (pos c))
  variable : P here
  sum : (s t : Tree) → P s → P t → P (add s t)
  opposite : (t : Tree) → P t → P (neg t)
  product : (s t : Tree) → P s → P t → P (mul s t)
  over : (t : Tree) (d : ℕ) → P t → P (div t (numeral (pos d)))
  variable_power : (e : ℕ) → P (power here e)

module _ (P : Tree → Type 0) (H : Holds P) where
  all-raised : (e : ℕ) → P (variable_power e)
  all-raised zero = H.number 1
  all-raised (suc zero) = H.variable
  all-raised (suc (suc e)) = H.variable_power (suc (suc e))

  all-monomial : (c e : ℕ) → P (monomial c e)
  all-monomial c zero = H.number c
  all-monomial c (suc e) = cases (c == 1)
    where
      cases : (b : Bool) → P (cond b (variable_power (suc e)) (mul (numeral (pos c)) (variable_power (suc e))))
      cases true = all-raised (suc e)
      cases false = H.product (numeral (pos c)) (variable_power (suc e)) (H.number c) (all-raised (suc e))

  all-joined : (t : Tree) (c : ℤ) (e : ℕ) → P t → P (with_term t c e)
  all-joined t (pos zero) e h = h
  all-joined t (pos (suc c)) e h = H.sum t (monomial (suc c) e) h (all-monomial (suc c) e)
  all-joined t (negsuc c) e h = H.sum t (neg (monomial (suc c) e)) h (H.opposite (monomial (suc c) e) (all-monomial (suc c) e))

  all-terms : (t : Tree) (cs : List ℤ) → P t → P (with_terms t cs)
  all-terms t [] h = h
  all-terms t (c ∷ cs) h = all-terms (with_term t c (length cs)) cs (all-joined t c (length cs) h)

  all-numerator : (cs : List ℤ) → P (numerator cs)
  all-numerator [] = H.number 0
  all-numerator (pos zero ∷ cs) = all-numerator cs
  all-numerator (pos (suc c) ∷ cs) = all-terms (monomial (suc c) (length cs)) cs (all-monomial (suc c) (length cs))
  all-numerator (negsuc c ∷ cs) = all-terms (neg (monomial (suc c) (length cs))) cs (H.opposite (monomial (suc c) (length cs)) (all-monomial (suc c)
      (length cs)))

  all-canonical : (cs : List ℤ) (d : ℕ) → P (canonical cs d)
  all-canonical cs d = cases (d == 1) (leads_below_zero cs)
    where
      cases : (b s : Bool) → P (cond b (numerator cs) (cond s (neg (div (numerator (map neg_ℤ cs)) (numeral (pos d)))) (div (numerator cs) (numeral (pos d)))))
      cases true s = all-numerator cs
      cases false true = H.opposite (div (numerator (map neg_ℤ cs)) (numeral (pos d))) (H.over (numerator (map neg_ℤ cs)) d (all-numerator (map neg_ℤ cs)))
      cases false false = H.over (numerator cs) d (all-numerator cs)

over-holds : Holds (Over [])
over-holds = record {
  number = λ c. tt;
  variable = tt;
  sum = λ s t h k. (h, k);
  opposite = λ t h. h;
  product = λ s t h k. (h, k);
  over = λ t d h. (h, tt);
  variable_power = λ e. tt;
}

form-holds : Holds (InForm false false)
form-holds = record {
  number = λ c. omega (arith, ints);
  variable = tt;
  sum = λ s t h k. (h, k);
  opposite = λ t h. h;
  product = λ s t h k. (h, k);
  over = λ t d h. (h, omega (arith, ints), refl);
  variable_power = λ e. tt;
}

pub over-canonical : (cs : List ℤ) (d : ℕ) → Over [] (canonical cs d)
over-canonical = all-canonical (Over []) over-holds

pub form-canonical : (cs : List ℤ) (d : ℕ) → InForm false false (canonical cs d)
form-canonical = all-canonical (InForm false false) form-holds

pub form-is : (h : Tree) (cs : List ℤ) (d : ℕ) → h ≡ canonical cs d → InForm false false h
form-is h cs d is = subst (InForm false false) (sym is) (form-canonical cs d)

-- ---- The closed form

over-step : (f g e d : Value 0) → ¬ (d ≡ zero_value) → f ≡ g +ᵛ d *ᵛ e → f /ᵛ d ≡ g /ᵛ d +ᵛ e
over-step f g e d ne h = sym (value_quotient f d (g /ᵛ d +ᵛ e) ne (regroup (g /ᵛ d) e d ∙ ap (λ v. v +ᵛ d *ᵛ e) (value_product g d ne) ∙ sym h))
  where
    regroup : (q e d : Value 0) → (q +ᵛ e) *ᵛ d ≡ q *ᵛ d +ᵛ d *ᵛ e
    regroup q e d = ring (ValueR 0) (q ∷ e ∷ d ∷ []) (search reads depth 16) refl

none-over : (f i : Value 0) → f ≡ zero_value → f *ᵛ i ≡ zero_value
none-over f i h = ap (λ v. v *ᵛ i) h ∙ ring (ValueR 0) (i ∷ []) (search reads depth 16) refl

size-is : (d : ℤ) → pos 0 <ℤ d → pos (unsigned_abs d) ≡ d
size-is d h = omega (arith, ints)

positive-size : (d : ℤ) → pos 0 <ℤ d → 0 < unsigned_abs d
positive-size d h = omega (arith, ints)

whole-zero : whole_value 0 (pos 0) ≡ zero_value
whole-zero = ring (ValueR 0) [] (search reads depth 16) refl

module _ (F : ℤ → ℤ) (a : ℤ) (ns : List ℤ) (e : ℤ) (sum : IsSummed F a ns e) where
  abbrev d : ℕ
  d = unsigned_abs e

  start : falling_value ns (whole_value 0 (a -ℤ pos 1)) ≡ zero_value
  start = falling-whole ns (a -ℤ pos 1) ∙ ap (whole_value 0) sum.start ∙ whole-zero

  step : (k : ℤ) → falling_value ns (whole_value 0 k) ≡ falling_value ns (whole_value 0 (k -ℤ pos 1)) +ᵛ whole_value 0 (pos d) *ᵛ whole_value 0 (F k)
  step k =
      falling-whole ns k ∙ ap (whole_value 0) (sum.step k) ∙ whole_value-add (falling_at ns (k -ℤ pos 1)) (e *ℤ F k)
      ∙ ap₂ ◌+ᵛ◌ (sym (falling-whole ns (k -ℤ pos 1))) (whole_value-mul e (F k)
      ∙ ap (λ (z : ℤ). whole_value 0 z *ᵛ whole_value 0 (F k)) (sym (size-is e sum.positive)))

  pub closed-plain : (f t : Tree) → IsPolynomial f → ((k : ℤ) → whole_at f k ≡ F k) → t ≡ canonical ns (unsigned_abs e) → Closed f [] a t a
  closed-plain f t plain same form =
      subst (λ (h : Tree). Closed f [] a h a) (sym form) (record {
        starts = sym (plain-start f a plain);
        over = subst (λ (ss : List Tree). IsOverOwn (prods (f ∷ [])) ss (canonical ns d)) (sym (plain-sums f plain))
            (subst (λ (ps : List Tree). IsOverOwn ps [] (canonical ns d)) (sym (plain-prods f plain)) (over-canonical ns d));
        same = total_worth f (canonical ns d) (λ k. whole_value 0 (F k)) (λ k. falling_value ns (whole_value 0 k) /ᵛ whole_value 0 (pos d)) a
            (λ k. worth_cong (val f (pos 0) k) (whole_value 0 (whole_at f k)) (whole_value 0 (F k)) (ap (whole_value 0) (same k)) (worth-whole_at f k plain))
            (λ k. worth-canonical ns d k (positive-size e sum.positive))
            (none-over (falling_value ns (whole_value 0 (a -ℤ pos 1))) (inv_value (whole_value 0 (pos d))) start)
            (λ x. over-step (falling_value ns (whole_value 0 x)) (falling_value ns (whole_value 0 (x -ℤ pos 1))) (whole_value 0 (F x))
            (whole_value 0 (pos d)) (nat_ne d (positive-size e sum.positive)) (step x));
      })

  pub canonical-plain : (t : Tree) → t ≡ canonical ns (unsigned_abs e) → IsCanonicalOver [] [] t
  canonical-plain t form = subst (IsCanonicalOver [] []) (sym form) (canonical-over ns (unsigned_abs e) (positive-size e sum.positive) sum.lowest)

  pub empty-plain : (t : Tree) → t ≡ canonical ns (unsigned_abs e) → SameValue (val t (pos 0) (a -ℤ pos 1)) (Some (whole (pos 0)))
  empty-plain t form =
      subst (λ (h : Tree). SameValue (val h (pos 0) (a -ℤ pos 1)) (Some (whole (pos 0)))) (sym form)
      (worth_same (val (canonical ns d) (pos 0) (a -ℤ pos 1)) (Some (whole (pos 0))) (falling_value ns (whole_value 0 (a -ℤ pos 1)) /ᵛ whole_value 0 (pos d))
      (val-proper (canonical ns d) (pos 0) (a -ℤ pos 1)) (omega arith) (worth-canonical ns d (a -ℤ pos 1) (positive-size e sum.positive))
      (fraction_value-zero ∙ sym (none-over (falling_value ns (whole_value 0 (a -ℤ pos 1))) (inv_value (whole_value 0 (pos d))) start)))
