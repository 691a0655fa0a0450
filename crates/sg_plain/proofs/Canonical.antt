-- The canonical tree of a polynomial with whole coefficients over one denominator: its value, and where it may be printed.
--   worth-monomial, -term, -joined, -terms, -numerator, -canonical    the values at k, with X the number k
use Rattle.std.proofs.Common.{◌≡◌, ◌==◌, ℕ, zero, suc, ◌<◌, ℤ, pos, negsuc, neg_ℤ, Bool, true, false, cond, Option, Some, None, List, [], ◌∷◌, length, map, refl, sym, ap, ap₂, ◌∙◌, arith}
use Rattle.std.proofs.lemmas.Bool.{eqb-true}
use Rattle.std.proofs.lemmas.List.{length-map}
use Rattle.sg_algebra.proofs.Ring.{nat, pow}
use Rattle.sg_algebra.proofs.Rational.{whole_value, fraction_value-over, fraction_value-whole, whole_ne, nat_ne}
use Rattle.sg_algebra.proofs.Solver.{ring, reads}
use Rattle.sg_algebra.proofs.Value.{Value, ◌+ᵛ◌, ◌*ᵛ◌, ◌/ᵛ◌, neg_value, inv_value, zero_value, one_value}
use Rattle.sg_algebra.proofs.ValueField.{ValueR, value_quotient}
use Rattle.sg_spec.specs.Fraction.{Fraction, whole}
use Rattle.sg_plain.specs.Terms.{variable_power, monomial, with_term, with_terms, numerator, leads_below_zero, canonical}
use Rattle.sg_spec.specs.Tree.{Tree, numeral, neg, mul, div}
use Rattle.sg_spec.specs.Value.{val, both, quotient_of}
use Rattle.sg_spec.proofs.Values.{val-proper, IsProper}
use Rattle.sg_spec.proofs.Worth.{Worth, worth_cong, worth-sum, worth-product, worth-opposite, worth-power, worth-whole}
use Rattle.sg_plain.proofs.Wholes.{whole_value-neg}
use Rattle.sg_plain.specs.Terms.{term, falling_value}

-- ---- The trees, by cases

-- ---- Values

worth-raised : (e : ℕ) (k : ℤ) → Worth (val (variable_power e) (pos 0) k) (pow (ValueR 0) (whole_value 0 k) e)
worth-raised zero k = worth_cong (Some (whole (pos 1))) (whole_value 0 (pos 1)) one_value (ring (ValueR 0) [] (search reads depth 16) refl)
    (worth-whole (pos 1))
worth-raised (suc zero) k = worth_cong (Some (whole k)) (whole_value 0 k) (pow (ValueR 0) (whole_value 0 k) 1) (ring (ValueR 0)
    (whole_value 0 k ∷ []) (search reads depth 16) refl) (worth-whole k)
worth-raised (suc (suc e)) k = worth-power (Some (whole k)) (whole_value 0 k) (suc (suc e)) (omega arith) (worth-whole k)

worth-monomial : (c e : ℕ) (k : ℤ) → Worth (val (monomial c e) (pos 0) k) (whole_value 0 (pos c) *ᵛ pow (ValueR 0) (whole_value 0 k) e)
worth-monomial c zero k = worth_cong (Some (whole (pos c))) (whole_value 0 (pos c)) (whole_value 0 (pos c) *ᵛ one_value) (ring (ValueR 0)
    (whole_value 0 (pos c) ∷ []) (search reads depth 16) refl) (worth-whole (pos c))
worth-monomial c (suc e) k = cases (c == 1) refl
  where
    cases : (b : Bool) → (c == 1) ≡ b → Worth (val (cond b (variable_power (suc e)) (mul (numeral (pos c)) (variable_power (suc e)))) (pos 0) k)
        (whole_value 0 (pos c) *ᵛ pow (ValueR 0) (whole_value 0 k) (suc e))
    cases true q =
        worth_cong (val (variable_power (suc e)) (pos 0) k) (pow (ValueR 0) (whole_value 0 k) (suc e)) (whole_value 0 (pos c) *ᵛ pow (ValueR 0)
        (whole_value 0 k) (suc e))
        (ring (ValueR 0) (pow (ValueR 0) (whole_value 0 k) (suc e) ∷ []) (search reads depth 16) refl
        ∙ ap (λ (n : ℕ). whole_value 0 (pos n) *ᵛ pow (ValueR 0) (whole_value 0 k) (suc e)) (sym (eqb-true c 1 q)))
        (worth-raised (suc e) k)
    cases false q =
        worth-product (Some (whole (pos c))) (val (variable_power (suc e)) (pos 0) k) (whole_value 0 (pos c)) (pow (ValueR 0) (whole_value 0 k)
        (suc e)) (omega arith) (val-proper (variable_power (suc e)) (pos 0) k)
        (worth-whole (pos c)) (worth-raised (suc e) k)

negative : (c : ℕ) (p : Value 0) → neg_value (whole_value 0 (pos (suc c)) *ᵛ p) ≡ whole_value 0 (negsuc c) *ᵛ p
negative c p = ring (ValueR 0) (nat (ValueR 0) c ∷ p ∷ []) (search reads depth 16) refl

worth-term : (c : ℤ) (e : ℕ) (k : ℤ) → Worth (val (term c e) (pos 0) k) (whole_value 0 c *ᵛ pow (ValueR 0) (whole_value 0 k) e)
worth-term (pos c) e k = worth-monomial c e k
worth-term (negsuc c) e k =
    worth_cong (val (neg (monomial (suc c) e)) (pos 0) k) (neg_value (whole_value 0 (pos (suc c)) *ᵛ pow (ValueR 0) (whole_value 0 k) e))
    (whole_value 0 (negsuc c) *ᵛ pow (ValueR 0) (whole_value 0 k) e)
    (negative c (pow (ValueR 0) (whole_value 0 k) e))
    (worth-opposite (val (monomial (suc c) e) (pos 0) k) (whole_value 0 (pos (suc c)) *ᵛ pow (ValueR 0) (whole_value 0 k) e) (val-proper (monomial
    (suc c) e) (pos 0) k) (worth-monomial (suc c) e k))

no-term : (v p : Value 0) → v ≡ v +ᵛ zero_value *ᵛ p
no-term v p = ring (ValueR 0) (v ∷ p ∷ []) (search reads depth 16) refl

worth-joined : (t : Tree) (v : Value 0) (c : ℤ) (e : ℕ) (k : ℤ) → Worth (val t (pos 0) k) v
    → Worth (val (with_term t c e) (pos 0) k) (v +ᵛ whole_value 0 c *ᵛ pow (ValueR 0) (whole_value 0 k) e)
worth-joined t v (pos zero) e k h = worth_cong (val t (pos 0) k) v (v +ᵛ zero_value *ᵛ pow (ValueR 0) (whole_value 0 k) e) (no-term v (pow
    (ValueR 0) (whole_value 0 k) e)) h
worth-joined t v (pos (suc c)) e k h =
    worth-sum (val t (pos 0) k) (val (term (pos (suc c)) e) (pos 0) k) v (whole_value 0 (pos (suc c)) *ᵛ pow (ValueR 0) (whole_value 0 k) e)
    (val-proper t (pos 0) k) (val-proper (term (pos (suc c)) e) (pos 0) k) h (worth-term (pos (suc c)) e k)
worth-joined t v (negsuc c) e k h =
    worth-sum (val t (pos 0) k) (val (term (negsuc c) e) (pos 0) k) v (whole_value 0 (negsuc c) *ᵛ pow (ValueR 0) (whole_value 0 k) e)
    (val-proper t (pos 0) k) (val-proper (term (negsuc c) e) (pos 0) k) h (worth-term (negsuc c) e k)

worth-terms : (t : Tree) (v : Value 0) (cs : List ℤ) (k : ℤ) → Worth (val t (pos 0) k) v
    → Worth (val (with_terms t cs) (pos 0) k) (v +ᵛ falling_value cs (whole_value 0 k))
worth-terms t v [] k h = worth_cong (val t (pos 0) k) v (v +ᵛ zero_value) (ring (ValueR 0) (v ∷ []) (search reads depth 16) refl) h
worth-terms t v (c ∷ cs) k h =
    worth_cong (val (with_terms (with_term t c (length cs)) cs) (pos 0) k) ((v +ᵛ whole_value 0 c *ᵛ pow (ValueR 0) (whole_value 0 k)
    (length cs)) +ᵛ falling_value cs (whole_value 0 k))
    (v +ᵛ (whole_value 0 c *ᵛ pow (ValueR 0) (whole_value 0 k) (length cs) +ᵛ falling_value cs (whole_value 0 k)))
    (grouped v (whole_value 0 c *ᵛ pow (ValueR 0) (whole_value 0 k) (length cs)) (falling_value cs (whole_value 0 k)))
    (worth-terms (with_term t c (length cs)) (v +ᵛ whole_value 0 c *ᵛ pow (ValueR 0) (whole_value 0 k) (length cs)) cs k (worth-joined t v c (length cs) k h))
  where
    grouped : (v p f : Value 0) → (v +ᵛ p) +ᵛ f ≡ v +ᵛ (p +ᵛ f)
    grouped v p f = ring (ValueR 0) (v ∷ p ∷ f ∷ []) (search reads depth 16) refl

no-first : (v p : Value 0) → v ≡ zero_value *ᵛ p +ᵛ v
no-first v p = ring (ValueR 0) (v ∷ p ∷ []) (search reads depth 16) refl

pub worth-numerator : (cs : List ℤ) (k : ℤ) → Worth (val (numerator cs) (pos 0) k) (falling_value cs (whole_value 0 k))
worth-numerator [] k = worth-whole (pos 0)
worth-numerator (pos zero ∷ cs) k =
    worth_cong (val (numerator cs) (pos 0) k) (falling_value cs (whole_value 0 k)) (zero_value *ᵛ pow (ValueR 0) (whole_value 0 k)
    (length cs) +ᵛ falling_value cs (whole_value 0 k))
    (no-first (falling_value cs (whole_value 0 k)) (pow (ValueR 0) (whole_value 0 k) (length cs))) (worth-numerator cs k)
worth-numerator (pos (suc c) ∷ cs) k =
    worth-terms (term (pos (suc c)) (length cs)) (whole_value 0 (pos (suc c)) *ᵛ pow (ValueR 0) (whole_value 0 k) (length cs)) cs k (worth-term (pos
    (suc c)) (length cs) k)
worth-numerator (negsuc c ∷ cs) k =
    worth-terms (term (negsuc c) (length cs)) (whole_value 0 (negsuc c) *ᵛ pow (ValueR 0) (whole_value 0 k) (length cs)) cs k (worth-term (negsuc c)
    (length cs) k)

worth-over : (u : Option Fraction) (v : Value 0) (d : ℕ) → IsProper u → 0 < d → Worth u v
    → Worth (both quotient_of u (Some (whole (pos d)))) (v /ᵛ whole_value 0 (pos d))
worth-over (Some x) v zero p l h = absurd (omega arith)
worth-over (Some x) v (suc d) p l h = fraction_value-over x.num (pos (suc d)) x.den 1 p (omega arith) (whole_ne (suc d) (omega arith))
    ∙ ap₂ ◌/ᵛ◌ h (fraction_value-whole (pos (suc d)))
worth-over None v d p l h = absurd h

falling-neg : (cs : List ℤ) (x : Value 0) → falling_value (map neg_ℤ cs) x ≡ neg_value (falling_value cs x)
falling-neg [] x = ring (ValueR 0) [] (search reads depth 16) refl
falling-neg (c ∷ cs) x =
    ap₂ ◌+ᵛ◌ (ap₂ (λ v (n : ℕ). v *ᵛ pow (ValueR 0) x n) (whole_value-neg c) (length-map cs neg_ℤ)) (falling-neg cs x)
    ∙ ring (ValueR 0) (whole_value 0 c ∷ pow (ValueR 0) x (length cs) ∷ falling_value cs x ∷ []) (search reads depth 16) refl

pub worth-canonical : (cs : List ℤ) (d : ℕ) (k : ℤ) → 0 < d
    → Worth (val (canonical cs d) (pos 0) k) (falling_value cs (whole_value 0 k) /ᵛ whole_value 0 (pos d))
worth-canonical cs d k l = cases (d == 1) refl
  where
    numerator-over : (es : List ℤ) → Worth (val (div (numerator es) (numeral (pos d))) (pos 0) k) (falling_value es (whole_value 0 k) /ᵛ whole_value 0 (pos d))
    numerator-over es = worth-over (val (numerator es) (pos 0) k) (falling_value es (whole_value 0 k)) d (val-proper (numerator es) (pos 0) k) l
        (worth-numerator es k)

    twice : (f i : Value 0) → neg_value (neg_value f *ᵛ i) ≡ f *ᵛ i
    twice f i = ring (ValueR 0) (f ∷ i ∷ []) (search reads depth 16) refl

    signs : (b : Bool) → Worth (val (cond b (neg (div (numerator (map neg_ℤ cs)) (numeral (pos d)))) (div (numerator cs) (numeral (pos d))))
        (pos 0) k) (falling_value cs (whole_value 0 k) /ᵛ whole_value 0 (pos d))
    signs true =
        worth_cong (val (neg (div (numerator (map neg_ℤ cs)) (numeral (pos d)))) (pos 0) k) (neg_value (falling_value (map neg_ℤ cs)
        (whole_value 0 k) /ᵛ whole_value 0 (pos d))) (falling_value cs (whole_value 0 k) /ᵛ whole_value 0 (pos d))
        (ap (λ v. neg_value (v /ᵛ whole_value 0 (pos d))) (falling-neg cs (whole_value 0 k))
        ∙ twice (falling_value cs (whole_value 0 k)) (inv_value (whole_value 0 (pos d))))
        (worth-opposite (val (div (numerator (map neg_ℤ cs)) (numeral (pos d))) (pos 0) k) (falling_value (map neg_ℤ cs)
        (whole_value 0 k) /ᵛ whole_value 0 (pos d))
        (val-proper (div (numerator (map neg_ℤ cs)) (numeral (pos d))) (pos 0) k) (numerator-over (map neg_ℤ cs)))
    signs false = numerator-over cs

    cases : (b : Bool) → (d == 1) ≡ b
        → Worth (val (cond b (numerator cs) (cond (leads_below_zero cs) (neg (div (numerator (map neg_ℤ cs)) (numeral (pos d)))) (div (numerator cs)
        (numeral (pos d))))) (pos 0) k) (falling_value cs (whole_value 0 k) /ᵛ whole_value 0 (pos d))
    cases true q =
        worth_cong (val (numerator cs) (pos 0) k) (falling_value cs (whole_value 0 k)) (falling_value cs (whole_value 0 k) /ᵛ whole_value 0 (pos d))
        (value_quotient (falling_value cs (whole_value 0 k)) (whole_value 0 (pos d)) (falling_value cs (whole_value 0 k)) (nat_ne d l) (ap (λ
        (n : ℕ). falling_value cs (whole_value 0 k) *ᵛ whole_value 0 (pos n)) (eqb-true d 1 q) ∙ times-one (falling_value cs (whole_value 0 k))))
        (worth-numerator cs k)
      where
        times-one : (f : Value 0) → f *ᵛ whole_value 0 (pos 1) ≡ f
        times-one f = ring (ValueR 0) (f ∷ []) (search reads depth 16) refl
    cases false q = signs (leads_below_zero cs)
