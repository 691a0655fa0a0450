-- The canonical tree of a rational function.
--   quotient-written   the tree of a quotient from its terms
--   ends-same          polynomials whose last coefficients aren't 0 have one list of coefficients
--   tree-made          the tree of a fraction in lowest terms
--   monic-rats         a monic polynomial without zeros at the end is monic there
--   tree-unique        a rational function has one canonical tree
--   tree-canonical     it is in canonical form
--   tree-over          it is built of numerals, the variable and the operations alone
--   tree-form          it is printed as it is
--   reduced-value      a fraction in lowest terms has a value wherever an equal fraction has one
--   tree-value         it has the value of the rational function wherever that has one
use Rattle.std.proofs.Common.{◌≡◌, ℕ, zero, suc, ◌-◌, ℤ, refl, sym, ap, ap₂, subst, ◌∙◌, List, [], ◌∷◌, ◌++◌, length, map, reverse, false, append-nil, arith}
use Rattle.std.proofs.Math.Path.{fun_ext}
use mathlib.Core.Quot.{Quot-set}
use Rattle.std.proofs.lemmas.List.{length-map, length-reverse}
use Rattle.sg_algebra.specs.Ring.{Ring}
use Rattle.sg_algebra.specs.Coefficients.{Each, coef, eval}
use Rattle.sg_algebra.proofs.Coprime.{Coprime}
use Rattle.sg_algebra.proofs.Evaluation.{eval_cong, eval-mul, eval-zero}
use Rattle.sg_algebra.proofs.Degree.{Monic}
use Rattle.sg_algebra.proofs.OverValue.{same_over_value, over_value_cong}
use Rattle.sg_algebra.proofs.Polynomial.{Polynomial, PolynomialR, poly, ◌+ᵖ◌, ◌*ᵖ◌, one_polynomial, coefficient, EndsNonzero, listed, same_list, poly-mul, poly-add, poly_cong}
use Rattle.sg_algebra.proofs.PolynomialLowest.{monic_ne}
use Rattle.sg_algebra.proofs.PolynomialRing.{PolyR}
use Rattle.sg_algebra.proofs.Rational.{whole_value}
use Rattle.sg_algebra.proofs.Solver.{ring, by, scale, reads}
use Rattle.sg_algebra.proofs.Value.{Value, ◌+ᵛ◌, ◌*ᵛ◌, ◌/ᵛ◌, inv_value, zero_value, one_value, over_value}
use Rattle.sg_algebra.proofs.ValueField.{ValueR, ValueD, value_is_zero, value_mul-inv, value_quotient}
use Rattle.sg_spec.specs.Tree.{Tree}
use Rattle.sg_spec.specs.Generators.{Over}
use Rattle.sg_spec.specs.Printing.{InForm}
use Rattle.sg_num.specs.Value.{number}
use Rattle.sg_num.specs.declared.rat.Rat.{Rat}
use Rattle.sg_poly.specs.Divisors.{IsMonic}
use Rattle.sg_dispersion_theory.proofs.ValueCertificate.{monic_length}
use Rattle.sg_ratfun.specs.Reduced.{IsReduced}
use Rattle.sg_ratfun.proofs.Coprimes.{lowest_parts}
use Rattle.sg_spec.specs.Canonical.{Written, IsLowest, IsCanonicalOver, element_tree, total_tree, of_coefficient, lower_factors, plane_of, leading}
use Rattle.sg_spec.specs.Worth.{HasWorth}
use Rattle.sg_worth_theory.proofs.Building.{NoParameter, over-element, element-form}
use Rattle.sg_worth_theory.proofs.WrittenElements.{plane_value, HasTerms, element-worth}
use Rattle.sg_canonical.specs.Rational.{quotient_terms, IsRationalTree}
use Rattle.sg_canonical.specs.Whole.{IsPrimitiveQuotient, wholes, multiplied}
use Rattle.sg_canonical.proofs.Lowest.{IsApart, number-of, number-is, lead-some, whole-apart, whole-lowest}
use Rattle.sg_canonical.proofs.Unique.{whole-unique}
use Rattle.sg_canonical.proofs.Writing.{at, quotient_value, both_ne, coprime-at, whole-writes}

abbrev N : Ring
N = PolyR (ValueR 0)

-- ---- Its terms

pub quotient-written : (us ls : List ℤ) → ¬ (length us ≡ 0) → total_tree (of_coefficient (plane_of us) [] (lower_factors (plane_of ls))) ≡ element_tree [] [] (quotient_terms us ls)
quotient-written [] ls n = absurd (n refl)
quotient-written (u ∷ us) ls n =
    ap (λ (l : List Tree). total_tree (of_coefficient (plane_of (u ∷ us)) [] l)) (sym (append-nil (lower_factors (plane_of ls))))
    ∙ ap total_tree (sym (append-nil (of_coefficient (plane_of (u ∷ us)) [] (lower_factors (plane_of ls) ++ []))))

-- ---- One tree

pub ends-same : (p q : List (Value 0)) → EndsNonzero p → EndsNonzero q → ((n : ℕ) → coefficient p n ≡ coefficient q n) → p ≡ q
ends-same [] [] h k e = refl
ends-same [] (y ∷ q) h k e = absurd (k (length q) refl (sym (e (length q))))
ends-same (x ∷ p) [] h k e = absurd (h (length p) refl (e (length p)))
ends-same (x ∷ p) (y ∷ q) h k e =
    ap₂ (λ (a : Value 0) (l : List (Value 0)). a ∷ l) (e 0) (ends-same p q (λ n l. h (suc n) (ap suc l)) (λ n l. k (suc n) (ap suc l)) (λ n. e (suc n)))

same-coefficients : (p q : List (Value 0)) → EndsNonzero p → EndsNonzero q → poly p ≡ poly q → p ≡ q
same-coefficients p q h k e = ends-same p q h k (same_list p q e).image.at

pub lower-some : (p q : List (Value 0)) → IsReduced p q → ¬ (N.◌≈◌ q [])
lower-some p q r = monic_ne (ValueD 0) r.monic.0 q r.monic.1

pub tree-unique : (x : Value 1) (t u : Tree) → IsRationalTree x t → IsRationalTree x u → t ≡ u
tree-unique x t u h k =
    let crossed = same_over_value 0 h.upper h.lower k.upper k.lower (lower-some h.upper h.lower h.reduced) (lower-some k.upper k.lower k.reduced) (sym h.quotient ∙ k.quotient) in
    let parts = lowest_parts h.upper h.lower k.upper k.lower h.reduced.coprime k.reduced.coprime h.reduced.monic k.reduced.monic
    (sym (poly-mul h.upper k.lower) ∙ poly_cong crossed ∙ poly-mul k.upper h.lower) in
    let upper : h.upper ≡ k.upper = same-coefficients h.upper k.upper h.upper_ends k.upper_ends parts.0 in
    let lower : h.lower ≡ k.lower = same-coefficients h.lower k.lower h.lower_ends k.lower_ends parts.1 in
    let moved : IsPrimitiveQuotient k.upper k.lower h.us h.ls =
    subst (λ (q : List (Value 0)). IsPrimitiveQuotient k.upper q h.us h.ls) lower (subst (λ (p : List (Value 0)). IsPrimitiveQuotient p h.lower h.us h.ls) upper h.whole) in
    let same = whole-unique k.upper k.lower h.us h.ls k.us k.ls moved k.whole in
    h.form ∙ ap₂ (λ (us ls : List ℤ). element_tree [] [] (quotient_terms us ls)) same.0 same.1 ∙ sym k.form

-- the parts of a fraction in lowest terms, without zeros at the end, give its tree
pub tree-made : (r s upper lower : List (Value 0)) (us ls : List ℤ) (t : Tree) → poly upper ≡ poly r → poly lower ≡ poly s → IsReduced r s → EndsNonzero upper → EndsNonzero lower → IsMonic lower
    → IsPrimitiveQuotient upper lower us ls → t ≡ element_tree [] [] (quotient_terms us ls) → IsRationalTree (over_value r s) t
tree-made r s upper lower us ls t e f reduced upper_ends lower_ends monic whole form = record {
  upper = upper;
  lower = lower;
  quotient = over_value_cong 0 r s upper lower (lower-some r s reduced) (N.symm (same_list upper r e)) (N.symm (same_list lower s f));
  reduced = record {
    coprime = subst (λ (y : Polynomial 0). Coprime (PolynomialR 0) (poly upper) y) (sym f) (subst (λ (x : Polynomial 0). Coprime (PolynomialR 0) x (poly s)) (sym e) reduced.coprime);
    monic = monic;
  };
  upper_ends = upper_ends;
  lower_ends = lower_ends;
  us = us;
  ls = ls;
  whole = whole;
  form = form;
}

pub monic-last : (q : List (Value 0)) → IsMonic q → EndsNonzero q → Monic (ValueR 0) (length q - 1) q
monic-last q m e = let size : m.0 ≡ length q - 1 = omega (arith, monic_length m.0 q m.1 e) in subst (λ (n : ℕ). Monic (ValueR 0) n q) size m.1

pub monic-rats : (q : List Rat) → IsMonic (map number q) → EndsNonzero (map number q) → Monic (ValueR 0) (length q - 1) (map number q)
monic-rats q m e = subst (λ (n : ℕ). Monic (ValueR 0) (n - 1) (map number q)) (length-map q number) (monic-last (map number q) m e)

-- ---- Coprime polynomials

module _ (P : Type 0) (one : IsProp P) (p q : List (Value 0)) (then : Coprime N p q → P) where
  by-lists : (u w : List (Value 0)) → poly u *ᵖ poly p +ᵖ poly w *ᵖ poly q ≡ one_polynomial → P
  by-lists u w h =
      then (record {
        u = u;
        w = w;
        comb = same_list (N.◌⊞◌ (N.◌⊠◌ u p) (N.◌⊠◌ w q)) (one_value ∷ []) (poly-add (N.◌⊠◌ u p) (N.◌⊠◌ w q) ∙ ap₂ ◌+ᵖ◌ (poly-mul u p) (poly-mul w q) ∙ h);
      })

  -- what follows from coprime lists follows from coprime polynomials
  pub coprime-lists : Coprime (PolynomialR 0) (poly p) (poly q) → P
  coprime-lists c =
      listed (λ u. u *ᵖ poly p +ᵖ c.w *ᵖ poly q ≡ one_polynomial → P) (λ u a b. fun_ext (λ h. one (a h) (b h)))
      (λ u h. listed (λ w. poly u *ᵖ poly p +ᵖ w *ᵖ poly q ≡ one_polynomial → P) (λ w a b. fun_ext (λ i. one (a i) (b i))) (λ w i. by-lists u w i) c.w h) c.u c.comb

value_set : IsSet (Value 0)
value_set = hlevel Quot-set

-- ---- Its form

rows-short : (cs : List ℤ) → NoParameter (plane_of cs)
rows-short [] = tt
rows-short (c ∷ cs) = (omega arith, rows-short cs)

terms-short : (us ls : List ℤ) → Each (λ t. NoParameter t.upper × NoParameter t.lower) (quotient_terms us ls)
terms-short [] ls = tt
terms-short (u ∷ us) ls = ((rows-short (u ∷ us), rows-short ls), tt)

sizes : (p : List (Value 0)) (d : ℤ) (us : List ℤ) → wholes us ≡ reverse (multiplied d p) → length us ≡ length p
sizes p d us h = sym (length-map us (whole_value 0)) ∙ ap length h ∙ length-reverse (multiplied d p) ∙ length-map p (λ v. whole_value 0 d *ᵛ v)

canonical-terms : (p q : List (Value 0)) (us ls : List ℤ) → EndsNonzero p → IsApart us ls → IsPrimitiveQuotient p q us ls → IsCanonicalOver [] [] (element_tree [] [] (quotient_terms us ls))
canonical-terms p q [] ls e a w = record { terms = []; sized = tt; descending = tt; lowest = tt; form = refl }
canonical-terms [] q (u ∷ us) ls e a w = let size : length (u ∷ us) ≡ length {A = Value 0} [] = sizes [] (leading (plane_of ls)) (u ∷ us) w.upper in absurd (omega (arith, size))
canonical-terms (c ∷ p) q (u ∷ us) ls e a w = record {
  terms = quotient_terms (u ∷ us) ls;
  sized = ((refl, refl), tt);
  descending = tt;
  lowest = (whole-lowest (length p) (c ∷ p) q (u ∷ us) ls refl (e (length p) refl) a w, tt);
  form = refl;
}

-- ---- Its value at a whole number

none-over : (v : Value 0) → zero_value *ᵛ v ≡ zero_value
none-over v = ring (ValueR 0) (v ∷ []) (search reads depth 16) refl

terms-have : (letter : Value 0) (k : ℤ) (p q : List (Value 0)) (us ls : List ℤ) → IsPrimitiveQuotient p q us ls → ¬ (at k q ≡ zero_value) → HasTerms letter k [] [] (quotient_terms us ls) (quotient_value k p q)
terms-have letter k [] q [] ls w n = none-over (inv_value (at k q))
terms-have letter k (c ∷ p) q [] ls w n = let size : length {A = ℤ} [] ≡ length (c ∷ p) = sizes (c ∷ p) (leading (plane_of ls)) [] w.upper in absurd (omega (arith, size))
terms-have letter k p q (u ∷ us) ls w n =
    let e = whole-writes letter k p q (u ∷ us) ls w n in (
      quotient_value k p q,
      zero_value,
      record { up = one_value; down = one_value; uppers = refl; lowers = refl; defined = e.0; value = e.1 ∙ units (plane_value letter k (plane_of (u ∷ us))) (inv_value (plane_value letter k (plane_of ls))) },
      refl,
      alone (quotient_value k p q),
    )
  where
    units : (a b : Value 0) → a *ᵛ b ≡ (a *ᵛ one_value) *ᵛ (b *ᵛ one_value)
    units a b = ring (ValueR 0) (a ∷ b ∷ []) (search reads depth 16) refl

    alone : (v : Value 0) → v ≡ v *ᵛ one_value +ᵛ zero_value
    alone v = ring (ValueR 0) (v ∷ []) (search reads depth 16) refl

crossed : (a b c e : Value 0) → ¬ (b ≡ zero_value) → ¬ (e ≡ zero_value) → a *ᵛ e ≡ c *ᵛ b → a /ᵛ b ≡ c /ᵛ e
crossed a b c e h k s =
    value_quotient c e (a /ᵛ b) k
    (by (ValueR 0) (a ∷ b ∷ c ∷ e ∷ inv_value b ∷ []) ((ValueR 0).add_cong (scale (ValueR 0) (inv_value b) s) (scale (ValueR 0) c (value_mul-inv 0 b h))) (search reads depth 20) refl)

-- wherever some quotient has a value, the one in lowest terms has it
own-quotient : (k : ℤ) (p q r s : List (Value 0)) → ¬ (N.◌≈◌ q []) → (at k p ≡ zero_value → ¬ (at k q ≡ zero_value)) → over_value p q ≡ over_value r s → ¬ (at k s ≡ zero_value)
    → ¬ (at k q ≡ zero_value) × (quotient_value k p q ≡ quotient_value k r s)
own-quotient k p q r s some coprime e n = (defined, crossed (at k p) (at k q) (at k r) (at k s) defined n cross)
  where
    K : Value 0
    K = whole_value 0 k

    s-some : ¬ (N.◌≈◌ s [])
    s-some z = n (eval-zero (ValueR 0) s K z.image.at)

    cross : at k p *ᵛ at k s ≡ at k r *ᵛ at k q
    cross = sym (eval-mul (ValueR 0) p s K) ∙ eval_cong (ValueR 0) (N.◌⊠◌ p s) (N.◌⊠◌ r q) K K (same_over_value 0 p q r s some s-some e) refl ∙ eval-mul (ValueR 0) r q K

    none : (a : Value 0) → a *ᵛ zero_value ≡ zero_value
    none a = ring (ValueR 0) (a ∷ []) (search reads depth 16) refl

    defined : ¬ (at k q ≡ zero_value)
    defined z = cases (value_is_zero 0 (at k p))
      where
        cases : Dec (at k p ≡ zero_value) → ⊥
        cases (yes y) = coprime y z
        cases (no y) = both_ne (at k p) (at k s) y n (cross ∙ ap (λ v. at k r *ᵛ v) z ∙ none (at k r))

pub reduced-value : (k : ℤ) (p q r s : List (Value 0)) → IsReduced p q → over_value p q ≡ over_value r s → ¬ (at k s ≡ zero_value) → ¬ (at k q ≡ zero_value) × (quotient_value k p q ≡ quotient_value k r s)
reduced-value k p q r s reduced e n = own-quotient k p q r s (lower-some p q reduced) apart e n
  where
    apart : at k p ≡ zero_value → ¬ (at k q ≡ zero_value)
    apart = coprime-lists (at k p ≡ zero_value → ¬ (at k q ≡ zero_value)) (λ a b. fun_ext (λ y. fun_ext (λ z. absurd (a y z)))) p q (coprime-at zero_value k p q) reduced.coprime

module _ (x : Value 1) (t : Tree) (h : IsRationalTree x t) where
  pub tree-over : Over [] t
  tree-over = subst (Over []) (sym h.form) (over-element [] [] (quotient_terms h.us h.ls) tt (terms-short h.us h.ls))

  pub tree-form : InForm false false t
  tree-form = subst (InForm false false) (sym h.form) (element-form [] (quotient_terms h.us h.ls) tt (terms-short h.us h.ls))

  apart : IsApart h.us h.ls
  apart c i j =
      number-is c
      (coprime-lists ((i j : ℕ) → coef (ValueR 0) (coef N c i) j ≡ coef (ValueR 0) (coef N ((coef (ValueR 0) (coef N c 0) 0 ∷ []) ∷ []) i) j) (λ a b. fun_ext (λ i. fun_ext (λ j. value_set _ _ (a i j) (b i j)))) h.upper h.lower
      (λ r. number-of c (whole-apart h.upper h.lower h.us h.ls (leading (plane_of h.ls)) (lead-some h.upper h.lower h.us h.ls h.whole) r h.whole.upper h.whole.lower c i j))
      h.reduced.coprime)

  pub tree-canonical : IsCanonicalOver [] [] t
  tree-canonical = subst (IsCanonicalOver [] []) (sym h.form) (canonical-terms h.upper h.lower h.us h.ls h.upper_ends apart h.whole)

  -- ---- Its value

  pub tree-value : (letter : Value 0) (k : ℤ) (p q : List (Value 0)) → x ≡ over_value p q → ¬ (at k q ≡ zero_value) → HasWorth letter t k (quotient_value k p q)
  tree-value letter k p q e n =
      let v = reduced-value k h.upper h.lower p q h.reduced (sym h.quotient ∙ e) n in
      subst (λ (u : Tree). HasWorth letter u k (quotient_value k p q)) (sym h.form)
      (subst (λ (w : Value 0). HasWorth letter (element_tree [] [] (quotient_terms h.us h.ls)) k w) v.1
      (element-worth letter k [] [] [] (quotient_terms h.us h.ls) (quotient_value k h.upper h.lower) tt (terms-have letter k h.upper h.lower h.us h.ls h.whole v.0)))
