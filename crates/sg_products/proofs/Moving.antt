-- The shift of lists of terms, with the factors of the products.
--   count_is            as many products as factors
--   in_count            what holds in as many products as there are factors holds in the formal tower
--   shifted_term_is     one term
--   shift_start, shift_step, shift_end    the sum of the terms, one after the other
use Rattle.std.proofs.Common.{◌≡◌, ℕ, zero, suc, ◌+◌, ◌<◌, ◌≤◌, refl, sym, ap, ap₂, ◌∙◌, subst, List, [], ◌∷◌, map, length, take, get_or, ℤ, pos, arith}
use Rattle.std.proofs.lemmas.List.{take_all}
use Rattle.sg_algebra.specs.Ring.{Ring, Field, Hom}
use Rattle.sg_algebra.specs.Coefficients.{Each}
use Rattle.sg_algebra.proofs.Divides.{on-O}
use Rattle.sg_algebra.proofs.Lists.{each_map, length_map}
use Rattle.sg_algebra.proofs.PolynomialRing.{PolyR}
use Rattle.sg_algebra.proofs.PolynomialLowest.{monic_ne}
use Rattle.sg_algebra.proofs.Rational.{whole_value}
use Rattle.sg_algebra.proofs.Ring.{O_add}
use Rattle.sg_algebra.proofs.Shift.{moved}
use Rattle.sg_algebra.proofs.Value.{Value, zero_value, one_value, over_value, ◌*ᵛ◌}
use Rattle.sg_algebra.proofs.ValueField.{ValueR, ValueF, ValueD}
use Rattle.sg_algebra.proofs.ShiftValue.{shift_value, shift_value-over}
use Rattle.sg_tower_theory.specs.Powers.{powers}
use Rattle.sg_tower_theory.proofs.ShiftValue.{rational_functions}
use Rattle.sg_tower_theory.proofs.Products.{Exponents, listed, LaurentsR}
use Rattle.sg_tower_theory.proofs.ProductSlices.{monomial}
use Rattle.sg_tower_theory.proofs.Monomials.{one_term, one_term-is, exponents_of, monomial-shift}
use Rattle.sg_tower_theory.proofs.Formal.{factors, factors_some, factors_same, repaired, base_shift}
use Rattle.sg_ratfun.specs.Fractions.{ratio, moved_ratio}
use Rattle.sg_ratfun.specs.Reduced.{IsReduced}
use Rattle.sg_laurent.specs.declared.terms.Term.{Term}
use Rattle.sg_laurent.specs.Elements.{Same, Sum, element, term_in, exponents}
use Rattle.sg_laurent.proofs.Adding.{taken}
use Rattle.sg_products.specs.Readings.{count, IsShiftedTerm}

module _ {K : Type 0} {d : ℕ} (v : K → Value d) where
  open PolyR (ValueR d) use {◌≈◌ as ◌≋◌}

  -- ---- Rational functions moved by 1

  pub lower_ne : (e : List K × List K) → IsReduced (map v e.0) (map v e.1) → ¬ (map v e.1 ≋ [])
  lower_ne e k = monic_ne (ValueD d) k.monic.0 (map v e.1) k.monic.1

  pub shift_is : (e r : List K × List K) → IsReduced (map v e.0) (map v e.1) → ratio v r ≡ moved_ratio v (whole_value d (pos 1)) e → ratio v r ≡ shift_value d (ratio v e)
  shift_is e r k q = q ∙ ap (λ β. over_value (moved (ValueR d) β (map v e.0)) (moved (ValueR d) β (map v e.1))) one ∙ sym (shift_value-over d (map v e.0) (map v e.1) (lower_ne e k))
    where
      one : whole_value d (pos 1) ≡ one_value
      one = O_add (ValueR d)

  -- ---- As many products as factors

  pub count_is : (αs : List (List K × List K)) → count v αs ≡ length αs
  count_is αs = length_map repaired (map (ratio v) αs) ∙ length_map (ratio v) αs

  pub in_count : (αs : List (List K × List K)) (n : ℕ) → n ≡ length αs → (P : ℕ → Type 0) → P n → P (count v αs)
  in_count αs n e P h = subst P (e ∙ sym (count_is αs)) h

  module _ (αs : List (List K × List K)) where
    abbrev F : Field
    F = ValueF (suc d)

    abbrev N : ℕ
    N = count v αs

    abbrev S : Ring
    S = LaurentsR (ValueF (suc d)) (count v αs)

    abbrev σ : Hom S S
    σ = (base_shift (map (ratio v) αs)).σ

    at_exponents : (es : List ℤ) (z : Exponents N) (c e : Value (suc d)) → es ≡ listed N z → c ≡ e → Same (ratio v) N (one_term F N es c) (monomial F N z e)
    at_exponents es z c e h k = rw (h, k, one_term-is F N z e) S.rfl

    pub shifted_term_is : (t r : Term (List K × List K)) (f m c : Value (suc d)) → Each (λ a. ¬ (ratio v a ≡ zero_value)) αs → length (exponents t) ≡ length αs
        → f ≡ powers F (map (ratio v) αs) (exponents t) → m ≡ shift_value d (ratio v t.coeff) → c ≡ f *ᵛ m → exponents r ≡ exponents t → ratio v r.coeff ≡ c → IsShiftedTerm v αs t r
    shifted_term_is t r f m c some l ff mm cc e q = go (exponents_of F N (exponents t) (l ∙ sym (count_is αs)))
      where
        go : (z : Exponents N) × (exponents t ≡ listed N z) → IsShiftedTerm v αs t r
        go w = S.trans (at_exponents (exponents r) w.0 (ratio v r.coeff) (powers F (factors (map (ratio v) αs)) (listed N w.0) *ᵛ shift_value d (ratio v t.coeff)) (e ∙ w.1) coefficient)
            (S.trans (S.symm (monomial-shift F (rational_functions d).σ (factors (map (ratio v) αs)) (factors_some (map (ratio v) αs)) w.0 (ratio v t.coeff)))
            (σ.on_cong (monomial F N w.0 (ratio v t.coeff)) (one_term F N (exponents t) (ratio v t.coeff)) (S.symm (at_exponents (exponents t) w.0 (ratio v t.coeff) (ratio v t.coeff) w.1 refl))))
          where
            same : factors (map (ratio v) αs) ≡ map (ratio v) αs
            same = factors_same (map (ratio v) αs) (each_map (λ x. ¬ (x ≡ zero_value)) (ratio v) αs some)

            coefficient : ratio v r.coeff ≡ powers F (factors (map (ratio v) αs)) (listed N w.0) *ᵛ shift_value d (ratio v t.coeff)
            coefficient = q ∙ cc ∙ ap₂ ◌*ᵛ◌ (ff ∙ ap₂ (powers F) (sym same) w.1) mm

    pub shift_start : Same (ratio v) N S.O (σ.on S.O)
    shift_start = S.symm (on-O S S σ)

    pub shift_step : (ts : List (Term (List K × List K))) (i : ℕ) (t u : Term (List K × List K)) (n : ℕ) (r new : List (Term (List K × List K))) → n ≡ length αs → i < length ts → t ≡ get_or ts i t
        → IsShiftedTerm v αs t u → Same (ratio v) N (element (ratio v) N r) (σ.on (element (ratio v) N (take i ts))) → Same (ratio v) n (element (ratio v) n new) (Sum (ratio v) n (element (ratio v) n r) (term_in (ratio v) n u))
        → Same (ratio v) N (element (ratio v) N new) (σ.on (element (ratio v) N (take (i + 1) ts)))
    shift_step ts i t u n r new e l at s h k =
        S.trans (in_count αs n e (λ m. Same (ratio v) m (element (ratio v) m new) (Sum (ratio v) m (element (ratio v) m r) (term_in (ratio v) m u))) k)
        (S.trans (S.add_cong h s) (S.trans (S.symm (σ.on-add (element (ratio v) N (take i ts)) (term_in (ratio v) N t)))
        (σ.on_cong (Sum (ratio v) N (element (ratio v) N (take i ts)) (term_in (ratio v) N t)) (element (ratio v) N (take (i + 1) ts)) (S.symm (taken (ratio v) N ts i t l at)))))

    pub shift_end : (ts : List (Term (List K × List K))) (i n : ℕ) (x r : List (Term (List K × List K))) → n ≡ length αs → length ts ≤ i → Same (ratio v) n (element (ratio v) n ts) (element (ratio v) n x)
        → Same (ratio v) N (element (ratio v) N r) (σ.on (element (ratio v) N (take i ts))) → Same (ratio v) N (element (ratio v) N r) (σ.on (element (ratio v) N x))
    shift_end ts i n x r e l h k = S.trans (rw (take_all i ts l) at k) (σ.on_cong (element (ratio v) N ts) (element (ratio v) N x) (in_count αs n e (λ m. Same (ratio v) m (element (ratio v) m ts) (element (ratio v) m x)) h))
