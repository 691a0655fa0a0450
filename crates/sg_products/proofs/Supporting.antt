-- The lists of exponents that elements have, and the start of the recursion over them.
--   supports_start, supports_more, supports_all    one element after the other
--   begun_from          the unit rows are a state at these lists
use Rattle.std.proofs.Common.{◌≡◌, ℕ, zero, suc, ◌+◌, ◌<◌, ◌≤◌, refl, sym, ap, ◌∙◌, subst, List, [], ◌∷◌, ◌++◌, map, length, take, get_or, inl, inr, ℤ, pos, arith}
use Rattle.std.proofs.lemmas.List.{take_all}
use Rattle.sg_algebra.specs.Coefficients.{Each}
use Rattle.sg_algebra.proofs.Lists.{each_to}
use Rattle.sg_algebra.proofs.Value.{Value, zero_value}
use Rattle.sg_algebra.proofs.ValueField.{ValueF}
use Rattle.sg_tower_theory.proofs.Formal.{factors, factors_some, IndependentFactors}
use Rattle.sg_tower_theory.proofs.ProductSlices.{Inside}
use Rattle.sg_tower_theory.proofs.Products.{Exponents, listed, zeros, LaurentsR, coefficient_cong}
use Rattle.sg_tower_theory.proofs.ShiftValue.{rational_functions}
use Rattle.sg_ratfun.specs.Fractions.{ratio}
use Rattle.sg_laurent.specs.Exponents.{unit_exponents}
use Rattle.sg_laurent.specs.declared.terms.Term.{Term}
use Rattle.sg_laurent.specs.Elements.{exponents, Same, element, IsNormal}
use Rattle.sg_laurent.proofs.Coefficients.{coefficient_none}
use Rattle.sg_laurent.proofs.Gathering.{each_more}
use Rattle.sg_laurent.proofs.Listing.{unit-length}
use Rattle.sg_products.specs.declared.partial.Partial.{Partial}
use Rattle.sg_products.specs.Readings.{count}
use Rattle.sg_products.specs.Solving.{exponents_in, InsideAll, StartRows, State}
use Rattle.sg_products.specs.Supports.{Has, Grows, AreSupports}
use Rattle.sg_products.proofs.Moving.{count_is, in_count}
use Rattle.sg_products.proofs.Slicing.{state_begun}

-- the list of zeros, as exponents
zeros_in : (n : ℕ) → exponents_in n (unit_exponents n n) ≡ zeros n
zeros_in zero = refl
zeros_in (suc n) = ap (λ z. (pos 0, z)) (zeros_in n)

in_listed : (n : ℕ) (z : Exponents n) → exponents_in n (listed n z) ≡ z
in_listed zero z = refl
in_listed (suc n) z = ap (λ w. (z.0, w)) (in_listed n z.1)

module _ {K : Type 0} {d : ℕ} (v : K → Value d) (αs : List (List K × List K)) where
  abbrev N : ℕ
  N = count v αs

  -- outside a list, nothing has its exponents
  apart : (z : Exponents N) (es : List (List ℤ)) → Each (λ f. ¬ (z ≡ f)) (map (exponents_in N) es) → (e : List ℤ) → Has e es → ¬ (e ≡ listed N z)
  apart z [] o e h = absurd h
  apart z (f ∷ es) o e (inl q) = λ k. o.0 (sym (in_listed N z) ∙ ap (exponents_in N) (sym k) ∙ ap (exponents_in N) (sym q))
  apart z (f ∷ es) o e (inr q) = apart z es o.1 e q

  none_has : (z : Exponents N) (es : List (List ℤ)) → Each (λ f. ¬ (z ≡ f)) (map (exponents_in N) es) → (ts : List (Term (List K × List K))) → Each (λ t. Has (exponents t) es) ts → Each (λ t. ¬ (exponents t ≡ listed N z)) ts
  none_has z es o [] h = tt
  none_has z es o (t ∷ ts) h = (apart z es o (exponents t) h.0, none_has z es o ts h.1)

  covered : (n : ℕ) (es : List (List ℤ)) (ts x : List (Term (List K × List K))) → n ≡ length αs → IsNormal (ratio v) n ts → Same (ratio v) n (element (ratio v) n ts) (element (ratio v) n x) → Each (λ t. Has (exponents t) es) ts → InsideAll v αs es (element (ratio v) N x)
  covered n es ts x q k h a = record {
    none = λ z o. sym (coefficient_cong (ValueF (suc d)) N z (element (ratio v) N ts) (element (ratio v) N x) (in_count v αs n q (λ m. Same (ratio v) m (element (ratio v) m ts) (element (ratio v) m x)) h))
        ∙ coefficient_none (ratio v) N ts z (in_count v αs n q (λ m. Each (λ t. length (exponents t) ≡ m) ts) k.fit) (none_has z es o ts a);
  }

  fewer : (z : Exponents N) (es more : List (List ℤ)) → Each (λ f. ¬ (z ≡ f)) (map (exponents_in N) (es ++ more)) → Each (λ f. ¬ (z ≡ f)) (map (exponents_in N) es)
  fewer z [] more o = tt
  fewer z (e ∷ es) more o = (o.0, fewer z es more o.1)

  covered_grown : (es fs : List (List ℤ)) (x : (LaurentsR (ValueF (suc d)) (count v αs)).A) → Grows es fs → InsideAll v αs es x → InsideAll v αs fs x
  covered_grown es fs x g h = record { none = λ z o. h.none z (fewer z es g.more (subst (λ (ls : List (List ℤ)). Each (λ f. ¬ (z ≡ f)) (map (exponents_in N) ls)) g.are o)) }

  -- ---- One element after the other

  pub supports_start : (zero_list : List ℤ) (row es : List (List ℤ)) → zero_list ≡ unit_exponents (length αs) (length αs) → row ≡ [] → es ≡ row ++ zero_list ∷ [] → AreSupports v αs [] es
  supports_start zero_list row es q r e = record {
    rest = [];
    first = e ∙ ap (λ s. s ++ zero_list ∷ []) r ∙ ap (λ z. z ∷ []) q;
    fit = subst (λ (ls : List (List ℤ)). Each (λ l. length l ≡ length αs) ls) (sym (e ∙ ap (λ s. s ++ zero_list ∷ []) r)) (ap length q ∙ unit-length (length αs) (length αs), tt);
    inside = tt;
  }

  pub supports_more : (fs : List (List (Term (List K × List K)))) (i : ℕ) (f ts : List (Term (List K × List K))) (es new : List (List ℤ)) → AreSupports v αs (take i fs) es → i < length fs → f ≡ get_or fs i f
      → IsNormal (ratio v) (length αs) ts → Same (ratio v) (length αs) (element (ratio v) (length αs) ts) (element (ratio v) (length αs) f)
      → Grows es new → Each (λ t. Has (exponents t) new) ts → Each (λ e. length e ≡ length αs) new → AreSupports v αs (take (i + 1) fs) new
  supports_more fs i f ts es new a l at k h g has fit = record {
    rest = a.rest ++ g.more;
    first = g.are ∙ ap (λ z. z ++ g.more) a.first;
    fit = fit;
    inside = each_more (λ x. InsideAll v αs new (element (ratio v) N x)) fs i f l at
        (each_to (λ x. InsideAll v αs es (element (ratio v) N x)) (λ x. InsideAll v αs new (element (ratio v) N x)) (take i fs) (λ x c. covered_grown es new (element (ratio v) N x) g c) a.inside)
        (covered (length αs) new ts f refl k h has);
  }

  pub supports_all : (fs : List (List (Term (List K × List K)))) (i : ℕ) (es : List (List ℤ)) → AreSupports v αs (take i fs) es → length fs ≤ i → AreSupports v αs fs es
  supports_all fs i es a l = subst (λ (xs : List (List (Term (List K × List K)))). AreSupports v αs xs es) (take_all i fs l) a

  -- ---- The start of the recursion

  abbrev OnlyIn : List (Exponents N) → (LaurentsR (ValueF (suc d)) (count v αs)).A → Type 0
  OnlyIn zs x = Inside (ValueF (suc d)) (rational_functions d) (factors (map (ratio v) αs)) (factors_some (map (ratio v) αs)) zs x

  pub begun_from : Each (λ a. ¬ (ratio v a ≡ zero_value)) αs → IndependentFactors (map (ratio v) αs) → (fs : List (List (Term (List K × List K)))) (es : List (List ℤ)) (rows : List (Partial K))
      → AreSupports v αs fs es → StartRows v αs fs rows → State v αs fs es rows
  begun_from some free fs es rows a s = state_begun v αs some free fs es (map (exponents_in N) a.rest) rows are
      (each_to (λ f. InsideAll v αs es (element (ratio v) N f)) (λ f. OnlyIn (zeros N ∷ map (exponents_in N) a.rest) (element (ratio v) N f)) fs (λ f i. subst (λ (zs : List (Exponents N)). OnlyIn zs (element (ratio v) N f)) are i) a.inside) s
    where
      are : map (exponents_in N) es ≡ zeros N ∷ map (exponents_in N) a.rest
      are = ap (map (exponents_in N)) a.first ∙ ap (λ z. z ∷ map (exponents_in N) a.rest) (ap (λ m. exponents_in N (unit_exponents m m)) (sym (count_is v αs)) ∙ zeros_in N)
