-- Lists of terms, as the tower hands them out.
use Rattle.std.proofs.Common.{◌≡◌, ℕ, zero, suc, ◌+◌, ◌<◌, ◌≤◌, refl, sym, ap, ap₂, ◌∙◌, subst, List, [], ◌∷◌, ◌++◌, map, length, take, drop, get_or, reverse, ℤ, pos, ◌≤ℤ◌, add-zero, arith}
use Rattle.std.proofs.lemmas.List.{take_all, take_more, drop_all, reverse-reverse}
use Rattle.sg_algebra.specs.Ring.{Ring, Field}
use Rattle.sg_algebra.specs.Coefficients.{Each}
use Rattle.sg_algebra.proofs.Lists.{length_map}
use Rattle.sg_algebra.proofs.Place.{Pairwise}
use Rattle.sg_algebra.proofs.Value.{Value, zero_value}
use Rattle.sg_algebra.proofs.ValueField.{ValueF}
use Rattle.sg_dispersion_theory.proofs.Listed.{poly_coprime}
use Rattle.sg_tower_theory.proofs.Flat.{Term as FormalTerm, IsAfter, IsFlat, IsLowestForm, DescendingTerms, of_term, of_terms}
use Rattle.sg_tower_theory.proofs.Formal.{no_sums}
use Rattle.sg_tower_theory.proofs.Products.{LaurentsR}
use Rattle.sg_ratfun.specs.Fractions.{ratio}
use Rattle.sg_tower.specs.declared.flat.FlatTerm.{FlatTerm}
use Rattle.sg_tower.specs.Terms.{term_of, HasTerms}
use Rattle.sg_laurent.specs.declared.terms.Term.{Term}
use Rattle.sg_laurent.specs.Elements.{Same, element, exponents, IsLater, IsDescending, IsNormal}
use Rattle.sg_products.specs.Readings.{count, laurents, IsFlatTerm}
use Rattle.sg_products.proofs.Moving.{lower_ne, in_count}

pairwise_push : {X Y : Type 0} (P : X → Y → Type 0) (xs : List X) (ys : List Y) (x : X) (y : Y) → Pairwise P xs ys → P x y → Pairwise P (xs ++ x ∷ []) (ys ++ y ∷ [])
pairwise_push P [] [] x y p h = (h, tt)
pairwise_push P [] (z ∷ ys) x y p h = absurd p
pairwise_push P (z ∷ xs) [] x y p h = absurd p
pairwise_push P (z ∷ xs) (w ∷ ys) x y p h = (p.0, pairwise_push P xs ys x y p.1 h)

pub pairwise_next : {X Y : Type 0} (P : X → Y → Type 0) (xs : List X) (ys new : List Y) (i : ℕ) (x : X) (y : Y) → Pairwise P (take i xs) ys → i < length xs → x ≡ get_or xs i x → P x y → new ≡ ys ++ y ∷ [] → Pairwise P (take (i + 1) xs) new
pairwise_next P xs ys new i x y p l at h n = rw (take_more xs i x l, sym at, n) (pairwise_push P (take i xs) ys x y p h)

pub pairwise_more : {X Y : Type 0} (P : X → Y → Type 0) (xs : List X) (ys new : List Y) (x : X) (y : Y) → Pairwise P xs ys → P x y → new ≡ ys ++ y ∷ [] → Pairwise P (xs ++ x ∷ []) new
pairwise_more P xs ys new x y p h n = rw n (pairwise_push P xs ys x y p h)

pub pairwise_whole : {X Y : Type 0} (P : X → Y → Type 0) (xs : List X) (ys : List Y) (i : ℕ) → Pairwise P (take i xs) ys → length xs ≤ i → Pairwise P xs ys
pairwise_whole P xs ys i p l = rw (take_all i xs l) at p

module _ {K : Type 0} {d : ℕ} (v : K → Value d) (αs : List (List K × List K)) where
  abbrev N : ℕ
  N = count v αs

  abbrev S : Ring
  S = LaurentsR (ValueF (suc d)) (count v αs)

  sum : (ts : List (Term (List K × List K))) (rs : List (FlatTerm K)) → Pairwise (IsFlatTerm v) ts rs → Same (ratio v) N (element (ratio v) N ts) (of_terms (no_sums (map (ratio v) αs)) (map (term_of v) rs))
  sum [] [] p = S.rfl
  sum [] (r ∷ rs) p = absurd p
  sum (t ∷ ts) [] p = absurd p
  sum (t ∷ ts) (r ∷ rs) p = S.add_cong (rw (reverse-reverse r.exps, p.0.exps, p.0.value) S.rfl) (sum ts rs p.1)

  sized : (ts : List (Term (List K × List K))) (rs : List (FlatTerm K)) → Pairwise (IsFlatTerm v) ts rs → Each (λ t. length (exponents t) ≡ length αs) ts → Each (λ t. length t.exponents ≡ length (map (ratio v) αs) + 0) (map (term_of v) rs)
  sized [] [] p f = tt
  sized [] (r ∷ rs) p f = absurd p
  sized (t ∷ ts) [] p f = absurd p
  sized (t ∷ ts) (r ∷ rs) p f = (ap length p.0.exps ∙ f.0 ∙ sym (length_map (ratio v) αs) ∙ sym (add-zero (length (map (ratio v) αs))), sized ts rs p.1 f.1)

  natural : (ts : List (Term (List K × List K))) (rs : List (FlatTerm K)) → Pairwise (IsFlatTerm v) ts rs → Each (λ t. length (exponents t) ≡ length αs) ts → Each (λ t. Each (λ e. pos 0 ≤ℤ e) (drop (length (map (ratio v) αs)) t.exponents)) (map (term_of v) rs)
  natural [] [] p f = tt
  natural [] (r ∷ rs) p f = absurd p
  natural (t ∷ ts) [] p f = absurd p
  natural (t ∷ ts) (r ∷ rs) p f = (rw (drop_all (length (map (ratio v) αs)) r.exps (omega (arith, ap length p.0.exps, f.0, length_map (ratio v) αs))) tt, natural ts rs p.1 f.1)

  descending : (ts : List (Term (List K × List K))) (rs : List (FlatTerm K)) → Pairwise (IsFlatTerm v) ts rs → IsDescending ts → DescendingTerms (map (term_of v) rs)
  descending [] [] p h = tt
  descending [] (r ∷ rs) p h = absurd p
  descending (t ∷ ts) [] p h = absurd p
  descending (t ∷ []) (r ∷ []) p h = tt
  descending (t ∷ []) (r ∷ (s ∷ rs)) p h = absurd p.1
  descending (t ∷ (u ∷ ts)) (r ∷ []) p h = absurd p.1
  descending (t ∷ (u ∷ ts)) (r ∷ (s ∷ rs)) p h = (rw (p.0.exps, p.1.0.exps) h.0.0, descending (u ∷ ts) (s ∷ rs) p.1 h.1)

  nonzero : (ts : List (Term (List K × List K))) (rs : List (FlatTerm K)) → Pairwise (IsFlatTerm v) ts rs → Each (λ t. ¬ (ratio v t.coeff ≡ zero_value)) ts → Each (λ t. ¬ (t.coefficient ≡ zero_value)) (map (term_of v) rs)
  nonzero [] [] p f = tt
  nonzero [] (r ∷ rs) p f = absurd p
  nonzero (t ∷ ts) [] p f = absurd p
  nonzero (t ∷ ts) (r ∷ rs) p f = ((λ z. f.0 (sym p.0.value ∙ z)), nonzero ts rs p.1 f.1)

  lowest : (ts : List (Term (List K × List K))) (rs : List (FlatTerm K)) → Pairwise (IsFlatTerm v) ts rs → Each (λ t. IsLowestForm t.coefficient) (map (term_of v) rs)
  lowest [] [] p = tt
  lowest [] (r ∷ rs) p = absurd p
  lowest (t ∷ ts) [] p = absurd p
  lowest (t ∷ ts) (r ∷ rs) p = (record { upper = map v r.coeff.0; lower = map v r.coeff.1; quotient = refl; nonzero = lower_ne v r.coeff p.0.reduced; coprime = poly_coprime (map v r.coeff.0) (map v r.coeff.1) p.0.reduced.coprime }, lowest ts rs p.1)

  pub flat_is : (ts : List (Term (List K × List K))) (i n : ℕ) (x : List (Term (List K × List K))) (rs : List (FlatTerm K)) → n ≡ length αs → length ts ≤ i → Same (ratio v) n (element (ratio v) n ts) (element (ratio v) n x) → IsNormal (ratio v) n ts
      → Pairwise (IsFlatTerm v) (take i ts) rs → HasTerms (laurents v αs) v x rs
  flat_is ts i n x rs e l h k q = go (rw (take_all i ts l) at q) (rw e at k.fit)
    where
      go : Pairwise (IsFlatTerm v) ts rs → Each (λ t. length (exponents t) ≡ length αs) ts → HasTerms (laurents v αs) v x rs
      go p f = record {
        same = S.trans (S.symm (in_count v αs n e (λ m. Same (ratio v) m (element (ratio v) m ts) (element (ratio v) m x)) h)) (sum ts rs p);
        sized = sized ts rs p f;
        natural = natural ts rs p f;
        descending = descending ts rs p k.descending;
        nonzero = nonzero ts rs p k.some;
        lowest = lowest ts rs p;
      }
