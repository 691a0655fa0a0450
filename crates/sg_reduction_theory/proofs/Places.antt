-- The list of settled shares, with one taken out or added at the end.
--   Fits s                the numerators are below the degree of the denominator
--   Good r ss             the denominators are settled, each share fits, and each has r numerators
--   good_add, good_without, good_put    one added, one taken out, one put in the place of another
--   carried_both          a share split in two that are settled one after the other
--   carried_join          a share moved and joined with one of the list
use Rattle.std.proofs.Common.{◌≡◌, ℕ, zero, suc, ◌<◌, refl, sym, ◌∙◌, ap, subst, List, [], ◌∷◌, ◌++◌, length, get_or, arith}
use Rattle.std.specs.List.{remove}
use Rattle.sg_algebra.specs.Coefficients.{Each}
use Rattle.sg_algebra.proofs.Ring.{pow}
use Rattle.sg_algebra.proofs.Solver.{by, reads}
use Rattle.sg_algebra.proofs.Divides.{Divides}
use Rattle.sg_algebra.proofs.Degree.{Degree, degree_ne}
use Rattle.sg_algebra.proofs.Value.{Value, ◌+ᵛ◌}
use Rattle.sg_algebra.proofs.ValueField.{ValueR}
use Rattle.sg_algebra.proofs.Polynomial.{Polynomial, PolynomialR, poly, same_list, zero_polynomial}
use Rattle.sg_dispersion_theory.proofs.Listed.{list_of, poly-list_of}
use Rattle.sg_first_order_theory.proofs.Next.{nextH}
use Rattle.sg_first_order_theory.proofs.Under.{Under, under_weighted}
use Rattle.sg_first_order_theory.proofs.Weighted.{weighted}
use Rattle.sg_reduction_theory.proofs.Apart.{Free, Apart, apart_symm, apart_radical, free_radical}
use Rattle.sg_reduction_theory.proofs.Pieces.{Settled}
use Rattle.sg_reduction_theory.proofs.Moves.{Share, sum_at, difference}
use Rattle.sg_reduction_theory.proofs.Answer.{bottoms, Small}
use Rattle.sg_reduction_theory.proofs.Kernel.{small_under}
use Rattle.sg_reduction_theory.proofs.Spanning.{Sized}
use Rattle.sg_reduction_theory.proofs.Steps.{term, sum-append}
use Rattle.sg_reduction_theory.proofs.Settling.{Carries}

module _ {d : ℕ} where
  pub record Fits (s : Share d) : Type 0 where
    pub n : ℕ
    pub degree : Degree (ValueR d) n (list_of s.lower)
    pub under : Each (Under n) s.uppers

  pub record Good (r : ℕ) (ss : List (Share d)) : Type 0 where
    pub settled : Settled (PolynomialR d) (nextH d) (bottoms ss)
    pub fits : Each Fits ss
    pub sized : Sized r ss

  pub fits_some : (s : Share d) → Fits s → ¬ (s.lower ≡ zero_polynomial)
  fits_some s f z = degree_ne (ValueR d) f.n (list_of s.lower) f.degree (same_list (list_of s.lower) [] (poly-list_of s.lower ∙ z))

  pub fits_small : (s : Share d) → Fits s → Small s
  fits_small s f c h = subst (λ (p : Polynomial d). p ≡ zero_polynomial) (poly-list_of (weighted c s.uppers))
      (small_under f.n (list_of s.lower) (list_of (weighted c s.uppers)) f.degree
      (subst (Under f.n) (sym (poly-list_of (weighted c s.uppers))) (under_weighted f.n c s.uppers f.under))
      (subst (λ (p : Polynomial d). Divides (PolynomialR d) p (poly (list_of (weighted c s.uppers)))) (sym (poly-list_of s.lower))
      (subst (λ (p : Polynomial d). Divides (PolynomialR d) s.lower p) (sym (poly-list_of (weighted c s.uppers))) h)))

  abbrev Apart_all : Polynomial d → List (Share d) → Type 0
  Apart_all w ss = Each (Apart (PolynomialR d) (nextH d) w) (bottoms ss)

  each_end : (P : Share d → Type 0) (ss : List (Share d)) (s : Share d) → Each P ss → P s → Each P (ss ++ s ∷ [])
  each_end P [] s h p = (p, tt)
  each_end P (t ∷ ss) s h p = (h.0, each_end P ss s h.1 p)

  each_without : (P : Share d → Type 0) (ss : List (Share d)) (i : ℕ) → Each P ss → Each P (remove ss i)
  each_without P [] zero h = tt
  each_without P [] (suc i) h = tt
  each_without P (t ∷ ss) zero h = h.1
  each_without P (t ∷ ss) (suc i) h = (h.0, each_without P ss i h.1)

  apart_end : (w : Polynomial d) (ss : List (Share d)) (s : Share d) → Apart_all w ss → Apart (PolynomialR d) (nextH d) w s.lower → Apart_all w (ss ++ s ∷ [])
  apart_end w [] s h p = (p, tt)
  apart_end w (t ∷ ss) s h p = (h.0, apart_end w ss s h.1 p)

  apart_without : (w : Polynomial d) (ss : List (Share d)) (i : ℕ) → Apart_all w ss → Apart_all w (remove ss i)
  apart_without w [] zero h = tt
  apart_without w [] (suc i) h = tt
  apart_without w (t ∷ ss) zero h = h.1
  apart_without w (t ∷ ss) (suc i) h = (h.0, apart_without w ss i h.1)

  apart_at : (w : Polynomial d) (ss : List (Share d)) (i : ℕ) (s : Share d) → i < length ss → s ≡ get_or ss i s → Apart_all w ss → Apart (PolynomialR d) (nextH d) w s.lower
  apart_at w [] i s l e h = absurd (omega arith)
  apart_at w (t ∷ ss) zero s l e h = subst (λ (x : Share d). Apart (PolynomialR d) (nextH d) w x.lower) (sym e) h.0
  apart_at w (t ∷ ss) (suc i) s l e h = apart_at w ss i s (omega arith) e h.1

  settled_end : (ss : List (Share d)) (s : Share d) → Settled (PolynomialR d) (nextH d) (bottoms ss) → Free (PolynomialR d) (nextH d) s.lower → Apart_all s.lower ss → Settled (PolynomialR d) (nextH d) (bottoms (ss ++ s ∷ []))
  settled_end [] s h f a = (f, (tt, tt))
  settled_end (t ∷ ss) s h f a = (h.0, (apart_end t.lower ss s h.1.0 (apart_symm (PolynomialR d) (nextH d) s.lower t.lower a.0), settled_end ss s h.1.1 f a.1))

  settled_without : (ss : List (Share d)) (i : ℕ) → Settled (PolynomialR d) (nextH d) (bottoms ss) → Settled (PolynomialR d) (nextH d) (bottoms (remove ss i))
  settled_without [] zero h = tt
  settled_without [] (suc i) h = tt
  settled_without (t ∷ ss) zero h = h.1.1
  settled_without (t ∷ ss) (suc i) h = (h.0, (apart_without t.lower ss i h.1.0, settled_without ss i h.1.1))

  settled_free : (ss : List (Share d)) (i : ℕ) (s : Share d) → i < length ss → s ≡ get_or ss i s → Settled (PolynomialR d) (nextH d) (bottoms ss) → Free (PolynomialR d) (nextH d) s.lower
  settled_free [] i s l e h = absurd (omega arith)
  settled_free (t ∷ ss) zero s l e h = subst (λ (x : Share d). Free (PolynomialR d) (nextH d) x.lower) (sym e) h.0
  settled_free (t ∷ ss) (suc i) s l e h = settled_free ss i s (omega arith) e h.1.1

  settled_apart : (ss : List (Share d)) (i : ℕ) (s : Share d) → i < length ss → s ≡ get_or ss i s → Settled (PolynomialR d) (nextH d) (bottoms ss) → Apart_all s.lower (remove ss i)
  settled_apart [] i s l e h = absurd (omega arith)
  settled_apart (t ∷ ss) zero s l e h = subst (λ (x : Share d). Apart_all x.lower ss) (sym e) h.1.0
  settled_apart (t ∷ ss) (suc i) s l e h = (apart_symm (PolynomialR d) (nextH d) t.lower s.lower (apart_at t.lower ss i s (omega arith) e h.1.0), settled_apart ss i s (omega arith) e h.1.1)

  apart_all_radical : (v w : Polynomial d) (n : ℕ) (ss : List (Share d)) → Divides (PolynomialR d) w (pow (PolynomialR d) v n) → Apart_all v ss → Apart_all w ss
  apart_all_radical v w n [] h a = tt
  apart_all_radical v w n (t ∷ ss) h a = (apart_symm (PolynomialR d) (nextH d) t.lower w (apart_radical (PolynomialR d) (nextH d) t.lower v w n h (apart_symm (PolynomialR d) (nextH d) v t.lower a.0)), apart_all_radical v w n ss h a.1)

  pub good_add : (r : ℕ) (ss : List (Share d)) (s : Share d) → Good r ss → Fits s → length s.uppers ≡ r → Free (PolynomialR d) (nextH d) s.lower → Each (Apart (PolynomialR d) (nextH d) s.lower) (bottoms ss) → Good r (ss ++ s ∷ [])
  good_add r ss s g f z free a = record {
    settled = settled_end ss s g.settled free a;
    fits = each_end Fits ss s g.fits f;
    sized = each_end (λ s. length s.uppers ≡ r) ss s g.sized z;
  }

  pub good_put : (r : ℕ) (ss : List (Share d)) (i n : ℕ) (s t : Share d) → Good r ss → i < length ss → s ≡ get_or ss i s → Fits t → length t.uppers ≡ r → Divides (PolynomialR d) t.lower (pow (PolynomialR d) s.lower n) → Good r (remove ss i ++ t ∷ [])
  good_put r ss i n s t g l e f z h = record {
    settled = settled_end (remove ss i) t (settled_without ss i g.settled) (free_radical (PolynomialR d) (nextH d) s.lower t.lower n h (settled_free ss i s l e g.settled))
        (apart_all_radical s.lower t.lower n (remove ss i) h (settled_apart ss i s l e g.settled));
    fits = each_end Fits (remove ss i) t (each_without Fits ss i g.fits) f;
    sized = each_end (λ s. length s.uppers ≡ r) (remove ss i) t (each_without (λ s. length s.uppers ≡ r) ss i g.sized) z;
  }

  -- ---- Sums

  sum_without : (c : ℕ → Value d) (ss : List (Share d)) (i : ℕ) (s : Share d) → i < length ss → s ≡ get_or ss i s → sum_at c ss ≡ term c s +ᵛ sum_at c (remove ss i)
  sum_without c [] i s l e = absurd (omega arith)
  sum_without c (t ∷ ss) zero s l e = ap (λ (x : Share d). term c x +ᵛ sum_at c ss) (sym e)
  sum_without c (t ∷ ss) (suc i) s l e = by (ValueR (suc d)) (term c t ∷ term c s ∷ sum_at c ss ∷ sum_at c (remove ss i) ∷ []) (sum_without c ss i s (omega arith) e) (search reads depth 16) refl

  pub carried_both : (a : Value d) (s t r : Share d) (ss mv ss' mv' ss'' mv'' : List (Share d)) → ((c : ℕ → Value d) → term c s ≡ term c t +ᵛ term c r) → Carries a (t ∷ ss) mv ss' mv' → Carries a (r ∷ ss') mv' ss'' mv'' → Carries a (s ∷ ss) mv ss'' mv''
  carried_both a s t r ss mv ss' mv' ss'' mv'' h k j = record {
    is = λ c. by (ValueR (suc d)) (term c s ∷ term c t ∷ term c r ∷ sum_at c ss ∷ sum_at c ss' ∷ sum_at c ss'' ∷ difference a (sum_at c mv) ∷ difference a (sum_at c mv') ∷ difference a (sum_at c mv'') ∷ [])
        ((ValueR (suc d)).add_cong (h c) ((ValueR (suc d)).add_cong (k.is c) (j.is c))) (search reads depth 24 fits 8000) refl;
  }

  pub carried_join : (a : Value d) (s t u l : Share d) (ss mv mv' : List (Share d)) (i : ℕ) → i < length ss → u ≡ get_or ss i u → Carries a (s ∷ []) mv (t ∷ []) mv' → ((c : ℕ → Value d) → term c l ≡ term c u +ᵛ term c t) → Carries a (s ∷ ss) mv (remove ss i ++ l ∷ []) mv'
  carried_join a s t u l ss mv mv' i b e k h = record {
    is = λ c. by (ValueR (suc d)) (term c s ∷ term c t ∷ term c u ∷ term c l ∷ sum_at c ss ∷ sum_at c (remove ss i) ∷ sum_at c (remove ss i ++ l ∷ []) ∷ difference a (sum_at c mv) ∷ difference a (sum_at c mv') ∷ [])
        ((ValueR (suc d)).add_cong (k.is c) ((ValueR (suc d)).add_cong (sum_without c ss i u b e) ((ValueR (suc d)).add_cong ((ValueR (suc d)).symm (sum-append c (remove ss i) (l ∷ []))) ((ValueR (suc d)).symm (h c))))) (search reads depth 24 fits 8000) refl;
  }

  pub carried_add : (a : Value d) (s : Share d) (ss mv : List (Share d)) → Carries a (s ∷ ss) mv (ss ++ s ∷ []) mv
  carried_add a s ss mv = record { is = λ c. by (ValueR (suc d)) (term c s ∷ sum_at c ss ∷ sum_at c (ss ++ s ∷ []) ∷ difference a (sum_at c mv) ∷ []) ((ValueR (suc d)).symm (sum-append c ss (s ∷ []))) (search reads depth 24 fits 8000) refl }
