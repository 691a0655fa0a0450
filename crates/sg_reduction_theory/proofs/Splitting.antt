-- A share split over two factors of its denominator.
--   rest_fits             the second numerators are below the degree of the second factor, where the first are below that of the first
--   split_terms           the share is the sum of both
use Rattle.std.proofs.Common.{◌≡◌, ℕ, ◌+◌, sym, ◌∙◌, ap₂, subst, List, [], ◌∷◌}
use Rattle.sg_algebra.specs.Coefficients.{Each, zip_longest, poly_mul}
use Rattle.sg_algebra.proofs.Degree.{Degree, degree_unique, degree_same, degree-mul}
use Rattle.sg_algebra.proofs.Value.{Value, ◌+ᵛ◌}
use Rattle.sg_algebra.proofs.ValueField.{ValueR, ValueF, ValueD}
use Rattle.sg_algebra.proofs.Polynomial.{Polynomial, PolynomialR, poly, same_list, poly-add, poly-mul, zero_polynomial, ◌+ᵖ◌, ◌*ᵖ◌}
use Rattle.sg_dispersion_theory.proofs.Listed.{list_of, poly-list_of}
use Rattle.sg_first_order_theory.proofs.Under.{Under}
use Rattle.sg_reduction_theory.proofs.Moves.{Share}
use Rattle.sg_reduction_theory.proofs.Steps.{term, Adds, sum_term}
use Rattle.sg_reduction_theory.proofs.Places.{Fits}
use Rattle.sg_reduction_theory.proofs.Proper.{proper_rest}

module _ {d : ℕ} where
  product_list : (x y : Polynomial d) → poly (poly_mul (ValueR d) (list_of x) (list_of y)) ≡ x *ᵖ y
  product_list x y = poly-mul (list_of x) (list_of y) ∙ ap₂ ◌*ᵖ◌ (poly-list_of x) (poly-list_of y)

  one_rest : (n m : ℕ) (u v p a b : Polynomial d) → Degree (ValueR d) n (list_of u) → Degree (ValueR d) m (list_of v) → p ≡ a *ᵖ v +ᵖ b *ᵖ u → Under (n + m) p → Under n a → Under m b
  one_rest n m u v p a b gu gv e hp ha = proper_rest (ValueF d) n m (list_of u) (list_of v) (list_of p) (list_of a) (list_of b) gu gv
      (same_list (list_of p) (zip_longest ◌+ᵛ◌ (poly_mul (ValueR d) (list_of a) (list_of v)) (poly_mul (ValueR d) (list_of b) (list_of u)))
      (poly-list_of p ∙ e ∙ sym (poly-add (poly_mul (ValueR d) (list_of a) (list_of v)) (poly_mul (ValueR d) (list_of b) (list_of u)) ∙ ap₂ ◌+ᵖ◌ (product_list a v) (product_list b u)))) hp ha

  all_rests : (n m : ℕ) (u v : Polynomial d) (ps xs bs : List (Polynomial d)) → Degree (ValueR d) n (list_of u) → Degree (ValueR d) m (list_of v) → Adds v u ps xs bs → Each (Under (n + m)) ps → Each (Under n) xs → Each (Under m) bs
  all_rests n m u v [] [] [] gu gv h hp ha = tt
  all_rests n m u v (p ∷ ps) (a ∷ xs) (b ∷ bs) gu gv h hp ha = (one_rest n m u v p a b gu gv h.0 hp.0 ha.0, all_rests n m u v ps xs bs gu gv h.1 hp.1 ha.1)
  all_rests n m u v [] [] (b ∷ bs) gu gv h hp ha = absurd h
  all_rests n m u v [] (a ∷ xs) bs gu gv h hp ha = absurd h
  all_rests n m u v (p ∷ ps) [] bs gu gv h hp ha = absurd h
  all_rests n m u v (p ∷ ps) (a ∷ xs) [] gu gv h hp ha = absurd h

  pub rest_fits : (s t r : Share d) (n m : ℕ) → Degree (ValueR d) n (list_of t.lower) → Degree (ValueR d) m (list_of r.lower) → s.lower ≡ t.lower *ᵖ r.lower → Adds r.lower t.lower s.uppers t.uppers r.uppers → Each (Under n) t.uppers → Fits s → Fits r
  rest_fits s t r n m gu gv e h under f = record { n = m; degree = gv; under = all_rests n m t.lower r.lower s.uppers t.uppers r.uppers gu gv h (subst (λ (k : ℕ). Each (Under k) s.uppers) same f.under) under }
    where
      same : f.n ≡ n + m
      same = degree_unique (ValueR d) f.n (n + m) (list_of s.lower) f.degree
          (degree_same (ValueR d) (n + m) (poly_mul (ValueR d) (list_of t.lower) (list_of r.lower)) (list_of s.lower)
          (same_list (poly_mul (ValueR d) (list_of t.lower) (list_of r.lower)) (list_of s.lower) (product_list t.lower r.lower ∙ sym e ∙ sym (poly-list_of s.lower)))
          (degree-mul (ValueD d) n m (list_of t.lower) (list_of r.lower) gu gv))

  pub split_terms : (c : ℕ → Value d) (s t r : Share d) → ¬ (s.lower ≡ zero_polynomial) → ¬ (t.lower ≡ zero_polynomial) → ¬ (r.lower ≡ zero_polynomial) → s.lower ≡ t.lower *ᵖ r.lower → Adds r.lower t.lower s.uppers t.uppers r.uppers → term c s ≡ term c t +ᵛ term c r
  split_terms c s t r hs ht hr e h = sum_term c s t r r.lower t.lower hs ht hr e (e ∙ (PolynomialR d).mul_comm {x = t.lower} {y = r.lower}) h
