-- Shares at k + m.
--   image m c s           c times the share s at k + m
--   moved_zero, moved_one, moved_back    a polynomial at k + 0, at k + 1, and at k + 1 after k - 1
--   one_more, one_less    a polynomial at k + n + 1, and at k - n - 1, step by step
--   moved_undone          what is moved back stays as it was; moved_polynomialH: a map of rings
--   image_under, image_degree, scaled_under    degrees
--   fits_image            a share that fits does so at k + m
--   forward_image, forward_back    one step forward is an image, and undoes one back
use Rattle.std.proofs.Common.{◌≡◌, ℕ, zero, suc, refl, sym, ◌∙◌, ap, ap₂, subst, List, [], ◌∷◌, map, ℤ, pos, negsuc, neg_ℤ, arith}
use Rattle.sg_algebra.specs.Ring.{Hom}
use Rattle.sg_algebra.specs.Coefficients.{Each, zip_longest, poly_mul}
use Rattle.sg_algebra.proofs.Ring.{nat}
use Rattle.sg_algebra.proofs.Solver.{ring, by, scale, reads}
use Rattle.sg_algebra.proofs.Divides.{identity}
use Rattle.sg_algebra.proofs.Degree.{Below, Degree, below_zero, below_same, below-scale, degree_same}
use Rattle.sg_algebra.proofs.PolynomialRing.{constant-mul}
use Rattle.sg_algebra.proofs.Shift.{moved, movedH, moved_cong, moved-moved, moved-O, twist-past, twist-top}
use Rattle.sg_algebra.proofs.Value.{Value, one_value, ◌+ᵛ◌, ◌*ᵛ◌}
use Rattle.sg_algebra.proofs.ValueField.{ValueR}
use Rattle.sg_algebra.proofs.Rational.{whole_value}
use Rattle.sg_algebra.proofs.Polynomial.{Polynomial, PolynomialR, ListR, poly, poly_cong, poly-add, poly-mul, same_list, constant, one_polynomial, ◌+ᵖ◌, ◌*ᵖ◌}
use Rattle.sg_dispersion_theory.proofs.Listed.{list_of, poly-list_of}
use Rattle.sg_first_order_theory.proofs.Next.{next, next-mul, next-constant, moved_polynomial, moved_polynomial-poly, moved-iter_next}
use Rattle.sg_first_order_theory.proofs.Under.{Under, under_poly}
use Rattle.sg_reduction_theory.proofs.Moves.{Share}
use Rattle.sg_reduction_theory.proofs.Steps.{forward}
use Rattle.sg_reduction_theory.proofs.Places.{Fits}

module _ {d : ℕ} where
  abbrev pub image : ℤ → Value d → Share d → Share d
  image m c s = record { uppers = map (λ x. constant c *ᵖ moved_polynomial m x) s.uppers; lower = moved_polynomial m s.lower }

  -- ---- Polynomials at k + m

  pub moved_at : (m : ℤ) (x : Polynomial d) → moved_polynomial m x ≡ poly (moved (ValueR d) (whole_value d m) (list_of x))
  moved_at m x = ap (moved_polynomial m) (sym (poly-list_of x)) ∙ moved_polynomial-poly m (list_of x)

  pub moved_zero : (x : Polynomial d) → moved_polynomial (pos 0) x ≡ x
  moved_zero x = moved_at (pos 0) x ∙ poly_cong (moved-O (ValueR d) (list_of x)) ∙ poly-list_of x

  pub moved_one : (x : Polynomial d) → moved_polynomial (pos 1) x ≡ next x
  moved_one x = moved_at (pos 1) x ∙ moved-iter_next 1 (list_of x) ∙ ap next (poly-list_of x)

  both : (m n l : ℤ) (x : Polynomial d) → whole_value d m +ᵛ whole_value d n ≡ whole_value d l → moved_polynomial n (moved_polynomial m x) ≡ moved_polynomial l x
  both m n l x e = ap (moved_polynomial n) (moved_at m x) ∙ moved_polynomial-poly n (moved (ValueR d) (whole_value d m) p)
      ∙ poly_cong ((ListR d).trans (moved-moved (ValueR d) (whole_value d m) (whole_value d n) p) (moved_cong (ValueR d) (whole_value d m +ᵛ whole_value d n) (whole_value d l) p p e (ListR d).rfl)) ∙ sym (moved_at l x)
    where
      p : List (Value d)
      p = list_of x

  whole-more : (n : ℕ) → whole_value d (pos n) +ᵛ whole_value d (pos 1) ≡ whole_value d (pos (suc n))
  whole-more n = ring (ValueR d) (nat (ValueR d) n ∷ []) (search reads depth 16) refl

  whole-less : (n : ℕ) → whole_value d (neg_ℤ (pos n)) +ᵛ whole_value d (neg_ℤ (pos 1)) ≡ whole_value d (neg_ℤ (pos (suc n)))
  whole-less zero = ring (ValueR d) [] (search reads depth 16) refl
  whole-less (suc n) = ring (ValueR d) (nat (ValueR d) n ∷ []) (search reads depth 16) refl

  pub one_more : (n : ℕ) (x : Polynomial d) → moved_polynomial (pos 1) (moved_polynomial (pos n) x) ≡ moved_polynomial (pos (suc n)) x
  one_more n x = both (pos n) (pos 1) (pos (suc n)) x (whole-more n)

  pub one_less : (n : ℕ) (x : Polynomial d) → moved_polynomial (neg_ℤ (pos 1)) (moved_polynomial (neg_ℤ (pos n)) x) ≡ moved_polynomial (neg_ℤ (pos (suc n))) x
  one_less n x = both (neg_ℤ (pos n)) (neg_ℤ (pos 1)) (neg_ℤ (pos (suc n))) x (whole-less n)

  pub moved_back : (x : Polynomial d) → next (moved_polynomial (neg_ℤ (pos 1)) x) ≡ x
  moved_back x = sym (moved_one (moved_polynomial (neg_ℤ (pos 1)) x)) ∙ both (neg_ℤ (pos 1)) (pos 1) (pos 0) x (ring (ValueR d) [] (search reads depth 16) refl) ∙ moved_zero x

  whole-undone : (m : ℤ) → whole_value d m +ᵛ whole_value d (neg_ℤ m) ≡ whole_value d (pos 0)
  whole-undone (pos zero) = ring (ValueR d) [] (search reads depth 16) refl
  whole-undone (pos (suc n)) = ring (ValueR d) (nat (ValueR d) n ∷ []) (search reads depth 16) refl
  whole-undone (negsuc n) = ring (ValueR d) (nat (ValueR d) n ∷ []) (search reads depth 16) refl

  pub moved_undone : (m : ℤ) (x : Polynomial d) → moved_polynomial (neg_ℤ m) (moved_polynomial m x) ≡ x
  moved_undone m x = both m (neg_ℤ m) (pos 0) x (whole-undone m) ∙ moved_zero x

  -- ---- A map of rings

  pub moved-add : (m : ℤ) (x y : Polynomial d) → moved_polynomial m (x +ᵖ y) ≡ moved_polynomial m x +ᵖ moved_polynomial m y
  moved-add m x y = ap (moved_polynomial m) (sym (poly-add (list_of x) (list_of y) ∙ ap₂ ◌+ᵖ◌ (poly-list_of x) (poly-list_of y))) ∙ moved_polynomial-poly m (zip_longest ◌+ᵛ◌ (list_of x) (list_of y))
      ∙ poly_cong ((movedH (ValueR d) (whole_value d m)).on-add (list_of x) (list_of y)) ∙ poly-add (moved (ValueR d) (whole_value d m) (list_of x)) (moved (ValueR d) (whole_value d m) (list_of y))
      ∙ ap₂ ◌+ᵖ◌ (sym (moved_at m x)) (sym (moved_at m y))

  pub moved-mul : (m : ℤ) (x y : Polynomial d) → moved_polynomial m (x *ᵖ y) ≡ moved_polynomial m x *ᵖ moved_polynomial m y
  moved-mul m x y = ap (moved_polynomial m) (sym (poly-mul (list_of x) (list_of y) ∙ ap₂ ◌*ᵖ◌ (poly-list_of x) (poly-list_of y))) ∙ moved_polynomial-poly m (poly_mul (ValueR d) (list_of x) (list_of y))
      ∙ poly_cong ((movedH (ValueR d) (whole_value d m)).on-mul (list_of x) (list_of y)) ∙ poly-mul (moved (ValueR d) (whole_value d m) (list_of x)) (moved (ValueR d) (whole_value d m) (list_of y))
      ∙ ap₂ ◌*ᵖ◌ (sym (moved_at m x)) (sym (moved_at m y))

  pub moved-one : (m : ℤ) → moved_polynomial m (one_polynomial {d = d}) ≡ one_polynomial
  moved-one m = moved_polynomial-poly m (one_value ∷ []) ∙ poly_cong (movedH (ValueR d) (whole_value d m)).on-one

  abbrev pub moved_polynomialH : ℤ → Hom (PolynomialR d) (PolynomialR d)
  moved_polynomialH m = record { on = moved_polynomial m; on_cong = λ x y. ap (moved_polynomial m); on-add = moved-add m; on-mul = moved-mul m; on-one = moved-one m }

  -- ---- Degrees

  moved_below : (β : Value d) (n : ℕ) (p : List (Value d)) → Below (ValueR d) n p → Below (ValueR d) n (moved (ValueR d) β p)
  moved_below β zero p b = below_same (ValueR d) 0 [] (moved (ValueR d) β p) ((ListR d).symm ((movedH (ValueR d) β).on_cong p [] (below_zero (ValueR d) p b))) (record { none_from = λ i l. refl })
  moved_below β (suc n) p b = record { none_from = λ i l. twist-past (ValueR d) (identity (ValueR d)) β n p (λ j k. b.none_from j (omega arith)) i (omega arith) }

  moved_degree : (β : Value d) (n : ℕ) (p : List (Value d)) → Degree (ValueR d) n p → Degree (ValueR d) n (moved (ValueR d) β p)
  moved_degree β n p g = record {
    lead = λ z. g.lead (sym (twist-top (ValueR d) (identity (ValueR d)) β n p g.ends) ∙ z);
    ends = twist-past (ValueR d) (identity (ValueR d)) β n p g.ends;
  }

  pub image_under : (m : ℤ) (n : ℕ) (x : Polynomial d) → Under n x → Under n (moved_polynomial m x)
  image_under m n x h = subst (Under n) (sym (moved_at m x)) (under_poly n (moved (ValueR d) (whole_value d m) (list_of x)) (moved_below (whole_value d m) n (list_of x) h))

  pub image_degree : (m : ℤ) (n : ℕ) (x : Polynomial d) → Degree (ValueR d) n (list_of x) → Degree (ValueR d) n (list_of (moved_polynomial m x))
  image_degree m n x h = degree_same (ValueR d) n (moved (ValueR d) (whole_value d m) (list_of x)) (list_of (moved_polynomial m x))
      (same_list (moved (ValueR d) (whole_value d m) (list_of x)) (list_of (moved_polynomial m x)) (sym (moved_at m x) ∙ sym (poly-list_of (moved_polynomial m x))))
      (moved_degree (whole_value d m) n (list_of x) h)

  pub scaled_under : (n : ℕ) (c : Value d) (x : Polynomial d) → Under n x → Under n (constant c *ᵖ x)
  scaled_under n c x h = below_same (ValueR d) n (poly_mul (ValueR d) (c ∷ []) (list_of x)) (list_of (constant c *ᵖ x))
      (same_list (poly_mul (ValueR d) (c ∷ []) (list_of x)) (list_of (constant c *ᵖ x)) (poly-mul (c ∷ []) (list_of x) ∙ ap (λ z. constant c *ᵖ z) (poly-list_of x) ∙ sym (poly-list_of (constant c *ᵖ x))))
      (below-scale (ValueR d) n c (list_of x) h)

  images_under : (m : ℤ) (c : Value d) (n : ℕ) (xs : List (Polynomial d)) → Each (Under n) xs → Each (Under n) (map (λ x. constant c *ᵖ moved_polynomial m x) xs)
  images_under m c n [] h = tt
  images_under m c n (x ∷ xs) h = (scaled_under n c (moved_polynomial m x) (image_under m n x h.0), images_under m c n xs h.1)

  pub fits_image : (m : ℤ) (c : Value d) (s : Share d) → Fits s → Fits (image m c s)
  fits_image m c s f = record { n = f.n; degree = image_degree m f.n s.lower f.degree; under = images_under m c f.n s.uppers f.under }

  -- ---- One step

  forwards : (a : Value d) (xs : List (Polynomial d)) → map (λ x. constant a *ᵖ moved_polynomial (pos 1) x) xs ≡ map (λ x. constant a *ᵖ next x) xs
  forwards a [] = refl
  forwards a (x ∷ xs) = ap₂ (λ y ys. (constant a *ᵖ y) ∷ ys) (moved_one x) (forwards a xs)

  pub forward_image : (a : Value d) (s : Share d) → image (pos 1) a s ≡ forward a s
  forward_image a s = ap₂ (λ us w. record { uppers = us; lower = w }) (forwards a s.uppers) (moved_one s.lower)

  units : (a b : Value d) → a *ᵛ b ≡ one_value → constant a *ᵖ constant b ≡ one_polynomial
  units a b h = sym (poly-mul (a ∷ []) (b ∷ [])) ∙ poly_cong ((ListR d).symm (constant-mul (ValueR d) a b)) ∙ ap constant h

  again : (a b : Value d) → a *ᵛ b ≡ one_value → (x : Polynomial d) → constant a *ᵖ next (constant b *ᵖ moved_polynomial (neg_ℤ (pos 1)) x) ≡ x
  again a b h x = by (PolynomialR d) (constant a ∷ constant b ∷ x ∷ next (constant b *ᵖ moved_polynomial (neg_ℤ (pos 1)) x) ∷ [])
      ((PolynomialR d).add_cong (scale (PolynomialR d) (constant a) (next-mul (constant b) (moved_polynomial (neg_ℤ (pos 1)) x) ∙ ap₂ ◌*ᵖ◌ (next-constant b) (moved_back x))) (scale (PolynomialR d) x (units a b h))) (search reads depth 20 fits 4000) refl

  all_again : (a b : Value d) → a *ᵛ b ≡ one_value → (xs : List (Polynomial d)) → map (λ x. constant a *ᵖ next x) (map (λ x. constant b *ᵖ moved_polynomial (neg_ℤ (pos 1)) x) xs) ≡ xs
  all_again a b h [] = refl
  all_again a b h (x ∷ xs) = ap₂ ◌∷◌ (again a b h x) (all_again a b h xs)

  pub forward_back : (a b : Value d) → a *ᵛ b ≡ one_value → (s : Share d) → forward a (image (neg_ℤ (pos 1)) b s) ≡ s
  forward_back a b h s = ap₂ (λ us w. record { uppers = us; lower = w }) (all_again a b h s.uppers) (moved_back s.lower)
