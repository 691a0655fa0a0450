-- Shares moved by one step, and by several.
--   each_end                  what holds for each of a list and for one more
--   noted                     the sum of what is moved, with one more
--   carried_none              no step
--   carried_on                steps after steps
--   step_forward, step_back   one step, with what is noted
use Rattle.std.proofs.Common.{◌≡◌, ℕ, suc, ◌+◌, refl, sym, ◌∙◌, ap, ap₂, subst, List, [], ◌∷◌, ◌++◌, length, map, ℤ, pos, neg_ℤ, arith}
use Rattle.sg_algebra.specs.Coefficients.{Each}
use Rattle.sg_algebra.proofs.Lists.{length_map}
use Rattle.sg_algebra.proofs.Solver.{ring, by, scale, reads}
use Rattle.sg_algebra.proofs.Value.{Value, zero_value, one_value, neg_value, ◌+ᵛ◌, ◌-ᵛ◌, ◌*ᵛ◌}
use Rattle.sg_algebra.proofs.ValueField.{ValueR}
use Rattle.sg_algebra.proofs.Embedding.{constant_value}
use Rattle.sg_algebra.proofs.Polynomial.{Polynomial, PolynomialR, poly-neg, constant, zero_polynomial, ◌*ᵖ◌, neg_polynomial}
use Rattle.sg_first_order_theory.proofs.Next.{moved_polynomial}
use Rattle.sg_algebra.proofs.ShiftValue.{shift_value, shift_value-add}
use Rattle.sg_reduction_theory.proofs.Moves.{Share, sum_at, difference, next-neg}
use Rattle.sg_reduction_theory.proofs.Spanning.{Sized}
use Rattle.sg_reduction_theory.proofs.Steps.{term, forward, negated, term-forward, term-negated, sum-append}
use Rattle.sg_reduction_theory.proofs.Settling.{carries_refl, carries_trans}
use Rattle.sg_reduction_theory.proofs.Places.{Fits, fits_some}
use Rattle.sg_reduction_theory.proofs.Images.{moved_zero, one_more, one_less, fits_image, forward_image, forward_back}
use Rattle.sg_constant.specs.Shares.{share, shares, image_of, scaled_by, HasLowers, IsCarried}
use Rattle.sg_constant.specs.declared.shares.Share.{Share as Given}

pub each_end : {A : Type 0} (P : A → Type 0) (xs : List A) (x : A) → Each P xs → P x → Each P (xs ++ x ∷ [])
each_end P [] x h p = (p, tt)
each_end P (y ∷ xs) x h p = (h.0, each_end P xs x h.1 p)

module _ {d : ℕ} where
  pub noted : (c : ℕ → Value d) (mv : List (Share d)) (t : Share d) → sum_at c (mv ++ t ∷ []) ≡ sum_at c mv +ᵛ term c t
  noted c mv t = sum-append c mv (t ∷ []) ∙ ring (ValueR (suc d)) (sum_at c mv ∷ term c t ∷ []) (search reads depth 16) refl

  sized_end : (n : ℕ) (mv : List (Share d)) (t : Share d) → length t.uppers ≡ n → Sized n mv → Sized n (mv ++ t ∷ [])
  sized_end n mv t e h = each_end (λ s. length s.uppers ≡ n) mv t h e

  pub carried_none : (a : Value d) (m : ℤ) (s : Share d) (mv : List (Share d)) → m ≡ pos 0 → IsCarried a m s mv s mv
  carried_none a m s mv e = record {
    carries = carries_refl a (s ∷ []) mv;
    lower = sym (moved_zero s.lower) ∙ ap (λ (n : ℤ). moved_polynomial n s.lower) (sym e);
    number = refl;
    fits = λ f. f;
    sized = λ n e h. h;
    lowers = λ h. h;
  }

  pub carried_on : (a : Value d) (m n l : ℤ) (s r t : Share d) (mv mv' mv'' : List (Share d)) → ((x : Polynomial d) → moved_polynomial n (moved_polynomial m x) ≡ moved_polynomial l x)
      → IsCarried a m s mv r mv' → IsCarried a n r mv' t mv'' → IsCarried a l s mv t mv''
  carried_on a m n l s r t mv mv' mv'' e h k = record {
    carries = carries_trans a (s ∷ []) mv (r ∷ []) mv' (t ∷ []) mv'' h.carries k.carries;
    lower = k.lower ∙ ap (moved_polynomial n) h.lower ∙ e s.lower;
    number = k.number ∙ h.number;
    fits = λ f. k.fits (h.fits f);
    sized = λ i e z. k.sized i (h.number ∙ e) (h.sized i e z);
    lowers = λ z. k.lowers (h.lowers z);
  }

  -- ---- One step

  balance_forward : (A T N R U NU M NM M' NM' : Value (suc d)) → R ≡ A *ᵛ N → U ≡ neg_value T → NU ≡ neg_value N → M' ≡ M +ᵛ U → NM' ≡ NM +ᵛ NU → T +ᵛ zero_value +ᵛ (A *ᵛ NM -ᵛ M) ≡ R +ᵛ zero_value +ᵛ (A *ᵛ NM' -ᵛ M')
  balance_forward A T N R U NU M NM M' NM' r u nu m nm = by (ValueR (suc d)) (A ∷ T ∷ N ∷ R ∷ U ∷ NU ∷ M ∷ NM ∷ M' ∷ NM' ∷ [])
      ((ValueR (suc d)).add_cong (scale (ValueR (suc d)) (neg_value one_value) r) ((ValueR (suc d)).add_cong m ((ValueR (suc d)).add_cong (scale (ValueR (suc d)) (neg_value A) nm)
      ((ValueR (suc d)).add_cong u (scale (ValueR (suc d)) (neg_value A) nu))))) (search reads depth 24 fits 8000) refl

  balance_back : (A S T N M NM M' NM' : Value (suc d)) → S ≡ A *ᵛ N → M' ≡ M +ᵛ T → NM' ≡ NM +ᵛ N → S +ᵛ zero_value +ᵛ (A *ᵛ NM -ᵛ M) ≡ T +ᵛ zero_value +ᵛ (A *ᵛ NM' -ᵛ M')
  balance_back A S T N M NM M' NM' s m nm = by (ValueR (suc d)) (A ∷ S ∷ T ∷ N ∷ M ∷ NM ∷ M' ∷ NM' ∷ [])
      ((ValueR (suc d)).add_cong s ((ValueR (suc d)).add_cong m (scale (ValueR (suc d)) (neg_value A) nm))) (search reads depth 24 fits 8000) refl

  shift-noted : (c : ℕ → Value d) (mv : List (Share d)) (t : Share d) → shift_value d (sum_at c (mv ++ t ∷ [])) ≡ shift_value d (sum_at c mv) +ᵛ shift_value d (term c t)
  shift-noted c mv t = ap (shift_value d) (noted c mv t) ∙ shift_value-add d (sum_at c mv) (term c t)

  negatives : (xs : List (Polynomial d)) → map (λ x. constant (neg_value one_value) *ᵖ x) xs ≡ map neg_polynomial xs
  negatives [] = refl
  negatives (x ∷ xs) = ap₂ ◌∷◌ (by (PolynomialR d) (constant (neg_value one_value) ∷ x ∷ []) (scale (PolynomialR d) x (poly-neg (one_value ∷ []))) (search reads depth 16) refl) (negatives xs)

  scaled-minus : (s : Share d) → scaled_by (neg_value one_value) s ≡ negated s
  scaled-minus s = ap (λ us. record { uppers = us; lower = s.lower }) (negatives s.uppers)

  pub step_forward : (a m : Value d) (s r t : Share d) (mv mv' : List (Share d)) → m ≡ neg_value one_value → Fits s → r ≡ image_of (pos 1) a s → t ≡ scaled_by m s → mv' ≡ mv ++ t ∷ [] → IsCarried a (pos 1) s mv r mv'
  step_forward a m s r t mv mv' em f er et emv = record {
    carries = record { is = λ c. carries c };
    lower = ap (λ (x : Share d). x.lower) er;
    number = ap (λ (x : Share d). length x.uppers) er ∙ length_map (λ x. constant a *ᵖ moved_polynomial (pos 1) x) s.uppers;
    fits = λ f. subst Fits (sym er) (fits_image (pos 1) a s f);
    sized = λ n e z. subst (Sized n) (sym emv) (sized_end n mv t (ap (λ (x : Share d). length x.uppers) et ∙ length_map (λ x. constant m *ᵖ x) s.uppers ∙ e) z);
    lowers = λ z. subst HasLowers (sym emv) (each_end (λ (x : Share d). ¬ (x.lower ≡ zero_polynomial)) mv t z (subst (λ (w : Polynomial d). ¬ (w ≡ zero_polynomial)) (sym (ap (λ (x : Share d). x.lower) et)) (fits_some s f)));
  }
    where
      is_negated : t ≡ negated s
      is_negated = et ∙ ap (λ (m : Value d). scaled_by m s) em ∙ scaled-minus s

      carries : (c : ℕ → Value d) → sum_at c (s ∷ []) +ᵛ difference a (sum_at c mv) ≡ sum_at c (r ∷ []) +ᵛ difference a (sum_at c mv')
      carries c = balance_forward (constant_value d a) (term c s) (shift_value d (term c s)) (term c r) (term c t) (shift_value d (term c t)) (sum_at c mv) (shift_value d (sum_at c mv)) (sum_at c mv') (shift_value d (sum_at c mv'))
          (ap (term c) (er ∙ forward_image a s) ∙ term-forward a c s (fits_some s f))
          (ap (term c) is_negated ∙ term-negated c s)
          (ap (shift_value d) (ap (term c) is_negated ∙ term-negated c s) ∙ next-neg (term c s))
          (ap (sum_at c) emv ∙ noted c mv t)
          (ap (λ z. shift_value d (sum_at c z)) emv ∙ shift-noted c mv t)

  pub step_back : (a b : Value d) (s r t : Share d) (mv mv' : List (Share d)) → a *ᵛ b ≡ one_value → Fits s → r ≡ image_of (neg_ℤ (pos 1)) b s → t ≡ r → mv' ≡ mv ++ t ∷ [] → IsCarried a (neg_ℤ (pos 1)) s mv r mv'
  step_back a b s r t mv mv' eb f er et emv = record {
    carries = record { is = λ c. carries c };
    lower = ap (λ (x : Share d). x.lower) er;
    number = ap (λ (x : Share d). length x.uppers) er ∙ length_map (λ x. constant b *ᵖ moved_polynomial (neg_ℤ (pos 1)) x) s.uppers;
    fits = λ f. subst Fits (sym er) (fits_image (neg_ℤ (pos 1)) b s f);
    sized = λ n e z. subst (Sized n) (sym emv) (sized_end n mv t (ap (λ (x : Share d). length x.uppers) (et ∙ er) ∙ length_map (λ x. constant b *ᵖ moved_polynomial (neg_ℤ (pos 1)) x) s.uppers ∙ e) z);
    lowers = λ z. subst HasLowers (sym emv) (each_end (λ (x : Share d). ¬ (x.lower ≡ zero_polynomial)) mv t z (fits_some t (subst Fits (sym et) r_fits)));
  }
    where
      r_fits : Fits r
      r_fits = subst Fits (sym er) (fits_image (neg_ℤ (pos 1)) b s f)

      again : forward a r ≡ s
      again = ap (forward a) er ∙ forward_back a b eb s

      carries : (c : ℕ → Value d) → sum_at c (s ∷ []) +ᵛ difference a (sum_at c mv) ≡ sum_at c (r ∷ []) +ᵛ difference a (sum_at c mv')
      carries c = balance_back (constant_value d a) (term c s) (term c r) (shift_value d (term c r)) (sum_at c mv) (shift_value d (sum_at c mv)) (sum_at c mv') (shift_value d (sum_at c mv'))
          (ap (term c) (sym again) ∙ term-forward a c r (fits_some r r_fits))
          (ap (sum_at c) emv ∙ noted c mv t ∙ ap (λ (x : Share d). sum_at c mv +ᵛ term c x) et)
          (ap (λ z. shift_value d (sum_at c z)) emv ∙ shift-noted c mv t ∙ ap (λ (x : Share d). shift_value d (sum_at c mv) +ᵛ shift_value d (term c x)) et)

module _ {K : Type 0} {d : ℕ} (v : K → Value d) where
  pub shares_push : (xs new : List (Given K)) (x : Given K) → new ≡ xs ++ x ∷ [] → shares v new ≡ shares v xs ++ share v x ∷ []
  shares_push xs new x e = ap (shares v) e ∙ at xs
    where
      at : (xs : List (Given K)) → shares v (xs ++ x ∷ []) ≡ shares v xs ++ share v x ∷ []
      at [] = refl
      at (y ∷ xs) = ap (λ z. share v y ∷ z) (at xs)

  pub carried_start : (a : Value d) (m : ℤ) (s r : Given K) (mv mv' : List (Given K)) → m ≡ pos 0 → r ≡ s → mv' ≡ mv → IsCarried a m (share v s) (shares v mv) (share v r) (shares v mv')
  carried_start a m s r mv mv' e er em = subst (λ (z : List (Given K)). IsCarried a m (share v s) (shares v mv) (share v r) (shares v z)) (sym em)
      (subst (λ (z : Given K). IsCarried a m (share v s) (shares v mv) (share v z) (shares v mv)) (sym er) (carried_none a m (share v s) (shares v mv) e))

module _ {d : ℕ} where
  pub back_more : (a : Value d) (n : ℕ) (s r t : Share d) (mv mv' mv'' : List (Share d)) → IsCarried a (neg_ℤ (pos n)) s mv r mv' → IsCarried a (neg_ℤ (pos 1)) r mv' t mv'' → IsCarried a (neg_ℤ (pos (n + 1))) s mv t mv''
  back_more a n s r t mv mv' mv'' h k = carried_on a (neg_ℤ (pos n)) (neg_ℤ (pos 1)) (neg_ℤ (pos (n + 1))) s r t mv mv' mv'' (λ x. subst (λ (i : ℕ). moved_polynomial (neg_ℤ (pos 1)) (moved_polynomial (neg_ℤ (pos n)) x) ≡ moved_polynomial (neg_ℤ (pos i)) x) {x = suc n} {y = n + 1} (omega arith) (one_less n x)) h k

  pub forward_more : (a : Value d) (n : ℕ) (s r t : Share d) (mv mv' mv'' : List (Share d)) → IsCarried a (pos n) s mv r mv' → IsCarried a (pos 1) r mv' t mv'' → IsCarried a (pos (n + 1)) s mv t mv''
  forward_more a n s r t mv mv' mv'' h k = carried_on a (pos n) (pos 1) (pos (n + 1)) s r t mv mv' mv'' (λ x. subst (λ (i : ℕ). moved_polynomial (pos 1) (moved_polynomial (pos n) x) ≡ moved_polynomial (pos i) x) {x = suc n} {y = n + 1} (omega arith) (one_more n x)) h k
