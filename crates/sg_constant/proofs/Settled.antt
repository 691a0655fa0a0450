-- Shares settled one after the other.
--   settles_both          a share split in two that are settled one after the other
--   settles_add           a share added to the list
--   peels_none, peels_part, peels_on, peels_settles    a part split off, several, and in the end what is left is settled
--   settles_join          a share moved and joined with one of the list
use Rattle.std.proofs.Common.{◌≡◌, ℕ, zero, suc, ◌<◌, refl, sym, ◌∙◌, ap, subst, List, [], ◌∷◌, ◌++◌, length, get_or, map, ℤ, neg_ℤ, arith}
use Rattle.std.specs.List.{remove}
use Rattle.sg_algebra.specs.Coefficients.{Each}
use Rattle.sg_algebra.proofs.Lists.{length_map}
use Rattle.sg_algebra.proofs.Ring.{pow}
use Rattle.sg_algebra.proofs.Divides.{Divides, dvd_refl, dvd_same, dvd_trans, dvd-mul}
use Rattle.sg_algebra.proofs.Solver.{by, reads}
use Rattle.sg_algebra.proofs.Value.{Value, ◌+ᵛ◌}
use Rattle.sg_algebra.proofs.ValueField.{ValueR}
use Rattle.sg_algebra.proofs.Polynomial.{Polynomial, PolynomialR, poly, ◌*ᵖ◌}
use Rattle.sg_first_order_theory.proofs.Next.{moved_polynomial}
use Rattle.sg_reduction_theory.proofs.Moves.{Share, sum_at, difference}
use Rattle.sg_reduction_theory.proofs.Spanning.{Sized}
use Rattle.sg_reduction_theory.proofs.Steps.{term}
use Rattle.sg_reduction_theory.proofs.Settling.{carries_refl, carries_trans}
use Rattle.sg_reduction_theory.proofs.Places.{Fits, Good, fits_some, good_add, good_put, carried_both, carried_add, carried_join}
use Rattle.sg_constant.specs.Shares.{polys, share, shares, lower_at, HasLowers, IsSplit, IsFree, IsJoint, IsCarried, IsJoined, Settles, Peels}
use Rattle.sg_constant.specs.declared.shares.Share.{Share as Given}

module _ {d : ℕ} where
  pub settles_both : (a : Value d) (s t r : Share d) (ss mv ss' mv' ss'' mv'' : List (Share d)) → IsSplit s t r → Settles a t ss mv ss' mv' → Settles a r ss' mv' ss'' mv'' → Settles a s ss mv ss'' mv''
  settles_both a s t r ss mv ss' mv' ss'' mv'' h k j = record {
    good = λ x. subst (λ (n : ℕ). Good n ss'') h.second (j.good (subst (λ (n : ℕ). Good n ss') (h.first ∙ sym h.second) (k.good (subst (λ (n : ℕ). Good n ss) (sym h.first) x))));
    sized = λ x. subst (λ (n : ℕ). Sized n mv'') h.second (j.sized (subst (λ (n : ℕ). Sized n mv') (h.first ∙ sym h.second) (k.sized (subst (λ (n : ℕ). Sized n mv) (sym h.first) x))));
    lowers = λ x. j.lowers (k.lowers x);
    carries = carried_both a s t r ss mv ss' mv' ss'' mv'' h.is k.carries j.carries;
  }

  pub settles_add : (a : Value d) (s : Share d) (ss mv : List (Share d)) → Fits s → IsFree s.lower ss → Settles a s ss mv (ss ++ s ∷ []) mv
  settles_add a s ss mv f h = record {
    good = λ x. good_add (length s.uppers) ss s x f refl h.own h.others;
    sized = λ x. x;
    lowers = λ x. x;
    carries = carried_add a s ss mv;
  }

  pub good_after : (a : Value d) (s t r : Share d) (ss mv ss' mv' : List (Share d)) → IsSplit s t r → Good (length s.uppers) ss → Settles a t ss mv ss' mv' → Good (length r.uppers) ss'
  good_after a s t r ss mv ss' mv' h g k = subst (λ (n : ℕ). Good n ss') (h.first ∙ sym h.second) (k.good (subst (λ (n : ℕ). Good n ss) (sym h.first) g))

  pub good_first : (s t r : Share d) (ss : List (Share d)) → IsSplit s t r → Good (length s.uppers) ss → Good (length t.uppers) ss
  good_first s t r ss h g = subst (λ (n : ℕ). Good n ss) (sym h.first) g

  -- ---- A part split off

  pub peels_none : (a : Value d) (s : Share d) (ss mv : List (Share d)) → Peels a s ss mv s ss mv
  peels_none a s ss mv = record { good = λ x. x; sized = λ x. x; lowers = λ x. x; carries = carries_refl a (s ∷ ss) mv; fits = λ f. f; number = refl }

  balance : (T U R S D S' D' : Value (suc d)) → T ≡ U +ᵛ R → U +ᵛ S +ᵛ D ≡ S' +ᵛ D' → T +ᵛ S +ᵛ D ≡ R +ᵛ S' +ᵛ D'
  balance T U R S D S' D' h k = by (ValueR (suc d)) (T ∷ U ∷ R ∷ S ∷ D ∷ S' ∷ D' ∷ []) ((ValueR (suc d)).add_cong h k) (search reads depth 24 fits 6000) refl

  pub peels_part : (a : Value d) (s t r : Share d) (ss mv ss' mv' : List (Share d)) → IsSplit s t r → Settles a t ss mv ss' mv' → Peels a s ss mv r ss' mv'
  peels_part a s t r ss mv ss' mv' h k = record {
    good = λ x. subst (λ (n : ℕ). Good n ss') h.first (k.good (subst (λ (n : ℕ). Good n ss) (sym h.first) x));
    sized = λ x. subst (λ (n : ℕ). Sized n mv') h.first (k.sized (subst (λ (n : ℕ). Sized n mv) (sym h.first) x));
    lowers = k.lowers;
    carries = record { is = λ c. balance (term c s) (term c t) (term c r) (sum_at c ss) (difference a (sum_at c mv)) (sum_at c ss') (difference a (sum_at c mv')) (h.is c) (k.carries.is c) };
    fits = λ f. (h.fits f).1;
    number = h.second;
  }

  pub peels_on : (a : Value d) (s r t : Share d) (ss mv ss' mv' ss'' mv'' : List (Share d)) → Peels a s ss mv r ss' mv' → Peels a r ss' mv' t ss'' mv'' → Peels a s ss mv t ss'' mv''
  peels_on a s r t ss mv ss' mv' ss'' mv'' h k = record {
    good = λ x. subst (λ (n : ℕ). Good n ss'') h.number (k.good (subst (λ (n : ℕ). Good n ss') (sym h.number) (h.good x)));
    sized = λ x. subst (λ (n : ℕ). Sized n mv'') h.number (k.sized (subst (λ (n : ℕ). Sized n mv') (sym h.number) (h.sized x)));
    lowers = λ x. k.lowers (h.lowers x);
    carries = carries_trans a (s ∷ ss) mv (r ∷ ss') mv' (t ∷ ss'') mv'' h.carries k.carries;
    fits = λ f. k.fits (h.fits f);
    number = k.number ∙ h.number;
  }

  pub peels_good : (a : Value d) (s r : Share d) (ss mv ss' mv' : List (Share d)) → Peels a s ss mv r ss' mv' → Good (length s.uppers) ss → Good (length r.uppers) ss'
  peels_good a s r ss mv ss' mv' h g = subst (λ (n : ℕ). Good n ss') (sym h.number) (h.good g)

  pub peels_settles : (a : Value d) (s r : Share d) (ss mv ss' mv' ss'' mv'' : List (Share d)) → Peels a s ss mv r ss' mv' → Settles a r ss' mv' ss'' mv'' → Settles a s ss mv ss'' mv''
  peels_settles a s r ss mv ss' mv' ss'' mv'' h k = record {
    good = λ x. subst (λ (n : ℕ). Good n ss'') h.number (k.good (subst (λ (n : ℕ). Good n ss') (sym h.number) (h.good x)));
    sized = λ x. subst (λ (n : ℕ). Sized n mv'') h.number (k.sized (subst (λ (n : ℕ). Sized n mv') (sym h.number) (h.sized x)));
    lowers = λ x. k.lowers (h.lowers x);
    carries = carries_trans a (s ∷ ss) mv (r ∷ ss') mv' ss'' mv'' h.carries k.carries;
  }

  -- ---- Places in the list

  good_at : (n : ℕ) (ss : List (Share d)) (i : ℕ) (u : Share d) → i < length ss → u ≡ get_or ss i u → Each Fits ss → Fits u
  good_at n [] i u l e h = absurd (omega arith)
  good_at n (s ∷ ss) zero u l e h = subst Fits (sym e) h.0
  good_at n (s ∷ ss) (suc i) u l e h = good_at n ss i u (omega arith) e h.1

  sized_at : (n : ℕ) (ss : List (Share d)) (i : ℕ) (u : Share d) → i < length ss → u ≡ get_or ss i u → Sized n ss → length u.uppers ≡ n
  sized_at n [] i u l e h = absurd (omega arith)
  sized_at n (s ∷ ss) zero u l e h = ap (λ (x : Share d). length x.uppers) e ∙ h.0
  sized_at n (s ∷ ss) (suc i) u l e h = sized_at n ss i u (omega arith) e h.1

  pub fits_at : (n : ℕ) (ss : List (Share d)) (i : ℕ) (u : Share d) → Good n ss → i < length ss → u ≡ get_or ss i u → Fits u
  fits_at n ss i u g l e = good_at n ss i u l e g.fits

  pub number_at : (n : ℕ) (ss : List (Share d)) (i : ℕ) (u : Share d) → Good n ss → i < length ss → u ≡ get_or ss i u → length u.uppers ≡ n
  number_at n ss i u g l e = sized_at n ss i u l e g.sized

  -- the sum over a divisor of the product divides a power too
  power_more : (v w l : Polynomial d) (n : ℕ) → Divides (PolynomialR d) w (pow (PolynomialR d) v n) → Divides (PolynomialR d) l (v *ᵖ w) → Divides (PolynomialR d) l (pow (PolynomialR d) v (suc n))
  power_more v w l n h k = dvd_trans (PolynomialR d) l (v *ᵖ w) (pow (PolynomialR d) v (suc n)) k
      (dvd_same (PolynomialR d) (w *ᵖ v) (pow (PolynomialR d) v (suc n)) (v *ᵖ w) (pow (PolynomialR d) v (suc n)) ((PolynomialR d).mul_comm {x = w} {y = v}) refl (dvd-mul (PolynomialR d) w v (pow (PolynomialR d) v n) v h (dvd_refl (PolynomialR d) v)))

  pub settles_join : (a : Value d) (m : ℤ) (s t u l : Share d) (ss mv mv' : List (Share d)) (i : ℕ) → Fits s → i < length ss → u ≡ get_or ss i u → Good (length s.uppers) ss → IsJoint s.lower u.lower m → IsCarried a (neg_ℤ m) s mv t mv' → IsJoined u t l
      → Settles a s ss mv (remove ss i ++ l ∷ []) mv'
  settles_join a m s t u l ss mv mv' i f b e g j k h = record {
    good = λ x. good_put (length s.uppers) ss i (suc j.n) u l x b e (h.fits (fits_at (length s.uppers) ss i u x b e) (k.fits f)) (h.number ∙ number_at (length s.uppers) ss i u x b e)
        (power_more u.lower t.lower l.lower j.n (dvd_same (PolynomialR d) (moved_polynomial (neg_ℤ m) s.lower) (pow (PolynomialR d) u.lower j.n) t.lower (pow (PolynomialR d) u.lower j.n) (sym k.lower) refl j.is) h.lower);
    sized = λ z. k.sized (length s.uppers) refl z;
    lowers = k.lowers;
    carries = carried_join a s t u l ss mv mv' i b e k.carries h.is;
  }

  pub good_lowers : (ss : List (Share d)) → Each Fits ss → HasLowers ss
  good_lowers [] h = tt
  good_lowers (s ∷ ss) h = (fits_some s h.0, good_lowers ss h.1)

module _ {K : Type 0} {d : ℕ} (v : K → Value d) where
  pub share_at : (list : List (Given K)) (i : ℕ) (u : Given K) → i < length list → u ≡ get_or list i u → share v u ≡ get_or (shares v list) i (share v u)
  share_at [] i u l e = absurd (omega arith)
  share_at (t ∷ list) zero u l e = ap (share v) e
  share_at (t ∷ list) (suc i) u l e = share_at list i u (omega arith) e

  pub share_inside : (list : List (Given K)) (i : ℕ) → i < length list → i < length (shares v list)
  share_inside list i l = subst (λ (n : ℕ). i < n) (sym (length_map (share v) list)) l

  pub lower_is : (list : List (Given K)) (i : ℕ) (u : Given K) → i < length list → u ≡ get_or list i u → lower_at list i ≡ u.lower
  lower_is [] i u l e = absurd (omega arith)
  lower_is (t ∷ list) zero u l e = ap (λ (x : Given K). x.lower) (sym e)
  lower_is (t ∷ list) (suc i) u l e = lower_is list i u (omega arith) e

  pub shares_removed : (list : List (Given K)) (i : ℕ) → shares v (remove list i) ≡ remove (shares v list) i
  shares_removed [] zero = refl
  shares_removed [] (suc i) = refl
  shares_removed (t ∷ list) zero = refl
  shares_removed (t ∷ list) (suc i) = ap (λ z. share v t ∷ z) (shares_removed list i)

  pub same_number : (u r s : Given K) → length (polys v u.uppers) ≡ length (polys v s.uppers) → length (polys v r.uppers) ≡ length (polys v s.uppers) → length u.uppers ≡ length r.uppers
  same_number u r s h k = sym (length_map (λ p. poly (map v p)) u.uppers) ∙ h ∙ sym k ∙ length_map (λ p. poly (map v p)) r.uppers
