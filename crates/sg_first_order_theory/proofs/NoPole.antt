-- Where neither a nor any of the right sides has a pole at x, x + 1, .., no solution g has one there.
--   further, no_root    where q divides b(k) q(k+1), and b has no root at x, x + 1, .., then q has none there: each root of q is followed by the next
--   Free x q            the polynomial with the coefficients q has no root at x, x + 1, ..
--   FreeFrom x v        v is a quotient of polynomials whose denominator is so
--   free_sum, free_product, free_constant, free_weighted    sums and products of such values
--   lowest_free         the denominator of such a value in lowest terms is so
--   solution_free       a solution of a g(k+1) - g(k) = c_0 f_0(k) + .. is such a value, where a and all f are
--   no_pole             so its denominator in lowest terms, whatever the numerator, has no root at x, x + 1, ..
--   basis_free          the values of a basis of the solutions are such values
--   free_from, free_at  over the fractions: no whole number from s on is a root
use Rattle.std.proofs.Common.{◌≡◌, ℕ, zero, suc, ◌+◌, refl, sym, ◌∙◌, ap, ap₂, List, [], ◌∷◌, ℤ, pos, ◌+ℤ◌, ◌-ℤ◌, ◌≤ℤ◌, unsigned_abs, arith}
use Rattle.std.proofs.lemmas.Int.{ints}
use Rattle.sg_algebra.specs.Ring.{Field}
use Rattle.sg_algebra.specs.Coefficients.{Each, eval, poly_mul, zip_longest}
use Rattle.sg_algebra.proofs.Ring.{nat, nat-add, O_add}
use Rattle.sg_algebra.proofs.Solver.{ring, by, scale, reads}
use Rattle.sg_algebra.proofs.Field.{product_ne, domain}
use Rattle.sg_algebra.proofs.Divides.{Divides}
use Rattle.sg_algebra.proofs.Coprime.{Coprime, coprime_symm, gauss}
use Rattle.sg_algebra.proofs.PolynomialRing.{PolyR}
use Rattle.sg_algebra.proofs.Evaluation.{eval-mul, eval_cong}
use Rattle.sg_algebra.proofs.Shift.{shiftH, iter-shift, moved, movedH, moved_cong, moved-eval, moved-back}
use Rattle.sg_algebra.proofs.Value.{Value, over_value, zero_value, one_value, neg_value, ◌+ᵛ◌, ◌*ᵛ◌, ◌/ᵛ◌}
use Rattle.sg_algebra.proofs.ValueField.{ValueR, ValueF, value_quotient, value_product, value_one_ne}
use Rattle.sg_algebra.proofs.OverValue.{over_value-add, over_value-mul, over_value-zero, same_over_value}
use Rattle.sg_algebra.proofs.Embedding.{constant_value, polynomial_value, polynomial_value_same, polynomial_value-zero, over_value-quotient}
use Rattle.sg_algebra.proofs.Lists.{each_to}
use Rattle.sg_algebra.proofs.Rational.{whole_value}
use Rattle.sg_algebra.proofs.Polynomial.{Polynomial, PolynomialR, PolynomialD, ListR, poly, poly_cong, poly-mul, coefficient, ◌*ᵖ◌}
use Rattle.sg_num.specs.Roots.{IsRoot}
use Rattle.sg_num.proofs.WholeSteps.{whole_value-add}
use Rattle.sg_dispersion_theory.proofs.Listed.{poly_dvd}
use Rattle.sg_algebra.proofs.ShiftValue.{shift_value}
use Rattle.sg_first_order_theory.specs.Solutions.{weighted_value, Solves, Pair, IsBasis}
use Rattle.sg_first_order_theory.proofs.NonRoot.{NonRoot, nonroot}
use Rattle.sg_first_order_theory.proofs.Terminal.{Sides}
use Rattle.sg_first_order_theory.proofs.Next.{next, nextH, next-poly, value_char}
use Rattle.sg_first_order_theory.proofs.Fractions.{solution_sides, Solves as SolvesIn}
use Rattle.sg_first_order_theory.proofs.ValueFractions.{whole, whole-poly, whole-mul, value_fractions, numerator, denominator, parts_value, bez, below_ne}

module _ (F : Field) (char : (n : ℕ) → ¬ (F.R.◌≈◌ (nat F.R (suc n)) F.R.O)) where
  open F use {R, is_zero}
  open R use {A, ◌≈◌, ◌⊞◌, ◌⊠◌, ⊟, O, I, rfl, symm, trans, add_cong, mul_cong}
  open PolyR R use {◌≈◌ as ◌≋◌, ◌⊠◌ as ◌⊗◌}

  module _ (b q : List A) (d : Divides (PolyR R) q (b ⊗ moved R I q)) where
    further : (y : A) → ¬ (eval R b y ≈ O) → eval R q y ≈ O → eval R q (y ⊞ I) ≈ O
    further y ne z = go (is_zero (eval R q (y ⊞ I)))
      where
        both : eval R b y ⊠ eval R q (y ⊞ I) ≈ O
        both = trans (mul_cong (rfl {x = eval R b y}) (symm (moved-eval R I y q))) (trans (symm (eval-mul R b (moved R I q) y))
            (trans (eval_cong R (b ⊗ moved R I q) (q ⊗ d.cofactor) y y d.is rfl) (trans (eval-mul R q d.cofactor y) (by R (eval R q y ∷ eval R d.cofactor y ∷ []) (scale R (eval R d.cofactor y) z) (search reads depth 16) refl))))

        go : Dec (eval R q (y ⊞ I) ≈ O) → eval R q (y ⊞ I) ≈ O
        go (yes h) = h
        go (no h) = absurd (product_ne (domain F) ne h both)

    -- b has no root from x on
    pub no_root : ¬ (q ≋ []) → (x : A) → ((n : ℕ) → ¬ (eval R b (x ⊞ nat R n) ≈ O)) → (n : ℕ) → ¬ (eval R q (x ⊞ nat R n) ≈ O)
    no_root some x free n z = absurd_at (nonroot F char (moved R (x ⊞ nat R n) q) moved_some)
      where
        later : (m : ℕ) → eval R q (x ⊞ nat R n ⊞ nat R m) ≈ O
        later zero = trans (eval_cong R q q (x ⊞ nat R n ⊞ O) (x ⊞ nat R n) (PolyR R).rfl R.add_O) z
        later (suc m) = trans (eval_cong R q q (x ⊞ nat R n ⊞ nat R (suc m)) (x ⊞ nat R n ⊞ nat R m ⊞ I) (PolyR R).rfl (ring R (x ∷ nat R n ∷ nat R m ∷ []) (search reads depth 16) refl))
            (further (x ⊞ nat R n ⊞ nat R m) (λ e. free (n + m) (trans (eval_cong R b b (x ⊞ nat R (n + m)) (x ⊞ nat R n ⊞ nat R m) (PolyR R).rfl (trans (add_cong (rfl {x = x}) (nat-add R n m)) (symm R.add_assoc))) e)) (later m))

        moved_some : ¬ (moved R (x ⊞ nat R n) q ≋ [])
        moved_some e = some ((PolyR R).trans ((PolyR R).symm (moved-back R (x ⊞ nat R n) q)) ((movedH R (⊟ (x ⊞ nat R n))).on_cong (moved R (x ⊞ nat R n) q) [] e))

        absurd_at : NonRoot F char (moved R (x ⊞ nat R n) q) → ⊥
        absurd_at r = r.ne (trans (moved-eval R (x ⊞ nat R n) (nat R r.n) q) (trans (eval_cong R q q (nat R r.n ⊞ (x ⊞ nat R n)) (x ⊞ nat R n ⊞ nat R r.n) (PolyR R).rfl R.add_comm) (later r.n)))

module _ {d : ℕ} (x : Value d) where
  abbrev pub Free : List (Value d) → Type 0
  Free q = (n : ℕ) → ¬ (eval (ValueR d) q (x +ᵛ nat (ValueR d) n) ≡ zero_value)

  pub record FreeFrom (v : Value (suc d)) : Type 0 where
    pub upper : List (Value d)
    pub lower : List (Value d)
    pub free : Free lower
    pub is : v ≡ over_value upper lower

  free_some : (q : List (Value d)) → Free q → ¬ ((ListR d).◌≈◌ q [])
  free_some q f z = f 0 (eval_cong (ValueR d) q [] (x +ᵛ nat (ValueR d) 0) (x +ᵛ nat (ValueR d) 0) z refl)

  free_mul : (p q : List (Value d)) → Free p → Free q → Free (poly_mul (ValueR d) p q)
  free_mul p q f h n z = product_ne (domain (ValueF d)) (f n) (h n) (sym (eval-mul (ValueR d) p q (x +ᵛ nat (ValueR d) n)) ∙ z)

  pub free_sum : (u w : Value (suc d)) → FreeFrom u → FreeFrom w → FreeFrom (u +ᵛ w)
  free_sum u w f h = record {
    upper = zip_longest ◌+ᵛ◌ (poly_mul (ValueR d) f.upper h.lower) (poly_mul (ValueR d) h.upper f.lower);
    lower = poly_mul (ValueR d) f.lower h.lower;
    free = free_mul f.lower h.lower f.free h.free;
    is = ap₂ ◌+ᵛ◌ f.is h.is ∙ sym (over_value-add d f.upper f.lower h.upper h.lower (free_some f.lower f.free) (free_some h.lower h.free));
  }

  pub free_product : (u w : Value (suc d)) → FreeFrom u → FreeFrom w → FreeFrom (u *ᵛ w)
  free_product u w f h = record {
    upper = poly_mul (ValueR d) f.upper h.upper;
    lower = poly_mul (ValueR d) f.lower h.lower;
    free = free_mul f.lower h.lower f.free h.free;
    is = ap₂ ◌*ᵛ◌ f.is h.is ∙ sym (over_value-mul d f.upper f.lower h.upper h.lower (free_some f.lower f.free) (free_some h.lower h.free));
  }

  free_one : Free (one_value ∷ [])
  free_one n z = value_one_ne d (sym (ring (ValueR d) (x ∷ nat (ValueR d) n ∷ []) (search reads depth 16) refl) ∙ z)

  pub free_polynomial : (p : List (Value d)) → FreeFrom (polynomial_value d p)
  free_polynomial p = record { upper = p; lower = one_value ∷ []; free = free_one; is = refl }

  pub free_constant : (c : Value d) → FreeFrom (constant_value d c)
  free_constant c = free_polynomial (c ∷ [])

  free_zero : FreeFrom zero_value
  free_zero = record { upper = []; lower = one_value ∷ []; free = free_one; is = sym (over_value-zero d (one_value ∷ []) (free_some (one_value ∷ []) free_one)) }

  pub free_weighted : (c : ℕ → Value d) (fs : List (Value (suc d))) → Each FreeFrom fs → FreeFrom (weighted_value c fs)
  free_weighted c [] h = free_zero
  free_weighted c (f ∷ fs) h = free_sum (constant_value d (c 0) *ᵛ f) (weighted_value (λ i. c (suc i)) fs) (free_product (constant_value d (c 0)) f (free_constant (c 0)) h.0) (free_weighted (λ i. c (suc i)) fs h.1)

  -- the denominator in lowest terms
  pub lowest_free : (v : Value (suc d)) (p q : List (Value d)) → FreeFrom v → v ≡ over_value p q → ¬ ((ListR d).◌≈◌ q []) → Coprime (ListR d) p q → Free q
  lowest_free v p q f e some c n z = f.free n (
      eval_cong (ValueR d) f.lower (poly_mul (ValueR d) q divides.cofactor) (x +ᵛ nat (ValueR d) n) (x +ᵛ nat (ValueR d) n) divides.is refl
      ∙ eval-mul (ValueR d) q divides.cofactor (x +ᵛ nat (ValueR d) n)
      ∙ by (ValueR d) (eval (ValueR d) q (x +ᵛ nat (ValueR d) n) ∷ eval (ValueR d) divides.cofactor (x +ᵛ nat (ValueR d) n) ∷ []) (scale (ValueR d) (eval (ValueR d) divides.cofactor (x +ᵛ nat (ValueR d) n)) z) (search reads depth 16) refl)
    where
      -- q divides p times the other denominator
      divides : Divides (ListR d) q f.lower
      divides = gauss (ListR d) q p f.lower (coprime_symm (ListR d) p q c)
          (record { cofactor = f.upper; is = (ListR d).trans (same_over_value d p q f.upper f.lower some (free_some f.lower f.free) (sym e ∙ f.is)) ((ListR d).mul_comm {x = f.upper} {y = q}) })

  cleared : (v : Value (suc d)) (f : FreeFrom v) → v *ᵛ whole (poly f.lower) ≡ whole (poly f.upper)
  cleared v f = ap₂ ◌*ᵛ◌ (f.is ∙ over_value-quotient d f.upper f.lower (free_some f.lower f.free)) (whole-poly f.lower)
      ∙ value_product (polynomial_value d f.upper) (polynomial_value d f.lower) (λ z. free_some f.lower f.free (polynomial_value_same d f.lower [] (z ∙ sym (polynomial_value-zero d)))) ∙ sym (whole-poly f.upper)

  lower_free : (a : Value (suc d)) (fs : List (Value (suc d))) (c : ℕ → Value d) (g : Value (suc d)) → FreeFrom a → Each FreeFrom fs → Solves a fs c g → Free (bez d g).t
  lower_free a fs c g free_a free_fs h = no_root (ValueF d) (value_char d) lower t divides (below_ne d g) x (free_mul free_a.lower w.lower free_a.free w.free)
    where
      w : FreeFrom (weighted_value c fs)
      w = free_weighted c fs free_fs

      lower : List (Value d)
      lower = poly_mul (ValueR d) free_a.lower w.lower

      t : List (Value d)
      t = (bez d g).t

      A : Polynomial d
      A = poly free_a.upper *ᵖ poly w.lower

      B : Polynomial d
      B = poly free_a.lower *ᵖ poly w.lower

      C : Polynomial d
      C = poly w.upper *ᵖ poly free_a.lower

      solves : SolvesIn (PolynomialD d) (nextH d) (ValueF (suc d)) (value_fractions d) A B (whole C) g
      solves = by (ValueR (suc d)) (a ∷ g ∷ shift_value d g ∷ weighted_value c fs ∷ whole (poly free_a.upper) ∷ whole (poly free_a.lower) ∷ whole (poly w.upper) ∷ whole (poly w.lower) ∷ whole A ∷ whole B ∷ whole C ∷ [])
          ((ValueR (suc d)).add_cong (scale (ValueR (suc d)) (shift_value d g) (whole-mul (poly free_a.upper) (poly w.lower)))
          ((ValueR (suc d)).add_cong (scale (ValueR (suc d)) (neg_value g) (whole-mul (poly free_a.lower) (poly w.lower)))
          ((ValueR (suc d)).add_cong (scale (ValueR (suc d)) (neg_value (shift_value d g *ᵛ whole (poly w.lower))) (cleared a free_a))
          ((ValueR (suc d)).add_cong (scale (ValueR (suc d)) (whole (poly free_a.lower) *ᵛ whole (poly w.lower)) h)
          ((ValueR (suc d)).add_cong (scale (ValueR (suc d)) (whole (poly free_a.lower)) (cleared (weighted_value c fs) w)) ((ValueR (suc d)).symm (whole-mul (poly w.upper) (poly free_a.lower)))))))) (search reads depth 28 fits 9000) refl

      sides : Sides (PolynomialR d) (nextH d) A B (denominator d g)
      sides = solution_sides (PolynomialD d) (nextH d) (ValueF (suc d)) (value_fractions d) A B C g solves

      step : (ListR d).◌≈◌ ((shiftH (ValueR d)).on t) (moved (ValueR d) one_value t)
      step = (ListR d).trans (iter-shift (ValueR d) 1 t) (moved_cong (ValueR d) (nat (ValueR d) 1) one_value t t (O_add (ValueR d)) (ListR d).rfl)

      right : B *ᵖ next (poly t) ≡ poly (poly_mul (ValueR d) lower (moved (ValueR d) one_value t))
      right = ap₂ ◌*ᵖ◌ (sym (poly-mul free_a.lower w.lower)) (next-poly t ∙ poly_cong step) ∙ sym (poly-mul lower (moved (ValueR d) one_value t))

      divides : Divides (ListR d) t (poly_mul (ValueR d) lower (moved (ValueR d) one_value t))
      divides = poly_dvd t (poly_mul (ValueR d) lower (moved (ValueR d) one_value t)) (record { cofactor = sides.lower.cofactor; is = sym right ∙ sides.lower.is })

  pub solution_free : (a : Value (suc d)) (fs : List (Value (suc d))) (c : ℕ → Value d) (g : Value (suc d)) → FreeFrom a → Each FreeFrom fs → Solves a fs c g → FreeFrom g
  solution_free a fs c g free_a free_fs h = record {
    upper = (bez d g).s;
    lower = (bez d g).t;
    free = lower_free a fs c g free_a free_fs h;
    is = value_quotient (whole (numerator d g)) (whole (denominator d g)) g (λ z. below_ne d g (polynomial_value_same d (bez d g).t [] (sym (whole-poly (bez d g).t) ∙ z ∙ sym (polynomial_value-zero d)))) (parts_value d g)
        ∙ ap₂ (λ u w. u /ᵛ w) (whole-poly (bez d g).s) (whole-poly (bez d g).t) ∙ sym (over_value-quotient d (bez d g).s (bez d g).t (below_ne d g));
  }

  pub no_pole : (a : Value (suc d)) (fs : List (Value (suc d))) (c : ℕ → Value d) (g : Value (suc d)) → FreeFrom a → Each FreeFrom fs → Solves a fs c g
      → (p q : List (Value d)) → g ≡ over_value p q → ¬ ((ListR d).◌≈◌ q []) → Coprime (ListR d) p q → Free q
  no_pole a fs c g free_a free_fs h p q e some k = lowest_free g p q (solution_free a fs c g free_a free_fs h) e some k

  pub basis_free : (a : Value (suc d)) (fs : List (Value (suc d))) (ps : List (Pair d)) → IsBasis a fs ps → FreeFrom a → Each FreeFrom fs → Each (λ p. FreeFrom p.value) ps
  basis_free a fs ps b free_a free_fs = each_to (λ p. Solves a fs (coefficient p.consts) p.value) (λ p. FreeFrom p.value) ps (λ p h. solution_free a fs (coefficient p.consts) p.value free_a free_fs h) b.solves

-- ---- Over the fractions

pub free_from : (q : List (Value 0)) (s : ℤ) → ((m : ℤ) → s ≤ℤ m → ¬ IsRoot q m) → Free (whole_value 0 s) q
free_from q s h n z = h (s +ℤ pos n) (omega (arith, ints)) (ap (eval (ValueR 0) q) (whole_value-add s (pos n)) ∙ z)

pub free_at : (q : List (Value 0)) (s : ℤ) → Free (whole_value 0 s) q → (m : ℤ) → s ≤ℤ m → ¬ IsRoot q m
free_at q s f m l z = f (unsigned_abs (m -ℤ s)) (ap (eval (ValueR 0) q) (sym (whole_value-add s (pos (unsigned_abs (m -ℤ s)))) ∙ ap (whole_value 0) there) ∙ z)
  where
    there : s +ℤ pos (unsigned_abs (m -ℤ s)) ≡ m
    there = omega (arith, ints)
