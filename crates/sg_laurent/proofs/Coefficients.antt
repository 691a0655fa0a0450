-- The coefficients of lists of terms, and elements that are one term.
--   lift-is, constant_term    a value as an element is the term without products
--   coefficient_is, coefficient_none    the coefficient at the exponents of a term, and where there is no such term
--   zero_empty                a normal list stands for 0 only if it is empty
--   must, only_one            an element that is one term
--   unfit                     in another number of products it is 0
use Rattle.std.proofs.Common.{◌≡◌, ℕ, zero, suc, ◌<◌, refl, sym, ap, ap₂, ◌∙◌, subst, List, [], ◌∷◌, length, map, get_or, reverse, ℤ, pos, neg_ℤ, arith}
use Rattle.sg_algebra.specs.Ring.{Ring, Field}
use Rattle.sg_algebra.specs.Coefficients.{Each}
use Rattle.sg_algebra.proofs.Value.{Value, zero_value, one_value, neg_value, inv_value, ◌+ᵛ◌, ◌-ᵛ◌, ◌/ᵛ◌}
use Rattle.sg_algebra.proofs.ValueField.{ValueR, ValueF, value_add-zero, value_mul_comm, value_mul-one}
use Rattle.sg_algebra.proofs.Ring.{O_add, O_mul}
use Rattle.sg_algebra.proofs.Divides.{on-neg, on-O}
use Rattle.sg_tower_theory.proofs.Laurent.{constantsH}
use Rattle.sg_tower_theory.proofs.Products.{Exponents, listed, zeros, LaurentsD, LaurentsR, lift, coefficient, coefficient_cong, coefficient-add, coefficient-none}
use Rattle.sg_tower_theory.proofs.ProductSlices.{exponents_same, monomial, monomial-at, monomial-past}
use Rattle.sg_tower_theory.proofs.Monomials.{term-is, one_term, one_term-is, one_term-none, exponents_of}
use Rattle.sg_laurent.specs.declared.terms.Term.{Term}
use Rattle.sg_laurent.specs.Exponents.{unit_exponents}
use Rattle.sg_laurent.specs.Elements.{exponents, IsLater, IsDescending, Same, Sum, Difference, Product, element, term_in, zero_in, constant_in, coefficient_of, IsNormal, IsInverseTerm}
use Rattle.sg_laurent.proofs.Comparing.{after_irrefl}
use Rattle.sg_laurent.proofs.Gathering.{each_at}

pub zeros_listed : (n : ℕ) → unit_exponents n n ≡ listed n (zeros n)
zeros_listed zero = refl
zeros_listed (suc n) = ap (λ r. pos 0 ∷ r) (zeros_listed n)

pub lift-is : (F : Field) (n : ℕ) (c : F.R.A) → (LaurentsR F n).◌≈◌ (monomial F n (zeros n) c) ((lift F n).on c)
lift-is F zero c = F.R.rfl
lift-is F (suc n) c = (LaurentsR F (suc n)).trans (term-is (LaurentsD F n) (pos 0) (monomial F n (zeros n) c)) ((LaurentsR F (suc n)).trans (LaurentsR F (suc n)).mul_I
    ((constantsH (LaurentsD F n)).on_cong (monomial F n (zeros n) c) ((lift F n).on c) (lift-is F n c)))

pub later_ne : {K : Type 0} (s u : Term K) → IsLater s u → ¬ (exponents u ≡ exponents s)
later_ne s u h e = after_irrefl (reverse (exponents s)) (subst (λ (es : List ℤ). Rattle.sg_tower_theory.proofs.Flat.IsAfter (reverse (exponents s)) (reverse es)) e h)

module _ {K : Type 0} {d : ℕ} (v : K → Value d) (n : ℕ) where
  abbrev F : Field
  F = ValueF d

  abbrev S : Ring
  S = LaurentsR (ValueF d) n

  pub constant_term : (es : List ℤ) (c : Value d) → es ≡ unit_exponents n n → Same v n (one_term F n es c) (constant_in v n c)
  constant_term es c e = rw (e, zeros_listed n, one_term-is F n (zeros n) c) (lift-is F n c)

  pub term_at : (t : Term K) (e : Exponents n) → exponents t ≡ listed n e → coefficient F n e (term_in v n t) ≡ v t.coeff
  term_at t e h = rw (h, one_term-is F n e (v t.coeff)) (monomial-at F n e (v t.coeff))

  pub term_past : (t : Term K) (e : Exponents n) → length (exponents t) ≡ n → ¬ (exponents t ≡ listed n e) → coefficient F n e (term_in v n t) ≡ zero_value
  term_past t e l h = go (exponents_of F n (exponents t) l)
    where
      go : (z : Exponents n) × (exponents t ≡ listed n z) → coefficient F n e (term_in v n t) ≡ zero_value
      go r = rw (r.1, one_term-is F n r.0 (v t.coeff)) (monomial-past F n r.0 e (v t.coeff) (λ q. h (r.1 ∙ ap (listed n) (sym q))))

  pub coefficient_none : (ts : List (Term K)) (e : Exponents n) → Each (λ t. length (exponents t) ≡ n) ts → Each (λ t. ¬ (exponents t ≡ listed n e)) ts → coefficient F n e (element v n ts) ≡ zero_value
  coefficient_none [] e f h = coefficient-none F n e
  coefficient_none (t ∷ ts) e f h = coefficient-add F n e (term_in v n t) (element v n ts) ∙ ap₂ ◌+ᵛ◌ (term_past t e f.0 h.0) (coefficient_none ts e f.1 h.1) ∙ value_add-zero d zero_value

  others : (s : Term K) (e : Exponents n) (ts : List (Term K)) → exponents s ≡ listed n e → Each (IsLater s) ts → Each (λ t. ¬ (exponents t ≡ listed n e)) ts
  others s e [] q h = tt
  others s e (t ∷ ts) q h = ((λ k. later_ne s t h.0 (k ∙ sym q)), others s e ts q h.1)

  pub coefficient_is : (ts : List (Term K)) (i : ℕ) (t : Term K) (e : Exponents n) → i < length ts → t ≡ get_or ts i t → Each (λ t. length (exponents t) ≡ n) ts → IsDescending ts → exponents t ≡ listed n e → coefficient F n e (element v n ts) ≡ v t.coeff
  coefficient_is [] i t e l at f k h = absurd (omega arith)
  coefficient_is (s ∷ ts) zero t e l at f k h = coefficient-add F n e (term_in v n s) (element v n ts) ∙ ap₂ ◌+ᵛ◌ (term_at s e (ap exponents (sym at) ∙ h)) (coefficient_none ts e f.1 (others s e ts (ap exponents (sym at) ∙ h) k.0)) ∙ value_add-zero d (v s.coeff) ∙ ap (λ (u : Term K). v u.coeff) (sym at)
  coefficient_is (s ∷ ts) (suc i) t e l at f k h = coefficient-add F n e (term_in v n s) (element v n ts) ∙ ap₂ ◌+ᵛ◌ (term_past s e f.0 (λ q. later_ne s t (each_at (IsLater s) ts i t (omega arith) at k.0) (h ∙ sym q))) (coefficient_is ts i t e (omega arith) at f.1 k.1 h) ∙ O_add (ValueR d)

  -- ---- Elements that are one term, or none

  pub must : (ts : List (Term K)) (i : ℕ) (t : Term K) (e : Exponents n) (c : Value d) → i < length ts → t ≡ get_or ts i t → IsNormal v n ts → Same v n (element v n ts) (monomial F n e c) → exponents t ≡ listed n e
  must ts i t e c l at k h = go (exponents_of F n (exponents t) (each_at (λ t. length (exponents t) ≡ n) ts i t l at k.fit))
    where
      same : (z : Exponents n) → exponents t ≡ listed n z → Dec (z ≡ e) → exponents t ≡ listed n e
      same z q (yes p) = q ∙ ap (listed n) p
      same z q (no p) = absurd (each_at (λ t. ¬ (coefficient_of v t ≡ zero_value)) ts i t l at k.some
          (sym (coefficient_is ts i t z l at k.fit k.descending q) ∙ coefficient_cong F n z (element v n ts) (monomial F n e c) h ∙ monomial-past F n e z c p))

      go : (z : Exponents n) × (exponents t ≡ listed n z) → exponents t ≡ listed n e
      go r = same r.0 r.1 (exponents_same n r.0 e)

  pub zero_empty : (ts : List (Term K)) → IsNormal v n ts → Same v n (element v n ts) (zero_in v n) → ts ≡ []
  zero_empty [] k h = refl
  zero_empty (t ∷ ts) k h = absurd (go (exponents_of F n (exponents t) k.fit.0))
    where
      go : (z : Exponents n) × (exponents t ≡ listed n z) → ⊥
      go r = k.some.0 (sym (coefficient_is (t ∷ ts) 0 t r.0 (omega arith) refl k.fit k.descending r.1) ∙ coefficient_cong F n r.0 (element v n (t ∷ ts)) (zero_in v n) h ∙ coefficient-none F n r.0)

  pub only_one : (ts : List (Term K)) (e : Exponents n) (c : Value d) → 1 < length ts → IsNormal v n ts → ¬ Same v n (element v n ts) (monomial F n e c)
  only_one [] e c l k h = omega arith
  only_one (t ∷ []) e c l k h = omega arith
  only_one (t ∷ (u ∷ ts)) e c l k h = later_ne t u k.descending.0.0 (must (t ∷ (u ∷ ts)) 1 u e c (omega arith) refl k h ∙ sym (must (t ∷ (u ∷ ts)) 0 t e c (omega arith) refl k h))

  pub unfit : (m : ℕ) (ts : List (Term K)) → ¬ (m ≡ n) → Each (λ t. length (exponents t) ≡ m) ts → Same v n (zero_in v n) (element v n ts)
  unfit m [] h f = S.rfl
  unfit m (t ∷ ts) h f = S.symm (S.trans (S.add_cong (one_term-none F n (exponents t) (v t.coeff) (λ e. h (sym f.0 ∙ e))) (S.symm (unfit m ts h f.1))) S.add_O)

  -- ---- What the calls answer

  pub single : (t : Term K) (rs : List (Term K)) → Same v n (element v n rs) (Sum v n (zero_in v n) (term_in v n t)) → Same v n (element v n rs) (term_in v n t)
  single t rs h = S.trans h (O_add S)

  pub one_item : (ts : List (Term K)) (t : Term K) → length ts ≡ 1 → t ≡ get_or ts 0 t → Same v n (element v n ts) (term_in v n t)
  one_item [] t l e = absurd (omega (arith, l))
  one_item (s ∷ []) t l e = S.trans S.add_O (subst (λ (z : Term K). Same v n (term_in v n s) (term_in v n z)) (sym e) S.rfl)
  one_item (s ∷ (u ∷ ts)) t l e = absurd (omega (arith, l))

  pub more_is : (x r t : S.A) (xs : List (Term K)) → Same v n (element v n xs) x → Same v n r (Sum v n (element v n xs) t) → Same v n r (Sum v n x t)
  more_is x r t xs h q = S.trans q (S.add_cong h (S.rfl {x = t}))

  pub term_value : (r c : S.A) (t : Term K) → Same v n r (Sum v n (zero_in v n) (term_in v n t)) → Same v n (term_in v n t) c → Same v n r c
  term_value r c t q h = S.trans q (S.trans (O_add S) h)

  pub term_is : (t : Term K) (es : List ℤ) (c : Value d) → exponents t ≡ es → v t.coeff ≡ c → Same v n (term_in v n t) (one_term F n es c)
  term_is t es c e q = rw (e, q) S.rfl

  pub divided : (r o x : Value d) → o ≡ one_value → r ≡ o /ᵛ x → r ≡ inv_value x
  divided r o x e q = q ∙ ap (λ y. y /ᵛ x) e ∙ value_mul_comm d one_value (inv_value x) ∙ value_mul-one d (inv_value x)

  -- a sum, from two lists that are added one after the other
  pub sum_is : (x y a r : S.A) (xs ys : List (Term K)) → Same v n (element v n xs) x → Same v n (element v n ys) y → Same v n a (Sum v n (zero_in v n) (element v n xs)) → Same v n r (Sum v n a (element v n ys)) → Same v n r (Sum v n x y)
  sum_is x y a r xs ys h k p q = S.trans q (S.add_cong (S.trans p (S.trans (O_add S) h)) k)

  pub copy_value : (x r : S.A) (xs : List (Term K)) → Same v n (element v n xs) x → Same v n r (Sum v n (zero_in v n) (element v n xs)) → Same v n r x
  copy_value x r xs h p = S.trans p (S.trans (O_add S) h)

  minus_one : Same v n (constant_in v n (zero_value -ᵛ one_value)) (S.⊟ S.I)
  minus_one = S.trans ((lift F n).on_cong (zero_value -ᵛ one_value) (neg_value one_value) (O_add (ValueR d))) (S.trans (on-neg (ValueR d) S (lift F n) one_value) (S.neg_cong (lift F n).on-one))

  pub difference_is : (x y a r m : S.A) (c z o : Value d) (xs ys : List (Term K)) → Same v n (element v n xs) x → Same v n (element v n ys) y → Same v n a (Sum v n (zero_in v n) (element v n xs))
      → z ≡ zero_value → o ≡ one_value → c ≡ z -ᵛ o → Same v n m (constant_in v n c) → Same v n r (Sum v n a (Product v n m (element v n ys))) → Same v n r (Difference v n x y)
  difference_is x y a r m c z o xs ys h k p zz oo cc mm q = S.trans q (S.add_cong (S.trans p (S.trans (O_add S) h)) (S.trans (S.mul_cong (S.trans mm (rw (cc, zz, oo) minus_one)) k)
      (S.trans (Rattle.sg_algebra.proofs.Ring.neg_mul S {x = S.I} {y = y}) (S.neg_cong (Rattle.sg_algebra.proofs.Ring.I_mul S {x = y})))))

  pub scaled_is : (x r m : S.A) (c k : Value d) (xs : List (Term K)) → Same v n (element v n xs) x → k ≡ c → Same v n m (constant_in v n k) → Same v n r (Sum v n (zero_in v n) (Product v n m (element v n xs))) → Same v n r (Product v n (constant_in v n c) x)
  scaled_is x r m c k xs h e mm q = S.trans q (S.trans (O_add S) (S.mul_cong (rw e at mm) h))

  pub product_value : (x y r : S.A) (xs ys : List (Term K)) → Same v n (element v n xs) x → Same v n (element v n ys) y → Same v n r (Product v n (element v n xs) (element v n ys)) → Same v n r (Product v n x y)
  product_value x y r xs ys h k q = S.trans q (S.mul_cong h k)

  pub same_from : (x y e : S.A) → Same v n e (Difference v n x y) → Same v n e (zero_in v n) → Same v n y x
  same_from x y e h z = S.symm (Rattle.sg_algebra.proofs.Ring.eq_of_sub S {x = x} {y = y} (S.trans (S.symm h) z))

  pub same_to : (x y e : S.A) → Same v n e (Difference v n x y) → Same v n y x → Same v n e (zero_in v n)
  same_to x y e h q = S.trans h (S.trans (S.add_cong (S.symm q) (S.rfl {x = S.⊟ y})) S.add_neg)

  pub is_zero_from : (x : S.A) (ts : List (Term K)) → Same v n (element v n ts) x → length ts ≡ 0 → Same v n x (zero_in v n)
  is_zero_from x [] h l = S.symm h
  is_zero_from x (t ∷ ts) h l = absurd (omega (arith, l))

  pub is_zero_to : (x : S.A) (ts : List (Term K)) → Same v n (element v n ts) x → IsNormal v n ts → Same v n x (zero_in v n) → length ts ≡ 0
  is_zero_to x ts h k z = ap length (zero_empty ts k (S.trans h z))

  pub inverse_is : (x r : S.A) (ts : List (Term K)) (t s : Term K) → Same v n (element v n ts) x → IsNormal v n ts → length ts ≡ 1 → t ≡ get_or ts 0 t → exponents s ≡ map neg_ℤ (exponents t) → v s.coeff ≡ inv_value (v t.coeff)
      → Same v n r (Sum v n (zero_in v n) (term_in v n s)) → IsInverseTerm v n x r
  inverse_is x r ts t s h k l at e c q = record {
    exponents = exponents t;
    sized = each_at (λ t. length (exponents t) ≡ n) ts 0 t (omega (arith, l)) at k.fit;
    function = v t.coeff;
    nonzero = each_at (λ t. ¬ (coefficient_of v t ≡ zero_value)) ts 0 t (omega (arith, l)) at k.some;
    left = S.trans (S.symm h) (one_item ts t l at);
    right = S.trans q (S.trans (O_add S) (rw (e, c) S.rfl));
  }

  pub no_inverse : (x : S.A) (ts : List (Term K)) → Same v n (element v n ts) x → IsNormal v n ts → ¬ (length ts ≡ 1) → (y : S.A) → IsInverseTerm v n x y → ⊥
  no_inverse x ts h k l y p = go (exponents_of F n p.exponents p.sized)
    where
      left : (z : Exponents n) → p.exponents ≡ listed n z → Same v n (element v n ts) (monomial F n z p.function)
      left z e = S.trans h (S.trans p.left (rw (e, one_term-is F n z p.function) S.rfl))

      none : (ts : List (Term K)) → ¬ (length ts ≡ 1) → IsNormal v n ts → (z : Exponents n) → Same v n (element v n ts) (monomial F n z p.function) → ⊥
      none [] l k z q = p.nonzero (sym (monomial-at F n z p.function) ∙ sym (coefficient_cong F n z (zero_in v n) (monomial F n z p.function) q) ∙ coefficient-none F n z)
      none (t ∷ []) l k z q = l refl
      none (t ∷ (u ∷ ts)) l k z q = only_one (t ∷ (u ∷ ts)) z p.function (omega arith) k q

      go : (z : Exponents n) × (p.exponents ≡ listed n z) → ⊥
      go r = none ts l k r.0 (left r.0 r.1)

  as_monomial : (x : S.A) (ts : List (Term K)) (c : Value d) → Same v n (element v n ts) x → Same v n x (constant_in v n c) → Same v n (element v n ts) (monomial F n (zeros n) c)
  as_monomial x ts c h q = S.trans h (S.trans q (S.symm (lift-is F n c)))

  pub constant_many : (x : S.A) (ts : List (Term K)) → Same v n (element v n ts) x → IsNormal v n ts → 1 < length ts → (c : Value d) → ¬ Same v n x (constant_in v n c)
  constant_many x ts h k l c q = only_one ts (zeros n) c l k (as_monomial x ts c h q)

  pub constant_power : (x : S.A) (ts : List (Term K)) (t : Term K) → Same v n (element v n ts) x → IsNormal v n ts → 0 < length ts → t ≡ get_or ts 0 t → ¬ (exponents t ≡ unit_exponents (length (exponents t)) (length (exponents t))) → (c : Value d) → ¬ Same v n x (constant_in v n c)
  constant_power x ts t h k l at o c q = o (must ts 0 t (zeros n) c l at k (as_monomial x ts c h q) ∙ sym (zeros_listed n) ∙ ap (λ m. unit_exponents m m) (sym (each_at (λ t. length (exponents t) ≡ n) ts 0 t l at k.fit)))

  pub constant_none : (x : S.A) (ts : List (Term K)) (c : Value d) → Same v n (element v n ts) x → length ts ≡ 0 → c ≡ zero_value → Same v n x (constant_in v n c)
  constant_none x [] c h l z = S.trans (S.symm h) (rw z (S.symm (on-O (ValueR d) S (lift F n))))
  constant_none x (t ∷ ts) c h l z = absurd (omega (arith, l))

  pub constant_one : (x : S.A) (ts : List (Term K)) (t : Term K) (c : Value d) → Same v n (element v n ts) x → IsNormal v n ts → length ts ≡ 1 → t ≡ get_or ts 0 t → exponents t ≡ unit_exponents (length (exponents t)) (length (exponents t)) → c ≡ v t.coeff → Same v n x (constant_in v n c)
  constant_one x ts t c h k l at z e = S.trans (S.symm h) (S.trans (one_item ts t l at) (rw e (constant_term (exponents t) (v t.coeff) (z ∙ ap (λ m. unit_exponents m m) (each_at (λ t. length (exponents t) ≡ n) ts 0 t (omega (arith, l)) at k.fit)))))

  -- ---- The coefficient that is looked for

  pub found : (ts : List (Term K)) (i : ℕ) (t : Term K) (exps : List ℤ) (c : Value d) → i < length ts → t ≡ get_or ts i t → IsNormal v n ts → exponents t ≡ exps → c ≡ v t.coeff
      → (e : Exponents n) → exps ≡ listed n e → c ≡ coefficient F n e (element v n ts)
  found ts i t exps c l at k h q e p = q ∙ sym (coefficient_is ts i t e l at k.fit k.descending (h ∙ p))

  pub not_found : (ts : List (Term K)) (exps : List ℤ) (c : Value d) → IsNormal v n ts → Each (λ t. ¬ (exponents t ≡ exps)) ts → c ≡ zero_value → (e : Exponents n) → exps ≡ listed n e → c ≡ coefficient F n e (element v n ts)
  not_found ts exps c k h q e p = q ∙ sym (coefficient_none ts e k.fit (subst (λ (es : List ℤ). Each (λ t. ¬ (exponents t ≡ es)) ts) p h))
