-- Lists of terms that grow by the terms of another one, or by their products with a term.
use Rattle.std.proofs.Common.{◌≡◌, ℕ, ◌+◌, ◌<◌, ◌≤◌, sym, ap, ◌∙◌, List, [], ◌∷◌, take, length, get_or, ◌+ℤ◌}
use Rattle.std.proofs.lemmas.List.{take_more, take_all}
use Rattle.sg_algebra.specs.Ring.{Ring}
use Rattle.sg_algebra.specs.Coefficients.{zip_longest}
use Rattle.sg_algebra.proofs.Ring.{mul_O, O_mul, distrib_right}
use Rattle.sg_algebra.proofs.Value.{Value, ◌*ᵛ◌}
use Rattle.sg_algebra.proofs.ValueField.{ValueF}
use Rattle.sg_tower_theory.proofs.Products.{LaurentsR}
use Rattle.sg_tower_theory.proofs.Monomials.{one_term-mul, meaning-append}
use Rattle.sg_laurent.specs.declared.terms.Term.{Term}
use Rattle.sg_laurent.specs.Elements.{exponents, Same, Sum, Product, element, term_in, zero_in, IsNormal}
use Rattle.sg_laurent.proofs.Listing.{zip-length}

module _ {K : Type 0} {d : ℕ} (v : K → Value d) (n : ℕ) where
  abbrev S : Ring
  S = LaurentsR (ValueF d) n

  -- one term more
  pub taken : (ts : List (Term K)) (i : ℕ) (t : Term K) → i < length ts → t ≡ get_or ts i t → Same v n (element v n (take (i + 1) ts)) (Sum v n (element v n (take i ts)) (term_in v n t))
  taken ts i t l e = rw (take_more ts i t l, sym e) (S.trans (meaning-append (ValueF d) exponents (λ (t : Term K). v t.coeff) n (take i ts) (t ∷ [])) (S.add_cong (S.rfl {x = element v n (take i ts)}) (S.add_O {x = term_in v n t})))

  copy_is : (t r : Term K) → exponents r ≡ exponents t → v r.coeff ≡ v t.coeff → Same v n (term_in v n r) (term_in v n t)
  copy_is t r e c = rw (e, c) S.rfl

  pub add_start : (ts : List (Term K)) → Same v n (element v n ts) (Sum v n (element v n ts) (zero_in v n))
  add_start ts = S.symm S.add_O

  pub add_step : (ys : List (Term K)) (i : ℕ) (y t : Term K) (ts row new : List (Term K)) → i < length ys → y ≡ get_or ys i y → exponents t ≡ exponents y → v t.coeff ≡ v y.coeff
      → Same v n (element v n row) (Sum v n (element v n ts) (element v n (take i ys))) → Same v n (element v n new) (Sum v n (element v n row) (term_in v n t))
      → Same v n (element v n new) (Sum v n (element v n ts) (element v n (take (i + 1) ys)))
  add_step ys i y t ts row new l e x c h k = S.trans k (S.trans (S.add_cong h (copy_is y t x c)) (S.trans S.add_assoc (S.add_cong (S.rfl {x = element v n ts}) (S.symm (taken ys i y l e)))))

  pub add_end : (ys : List (Term K)) (i : ℕ) (ts row : List (Term K)) → length ys ≤ i
      → Same v n (element v n row) (Sum v n (element v n ts) (element v n (take i ys))) → Same v n (element v n row) (Sum v n (element v n ts) (element v n ys))
  add_end ys i ts row l h = rw (take_all i ys l) at h

  pub nothing_normal : IsNormal v n []
  nothing_normal = record { fit = tt; some = tt; descending = tt }

  -- ---- The products with a term

  pub product_is : (s t r : Term K) → length (exponents s) ≡ n → length (exponents t) ≡ n → exponents r ≡ zip_longest ◌+ℤ◌ (exponents s) (exponents t) → v r.coeff ≡ v s.coeff *ᵛ v t.coeff
      → Same v n (term_in v n r) (Product v n (term_in v n s) (term_in v n t))
  product_is s t r h k e c = rw (e, c) (one_term-mul (ValueF d) n (exponents s) (exponents t) (v s.coeff) (v t.coeff) h k)

  pub times_start : (ts : List (Term K)) (s : Term K) → Same v n (element v n ts) (Sum v n (element v n ts) (Product v n (term_in v n s) (zero_in v n)))
  times_start ts s = S.symm (S.trans (S.add_cong (S.rfl {x = element v n ts}) (mul_O S {x = term_in v n s})) S.add_O)

  times_rest : (a s t y r new : S.A) → Same v n r (Sum v n a (Product v n s t)) → Same v n new (Sum v n r (Product v n s y)) → Same v n new (Sum v n a (Product v n s (Sum v n t y)))
  times_rest a s t y r new h k = S.trans k (S.trans (S.add_cong h (S.rfl {x = Product v n s y})) (S.trans S.add_assoc (S.add_cong (S.rfl {x = a}) (S.symm S.distrib))))

  pub times_step : (ys : List (Term K)) (i : ℕ) (y t s : Term K) (ts row new : List (Term K)) → i < length ys → y ≡ get_or ys i y → Same v n (term_in v n t) (Product v n (term_in v n s) (term_in v n y))
      → Same v n (element v n row) (Sum v n (element v n ts) (Product v n (term_in v n s) (element v n (take i ys)))) → Same v n (element v n new) (Sum v n (element v n row) (term_in v n t))
      → Same v n (element v n new) (Sum v n (element v n ts) (Product v n (term_in v n s) (element v n (take (i + 1) ys))))
  times_step ys i y t s ts row new l e p h k = S.trans (times_rest (element v n ts) (term_in v n s) (element v n (take i ys)) (term_in v n y) (element v n row) (element v n new) h (S.trans k (S.add_cong (S.rfl {x = element v n row}) p)))
      (S.add_cong (S.rfl {x = element v n ts}) (S.mul_cong (S.rfl {x = term_in v n s}) (S.symm (taken ys i y l e))))

  pub times_end : (ys : List (Term K)) (i : ℕ) (s : Term K) (ts row : List (Term K)) → length ys ≤ i
      → Same v n (element v n row) (Sum v n (element v n ts) (Product v n (term_in v n s) (element v n (take i ys)))) → Same v n (element v n row) (Sum v n (element v n ts) (Product v n (term_in v n s) (element v n ys)))
  times_end ys i s ts row l h = rw (take_all i ys l) at h

  -- ---- The products of two lists

  pub product_start : (ys : List (Term K)) → Same v n (zero_in v n) (Product v n (zero_in v n) (element v n ys))
  product_start ys = S.symm (O_mul S {x = element v n ys})

  pub product_step : (xs : List (Term K)) (i : ℕ) (x : Term K) (ys row new : List (Term K)) → i < length xs → x ≡ get_or xs i x
      → Same v n (element v n row) (Product v n (element v n (take i xs)) (element v n ys)) → Same v n (element v n new) (Sum v n (element v n row) (Product v n (term_in v n x) (element v n ys)))
      → Same v n (element v n new) (Product v n (element v n (take (i + 1) xs)) (element v n ys))
  product_step xs i x ys row new l e h k = S.trans k (S.trans (S.add_cong h (S.rfl {x = Product v n (term_in v n x) (element v n ys)})) (S.trans (S.symm (distrib_right S {x = element v n (take i xs)} {y = term_in v n x} {z = element v n ys})) (S.mul_cong (S.symm (taken xs i x l e)) (S.rfl {x = element v n ys}))))

  pub product_end : (xs : List (Term K)) (i : ℕ) (ys row : List (Term K)) → length xs ≤ i
      → Same v n (element v n row) (Product v n (element v n (take i xs)) (element v n ys)) → Same v n (element v n row) (Product v n (element v n xs) (element v n ys))
  product_end xs i ys row l h = rw (take_all i xs l) at h

pub product_fits : {K : Type 0} (n : ℕ) (s t r : Term K) → length (exponents s) ≡ n → length (exponents t) ≡ n → exponents r ≡ zip_longest ◌+ℤ◌ (exponents s) (exponents t) → length (exponents r) ≡ n
product_fits n s t r h k e = ap length e ∙ zip-length (exponents s) (exponents t) (h ∙ sym k) ∙ h
