-- What the calls of Laurent polynomials in n products say of the formal tower with n factors.
--   zero_call .. no_inverse_call     call by call
--   lift_same                        values that are equal as elements are equal
use Rattle.std.proofs.Common.{◌≡◌, ℕ, zero, suc, ◌+◌, ◌-◌, ◌<◌, refl, sym, ap, ◌∙◌, subst, nat_lt, cond, Bool, true, List, [], ◌∷◌, map, length, ℤ, pos, add-zero, ◌↔◌, arith}
use Rattle.std.specs.Bool.{IsTrue}
use Rattle.sg_algebra.specs.Ring.{Ring, Field}
use Rattle.sg_algebra.proofs.Embedding.{constant_value}
use Rattle.sg_algebra.proofs.Lists.{length_map}
use Rattle.sg_algebra.proofs.Value.{Value, zero_value, one_value}
use Rattle.sg_algebra.proofs.ValueField.{ValueF}
use Rattle.sg_tower_theory.proofs.Flat.{IsUnitPair}
use Rattle.sg_tower_theory.proofs.Formal.{repaired, own_sum, no_sums}
use Rattle.sg_tower_theory.proofs.Monomials.{one_term}
use Rattle.sg_tower_theory.proofs.ProductSlices.{monomial, monomial-at}
use Rattle.sg_tower_theory.proofs.Products.{LaurentsR, lift, coefficient, coefficient_cong, zeros}
use Rattle.sg_ratfun.specs.Fractions.{ratio}
use Rattle.sg_tower.specs.Elements.{IsZero, IsOne, IsCopy, IsSum, IsDifference, IsProduct, IsMultiple, IsValue}
use Rattle.sg_tower.specs.Terms.{unit_exponents, IsLifted, IsGenerator, IsInverse, IsNoUnit, own_product}
use Rattle.sg_laurent.specs.Exponents.{unit_exponents as units}
use Rattle.sg_laurent.specs.declared.terms.Term.{Term}
use Rattle.sg_laurent.specs.Elements.{Same, Sum, Difference, Product, element, zero_in, constant_in, product_in, IsInverseTerm}
use Rattle.sg_laurent.proofs.Coefficients.{lift-is}
use Rattle.sg_products.specs.Readings.{count, laurents}
use Rattle.sg_products.proofs.Moving.{in_count}

same_units : (n i : ℕ) → units n i ≡ unit_exponents n i
same_units zero i = refl
same_units (suc n) zero = ap (λ r. pos 1 ∷ r) (same_units n n)
same_units (suc n) (suc i) = ap (λ r. pos 0 ∷ r) (same_units n i)

pub lift_same : (F : Field) (n : ℕ) (a b : F.R.A) → (LaurentsR F n).◌≈◌ ((lift F n).on a) ((lift F n).on b) → F.R.◌≈◌ a b
lift_same F n a b h = F.R.trans (F.R.symm (own a)) (F.R.trans (coefficient_cong F n (zeros n) ((lift F n).on a) ((lift F n).on b) h) (own b))
  where
    own : (c : F.R.A) → F.R.◌≈◌ (coefficient F n (zeros n) ((lift F n).on c)) c
    own c = F.R.trans (F.R.symm (coefficient_cong F n (zeros n) (monomial F n (zeros n) c) ((lift F n).on c) (lift-is F n c))) (monomial-at F n (zeros n) c)

module _ {K : Type 0} {d : ℕ} (v : K → Value d) (αs : List (List K × List K)) where
  abbrev N : ℕ
  N = count v αs

  abbrev F : Field
  F = ValueF (suc d)

  abbrev S : Ring
  S = LaurentsR (ValueF (suc d)) (count v αs)

  pub zero_call : (r : List (Term (List K × List K))) → r ≡ [] → IsZero (laurents v αs) r
  zero_call r e = rw e S.rfl

  module _ (n : ℕ) (e : n ≡ length αs) where
    pub one_call : (r : List (Term (List K × List K))) (c : Value (suc d)) → c ≡ one_value → Same (ratio v) n (element (ratio v) n r) (constant_in (ratio v) n c) → IsOne (laurents v αs) r
    one_call r c o h = S.trans (in_count v αs n e (λ m. Same (ratio v) m (element (ratio v) m r) (constant_in (ratio v) m c)) h) (rw o (lift F N).on-one)

    pub lifted_call : (q : List K × List K) (r : List (Term (List K × List K))) (c : Value (suc d)) → c ≡ ratio v q → Same (ratio v) n (element (ratio v) n r) (constant_in (ratio v) n c) → IsLifted (laurents v αs) v q r
    lifted_call q r c o h = rw o at (in_count v αs n e (λ m. Same (ratio v) m (element (ratio v) m r) (constant_in (ratio v) m c)) h)

    pub generator_call : (i : ℕ) (r : List (Term (List K × List K))) → i < length (map (ratio v) αs) + 0 → Same (ratio v) n (element (ratio v) n r) (product_in (ratio v) n i) → IsGenerator (laurents v αs) i r
    generator_call i r l h = S.trans (in_count v αs n e (λ m. Same (ratio v) m (element (ratio v) m r) (product_in (ratio v) m i)) h)
        (S.trans (subst (λ (es : List ℤ). S.◌≈◌ (product_in (ratio v) N i) (one_term F N es one_value)) (same_units N i ∙ ap (λ m. unit_exponents m i) (length_map repaired (map (ratio v) αs))) S.rfl)
        (chosen (nat_lt i (length (map (ratio v) αs))) (below i (length (map (ratio v) αs)) l)))
      where
        below : (i m : ℕ) → i < m + 0 → nat_lt i m ≡ true
        below i m l = grind arith

        chosen : (b : Bool) → b ≡ true → S.◌≈◌ (own_product (no_sums (map (ratio v) αs)) i) (cond b (own_product (no_sums (map (ratio v) αs)) i) (own_sum (no_sums (map (ratio v) αs)) (i - length (map (ratio v) αs))))
        chosen b q = rw q S.rfl

    pub copy_call : (x r : List (Term (List K × List K))) → Same (ratio v) n (element (ratio v) n r) (element (ratio v) n x) → IsCopy (laurents v αs) x r
    copy_call x r h = in_count v αs n e (λ m. Same (ratio v) m (element (ratio v) m r) (element (ratio v) m x)) h

    pub sum_call : (x y r : List (Term (List K × List K))) → Same (ratio v) n (element (ratio v) n r) (Sum (ratio v) n (element (ratio v) n x) (element (ratio v) n y)) → IsSum (laurents v αs) x y r
    sum_call x y r h = in_count v αs n e (λ m. Same (ratio v) m (element (ratio v) m r) (Sum (ratio v) m (element (ratio v) m x) (element (ratio v) m y))) h

    pub difference_call : (x y r : List (Term (List K × List K))) → Same (ratio v) n (element (ratio v) n r) (Difference (ratio v) n (element (ratio v) n x) (element (ratio v) n y)) → IsDifference (laurents v αs) x y r
    difference_call x y r h = in_count v αs n e (λ m. Same (ratio v) m (element (ratio v) m r) (Difference (ratio v) m (element (ratio v) m x) (element (ratio v) m y))) h

    pub product_call : (x y r : List (Term (List K × List K))) → Same (ratio v) n (element (ratio v) n r) (Product (ratio v) n (element (ratio v) n x) (element (ratio v) n y)) → IsProduct (laurents v αs) x y r
    product_call x y r h = in_count v αs n e (λ m. Same (ratio v) m (element (ratio v) m r) (Product (ratio v) m (element (ratio v) m x) (element (ratio v) m y))) h

    pub multiple_call : (c : Value d) (k : Value (suc d)) (x r : List (Term (List K × List K))) → k ≡ constant_value d c → Same (ratio v) n (element (ratio v) n r) (Product (ratio v) n (constant_in (ratio v) n k) (element (ratio v) n x)) → IsMultiple (laurents v αs) c x r
    multiple_call c k x r q h = rw q at (in_count v αs n e (λ m. Same (ratio v) m (element (ratio v) m r) (Product (ratio v) m (constant_in (ratio v) m k) (element (ratio v) m x))) h)

    pub zero_test_call : (b : Bool) (x : List (Term (List K × List K))) → (IsTrue b ↔ Same (ratio v) n (element (ratio v) n x) (zero_in (ratio v) n)) → IsTrue b ↔ IsZero (laurents v αs) x
    zero_test_call b x h = in_count v αs n e (λ m. IsTrue b ↔ Same (ratio v) m (element (ratio v) m x) (zero_in (ratio v) m)) h

    pub same_test_call : (b : Bool) (x y : List (Term (List K × List K))) → (IsTrue b ↔ Same (ratio v) n (element (ratio v) n y) (element (ratio v) n x)) → IsTrue b ↔ IsCopy (laurents v αs) x y
    same_test_call b x y h = in_count v αs n e (λ m. IsTrue b ↔ Same (ratio v) m (element (ratio v) m y) (element (ratio v) m x)) h

    pub inverse_call : (x r : List (Term (List K × List K))) → IsInverseTerm (ratio v) n (element (ratio v) n x) (element (ratio v) n r) → IsInverse (laurents v αs) x r
    inverse_call x r h = go (in_count v αs n e (λ m. IsInverseTerm (ratio v) m (element (ratio v) m x) (element (ratio v) m r)) h)
      where
        go : IsInverseTerm (ratio v) N (element (ratio v) N x) (element (ratio v) N r) → IsInverse (laurents v αs) x r
        go p = record { exponents = p.exponents; sized = p.sized ∙ length_map repaired (map (ratio v) αs); function = p.function; nonzero = p.nonzero; left = p.left; right = p.right }

    pub no_inverse_call : (x : List (Term (List K × List K))) → ((y : (LaurentsR (ValueF (suc d)) n).A) → IsInverseTerm (ratio v) n (element (ratio v) n x) y → ⊥) → IsNoUnit (laurents v αs) x
    no_inverse_call x h y p = in_count v αs n e (λ m. (y : (LaurentsR (ValueF (suc d)) m).A) → IsInverseTerm (ratio v) m (element (ratio v) m x) y → ⊥) h y
        (record { exponents = p.exponents; sized = p.sized ∙ sym (length_map repaired (map (ratio v) αs)); function = p.function; nonzero = p.nonzero; left = p.left; right = p.right })

    pub constant_call : (c : Value d) (k : Value (suc d)) (x : List (Term (List K × List K))) → k ≡ constant_value d c → Same (ratio v) n (element (ratio v) n x) (constant_in (ratio v) n k) → IsValue (laurents v αs) c x
    constant_call c k x q h = rw q at (in_count v αs n e (λ m. Same (ratio v) m (element (ratio v) m x) (constant_in (ratio v) m k)) h)

    pub no_constant_call : (k : Value (suc d)) (x : List (Term (List K × List K))) → Same (ratio v) n (element (ratio v) n x) (constant_in (ratio v) n k) → ((c : Value d) → ¬ (k ≡ constant_value d c)) → (c : Value d) → ¬ IsValue (laurents v αs) c x
    no_constant_call k x h none c p = none c (lift_same F N k (constant_value d c) (S.trans (S.symm (in_count v αs n e (λ m. Same (ratio v) m (element (ratio v) m x) (constant_in (ratio v) m k)) h)) p))

    pub no_function_call : (x : List (Term (List K × List K))) → ((k : Value (suc d)) → ¬ Same (ratio v) n (element (ratio v) n x) (constant_in (ratio v) n k)) → (c : Value d) → ¬ IsValue (laurents v αs) c x
    no_function_call x h c p = in_count v αs n e (λ m. (k : Value (suc d)) → ¬ Same (ratio v) m (element (ratio v) m x) (constant_in (ratio v) m k)) h (constant_value d c) p
