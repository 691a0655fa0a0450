-- The coefficients of a polynomial as a list, which is no longer than its degree and one more.
--   length-zip, length-mul, length-neg    lengths of sums, products and opposites
--   HasCoefficients t n     a list of at most n + 1 coefficients whose value at each whole number is that of the tree
--   has_coefficients        a polynomial has one for its written degree
--   quartic_of              so of degree at most four it has five
use Rattle.std.proofs.Common.{◌≡◌, ℕ, zero, suc, ◌+◌, ◌*◌, ◌≤◌, max, ℤ, pos, ◌+ℤ◌, ◌*ℤ◌, neg_ℤ, List, [], ◌∷◌, length, map, refl, sym, ap, ap₂, ◌∙◌, arith}
use Rattle.sg_algebra.specs.Coefficients.{zip_longest, poly_mul, eval}
use Rattle.sg_algebra.proofs.Evaluation.{eval-add, eval-mul, eval-neg}
use Rattle.sg_algebra.proofs.Lists.{length_map}
use Rattle.sg_algebra.proofs.Solver.{ring}
use Rattle.sg_algebra.proofs.Whole.{ℤR, readsℤ}
use Rattle.sg_spec.specs.Limits.{degrees}
use Rattle.sg_spec.specs.Polynomials.{IsPolynomial}
use Rattle.sg_spec.specs.Tree.{Tree, numeral, here, param, add, neg, mul, div, power, sum_from, prod_from}
use Rattle.sg_plain.specs.Plain.{whole_at, IsQuartic}

pub length-zip : (f : ℤ → ℤ → ℤ) (p q : List ℤ) (n : ℕ) → length p ≤ n → length q ≤ n → length (zip_longest f p q) ≤ n
length-zip f [] q n h k = k
length-zip f (x ∷ p) [] n h k = h
length-zip f (x ∷ p) (y ∷ q) zero h k = absurd (omega arith)
length-zip f (x ∷ p) (y ∷ q) (suc n) h k = let l : length (zip_longest f p q) ≤ n = length-zip f p q n (omega arith) (omega arith) in omega arith

pub length-mul : (p q : List ℤ) (m n : ℕ) → length p ≤ m + 1 → length q ≤ n + 1 → length (poly_mul ℤR p q) ≤ m + n + 1
length-mul [] q m n h k = omega arith
length-mul (x ∷ []) q m n h k = length-zip ◌+ℤ◌ (map (λ y. x *ℤ y) q) (pos 0 ∷ []) (m + n + 1) (let e = length_map (λ y. x *ℤ y) q in omega
    (arith, e)) (omega arith)
length-mul (x ∷ (z ∷ p)) q zero n h k = absurd (omega arith)
length-mul (x ∷ (z ∷ p)) q (suc m) n h k =
    length-zip ◌+ℤ◌ (map (λ y. x *ℤ y) q) (pos 0 ∷ poly_mul ℤR (z ∷ p) q) (suc m + n + 1) (let e = length_map (λ y. x *ℤ y) q in omega (arith, e))
    (let i : length (poly_mul ℤR (z ∷ p) q) ≤ m + n + 1 = length-mul (z ∷ p) q m n (omega arith) k in omega arith)

pub record HasCoefficients (t : Tree) (n : ℕ) : Type 0 where
  pub list : List ℤ
  pub short : length list ≤ n + 1
  pub value : (k : ℤ) → whole_at t k ≡ eval ℤR list k

powers-of : (x : Tree) (d e : ℕ) → HasCoefficients x d → HasCoefficients (power x e) (d * e)
powers-of x d zero h = record { list = pos 1 ∷ []; short = omega arith; value = λ k. ring ℤR (k ∷ []) (search readsℤ depth 12) refl }
powers-of x d (suc e) h =
    let i = powers-of x d e h in
    record {
      list = poly_mul ℤR i.list h.list;
      short = let l = length-mul i.list h.list (d * e) d i.short h.short in let s : d * suc e ≡ d * e + d = omega arith in omega (arith, l, s);
      value = λ k. ap₂ ◌*ℤ◌ (i.value k) (h.value k) ∙ sym (eval-mul ℤR i.list h.list k);
    }

pub has_coefficients : (t : Tree) → IsPolynomial t → HasCoefficients t (degrees t).variable
has_coefficients (numeral c) p = record { list = c ∷ []; short = omega arith; value = λ k. ring ℤR (c ∷ k ∷ []) (search readsℤ depth 12) refl }
has_coefficients here p = record { list = pos 0 ∷ pos 1 ∷ []; short = omega arith; value = λ k. ring ℤR (k ∷ []) (search readsℤ depth 16) refl }
has_coefficients param p = absurd p
has_coefficients (add x y) p =
    let h = has_coefficients x p.0 in
    let i = has_coefficients y p.1 in
    record {
      list = zip_longest ◌+ℤ◌ h.list i.list;
      short = let a = h.short in let b = i.short in length-zip ◌+ℤ◌ h.list i.list (max (degrees x).variable (degrees y).variable + 1) (omega
          (arith, a)) (omega (arith, b));
      value = λ k. ap₂ ◌+ℤ◌ (h.value k) (i.value k) ∙ sym (eval-add ℤR h.list i.list k);
    }
has_coefficients (neg x) p =
    let h = has_coefficients x p in
    record {
      list = map neg_ℤ h.list;
      short = let a = h.short in let e = length_map neg_ℤ h.list in omega (arith, a, e);
      value = λ k. ap neg_ℤ (h.value k) ∙ sym (eval-neg ℤR h.list k);
    }
has_coefficients (mul x y) p =
    let h = has_coefficients x p.0 in
    let i = has_coefficients y p.1 in
    record {
      list = poly_mul ℤR h.list i.list;
      short = length-mul h.list i.list (degrees x).variable (degrees y).variable h.short i.short;
      value = λ k. ap₂ ◌*ℤ◌ (h.value k) (i.value k) ∙ sym (eval-mul ℤR h.list i.list k);
    }
has_coefficients (div x y) p = absurd p
has_coefficients (power x e) p = powers-of x (degrees x).variable e (has_coefficients x p)
has_coefficients (sum_from from body) p = absurd p
has_coefficients (prod_from from body) p = absurd p

pub record HasQuartic (t : Tree) : Type 0 where
  pub a : ℤ
  pub b : ℤ
  pub c : ℤ
  pub d : ℤ
  pub e : ℤ
  pub is : IsQuartic t a b c d e

five : (t : Tree) (l : List ℤ) → length l ≤ 5 → ((k : ℤ) → whole_at t k ≡ eval ℤR l k) → HasQuartic t
five t [] h v = record { a = pos 0; b = pos 0; c = pos 0; d = pos 0; e = pos 0; is = λ k. v k ∙ ring ℤR (k ∷ []) (search readsℤ depth 30 fits 8000) refl }
five t (a ∷ []) h v = record { a = a; b = pos 0; c = pos 0; d = pos 0; e = pos 0; is = λ k. v k ∙ ring ℤR (a ∷ k ∷ []) (search readsℤ depth 30 fits 8000) refl }
five t (a ∷ (b ∷ [])) h v = record {
  a = a;
  b = b;
  c = pos 0;
  d = pos 0;
  e = pos 0;
  is = λ k. v k
      ∙ ring ℤR (a ∷ b ∷ k ∷ []) (search readsℤ depth 30 fits 8000) refl;
}
five t (a ∷ (b ∷ (c ∷ []))) h v = record {
  a = a;
  b = b;
  c = c;
  d = pos 0;
  e = pos 0;
  is = λ k. v k
      ∙ ring ℤR (a ∷ b ∷ c ∷ k ∷ []) (search readsℤ depth 30 fits 8000) refl;
}
five t (a ∷ (b ∷ (c ∷ (d ∷ [])))) h v = record {
  a = a;
  b = b;
  c = c;
  d = d;
  e = pos 0;
  is = λ k. v k
      ∙ ring ℤR (a ∷ b ∷ c ∷ d ∷ k ∷ []) (search readsℤ depth 30 fits 8000) refl;
}
five t (a ∷ (b ∷ (c ∷ (d ∷ (e ∷ []))))) h v = record {
  a = a;
  b = b;
  c = c;
  d = d;
  e = e;
  is = λ k. v k
      ∙ ring ℤR (a ∷ b ∷ c ∷ d ∷ e ∷ k ∷ []) (search readsℤ depth 30 fits 8000) refl;
}
five t (a ∷ (b ∷ (c ∷ (d ∷ (e ∷ (f ∷ l)))))) h v = absurd (omega arith)

pub quartic_of : (t : Tree) → IsPolynomial t → (degrees t).variable ≤ 4 → HasQuartic t
quartic_of t p h =
    let c = has_coefficients t p in
    let s = c.short in
    five t c.list (omega (arith, s, h)) c.value
