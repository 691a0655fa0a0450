-- The laws of values at whole numbers, by induction on the depth.
--   has_count        there is a number for each variable
--   has_zero         0 has the value 0, wherever some element has a value
--   has_unique       there is at most one value
--   has_add, has_neg, has_sub, has_mul, has_div    sums, opposites, differences and products have a value wherever both sides have one, and quotients where besides
--                    the value of the divisor isn't 0; it is that of the values
--   last_same        lists with a last item
--   pairwise_left, pairwise_right      two lists in a row, pairwise
--   pairwise-..      the values of the coefficients of sums, opposites and products
use Rattle.std.proofs.Common.{◌≡◌, ℕ, zero, suc, ◌+◌, refl, sym, ◌∙◌, ap, ap₂, subst, List, [], ◌∷◌, ◌++◌, map, take, drop, length, ℤ, arith}
use Rattle.std.proofs.lemmas.List.{length-append}
use Rattle.sg_algebra.specs.Coefficients.{zip_longest, poly_mul}
use Rattle.sg_algebra.proofs.Solver.{ring, by, scale, reads}
use Rattle.sg_algebra.proofs.Field.{product_ne}
use Rattle.sg_algebra.proofs.PolynomialRing.{PolyR}
use Rattle.sg_algebra.proofs.Evaluation.{eval-add, eval-mul, eval-neg, eval-zero, eval_cong}
use Rattle.sg_algebra.proofs.Value.{Value, ◌+ᵛ◌, ◌-ᵛ◌, ◌*ᵛ◌, ◌/ᵛ◌, neg_value, inv_value, zero_value, over_value}
use Rattle.sg_algebra.proofs.ValueField.{ValueR, ValueF, ValueD, value_quotient, value_product, value_mul-inv}
use Rattle.sg_algebra.proofs.OverValue.{over_value-add, over_value-mul, over_value-neg, over_value-div, over_value-zero, same_over_value}
use Rattle.sg_algebra.proofs.FieldSolver.{field, freads, ne}
use Rattle.sg_algebra.proofs.Rational.{whole_value}
use Rattle.sg_algebra.proofs.Polynomial.{coefficient}
use Rattle.sg_algebra.proofs.Place.{Pairwise, HasValue, value_at}

pub last_same : {A : Type 0} (xs ys : List A) (x y : A) → xs ++ x ∷ [] ≡ ys ++ y ∷ [] → (xs ≡ ys) × (x ≡ y)
last_same [] [] x y e = (refl, first e)
  where
    head : {A : Type 0} → A → List A → A
    head a [] = a
    head a (b ∷ bs) = b

    first : {A : Type 0} {x y : A} → x ∷ [] ≡ y ∷ [] → x ≡ y
    first {A} {x} {y} e = ap (head x) e
last_same [] (b ∷ ys) x y e = absurd (omega (arith, ap length e, length-append ys (y ∷ [])))
last_same (a ∷ xs) [] x y e = absurd (omega (arith, ap length e, length-append xs (x ∷ [])))
last_same (a ∷ xs) (b ∷ ys) x y e = let r = last_same xs ys x y (ap tail e) in (ap₂ ◌∷◌ (ap (head a) e) r.0, r.1)
  where
    head : {A : Type 0} → A → List A → A
    head a [] = a
    head a (b ∷ bs) = b

    tail : {A : Type 0} → List A → List A
    tail [] = []
    tail (b ∷ bs) = bs

module _ {A B : Type 0} (R : A → B → Type 0) where
  pub pairwise_left : (xs ys : List A) (vs : List B) → Pairwise R (xs ++ ys) vs → Pairwise R xs (take (length xs) vs)
  pairwise_left [] ys vs p = tt
  pairwise_left (x ∷ xs) ys [] p = p
  pairwise_left (x ∷ xs) ys (v ∷ vs) p = (p.0, pairwise_left xs ys vs p.1)

  pub pairwise_right : (xs ys : List A) (vs : List B) → Pairwise R (xs ++ ys) vs → Pairwise R ys (drop (length xs) vs)
  pairwise_right [] ys vs p = p
  pairwise_right (x ∷ xs) ys [] p = absurd p
  pairwise_right (x ∷ xs) ys (v ∷ vs) p = pairwise_right xs ys vs p.1

-- ---- Coefficients with values

-- what the laws at one depth say of the elements that have values
pub record Laws {d : ℕ} (Has : Value d → Value 0 → Type 0) : Type 0 where
  pub none : (x : Value d) (v : Value 0) → Has x v → Has zero_value zero_value
  pub unique : (x : Value d) (v w : Value 0) → Has x v → Has x w → v ≡ w
  pub add : (x y : Value d) (v w : Value 0) → Has x v → Has y w → Has (x +ᵛ y) (v +ᵛ w)
  pub neg : (x : Value d) (v : Value 0) → Has x v → Has (neg_value x) (neg_value v)
  pub mul : (x y : Value d) (v w : Value 0) → Has x v → Has y w → Has (x *ᵛ y) (v *ᵛ w)

module _ {d : ℕ} (Has : Value d → Value 0 → Type 0) (laws : Laws Has) where
  pub pairwise-add : (p q : List (Value d)) (u w : List (Value 0)) → Pairwise Has p u → Pairwise Has q w → Pairwise Has (zip_longest ◌+ᵛ◌ p q) (zip_longest ◌+ᵛ◌ u w)
  pairwise-add [] q [] w h k = k
  pairwise-add [] q (v ∷ u) w h k = absurd h
  pairwise-add (x ∷ p) q [] w h k = absurd h
  pairwise-add (x ∷ p) [] (v ∷ u) [] h k = h
  pairwise-add (x ∷ p) [] (v ∷ u) (r ∷ w) h k = absurd k
  pairwise-add (x ∷ p) (y ∷ q) (v ∷ u) [] h k = absurd k
  pairwise-add (x ∷ p) (y ∷ q) (v ∷ u) (r ∷ w) h k = (laws.add x y v r h.0 k.0, pairwise-add p q u w h.1 k.1)

  pub pairwise-neg : (p : List (Value d)) (u : List (Value 0)) → Pairwise Has p u → Pairwise Has (map neg_value p) (map neg_value u)
  pairwise-neg [] [] h = tt
  pairwise-neg [] (v ∷ u) h = absurd h
  pairwise-neg (x ∷ p) [] h = absurd h
  pairwise-neg (x ∷ p) (v ∷ u) h = (laws.neg x v h.0, pairwise-neg p u h.1)

  pairwise-scale : (a : Value d) (b : Value 0) → Has a b → (p : List (Value d)) (u : List (Value 0)) → Pairwise Has p u → Pairwise Has (map (◌*ᵛ◌ a) p) (map (◌*ᵛ◌ b) u)
  pairwise-scale a b e [] [] h = tt
  pairwise-scale a b e [] (v ∷ u) h = absurd h
  pairwise-scale a b e (x ∷ p) [] h = absurd h
  pairwise-scale a b e (x ∷ p) (v ∷ u) h = (laws.mul a x b v e h.0, pairwise-scale a b e p u h.1)

  pub pairwise-mul : (p q : List (Value d)) (u w : List (Value 0)) → Pairwise Has p u → Pairwise Has q w → Pairwise Has (poly_mul (ValueR d) p q) (poly_mul (ValueR 0) u w)
  pairwise-mul [] q [] w h k = tt
  pairwise-mul [] q (v ∷ u) w h k = absurd h
  pairwise-mul (x ∷ p) q [] w h k = absurd h
  pairwise-mul (x ∷ p) q (v ∷ u) w h k = pairwise-add (map (◌*ᵛ◌ x) q) (zero_value ∷ poly_mul (ValueR d) p q) (map (◌*ᵛ◌ v) w) (zero_value ∷ poly_mul (ValueR 0) u w)
      (pairwise-scale x v h.0 q w k) (laws.none x v h.0, pairwise-mul p q u w h.1 k)

  -- equal coefficients have equal values, and those past the end are 0
  zero_only : (p : List (Value d)) (u : List (Value 0)) → Pairwise Has p u → ((n : ℕ) → coefficient p n ≡ zero_value) → (n : ℕ) → coefficient u n ≡ zero_value
  zero_only [] [] h z n = refl
  zero_only [] (v ∷ u) h z n = absurd h
  zero_only (x ∷ p) [] h z n = refl
  zero_only (x ∷ p) (v ∷ u) h z zero = laws.unique zero_value v zero_value (subst (λ (y : Value d). Has y v) (z 0) h.0) (laws.none x v h.0)
  zero_only (x ∷ p) (v ∷ u) h z (suc n) = zero_only p u h.1 (λ n. z (suc n)) n

  pub same_values : (p q : List (Value d)) (u w : List (Value 0)) → Pairwise Has p u → Pairwise Has q w → ((n : ℕ) → coefficient p n ≡ coefficient q n) → (n : ℕ) → coefficient u n ≡ coefficient w n
  same_values [] q [] w h k e n = sym (zero_only q w k (λ n. sym (e n)) n)
  same_values [] q (v ∷ u) w h k e n = absurd h
  same_values (x ∷ p) q [] w h k e n = absurd h
  same_values (x ∷ p) [] (v ∷ u) [] h k e n = zero_only (x ∷ p) (v ∷ u) h e n
  same_values (x ∷ p) [] (v ∷ u) (r ∷ w) h k e n = absurd k
  same_values (x ∷ p) (y ∷ q) (v ∷ u) [] h k e n = absurd k
  same_values (x ∷ p) (y ∷ q) (v ∷ u) (r ∷ w) h k e zero = laws.unique x v r h.0 (subst (λ (z : Value d). Has z r) (sym (e 0)) k.0)
  same_values (x ∷ p) (y ∷ q) (v ∷ u) (r ∷ w) h k e (suc n) = same_values p q u w h.1 k.1 (λ n. e (suc n)) n

  -- a polynomial with a value other than 0 isn't 0
  pub apart : (q : List (Value d)) (w : List (Value 0)) (a : ℤ) → Pairwise Has q w → ¬ (value_at w a ≡ zero_value) → ¬ ((PolyR (ValueR d)).◌≈◌ q [])
  apart q w a h n z = n (eval-zero (ValueR 0) w (whole_value 0 a) (zero_only q w h z.image.at))

-- ---- One variable more: the numbers before and the last one fixed

pub record At {d : ℕ} (before : List ℤ) (a : ℤ) (x : Value (suc d)) (v : Value 0) : Type 0 where
  pub upper : List (Value d)
  pub lower : List (Value d)
  pub us : List (Value 0)
  pub ls : List (Value 0)
  pub quotient : x ≡ over_value upper lower
  pub uppers : Pairwise (λ c w. HasValue d c before w) upper us
  pub lowers : Pairwise (λ c w. HasValue d c before w) lower ls
  pub defined : ¬ (value_at ls a ≡ zero_value)
  pub value : v ≡ value_at us a /ᵛ value_at ls a

split_add : (a b c e : Value 0) → ¬ (b ≡ zero_value) → ¬ (e ≡ zero_value) → a /ᵛ b +ᵛ c /ᵛ e ≡ (a *ᵛ e +ᵛ c *ᵛ b) /ᵛ (b *ᵛ e)
split_add a b c e h k = field (ValueF 0) (a ∷ b ∷ c ∷ e ∷ []) (search freads depth 20) refl (search (ne (ValueF 0) []))

split_mul : (a b c e : Value 0) → ¬ (b ≡ zero_value) → ¬ (e ≡ zero_value) → (a /ᵛ b) *ᵛ (c /ᵛ e) ≡ (a *ᵛ c) /ᵛ (b *ᵛ e)
split_mul a b c e h k = field (ValueF 0) (a ∷ b ∷ c ∷ e ∷ []) (search freads depth 20) refl (search (ne (ValueF 0) []))

split_div : (a b c e : Value 0) → ¬ (b ≡ zero_value) → ¬ (e ≡ zero_value) → ¬ (c ≡ zero_value) → (a /ᵛ b) /ᵛ (c /ᵛ e) ≡ (a *ᵛ e) /ᵛ (b *ᵛ c)
split_div a b c e h k n = sym (value_quotient (a /ᵛ b) (c /ᵛ e) ((a *ᵛ e) /ᵛ (b *ᵛ c)) (λ z. n (sym (value_product c e k) ∙ ap (λ y. y *ᵛ e) z ∙ ring (ValueR 0) (e ∷ []) (search reads depth 12) refl))
    (field (ValueF 0) (a ∷ b ∷ c ∷ e ∷ []) (search freads depth 20) refl (search (ne (ValueF 0) []))))

split_neg : (a b : Value 0) → neg_value (a /ᵛ b) ≡ neg_value a /ᵛ b
split_neg a b = ring (ValueR 0) (a ∷ inv_value b ∷ []) (search reads depth 12) refl

crossed : (a b c e : Value 0) → ¬ (b ≡ zero_value) → ¬ (e ≡ zero_value) → a *ᵛ e ≡ c *ᵛ b → a /ᵛ b ≡ c /ᵛ e
crossed a b c e h k s = value_quotient c e (a /ᵛ b) k (by (ValueR 0) (a ∷ b ∷ c ∷ e ∷ inv_value b ∷ [])
    ((ValueR 0).add_cong (scale (ValueR 0) (inv_value b) s) (scale (ValueR 0) c (value_mul-inv 0 b h))) (search reads depth 20) refl)

both_ne : (b e : Value 0) → ¬ (b ≡ zero_value) → ¬ (e ≡ zero_value) → ¬ (b *ᵛ e ≡ zero_value)
both_ne b e h k = product_ne (ValueD 0) h k

module _ {d : ℕ} (before : List ℤ) (a : ℤ) (laws : Laws (λ (c : Value d) w. HasValue d c before w)) where
  abbrev Has : Value d → Value 0 → Type 0
  Has c w = HasValue d c before w

  abbrev X : Value 0
  X = whole_value 0 a

  product : (p q : List (Value 0)) → value_at (poly_mul (ValueR 0) p q) a ≡ value_at p a *ᵛ value_at q a
  product p q = eval-mul (ValueR 0) p q X

  at_unique : (x : Value (suc d)) (v w : Value 0) → At before a x v → At before a x w → v ≡ w
  at_unique x v w h k = h.value ∙ crossed (value_at h.us a) (value_at h.ls a) (value_at k.us a) (value_at k.ls a) h.defined k.defined
      (sym (product h.us k.ls)
      ∙ eval_cong (ValueR 0) (poly_mul (ValueR 0) h.us k.ls) (poly_mul (ValueR 0) k.us h.ls) X X
      (record {
        image = record {
          at = same_values Has laws (poly_mul (ValueR d) h.upper k.lower) (poly_mul (ValueR d) k.upper h.lower) (poly_mul (ValueR 0) h.us k.ls) (poly_mul (ValueR 0) k.us h.ls)
              (pairwise-mul Has laws h.upper k.lower h.us k.ls h.uppers k.lowers) (pairwise-mul Has laws k.upper h.lower k.us h.ls k.uppers h.lowers)
              (same_over_value d h.upper h.lower k.upper k.lower (apart Has laws h.lower h.ls a h.lowers h.defined) (apart Has laws k.lower k.ls a k.lowers k.defined) (sym h.quotient ∙ k.quotient)).image.at;
        };
      }) refl
      ∙ product k.us h.ls)
      ∙ sym k.value

  at_add : (x y : Value (suc d)) (v w : Value 0) → At before a x v → At before a y w → At before a (x +ᵛ y) (v +ᵛ w)
  at_add x y v w h k = record {
    upper = zip_longest ◌+ᵛ◌ (poly_mul (ValueR d) h.upper k.lower) (poly_mul (ValueR d) k.upper h.lower);
    lower = poly_mul (ValueR d) h.lower k.lower;
    us = zip_longest ◌+ᵛ◌ (poly_mul (ValueR 0) h.us k.ls) (poly_mul (ValueR 0) k.us h.ls);
    ls = poly_mul (ValueR 0) h.ls k.ls;
    quotient = ap₂ ◌+ᵛ◌ h.quotient k.quotient ∙ sym (over_value-add d h.upper h.lower k.upper k.lower (apart Has laws h.lower h.ls a h.lowers h.defined) (apart Has laws k.lower k.ls a k.lowers k.defined));
    uppers = pairwise-add Has laws (poly_mul (ValueR d) h.upper k.lower) (poly_mul (ValueR d) k.upper h.lower) (poly_mul (ValueR 0) h.us k.ls) (poly_mul (ValueR 0) k.us h.ls)
        (pairwise-mul Has laws h.upper k.lower h.us k.ls h.uppers k.lowers) (pairwise-mul Has laws k.upper h.lower k.us h.ls k.uppers h.lowers);
    lowers = pairwise-mul Has laws h.lower k.lower h.ls k.ls h.lowers k.lowers;
    defined = λ z. both_ne (value_at h.ls a) (value_at k.ls a) h.defined k.defined (sym (product h.ls k.ls) ∙ z);
    value = ap₂ ◌+ᵛ◌ h.value k.value ∙ split_add (value_at h.us a) (value_at h.ls a) (value_at k.us a) (value_at k.ls a) h.defined k.defined
        ∙ ap₂ ◌/ᵛ◌ (sym (eval-add (ValueR 0) (poly_mul (ValueR 0) h.us k.ls) (poly_mul (ValueR 0) k.us h.ls) X ∙ ap₂ ◌+ᵛ◌ (product h.us k.ls) (product k.us h.ls))) (sym (product h.ls k.ls));
  }

  at_neg : (x : Value (suc d)) (v : Value 0) → At before a x v → At before a (neg_value x) (neg_value v)
  at_neg x v h = record {
    upper = map neg_value h.upper;
    lower = h.lower;
    us = map neg_value h.us;
    ls = h.ls;
    quotient = ap neg_value h.quotient ∙ sym (over_value-neg d h.upper h.lower (apart Has laws h.lower h.ls a h.lowers h.defined));
    uppers = pairwise-neg Has laws h.upper h.us h.uppers;
    lowers = h.lowers;
    defined = h.defined;
    value = ap neg_value h.value ∙ split_neg (value_at h.us a) (value_at h.ls a) ∙ ap (λ y. y /ᵛ value_at h.ls a) (sym (eval-neg (ValueR 0) h.us X));
  }

  at_mul : (x y : Value (suc d)) (v w : Value 0) → At before a x v → At before a y w → At before a (x *ᵛ y) (v *ᵛ w)
  at_mul x y v w h k = record {
    upper = poly_mul (ValueR d) h.upper k.upper;
    lower = poly_mul (ValueR d) h.lower k.lower;
    us = poly_mul (ValueR 0) h.us k.us;
    ls = poly_mul (ValueR 0) h.ls k.ls;
    quotient = ap₂ ◌*ᵛ◌ h.quotient k.quotient ∙ sym (over_value-mul d h.upper h.lower k.upper k.lower (apart Has laws h.lower h.ls a h.lowers h.defined) (apart Has laws k.lower k.ls a k.lowers k.defined));
    uppers = pairwise-mul Has laws h.upper k.upper h.us k.us h.uppers k.uppers;
    lowers = pairwise-mul Has laws h.lower k.lower h.ls k.ls h.lowers k.lowers;
    defined = λ z. both_ne (value_at h.ls a) (value_at k.ls a) h.defined k.defined (sym (product h.ls k.ls) ∙ z);
    value = ap₂ ◌*ᵛ◌ h.value k.value ∙ split_mul (value_at h.us a) (value_at h.ls a) (value_at k.us a) (value_at k.ls a) h.defined k.defined
        ∙ ap₂ ◌/ᵛ◌ (sym (product h.us k.us)) (sym (product h.ls k.ls));
  }

  upper_ne : (y : Value (suc d)) (w : Value 0) (k : At before a y w) → ¬ (w ≡ zero_value) → ¬ (value_at k.us a ≡ zero_value)
  upper_ne y w k n z = n (k.value ∙ ap (λ u. u /ᵛ value_at k.ls a) z ∙ ring (ValueR 0) (inv_value (value_at k.ls a) ∷ []) (search reads depth 12) refl)

  at_div : (x y : Value (suc d)) (v w : Value 0) → At before a x v → At before a y w → ¬ (w ≡ zero_value) → At before a (x /ᵛ y) (v /ᵛ w)
  at_div x y v w h k n = record {
    upper = poly_mul (ValueR d) h.upper k.lower;
    lower = poly_mul (ValueR d) h.lower k.upper;
    us = poly_mul (ValueR 0) h.us k.ls;
    ls = poly_mul (ValueR 0) h.ls k.us;
    quotient = ap₂ ◌/ᵛ◌ h.quotient k.quotient ∙ sym (over_value-div d h.upper h.lower k.upper k.lower (apart Has laws h.lower h.ls a h.lowers h.defined) (apart Has laws k.lower k.ls a k.lowers k.defined)
        (apart Has laws k.upper k.us a k.uppers (upper_ne y w k n)));
    uppers = pairwise-mul Has laws h.upper k.lower h.us k.ls h.uppers k.lowers;
    lowers = pairwise-mul Has laws h.lower k.upper h.ls k.us h.lowers k.uppers;
    defined = λ z. both_ne (value_at h.ls a) (value_at k.us a) h.defined (upper_ne y w k n) (sym (product h.ls k.us) ∙ z);
    value = ap₂ ◌/ᵛ◌ h.value k.value ∙ split_div (value_at h.us a) (value_at h.ls a) (value_at k.us a) (value_at k.ls a) h.defined k.defined (upper_ne y w k n)
        ∙ ap₂ ◌/ᵛ◌ (sym (product h.us k.ls)) (sym (product h.ls k.us));
  }

  at_none : (x : Value (suc d)) (v : Value 0) → At before a x v → At {d = d} before a zero_value zero_value
  at_none x v h = record {
    upper = [];
    lower = h.lower;
    us = [];
    ls = h.ls;
    quotient = sym (over_value-zero d h.lower (apart Has laws h.lower h.ls a h.lowers h.defined));
    uppers = tt;
    lowers = h.lowers;
    defined = h.defined;
    value = ring (ValueR 0) (inv_value (value_at h.ls a) ∷ []) (search reads depth 12) refl;
  }

-- ---- Every depth

aligned : {d : ℕ} (before : List ℤ) (a : ℤ) (args : List ℤ) (x : Value (suc d)) (v : Value 0) → args ≡ before ++ a ∷ [] → HasValue (suc d) x args v → At before a x v
aligned {d} before a args x v e h =
    let s = last_same h.before before h.last a (sym h.arguments ∙ e) in
    record {
      upper = h.upper;
      lower = h.lower;
      us = h.upper_values;
      ls = h.lower_values;
      quotient = h.quotient;
      uppers = subst (λ (b : List ℤ). Pairwise (λ c w. HasValue d c b w) h.upper h.upper_values) s.0 h.uppers;
      lowers = subst (λ (b : List ℤ). Pairwise (λ c w. HasValue d c b w) h.lower h.lower_values) s.0 h.lowers;
      defined = subst (λ (n : ℤ). ¬ (value_at h.lower_values n ≡ zero_value)) s.1 h.defined;
      value = subst (λ (n : ℤ). v ≡ value_at h.upper_values n /ᵛ value_at h.lower_values n) s.1 h.value;
    }

has_at : {d : ℕ} (before : List ℤ) (a : ℤ) (args : List ℤ) (x : Value (suc d)) (v : Value 0) → args ≡ before ++ a ∷ [] → At before a x v → HasValue (suc d) x args v
has_at before a args x v e h = record {
  before = before;
  last = a;
  upper = h.upper;
  lower = h.lower;
  upper_values = h.us;
  lower_values = h.ls;
  arguments = e;
  quotient = h.quotient;
  uppers = h.uppers;
  lowers = h.lowers;
  defined = h.defined;
  value = h.value;
}

pub has_laws : (d : ℕ) (args : List ℤ) → Laws (λ (x : Value d) v. HasValue d x args v)
has_laws zero args = record {
  none = λ x v h. (h.0, refl);
  unique = λ x v w h k. h.1 ∙ sym k.1;
  add = λ x y v w h k. (h.0, ap₂ ◌+ᵛ◌ h.1 k.1);
  neg = λ x v h. (h.0, ap neg_value h.1);
  mul = λ x y v w h k. (h.0, ap₂ ◌*ᵛ◌ h.1 k.1);
}
has_laws (suc d) args = record {
  none = λ x v h. has_at h.before h.last args zero_value zero_value h.arguments (at_none h.before h.last (has_laws d h.before) x v (aligned h.before h.last args x v h.arguments h));
  unique = λ x v w h k. at_unique h.before h.last (has_laws d h.before) x v w (aligned h.before h.last args x v h.arguments h) (aligned h.before h.last args x w h.arguments k);
  add = λ x y v w h k. has_at h.before h.last args (x +ᵛ y) (v +ᵛ w) h.arguments (at_add h.before h.last (has_laws d h.before) x y v w (aligned h.before h.last args x v h.arguments h) (aligned h.before h.last args y w h.arguments k));
  neg = λ x v h. has_at h.before h.last args (neg_value x) (neg_value v) h.arguments (at_neg h.before h.last (has_laws d h.before) x v (aligned h.before h.last args x v h.arguments h));
  mul = λ x y v w h k. has_at h.before h.last args (x *ᵛ y) (v *ᵛ w) h.arguments (at_mul h.before h.last (has_laws d h.before) x y v w (aligned h.before h.last args x v h.arguments h) (aligned h.before h.last args y w h.arguments k));
}

module _ (d : ℕ) (args : List ℤ) (x y : Value d) (v w : Value 0) where
  pub has_zero : HasValue d x args v → HasValue d zero_value args zero_value
  has_zero h = (has_laws d args).none x v h

  pub has_unique : HasValue d x args v → HasValue d x args w → v ≡ w
  has_unique h k = (has_laws d args).unique x v w h k

  pub has_add : HasValue d x args v → HasValue d y args w → HasValue d (x +ᵛ y) args (v +ᵛ w)
  has_add h k = (has_laws d args).add x y v w h k

  pub has_neg : HasValue d x args v → HasValue d (neg_value x) args (neg_value v)
  has_neg h = (has_laws d args).neg x v h

  pub has_sub : HasValue d x args v → HasValue d y args w → HasValue d (x -ᵛ y) args (v -ᵛ w)
  has_sub h k = (has_laws d args).add x (neg_value y) v (neg_value w) h ((has_laws d args).neg y w k)

  pub has_mul : HasValue d x args v → HasValue d y args w → HasValue d (x *ᵛ y) args (v *ᵛ w)
  has_mul h k = (has_laws d args).mul x y v w h k

pub has_div : (d : ℕ) (args : List ℤ) (x y : Value d) (v w : Value 0) → HasValue d x args v → HasValue d y args w → ¬ (w ≡ zero_value) → HasValue d (x /ᵛ y) args (v /ᵛ w)
has_div zero args x y v w h k n = (h.0, ap₂ ◌/ᵛ◌ h.1 k.1)
has_div (suc d) args x y v w h k n = has_at h.before h.last args (x /ᵛ y) (v /ᵛ w) h.arguments
    (at_div h.before h.last (has_laws d h.before) x y v w (aligned h.before h.last args x v h.arguments h) (aligned h.before h.last args y w h.arguments k) n)

first_count : (d : ℕ) (before : List ℤ) (a : ℤ) → ((c : Value d) (w : Value 0) → HasValue d c before w → length before ≡ d)
    → (p : List (Value d)) (w : List (Value 0)) → Pairwise (λ c w. HasValue d c before w) p w → ¬ (value_at w a ≡ zero_value) → length before ≡ d
first_count d before a count [] [] h n = absurd (n refl)
first_count d before a count [] (v ∷ w) h n = absurd h
first_count d before a count (c ∷ p) [] h n = absurd h
first_count d before a count (c ∷ p) (v ∷ w) h n = count c v h.0

pub has_count : (d : ℕ) (args : List ℤ) (x : Value d) (v : Value 0) → HasValue d x args v → length args ≡ d
has_count zero args x v h = ap length h.0
has_count (suc d) args x v h =
    let c = first_count d h.before h.last (has_count d h.before) h.lower h.lower_values h.lowers h.defined in
    ap length h.arguments ∙ length-append h.before (h.last ∷ []) ∙ one (length h.before) ∙ ap suc c
  where
    one : (n : ℕ) → n + 1 ≡ suc n
    one n = omega arith
