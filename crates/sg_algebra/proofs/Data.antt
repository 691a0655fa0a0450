-- The meaning of data: the schoolbook operations have the values that they should, and equality of valid data is equality of values.
--   Meaningful d        what is proved of depth d, by induction on d: `meaningful d`
--     valid_add, -sub, -mul, -div, -zero, -one        validity is kept; what is divided by isn't zero
--     meaning-add, -sub, -mul, -div, -zero, -one      the values of the operations
--     same, back                                      valid data are equal exactly where their values are
--   datum_same, same_datum    these two, by name
--   zero_meaning              the value is zero only where the datum is equal to 0
--   decide_datum              so equality of valid data is decided
--   entry_is                  the coefficient's value is the coefficient of the values
--   lower_some, upper_some    the denominator isn't the zero polynomial, and the numerator isn't where the datum isn't 0
use Rattle.std.proofs.Common.{◌≡◌, ◌≢◌, ℕ, zero, suc, ◌<◌, refl, sym, ◌∙◌, ap, ap₂, List, [], ◌∷◌, map, inl, inr, ℤ, pos, unsigned_abs, mul-pos, arith}
use Rattle.std.proofs.lemmas.Int.{ints}
use Rattle.sg_algebra.specs.Coefficients.{coef, Each, conv}
use Rattle.sg_algebra.specs.Fraction.{Fraction}
use Rattle.sg_algebra.specs.Datum.{Datum, zero_datum, one_datum, entry, Operations, operations, sum_list, difference_list, product_list, SameDatum, Valid}
use Rattle.sg_algebra.proofs.Solver.{ring, reads}
use Rattle.sg_algebra.proofs.Field.{product_ne}
use Rattle.sg_algebra.proofs.PolynomialRing.{PolyR}
use Rattle.sg_algebra.proofs.Degree.{PolyD, degree_or_zero}
use Rattle.sg_algebra.proofs.Lists.{each-zip, each-map, each-conv, map-zip_longest, map-map, map-conv}
use Rattle.sg_algebra.proofs.Value.{Value, ◌+ᵛ◌, ◌-ᵛ◌, ◌*ᵛ◌, ◌/ᵛ◌, neg_value, zero_value, one_value, over_value, meaning}
use Rattle.sg_algebra.proofs.ValueField.{ValueR, ValueD, value_is_zero, value_one_ne, value_same}
use Rattle.sg_algebra.proofs.OverValue.{over_value-add, over_value-sub, over_value-mul, over_value-div, over_value_same, same_over_value, over_value-zero, over_value-self}
use Rattle.sg_algebra.proofs.Rational.{fraction_value-add, fraction_value-sub, fraction_value-mul, fraction_value-over, fraction_value_same, same_fraction_value, fraction_value-zero, fraction_value-one, fraction_value_zero}

pub record Meaningful (d : ℕ) : Type 0 where
  pub valid_add : (x y : Datum d) → Valid d x → Valid d y → Valid d ((operations d).add x y)
  pub valid_sub : (x y : Datum d) → Valid d x → Valid d y → Valid d ((operations d).sub x y)
  pub valid_mul : (x y : Datum d) → Valid d x → Valid d y → Valid d ((operations d).mul x y)
  pub valid_div : (x y : Datum d) → Valid d x → Valid d y → ¬ (meaning d y ≡ zero_value) → Valid d ((operations d).div x y)
  pub valid_zero : Valid d (zero_datum d)
  pub valid_one : Valid d (one_datum d)
  pub meaning-add : (x y : Datum d) → Valid d x → Valid d y → meaning d ((operations d).add x y) ≡ meaning d x +ᵛ meaning d y
  pub meaning-sub : (x y : Datum d) → Valid d x → Valid d y → meaning d ((operations d).sub x y) ≡ meaning d x -ᵛ meaning d y
  pub meaning-mul : (x y : Datum d) → Valid d x → Valid d y → meaning d ((operations d).mul x y) ≡ meaning d x *ᵛ meaning d y
  pub meaning-div : (x y : Datum d) → Valid d x → Valid d y → ¬ (meaning d y ≡ zero_value) → meaning d ((operations d).div x y) ≡ meaning d x /ᵛ meaning d y
  pub meaning-zero : meaning d (zero_datum d) ≡ zero_value
  pub meaning-one : meaning d (one_datum d) ≡ one_value
  pub same : (x y : Datum d) → Valid d x → Valid d y → SameDatum d x y → meaning d x ≡ meaning d y
  pub back : (x y : Datum d) → Valid d x → Valid d y → meaning d x ≡ meaning d y → SameDatum d x y

-- ---- Depth 0

abs_positive : (n : ℤ) → n ≢ pos 0 → 0 < unsigned_abs n
abs_positive n h = grind (arith, ints)

num_ne : (y : Fraction) → 0 < y.den → ¬ (meaning 0 y ≡ zero_value) → y.num ≢ pos 0
unfolding meaning
num_ne y h n e = n (fraction_value_zero y.num y.den h e)

meaningful_zero : Meaningful 0
unfolding meaning
meaningful_zero = record {
  valid_add = λ x y g h. mul-pos g h;
  valid_sub = λ x y g h. mul-pos g h;
  valid_mul = λ x y g h. mul-pos g h;
  valid_div = λ x y g h n. mul-pos g (abs_positive y.num (num_ne y h n));
  valid_zero = omega arith;
  valid_one = omega arith;
  meaning-add = λ x y g h. fraction_value-add x.num y.num x.den y.den g h;
  meaning-sub = λ x y g h. fraction_value-sub x.num y.num x.den y.den g h;
  meaning-mul = λ x y g h. fraction_value-mul x.num y.num x.den y.den g h;
  meaning-div = λ x y g h n. fraction_value-over x.num y.num x.den y.den g h (num_ne y h n);
  meaning-zero = fraction_value-zero;
  meaning-one = fraction_value-one;
  same = λ x y g h e. fraction_value_same x.num y.num x.den y.den g h e;
  back = λ x y g h e. same_fraction_value x.num y.num x.den y.den g h e;
}

-- ---- One depth more

module _ (d : ℕ) (H : Meaningful d) where
  open PolyR (ValueR d) use {◌≈◌ as ◌≋◌, ◌⊞◌ as ◌⊕◌, ◌⊠◌ as ◌⊗◌, ⊟ as ⊖}

  abbrev o : Operations (Datum d)
  o = operations d

  abbrev z : Datum d
  z = zero_datum d

  abbrev values : List (Datum d) → List (Value d)
  values p = map (meaning d) p

  abbrev ValidList : List (Datum d) → Type 0
  ValidList p = Each (Valid d) p

  abbrev times : List (Datum d) → List (Datum d) → List (Datum d)
  times p q = product_list o z p q

  product_valid : (p q : List (Datum d)) → ValidList p → ValidList q → ValidList (times p q)
  product_valid p q g h = each-conv (Valid d) o.add o.mul H.valid_add H.valid_mul z H.valid_zero p q g h

  product_is : (p q : List (Datum d)) → ValidList p → ValidList q → values (times p q) ≡ values p ⊗ values q
  product_is p q g h =
      map-conv (meaning d) (Valid d) o.add o.mul ◌+ᵛ◌ ◌*ᵛ◌ H.valid_add H.valid_mul H.meaning-add H.meaning-mul z H.valid_zero p q g h
      ∙ ap (λ c. conv ◌+ᵛ◌ ◌*ᵛ◌ c (values p) (values q)) H.meaning-zero

  sum_valid : (p q : List (Datum d)) → ValidList p → ValidList q → ValidList (sum_list o p q)
  sum_valid p q g h = each-zip (Valid d) o.add o.mul H.valid_add H.valid_mul p q g h

  sum_is : (p q : List (Datum d)) → ValidList p → ValidList q → values (sum_list o p q) ≡ values p ⊕ values q
  sum_is p q g h = map-zip_longest (meaning d) (Valid d) o.add o.mul ◌+ᵛ◌ ◌*ᵛ◌ H.valid_add H.valid_mul H.meaning-add H.meaning-mul p q g h

  negative_valid : (q : List (Datum d)) → ValidList q → ValidList (map (o.sub z) q)
  negative_valid q h = each-map (Valid d) (o.sub z) (λ x v. H.valid_sub z x H.valid_zero v) q h

  opposite : (x : Value d) → zero_value -ᵛ x ≡ neg_value x
  opposite x = ring (ValueR d) (x ∷ []) (search reads depth 12) refl

  negative_is : (q : List (Datum d)) → ValidList q → values (map (o.sub z) q) ≡ ⊖ (values q)
  negative_is q h =
      map-map (meaning d) (Valid d) (o.sub z) neg_value
      (λ x v. H.meaning-sub z x H.valid_zero v ∙ ap (λ c. c -ᵛ meaning d x) H.meaning-zero ∙ opposite (meaning d x)) q h

  difference_valid : (p q : List (Datum d)) → ValidList p → ValidList q → ValidList (difference_list o z p q)
  difference_valid p q g h = sum_valid p (map (o.sub z) q) g (negative_valid q h)

  difference_is : (p q : List (Datum d)) → ValidList p → ValidList q → values (difference_list o z p q) ≡ values p ⊕ ⊖ (values q)
  difference_is p q g h = sum_is p (map (o.sub z) q) g (negative_valid q h) ∙ ap (λ r. values p ⊕ r) (negative_is q h)

  -- ---- Coefficients

  entry_valid : (p : List (Datum d)) (n : ℕ) → ValidList p → Valid d (entry d p n)
  entry_valid [] n g = H.valid_zero
  entry_valid (x ∷ p) zero g = g.0
  entry_valid (x ∷ p) (suc n) g = entry_valid p n g.1

  entry_meaning : (p : List (Datum d)) (n : ℕ) → meaning d (entry d p n) ≡ coef (ValueR d) (values p) n
  entry_meaning [] n = H.meaning-zero
  entry_meaning (x ∷ p) zero = refl
  entry_meaning (x ∷ p) (suc n) = entry_meaning p n

  abbrev SomeEntry : List (Datum d) → Type 0
  SomeEntry q = (n : ℕ) × ¬ SameDatum d (entry d q n) z

  -- some entry isn't 0: the polynomial of the values isn't zero
  values_ne : (q : List (Datum d)) → ValidList q → SomeEntry q → ¬ (values q ≋ [])
  values_ne q g s e = s.1 (H.back (entry d q s.0) z (entry_valid q s.0 g) H.valid_zero (entry_meaning q s.0 ∙ e.image.at s.0 ∙ sym H.meaning-zero))

  ne_values : (q : List (Datum d)) → ValidList q → ¬ (values q ≋ []) → SomeEntry q
  ne_values q g n = elim (degree_or_zero (ValueR d) (value_is_zero d) (values q)) [
    | inl e ↦ absurd (n e)
    | inr e ↦ (e.0, λ s. e.1.lead (sym (entry_meaning q e.0) ∙ H.same (entry d q e.0) z (entry_valid q e.0 g) H.valid_zero s ∙ H.meaning-zero))
  ]

  product_some : (p q : List (Datum d)) → ValidList p → ValidList q → ¬ (values p ≋ []) → ¬ (values q ≋ []) → SomeEntry (times p q)
  product_some p q g h a b = ne_values (times p q) (product_valid p q g h) (rw (product_is p q g h) (product_ne (PolyD (ValueD d)) a b))

  one_ne_list : (x : Value d) → x ≡ one_value → ¬ ((x ∷ []) ≋ [])
  one_ne_list x e h = value_one_ne d (sym e ∙ h.image.at 0)

  one_list : ¬ (values (one_datum d ∷ []) ≋ [])
  one_list = one_ne_list (meaning d (one_datum d)) H.meaning-one

  one_some : SomeEntry (one_datum d ∷ [])
  one_some = ne_values (one_datum d ∷ []) (H.valid_one, tt) one_list

  lower_ne : (x : Datum (suc d)) → Valid (suc d) x → ¬ (values x.1 ≋ [])
  lower_ne x g = values_ne x.1 g.1 g.2

  -- what isn't zero has an upper list that isn't
  upper_ne : (x : Datum (suc d)) → Valid (suc d) x → ¬ (meaning (suc d) x ≡ zero_value) → ¬ (values x.0 ≋ [])
  unfolding meaning
  upper_ne x g n e = n (over_value_same d (values x.0) (values x.1) [] (values x.1) (lower_ne x g) (lower_ne x g) ((PolyR (ValueR d)).mul_cong e (PolyR (ValueR d)).rfl) ∙ over_value-zero d (values x.1) (lower_ne x g))

  -- ---- The operations and equality

  cross_is : (p q r s : List (Datum d)) → ValidList p → ValidList q → ValidList r → ValidList s → ((n : ℕ) → SameDatum d (entry d (times p s) n) (entry d (times r q) n)) → values p ⊗ values s ≋ values r ⊗ values q
  cross_is p q r s vp vq vr vs e = record {
    image = record {
      at = λ n. rw (← (product_is p s vp vs), ← (product_is r q vr vq), ← (entry_meaning (times p s) n), ← (entry_meaning (times r q) n))
          (H.same (entry d (times p s) n) (entry d (times r q) n) (entry_valid (times p s) n (product_valid p s vp vs)) (entry_valid (times r q) n (product_valid r q vr vq)) (e n));
    };
  }

  is_cross : (p q r s : List (Datum d)) → ValidList p → ValidList q → ValidList r → ValidList s → values p ⊗ values s ≋ values r ⊗ values q → (n : ℕ) → SameDatum d (entry d (times p s) n) (entry d (times r q) n)
  is_cross p q r s vp vq vr vs e n =
      H.back (entry d (times p s) n) (entry d (times r q) n) (entry_valid (times p s) n (product_valid p s vp vs)) (entry_valid (times r q) n (product_valid r q vr vq))
      (rw (entry_meaning (times p s) n, entry_meaning (times r q) n, product_is p s vp vs, product_is r q vr vq) (e.image.at n))

  meaningful_suc : Meaningful (suc d)
  unfolding meaning
  meaningful_suc = record {
    valid_add = λ x y g h. (
      sum_valid (times x.0 y.1) (times y.0 x.1) (product_valid x.0 y.1 g.0 h.1) (product_valid y.0 x.1 h.0 g.1),
      product_valid x.1 y.1 g.1 h.1,
      product_some x.1 y.1 g.1 h.1 (lower_ne x g) (lower_ne y h),
    );
    valid_sub = λ x y g h. (
      difference_valid (times x.0 y.1) (times y.0 x.1) (product_valid x.0 y.1 g.0 h.1) (product_valid y.0 x.1 h.0 g.1),
      product_valid x.1 y.1 g.1 h.1,
      product_some x.1 y.1 g.1 h.1 (lower_ne x g) (lower_ne y h),
    );
    valid_mul = λ x y g h. (product_valid x.0 y.0 g.0 h.0, product_valid x.1 y.1 g.1 h.1, product_some x.1 y.1 g.1 h.1 (lower_ne x g) (lower_ne y h));
    valid_div = λ x y g h n. (product_valid x.0 y.1 g.0 h.1, product_valid x.1 y.0 g.1 h.0, product_some x.1 y.0 g.1 h.0 (lower_ne x g) (upper_ne y h n));
    valid_zero = (tt, (H.valid_one, tt), one_some);
    valid_one = ((H.valid_one, tt), (H.valid_one, tt), one_some);
    meaning-add = λ x y g h.
        ap₂ over_value (sum_is (times x.0 y.1) (times y.0 x.1) (product_valid x.0 y.1 g.0 h.1) (product_valid y.0 x.1 h.0 g.1) ∙ ap₂ ◌⊕◌ (product_is x.0 y.1 g.0 h.1) (product_is y.0 x.1 h.0 g.1)) (product_is x.1 y.1 g.1 h.1)
        ∙ over_value-add d (values x.0) (values x.1) (values y.0) (values y.1) (lower_ne x g) (lower_ne y h);
    meaning-sub = λ x y g h.
        ap₂ over_value (difference_is (times x.0 y.1) (times y.0 x.1) (product_valid x.0 y.1 g.0 h.1) (product_valid y.0 x.1 h.0 g.1) ∙ ap₂ (λ a b. a ⊕ ⊖ b) (product_is x.0 y.1 g.0 h.1) (product_is y.0 x.1 h.0 g.1)) (product_is x.1 y.1 g.1 h.1)
        ∙ over_value-sub d (values x.0) (values x.1) (values y.0) (values y.1) (lower_ne x g) (lower_ne y h);
    meaning-mul = λ x y g h.
        ap₂ over_value (product_is x.0 y.0 g.0 h.0) (product_is x.1 y.1 g.1 h.1)
        ∙ over_value-mul d (values x.0) (values x.1) (values y.0) (values y.1) (lower_ne x g) (lower_ne y h);
    meaning-div = λ x y g h n.
        ap₂ over_value (product_is x.0 y.1 g.0 h.1) (product_is x.1 y.0 g.1 h.0)
        ∙ over_value-div d (values x.0) (values x.1) (values y.0) (values y.1) (lower_ne x g) (lower_ne y h) (upper_ne y h n);
    meaning-zero = over_value-zero d (values (one_datum d ∷ [])) one_list;
    meaning-one = over_value-self d (values (one_datum d ∷ [])) one_list;
    same = λ x y g h e. over_value_same d (values x.0) (values x.1) (values y.0) (values y.1) (lower_ne x g) (lower_ne y h) (cross_is x.0 x.1 y.0 y.1 g.0 g.1 h.0 h.1 e);
    back = λ x y g h e. is_cross x.0 x.1 y.0 y.1 g.0 g.1 h.0 h.1 (same_over_value d (values x.0) (values x.1) (values y.0) (values y.1) (lower_ne x g) (lower_ne y h) e);
  }

-- ---- Every depth

pub meaningful : (d : ℕ) → Meaningful d
meaningful zero = meaningful_zero
meaningful (suc d) = meaningful_suc d (meaningful d)

pub datum_same : (d : ℕ) (x y : Datum d) → Valid d x → Valid d y → SameDatum d x y → meaning d x ≡ meaning d y
datum_same d = (meaningful d).same

pub same_datum : (d : ℕ) (x y : Datum d) → Valid d x → Valid d y → meaning d x ≡ meaning d y → SameDatum d x y
same_datum d = (meaningful d).back

-- a valid datum with the value zero is equal to 0
pub zero_meaning : (d : ℕ) (x : Datum d) → Valid d x → meaning d x ≡ zero_value → SameDatum d x (zero_datum d)
zero_meaning d x g e = same_datum d x (zero_datum d) g (meaningful d).valid_zero (e ∙ sym (meaningful d).meaning-zero)

pub decide_datum : (d : ℕ) (x y : Datum d) → Valid d x → Valid d y → Dec (SameDatum d x y)
decide_datum d x y g h = elim (value_same d (meaning d x) (meaning d y)) [ yes e ↦ yes (same_datum d x y g h e) | no n ↦ no (λ s. n (datum_same d x y g h s)) ]

pub entry_is : (d : ℕ) (p : List (Datum d)) (n : ℕ) → meaning d (entry d p n) ≡ coef (ValueR d) (map (meaning d) p) n
entry_is d p n = entry_meaning d (meaningful d) p n

pub lower_some : (d : ℕ) (x : Datum (suc d)) → Valid (suc d) x → ¬ ((PolyR (ValueR d)).◌≈◌ (map (meaning d) x.1) [])
lower_some d = lower_ne d (meaningful d)

pub upper_some : (d : ℕ) (x : Datum (suc d)) → Valid (suc d) x → ¬ (meaning (suc d) x ≡ zero_value) → ¬ ((PolyR (ValueR d)).◌≈◌ (map (meaning d) x.0) [])
upper_some d = upper_ne d (meaningful d)
