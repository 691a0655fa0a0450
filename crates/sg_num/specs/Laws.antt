-- The laws of values at whole numbers.
--   NonzeroPast d b x     whole numbers from b on, one for each of the d variables, at which x has a value, which isn't 0
--   LawsOfValues d        what isn't 0 has such numbers past every bound; at given numbers there is one value at most; and sums, differences, products
--                         and quotients have the values that they should
--   laws_of_values        they hold at every depth
use Rattle.std.specs.Prelude.{◌≡◌, ℕ, zero, suc, ◌<◌, refl, List, [], ◌∷◌, map, length, ℤ, pos, negsuc, neg_ℤ, ◌*ℤ◌, ◌≤ℤ◌}
use Rattle.std.proofs.Common.{sym, ◌∙◌, ap, ap₂, subst, arith}
use Rattle.std.proofs.lemmas.Int.{ints}
use Rattle.std.proofs.Math.Logic.{∥∥₁_map, ∥∥₁_map₂, ∥∥₁_prop}
use mathlib.Core.Quot.{mk, sound, ind}
use Rattle.sg_algebra.specs.Ring.{Domain}
use Rattle.sg_algebra.specs.Coefficients.{Each, coef}
use Rattle.sg_algebra.specs.Datum.{Datum, SameDatum, Valid, entry, zero_datum}
use Rattle.sg_algebra.proofs.Whole.{ℤD, ℤR, readsℤ}
use Rattle.sg_algebra.proofs.Solver.{by, scale}
use Rattle.sg_algebra.proofs.Field.{domain}
use Rattle.sg_algebra.proofs.Degree.{PolyD, degree_of}
use Rattle.sg_algebra.proofs.Ratio.{ratio, ratio-is}
use Rattle.sg_algebra.proofs.Level.{Level, K}
use Rattle.sg_algebra.proofs.Value.{Value, ◌+ᵛ◌, ◌-ᵛ◌, ◌*ᵛ◌, ◌/ᵛ◌, zero_value, fraction_value, over_value, raws, meaning}
use Rattle.sg_algebra.proofs.ValueField.{raw_same}
use Rattle.sg_algebra.proofs.OverValue.{raws-coef}
use Rattle.sg_algebra.proofs.Data.{meaningful, datum_same, entry_is}
use Rattle.sg_algebra.proofs.Place.{HasValue}
use Rattle.sg_algebra.proofs.Places.{has_unique, has_add, has_sub, has_mul, has_div}
use Rattle.sg_algebra.proofs.Nonzero.{NonzeroValue, nonzero_value}

pub record NonzeroPast (d b : ℕ) (x : Value d) : Type 0 where
  pub args : List ℤ
  pub value : Value 0
  pub count : length args ≡ d
  pub past : Each (λ a. pos b ≤ℤ a) args
  pub has : HasValue d x args value
  pub nonzero : ¬ (value ≡ zero_value)

pub record LawsOfValues (d : ℕ) : Type 0 where
  pub nonzero : (b : ℕ) (x : Value d) → ¬ (x ≡ zero_value) → ∥ NonzeroPast d b x ∥₁
  pub unique : (args : List ℤ) (x : Value d) (v w : Value 0) → HasValue d x args v → HasValue d x args w → v ≡ w
  pub sum : (args : List ℤ) (x y : Value d) (v w : Value 0) → HasValue d x args v → HasValue d y args w → HasValue d (x +ᵛ y) args (v +ᵛ w)
  pub difference : (args : List ℤ) (x y : Value d) (v w : Value 0) → HasValue d x args v → HasValue d y args w → HasValue d (x -ᵛ y) args (v -ᵛ w)
  pub product : (args : List ℤ) (x y : Value d) (v w : Value 0) → HasValue d x args v → HasValue d y args w → HasValue d (x *ᵛ y) args (v *ᵛ w)
  pub quotient : (args : List ℤ) (x y : Value d) (v w : Value 0) → HasValue d x args v → HasValue d y args w → ¬ (w ≡ zero_value) → HasValue d (x /ᵛ y) args (v /ᵛ w)

-- ---- Each value is that of a datum

record IsDatum (d : ℕ) (x : Value d) : Type 0 where
  datum : Datum d
  valid : Valid d datum
  is : meaning d datum ≡ x

record AreData (d : ℕ) (xs : List (K d)) : Type 0 where
  data_of : List (Datum d)
  valid : Each (Valid d) data_of
  is : raws (map (meaning d) data_of) ≡ xs

wrap : {d : ℕ} {x y : K d} → x ≡ y → ◌≡◌ {A = Value d} (record { raw = x }) (record { raw = y })
wrap e = ap (λ r. record { raw = r }) e

fraction_datum : (n e : ℤ) (h : ¬ (e ≡ pos 0)) → IsDatum 0 (record { raw = mk (record { num = n; den = e; den_ne = h }) })
unfolding meaning fraction_value
fraction_datum n (pos m) h = record {
  datum = record { num = n; den = m };
  valid = positive m h;
  is = wrap (ratio-is ℤD n (pos m) h);
}
  where
    positive : (m : ℕ) → ¬ (pos m ≡ pos 0) → 0 < m
    positive m h = grind (arith, ints)
fraction_datum n (negsuc m) h = record {
  datum = record { num = neg_ℤ n; den = suc m };
  valid = omega arith;
  is = wrap (ratio-is ℤD (neg_ℤ n) (pos (suc m)) (apart m) ∙ sound (record { cross = turned n m }));
}
  where
    apart : (m : ℕ) → ¬ (pos (suc m) ≡ pos 0)
    apart m e = omega (arith, ints)

    turned : (n : ℤ) (m : ℕ) → neg_ℤ n *ℤ negsuc m ≡ n *ℤ pos (suc m)
    turned n m = both n (pos (suc m)) (negsuc m) refl
      where
        both : (n k w : ℤ) → w ≡ neg_ℤ k → neg_ℤ n *ℤ w ≡ n *ℤ k
        both n k w e = by ℤR (n ∷ k ∷ w ∷ []) (scale ℤR (neg_ℤ n) e) (search readsℤ depth 16) refl

zero_is : (d : ℕ) (x : K d) → x ≡ (zero_value {d = d}).raw → (Level d).R.◌≈◌ x (Level d).R.O
unfolding zero_value
zero_is d x e = raw_same d (record { raw = x }) zero_value (wrap e)

module _ (d : ℕ) (below : (x : Value d) → ∥ IsDatum d x ∥₁) where
  all_data : (xs : List (K d)) → ∥ AreData d xs ∥₁
  unfolding raws
  all_data [] = ∣ record { data_of = []; valid = tt; is = refl } ∣₁
  all_data (x ∷ xs) = ∥∥₁_map₂ (below (record { raw = x })) (all_data xs)
      (λ c r. record { data_of = c.datum ∷ r.data_of; valid = (c.valid, r.valid); is = ap₂ ◌∷◌ (ap (λ (v : Value d). v.raw) c.is) r.is })

  abbrev P : Domain
  P = PolyD (domain (Level d))

  open P use {R}
  open R use {◌≈◌, O}

  quotient_datum : (p q : List (K d)) (h : ¬ (q ≈ O)) → AreData d p → AreData d q → IsDatum (suc d) (record { raw = mk (record { num = p; den = q; den_ne = h }) })
  unfolding meaning over_value
  quotient_datum p q h u w = record {
    datum = (u.data_of, w.data_of);
    valid = (u.valid, w.valid, some);
    is = ap₂ (λ x y. record { raw = ratio P x y }) u.is w.is ∙ wrap (ratio-is P p q h);
  }
    where
      entry_valid : (l : List (Datum d)) (n : ℕ) → Each (Valid d) l → Valid d (entry d l n)
      entry_valid [] n g = (meaningful d).valid_zero
      entry_valid (x ∷ l) zero g = g.0
      entry_valid (x ∷ l) (suc n) g = entry_valid l n g.1

      zero_raw : (n : ℕ) → SameDatum d (entry d w.data_of n) (zero_datum d) → coef (Level d).R q n ≡ (zero_value {d = d}).raw
      zero_raw n s = ap (λ l. coef (Level d).R l n) (sym w.is) ∙ raws-coef d (map (meaning d) w.data_of) n
          ∙ ap (λ (v : Value d). v.raw) (sym (entry_is d w.data_of n) ∙ datum_same d (entry d w.data_of n) (zero_datum d) (entry_valid w.data_of n w.valid) (meaningful d).valid_zero s ∙ (meaningful d).meaning-zero)

      some : (n : ℕ) × ¬ SameDatum d (entry d w.data_of n) (zero_datum d)
      some =
          let c = degree_of (Level d).R (Level d).is_zero q h in
          (c.0, λ s. c.1.lead (zero_is d (coef (Level d).R q c.0) (zero_raw c.0 s)))

datum_of : (d : ℕ) (x : Value d) → ∥ IsDatum d x ∥₁
datum_of zero x = ind (λ r. ∥∥₁_prop {A = IsDatum 0 (record { raw = r })}) (λ q. ∣ fraction_datum q.num q.den q.den_ne ∣₁) x.raw
datum_of (suc d) x = ind (λ r. ∥∥₁_prop {A = IsDatum (suc d) (record { raw = r })})
    (λ q. ∥∥₁_map₂ (all_data d (datum_of d) q.num) (all_data d (datum_of d) q.den) (quotient_datum d (datum_of d) q.num q.den q.den_ne)) x.raw

-- ---- The laws

nonzero_past : (d b : ℕ) (x : Value d) → ¬ (x ≡ zero_value) → IsDatum d x → NonzeroPast d b x
nonzero_past d b x n c = moved (nonzero_value d b c.datum c.valid (λ e. n (sym c.is ∙ e)))
  where
    moved : NonzeroValue d b c.datum → NonzeroPast d b x
    moved v = record { args = v.args; value = v.value; count = v.count; past = v.past; has = subst (λ (y : Value d). HasValue d y v.args v.value) c.is v.has; nonzero = v.nonzero }

pub laws_of_values : (d : ℕ) → LawsOfValues d
laws_of_values d = record {
  nonzero = λ b x n. ∥∥₁_map (datum_of d x) (nonzero_past d b x n);
  unique = λ args x v w. has_unique d args x x v w;
  sum = has_add d;
  difference = has_sub d;
  product = has_mul d;
  quotient = has_div d;
}
