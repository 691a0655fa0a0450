-- The law of exponents: of fractions over pairwise coprime whole numbers, and of rational functions of n over pairwise coprime polynomials and the fractions.
--   plain_apart            coprime elements are apart under the identity
--   ℤ_inside, plain_inside the whole numbers in the fractions, and polynomials in the rational functions, with the identity
--   numbers_law            fractions that are ± products of powers of pairwise coprime numbers, none of them 0, 1 or -1
--   functions_law          rational functions that are constants times products of powers of pairwise coprime polynomials, none of them a constant
use Rattle.std.proofs.Common.{◌≡◌, ℕ, zero, suc, refl, sym, ◌∙◌, ap, List, [], map, ℤ, pos, negsuc, ◌⊎◌, inl, inr, ◌↔◌, arith}
use Rattle.sg_algebra.specs.Ring.{Ring, Field}
use Rattle.sg_algebra.specs.Coefficients.{Each}
use Rattle.sg_algebra.proofs.Solver.{ring, reads}
use Rattle.sg_algebra.proofs.Whole.{ℤR, ℤD, mul-oneℤ}
use Rattle.sg_algebra.proofs.WholeDivisors.{unit_abs, one_or_minus_one}
use Rattle.sg_algebra.proofs.Divides.{identity, iter}
use Rattle.sg_algebra.proofs.Coprime.{Coprime, coprime_symm, coprime_same}
use Rattle.sg_algebra.proofs.Field.{field_cancel}
use Rattle.sg_algebra.proofs.Value.{Value, neg_value, one_value, fraction_value}
use Rattle.sg_algebra.proofs.ValueField.{ValueR, ValueF}
use Rattle.sg_algebra.proofs.Rational.{fraction_value-mul, fraction_value-one, fraction_value-zero, fraction_value-neg, same_fraction_value}
use Rattle.sg_algebra.proofs.Embedding.{constant_value}
use Rattle.sg_algebra.proofs.Polynomial.{Polynomial, PolynomialR, PolynomialD, one_polynomial, neg_polynomial}
use Rattle.sg_first_order_theory.proofs.ValueFractions.{value_fractions, whole}
use Rattle.sg_tower_theory.specs.Powers.{powers}
use Rattle.sg_relations_theory.specs.Rows.{total}
use Rattle.sg_relations_theory.specs.Relations.{IsSign}
use Rattle.sg_relations_theory.proofs.Apart.{Apart}
use Rattle.sg_relations_theory.proofs.PowerLaws.{Some}
use Rattle.sg_relations_theory.proofs.Similar.{Similar}
use Rattle.sg_relations_theory.proofs.RatioTheorem.{Inside, Rel, rel_identity}
use Rattle.sg_relations_theory.proofs.Generators.{AreGenerators, Zeros}
use Rattle.sg_relations_theory.proofs.WrittenRows.{UnitValue, AllWritten, units, unit_value_one, unit_value-powers, row_law_to, row_law_from}
use Rattle.sg_relations_theory.proofs.ConstantsAbove.{constants-sign}

pub plain_apart : (R : Ring) (a b : R.A) → Coprime R a b → Apart R (identity R) a b
plain_apart R a b c = record {
  ahead = λ m. coprime_same R a b a (iter R (identity R) m b) R.rfl (R.symm (still m b)) c;
  behind = λ m. coprime_same R b a b (iter R (identity R) m a) R.rfl (R.symm (still m a)) (coprime_symm R a b c);
}
  where
    still : (m : ℕ) (x : R.A) → R.◌≈◌ (iter R (identity R) m x) x
    still zero x = R.rfl
    still (suc m) x = still m x

module _ (K : Field) where
  open K.R use {A, ◌≈◌, rfl, symm, trans, mul_comm}

  pub same_similar : (x y : A) → x ≈ y → Similar K (identity K.R) x y
  same_similar x y e = record { r = K.R.I; some = K.one_ne; is = K.R.mul_cong (symm e) rfl }

  pub similar_is : (x y : A) → Similar K (identity K.R) x y → x ≈ y
  similar_is x y s = field_cancel K s.some (trans mul_comm (trans (symm s.is) mul_comm))

-- ---- Fractions

abbrev pub ℤ_inside : Inside ℤD (ValueF 0)
ℤ_inside = record {
  ι = λ n. fraction_value n 1;
  ι_cong = λ x y e. ap (λ n. fraction_value n 1) e;
  ι_same = λ x y e. sym (mul-oneℤ x) ∙ same_fraction_value x y 1 1 (omega arith) (omega arith) e ∙ mul-oneℤ y;
  ι-mul = λ x y. fraction_value-mul x y 1 1 (omega arith) (omega arith);
  ι-one = fraction_value-one;
  ι-zero = fraction_value-zero;
  τ = identity (ValueR 0);
}

rel_numbers : Rel ℤD (identity ℤR) (ValueF 0) ℤ_inside
rel_numbers = rel_identity ℤD (identity ℤR) (ValueF 0) ℤ_inside (λ x. refl)

module _ (ps : List ℤ) (gens : AreGenerators ℤD (identity ℤR) ps) (xs cs : List (Value 0)) (rows : List (List ℤ)) (w : AllWritten ℤD (identity ℤR) (ValueF 0) ℤ_inside ps gens xs cs rows) (es : List ℤ) where
  minus_one : UnitValue ℤD (identity ℤR) (ValueF 0) ℤ_inside (neg_value one_value)
  minus_one = record { u = negsuc 0; unit = record { cofactor = negsuc 0; is = refl }; is = ap neg_value (sym fraction_value-one) ∙ sym (fraction_value-neg (pos 1) 1 (omega arith)) }

  sign_of : (c : Value 0) → UnitValue ℤD (identity ℤR) (ValueF 0) ℤ_inside c → IsSign c
  sign_of c u = go (one_or_minus_one u.u (unit_abs u.u u.unit.cofactor (sym u.unit.is)))
    where
      go : (u.u ≡ pos 1) ⊎ (u.u ≡ negsuc 0) → IsSign c
      go (inl e) = inl (u.is ∙ ap (λ n. fraction_value n 1) e ∙ fraction_value-one)
      go (inr e) = inr (u.is ∙ ap (λ n. fraction_value n 1) e ∙ fraction_value-neg (pos 1) 1 (omega arith) ∙ ap neg_value fraction_value-one)

  pub numbers_law : IsSign (powers (ValueF 0) xs es) ↔ Zeros ps (total es rows)
  numbers_law = (to, from)
    where
      to : IsSign (powers (ValueF 0) xs es) → Zeros ps (total es rows)
      to (inl e) = (row_law_to ℤD (identity ℤR) (ValueF 0) ℤ_inside ps gens rel_numbers xs cs rows w es one_value (unit_value_one ℤD (identity ℤR) (ValueF 0) ℤ_inside) (same_similar (ValueF 0) (powers (ValueF 0) xs es) one_value e)).0
      to (inr e) = (row_law_to ℤD (identity ℤR) (ValueF 0) ℤ_inside ps gens rel_numbers xs cs rows w es (neg_value one_value) minus_one (same_similar (ValueF 0) (powers (ValueF 0) xs es) (neg_value one_value) e)).0

      from : Zeros ps (total es rows) → IsSign (powers (ValueF 0) xs es)
      from z = go (sign_of (powers (ValueF 0) cs es) (unit_value-powers ℤD (identity ℤR) (ValueF 0) ℤ_inside cs es (units ℤD (identity ℤR) (ValueF 0) ℤ_inside ps gens xs cs rows w)))
        where
          same : powers (ValueF 0) xs es ≡ powers (ValueF 0) cs es
          same = similar_is (ValueF 0) (powers (ValueF 0) xs es) (powers (ValueF 0) cs es)
              (row_law_from ℤD (identity ℤR) (ValueF 0) ℤ_inside ps gens rel_numbers xs cs rows w es (powers (ValueF 0) cs es) (unit_value-powers ℤD (identity ℤR) (ValueF 0) ℤ_inside cs es (units ℤD (identity ℤR) (ValueF 0) ℤ_inside ps gens xs cs rows w)) z refl)

          go : IsSign (powers (ValueF 0) cs es) → IsSign (powers (ValueF 0) xs es)
          go (inl e) = inl (same ∙ e)
          go (inr e) = inr (same ∙ e)

-- ---- Rational functions of one variable

module _ (d : ℕ) where
  abbrev pub plain_inside : Inside (PolynomialD d) (ValueF (suc d))
  plain_inside = record {
    ι = whole;
    ι_cong = (value_fractions d).ι_cong;
    ι_same = (value_fractions d).ι_same;
    ι-mul = (value_fractions d).ι-mul;
    ι-one = (value_fractions d).ι-one;
    ι-zero = (value_fractions d).ι-zero;
    τ = identity (ValueR (suc d));
  }

  rel_plain : Rel (PolynomialD d) (identity (PolynomialR d)) (ValueF (suc d)) plain_inside
  rel_plain = rel_identity (PolynomialD d) (identity (PolynomialR d)) (ValueF (suc d)) plain_inside (λ x. refl)

  minus_function : UnitValue (PolynomialD d) (identity (PolynomialR d)) (ValueF (suc d)) plain_inside (neg_value one_value)
  minus_function = record {
    u = neg_polynomial one_polynomial;
    unit = record { cofactor = neg_polynomial one_polynomial; is = ring (PolynomialR d) [] (search reads depth 16) refl };
    is = sym ((value_fractions d).ι-neg one_polynomial ∙ ap neg_value (value_fractions d).ι-one);
  }

  module _ (ps : List (Polynomial d)) (gens : AreGenerators (PolynomialD d) (identity (PolynomialR d)) ps) (xs : List (Value (suc d))) (ks : List (Value d)) (k_some : Each (Some (ValueF d)) ks) (rows : List (List ℤ))
      (w : AllWritten (PolynomialD d) (identity (PolynomialR d)) (ValueF (suc d)) plain_inside ps gens xs (map (constant_value d) ks) rows) (es : List ℤ) where
    pub functions_law : IsSign (powers (ValueF (suc d)) xs es) ↔ (Zeros ps (total es rows) × IsSign (powers (ValueF d) ks es))
    functions_law = (to, from)
      where
        to : IsSign (powers (ValueF (suc d)) xs es) → Zeros ps (total es rows) × IsSign (powers (ValueF d) ks es)
        to (inl e) =
            let r = row_law_to (PolynomialD d) (identity (PolynomialR d)) (ValueF (suc d)) plain_inside ps gens rel_plain xs (map (constant_value d) ks) rows w es one_value (unit_value_one (PolynomialD d) (identity (PolynomialR d)) (ValueF (suc d)) plain_inside)
            (same_similar (ValueF (suc d)) (powers (ValueF (suc d)) xs es) one_value e) in
            (r.0, (constants-sign d ks es k_some).0 (inl r.1))
        to (inr e) =
            let r = row_law_to (PolynomialD d) (identity (PolynomialR d)) (ValueF (suc d)) plain_inside ps gens rel_plain xs (map (constant_value d) ks) rows w es (neg_value one_value) minus_function
            (same_similar (ValueF (suc d)) (powers (ValueF (suc d)) xs es) (neg_value one_value) e) in
            (r.0, (constants-sign d ks es k_some).0 (inr r.1))

        from : Zeros ps (total es rows) × IsSign (powers (ValueF d) ks es) → IsSign (powers (ValueF (suc d)) xs es)
        from (z, s) = go ((constants-sign d ks es k_some).1 s)
          where
            same : powers (ValueF (suc d)) xs es ≡ powers (ValueF (suc d)) (map (constant_value d) ks) es
            same = similar_is (ValueF (suc d)) (powers (ValueF (suc d)) xs es) (powers (ValueF (suc d)) (map (constant_value d) ks) es)
                (row_law_from (PolynomialD d) (identity (PolynomialR d)) (ValueF (suc d)) plain_inside ps gens rel_plain xs (map (constant_value d) ks) rows w es (powers (ValueF (suc d)) (map (constant_value d) ks) es)
                (unit_value-powers (PolynomialD d) (identity (PolynomialR d)) (ValueF (suc d)) plain_inside (map (constant_value d) ks) es
                (units (PolynomialD d) (identity (PolynomialR d)) (ValueF (suc d)) plain_inside ps gens xs (map (constant_value d) ks) rows w)) z refl)

            go : IsSign (powers (ValueF (suc d)) (map (constant_value d) ks) es) → IsSign (powers (ValueF (suc d)) xs es)
            go (inl e) = inl (same ∙ e)
            go (inr e) = inr (same ∙ e)
