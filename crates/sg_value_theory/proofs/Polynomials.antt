-- The values of polynomials whose coefficients have values.
--   raised E V t       they are an evaluation
--   raised-constant    a coefficient has its own value
--   raised-variable    the variable has the value t
use Rattle.std.proofs.Common.{◌≡◌, ℕ, zero, suc, refl, sym, ap, ap₂, ◌∙◌, List, [], ◌∷◌, map}
use Rattle.sg_algebra.specs.Ring.{Ring}
use Rattle.sg_algebra.specs.Coefficients.{eval, poly_mul, zip_longest, coef}
use Rattle.sg_algebra.proofs.Solver.{ring, reads}
use Rattle.sg_algebra.proofs.PolynomialRing.{PolyR}
use Rattle.sg_algebra.proofs.Evaluation.{eval-add, eval-mul, eval-neg, eval_cong}
use Rattle.sg_algebra.proofs.Value.{Value, ◌+ᵛ◌, ◌*ᵛ◌, neg_value, zero_value, one_value}
use Rattle.sg_algebra.proofs.ValueField.{ValueR}
use Rattle.sg_algebra.proofs.Polynomial.{coefficient}
use Rattle.sg_algebra.proofs.Place.{Pairwise}
use Rattle.sg_value_theory.proofs.Evaluation.{Evaluation}
use Rattle.sg_value_theory.proofs.Elements.{IsPolynomialAt}

module _ (E : Ring) {d : ℕ} (V : Evaluation E d) where
  open E use {A, ◌≈◌, ◌⊞◌, ◌⊠◌, ⊟, O, I}
  open V use {Has}

  each-add : (p q : List A) (u w : List (Value d)) → Pairwise Has p u → Pairwise Has q w → Pairwise Has (zip_longest ◌⊞◌ p q) (zip_longest ◌+ᵛ◌ u w)
  each-add [] q [] w h k = k
  each-add [] q (v ∷ u) w h k = absurd h
  each-add (x ∷ p) q [] w h k = absurd h
  each-add (x ∷ p) [] (v ∷ u) [] h k = h
  each-add (x ∷ p) [] (v ∷ u) (r ∷ w) h k = absurd k
  each-add (x ∷ p) (y ∷ q) (v ∷ u) [] h k = absurd k
  each-add (x ∷ p) (y ∷ q) (v ∷ u) (r ∷ w) h k = (V.add_has x y v r h.0 k.0, each-add p q u w h.1 k.1)

  each-neg : (p : List A) (u : List (Value d)) → Pairwise Has p u → Pairwise Has (map ⊟ p) (map neg_value u)
  each-neg [] [] h = tt
  each-neg [] (v ∷ u) h = absurd h
  each-neg (x ∷ p) [] h = absurd h
  each-neg (x ∷ p) (v ∷ u) h = (V.neg_has x v h.0, each-neg p u h.1)

  each-scale : (a : A) (b : Value d) → Has a b → (p : List A) (u : List (Value d)) → Pairwise Has p u → Pairwise Has (map (◌⊠◌ a) p) (map (◌*ᵛ◌ b) u)
  each-scale a b e [] [] h = tt
  each-scale a b e [] (v ∷ u) h = absurd h
  each-scale a b e (x ∷ p) [] h = absurd h
  each-scale a b e (x ∷ p) (v ∷ u) h = (V.mul_has a x b v e h.0, each-scale a b e p u h.1)

  pub each-mul : (p q : List A) (u w : List (Value d)) → Pairwise Has p u → Pairwise Has q w → Pairwise Has (poly_mul E p q) (poly_mul (ValueR d) u w)
  each-mul [] q [] w h k = tt
  each-mul [] q (v ∷ u) w h k = absurd h
  each-mul (x ∷ p) q [] w h k = absurd h
  each-mul (x ∷ p) q (v ∷ u) w h k =
      each-add (map (◌⊠◌ x) q) (O ∷ poly_mul E p q) (map (◌*ᵛ◌ v) w) (zero_value ∷ poly_mul (ValueR d) u w) (each-scale x v h.0 q w k) (V.zero_has, each-mul p q u w h.1 k)

  zero_only : (p : List A) (u : List (Value d)) → Pairwise Has p u → ((n : ℕ) → coef E p n ≈ O) → (n : ℕ) → coefficient u n ≡ zero_value
  zero_only [] [] h z n = refl
  zero_only [] (v ∷ u) h z n = absurd h
  zero_only (x ∷ p) [] h z n = refl
  zero_only (x ∷ p) (v ∷ u) h z zero = V.unique O v zero_value (V.same x O v (z 0) h.0) V.zero_has
  zero_only (x ∷ p) (v ∷ u) h z (suc n) = zero_only p u h.1 (λ n. z (suc n)) n

  pub same_values : (p q : List A) (u w : List (Value d)) → Pairwise Has p u → Pairwise Has q w → ((n : ℕ) → coef E p n ≈ coef E q n) → (n : ℕ) → coefficient u n ≡ coefficient w n
  same_values [] q [] w h k e n = sym (zero_only q w k (λ n. E.symm (e n)) n)
  same_values [] q (v ∷ u) w h k e n = absurd h
  same_values (x ∷ p) q [] w h k e n = absurd h
  same_values (x ∷ p) [] (v ∷ u) [] h k e n = zero_only (x ∷ p) (v ∷ u) h e n
  same_values (x ∷ p) [] (v ∷ u) (r ∷ w) h k e n = absurd k
  same_values (x ∷ p) (y ∷ q) (v ∷ u) [] h k e n = absurd k
  same_values (x ∷ p) (y ∷ q) (v ∷ u) (r ∷ w) h k e zero = V.unique x v r h.0 (V.same y x r (E.symm (e 0)) k.0)
  same_values (x ∷ p) (y ∷ q) (v ∷ u) (r ∷ w) h k e (suc n) = same_values p q u w h.1 k.1 (λ n. e (suc n)) n

  module _ (t : Value d) where
    abbrev pub At : List A → Value d → Type 0
    At p v = IsPolynomialAt E Has t p v

    abbrev ev : List (Value d) → Value d
    ev p = eval (ValueR d) p t

    pub at_same : (p q : List A) (v : Value d) → (PolyR E).◌≈◌ p q → At p v → At q v
    at_same p q v e h = record { coefficients = h.coefficients; values = h.values; same = (PolyR E).trans ((PolyR E).symm e) h.same; each = h.each; value = h.value }

    pub at_unique : (p : List A) (v w : Value d) → At p v → At p w → v ≡ w
    at_unique p v w h k =
        h.value
        ∙ eval_cong (ValueR d) h.values k.values t t
        (record { image = record { at = same_values h.coefficients k.coefficients h.values k.values h.each k.each ((PolyR E).trans ((PolyR E).symm h.same) k.same).image.at } }) refl
        ∙ sym k.value

    pub at_add : (p q : List A) (v w : Value d) → At p v → At q w → At ((PolyR E).◌⊞◌ p q) (v +ᵛ w)
    at_add p q v w h k = record {
      coefficients = zip_longest ◌⊞◌ h.coefficients k.coefficients;
      values = zip_longest ◌+ᵛ◌ h.values k.values;
      same = (PolyR E).add_cong h.same k.same;
      each = each-add h.coefficients k.coefficients h.values k.values h.each k.each;
      value = ap₂ ◌+ᵛ◌ h.value k.value ∙ sym (eval-add (ValueR d) h.values k.values t);
    }

    pub at_neg : (p : List A) (v : Value d) → At p v → At ((PolyR E).⊟ p) (neg_value v)
    at_neg p v h = record {
      coefficients = map ⊟ h.coefficients;
      values = map neg_value h.values;
      same = (PolyR E).neg_cong h.same;
      each = each-neg h.coefficients h.values h.each;
      value = ap neg_value h.value ∙ sym (eval-neg (ValueR d) h.values t);
    }

    pub at_mul : (p q : List A) (v w : Value d) → At p v → At q w → At ((PolyR E).◌⊠◌ p q) (v *ᵛ w)
    at_mul p q v w h k = record {
      coefficients = poly_mul E h.coefficients k.coefficients;
      values = poly_mul (ValueR d) h.values k.values;
      same = (PolyR E).mul_cong h.same k.same;
      each = each-mul h.coefficients k.coefficients h.values k.values h.each k.each;
      value = ap₂ ◌*ᵛ◌ h.value k.value ∙ sym (eval-mul (ValueR d) h.values k.values t);
    }

    pub raised-constant : (a : A) (v : Value d) → Has a v → At (a ∷ []) v
    raised-constant a v h = record { coefficients = a ∷ []; values = v ∷ []; same = (PolyR E).rfl; each = (h, tt); value = ring (ValueR d) (v ∷ t ∷ []) (search reads depth 12) refl }

    pub raised-variable : At (O ∷ I ∷ []) t
    raised-variable = record { coefficients = O ∷ I ∷ []; values = zero_value ∷ one_value ∷ []; same = (PolyR E).rfl; each = (V.zero_has, (V.one_has, tt)); value = ring (ValueR d) (t ∷ []) (search reads depth 12) refl }

    pub at_zero : At [] zero_value
    at_zero = record { coefficients = []; values = []; same = (PolyR E).rfl; each = tt; value = refl }

    abbrev pub raised : Evaluation (PolyR E) d
    raised = record {
      Has = At;
      same = at_same;
      unique = at_unique;
      zero_has = at_zero;
      one_has = raised-constant I one_value V.one_has;
      add_has = at_add;
      neg_has = at_neg;
      mul_has = at_mul;
    }
