-- The shift of rational functions in k: k goes to k + 1.
--   shift_value x           the value x with k + 1 for k, and `shift_valueH` as a map of rings
--   shift_value-over        p/q goes to p(k + 1)/q(k + 1)
use Rattle.std.proofs.Common.{◌≡◌, ℕ, zero, suc, refl, sym, ap, ◌∙◌, List, [], ◌∷◌}
use mathlib.Core.Quot.{sound}
use Rattle.sg_algebra.specs.Ring.{Ring, Domain, Hom}
use Rattle.sg_algebra.specs.Coefficients.{coef, zip_longest, poly_mul}
use Rattle.sg_algebra.proofs.Solver.{ring, reads}
use Rattle.sg_algebra.proofs.Field.{domain}
use Rattle.sg_algebra.proofs.PolynomialRing.{PolyR}
use Rattle.sg_algebra.proofs.Degree.{PolyD}
use Rattle.sg_algebra.proofs.Shift.{moved, movedH, moved-back, moved_cong}
use Rattle.sg_algebra.proofs.Quotient.{Quotient, QuotientR, add_quotient, mul_quotient, whole_quotient}
use Rattle.sg_algebra.proofs.Classes.{one_map, all_two}
use Rattle.sg_algebra.proofs.Ratio.{ratio-is}
use Rattle.sg_algebra.proofs.Level.{Level, K}
use Rattle.sg_algebra.proofs.Value.{Value, ◌+ᵛ◌, ◌*ᵛ◌, one_value, raws, over_value}
use Rattle.sg_algebra.proofs.ValueField.{ValueR, ValueF}
use Rattle.sg_algebra.proofs.OverValue.{raws-add, raws-mul, ne_raws, over_value_cong}
use Rattle.sg_algebra.proofs.Embedding.{constant_value}

module _ (D : Domain) (σ : Hom D.R D.R) (σ_ne : (x : D.R.A) → ¬ (D.R.◌≈◌ x D.R.O) → ¬ (D.R.◌≈◌ (σ.on x) D.R.O)) where
  open D use {R}
  open R use {A, ◌≈◌, ◌⊞◌, ◌⊠◌, ⊟, O, I, rfl, symm, trans, add_cong, mul_cong, mul_I}
  open QuotientR D use {◌≈◌ as ◌≈ᶠ◌}

  abbrev pub shift_quotient : Quotient D → Quotient D
  shift_quotient x = record { num = σ.on x.num; den = σ.on x.den; den_ne = σ_ne x.den x.den_ne }

  pub shift_quotient_cong : (x y : Quotient D) → x ≈ᶠ y → shift_quotient x ≈ᶠ shift_quotient y
  shift_quotient_cong x y h = record { cross = trans (symm (σ.on-mul x.num y.den)) (trans (σ.on_cong (x.num ⊠ y.den) (y.num ⊠ x.den) h.cross) (σ.on-mul y.num x.den)) }

  pub shift_quotient-add : (x y : Quotient D) → shift_quotient (add_quotient D x y) ≈ᶠ add_quotient D (shift_quotient x) (shift_quotient y)
  shift_quotient-add x y = record {
    cross = mul_cong (trans (σ.on-add (x.num ⊠ y.den) (y.num ⊠ x.den)) (add_cong (σ.on-mul x.num y.den) (σ.on-mul y.num x.den))) (symm (σ.on-mul x.den y.den));
  }

  pub shift_quotient-mul : (x y : Quotient D) → shift_quotient (mul_quotient D x y) ≈ᶠ mul_quotient D (shift_quotient x) (shift_quotient y)
  shift_quotient-mul x y = record { cross = mul_cong (σ.on-mul x.num y.num) (symm (σ.on-mul x.den y.den)) }

  pub shift_quotient-one : shift_quotient (whole_quotient D I) ≈ᶠ whole_quotient D I
  shift_quotient-one = record { cross = trans mul_I (trans σ.on-one (trans (symm mul_I) (mul_cong rfl (symm σ.on-one)))) }

module _ (R : Ring) where
  open R use {A, O, I, ⊟}
  open PolyR R use {◌≈◌ as ◌≋◌, trans, symm}

  pub moved_ne : (p : List A) → ¬ (p ≋ []) → ¬ (moved R I p ≋ [])
  moved_ne p h z = h (trans (symm (moved-back R I p)) (moved_cong R (⊟ I) (⊟ I) (moved R I p) [] R.rfl z))

module _ (d : ℕ) where
  abbrev D : Domain
  D = PolyD (domain (Level d))

  abbrev σ : Hom D.R D.R
  σ = movedH (Level d).R (Level d).R.I

  open PolyR (ValueR d) use {◌≈◌ as ◌≋◌, ◌⊞◌ as ◌⊕◌, ◌⊠◌ as ◌⊗◌}

  abbrev moved_class : K (suc d) → K (suc d)
  moved_class = one_map (QuotientR D) (shift_quotient D σ (moved_ne (Level d).R)) (shift_quotient_cong D σ (moved_ne (Level d).R))

  unfoldable pub shift_value : Value (suc d) → Value (suc d)
  shift_value x = record { raw = moved_class x.raw }

  wrap : {x y : K (suc d)} → x ≡ y → ◌≡◌ {A = Value (suc d)} (record { raw = x }) (record { raw = y })
  wrap e = ap (λ r. record { raw = r }) e

  pub shift_value-add : (x y : Value (suc d)) → shift_value (x +ᵛ y) ≡ shift_value x +ᵛ shift_value y
  unfolding shift_value ◌+ᵛ◌
  shift_value-add x y = wrap (all_two (QuotientR D) (λ x y. moved_class ((Level (suc d)).R.◌⊞◌ x y)) (λ x y. (Level (suc d)).R.◌⊞◌ (moved_class x) (moved_class y))
      (λ a b. sound (shift_quotient-add D σ (moved_ne (Level d).R) a b)) x.raw y.raw)

  pub shift_value-mul : (x y : Value (suc d)) → shift_value (x *ᵛ y) ≡ shift_value x *ᵛ shift_value y
  unfolding shift_value ◌*ᵛ◌
  shift_value-mul x y = wrap (all_two (QuotientR D) (λ x y. moved_class ((Level (suc d)).R.◌⊠◌ x y)) (λ x y. (Level (suc d)).R.◌⊠◌ (moved_class x) (moved_class y))
      (λ a b. sound (shift_quotient-mul D σ (moved_ne (Level d).R) a b)) x.raw y.raw)

  pub shift_value-one : shift_value one_value ≡ one_value
  unfolding shift_value one_value
  shift_value-one = wrap (sound (shift_quotient-one D σ (moved_ne (Level d).R)))

  abbrev pub shift_valueH : Hom (ValueR (suc d)) (ValueR (suc d))
  shift_valueH = record { on = shift_value; on_cong = λ x y. ap shift_value; on-add = shift_value-add; on-mul = shift_value-mul; on-one = shift_value-one }

  -- ---- The shift of p/q
  raws-point : raws (one_value {d = d} ∷ one_value ∷ []) ≡ (Level d).R.I ∷ (Level d).R.I ∷ []
  unfolding raws one_value
  raws-point = refl

  raws-constant : (x : Value d) → raws (x ∷ []) ≡ x.raw ∷ []
  unfolding raws
  raws-constant x = refl

  raws-moved : (p : List (Value d)) → raws (moved (ValueR d) one_value p) ≡ moved (Level d).R (Level d).R.I (raws p)
  unfolding raws
  raws-moved [] = refl
  raws-moved (x ∷ p) = raws-add d (x ∷ []) ((one_value ∷ one_value ∷ []) ⊗ moved (ValueR d) one_value p)
      ∙ ap (zip_longest (Level d).R.◌⊞◌ (x.raw ∷ [])) (raws-mul d (one_value ∷ one_value ∷ []) (moved (ValueR d) one_value p) ∙ ap (λ q. poly_mul (Level d).R q (raws (moved (ValueR d) one_value p))) raws-point ∙ ap (poly_mul (Level d).R ((Level d).R.I ∷ (Level d).R.I ∷ [])) (raws-moved p))

  pub shift_value-over : (p q : List (Value d)) → ¬ (q ≋ []) → shift_value (over_value p q) ≡ over_value (moved (ValueR d) one_value p) (moved (ValueR d) one_value q)
  unfolding shift_value over_value
  shift_value-over p q h = wrap (ap moved_class (ratio-is D (raws p) (raws q) (ne_raws d q h))
      ∙ sym (rw (raws-moved p, raws-moved q) (ratio-is D (moved (Level d).R (Level d).R.I (raws p)) (moved (Level d).R (Level d).R.I (raws q)) (moved_ne (Level d).R (raws q) (ne_raws d q h)))))

  moved_constant : (x : Value d) → moved (ValueR d) one_value (x ∷ []) ≋ (x ∷ [])
  moved_constant x = record { image = record { at = go } }
    where
      go : (n : ℕ) → coef (ValueR d) (moved (ValueR d) one_value (x ∷ [])) n ≡ coef (ValueR d) (x ∷ []) n
      go zero = ring (ValueR d) (x ∷ []) (search reads depth 20) refl
      go (suc zero) = ring (ValueR d) (x ∷ []) (search reads depth 20) refl
      go (suc (suc n)) = refl

  pub one_poly_ne : ¬ ((one_value {d = d} ∷ []) ≋ [])
  one_poly_ne = (PolyD (domain (ValueF d))).one_ne

  pub shift_value-constant : (c : Value d) → shift_value (constant_value d c) ≡ constant_value d c
  shift_value-constant c = shift_value-over (c ∷ []) (one_value ∷ []) one_poly_ne
      ∙ over_value_cong d (moved (ValueR d) one_value (c ∷ [])) (moved (ValueR d) one_value (one_value ∷ [])) (c ∷ []) (one_value ∷ []) (moved_ne (ValueR d) (one_value ∷ []) one_poly_ne) (moved_constant c) (moved_constant one_value)
