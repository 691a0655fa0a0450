-- Products of powers under maps between fields, and constants of one depth at the next.
--   powers-on            a map between fields takes a product of powers to that of the images
--   constants-sign       a product of powers of constants is 1 or -1 exactly where it is so one level down
use Rattle.std.proofs.Common.{◌≡◌, ℕ, zero, suc, sym, ◌∙◌, ap, List, [], ◌∷◌, map, ℤ, pos, negsuc, inl, inr, ◌↔◌}
use Rattle.sg_algebra.specs.Ring.{Field, Hom}
use Rattle.sg_algebra.specs.Coefficients.{Each}
use Rattle.sg_algebra.proofs.Ring.{pow, mul_O}
use Rattle.sg_algebra.proofs.Field.{inv_is}
use Rattle.sg_algebra.proofs.Divides.{on-neg, on-pow}
use Rattle.sg_algebra.proofs.Value.{Value, neg_value, one_value}
use Rattle.sg_algebra.proofs.ValueField.{ValueR, ValueF}
use Rattle.sg_algebra.proofs.Embedding.{constant_value, constant_valueH, constant_value_same}
use Rattle.sg_tower_theory.specs.Powers.{power, powers}
use Rattle.sg_relations_theory.specs.Relations.{IsSign}
use Rattle.sg_relations_theory.proofs.PowerLaws.{Some}

module _ (F K : Field) (h : Hom F.R K.R) where
  open K.R use {◌≈◌, ◌⊠◌, O, I, rfl, symm, trans, mul_cong, mul_comm}

  image_some : (x : F.R.A) → Some F x → Some K (h.on x)
  image_some x s z = K.one_ne (trans (symm (trans (symm (h.on-mul x (F.inv x))) (trans (h.on_cong (F.R.◌⊠◌ x (F.inv x)) F.R.I (F.mul_inv x s)) h.on-one))) (trans (mul_cong z rfl) (trans mul_comm (mul_O K.R))))

  on-inverse : (x : F.R.A) → Some F x → h.on (F.inv x) ≈ K.inv (h.on x)
  on-inverse x s = inv_is K (h.on x) (h.on (F.inv x)) (image_some x s) (trans (symm (h.on-mul x (F.inv x))) (trans (h.on_cong (F.R.◌⊠◌ x (F.inv x)) F.R.I (F.mul_inv x s)) h.on-one))

  pow_same : (x y : K.R.A) (n : ℕ) → x ≈ y → pow K.R x n ≈ pow K.R y n
  pow_same x y zero e = rfl
  pow_same x y (suc n) e = mul_cong (pow_same x y n e) e

  power-on : (x : F.R.A) (e : ℤ) → Some F x → h.on (power F x e) ≈ power K (h.on x) e
  power-on x (pos n) s = on-pow F.R K.R h x n
  power-on x (negsuc n) s = trans (on-pow F.R K.R h (F.inv x) (suc n)) (pow_same (h.on (F.inv x)) (K.inv (h.on x)) (suc n) (on-inverse x s))

  pub powers-on : (xs : List F.R.A) (es : List ℤ) → Each (Some F) xs → h.on (powers F xs es) ≈ powers K (map h.on xs) es
  powers-on [] es s = h.on-one
  powers-on (x ∷ xs) [] s = h.on-one
  powers-on (x ∷ xs) (e ∷ es) s = trans (h.on-mul (power F x e) (powers F xs es)) (mul_cong (power-on x e s.0) (powers-on xs es s.1))

module _ (d : ℕ) where
  constant-one : constant_value d one_value ≡ one_value
  constant-one = (constant_valueH d).on-one

  pub constants-sign : (ks : List (Value d)) (es : List ℤ) → Each (Some (ValueF d)) ks → IsSign (powers (ValueF (suc d)) (map (constant_value d) ks) es) ↔ IsSign (powers (ValueF d) ks es)
  constants-sign ks es s = (to, from)
    where
      image : constant_value d (powers (ValueF d) ks es) ≡ powers (ValueF (suc d)) (map (constant_value d) ks) es
      image = powers-on (ValueF d) (ValueF (suc d)) (constant_valueH d) ks es s

      minus : constant_value d (neg_value one_value) ≡ neg_value one_value
      minus = on-neg (ValueR d) (ValueR (suc d)) (constant_valueH d) one_value ∙ ap neg_value constant-one

      to : IsSign (powers (ValueF (suc d)) (map (constant_value d) ks) es) → IsSign (powers (ValueF d) ks es)
      to (inl e) = inl (constant_value_same d (powers (ValueF d) ks es) one_value (image ∙ e ∙ sym constant-one))
      to (inr e) = inr (constant_value_same d (powers (ValueF d) ks es) (neg_value one_value) (image ∙ e ∙ sym minus))

      from : IsSign (powers (ValueF d) ks es) → IsSign (powers (ValueF (suc d)) (map (constant_value d) ks) es)
      from (inl e) = inl (sym image ∙ ap (constant_value d) e ∙ constant-one)
      from (inr e) = inr (sym image ∙ ap (constant_value d) e ∙ minus)
