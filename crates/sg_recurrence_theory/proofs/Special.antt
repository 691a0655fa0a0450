-- From rational functions of the parameter to numbers.
--   worth-special     where an expression has the rational function v of n as its value at k, and at the parameter n0 the number w, v has
--                     at n0 the value w
use Rattle.std.proofs.Common.{◌≡◌, ℕ, zero, suc, sym, subst, ℤ, pos, ◌+ℤ◌}
use Rattle.sg_algebra.proofs.Ring.{pow}
use Rattle.sg_algebra.proofs.Value.{Value, ◌+ᵛ◌, ◌*ᵛ◌, ◌/ᵛ◌, neg_value, zero_value, one_value}
use Rattle.sg_algebra.proofs.ValueField.{ValueR}
use Rattle.sg_algebra.proofs.Rational.{whole_value}
use Rattle.sg_spec.specs.Tree.{Tree, numeral, here, param, add, neg, mul, div, power, sum_from, prod_from}
use Rattle.sg_spec.specs.Value.{how_many}
use Rattle.sg_spec.specs.Worth.{IsFolded, HasWorth}
use Rattle.sg_value_theory.proofs.Evaluation.{pow_has}
use Rattle.sg_value_theory.proofs.Elements.{IsQuotientAt}
use Rattle.sg_value_theory.proofs.Quotients.{quotients, quotient-over}
use Rattle.sg_value_theory.proofs.RationalPlaces.{whole_at}

-- folds keep it
folded-special : {d : ℕ} (Has : Value (suc d) → Value d → Type 0) (op : Value (suc d) → Value (suc d) → Value (suc d)) (op' : Value d → Value d → Value d) (start : Value (suc d)) (start' : Value d)
    (term : ℤ → Value (suc d) → Type 0) (term' : ℤ → Value d → Type 0)
    → ((x y : Value (suc d)) (u w : Value d) → Has x u → Has y w → Has (op x y) (op' u w)) → Has start start' → ((j : ℤ) (x : Value (suc d)) (u : Value d) → term j x → term' j u → Has x u)
    → (from : ℤ) (n : ℕ) (x : Value (suc d)) (u : Value d) → IsFolded op start term from n x → IsFolded op' start' term' from n u → Has x u
folded-special Has op op' start start' term term' joins first each from zero x u h i = subst (λ z. Has z u) (sym h) (subst (Has start) (sym i) first)
folded-special Has op op' start start' term term' joins first each from (suc n) x u h i =
    subst (λ z. Has z u) (sym h.4) (subst (Has (op h.0 h.1)) (sym i.4)
    (joins h.0 h.1 i.0 i.1 (folded-special Has op op' start start' term term' joins first each from n h.0 i.0 h.2 i.2) (each (from +ℤ pos n) h.1 i.1 h.3 i.3)))

-- the letter has at n0 the value n0
module _ {d : ℕ} (letter : Value (suc d)) (n0 : ℤ) (letter_at : IsQuotientAt n0 letter (whole_value d n0)) where
  abbrev Has : Value (suc d) → Value d → Type 0
  Has = IsQuotientAt n0

  two : (x y : Value (suc d)) (u w : Value d) → x ≡ y → u ≡ w → Has y w → Has x u
  two x y u w e f h = subst (λ z. Has z u) (sym e) (subst (Has y) (sym f) h)

  pub worth-special : (t : Tree) (k : ℤ) (v : Value (suc d)) (w : Value d) → HasWorth letter t k v → HasWorth (whole_value d n0) t k w → Has v w
  worth-special (numeral c) k v w h i = two v (whole_value (suc d) c) w (whole_value d c) h i (whole_at d n0 c)
  worth-special here k v w h i = two v (whole_value (suc d) k) w (whole_value d k) h i (whole_at d n0 k)
  worth-special param k v w h i = two v letter w (whole_value d n0) h i letter_at
  worth-special (add x y) k v w h i = two v (h.0 +ᵛ h.1) w (i.0 +ᵛ i.1) h.4 i.4 ((quotients d n0).add_has h.0 h.1 i.0 i.1 (worth-special x k h.0 i.0 h.2 i.2) (worth-special y k h.1 i.1 h.3 i.3))
  worth-special (neg x) k v w h i = two v (neg_value h.0) w (neg_value i.0) h.2 i.2 ((quotients d n0).neg_has h.0 i.0 (worth-special x k h.0 i.0 h.1 i.1))
  worth-special (mul x y) k v w h i = two v (h.0 *ᵛ h.1) w (i.0 *ᵛ i.1) h.4 i.4 ((quotients d n0).mul_has h.0 h.1 i.0 i.1 (worth-special x k h.0 i.0 h.2 i.2) (worth-special y k h.1 i.1 h.3 i.3))
  worth-special (div x y) k v w h i = two v (h.0 /ᵛ h.1) w (i.0 /ᵛ i.1) h.5 i.5 (quotient-over n0 h.0 h.1 i.0 i.1 (worth-special x k h.0 i.0 h.2 i.2) (worth-special y k h.1 i.1 h.3 i.3) i.4)
  worth-special (power x e) k v w h i = two v (pow (ValueR (suc d)) h.0 e) w (pow (ValueR d) i.0 e) h.2 i.2 (pow_has (quotients d n0) h.0 i.0 e (worth-special x k h.0 i.0 h.1 i.1))
  worth-special (sum_from from body) k v w h i =
      folded-special Has ◌+ᵛ◌ ◌+ᵛ◌ zero_value zero_value (HasWorth letter body) (HasWorth (whole_value d n0) body) (quotients d n0).add_has (quotients d n0).zero_has (worth-special body) from (how_many from k) v w h i
  worth-special (prod_from from body) k v w h i =
      folded-special Has ◌*ᵛ◌ ◌*ᵛ◌ one_value one_value (HasWorth letter body) (HasWorth (whole_value d n0) body) (quotients d n0).mul_has (quotients d n0).one_has (worth-special body) from (how_many from k) v w h i
