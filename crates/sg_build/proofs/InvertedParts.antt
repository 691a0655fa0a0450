-- The inverse of a divisor from those of its parts.
--   invertible-opposite, -product, -power       parts of what can be inverted can be
--   polynomial-some                             a polynomial among them has somewhere a value other than 0
--   function-inverse, inverted-polynomial, inverted-item, ..     the inverse by cases
--   item-unit                                   the element of a product is a unit
use Rattle.std.proofs.Common.{◌≡◌, ℕ, zero, suc, ◌+◌, ◌<◌, sym, ap, subst, ◌∙◌, List, [], ◌∷◌, ◌++◌, length, get_or, arith}
use Rattle.std.proofs.lemmas.List.{length-append}
use Rattle.sg_algebra.specs.Ring.{Ring}
use Rattle.sg_algebra.proofs.Ring.{pow}
use Rattle.sg_algebra.proofs.Value.{Value, ◌*ᵛ◌, neg_value, inv_value, zero_value}
use Rattle.sg_algebra.proofs.ValueField.{ValueR}
use Rattle.sg_spec.specs.Tree.{Tree, neg, mul, power}
use Rattle.sg_tower_theory.proofs.Formal.{elements, lifted}
use Rattle.sg_value_theory.proofs.Elements.{HasElement}
use Rattle.sg_value_theory.proofs.Evaluation.{pow_has}
use Rattle.sg_value_theory.proofs.Evaluations.{evaluation, lifted-has}
use Rattle.sg_value_theory.proofs.Inverses.{unit-has}
use Rattle.sg_tower.specs.Elements.{Reading, Same, IsOne, IsProduct}
use Rattle.sg_tower.specs.Terms.{IsInverse}
use Rattle.sg_build.specs.Points.{IsUnit, AreUnits}
use Rattle.sg_build.specs.Placed.{IsItem, IsOpposite, IsPower, IsFunctionOver, HasSomeValue, IsElementOver, IsInvertible, IsInverted}
use Rattle.sg_build.proofs.InverseValues.{some-neg, some-left, some-right, some-base, inverse-neg, inverse-mul, inverse-one, inverse-pow}
use Rattle.sg_build.proofs.PlacedParts.{known-length, item-at}

module _ {d : ℕ} {E : Type 0} (letter : Value d) (ρ : Reading d E) where
  abbrev R : Ring
  R = elements ρ.formal

  unit-at : (ps : List Tree) (xs : List E) (i : ℕ) (x : E) → AreUnits ρ ps xs → i < length ps → i < length xs → x ≡ get_or xs i x → IsUnit ρ x
  unit-at [] xs i x h l m e = absurd (omega (arith, l))
  unit-at (p ∷ ps) [] i x h l m e = absurd (omega (arith, m))
  unit-at (p ∷ ps) (y ∷ xs) zero x h l m e = subst (IsUnit ρ) (sym e) h.0
  unit-at (p ∷ ps) (y ∷ xs) (suc i) x h l m e = unit-at ps xs i x h.1 (omega (arith, l)) (omega (arith, m)) e

  pub function-inverse : (t : Tree) (c : Value (suc d)) (r : E) → IsFunctionOver letter t c → Same ρ (ρ.of r) (lifted ρ.formal c) → IsElementOver letter ρ t r
  function-inverse t c r f h p w i n = (evaluation ρ.formal p).same (lifted ρ.formal c) (ρ.of r) (inv_value w) (R.symm h) (lifted-has ρ.formal p c (inv_value w) (f p.variable w i n))

  module _ (ps ss : List Tree) (xs : List E) where
    pub invertible-length : (t : Tree) → IsInvertible letter ρ ps ss xs t → length xs ≡ length ps + length ss
    invertible-length t h = known-length letter ρ h.somewhere.0 (ps ++ ss) xs h.somewhere.1 ∙ length-append ps ss

    pub polynomial-some : (t : Tree) → IsInvertible letter ρ ps ss xs t → HasSomeValue letter t
    polynomial-some t h = let o = h.somewhere in (o.0.variable, o.2.0, o.2.1, o.2.2)

    pub invertible-opposite : (s : Tree) → IsInvertible letter ρ ps ss xs (neg s) → IsInvertible letter ρ ps ss xs s
    invertible-opposite s h =
        let o = h.somewhere in
        record { divisor = h.divisor; no_letter = h.no_letter; units = h.units; somewhere = (o.0, o.1, (o.2.1.0, o.2.1.1, some-neg o.2.1.0 (λ z. o.2.2 (o.2.1.2 ∙ z)))) }

    pub invertible-product : (s t : Tree) → IsInvertible letter ρ ps ss xs (mul s t) → IsInvertible letter ρ ps ss xs s × IsInvertible letter ρ ps ss xs t
    invertible-product s t h =
        let o = h.somewhere in
        let n : ¬ (o.2.1.0 *ᵛ o.2.1.1 ≡ zero_value) = λ z. o.2.2 (o.2.1.4 ∙ z) in (
          record { divisor = h.divisor.0; no_letter = h.no_letter.0; units = h.units; somewhere = (o.0, o.1, (o.2.1.0, o.2.1.2, some-left o.2.1.0 o.2.1.1 n)) },
          record { divisor = h.divisor.1; no_letter = h.no_letter.1; units = h.units; somewhere = (o.0, o.1, (o.2.1.1, o.2.1.3, some-right o.2.1.0 o.2.1.1 n)) },
        )

    pub invertible-power : (s : Tree) (e : ℕ) → ¬ (e ≡ 0) → IsInvertible letter ρ ps ss xs (power s e) → IsInvertible letter ρ ps ss xs s
    invertible-power s e m h =
        let o = h.somewhere in
        record { divisor = h.divisor; no_letter = h.no_letter; units = h.units; somewhere = (o.0, o.1, (o.2.1.0, o.2.1.1, some-base o.2.1.0 e m (λ z. o.2.2 (o.2.1.2 ∙ z)))) }

    -- the item of a product is a unit
    pub item-unit : (t : Tree) (x : E) (h : IsInvertible letter ρ ps ss xs t) → IsItem ps xs t x → IsUnit ρ x
    item-unit t x h i = unit-at ps xs i.0 x h.units i.1 (let m = invertible-length t h in let l = i.1 in omega (arith, m, l)) i.3

  module _ (gens : List Tree) (xs : List E) where
    pub inverted-polynomial : (t : Tree) (r : E) → IsElementOver letter ρ t r → IsInverted letter ρ gens xs t r
    inverted-polynomial t r h p k = h p

    pub inverted-item : (t : Tree) (x r : E) → IsItem gens xs t x → IsInverse ρ x r → IsInverted letter ρ gens xs t r
    inverted-item t x r h u p k w i n = unit-has ρ.formal p (ρ.of x) (ρ.of r) w u (item-at letter ρ p gens xs t x k h w i) n

    pub inverted-opposite : (s : Tree) (z r : E) → IsInverted letter ρ gens xs s z → IsOpposite ρ z r → IsInverted letter ρ gens xs (neg s) r
    inverted-opposite s z r h e p k w i n =
        let m : ¬ (neg_value i.0 ≡ zero_value) = λ q. n (i.2 ∙ q) in
        (evaluation ρ.formal p).same (R.⊟ (ρ.of z)) (ρ.of r) (inv_value w) (R.symm e)
        (subst (HasElement ρ.formal p (R.⊟ (ρ.of z))) (sym (ap inv_value i.2 ∙ inverse-neg i.0 m)) ((evaluation ρ.formal p).neg_has (ρ.of z) (inv_value i.0) (h p k i.0 i.1 (some-neg i.0 m))))

    pub inverted-product : (s t : Tree) (x y r : E) → IsInverted letter ρ gens xs s x → IsInverted letter ρ gens xs t y → IsProduct ρ x y r → IsInverted letter ρ gens xs (mul s t) r
    inverted-product s t x y r f g e p k w i n =
        let m : ¬ (i.0 *ᵛ i.1 ≡ zero_value) = λ q. n (i.4 ∙ q) in
        (evaluation ρ.formal p).same (R.◌⊠◌ (ρ.of x) (ρ.of y)) (ρ.of r) (inv_value w) (R.symm e)
        (subst (HasElement ρ.formal p (R.◌⊠◌ (ρ.of x) (ρ.of y))) (sym (ap inv_value i.4 ∙ inverse-mul i.0 i.1 m))
        ((evaluation ρ.formal p).mul_has (ρ.of x) (ρ.of y) (inv_value i.0) (inv_value i.1) (f p k i.0 i.2 (some-left i.0 i.1 m)) (g p k i.1 i.3 (some-right i.0 i.1 m))))

    pub inverted-power : (s : Tree) (e : ℕ) (z r : E) → ¬ (e ≡ 0) → IsInverted letter ρ gens xs s z → IsPower ρ z e r → IsInverted letter ρ gens xs (power s e) r
    inverted-power s e z r l h q p k w i n =
        let m : ¬ (pow (ValueR d) i.0 e ≡ zero_value) = λ a. n (i.2 ∙ a) in
        (evaluation ρ.formal p).same (pow R (ρ.of z) e) (ρ.of r) (inv_value w) (R.symm q)
        (subst (HasElement ρ.formal p (pow R (ρ.of z) e)) (sym (ap inv_value i.2 ∙ inverse-pow i.0 e m)) (pow_has (evaluation ρ.formal p) (ρ.of z) (inv_value i.0) e (h p k i.0 i.1 (some-base i.0 e l m))))

    pub inverted-one : (s : Tree) (e : ℕ) (r : E) → e ≡ 0 → IsOne ρ r → IsInverted letter ρ gens xs (power s e) r
    inverted-one s e r z q p k w i n =
        (evaluation ρ.formal p).same R.I (ρ.of r) (inv_value w) (R.symm q)
        (subst (HasElement ρ.formal p R.I) (sym (ap inv_value (i.2 ∙ ap (pow (ValueR d) i.0) z) ∙ inverse-one)) (evaluation ρ.formal p).one_has)
