-- An expression that can be placed without sums and products.
--   quotient-placeable     (k^2-1)/(k+1), which has the value -1 at 0
use Rattle.std.proofs.Common.{◌≡◌, ℤ, pos, refl, sym, ◌∙◌, [], ◌∷◌}
use Rattle.sg_algebra.proofs.Rational.{whole_value}
use Rattle.sg_algebra.proofs.Ring.{pow}
use Rattle.sg_algebra.proofs.Solver.{ring, reads}
use Rattle.sg_algebra.proofs.Value.{Value, ◌+ᵛ◌, ◌/ᵛ◌, neg_value, zero_value, one_value}
use Rattle.sg_algebra.proofs.ValueField.{ValueR, value_one_ne}
use Rattle.sg_spec.specs.Tree.{Tree, numeral, here, add, neg, div, power}
use Rattle.sg_tower.specs.Elements.{Reading}
use Rattle.sg_value_theory.proofs.Elements.{Point, plain_point}
use Rattle.sg_build.specs.Letters.{letter}
use Rattle.sg_build.specs.Placed.{IsPlaceable}

abbrev the_quotient : Tree
the_quotient = div (add (power here 2) (neg (numeral (pos 1)))) (add here (numeral (pos 1)))

abbrev zero-place : Point 0
zero-place = plain_point (pos 0) (λ i. zero_value)

some : ¬ (whole_value 0 (pos 0) +ᵛ whole_value 0 (pos 1) ≡ zero_value)
some z = value_one_ne 0 (ring (ValueR 0) [] (search reads depth 16) refl ∙ z)

pub quotient-placeable : {E : Type 0} (ρ : Reading 0 E) → IsPlaceable (letter 0) ρ [] [] [] (div (add (power here 2) (neg (numeral (pos 1)))) (add here (numeral (pos 1))))
quotient-placeable ρ =
    let a = whole_value 0 (pos 0) in
    let b = whole_value 0 (pos 1) in
    let u = pow (ValueR 0) a 2 +ᵛ neg_value b in
    record {
      built = ((tt, tt), (tt, tt), (tt, tt));
      no_letter = ((tt, tt), (tt, tt));
      units = tt;
      somewhere = (zero-place, tt, (u /ᵛ (a +ᵛ b), (u, a +ᵛ b, (pow (ValueR 0) a 2, neg_value b, (a, refl, refl), (b, refl, refl), refl), (a, b, refl, refl, refl), some, refl)));
    }
