-- The weights of numerators and denominators.
--   IsOwn               the tree is a part of its own: a numeral, the variable, the parameter, a sum of two trees
--   IsLeaf              the tree has no operation outside of bodies
--   HasNaturals         no numeral outside of bodies is below 0
--   AreWeights w r      the weights of a numerator and of a denominator, below 2^127
--   IsHeavyRatio r      one of both is at least 2^127
--   AreSumWeights, AreProductWeights    of the sum and of the product of two fractions with such weights
--   IsLightSum, IsHeavySum              the numerator of the sum of two fractions weighs less than 2^127, or not
--   StopsHeavy s t      out of memory, which is free; or a kept step that doesn't fit, where the numerator of the tree is heavier than 2^126
--   AreRatio p q r      the polynomials of a numerator and of a denominator
--   IsOppositeRatio, .. IsPowerRatio    o over u is the opposite of a over b, the sum or product of a over b and c over d, a power of a over b
use Rattle.std.specs.Prelude.{◌≡◌, ℕ, ◌+◌, ◌*◌, ◌^◌, ◌<◌, ◌≤◌, max, pos, ◌≤ℤ◌}
use Rattle.sg_spec.specs.Tree.{Tree, numeral, here, param, add, neg, mul, div, power, sum_from, prod_from}
use Rattle.sg_spec.specs.Polynomials.{weight}
use Rattle.sg_spec.specs.Parts.{Plane, plane_add, plane_mul, plane_neg, plane_power, Ratio, ratio_sum, coefficients, numer}
use Rattle.sg_num.specs.Stopped.{IsTooWide}
use Rattle.sg_num.specs.declared.step.Stop.{Stop}
use Rattle.sg_num.specs.declared.step.Stop.TheVariants.{Memory, Wide}
use Rattle.sg_parts.specs.Planes.{SamePlane}
use Rattle.sg_parts.specs.declared.weights.Weights.{Weights}

abbrev pub IsOwn : Tree → Type 0
IsOwn (numeral c) = Unit {0}
IsOwn here = Unit {0}
IsOwn param = Unit {0}
IsOwn (add x y) = Unit {0}
IsOwn (neg x) = ⊥
IsOwn (mul x y) = ⊥
IsOwn (div x y) = ⊥
IsOwn (power x e) = ⊥
IsOwn (sum_from from body) = ⊥
IsOwn (prod_from from body) = ⊥

abbrev pub IsLeaf : Tree → Type 0
IsLeaf (numeral c) = Unit {0}
IsLeaf here = Unit {0}
IsLeaf param = Unit {0}
IsLeaf (add x y) = ⊥
IsLeaf (neg x) = ⊥
IsLeaf (mul x y) = ⊥
IsLeaf (div x y) = ⊥
IsLeaf (power x e) = ⊥
IsLeaf (sum_from from body) = Unit {0}
IsLeaf (prod_from from body) = Unit {0}

abbrev pub HasNaturals : Tree → Type 0
HasNaturals (numeral c) = pos 0 ≤ℤ c
HasNaturals here = Unit {0}
HasNaturals param = Unit {0}
HasNaturals (add x y) = HasNaturals x × HasNaturals y
HasNaturals (neg x) = HasNaturals x
HasNaturals (mul x y) = HasNaturals x × HasNaturals y
HasNaturals (div x y) = HasNaturals x × HasNaturals y
HasNaturals (power x e) = HasNaturals x
HasNaturals (sum_from from body) = Unit {0}
HasNaturals (prod_from from body) = Unit {0}

pub record AreWeights (w : Weights) (r : Ratio) : Type 0 where
  pub over : w.over ≡ weight r.over
  pub under : w.under ≡ weight r.under
  pub over_fits : w.over < 2 ^ 127
  pub under_fits : w.under < 2 ^ 127

abbrev pub IsHeavyRatio : Ratio → Type 0
IsHeavyRatio r = 2 ^ 127 ≤ max (weight r.over) (weight r.under)

pub record AreSumWeights (w x y : Weights) : Type 0 where
  pub over : w.over ≡ x.over * y.under + y.over * x.under
  pub under : w.under ≡ x.under * y.under
  pub over_fits : w.over < 2 ^ 127
  pub under_fits : w.under < 2 ^ 127

pub record AreProductWeights (w x y : Weights) : Type 0 where
  pub over : w.over ≡ x.over * y.over
  pub under : w.under ≡ x.under * y.under
  pub over_fits : w.over < 2 ^ 127
  pub under_fits : w.under < 2 ^ 127

abbrev pub IsLightSum : Ratio → Ratio → Type 0
IsLightSum r s = weight (ratio_sum r s).over < 2 ^ 127

abbrev pub IsHeavySum : Ratio → Ratio → Type 0
IsHeavySum r s = 2 ^ 127 ≤ weight (ratio_sum r s).over

abbrev pub StopsHeavy : Stop → Tree → Type 0
StopsHeavy (Memory e) t = Unit {0}
StopsHeavy (Wide w) t = IsTooWide w × (2 ^ 126 < weight (numer t))

pub record AreRatio (p q : Plane) (r : Ratio) : Type 0 where
  pub over : SamePlane p (coefficients r.over)
  pub under : SamePlane q (coefficients r.under)

pub record IsOppositeRatio (o u a b : Plane) : Type 0 where
  pub over : SamePlane o (plane_neg a)
  pub under : SamePlane u b

pub record IsSumRatio (o u a b c d : Plane) : Type 0 where
  pub over : SamePlane o (plane_add (plane_mul a d) (plane_mul c b))
  pub under : SamePlane u (plane_mul b d)

pub record IsProductRatio (o u a b c d : Plane) : Type 0 where
  pub over : SamePlane o (plane_mul a c)
  pub under : SamePlane u (plane_mul b d)

pub record IsPowerRatio (o u a b : Plane) (e : ℕ) : Type 0 where
  pub over : SamePlane o (plane_power a e)
  pub under : SamePlane u (plane_power b e)
