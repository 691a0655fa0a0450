-- Turned signs.
--   grouped-total     all terms with the other sign, where the first is below 0
use Rattle.std.proofs.Common.{◌≡◌, Bool, true, false, cond, not, ℤ, neg_ℤ, refl, ap, ap₂, List, [], ◌∷◌, map}
use Rattle.sg_spec.specs.Canonical.{Signed, turned, negated, plane_of}
use Rattle.sg_canonical.specs.declared.signs.Signed.{Signed as Kept}
use Rattle.sg_canonical.specs.Signs.{signed_of, turned_if}

pub grouped-total : (minus : Bool) (ss : List Kept) → map (λ s. turned_if minus (signed_of s)) ss ≡ cond minus (map turned (map signed_of ss)) (map signed_of ss)
grouped-total true [] = refl
grouped-total true (s ∷ ss) = ap (λ (l : List Signed). turned (signed_of s) ∷ l) (grouped-total true ss)
grouped-total false [] = refl
grouped-total false (s ∷ ss) = ap (λ (l : List Signed). signed_of s ∷ l) (grouped-total false ss)
