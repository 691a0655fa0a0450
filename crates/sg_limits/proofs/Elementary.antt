-- Lists of which each element has a property, and tests.
--   each_append, each_left, each_right     both parts of a list and the whole
--   not_true, not_so                       the two answers of a test differ
--   both_true                              both of two tests
use Rattle.std.proofs.Common.{◌≡◌, refl, Bool, true, false, ◌&&◌, List, [], ◌∷◌, ◌++◌}
use Rattle.sg_algebra.specs.Coefficients.{Each}

module _ {A : Type 0} (P : A → Type 0) where
  pub each_append : (ps qs : List A) → Each P ps → Each P qs → Each P (ps ++ qs)
  each_append [] qs h k = k
  each_append (p ∷ ps) qs h k = (h.0, each_append ps qs h.1 k)

  pub each_left : (ps qs : List A) → Each P (ps ++ qs) → Each P ps
  each_left [] qs h = tt
  each_left (p ∷ ps) qs h = (h.0, each_left ps qs h.1)

  pub each_right : (ps qs : List A) → Each P (ps ++ qs) → Each P qs
  each_right [] qs h = h
  each_right (p ∷ ps) qs h = each_right ps qs h.1

pub not_true : false ≡ true → ⊥
not_true e = cc

pub not_so : true ≡ false → ⊥
not_so e = cc

pub both_true : (a b : Bool) → (a && b) ≡ true → (a ≡ true) × (b ≡ true)
both_true true true e = (refl, refl)
both_true true false e = absurd (not_true e)
both_true false b e = absurd (not_true e)
