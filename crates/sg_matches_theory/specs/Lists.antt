-- The products of a list, each over the free ones before it.
--   IsFirstDependent parameter qs ps p    with qs as the free products so far, p is the first of the list ps that is neither free nor
--                                         expressed
--   NoneDependent parameter qs ps         each of the list is one of the two
use Rattle.std.specs.Prelude.{◌≡◌, Bool, List, [], ◌∷◌, ◌++◌, ◌⊎◌}
use Rattle.sg_spec.specs.Tree.{Tree}
use Rattle.sg_answers_theory.specs.Matches.{HasNoMatch, IsExpressedOver, IsDependentOver}

abbrev pub IsFirstDependent : Bool → List Tree → List Tree → Tree → Type 0
IsFirstDependent parameter qs [] p = ⊥
IsFirstDependent parameter qs (q ∷ ps) p =
    (IsDependentOver parameter qs q × (p ≡ q)) ⊎ ((HasNoMatch parameter qs q × IsFirstDependent parameter (qs ++ q ∷ []) ps p) ⊎ (IsExpressedOver parameter qs q × IsFirstDependent parameter qs ps p))

abbrev pub NoneDependent : Bool → List Tree → List Tree → Type 0
NoneDependent parameter qs [] = Unit {0}
NoneDependent parameter qs (q ∷ ps) = (HasNoMatch parameter qs q × NoneDependent parameter (qs ++ q ∷ []) ps) ⊎ (IsExpressedOver parameter qs q × NoneDependent parameter qs ps)
