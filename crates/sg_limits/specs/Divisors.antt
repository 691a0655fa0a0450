-- The parts of one role as divisors in their normal form.
--   of_role r ps           the parts of this role
--   IsDivisorOf p d        the divisor is the polynomial of the part in its normal form, with the part's limit
--   AreDivisors ps ds      so are all of them, in their order
--   StopsAmong s ps        out of memory, which is free; or a step that doesn't fit, where one of the parts is heavy
--   IsPushed t limit list new         after the list stands the tree's divisor with this limit
--   AreCollected r ps list result     the divisors of these parts stand after the list
use Rattle.std.specs.Prelude.{◌≡◌, ℤ, List, [], ◌∷◌, ◌++◌, Bool, true, false, cond, Result, IfOk, IfErr}
use Rattle.sg_algebra.proofs.Place.{Pairwise}
use Rattle.sg_spec.specs.Tree.{Tree}
use Rattle.sg_spec.specs.Parts.{Part, anywhere, divides, is_body, coefficients, numer, IsHeavy}
use Rattle.sg_spec.specs.Parts.{Role as Standing}
use Rattle.sg_spec.specs.Faults.{Among}
use Rattle.sg_num.specs.Stopped.{IsTooWide}
use Rattle.sg_num.specs.declared.step.Stop.{Stop}
use Rattle.sg_num.specs.declared.step.Stop.TheVariants.{Memory, Wide}
use Rattle.sg_parts.specs.Normal.{IsNormal}
use Rattle.sg_limits.specs.declared.divisors.Divisor.{Divisor}

abbrev pub same_role : Standing → Standing → Bool
same_role anywhere anywhere = true
same_role divides divides = true
same_role is_body is_body = true
same_role anywhere divides = false
same_role anywhere is_body = false
same_role divides anywhere = false
same_role divides is_body = false
same_role is_body anywhere = false
same_role is_body divides = false

abbrev pub of_role : Standing → List Part → List Part
of_role r [] = []
of_role r (p ∷ ps) = cond (same_role r p.role) (p ∷ of_role r ps) (of_role r ps)

pub record IsDivisorOf (p : Part) (d : Divisor) : Type 0 where
  pub normal : IsNormal d.poly (coefficients (numer p.tree))
  pub limit_is : d.limit ≡ p.limit

abbrev pub AreDivisors : List Part → List Divisor → Type 0
AreDivisors ps ds = Pairwise IsDivisorOf ps ds

abbrev pub StopsAmong : Stop → List Part → Type 0
StopsAmong (Memory e) ps = Unit {0}
StopsAmong (Wide w) ps = IsTooWide w × Among IsHeavy ps

abbrev pub IsPushed : Tree → ℤ → List Divisor → List Divisor → Type 0
IsPushed t limit list new = (d : Divisor) × (new ≡ list ++ d ∷ []) × IsNormal d.poly (coefficients (numer t)) × (d.limit ≡ limit)

pub record AreCollected (r : Standing) (ps : List Part) (list : List Divisor) (result : Result (List Divisor) Stop) : Type 0 where
  pub parts : (front : List Part) → AreDivisors (of_role r front) list → IfOk result (λ ds. AreDivisors (of_role r (front ++ ps)) ds)
  pub stop : IfErr result (λ s. StopsAmong s (of_role r ps))
