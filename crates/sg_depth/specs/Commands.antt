-- The sums and products of a command, and the tower over them. ρ says which formal tower it is and which of its elements an item stands for.
--   sums_of, prods_of                their trees
--   AreSound letter facts            at most eight sums, each over those before it, with values of its body from its lower limit on; no products
--   AreNewSums facts places gs       the sums at the places
--   AreInLimits a es                 expressions in one letter that keep the counted limits, and a lower limit from -1,001 to 1,000
--   AreAdmitted a facts es           such without products, no part of whose divisors is 0 from a on, of which these are the facts
--   StandsOverAll facts ρ places known        the facts are sound, their sums hold no parameter where d is 0, and the tower stands over them
--   StandsOver letter facts ρ places known    the tower stands over the new sums, those at the places, and known are the elements of all sums
use Rattle.std.specs.Prelude.{◌≡◌, ℕ, ℤ, pos, negsuc, ◌≤ℤ◌, false, Some, None, List, map, All}
use Rattle.sg_algebra.specs.Coefficients.{Each}
use Rattle.sg_algebra.proofs.Value.{Value}
use Rattle.sg_spec.specs.Tree.{Tree}
use Rattle.sg_spec.specs.Faults.{parts_of, AreSpared}
use Rattle.sg_spec.specs.Limits.{counted}
use Rattle.sg_spec.specs.Printing.{InForm}
use Rattle.sg_worth_theory.proofs.Plain.{HasNoProduct}
use Rattle.sg_expr.specs.Tree.{tree_of}
use Rattle.sg_limits.specs.Counts.{AreFacts}
use Rattle.sg_value_theory.proofs.TowerOf.{IsSound, IsTowerOf, at_places}
use Rattle.sg_tower.specs.Elements.{Reading}
use Rattle.sg_build.specs.Letters.{letter, HasNoLetter}
use Rattle.sg_limits.specs.declared.inspection.Facts.{Facts}

abbrev pub sums_of : Facts → List Tree
sums_of facts = map tree_of facts.sums

abbrev pub prods_of : Facts → List Tree
prods_of facts = map tree_of facts.prods

abbrev pub AreSound : {d : ℕ} → Value d → Facts → Type 0
AreSound letter facts = IsSound letter facts.start (prods_of facts) (sums_of facts)

abbrev pub StandsOver : {d : ℕ} {E : Type 0} → Value d → Facts → Reading d E → List ℕ → List E → Type 0
StandsOver letter facts ρ places known = IsTowerOf letter facts.start (prods_of facts) (sums_of facts) ρ.formal places (map ρ.of known)

abbrev pub AreNewSums : Facts → List ℕ → List Tree → Type 0
AreNewSums facts places gs = gs ≡ at_places (sums_of facts) places

pub record AreInLimits (a : ℤ) (es : List Tree) : Type 0 where
  pub form : Each (InForm false false) es
  pub kept : counted es ≡ None
  pub low : negsuc 1000 ≤ℤ a
  pub high : a ≤ℤ pos 1000

pub record AreAdmitted (a : ℤ) (facts : Facts) (es : List Tree) : Type 0 where
  pub within : AreInLimits a es
  pub plain : Each HasNoProduct es
  pub spared : AreSpared (parts_of (Some a) es)
  pub facts_are : AreFacts facts (Some a) es

pub record StandsOverAll {d : ℕ} {E : Type 0} (facts : Facts) (ρ : Reading d E) (places : List ℕ) (known : List E) : Type 0 where
  pub sound : AreSound (letter d) facts
  pub no_letter : All (HasNoLetter d) (sums_of facts)
  pub stands : StandsOver (letter d) facts ρ places known
