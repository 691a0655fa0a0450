-- A summand in the tower over the sums of a command. ρ says which formal tower it is and which of its elements an item stands for.
--   units-are, somewhere-is     what `place` asks
--   none-is           where nothing telescopes its element, there is no closed form
--   regular-is        what telescopes it has a value at the start
--   closed-is         what telescopes it, one place further and with its constant, is written as a closed form
--   canonical-is, form-is       in the canonical form, as it is printed
use Rattle.std.proofs.Common.{ℕ, ◌<◌, refl, sym, ◌∙◌, subst, List, [], ◌∷◌, ◌++◌, length, get_or, ℤ, Contains, false}
use Rattle.std.proofs.lemmas.List.Elements.{Contains-get_or}
use Rattle.sg_algebra.specs.Coefficients.{Each}
use Rattle.sg_spec.specs.Tree.{Tree, here, numeral, param, add, neg, mul, div, power, sum_from, prod_from}
use Rattle.sg_spec.specs.Canonical.{IsCanonicalOver}
use Rattle.sg_spec.specs.Closed.{IsOverOwn}
use Rattle.sg_spec.specs.Generators.{Over, sums, prods}
use Rattle.sg_spec.specs.Printing.{InForm}
use Rattle.sg_value_theory.proofs.TowerOf.{IsSumOver, at_places}
use Rattle.sg_value_theory.proofs.TreePoints.{AreValues}
use Rattle.sg_value_theory.proofs.Lists.{each-at}
use Rattle.sg_tower_theory.proofs.Formal.{IsIndependent}
use Rattle.sg_tower.specs.Elements.{Reading, IsNewSum}
use Rattle.sg_limits.specs.declared.inspection.Facts.{Facts}
use Rattle.sg_build.specs.Letters.{letter}
use Rattle.sg_build.specs.Points.{AreUnits, HasPlace, IsPlaced}
use Rattle.sg_build.specs.Expressions.{ExpressesOver, IsOverAlike, IsPrintedAlike}
use Rattle.sg_tele.specs.Telescoping.{IsAntidifference}
use Rattle.sg_depth.specs.Commands.{AreSound, AreNewSums, StandsOver, sums_of, prods_of}
use Rattle.sg_depth_theory.proofs.Sums.{over-earlier}
use Rattle.sg_depth_theory.proofs.Summing.{somewhere, no-sum, regular-start, closed-by}
use Rattle.sg_forms_theory.proofs.Listed.{are-new}
use Rattle.sg_nested.specs.Summands.{IsSummand, IsClosedForm, IsCanonicalForm, IsPrintedForm, HasNoClosedForm, HasStart, IsTotal}

each-of-places : (P : Tree → Type 0) (ss : List Tree) (m : ℕ) (places : List ℕ) → ((i : ℕ) → i < m → P (get_or ss i here)) → Each (λ i. i < m) places → Each P (at_places ss places)
each-of-places P ss m [] k h = tt
each-of-places P ss m (i ∷ is) k h = (k i h.0, each-of-places P ss m is k h.1)

own-over : (ps before ss : List Tree) (g : Tree) → IsSumOver ps before g → Contains ss g → Over ss g
own-over ps before ss (numeral c) o h = absurd o
own-over ps before ss here o h = absurd o
own-over ps before ss param o h = absurd o
own-over ps before ss (add x y) o h = absurd o
own-over ps before ss (neg x) o h = absurd o
own-over ps before ss (mul x y) o h = absurd o
own-over ps before ss (div x y) o h = absurd o
own-over ps before ss (power x e) o h = absurd o
own-over ps before ss (sum_from from body) o h = h
own-over ps before ss (prod_from from body) o h = absurd o

module _ (facts : Facts) {E : Type 0} (ρ : Reading 0 E) (places : List ℕ) (known : List E) (sound : AreSound (letter 0) facts) (stands : StandsOver (letter 0) facts ρ places known) where
  pub units-are : AreUnits ρ (prods_of facts) known
  units-are = subst (λ (ps : List Tree). AreUnits ρ ps known) (sym sound.no_products) tt

  frees-over : Each (Over (sums_of facts)) (at_places (sums_of facts) places)
  frees-over =
      each-of-places (Over (sums_of facts)) (sums_of facts) (length (sums_of facts)) places
      (λ i l. own-over (prods_of facts) _ (sums_of facts) (get_or (sums_of facts) i here) (over-earlier (letter 0) facts.start (prods_of facts) (sums_of facts) sound i l) (Contains-get_or (sums_of facts) i here l)) stands.inside

  pub canonical-is : IsIndependent ρ.formal → (frees : List Tree) (h : Tree) → AreNewSums facts places frees → IsCanonicalOver [] frees h → IsCanonicalForm facts h
  canonical-is independent frees h is c = (
    at_places (sums_of facts) places,
    are-new facts.start (prods_of facts) (sums_of facts) ρ.formal ρ.of places known stands sound independent,
    subst (λ (ps : List Tree). IsCanonicalOver ps (at_places (sums_of facts) places) h) (sym sound.no_products) (subst (λ (gs : List Tree). IsCanonicalOver [] gs h) is c),
  )

  pub form-is : (frees : List Tree) (h : Tree) → AreNewSums facts places frees → IsPrintedAlike 0 [] frees h → IsPrintedForm facts h
  form-is frees h is p all =
      p refl tt
      (subst (Each (InForm false false)) (sym is)
      (each-of-places (InForm false false) (sums_of facts) (length (sums_of facts)) places (λ i l. each-at (InForm false false) (sums_of facts) i here l all) stands.inside))

  module _ (f : Tree) (a : ℤ) (summand : IsSummand facts f a) where
    pub somewhere-is : HasPlace (letter 0) ρ (prods_of facts ++ sums_of facts) known f
    somewhere-is = somewhere facts.start (prods_of facts) (sums_of facts) ρ.formal ρ.of places known stands sound f a summand.below summand.values

    module _ (x : E) (placed : IsPlaced (letter 0) ρ (prods_of facts ++ sums_of facts) known f x) where
      pub none-is : IsIndependent ρ.formal → IsNewSum ρ x → HasNoClosedForm facts f
      none-is independent new = no-sum facts.start (prods_of facts) (sums_of facts) ρ.formal ρ.of places known stands sound f a summand.below summand.values x placed independent new

      module _ (g : E) (telescopes : IsAntidifference ρ x g) where
        pub regular-is : HasStart facts ρ places g
        regular-is p i = regular-start facts.start (prods_of facts) (sums_of facts) ρ.formal ρ.of places known stands sound f a summand.below summand.values x placed (ρ.of g) telescopes p i.at_start i.is_point

        pub closed-is : (y : E) (total : IsTotal facts ρ places f a g y) (frees : List Tree) (h : Tree) → AreNewSums facts places frees → ExpressesOver (letter 0) ρ.formal (ρ.of y) [] frees h → IsOverAlike 0 [] frees h → IsClosedForm facts f a h
        closed-is y total frees h is expresses alike others starts ps-are ss-are =
            closed-by facts.start (prods_of facts) (sums_of facts) ρ.formal ρ.of places known stands sound f a summand.below summand.values x placed (ρ.of g) telescopes
            others h (ρ.of y) total.before total.found total.is_found.0 total.is_found.1.at_start total.is_found.1.is_point starts over total.is_before total.is_found.2 total.sum_is
            (λ q i. expresses q (tt, subst (λ (gs : List Tree). AreValues (letter 0) q.variable gs q.sums) (sym is) i.1))
          where
            over : IsOverOwn (prods (f ∷ others)) (sums (f ∷ others)) h
            over =
                subst (λ (ps : List Tree). IsOverOwn ps (sums (f ∷ others)) h) (sym sound.no_products ∙ ps-are)
                (subst (λ (ss : List Tree). Over ss h) ss-are (alike refl refl (sums_of facts) (subst (Each (Over (sums_of facts))) (sym is) frees-over)))
