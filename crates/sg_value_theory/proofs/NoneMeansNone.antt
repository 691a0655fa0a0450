-- None means none: over a tower whose sums are those of a text, what has no formal antidifference has none in values.
--   Knows               along the points from k0 on the element has the values of the expression
--   none_means_none     without products: no expression over the sums, which may stand in divisors, telescopes the expression from any point on
--   none_with_products  no expression over the products and sums, with divisors that hold no sum, does
--   fails_formally      where the elements don't telescope, the equation fails beyond every point
--   telescopes_formally     where they do, it holds from a point on
--   agrees_formally     expressions that agree from some point on have equal elements; `agree_from` the other way
--   expressed_formally  an expression over the sums that agrees with one more sum makes what that sum grows by telescope
use Rattle.std.proofs.Common.{◌≡◌, ℕ, suc, ◌<◌, ◌⊎◌, inl, inr, ℤ, pos, ◌+ℤ◌, ◌-ℤ◌, ◌≤ℤ◌, unsigned_abs, refl, subst, List, [], ◌∷◌, length, Contains, arith, false}
use Rattle.std.proofs.lemmas.Int.{ints}
use Rattle.sg_algebra.specs.Ring.{Domain, Hom}
use Rattle.sg_algebra.specs.Coefficients.{Each}
use Rattle.sg_algebra.proofs.Place.{Pairwise}
use Rattle.sg_algebra.proofs.Value.{Value, ◌-ᵛ◌}
use Rattle.sg_algebra.proofs.ValueField.{ValueR}
use Rattle.sg_algebra.proofs.Rational.{whole_value, fraction_value-whole}
use Rattle.sg_spec.specs.Tree.{Tree, here, numeral, param, add, neg, mul, div, power, sum_from, prod_from}
use Rattle.sg_spec.specs.Value.{val, SameValue, both}
use Rattle.sg_spec.specs.Generators.{Over, Allowed, BuiltOver as OwnBuilt}
use Rattle.sg_spec.proofs.Worth.{Worth}
use Rattle.sg_spec.specs.Telescoping.{Tele, Failing, Agree, difference_of}
use Rattle.sg_tower_theory.proofs.Difference.{delta}
use Rattle.sg_tower_theory.proofs.Lawful.{Lawful}
use Rattle.sg_tower_theory.proofs.Formal.{Formal, Element, domain_of, shifted, lifted, IsIndependent, lawful_formal}
use Rattle.sg_value_theory.proofs.Elements.{Point}
use Rattle.sg_spec.specs.Worth.{HasWorth}
use Rattle.sg_value_theory.proofs.TreePoints.{IsPointOf, Agrees}
use Rattle.sg_value_theory.proofs.TowerOf.{IsTowerOf, IsFormallyNone, at_places, BuiltOver}
use Rattle.sg_worth_theory.proofs.Worths.{worth_number, number_worth}
use Rattle.sg_worth_theory.proofs.Closes.{no_letter}
use Rattle.sg_value_theory.proofs.NumberParts.{left_number, right_number, both_parts}
use Rattle.sg_value_theory.proofs.Divisors.{listed_divisor}
use Rattle.sg_value_theory.proofs.OverProducts.{AgreesFrom, element_over}
use Rattle.sg_value_theory.proofs.Places.{Places}
use Rattle.sg_value_theory.proofs.Evaluations.{lifted-has}
use Rattle.sg_value_theory.proofs.RationalPlaces.{variable, variable_at}
use Rattle.sg_value_theory.proofs.FormalPlaces.{places_along}
use Rattle.sg_value_theory.proofs.FormalLaws.{integral_formal}
use Rattle.sg_value_theory.proofs.Express.{Known}
use Rattle.sg_value_theory.proofs.Joined.{none_in_values, tele_of_formal, failing, agree_formal, agree_same, same_agree}
use Rattle.sg_value_theory.proofs.OwnSums.{contains_cons, nothing}
use Rattle.sg_value_theory.proofs.Lists.{each-at}
use Rattle.sg_value_theory.proofs.PointsOf.{HasValues, HasUnits, points, run, KnownAlong, known-along, knowns}

pairwise_contains : {Y : Type 0} (P : Tree → Y → Type 0) (xs : List Tree) (ys : List Y) → Pairwise P xs ys → (t : Tree) → Contains xs t → (y : Y) × P t y
pairwise_contains P [] ys p t c = absurd (nothing c)
pairwise_contains P (x ∷ xs) [] p t c = absurd p
pairwise_contains {Y} P (x ∷ xs) (y ∷ ys) p t c = go (contains_cons x t xs c) (λ k. pairwise_contains P xs ys p.1 t k)
  where
    go : (x ≡ t) ⊎ Contains xs t → (Contains xs t → (y : Y) × P t y) → (y : Y) × P t y
    go (inl e) again = (y, subst (λ (z : Tree). P z y) e p.0)
    go (inr k) again = again k

module _ (s : ℤ) (ps ss : List Tree) (F : Formal 0) (places : List ℕ) (known : List (Element F)) (is : IsTowerOf no_letter s ps ss F places known) (units : Each (HasUnits no_letter) ps)
    (frees : Each (HasValues no_letter) (at_places ss places)) (k0 : ℤ) (late : s ≤ℤ k0) where
  abbrev D : Domain
  D = domain_of F

  abbrev σ : Hom D.R D.R
  σ = (shifted F).σ

  abbrev P : Places D.R (ValueR 0) σ
  P = places_along F (points no_letter s ps ss F places known is units frees k0 late) (run no_letter s ps ss F places known is units frees k0 late)

  abbrev pub Knows : Tree → Element F → Type 0
  Knows t x = Known D σ P k0 t x

  to_known : (t : Tree) (x : Element F) → KnownAlong no_letter s ps ss F places known is units frees k0 late t x → Knows t x
  to_known t x h k = let r = h k in (r.0, r.1, worth_number (pos 0) t (k0 +ℤ pos k) r.0 r.2)

  -- an element that agrees with an expression that has values from k0 on
  pub knows : (t : Tree) (x : Element F) → ((k : ℤ) → k0 ≤ℤ k → (v : Value 0) × HasWorth no_letter t k v) → ((p : Point 0) → s ≤ℤ p.variable → IsPointOf no_letter ps (at_places ss places) p → Agrees no_letter F p x t) → Knows t x
  knows t x has agrees = to_known t x (known-along no_letter s ps ss F places known is units frees k0 late t x has agrees)

  pub sums_known : Each (HasValues no_letter) ss → (t : Tree) → Contains ss t → (h : Element F) × Knows t h
  sums_known all t c =
      let r = pairwise_contains (KnownAlong no_letter s ps ss F places known is units frees k0 late) ss known (knowns no_letter s ps ss F places known is units frees k0 late all) t c in
      (r.0, to_known t r.0 r.1)

  pub variable_known : Knows here (lifted F (variable 0))
  variable_known k = (whole_value 0 (k0 +ℤ pos k), lifted-has F (points no_letter s ps ss F places known is units frees k0 late k) (variable 0) (whole_value 0 (k0 +ℤ pos k)) (variable_at 0 (k0 +ℤ pos k)), fraction_value-whole (k0 +ℤ pos k))

  module _ (independent : IsIndependent F) where
    lawful : Lawful D σ
    lawful = lawful_formal F independent

    pub known_none : F.products ≡ [] → Each (HasValues no_letter) ss → (f : Tree) (x : Element F) → Knows f x → ((g : Element F) → ¬ (D.R.◌≈◌ (delta (shifted F) g) x)) → (e : Tree) → Over ss e → ¬ Tele e f
    known_none n all = none_in_values D σ P lawful k0 (integral_formal F n independent) ss (sums_known all) (lifted F (variable 0)) variable_known

    pub known_expressed : F.products ≡ [] → Each (HasValues no_letter) ss → (e t : Tree) (x : Element F) → Over ss e
        → ((k : ℕ) → (u u' v : Value 0) × Worth (val t (pos 0) (k0 +ℤ pos k)) u × Worth (val t (pos 0) (k0 +ℤ pos (suc k))) u' × P.Has x k v × (u' -ᵛ u ≡ v))
        → Agree e t → (g : Element F) × D.R.◌≈◌ (delta (shifted F) g) x
    known_expressed n all = agree_formal D σ P lawful k0 (integral_formal F n independent) ss (sums_known all) (lifted F (variable 0)) variable_known

    pub fails_formally : (e f : Tree) (x y : Element F) → Knows e x → Knows f y → ¬ (D.R.◌≈◌ (delta (shifted F) x) y) → (K : ℤ) → Failing e f K
    fails_formally = failing D σ P lawful k0

    pub telescopes_formally : (e f : Tree) (x y : Element F) → Knows e x → Knows f y → D.R.◌≈◌ (delta (shifted F) x) y → Tele e f
    telescopes_formally = tele_of_formal D σ P lawful k0

    pub agrees_formally : (e g : Tree) (x y : Element F) → Knows e x → Knows g y → Agree e g → D.R.◌≈◌ x y
    agrees_formally = agree_same D σ P lawful k0

    pub agree_from : (e g : Tree) (x y : Element F) → Knows e x → Knows g y → D.R.◌≈◌ x y → (k : ℕ) → SameValue (val e (pos 0) (k0 +ℤ pos k)) (val g (pos 0) (k0 +ℤ pos k))
    agree_from = same_agree D σ P lawful k0

-- ---- Texts without products

no_factors : {X : Type 0} (n : ℕ) (xs : List X) → 0 ≡ length xs → xs ≡ []
no_factors n [] e = refl
no_factors n (x ∷ xs) e = absurd (omega (arith, e))

-- a place past both
later : (s K : ℤ) → (z : ℤ) × (s ≤ℤ z) × (K ≤ℤ z)
later s K = (s +ℤ pos (unsigned_abs (K -ℤ s)), first s K, second s K)
  where
    first : (s K : ℤ) → s ≤ℤ (s +ℤ pos (unsigned_abs (K -ℤ s)))
    first s K = grind (arith, ints)

    second : (s K : ℤ) → K ≤ℤ (s +ℤ pos (unsigned_abs (K -ℤ s)))
    second s K = grind (arith, ints)

at_each : (ss : List Tree) (places : List ℕ) → Each (HasValues no_letter) ss → Each (λ i. i < length ss) places → Each (HasValues no_letter) (at_places ss places)
at_each ss [] h i = tt
at_each ss (n ∷ ns) h i = (each-at (HasValues no_letter) ss n here i.0 h, at_each ss ns h i.1)

-- where an equation holds, both sides have values
tele_left : (e f : Tree) (t : Tele e f) (k : ℤ) → t.from ≤ℤ k → (v : Value 0) × HasWorth no_letter e k v
tele_left e f t k l =
    let n = left_number (both difference_of (val e (pos 0) (k +ℤ pos 1)) (val e (pos 0) k)) (val f (pos 0) k) (t.steps k l) in
    let m = (both_parts difference_of (val e (pos 0) (k +ℤ pos 1)) (val e (pos 0) k) n.0 n.1).1 in
    (m.0, number_worth (pos 0) e k m.0 m.1)

tele_right : (e f : Tree) (t : Tele e f) (k : ℤ) → t.from ≤ℤ k → (v : Value 0) × HasWorth no_letter f k v
tele_right e f t k l =
    let m = right_number (both difference_of (val e (pos 0) (k +ℤ pos 1)) (val e (pos 0) k)) (val f (pos 0) k) (t.steps k l) in
    (m.0, number_worth (pos 0) f k m.0 m.1)

up_to_place : (K z k : ℤ) → K ≤ℤ z → z ≤ℤ k → K ≤ℤ k
up_to_place K z k l m = omega (arith, ints, l, m)

pub none_means_none : (s : ℤ) (ss : List Tree) (f : Tree) → Each (HasValues no_letter) ss → IsFormallyNone no_letter s [] ss f → (e : Tree) → Over ss e → ¬ Tele e f
none_means_none s ss f all n e over tele = go (later s tele.from)
  where
    go : (z : ℤ) × (s ≤ℤ z) × (tele.from ≤ℤ z) → ⊥
    go z =
        let frees = at_each ss n.places all n.is.inside in
        known_none s [] ss n.tower n.places n.known n.is tt frees z.0 z.1 n.independent (no_factors 0 n.tower.products n.is.adjoined) all f n.element
        (knows s [] ss n.tower n.places n.known n.is tt frees z.0 z.1 f n.element (λ k l. tele_right e f tele k (up_to_place tele.from z.0 k z.2 l)) n.stands) n.none e over tele

-- ---- Texts with products

abbrev pub own : List Tree → List Tree → Allowed
own ps ss = record { parameter = false; products = ps; sums = ss }

over_built : (ps ss : List Tree) (e : Tree) → OwnBuilt (own ps ss) e → BuiltOver ps ss e
over_built ps ss (numeral c) o = tt
over_built ps ss here o = tt
over_built ps ss param o = tt
over_built ps ss (add x y) o = (over_built ps ss x o.0, over_built ps ss y o.1)
over_built ps ss (neg x) o = over_built ps ss x o
over_built ps ss (mul x y) o = (over_built ps ss x o.0, over_built ps ss y o.1)
over_built ps ss (div x y) o = (over_built ps ss x o.0, over_built ps ss y o.1, listed_divisor ps ss y o.1 o.2)
over_built ps ss (power x e) o = over_built ps ss x o
over_built ps ss (sum_from a b) o = o
over_built ps ss (prod_from a b) o = o

pub none_with_products : (s : ℤ) (ps ss : List Tree) (f : Tree) → Each (HasUnits no_letter) ps → Each (HasValues no_letter) ss → IsFormallyNone no_letter s ps ss f → (e : Tree) → OwnBuilt (own ps ss) e → ¬ Tele e f
none_with_products s ps ss f units all n e over tele = go (later s tele.from)
  where
    go : (z : ℤ) × (s ≤ℤ z) × (tele.from ≤ℤ z) → ⊥
    go z = clash (element_over no_letter s ps ss n.tower n.places n.known n.is sums e (over_built ps ss e over))
      where
        frees : Each (HasValues no_letter) (at_places ss n.places)
        frees = at_each ss n.places all n.is.inside

        sums : (t : Tree) → Contains ss t → (x : Element n.tower) × AgreesFrom no_letter s ps ss n.tower n.places n.known n.is x t
        sums t c = pairwise_contains (λ g x. AgreesFrom no_letter s ps ss n.tower n.places n.known n.is x g) ss n.known n.is.known_agree t c

        clash : (x : Element n.tower) × AgreesFrom no_letter s ps ss n.tower n.places n.known n.is x e → ⊥
        clash x = fails (fails_formally s ps ss n.tower n.places n.known n.is units frees z.0 z.1 n.independent e f x.0 n.element
            (knows s ps ss n.tower n.places n.known n.is units frees z.0 z.1 e x.0 (λ k l. tele_left e f tele k (up_to_place tele.from z.0 k z.2 l)) x.1)
            (knows s ps ss n.tower n.places n.known n.is units frees z.0 z.1 f n.element (λ k l. tele_right e f tele k (up_to_place tele.from z.0 k z.2 l)) n.stands)
            (n.none x.0) tele.from)
          where
            fails : Failing e f tele.from → ⊥
            fails h = h.fails (tele.steps h.k h.past)
