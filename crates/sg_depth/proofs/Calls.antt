-- The next sum, from what the calls answer.
--   next-inside, next-letter     there is one, and it holds no parameter over the fractions
--   is-sum                       it is a sum
--   built-is, somewhere-is       its body is built over those before it, and it has a value somewhere
--   difference-is                the shifted element of its body
--   has-start                    what telescopes it has a value at the start
--   new-fate, known-fate         what it is
use Rattle.std.proofs.Common.{◌≡◌, ℕ, suc, ◌<◌, ℤ, refl, sym, ap, ap₂, ◌∙◌, subst, List, [], ◌∷◌, ◌++◌, length, map, take, get_or, All, arith}
use Rattle.std.proofs.lemmas.List.{length-map, get_or-map, take-map}
use Rattle.std.proofs.lemmas.List.Elements.{All-get_or}
use Rattle.sg_algebra.proofs.Value.{Value}
use Rattle.sg_spec.specs.Tree.{Tree, here, sum_from}
use Rattle.sg_expr.specs.Tree.{tree_of}
use Rattle.sg_expr.specs.declared.tree.Expr.{Expr}
use Rattle.sg_tower_theory.proofs.Formal.{Formal, Element, shifted}
use Rattle.sg_value_theory.proofs.TowerOf.{BuiltOver, IsSumOver}
use Rattle.sg_depth_theory.proofs.Standing.{IsLevelled}
use Rattle.sg_depth_theory.proofs.Sums.{over-earlier}
use Rattle.sg_depth_theory.proofs.Items.{item-inside, built, somewhere, step-is, regular-is, new-is, known-is}
use Rattle.sg_tower.specs.Elements.{Reading, IsNewSum, IsShifted}
use Rattle.sg_tele.specs.Telescoping.{IsAntidifference}
use Rattle.sg_build.specs.Letters.{letter, HasNoLetter}
use Rattle.sg_build.specs.Points.{AreUnits, HasPlace, IsPlaced}
use Rattle.sg_limits.specs.declared.inspection.Facts.{Facts}
use Rattle.sg_depth.specs.declared.fate.Fate.TheVariants.{New, Known}
use Rattle.sg_depth.specs.Commands.{sums_of, prods_of}
use Rattle.sg_depth.specs.Building.{IsBuilt, IsPlacedNext, IsLevelledTo, HasStart}
use Rattle.sg_depth.specs.Fates.{IsFate}

-- the first items of a list of which so many are read
pub before_is : {E : Type 0} (front all sums : List Expr) (n : ℕ) (known : List E) → front ≡ take n all → n ≡ length known → all ≡ sums → front ≡ take (length known) sums
before_is front all sums n known f l a = f ∙ ap₂ take l a

module _ {d : ℕ} {E : Type 0} (facts : Facts) (ρ : Reading d E) (places : List ℕ) (known : List E) where
  abbrev ss : List Tree
  ss = sums_of facts

  abbrev ps : List Tree
  ps = prods_of facts

  abbrev L : Value d
  L = letter d

  -- there are no products yet
  no-products : (r : ℕ) → IsBuilt facts (suc r) ρ places known → ps ≡ []
  no-products r built = built.state.sound.no_products

  module _ (r : ℕ) (b : IsBuilt facts (suc r) ρ places known) where
    pub next-inside : length known < length ss
    next-inside = item-inside L facts.start ps ss ρ.formal ρ.of places known r b.state

    pub inside-list : length known < length facts.sums
    inside-list = let l = next-inside in let e = length-map facts.sums tree_of in omega (arith, l, e)

    pub next-letter : HasNoLetter d (get_or ss (length known) here)
    next-letter = All-get_or (HasNoLetter d) ss (length known) here next-inside b.no_letter

    pub next-over : IsSumOver ps (take (length known) ss) (get_or ss (length known) here)
    next-over = over-earlier L facts.start ps ss b.state.sound (length known) next-inside

    -- the tree of the item that was read
    pub read-is : (i : ℕ) (e : Expr) → i ≡ length known → e ≡ get_or facts.sums i e → get_or ss (length known) here ≡ tree_of e
    read-is i e j h = get_or-map tree_of facts.sums (length known) e here inside-list ∙ ap tree_of (sym (h ∙ ap (λ k. get_or facts.sums k e) j))

    pub over-read : (i : ℕ) (e : Expr) → i ≡ length known → e ≡ get_or facts.sums i e → IsSumOver ps (take (length known) ss) (tree_of e)
    over-read i e j h = subst (λ (g : Tree). IsSumOver ps (take (length known) ss) g) (read-is i e j h) next-over

    -- so each arm for something else than a sum is impossible
    pub is-no-sum : (i : ℕ) (e : Expr) → i ≡ length known → e ≡ get_or facts.sums i e → (t : Expr) → e ≡ t → IsSumOver ps (take (length known) ss) (tree_of t)
    is-no-sum i e j h t is = subst (λ (u : Expr). IsSumOver ps (take (length known) ss) (tree_of u)) is (over-read i e j h)

    module _ (from : ℤ) (body : Tree) (is : get_or ss (length known) here ≡ sum_from from body) where
      pub body-letter : HasNoLetter d body
      body-letter = subst (λ (g : Tree). HasNoLetter d g) is next-letter

      -- the call has the products, the sums before it and the known items as slices
      module _ (qs bs : List Expr) (xs : List E) (q : qs ≡ facts.prods) (e : bs ≡ take (length known) facts.sums) (k : xs ≡ known) where
        trees : map tree_of bs ≡ take (length known) ss
        trees = ap (map tree_of) e ∙ sym (take-map tree_of (length known) facts.sums)

        over-all : take (length known) ss ≡ map tree_of qs ++ map tree_of bs
        over-all = sym (ap₂ ◌++◌ (ap (map tree_of) q ∙ no-products r b) trees)

        pub built-is : BuiltOver (map tree_of qs) (map tree_of bs) body
        built-is = subst (λ (us : List Tree). BuiltOver us (map tree_of bs) body) (sym (ap (map tree_of) q)) (subst (λ (gs : List Tree). BuiltOver ps gs body) (sym trees) (built L facts.start ps ss ρ.formal ρ.of places known r b.state from body is))

        pub somewhere-is : HasPlace L ρ (map tree_of qs ++ map tree_of bs) xs body
        somewhere-is = subst (λ (ys : List E). HasPlace L ρ (map tree_of qs ++ map tree_of bs) ys body) (sym k) (subst (λ (gs : List Tree). HasPlace L ρ gs known body) over-all (somewhere L facts.start ps ss ρ.formal ρ.of places known r b.state from body is))

        pub units-are : AreUnits ρ (map tree_of qs) xs
        units-are = subst (λ (us : List Tree). AreUnits ρ us xs) (sym (ap (map tree_of) q ∙ no-products r b)) tt

        pub difference-is : (x β : E) → IsPlaced L ρ (map tree_of qs ++ map tree_of bs) xs body x → IsShifted ρ x β → IsPlacedNext facts ρ places known body β
        difference-is x β placed shifts =
            step-is L facts.start ps ss ρ.formal ρ.of places known r b.state from body is x β
            (subst (λ (gs : List Tree). IsPlaced L ρ gs known body x) (sym over-all) (subst (λ (ys : List E). IsPlaced L ρ (map tree_of qs ++ map tree_of bs) ys body x) k placed)) shifts

      module _ (β : E) (step : IsPlacedNext facts ρ places known body β) (y : E) (telescopes : IsAntidifference ρ β y) where
        pub has-start : HasStart facts ρ places known y
        has-start = regular-is L facts.start ps ss ρ.formal ρ.of places known r b.state from body is β step y telescopes

  module _ (from : ℤ) (body : Tree) (is : get_or ss (length known) here ≡ sum_from from body) (β : E) (step : IsPlacedNext facts ρ places known body β) where
    pub new-fate : IsNewSum ρ β → IsFate facts ρ places known (New β)
    new-fate new = (new, λ own h r b. record { no_letter = b.no_letter; state = new-is L facts.start ps ss ρ.formal ρ.of places known r b.state from body is β step own h })

    pub known-fate : (y h : E) → IsAntidifference ρ β y → (g : Tree) → g ≡ sum_from from body → IsLevelledTo facts ρ places known g y h → IsFate facts ρ places known (Known h)
    known-fate y h telescopes g e level r b = record {
      no_letter = b.no_letter;
      state = known-is L facts.start ps ss ρ.formal ρ.of places known r b.state from body is β step y telescopes h (subst (λ (t : Tree). IsLevelledTo facts ρ places known t y h) e level);
    }
