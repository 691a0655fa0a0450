-- Expressions in the tower over the sums of a command. ρ says which formal tower it is and which of its elements an item stands for.
--   units-are, somewhere-is     what `place` asks
--   inside-is, reached-count    the places are places in the list, and there is an item for each sum
--   check-is           whether one expression telescopes another, by their items
--   written-is, all-written     what is said of an item is written of its terms; so of any element
--   told-none, told-free, told-expressed, told-all    what is told of the sums, one after another
--   simplest-is        the simplest form
use Rattle.std.proofs.Common.{◌≡◌, ◌≢◌, ℕ, zero, suc, ◌<◌, ◌↔◌, IsTrue, refl, sym, ap, ◌∙◌, subst, List, [], ◌∷◌, ◌++◌, length, take, get_or, ◌≤ℤ◌, Bool, true, false, true≢false, Option, None, Some, arith}
use Rattle.std.proofs.lemmas.Int.{ints}
use Rattle.std.proofs.lemmas.List.{length-map, map-append}
use Rattle.sg_algebra.specs.Coefficients.{Each}
use Rattle.sg_spec.specs.Tree.{Tree, here}
use Rattle.sg_spec.specs.Printing.{InForm}
use Rattle.sg_tower_theory.proofs.Difference.{delta}
use Rattle.sg_tower_theory.proofs.Formal.{Element, elements, shifted, IsIndependent}
use Rattle.sg_value_theory.proofs.TowerOf.{at_places}
use Rattle.sg_value_theory.proofs.Lists.{each-at, each-more}
use Rattle.sg_depth_theory.proofs.Summing.{somewhere}
use Rattle.sg_tower.specs.Elements.{Reading, Same, IsShifted, IsDifference, IsCopy}
use Rattle.sg_limits.specs.declared.inspection.Facts.{Facts}
use Rattle.sg_build.specs.Letters.{letter}
use Rattle.sg_build.specs.Points.{AreUnits, HasPlace}
use Rattle.sg_build.specs.FormLaws.{forms_of_rats}
use Rattle.sg_build.proofs.ExpressedValues.{expression-value}
use Rattle.sg_depth.specs.Commands.{AreSound, StandsOver, sums_of, prods_of}
use Rattle.sg_forms_theory.proofs.Marking.{IsMarked, mark-none, mark-free, mark-expressed, reached-past, marked-all}
use Rattle.sg_forms_theory.proofs.Listed.{telescopes-from, fails-beyond, free-place, known-length, stands}
use Rattle.sg_forms_theory.proofs.Simplest.{IsWritten, SaysAll, item-standing, simplest}
use Rattle.sg_forms.specs.Wholes.{IsWhole}
use Rattle.sg_forms.specs.Marks.{mark_of, marks_of}
use Rattle.sg_forms.specs.Listed.{IsListed, IsItem, IsCheck, IsSaid, IsTelling, AreTelling, IsSimplestOf, IsPrintedForm, IsPrintedMark}
use Rattle.sg_forms.specs.declared.frees.Standing.{Standing}
use Rattle.sg_forms.specs.declared.frees.Standing.TheVariants.{Free, Expressed}
use Rattle.sg_expr.specs.declared.tree.Expr.{Expr}
use Rattle.sg_expr.specs.Tree.{tree_of}
use Rattle.sg_forms.proofs.Writing.{W, writes, terms-by, by-terms}

each-of-places : (P : Tree → Type 0) (ss : List Tree) (m : ℕ) (places : List ℕ) → ((i : ℕ) → i < m → P (get_or ss i here)) → Each (λ i. i < m) places → Each P (at_places ss places)
each-of-places P ss m [] k h = tt
each-of-places P ss m (i ∷ is) k h = (k i h.0, each-of-places P ss m is k h.1)

module _ (facts : Facts) {E : Type 0} (ρ : Reading 0 E) (places : List ℕ) (known : List E) (sound : AreSound (letter 0) facts) (stand : StandsOver (letter 0) facts ρ places known) where
  pub units-are : AreUnits ρ (prods_of facts) known
  units-are = subst (λ (ps : List Tree). AreUnits ρ ps known) (sym sound.no_products) tt

  pub inside-is : Each (λ i. i < length (sums_of facts)) places
  inside-is = stand.inside

  pub count-is : length known ≡ length (sums_of facts)
  count-is = known-length facts.start (prods_of facts) (sums_of facts) ρ.formal ρ.of places known stand sound

  pub products-none : 0 ≡ length ρ.formal.products
  products-none = sym (ap length sound.no_products) ∙ stand.adjoined

  pub gens-count : length (at_places (sums_of facts) places) ≡ ρ.formal.sums
  gens-count = length-map places (λ i. get_or (sums_of facts) i here) ∙ stand.size

  least : facts.start ≤ℤ facts.start
  least = omega (arith, ints)

  pub somewhere-is : (f : Tree) → IsListed facts f → HasPlace (letter 0) ρ (prods_of facts ++ sums_of facts) known f
  somewhere-is f listed = somewhere facts.start (prods_of facts) (sums_of facts) ρ.formal ρ.of places known stand sound f facts.start least listed.values

  -- ---- Whether one expression telescopes another

  module _ (f g : Tree) (f_listed : IsListed facts f) (g_listed : IsListed facts g) (x y : E) (f_is : IsItem facts ρ known f x) (g_is : IsItem facts ρ known g y) (independent : IsIndependent ρ.formal) where
    check-by : (b : Bool) → (IsTrue b → Same ρ (delta (shifted ρ.formal) (ρ.of y)) (ρ.of x)) → (¬ (IsTrue b) → ¬ (Same ρ (delta (shifted ρ.formal) (ρ.of y)) (ρ.of x))) → IsCheck facts f g b
    check-by true yes' no' = telescopes-from facts.start (prods_of facts) (sums_of facts) ρ.formal ρ.of places known stand sound f g x y f_listed.values g_listed.values f_is g_is (yes' refl)
    check-by false yes' no' = fails-beyond facts.start (prods_of facts) (sums_of facts) ρ.formal ρ.of places known stand sound f g x y f_listed.values g_listed.values f_is g_is independent (no' (λ h. true≢false (sym h)))

    pub check-is : (next d : E) (b : Bool) → IsShifted ρ y next → IsDifference ρ next y d → IsTrue b ↔ IsCopy ρ x d → IsCheck facts f g b
    check-is next d b moved difference same =
        let R = elements ρ.formal in
        let is : Same ρ (ρ.of d) (delta (shifted ρ.formal) (ρ.of y)) = R.trans difference (R.add_cong moved (R.rfl {x = R.⊟ (ρ.of y)})) in
        check-by b (λ t. R.trans (R.symm is) (same.0 t)) (λ n e. n (same.1 (R.trans is e)))

  -- ---- What is said of an item

  pub written-is : (x : E) (h : Tree) → IsSaid facts ρ places x h → IsWritten W IsWhole writes facts.start (prods_of facts) (sums_of facts) ρ.formal ρ.of places known stand sound (ρ.of x) h
  written-is x h s = record {
    terms = s.expression.terms;
    written = s.expression.written;
    flat = s.expression.flat;
    each = terms-by (length ρ.formal.products) s.expression.terms s.expression.written s.expression.each;
    form = s.expression.form;
  }

  pub says-is : (x : E) (h : Tree) → IsSaid facts ρ places x h → SaysAll W IsWhole writes facts.start (prods_of facts) (sums_of facts) ρ.formal ρ.of places known stand sound (ρ.of x) h
  says-is x h s p i = s.says p (tt, i.1)

  pub all-written : (y : Element ρ.formal) (e : Tree) → IsWritten W IsWhole writes facts.start (prods_of facts) (sums_of facts) ρ.formal ρ.of places known stand sound y e
      → SaysAll W IsWhole writes facts.start (prods_of facts) (sums_of facts) ρ.formal ρ.of places known stand sound y e
  all-written y e w p i =
      expression-value W forms_of_rats ρ.formal y [] (at_places (sums_of facts) places) e
      (record { terms = w.terms; written = w.written; flat = w.flat; each = by-terms (length ρ.formal.products) w.terms w.written w.each; form = w.form })
      products-none gens-count p (tt, i.1)

  pub printed-is : (x : E) (h : Tree) → IsSaid facts ρ places x h → IsPrintedForm facts h
  printed-is x h s all = s.printed refl tt (each-of-places (InForm false false) (sums_of facts) (length (sums_of facts)) places (λ i l. each-at (InForm false false) (sums_of facts) i here l all) stand.inside)

  -- ---- What is told of the sums

  marks-more : (told more : List Standing) (st : Standing) → more ≡ told ++ st ∷ [] → marks_of more ≡ marks_of told ++ mark_of st ∷ []
  marks-more told more st e = ap marks_of e ∙ map-append mark_of told (st ∷ [])

  pub told-none : (told : List Standing) (n : ℕ) → told ≡ [] → n ≡ 0 → IsTelling facts places 0 n told
  told-none told n e z =
      subst (λ (m : ℕ). IsTelling facts places 0 m told) (sym z)
      (subst (λ (l : List Standing). IsTelling facts places 0 0 l) (sym e) (mark-none IsWhole facts.start (sums_of facts) places))

  module _ (i n : ℕ) (told : List Standing) (so_far : IsTelling facts places i n told) (inside : i < length (sums_of facts)) where
    pub told-free : (independent : IsIndependent ρ.formal) (more : List Standing) → more ≡ told ++ Free ∷ [] → n < length places → get_or places n 0 ≡ i → IsTelling facts places (suc i) (suc n) more
    told-free independent more e l at =
        subst (λ (os : List (Option Tree)). IsMarked IsWhole facts.start (sums_of facts) places (suc i) (suc n) os) (sym (marks-more told more Free e))
        (mark-free IsWhole facts.start (sums_of facts) places i n (marks_of told) so_far inside stand.ascending l at
        (free-place facts.start (prods_of facts) (sums_of facts) ρ.formal ρ.of places known stand sound independent n i l at inside))

    below-all : (j : ℕ) (places : List ℕ) → ((k : ℕ) → k < j → get_or places k 0 < i) → Each (λ k. k < i) (take j places)
    below-all zero places h = tt
    below-all (suc j) [] h = tt
    below-all (suc j) (p ∷ ps) h = (h 0 (omega arith), below-all j ps (λ k l. h (suc k) (omega (arith, l))))

    pub told-expressed : (x : E) (h : Expr) (more : List Standing) → x ≡ get_or known i x → IsSaid facts ρ places x (tree_of h) → more ≡ told ++ Expressed h ∷ [] → ¬ ((n < length places) × (get_or places n 0 ≡ i))
        → IsTelling facts places (suc i) n more
    told-expressed x h more at said e other =
        let ne : n < length places → get_or places n 0 ≢ i = λ l z. other (l, z) in
        subst (λ (os : List (Option Tree)). IsMarked IsWhole facts.start (sums_of facts) places (suc i) n os) (sym (marks-more told more (Expressed h) e))
        (mark-expressed IsWhole facts.start (sums_of facts) places i n (marks_of told) so_far inside stand.ascending ne (tree_of h)
        (item-standing W IsWhole writes facts.start (prods_of facts) (sums_of facts) ρ.formal ρ.of places known stand sound i n inside (reached-past places i n stand.ascending so_far.reached ne)
        (below-all n places so_far.reached.below) x at (tree_of h) (written-is x (tree_of h) said) (says-is x (tree_of h) said)))

  pub printed-free : (told more : List Standing) → Each (IsPrintedMark facts) (marks_of told) → more ≡ told ++ Free ∷ [] → Each (IsPrintedMark facts) (marks_of more)
  printed-free told more p e = subst (Each (IsPrintedMark facts)) (sym (marks-more told more Free e)) (each-more (IsPrintedMark facts) (marks_of told) None p tt)

  pub printed-expressed : (told more : List Standing) (x : E) (h : Expr) → Each (IsPrintedMark facts) (marks_of told) → IsSaid facts ρ places x (tree_of h) → more ≡ told ++ Expressed h ∷ [] → Each (IsPrintedMark facts) (marks_of more)
  printed-expressed told more x h p said e =
      subst (Each (IsPrintedMark facts)) (sym (marks-more told more (Expressed h) e)) (each-more (IsPrintedMark facts) (marks_of told) (Some (tree_of h)) p (printed-is x (tree_of h) said))

  pub told-all : (i n : ℕ) (told : List Standing) → i ≡ length (sums_of facts) → IsTelling facts places i n told → AreTelling facts places told
  told-all i n told e h = marked-all IsWhole facts.start (sums_of facts) places i n (marks_of told) e h stand.inside

  -- ---- The simplest form

  pub simplest-is : (f : Tree) → IsListed facts f → (x : E) → IsItem facts ρ known f x → (h : Tree) → IsSaid facts ρ places x h → IsIndependent ρ.formal → (told : List Standing) → AreTelling facts places told → IsSimplestOf facts f h
  simplest-is f listed x item h said independent told telling =
      simplest W IsWhole writes facts.start (prods_of facts) (sums_of facts) ρ.formal ρ.of places known stand sound f x listed.values
      (stands facts.start (prods_of facts) (sums_of facts) ρ.formal ρ.of places known stand sound f x item)
      h (written-is x h said) (says-is x h said) independent all-written (marks_of told) telling
