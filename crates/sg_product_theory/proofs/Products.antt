-- The tower over the products that are free, and the elements of all products in it.
--   IsTermOf f es c x        x is the term with these exponents of the products and this rational function, which isn't 0, without sums
--   term-unit                so it is a unit
--   IsKnownProduct           x is such a term, and from s on it has the values of the product g
--   own-known                a free product is one, by itself
--   expressed-known          an expressed one is one: the constant, the rational function and the powers
--   begun                    the tower over the free products stands over all products
use Rattle.std.proofs.Common.{◌≡◌, ℕ, zero, suc, ◌<◌, ℤ, neg_ℤ, ◌≤ℤ◌, refl, sym, ap, ◌∙◌, subst, List, [], ◌∷◌, length, map, get_or, arith}
use Rattle.std.proofs.lemmas.List.{length-map}
use Rattle.sg_algebra.specs.Coefficients.{Each}
use Rattle.sg_algebra.proofs.Place.{Pairwise}
use Rattle.sg_algebra.proofs.Solver.{ring, reads}
use Rattle.sg_algebra.proofs.Value.{Value, ◌*ᵛ◌, inv_value, zero_value, one_value}
use Rattle.sg_algebra.proofs.ValueField.{ValueR, value_one_ne}
use Rattle.sg_algebra.proofs.Embedding.{constant_value, constant_value_zero}
use Rattle.sg_spec.specs.Tree.{Tree, here}
use Rattle.sg_spec.specs.Worth.{HasWorth}
use Rattle.sg_worth_theory.proofs.Worths.{worth_unique}
use Rattle.sg_tower_theory.proofs.Formal.{Formal, Element, elements, no_sums, repaired}
use Rattle.sg_tower_theory.proofs.Flat.{unit_in, IsUnitPair}
use Rattle.sg_value_theory.proofs.Elements.{Point, IsQuotientAt, HasElement}
use Rattle.sg_value_theory.proofs.Quotients.{quotients, both_ne, quotient-constant}
use Rattle.sg_value_theory.proofs.Evaluations.{evaluation}
use Rattle.sg_value_theory.proofs.Inverses.{has-unit}
use Rattle.sg_value_theory.proofs.FlatValues.{units_value}
use Rattle.sg_value_theory.proofs.OverProducts.{unit_row}
use Rattle.sg_value_theory.proofs.TreePoints.{AreValues, IsPointOf, Agrees}
use Rattle.sg_value_theory.proofs.TowerOf.{IsTowerOf}
use Rattle.sg_value_theory.proofs.PointsOf.{HasUnits}
use Rattle.sg_relations_theory.specs.Relations.{Expresses}
use Rattle.sg_answers_theory.proofs.Answers.{IsProductOf}
use Rattle.sg_answers_theory.proofs.Relating.{AreProducts}
use Rattle.sg_product_theory.proofs.Factors.{follows, factors-many}
use Rattle.sg_product_theory.proofs.Expressed.{expressed-agrees}

row-length : (n i : ℕ) → length (unit_row n i) ≡ n
row-length zero i = refl
row-length (suc n) zero = ap suc (row-length n n)
row-length (suc n) (suc i) = ap suc (row-length n i)

module _ {d : ℕ} where
  pub record IsTermOf (f : Formal d) (es : List ℤ) (c : Value (suc d)) (x : Element f) : Type 0 where
    pub sized : length es ≡ length f.products
    pub some : ¬ (c ≡ zero_value)
    pub same : (elements f).◌≈◌ x (unit_in f.products f.sums es c)

  pub term-unit : (f : Formal d) (es : List ℤ) (c : Value (suc d)) (x : Element f) → IsTermOf f es c x → (y : Element f) × IsUnitPair f x y
  term-unit f es c x t = (
    unit_in f.products f.sums (map neg_ℤ es) (inv_value c),
    record { exponents = es; sized = t.sized; function = c; nonzero = t.some; left = t.same; right = (elements f).rfl },
  )

  -- its value at a point
  pub term-value : (f : Formal d) (es : List ℤ) (c : Value (suc d)) (x : Element f) → IsTermOf f es c x → (p : Point d) (v : Value d)
      → IsQuotientAt p.variable c v → HasElement f p x (v *ᵛ units_value p.products es)
  term-value f es c x t p v h =
      (evaluation f p).same (unit_in f.products f.sums es c) x (v *ᵛ units_value p.products es) ((elements f).symm t.same)
      (has-unit f.products f.sums p es c v (t.sized ∙ sym (length-map f.products (repaired {d = d}))) h)

  -- ---- A free product

  units-zeros : (n : ℕ) (ts : ℕ → Value d) → units_value ts (unit_row n n) ≡ one_value
  units-zeros zero ts = refl
  units-zeros (suc n) ts = ap (◌*ᵛ◌ one_value) (units-zeros n (λ i. ts (suc i))) ∙ ring (ValueR d) [] (search reads depth 12) refl

  unit-own : (n i : ℕ) (ts : ℕ → Value d) → i < n → units_value ts (unit_row n i) ≡ ts i
  unit-own zero i ts l = absurd (omega (arith, l))
  unit-own (suc n) zero ts l = ap (◌*ᵛ◌ (one_value *ᵛ ts 0)) (units-zeros n (λ i. ts (suc i))) ∙ ring (ValueR d) (ts 0 ∷ []) (search reads depth 12) refl
  unit-own (suc n) (suc i) ts l = ap (◌*ᵛ◌ one_value) (unit-own n i (λ j. ts (suc j)) (omega (arith, l))) ∙ ring (ValueR d) (ts (suc i) ∷ []) (search reads depth 12) refl

module _ {d : ℕ} (letter : Value d) where
  value-there : (k : ℤ) (gs : List Tree) (ts : ℕ → Value d) (i : ℕ) → i < length gs → AreValues letter k gs ts → HasWorth letter (get_or gs i here) k (ts i)
  value-there k [] ts i l h = absurd (omega (arith, l))
  value-there k (g ∷ gs) ts zero l h = h.0
  value-there k (g ∷ gs) ts (suc i) l h = value-there k gs (λ j. ts (suc j)) i (omega (arith, l)) h.1

  module _ (s : ℤ) (qs : List Tree) (αs : List (Value (suc d))) (fs : AreProducts letter s qs αs) where
    abbrev f : Formal d
    f = no_sums αs

    -- from s on x has the values of g, wherever the free products have theirs
    abbrev pub KnownFrom : Tree → Element (no_sums αs) → Type 0
    KnownFrom g x = (p : Point d) → s ≤ℤ p.variable → IsPointOf letter qs [] p → Agrees letter (no_sums αs) p x g

    pub record IsKnownProduct (g : Tree) (x : Element (no_sums αs)) : Type 0 where
      pub exponents : List ℤ
      pub function : Value (suc d)
      pub term : IsTermOf (no_sums αs) exponents function x
      pub agrees : KnownFrom g x

    many : length qs ≡ length αs
    many = factors-many letter s qs αs fs

    pub own-known : (i : ℕ) → i < length qs → (x : Element (no_sums αs)) → (elements (no_sums αs)).◌≈◌ x (unit_in αs 0 (unit_row (length αs) i) one_value)
        → IsKnownProduct (get_or qs i here) x
    own-known i l x e = record {
      exponents = unit_row (length αs) i;
      function = one_value;
      term = term;
      agrees = λ p k at v h.
          subst (HasElement f p x)
          (ring (ValueR d) (units_value p.products (unit_row (length αs) i) ∷ []) (search reads depth 12) refl
          ∙ unit-own (length αs) i p.products (let m = many in omega (arith, l, m)) ∙ worth_unique letter (get_or qs i here) p.variable (p.products i) v (value-there p.variable qs p.products i l at.0) h)
          (term-value f (unit_row (length αs) i) one_value x term p one_value (quotients d p.variable).one_has);
    }
      where
        term : IsTermOf (no_sums αs) (unit_row (length αs) i) one_value x
        term = record { sized = row-length (length αs) i; some = value_one_ne (suc d); same = e }

    -- c r times the powers of the products, where r and the products at s have the values v₀ and xs
    module _ (units : Each (HasUnits letter) qs) (g : Tree) (α : Value (suc d)) (factor : IsProductOf letter s g α) (unit : HasUnits letter g) (es : List ℤ)
        (r : Value (suc d)) (by_them : Expresses αs α es r)
        (xs : ℕ → Value d) (at_start : AreValues letter s qs xs) (t₀ v₀ c : Value d) (first : HasWorth letter g s t₀) (v₀-is : IsQuotientAt s r v₀) (constant : c *ᵛ (v₀ *ᵛ units_value xs es) ≡ t₀) (c_ne : ¬ (c ≡ zero_value)) where
      pub expressed-known : (x : Element (no_sums αs)) → (elements (no_sums αs)).◌≈◌ x (unit_in αs 0 es (constant_value d c *ᵛ r)) → IsKnownProduct g x
      expressed-known x e = record { exponents = es; function = constant_value d c *ᵛ r; term = term; agrees = agrees }
        where
          term : IsTermOf (no_sums αs) es (constant_value d c *ᵛ r) x
          term = record { sized = by_them.sized; some = both_ne (constant_value d c) r (λ z. c_ne (constant_value_zero d c z)) by_them.some; same = e }

          agrees : KnownFrom g x
          agrees p k at v h =
              let m = expressed-agrees letter s qs αs fs units g α factor unit es r by_them xs at_start t₀ v₀ c first v₀-is constant p.variable k p.products at.0 v h in
              subst (HasElement f p x) (ring (ValueR d) (c ∷ m.0 ∷ units_value p.products es ∷ []) (search reads depth 12) refl ∙ sym m.2)
              (term-value f es (constant_value d c *ᵛ r) x term p (c *ᵛ m.0) ((quotients d p.variable).mul_has (constant_value d c) r c m.0 (quotient-constant p.variable c) m.1))

    -- ---- The tower

    all-known : (ps : List Tree) (xs : List (Element (no_sums αs))) → Pairwise IsKnownProduct ps xs → Pairwise KnownFrom ps xs
    all-known [] [] h = tt
    all-known [] (x ∷ xs) h = absurd h
    all-known (g ∷ gs) [] h = absurd h
    all-known (g ∷ gs) (x ∷ xs) h = (h.0.agrees, all-known gs xs h.1)

    pub begun : (ps : List Tree) (known : List (Element (no_sums αs))) → Pairwise IsKnownProduct ps known → IsTowerOf letter s qs ps (no_sums αs) [] known
    begun ps known h = record {
      adjoined = many;
      size = refl;
      ascending = tt;
      inside = tt;
      follows = λ p q l e i j. (e, follows letter s qs αs fs p.variable l p.products q.products p.nonzero i.0 (subst (λ (k : ℤ). AreValues letter k qs q.products) e j.0));
      known_agree = all-known ps known h;
      own = λ i l. absurd (omega (arith, l));
      earlier = λ j l. tt;
    }
