-- Products as they stand in expressions.
--   product_worth        where the body has a value other than 0 from the lower limit on, the product has one at each place
--   product_of           from its lower limit less 1 on it is a product whose factor is, one place further, any function with the values
--                        of its body
--   own_product          so is the function of the body
--   placed_unit          a product whose known element has an inverse is placed
--   placed_own           those that a tower stands over are
--   placed_up            what is placed in the tower without sums is placed in each tower above it
use Rattle.std.proofs.Common.{◌≡◌, ℕ, zero, suc, ℤ, pos, ◌+ℤ◌, ◌-ℤ◌, ◌≤ℤ◌, unsigned_abs, refl, sym, ap, ◌∙◌, subst, List, [], ◌∷◌, Contains, Bool, arith}
use Rattle.std.proofs.lemmas.Int.{ints}
use Rattle.sg_algebra.proofs.Solver.{ring, reads}
use Rattle.sg_algebra.proofs.Value.{Value, ◌*ᵛ◌, inv_value, zero_value, one_value}
use Rattle.sg_algebra.proofs.ValueField.{ValueR, ValueF}
use Rattle.sg_spec.specs.Tree.{Tree, prod_from}
use Rattle.sg_spec.specs.Value.{how_many}
use Rattle.sg_spec.specs.Worth.{IsFolded, HasWorth}
use Rattle.sg_spec.proofs.Totals.{how_many-step, how_many-before}
use Rattle.sg_tower_theory.proofs.ShiftValue.{shift_value}
use Rattle.sg_tower_theory.proofs.Nested.{NestedR}
use Rattle.sg_tower_theory.proofs.Formal.{Formal, Element, no_sums, base}
use Rattle.sg_value_theory.proofs.Elements.{Point, IsQuotientAt, HasIn, HasElement}
use Rattle.sg_value_theory.proofs.Evaluations.{evaluation_in}
use Rattle.sg_value_theory.proofs.Polynomials.{raised-constant}
use Rattle.sg_value_theory.proofs.Quotients.{quotients, both_ne}
use Rattle.sg_value_theory.proofs.NextPlace.{quotient-moves}
use Rattle.sg_value_theory.proofs.TowerOf.{IsTowerOf, at_places}
use Rattle.sg_value_theory.proofs.PointsOf.{HasUnits}
use Rattle.sg_value_theory.proofs.Inverses.{unit-has}
use Rattle.sg_value_theory.proofs.OverProducts.{product_over, inverse_over}
use Rattle.sg_tower_theory.proofs.Flat.{IsUnitPair}
use Rattle.sg_answers_theory.specs.Matches.{IsRational}
use Rattle.sg_answers_theory.proofs.ElementsOver.{AgreesFrom, IsPlaced}
use Rattle.sg_answers_theory.proofs.Answers.{IsProductOf}
use Rattle.sg_answers_theory.proofs.Relating.{function_at, function-at}

module _ {d : ℕ} (letter : Value d) where
  abbrev pub HasSome : Tree → ℤ → Type 0
  HasSome t k = (v : Value d) × HasWorth letter t k v × ¬ (v ≡ zero_value)

  module _ (from : ℤ) (body : Tree) (has : (j : ℤ) → from ≤ℤ j → HasSome body j) where
    folded-some : (n : ℕ) → (v : Value d) × IsFolded ◌*ᵛ◌ one_value (HasWorth letter body) from n v × ¬ (v ≡ zero_value)
    folded-some zero = (one_value, refl, (ValueF d).one_ne)
    folded-some (suc n) =
        let r = folded-some n in
        let t = has (from +ℤ pos n) (omega (arith, ints)) in
        (r.0 *ᵛ t.0, (r.0, t.0, r.1, t.1, refl), both_ne r.0 t.0 r.2 t.2)

    pub product_worth : HasUnits letter (prod_from from body)
    product_worth k = folded-some (how_many from k)

    -- one place further
    counted : (k : ℤ) → (from -ℤ pos 1) ≤ℤ k → (n : ℕ) × (k ≡ (from -ℤ pos 1) +ℤ pos n)
    counted k l = (unsigned_abs (k -ℤ (from -ℤ pos 1)), reaches from k l)
      where
        reaches : (a k : ℤ) → (a -ℤ pos 1) ≤ℤ k → k ≡ (a -ℤ pos 1) +ℤ pos (unsigned_abs (k -ℤ (a -ℤ pos 1)))
        reaches a k l = grind (arith, ints, l)

    next_worth : (k : ℤ) (v w : Value d) → (from -ℤ pos 1) ≤ℤ k → HasWorth letter (prod_from from body) k v → HasWorth letter body (k +ℤ pos 1) w
        → HasWorth letter (prod_from from body) (k +ℤ pos 1) (v *ᵛ w)
    next_worth k v w l h i = at (counted k l)
      where
        last : (a : ℤ) (n : ℕ) → ((a -ℤ pos 1) +ℤ pos n) +ℤ pos 1 ≡ a +ℤ pos n
        last a n = omega (arith, ints)

        at : (n : ℕ) × (k ≡ (from -ℤ pos 1) +ℤ pos n) → HasWorth letter (prod_from from body) (k +ℤ pos 1) (v *ᵛ w)
        at r =
            let e : k +ℤ pos 1 ≡ from +ℤ pos r.0 = ap (λ (z : ℤ). z +ℤ pos 1) r.1 ∙ last from r.0 in
            subst (λ (m : ℕ). IsFolded ◌*ᵛ◌ one_value (HasWorth letter body) from m (v *ᵛ w)) (sym (ap (how_many from) e ∙ how_many-step from r.0))
            (v, w, subst (λ (m : ℕ). IsFolded ◌*ᵛ◌ one_value (HasWorth letter body) from m v) (ap (how_many from) r.1 ∙ how_many-before from r.0) h, subst (λ (z : ℤ). HasWorth letter body z w) e i, refl)

    -- where β has the values of the body
    pub product_of : (β : Value (suc d)) → ((k : ℤ) (v : Value d) → HasWorth letter body k v → IsQuotientAt k β v) → (s : ℤ) → (from -ℤ pos 1) ≤ℤ s
        → IsProductOf letter s (prod_from from body) (shift_value d β)
    product_of β value s l = record { some = some; next = λ k m. at k (up s k l m) }
      where
        up : (s k : ℤ) → (from -ℤ pos 1) ≤ℤ s → s ≤ℤ k → (from -ℤ pos 1) ≤ℤ k
        up s k l m = omega (arith, ints, l, m)

        inside : (k : ℤ) → (from -ℤ pos 1) ≤ℤ k → from ≤ℤ (k +ℤ pos 1)
        inside k l = omega (arith, ints, l)

        factor-has : (k : ℤ) (l : (from -ℤ pos 1) ≤ℤ k) → IsQuotientAt k (shift_value d β) (has (k +ℤ pos 1) (inside k l)).0
        factor-has k l = let w = has (k +ℤ pos 1) (inside k l) in quotient-moves k β w.0 (value (k +ℤ pos 1) w.0 w.1)

        some : ¬ (shift_value d β ≡ zero_value)
        some z =
            let w = has (s +ℤ pos 1) (inside s l) in
            let q = quotients d s in
            w.2 (q.unique zero_value w.0 zero_value (subst (λ (x : Value (suc d)). IsQuotientAt s x w.0) z (factor-has s l)) q.zero_has)

        turned : (v w : Value d) → v *ᵛ w ≡ w *ᵛ v
        turned v w = ring (ValueR d) (v ∷ w ∷ []) (search reads depth 12) refl

        at : (k : ℤ) → (from -ℤ pos 1) ≤ℤ k
            → (a v v' : Value d) × IsQuotientAt k (shift_value d β) a × HasWorth letter (prod_from from body) k v × HasWorth letter (prod_from from body) (k +ℤ pos 1) v' × (v' ≡ a *ᵛ v) × ¬ (v ≡ zero_value)
        at k l =
            let v = product_worth k in
            let w = has (k +ℤ pos 1) (inside k l) in
            (w.0, v.0, v.0 *ᵛ w.0, factor-has k l, v.1, next_worth k v.0 w.0 l v.1 w.1, turned v.0 w.0, v.2)

    -- the product of a text
    pub own_product : (b : Bool) → IsRational b body → (s : ℤ) → (from -ℤ pos 1) ≤ℤ s
        → IsProductOf letter s (prod_from from body) (shift_value d (function_at letter body))
    own_product b o s l = product_of (function_at letter body) (function-at letter b body o) s l

  -- ---- Placed

  pub placed_unit : (s : ℤ) (ps gens : List Tree) (f : Formal d) (g : Tree) (x y : Element f) → AgreesFrom letter s ps gens f x g → IsUnitPair f x y
      → IsPlaced letter s ps gens f g
  placed_unit s ps gens f g x y a u = record { element = x; inverse = y; agrees = a; inverts = λ p l i w h n. unit-has f p x y w u (a p l i w h) n }

  pub placed_own : (s : ℤ) (ps ss : List Tree) (f : Formal d) (places : List ℕ) (known : List (Element f)) → IsTowerOf letter s ps ss f places known
      → (g : Tree) → Contains ps g → IsPlaced letter s ps (at_places ss places) f g
  placed_own s ps ss f places known is g c =
      let x = product_over letter s ps ss f places known is g c in
      let z = inverse_over letter s ps ss f places known is g c in
      record { element = x.0; inverse = z.0; agrees = x.1; inverts = z.1 }

  -- ---- What is placed without sums is placed above

  -- an element without sums in a tower with some
  up_in : (αs : List (Value (suc d))) (n : ℕ) → Element (no_sums αs) → (NestedR (base αs) n).A
  up_in αs zero x = x
  up_in αs (suc n) x = up_in αs n x ∷ []

  up-has : (αs : List (Value (suc d))) (n : ℕ) (p : Point d) (x : Element (no_sums αs)) (v : Value d) → HasElement (no_sums αs) p x v
      → HasIn αs n p (up_in αs n x) v
  unfolding up_in
  up-has αs zero p x v h = h
  up-has αs (suc n) p x v h = raised-constant (NestedR (base αs) n) (evaluation_in αs n p) (p.sums n) (up_in αs n x) v (up-has αs n p x v h)

  pub placed_up : (s : ℤ) (ps gens : List Tree) (f : Formal d) (g : Tree) → IsPlaced letter s ps [] (no_sums f.products) g → IsPlaced letter s ps gens f g
  placed_up s ps gens f g h = record {
    element = up_in f.products f.sums h.element;
    inverse = up_in f.products f.sums h.inverse;
    agrees = λ p l i v w. up-has f.products f.sums p h.element v (h.agrees p l (i.0, tt) v w);
    inverts = λ p l i w u m. up-has f.products f.sums p h.inverse (inv_value w) (h.inverts p l (i.0, tt) w u m);
  }
