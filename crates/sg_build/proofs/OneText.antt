-- An element and its text determine each other.
--   one-text             elements with the same terms have one text
--   text-determines      in a tower of new sums elements with one text are equal
use Rattle.std.proofs.Common.{◌≡◌, ℕ, suc, ℤ, ◌+◌, ◌≤◌, refl, sym, ap, ap₂, ◌∙◌, subst, List, [], ◌∷◌, length, arith}
use Rattle.sg_algebra.specs.Ring.{Ring}
use Rattle.sg_algebra.proofs.Place.{Pairwise}
use Rattle.sg_algebra.proofs.Solver.{ring, reads}
use Rattle.sg_algebra.proofs.Value.{Value, ◌+ᵛ◌, neg_value, zero_value}
use Rattle.sg_algebra.proofs.ValueField.{ValueR, ValueD}
use Rattle.sg_spec.specs.Canonical.{Plane, Written, element_tree}
use Rattle.sg_spec.specs.Tree.{Tree}
use Rattle.sg_tower_theory.proofs.Flat.{Term}
use Rattle.sg_tower_theory.proofs.Formal.{Formal, Element, elements, domain_of, shifted, IsIndependent, lawful_formal}
use Rattle.sg_value_theory.proofs.Elements.{Point, HasElement}
use Rattle.sg_value_theory.proofs.Evaluations.{evaluation}
use Rattle.sg_value_theory.proofs.First.{zero_only}
use Rattle.sg_value_theory.proofs.FormalPlaces.{IsRun, places_along}
use Rattle.sg_value_theory.proofs.TreePoints.{IsPointOf}
use Rattle.sg_worth_theory.proofs.Worths.{worth_unique}
use Rattle.sg_build.specs.Letters.{LawsOfForms}
use Rattle.sg_build.specs.Expressions.{IsWrittenTerm, IsExpression, ExpressesOver}

abbrev made : List ℕ → List ℤ → Plane → Plane → Written
made a b c e = record { powers = a; exponents = b; upper = c; lower = e }

same : (u w : Written) → u.powers ≡ w.powers → u.exponents ≡ w.exponents → u.upper ≡ w.upper → u.lower ≡ w.lower → u ≡ w
same u w a b c e =
    ap (λ (x : List ℕ). made x u.exponents u.upper u.lower) a
    ∙ ap (λ (x : List ℤ). made w.powers x u.upper u.lower) b
    ∙ ap₂ (λ (x y : Plane). made w.powers w.exponents x y) c e

module _ {d : ℕ} (W : Value (suc d) → Plane → Plane → Type 0) (laws : LawsOfForms d W) where
  one-term : (r : ℕ) (t : Term d) (u w : Written) → IsWrittenTerm W r t u → IsWrittenTerm W r t w → u ≡ w
  one-term r t u w h k =
      let q = laws.unique t.coefficient u.upper u.lower w.upper w.lower h.coefficient k.coefficient in
      same u w (h.powers ∙ sym k.powers) (h.exponents ∙ sym k.exponents) q.0 q.1

  one-list : (r : ℕ) (ts : List (Term d)) (us ws : List Written) → Pairwise (IsWrittenTerm W r) ts us → Pairwise (IsWrittenTerm W r) ts ws → us ≡ ws
  one-list r [] [] [] h k = refl
  one-list r [] [] (w ∷ ws) h k = absurd k
  one-list r [] (u ∷ us) ws h k = absurd h
  one-list r (t ∷ ts) [] ws h k = absurd h
  one-list r (t ∷ ts) (u ∷ us) [] h k = absurd k
  one-list r (t ∷ ts) (u ∷ us) (w ∷ ws) h k = ap₂ ◌∷◌ (one-term r t u w h.0 k.0) (one-list r ts us ws h.1 k.1)

  pub one-text : (f : Formal d) (x y : Element f) (ps ss : List Tree) (t u : Tree) (h : IsExpression W f x ps ss t) (k : IsExpression W f y ps ss u) → h.terms ≡ k.terms → t ≡ u
  one-text f x y ps ss t u h k e =
      h.form
      ∙ ap (element_tree ps ss) (one-list (length f.products) h.terms h.written k.written h.each (subst (λ (ts : List (Term d)). Pairwise (IsWrittenTerm W (length f.products)) ts k.written) (sym e) k.each))
      ∙ sym k.form

module _ {d : ℕ} (letter : Value d) (f : Formal d) (new : IsIndependent f) (points : ℕ → Point d) (run : IsRun f points) (ps ss : List Tree) (at : (j : ℕ) → IsPointOf letter ps ss (points j)) where
  abbrev E : Ring
  E = elements f

  -- from there on an element has values
  abbrev bound : Element f → ℕ
  bound z = (places_along f points run).from z

  past : (z : Element f) (j : ℕ) → bound z ≤ j → (v : Value d) × HasElement f (points j) z v
  past z j l = (places_along f points run).has_past z j l

  pub text-determines : (x y : Element f) (t : Tree) → ExpressesOver letter f x ps ss t → ExpressesOver letter f y ps ss t → (elements f).◌≈◌ x y
  text-determines x y t h k =
      E.trans (whole x y) (E.trans (E.add_cong (zero_only (domain_of f) (ValueD d) (shifted f).σ (places_along f points run) (lawful_formal f new) (E.◌⊞◌ x (E.⊟ y)) (bound x + bound y) none) E.rfl) (E.trans E.add_comm E.add_O))
    where
      whole : (x y : Element f) → E.◌≈◌ x (E.◌⊞◌ (E.◌⊞◌ x (E.⊟ y)) y)
      whole x y = ring E (x ∷ y ∷ []) (search reads depth 16) refl

      cancel : (a c : Value d) → a ≡ c → a +ᵛ neg_value c ≡ zero_value
      cancel a c e = ap (λ b. b +ᵛ neg_value c) e ∙ ring (ValueR d) (c ∷ []) (search reads depth 16) refl

      none : (j : ℕ) (v : Value d) → bound x + bound y ≤ j → HasElement f (points j) (E.◌⊞◌ x (E.⊟ y)) v → v ≡ zero_value
      none j v l z =
          let V = evaluation f (points j) in
          let a = past x j (omega (arith, l)) in
          let c = past y j (omega (arith, l)) in
          V.unique (E.◌⊞◌ x (E.⊟ y)) v (a.0 +ᵛ neg_value c.0) z (V.add_has x (E.⊟ y) a.0 (neg_value c.0) a.1 (V.neg_has y c.0 c.1))
          ∙ cancel a.0 c.0 (worth_unique letter t (points j).variable a.0 c.0 (h (points j) (at j) a.0 a.1) (k (points j) (at j) c.0 c.1))
