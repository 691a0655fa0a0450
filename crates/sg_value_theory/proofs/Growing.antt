-- One more sum in the tower.
--   sum-grows          from its start on a sum grows by its body one place further
--   follows-more       the tower with a new sum follows its equations
--   agrees-raised      an element that agrees with an expression does so above
--   agrees-own         the new sum agrees with its expression
--   agrees-expressed   along a run, an element with the difference of a sum and its first value agrees with it
use Rattle.std.proofs.Common.{◌≡◌, ℕ, suc, ℤ, pos, ◌+ℤ◌, ◌-ℤ◌, ◌≤ℤ◌, refl, subst, [], ◌∷◌, arith}
use Rattle.std.proofs.lemmas.Int.{ints}
use Rattle.sg_algebra.proofs.Solver.{by, scale, reads}
use Rattle.sg_algebra.proofs.Value.{Value, ◌+ᵛ◌, ◌-ᵛ◌, neg_value, one_value}
use Rattle.sg_algebra.proofs.ValueField.{ValueR}
use Rattle.sg_spec.specs.Tree.{Tree, sum_from}
use Rattle.sg_tower_theory.proofs.Difference.{delta}
use Rattle.sg_tower_theory.proofs.Formal.{Formal, Element, elements, shifted, one_more}
use Rattle.sg_spec.specs.Worth.{HasWorth}
use Rattle.sg_value_theory.proofs.Elements.{Point, HasElement, Follows}
use Rattle.sg_value_theory.proofs.TreePoints.{Agrees}
use Rattle.sg_worth_theory.proofs.Worths.{worth_unique}
use Rattle.sg_worth_theory.proofs.Closes.{sum_step}
use Rattle.sg_value_theory.proofs.Evaluations.{evaluation}
use Rattle.sg_value_theory.proofs.Polynomials.{raised-constant, raised-variable}
use Rattle.sg_value_theory.proofs.Moving.{moves}
use Rattle.sg_value_theory.proofs.FormalPlaces.{IsRun}
use Rattle.sg_value_theory.proofs.Regular.{regular_along}
use Rattle.sg_value_theory.proofs.Telescoped.{expressed_by}

module _ {d : ℕ} (letter : Value d) where
  pub sum-grows : (from : ℤ) (body : Tree) (k : ℤ) (t t' w : Value d) → (from -ℤ pos 1) ≤ℤ k → HasWorth letter (sum_from from body) k t → HasWorth letter (sum_from from body) (k +ℤ pos 1) t' → HasWorth letter body (k +ℤ pos 1) w
      → t' ≡ t +ᵛ w
  sum-grows from body k t t' w le h i j =
      let e : k ≡ (k +ℤ pos 1) -ℤ pos 1 = omega (arith, ints) in
      worth_unique letter (sum_from from body) (k +ℤ pos 1) t' (t +ᵛ w) i
      (sum_step letter body from (k +ℤ pos 1) t w (omega (arith, ints, le)) (subst (λ (z : ℤ). HasWorth letter (sum_from from body) z t) e h) j)

  grown : (t t' w : Value d) → t' ≡ t +ᵛ w → w ≡ t' -ᵛ t
  grown t t' w h = by (ValueR d) (t ∷ t' ∷ w ∷ []) (scale (ValueR d) (neg_value one_value) h) (search reads depth 16) refl

  -- β has at p the value of the body one place further
  pub follows-more : (f : Formal d) (β : Element f) (p q : Point d) (w : Value d) → Follows f p q → HasElement f p β w → q.sums f.sums ≡ p.sums f.sums +ᵛ w → Follows (one_more f β) p q
  follows-more f β p q w h i e = (h, subst (HasElement f p β) (grown (p.sums f.sums) (q.sums f.sums) w e) i)

  pub agrees-raised : (f : Formal d) (β x : Element f) (p : Point d) (e : Tree) → Agrees letter f p x e → Agrees letter (one_more f β) p (x ∷ []) e
  agrees-raised f β x p e h v i = raised-constant (elements f) (evaluation f p) (p.sums f.sums) x v (h v i)

  pub agrees-own : (f : Formal d) (β : Element f) (p : Point d) (g : Tree) → HasWorth letter g p.variable (p.sums f.sums) → Agrees letter (one_more f β) p ((elements f).O ∷ (elements f).I ∷ []) g
  agrees-own f β p g h v i =
      subst (HasElement (one_more f β) p ((elements f).O ∷ (elements f).I ∷ [])) (worth_unique letter g p.variable (p.sums f.sums) v h i)
      (raised-variable (elements f) (evaluation f p) (p.sums f.sums))

  -- T j are the values of the sum along a run of the tower
  pub agrees-expressed : (f : Formal d) (points : ℕ → Point d) (h b : Element f) (T : ℕ → Value d) → IsRun f points → (elements f).◌≈◌ (delta (shifted f) h) b
      → ((j : ℕ) → (w : Value d) × HasElement f (points j) b w × (T (suc j) ≡ T j +ᵛ w)) → HasElement f (points 0) h (T 0) → (j : ℕ) → HasElement f (points j) h (T j)
  agrees-expressed f points h b T run telescopes steps first j =
      expressed_by (elements f) (shifted f).σ.on (λ j. evaluation f (points j)) (λ j x v i. moves f (points j) (points (suc j)) (run j) x v i)
      h b T telescopes steps (regular_along f points run h b telescopes (λ j. ((steps j).0, (steps j).1))) first j
