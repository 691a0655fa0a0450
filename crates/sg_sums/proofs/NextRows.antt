-- One power of t: what a solution leaves has no power from this one on, so that it need not be computed there.
--   low_only           what is left has no power from n on
--   next_row_is        the row of the program, which computes the powers below n alone
--   state_next_rows    the rows without the powers from n on
--   state_ended        those without any power, from rows of which what is left is dropped
use Rattle.std.proofs.Common.{◌≡◌, ℕ, zero, suc, ◌+◌, ◌<◌, ◌≤◌, sym, ◌∙◌, ap, subst, List, [], ◌∷◌, ◌⊎◌, inl, inr, map, arith}
use Rattle.sg_algebra.specs.Ring.{Ring}
use Rattle.sg_algebra.specs.Coefficients.{coef, Each}
use Rattle.sg_algebra.proofs.Ring.{neg_O}
use Rattle.sg_algebra.proofs.PolynomialRing.{PolyR, coef-zip, coef-each}
use Rattle.sg_algebra.proofs.Place.{Pairwise}
use Rattle.sg_algebra.proofs.Polynomial.{coefficient}
use Rattle.sg_algebra.proofs.Value.{Value}
use Rattle.sg_algebra.proofs.ValueField.{ValueR}
use Rattle.sg_algebra.proofs.Degree.{Below}
use Rattle.sg_tower_theory.proofs.Difference.{trivial, total, total_pairwise, mixed, on-total}
use Rattle.sg_tower_theory.proofs.Above.{above, monomial}
use Rattle.sg_tower_theory.proofs.Slices.{Slice, differences, map-sub, total_in, pairwise_to}
use Rattle.sg_tower_theory.proofs.PowerSlices.{power_slice}
use Rattle.sg_tower_theory.proofs.Formal.{Element, elements, shifted}
use Rattle.sg_matrix.specs.declared.solution.Solution.{Solution}
use Rattle.sg_sums.specs.declared.partial.Partial.{Partial}
use Rattle.sg_tower.specs.Elements.{Reading, raised, IsShifted, consts_of, AllSolve, IsComplete, IsSolution}
use Rattle.sg_sums.specs.Polynomials.{PolySum, PolyMonomial, IsLowDifference, partial_consts, partial_value, partial_left, IsCombined, State, Sides, IsNextRow, IsBare}
use Rattle.sg_sums.proofs.Building.{at_past}
use Rattle.sg_sums.proofs.Steps.{Next, mono_any, state_lowered}

pairwise_with : {X Y : Type 0} (P : X → Y → Type 0) (Q : X → Type 0) (S : X → Y → Type 0) (xs : List X) (ys : List Y) → ((x : X) (y : Y) → P x y → Q x → S x y) → Pairwise P xs ys → Each Q xs → Pairwise S xs ys
pairwise_with P Q S [] [] h p e = tt
pairwise_with P Q S [] (y ∷ ys) h p e = absurd p
pairwise_with P Q S (x ∷ xs) [] h p e = absurd p
pairwise_with P Q S (x ∷ xs) (y ∷ ys) h p e = (h x y p.0 e.0, pairwise_with P Q S xs ys h p.1 e.1)

module _ {d : ℕ} {E : Type 0} (ρ : Reading d E) {K : Type 0} (v : K → Value d) (β : E) (n : ℕ) (rows : List (Partial K E)) where
  abbrev R : Ring
  R = elements ρ.formal

  open R use {◌≈◌, ◌⊞◌, ⊟, O, rfl, symm, trans, add_cong, neg_cong, add_O}

  abbrev P : Ring
  P = PolyR R

  abbrev Poly : Type 0
  Poly = List (Element ρ.formal)

  abbrev moved : Poly → Poly
  moved x = (above (shifted ρ.formal) (ρ.of β)).σ.on x

  abbrev outer : Poly → Poly
  outer x = (differences (above (shifted ρ.formal) (ρ.of β))).linear.on x

  abbrev lefts : (ℕ → Value d) → Poly
  lefts c = total (above (shifted ρ.formal) (ρ.of β)) (partial_left ρ v) c rows

  abbrev power : Element ρ.formal → Poly
  power x = monomial (shifted ρ.formal) (ρ.of β) n x

  monomial-under : (n i : ℕ) (x : Element ρ.formal) → i < n → coef R (monomial (shifted ρ.formal) (ρ.of β) n x) i ≈ O
  monomial-under zero i x l = absurd (omega arith)
  monomial-under (suc n) zero x l = rfl
  monomial-under (suc n) (suc i) x l = monomial-under n i x (omega arith)

  coef-left : (l m : Poly) (i : ℕ) → coef R m i ≈ O → coef R (P.◌⊞◌ l (P.⊟ (outer m))) i ≈ coef R l i ⊞ ⊟ (coef R (moved m) i)
  coef-left l m i z = trans (coef-zip R l (P.⊟ (outer m)) i) (add_cong rfl (trans (coef-each R ⊟ (neg_O R) (outer m) i) (neg_cong difference)))
    where
      difference : coef R (outer m) i ≈ coef R (moved m) i
      difference = trans (coef-zip R (moved m) (P.⊟ m) i) (trans (add_cong rfl (trans (coef-each R ⊟ (neg_O R) m i) (trans (neg_cong z) (neg_O R)))) add_O)

  pub next_row_is : (w : Solution K E) (sum r : Partial K E) (own shift : List E) → IsCombined ρ v β (consts_of ρ v w) rows sum → PolyMonomial ρ n w.value own → IsShifted (raised ρ β) own shift
      → r.coeffs ≡ sum.coeffs → PolySum ρ sum.value own r.value → IsLowDifference ρ n sum.left shift r.left → IsNextRow ρ v β n rows w r
  next_row_is w sum r own shift b p s h j k = record {
    coeffs = λ i. ap (λ (z : List K). coefficient (map v z) i) h ∙ b.coeffs i;
    value = P.trans j (P.add_cong b.value mono);
    low = λ i l. trans (k.low i l) (trans (add_cong (b.left.image.at i) (neg_cong (shift_is.image.at i))) (symm (coef-left (lefts (consts_of ρ v w)) (power (ρ.of w.value)) i (monomial-under n i (ρ.of w.value) l))));
    short = record { none_from = λ i l. rw (at_past R ρ.of r.left i (omega (arith, k.size))) rfl };
  }
    where
      mono : P.◌≈◌ (map ρ.of own) (power (ρ.of w.value))
      mono = subst (λ (z : Poly). P.◌≈◌ (map ρ.of own) z) (mono_any ρ O (ρ.of β) n (ρ.of w.value)) p

      shift_is : P.◌≈◌ (map ρ.of shift) (moved (power (ρ.of w.value)))
      shift_is = P.trans s ((above (shifted ρ.formal) (ρ.of β)).σ.on_cong (map ρ.of own) (power (ρ.of w.value)) mono)

  module _ (fs : List (List E)) (ls : List E) where
    abbrev slice : Slice (shifted ρ.formal) (above (shifted ρ.formal) (ρ.of β)) (differences (shifted ρ.formal)) (differences (above (shifted ρ.formal) (ρ.of β))) (Below R (suc n)) (Below R n)
    slice = power_slice (shifted ρ.formal) (ρ.of β) n

    sides_total : (c : ℕ → Value d) → Sides ρ v β fs n rows ls → slice.part.linear.on (lefts c) ≈ total (shifted ρ.formal) ρ.of c ls
    sides_total c p = trans (on-total (above (shifted ρ.formal) (ρ.of β)) (shifted ρ.formal) slice.part.linear (partial_left ρ v) c rows)
        (total_pairwise (shifted ρ.formal) (λ w. slice.part.linear.on (partial_left ρ v w)) ρ.of c rows ls
        (pairwise_to (λ w x. ρ.of x ≈ slice.part.linear.on (partial_left ρ v w)) (λ w x. slice.part.linear.on (partial_left ρ v w) ≈ ρ.of x) rows ls (λ w x h. symm h) p))

    low_only : State ρ v β fs (suc n) rows → Sides ρ v β fs n rows ls → (w : Solution K E) → IsSolution ρ v ls w → Below R n (P.◌⊞◌ (lefts (consts_of ρ v w)) (P.⊟ (outer (power (ρ.of w.value)))))
    low_only st p w s = slice.after (P.◌⊞◌ (lefts c) (P.⊟ (outer own)))
        (slice.before.add (lefts c) (P.⊟ (outer own)) (total_in (above (shifted ρ.formal) (ρ.of β)) (Below R (suc n)) slice.before (partial_left ρ v) c rows st.shorts) (slice.before.neg (outer own) (slice.outer_before own (slice.put_before (ρ.of w.value)))))
        (trans (map-sub (above (shifted ρ.formal) (ρ.of β)) (shifted ρ.formal) slice.part (lefts c) (outer own))
        (trans (add_cong (trans (sides_total c p) (symm s)) (neg_cong (trans (slice.part-outer own (slice.put_before (ρ.of w.value))) ((differences (shifted ρ.formal)).cong (slice.part.linear.on own) (ρ.of w.value) (slice.part-put (ρ.of w.value)))))) R.add_neg))
      where
        c : ℕ → Value d
        c = consts_of ρ v w

        own : Poly
        own = power (ρ.of w.value)

    left_is : State ρ v β fs (suc n) rows → Sides ρ v β fs n rows ls → (w : Solution K E) (r : Partial K E) → IsNextRow ρ v β n rows w r → IsSolution ρ v ls w → P.◌≈◌ (partial_left ρ v r) (P.◌⊞◌ (lefts (consts_of ρ v w)) (P.⊟ (outer (power (ρ.of w.value)))))
    left_is st p w r h s = record { image = record { at = λ i. at i (side i n) } }
      where
        side : (i n : ℕ) → (i < n) ⊎ (n ≤ i)
        side i n = grind arith

        at : (i : ℕ) → (i < n) ⊎ (n ≤ i) → coef R (partial_left ρ v r) i ≈ coef R (P.◌⊞◌ (lefts (consts_of ρ v w)) (P.⊟ (outer (power (ρ.of w.value))))) i
        at i (inl l) = h.low i l
        at i (inr l) = trans (h.short.none_from i l) (symm ((low_only st p w s).none_from i l))

    next_is : State ρ v β fs (suc n) rows → Sides ρ v β fs n rows ls → (w : Solution K E) (r : Partial K E) → IsNextRow ρ v β n rows w r → IsSolution ρ v ls w → Next ρ v β fs n rows ls w r
    next_is st p w r h s = record { next_consts = h.coeffs; next_value = h.value; next_left = left_is st p w r h s }

    pub state_next_rows : (inner : List (Solution K E)) (new : List (Partial K E)) → State ρ v β fs (n + 1) rows → Sides ρ v β fs n rows ls → AllSolve ρ v ls inner → IsComplete ρ v ls inner → Pairwise (IsNextRow ρ v β n rows) inner new → State ρ v β fs n new
    state_next_rows inner new st p sound all next =
        state_lowered ρ v β fs n rows ls inner new st p sound all (pairwise_with (IsNextRow ρ v β n rows) (IsSolution ρ v ls) (Next ρ v β fs n rows ls) inner new (λ w r h s. next_is (subst (λ (k : ℕ). State ρ v β fs k rows) (one_up n) st) p w r h s) next sound)
      where
        one_up : (n : ℕ) → n + 1 ≡ suc n
        one_up n = omega arith

module _ {d : ℕ} {E : Type 0} (ρ : Reading d E) {K : Type 0} (v : K → Value d) (β : E) where
  abbrev Rₗ : Ring
  Rₗ = elements ρ.formal

  abbrev Pₗ : Ring
  Pₗ = PolyR Rₗ

  pub last_row_is : (rows : List (Partial K E)) (w : Solution K E) (sum r : Partial K E) (own : List E) → IsCombined ρ v β (consts_of ρ v w) rows sum → PolyMonomial ρ 0 w.value own → r.coeffs ≡ sum.coeffs → PolySum ρ sum.value own r.value → r.left ≡ [] → IsNextRow ρ v β 0 rows w r
  last_row_is rows w sum r own b p h j e = record {
    coeffs = λ i. ap (λ (z : List K). coefficient (map v z) i) h ∙ b.coeffs i;
    value = Pₗ.trans j (Pₗ.add_cong b.value p);
    low = λ i l. absurd (omega arith);
    short = record { none_from = λ i l. rw e Rₗ.rfl };
  }

  module _ (fs : List (List E)) (rows bare : List (Partial K E)) (ls : List E) (bares : Pairwise IsBare rows bare) where
    same_value : (c : ℕ → Value d) → Pₗ.◌≈◌ (total (above (shifted ρ.formal) (ρ.of β)) (partial_value ρ v) c bare) (total (above (shifted ρ.formal) (ρ.of β)) (partial_value ρ v) c rows)
    same_value c = Pₗ.symm (total_pairwise (above (shifted ρ.formal) (ρ.of β)) (partial_value ρ v) (partial_value ρ v) c rows bare (pairwise_to IsBare (λ w r. Pₗ.◌≈◌ (partial_value ρ v w) (partial_value ρ v r)) rows bare (λ w r h. rw (h.value) Pₗ.rfl) bares))

    same_consts : (c : ℕ → Value d) (i : ℕ) → mixed (ValueR d) (partial_consts ρ v) c bare i ≡ mixed (ValueR d) (partial_consts ρ v) c rows i
    same_consts c i = sym (total_pairwise (trivial (ValueR d)) (λ w. partial_consts ρ v w i) (λ w. partial_consts ρ v w i) c rows bare (pairwise_to IsBare (λ w r. partial_consts ρ v w i ≡ partial_consts ρ v r i) rows bare (λ w r h. ap (λ (z : List K). coefficient (map v z) i) (sym h.coeffs)) bares))

    of_rows : (w : Solution K E) (r : Partial K E) → IsNextRow ρ v β 0 bare w r → IsNextRow ρ v β 0 rows w r
    of_rows w r h = record {
      coeffs = λ i. h.coeffs i ∙ same_consts (consts_of ρ v w) i;
      value = Pₗ.trans h.value (Pₗ.add_cong (same_value (consts_of ρ v w)) (Pₗ.rfl {x = ρ.of w.value ∷ []}));
      low = λ i l. absurd (omega arith);
      short = h.short;
    }

    pub state_ended : (inner : List (Solution K E)) (new : List (Partial K E)) → State ρ v β fs 1 rows → Sides ρ v β fs 0 rows ls → AllSolve ρ v ls inner → IsComplete ρ v ls inner → Pairwise (IsNextRow ρ v β 0 bare) inner new → State ρ v β fs 0 new
    state_ended inner new st p sound all next = state_next_rows ρ v β 0 rows fs ls inner new st p sound all (pairwise_to (IsNextRow ρ v β 0 bare) (IsNextRow ρ v β 0 rows) inner new of_rows next)
