-- The whole recursion: from the unit rows to all solutions.
use Rattle.std.proofs.Common.{◌≡◌, ℕ, suc, ◌+◌, refl, sym, ◌∙◌, subst, List, [], ◌∷◌, ◌++◌, map, length, arith}
use Rattle.sg_algebra.specs.Ring.{Ring}
use Rattle.sg_algebra.specs.Coefficients.{Each}
use Rattle.sg_algebra.proofs.Lists.{each_to}
use Rattle.sg_algebra.proofs.PolynomialRing.{PolyR}
use Rattle.sg_algebra.proofs.Degree.{Below, below_up}
use Rattle.sg_algebra.proofs.Place.{Pairwise}
use Rattle.sg_algebra.proofs.NullSpace.{axis_one, axis_zero}
use Rattle.sg_algebra.proofs.Value.{Value}
use Rattle.sg_algebra.proofs.ValueField.{ValueR, ValueF}
use Rattle.sg_algebra.proofs.Embedding.{numeral_ne}
use Rattle.sg_tower_theory.proofs.Difference.{trivial, total_pairwise, Solves}
use Rattle.sg_tower_theory.proofs.Above.{above}
use Rattle.sg_tower_theory.proofs.Degrees.{IsNew, degree_bound}
use Rattle.sg_tower_theory.proofs.Slices.{state_sound, state_complete, pairwise_each, pairwise_to, differences}
use Rattle.sg_tower_theory.proofs.PowerSlices.{below_space}
use Rattle.sg_tower_theory.proofs.Formal.{Element, elements, shifted, IsIndependent, only_constants}
use Rattle.sg_matrix.specs.declared.solution.Solution.{Solution}
use Rattle.sg_sums.specs.declared.partial.Partial.{Partial}
use Rattle.sg_tower.specs.Elements.{Reading, raised, consts_of, value_of, AllSolve, IsComplete}
use Rattle.sg_sums.specs.Polynomials.{partial_consts, partial_value, partial_left, ZeroFrom, State, StartRows, StartFrom, IsStartRow, IsFinished}
use Rattle.sg_tower_theory.proofs.Starting.{Starts, state_start}

module _ {d : ℕ} {E : Type 0} (ρ : Reading d E) {K : Type 0} (v : K → Value d) (β : E) (fs : List (List E)) where
  abbrev R : Ring
  R = elements ρ.formal

  open PolyR R use {◌≈◌ as ◌≋◌}

  begun : (k : ℕ) (xs : List (List E)) (ws : List (Partial K E)) → StartFrom ρ v β fs k xs ws → Starts (above (shifted ρ.formal) (ρ.of β)) (differences (above (shifted ρ.formal) (ρ.of β))) (map ρ.of) fs (partial_consts ρ v) (partial_value ρ v) (partial_left ρ v) k xs ws
  begun k [] [] s = tt
  begun k [] (w ∷ ws) s = absurd s
  begun k (x ∷ xs) [] s = absurd s
  begun k (x ∷ xs) (w ∷ ws) s = (
    record {
      inside = s.0.inside;
      place = s.0.place;
      own = s.0.consts k ∙ axis_one k k refl;
      others = λ j h. s.0.consts j ∙ axis_zero k j (λ e. h (sym e));
      no_value = s.0.no_value;
      all_left = s.0.all_left;
    },
    begun (suc k) xs ws s.1,
  )

  pub state_begin : (n : ℕ) (rows : List (Partial K E)) → IsIndependent ρ.formal → IsNew (shifted ρ.formal) (ρ.of β) → Each (λ p. ZeroFrom ρ p n) fs → StartRows ρ v β fs rows → State ρ v β fs (n + 1) rows
  state_begin n rows h new e s = subst (λ (k : ℕ). State ρ v β fs k rows) (up n)
      (state_start (above (shifted ρ.formal) (ρ.of β)) (differences (above (shifted ρ.formal) (ρ.of β))) (map ρ.of) fs (partial_consts ρ v) (partial_value ρ v) (partial_left ρ v) (Below R (suc n)) (below_space (shifted ρ.formal) (ρ.of β) (suc n)) rows (begun 0 fs rows s)
      (each_to (λ p. Below R n (map ρ.of p)) (λ p. Below R (suc n) (map ρ.of p)) fs (λ p b. below_up R n (suc n) (map ρ.of p) (omega arith) b) shorts)
      (λ c g z. degree_bound (ValueF d) (λ k. numeral_ne d (suc k) (omega arith)) (shifted ρ.formal) (ρ.of β) (only_constants ρ.formal h) new (map ρ.of) fs n shorts c g z))
    where
      up : (n : ℕ) → suc n ≡ n + 1
      up n = omega arith

      shorts : Each (λ p. Below R n (map ρ.of p)) fs
      shorts = each_to (λ p. ZeroFrom ρ p n) (λ p. Below R n (map ρ.of p)) fs (λ p z. record { none_from = z }) e

  -- no power at all
  none : (x : List (Element ρ.formal)) → Below R 0 x → x ≋ []
  none x b = record { image = record { at = λ i. b.none_from i (omega arith) } }

  pub finished_sound : (rows : List (Partial K E)) (answer : List (Solution K (List E))) → State ρ v β fs 0 rows → Pairwise IsFinished rows answer → AllSolve (raised ρ β) v fs answer
  finished_sound rows answer st p =
      pairwise_each IsFinished (λ w. Solves (above (shifted ρ.formal) (ρ.of β)) (map ρ.of) fs (partial_consts ρ v w) (partial_value ρ v w)) (λ s. Solves (above (shifted ρ.formal) (ρ.of β)) (map ρ.of) fs (consts_of (raised ρ β) v s) (value_of (raised ρ β) v s)) rows answer
      (λ w s h e. rw (h.coeffs, h.value) e) p
      (state_sound (above (shifted ρ.formal) (ρ.of β)) (differences (above (shifted ρ.formal) (ρ.of β))) (map ρ.of) fs (partial_consts ρ v) (partial_value ρ v) (partial_left ρ v) (Below R 0) none rows st)

  pub finished_complete : (rows : List (Partial K E)) (answer : List (Solution K (List E))) → State ρ v β fs 0 rows → Pairwise IsFinished rows answer → IsComplete (raised ρ β) v fs answer
  finished_complete rows answer st p c g z =
      let k = state_complete (above (shifted ρ.formal) (ρ.of β)) (differences (above (shifted ρ.formal) (ρ.of β))) (map ρ.of) fs (partial_consts ρ v) (partial_value ρ v) (partial_left ρ v) (Below R 0) none rows st c g z in
      record {
        weights = k.weights;
        same_consts = λ i l. k.same_consts i l ∙ total_pairwise (trivial (ValueR d)) (λ w. partial_consts ρ v w i) (λ s. consts_of (raised ρ β) v s i) k.weights rows answer
            (pairwise_to IsFinished (λ w s. partial_consts ρ v w i ≡ consts_of (raised ρ β) v s i) rows answer (λ w s h. rw (h.coeffs) refl) p);
        same_value = (PolyR R).trans k.same_value (total_pairwise (above (shifted ρ.formal) (ρ.of β)) (partial_value ρ v) (value_of (raised ρ β) v) k.weights rows answer
            (pairwise_to IsFinished (λ w s. partial_value ρ v w ≋ map ρ.of s.value) rows answer (λ w s h. rw (h.value) (PolyR R).rfl) p));
      }

  pub starts_next : (xs : List (List E)) (ws : List (Partial K E)) (i k : ℕ) (x : List E) (w : Partial K E) → StartFrom ρ v β fs i xs ws → k ≡ i + length xs → IsStartRow ρ v β fs k x w → StartFrom ρ v β fs i (xs ++ x ∷ []) (ws ++ w ∷ [])
  starts_next [] [] i k x w s e u = (subst (λ (j : ℕ). IsStartRow ρ v β fs j x w) (omega (arith, e)) u, tt)
  starts_next [] (b ∷ ws) i k x w s e u = absurd s
  starts_next (a ∷ xs) [] i k x w s e u = absurd s
  starts_next (a ∷ xs) (b ∷ ws) i k x w s e u = (s.0, starts_next xs ws (suc i) k x w s.1 (omega (arith, e)) u)
