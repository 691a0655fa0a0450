-- Right sides that are 0: the element 1, and each constant with the element 0, are all solutions.
use Rattle.std.proofs.Common.{◌≡◌, ℕ, zero, suc, ◌+◌, ◌<◌, refl, sym, ◌∙◌, subst, List, [], ◌∷◌, ◌++◌, map, length, take, get_or, arith}
use Rattle.sg_algebra.specs.Ring.{Ring}
use Rattle.sg_algebra.specs.Coefficients.{Each}
use Rattle.sg_algebra.proofs.Divides.{on-O, on-neg}
use Rattle.sg_algebra.proofs.Linear.{unit}
use Rattle.sg_algebra.proofs.Lists.{each_to}
use Rattle.sg_algebra.proofs.NullSpace.{axis_one, axis_zero}
use Rattle.sg_algebra.proofs.Polynomial.{coefficient}
use Rattle.sg_algebra.proofs.Ring.{mul_O, O_add, eq_of_sub}
use Rattle.sg_algebra.proofs.Solver.{by, reads}
use Rattle.sg_algebra.proofs.Value.{Value, ◌+ᵛ◌, ◌*ᵛ◌, neg_value}
use Rattle.sg_algebra.proofs.ValueField.{ValueR}
use Rattle.sg_tower_theory.proofs.Difference.{Difference, total, total_O, Solves}
use Rattle.sg_tower_theory.proofs.Formal.{Element, elements, shifted, IsIndependent, only_constants}
use Rattle.sg_tower_theory.proofs.Slices.{Space, IsState, differences}
use Rattle.sg_tower_theory.proofs.Starting.{Starts, IsUnit, starts_push, state_start}
use Rattle.sg_matrix.specs.declared.solution.Solution.{Solution}
use Rattle.sg_tower.specs.Elements.{Reading, IsZero, IsOne, IsCopy, consts_of, value_of, AllSolve, IsComplete}
use Rattle.sg_sums.specs.Polynomials.{ZeroFrom, IsTrivial}
use Rattle.sg_sums.proofs.Building.{take_next, length_take, take_whole}

behind : {A : Type 0} → A → (ℕ → A) → ℕ → A
behind k c zero = k
behind k c (suc i) = c i

module _ {d : ℕ} {E : Type 0} (ρ : Reading d E) where
  abbrev R : Ring
  R = elements ρ.formal

  abbrev V : Ring
  V = ValueR d

  abbrev S : Difference V R
  S = shifted ρ.formal

  open R use {◌≈◌, ◌⊞◌, ◌⊠◌, ⊟, O, I, rfl, symm, trans, add_cong, mul_cong, neg_cong, add_O, add_neg, mul_I}

  pub zeros_each : (ls : List E) → ZeroFrom ρ ls 0 → Each (IsZero ρ) ls
  zeros_each [] z = tt
  zeros_each (x ∷ xs) z = (z 0 (omega arith), zeros_each xs (λ i l. z (suc i) (omega arith)))

  zero_at : (xs : List E) (k : ℕ) (x : E) → Each (IsZero ρ) xs → k < length xs → x ≡ get_or xs k x → IsZero ρ x
  zero_at [] k x h l e = absurd (omega arith)
  zero_at (y ∷ xs) zero x h l e = subst (IsZero ρ) (sym e) h.0
  zero_at (y ∷ xs) (suc k) x h l e = zero_at xs k x h.1 (omega arith) e

  -- the elements that are constants
  abbrev IsConstant : Element ρ.formal → Type 0
  IsConstant x = (k : Value d) × x ≈ S.κ.on k

  module _ {K : Type 0} (v : K → Value d) (ls : List E) where
    abbrev Units : ℕ → List E → List (Solution K E) → Type 0
    Units = Starts S (differences S) ρ.of ls (consts_of ρ v) (value_of ρ v) (λ w. O)

    abbrev IsUnitRow : ℕ → E → Solution K E → Type 0
    IsUnitRow = IsUnit S (differences S) ρ.of ls (consts_of ρ v) (value_of ρ v) (λ w. O)

    unit_here : (i : ℕ) (x : E) (w : Solution K E) → Each (IsZero ρ) ls → i < length ls → x ≡ get_or ls i x → ((j : ℕ) → coefficient (map v w.coeffs) j ≡ unit i j) → IsCopy ρ x w.value → IsUnitRow i x w
    unit_here i x w z l e u c = record {
      inside = l;
      place = e;
      own = u i ∙ axis_one i i refl;
      others = λ j h. u j ∙ axis_zero i j (λ e. h (sym e));
      no_value = trans c (zero_at ls i x z l e);
      all_left = symm (zero_at ls i x z l e);
    }

    pub trivial_begin : (rows : List (Solution K E)) (w : Solution K E) → w.coeffs ≡ [] → IsOne ρ w.value → rows ≡ w ∷ [] → IsTrivial ρ v ls [] rows
    trivial_begin rows w c o e = rw e ((λ j. rw c refl, o), tt)

    from_zero : (i : ℕ) → i ≡ 0 + i
    from_zero i = omega arith

    push : (xs : List E) (rows : List (Solution K E)) (x : E) (w : Solution K E) → IsTrivial ρ v ls xs rows → IsUnitRow (length xs) x w → IsTrivial ρ v ls (xs ++ x ∷ []) (rows ++ w ∷ [])
    push xs [] x w t u = absurd t
    push xs (b ∷ rows) x w t u = (t.0, starts_push S (differences S) ρ.of ls (consts_of ρ v) (value_of ρ v) (λ w. O) 0 xs rows x w (length xs) t.1 (from_zero (length xs)) u)

    pub trivial_next : (rows new : List (Solution K E)) (i : ℕ) (x : E) (w : Solution K E) → Each (IsZero ρ) ls → IsTrivial ρ v ls (take i ls) rows → i < length ls → x ≡ get_or ls i x → ((j : ℕ) → coefficient (map v w.coeffs) j ≡ unit i j)
        → IsCopy ρ x w.value → new ≡ rows ++ w ∷ [] → IsTrivial ρ v ls (take (i + 1) ls) new
    trivial_next rows new i x w z t l e u c n = rw (n, take_next ls i x l e) (push (take i ls) rows x w t (subst (λ (k : ℕ). IsUnitRow k x w) (sym (length_take ls i l)) (unit_here i x w z l e u c)))

    pub trivial_whole : (rows : List (Solution K E)) (i : ℕ) → IsTrivial ρ v ls (take i ls) rows → i ≡ length ls → IsTrivial ρ v ls ls rows
    trivial_whole rows i t e = subst (λ (xs : List E). IsTrivial ρ v ls xs rows) (take_whole ls i e) t

    zero_solves : (c : ℕ → Value d) (x : Element ρ.formal) → Each (IsZero ρ) ls → (differences S).linear.on x ≈ O → Solves S ρ.of ls c x
    zero_solves c x z h = trans h (symm (total_O S ρ.of c ls z))

    one_delta : (x : Element ρ.formal) → x ≈ I → (differences S).linear.on x ≈ O
    one_delta x h = trans ((differences S).cong x I h) (trans (add_cong S.σ.on-one rfl) add_neg)

    units_solve : (k : ℕ) (xs : List E) (rows : List (Solution K E)) → Each (IsZero ρ) ls → Units k xs rows → AllSolve ρ v ls rows
    units_solve k [] [] z s = tt
    units_solve k [] (w ∷ rows) z s = absurd s
    units_solve k (x ∷ xs) [] z s = absurd s
    units_solve k (x ∷ xs) (w ∷ rows) z s = (
      zero_solves (consts_of ρ v w) (value_of ρ v w) z (trans ((differences S).cong (value_of ρ v w) O s.0.no_value) (differences S).linear.on-none),
      units_solve (suc k) xs rows z s.1,
    )

    pub trivial_solves : (rows : List (Solution K E)) → Each (IsZero ρ) ls → IsTrivial ρ v ls ls rows → AllSolve ρ v ls rows
    trivial_solves [] z t = absurd t
    trivial_solves (w ∷ rows) z t = (zero_solves (consts_of ρ v w) (value_of ρ v w) z (one_delta (value_of ρ v w) t.0.1), units_solve 0 ls rows z t.1)

    -- ---- They are all
    constant_space : Space S IsConstant
    constant_space = record {
      same = λ x y e p. (p.0, trans (symm e) p.1);
      none = (V.O, symm (on-O V R S.κ));
      add = λ x y p q. (p.0 +ᵛ q.0, trans (add_cong p.1 q.1) (symm (S.κ.on-add p.0 q.0)));
      scaled = λ c x p. (c *ᵛ p.0, trans (mul_cong rfl p.1) (symm (S.κ.on-mul c p.0)));
      neg = λ x p. (neg_value p.0, trans (neg_cong p.1) (opposite p.0));
    }
      where
        opposite : (a : Value d) → ⊟ (S.κ.on a) ≈ S.κ.on (neg_value a)
        opposite a = symm (on-neg V R S.κ a)

    state : IsIndependent ρ.formal → (rows : List (Solution K E)) → Each (IsZero ρ) ls → Units 0 ls rows → IsState S (differences S) ρ.of ls (consts_of ρ v) (value_of ρ v) (λ w. O) IsConstant rows
    state h rows z s = state_start S (differences S) ρ.of ls (consts_of ρ v) (value_of ρ v) (λ w. O) IsConstant constant_space rows s
        (each_to (IsZero ρ) (λ f. IsConstant (ρ.of f)) ls (λ f e. (V.O, trans e (symm (on-O V R S.κ)))) z)
        (λ c g e. only_constants ρ.formal h g (eq_of_sub R (trans e (total_O S ρ.of c ls z))))

    pub trivial_all : (rows : List (Solution K E)) → IsIndependent ρ.formal → Each (IsZero ρ) ls → IsTrivial ρ v ls ls rows → IsComplete ρ v ls rows
    unfolding behind
    trivial_all [] h z t c g s = absurd t
    trivial_all (w ∷ rows) h z t c g s =
        let p = (state h rows z t.1).spans c g s in
        record {
          weights = behind p.short.0 p.weights;
          same_consts = λ i l. V.trans (p.same_consts i l) (V.symm (V.trans (V.add_cong (V.trans (V.mul_cong (V.rfl {x = p.short.0}) (t.0.0 i)) (mul_O V)) V.rfl) (O_add V)));
          same_value = back g (total S (value_of ρ v) p.weights rows) (S.κ.on p.short.0 ⊠ value_of ρ v w) (trans p.short.1 (symm (trans (mul_cong rfl t.0.1) mul_I)));
        }
      where
        back : (x y z : Element ρ.formal) → x ⊞ ⊟ y ≈ z → x ≈ z ⊞ y
        back x y z e = by R (x ∷ y ∷ z ∷ []) e (search reads depth 16) refl
