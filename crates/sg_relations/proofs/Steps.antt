-- The three kinds of steps of the refinement of columns.
--   unit_step      a column with the number 1 is dropped
--   move_step      a column whose number is coprime to all that stand
--   split_step     two columns that have a common divisor above 1
use Rattle.std.proofs.Common.{◌≡◌, ℕ, zero, suc, ◌+◌, ◌-◌, ◌*◌, ◌/◌, ◌<◌, refl, sym, subst, ap, ap₂, ◌∙◌, List, [], ◌∷◌, ◌++◌, length, get_or, All, AllPairs, ℤ, pos, ◌+ℤ◌, arith}
use Rattle.std.specs.List.{remove}
use Rattle.std.specs.Int.{◌∣◌}
use Rattle.std.proofs.lemmas.List.Elements.{All-push}
use Rattle.std.proofs.lemmas.List.Quantifiers.{all_pairs_push, all_pairs_remove}
use Rattle.std.proofs.Math.Nat.{mul-div_cancel'}
use Rattle.sg_algebra.specs.Divisor.{gcd}
use Rattle.sg_algebra.proofs.Divisor.{gcd-is, gcd_comm, gcd_positive}
use Rattle.sg_algebra.proofs.Solver.{ring, reads}
use Rattle.sg_algebra.proofs.Value.{Value, ◌*ᵛ◌, one_value, zero_value, fraction_value}
use Rattle.sg_algebra.proofs.ValueField.{ValueR, ValueF}
use Rattle.sg_algebra.proofs.Rational.{fraction_value-mul, fraction_value-one, zero_fraction_value, whole_ne}
use Rattle.sg_tower_theory.specs.Powers.{power}
use Rattle.sg_relations_theory.specs.Rows.{sum_row}
use Rattle.sg_relations.specs.declared.numbers.Column.{Column}
use Rattle.sg_relations.specs.Columns.{exponent, column_value, product_at, IsPositive, IsProper, AreCoprime, HasWidth, weight_waiting, weight_standing, IsStep}
use Rattle.sg_relations_theory.proofs.PowerLaws.{one-power, power_cong, power-add, mul-power}
use Rattle.sg_relations.proofs.Loops.{product-push, product-remove, weight_waiting-push, weight_standing-push, weight_standing-remove, split_falls}

pub All-remove : {X : Type 0} (P : X → Type 0) (xs : List X) (n : ℕ) → All P xs → All P (remove xs n)
All-remove P [] zero h = h
All-remove P [] (suc n) h = h
All-remove P (x ∷ xs) zero h = λ k d l. h (suc k) d (omega arith)
All-remove P (x ∷ xs) (suc n) h = go (All-remove P xs n (λ k d l. h (suc k) d (omega arith)))
  where
    go : All P (remove xs n) → All P (x ∷ remove xs n)
    go ih zero d l = h 0 d (omega arith)
    go ih (suc k) d l = ih k d (omega arith)

exponent-sum : (a b : List ℤ) (i : ℕ) → get_or (sum_row a b) i (pos 0) ≡ get_or a i (pos 0) +ℤ get_or b i (pos 0)
exponent-sum [] b i = sym (lib.IntN.+ℤ_idl (get_or b i (pos 0)))
exponent-sum (x ∷ a) [] i = sym (lib.IntN.+ℤ_idr (get_or (x ∷ a) i (pos 0)))
exponent-sum (x ∷ a) (y ∷ b) zero = refl
exponent-sum (x ∷ a) (y ∷ b) (suc i) = exponent-sum a b i

length-sum : (a b : List ℤ) → length a ≡ length b → length (sum_row a b) ≡ length a
length-sum [] [] e = refl
length-sum [] (y ∷ b) e = absurd (omega arith)
length-sum (x ∷ a) [] e = absurd (omega arith)
length-sum (x ∷ a) (y ∷ b) e = ap suc (length-sum a b (omega arith))

abbrev val : ℕ → Value 0
val n = fraction_value (pos n) 1

val_ne : (n : ℕ) → 0 < n → ¬ (val n ≡ zero_value)
val_ne n h e = whole_ne n h (zero_fraction_value (pos n) 1 (omega arith) e)

module _ (n : ℕ) (w : Column) (W S : List Column) (some : 0 < w.base) (positive : All IsPositive W) (proper : All IsProper S) (coprime : AllPairs AreCoprime S)
    (own_width : HasWidth n w) (waiting_width : All (HasWidth n) W) (standing_width : All (HasWidth n) S) where
  pub unit_step : w.base ≡ 1 → IsStep n w W S W S
  unit_step e = record {
    waiting_width = waiting_width;
    standing_width = standing_width;
    positive = positive;
    proper = proper;
    coprime = coprime;
    kept = λ i. sym (ap (λ (y : Value 0). (y *ᵛ product_at W i) *ᵛ product_at S i) (one i) ∙ ring (ValueR 0) (product_at W i ∷ product_at S i ∷ []) (search reads depth 12) refl);
    falls = omega arith;
  }
    where
      one : (i : ℕ) → column_value w i ≡ one_value
      one i = power_cong (ValueF 0) (val w.base) one_value (exponent w i) (ap val e ∙ fraction_value-one) ∙ one-power (ValueF 0) (exponent w i)

  pub move_step : ¬ (w.base ≡ 1) → All (λ c. gcd w.base c.base ≡ 1) S → IsStep n w W S W (S ++ w ∷ [])
  move_step ne far = record {
    waiting_width = waiting_width;
    standing_width = All-push (HasWidth n) S w standing_width own_width;
    positive = positive;
    proper = All-push IsProper S w proper above;
    coprime = all_pairs_push AreCoprime S w coprime (λ k d l. gcd_comm (get_or S k d).base w.base ∙ far k d l);
    kept = λ i. ap (λ (y : Value 0). product_at W i *ᵛ y) (product-push S w i) ∙ ring (ValueR 0) (column_value w i ∷ product_at W i ∷ product_at S i ∷ []) (search reads depth 12) refl;
    falls = let e = weight_standing-push S w in omega arith;
  }
    where
      above : 1 < w.base
      above = grind arith

  module _ (j : ℕ) (inside : j < length S) (g' : Column) (b b' w' : Column) (is_b : b ≡ get_or S j b) (met : ¬ (gcd w.base b.base ≡ 1))
      (g_base : g'.base ≡ gcd w.base b.base) (g_exps : g'.exps ≡ sum_row w.exps b.exps) (b_base : b'.base ≡ b.base / g'.base) (b_exps : b'.exps ≡ b.exps) (w_base : w'.base ≡ w.base / g'.base) (w_exps : w'.exps ≡ w.exps) where
    b_proper : 1 < b.base
    b_proper = subst (λ (c : Column). 1 < c.base) (sym is_b) (proper j b inside)

    b_width : HasWidth n b
    b_width = subst (HasWidth n) (sym is_b) (standing_width j b inside)

    above_zero : (a : ℕ) → 1 < a → 0 < a
    above_zero a h = omega arith

    g_some : 0 < g'.base
    g_some = subst (λ (k : ℕ). 0 < k) (sym g_base) (gcd_positive w.base b.base (above_zero b.base b_proper))

    b_parts : b.base ≡ g'.base * b'.base
    b_parts = sym (ap (λ k. g'.base * k) b_base ∙ mul-div_cancel' g'.base (subst (λ (k : ℕ). k ∣ b.base) (sym g_base) (gcd-is w.base b.base).1))

    w_parts : w.base ≡ g'.base * w'.base
    w_parts = sym (ap (λ k. g'.base * k) w_base ∙ mul-div_cancel' g'.base (subst (λ (k : ℕ). k ∣ w.base) (sym g_base) (gcd-is w.base b.base).0))

    factor_some : (x g y : ℕ) → 0 < x → x ≡ g * y → 0 < y
    factor_some x g zero h e = grind arith
    factor_some x g (suc y) h e = omega arith

    w_some : 0 < w'.base
    w_some = factor_some w.base g'.base w'.base some w_parts

    b_some : 0 < b'.base
    b_some = factor_some b.base g'.base b'.base (above_zero b.base b_proper) b_parts

    g_above : 1 < g'.base
    g_above = go g'.base g_some (λ e. met (sym g_base ∙ e))
      where
        go : (k : ℕ) → 0 < k → ¬ (k ≡ 1) → 1 < k
        go k h ne = grind arith

    value_parts : (x g y : ℕ) → x ≡ g * y → val x ≡ val g *ᵛ val y
    value_parts x g y e = ap val e ∙ fraction_value-mul (pos g) (pos y) 1 1 (omega arith) (omega arith)

    power_parts : (x g y : ℕ) (e : ℤ) → 0 < g → 0 < y → x ≡ g * y → power (ValueF 0) (val x) e ≡ power (ValueF 0) (val g) e *ᵛ power (ValueF 0) (val y) e
    power_parts x g y e h k q = power_cong (ValueF 0) (val x) (val g *ᵛ val y) e (value_parts x g y q) ∙ mul-power (ValueF 0) (val g) (val y) e (val_ne g h) (val_ne y k)

    same : (i : ℕ) → column_value w i *ᵛ column_value b i ≡ column_value w' i *ᵛ (column_value b' i *ᵛ column_value g' i)
    same i = ap₂ ◌*ᵛ◌ (power_parts w.base g'.base w'.base (exponent w i) g_some w_some w_parts) (power_parts b.base g'.base b'.base (exponent b i) g_some b_some b_parts)
        ∙ ring (ValueR 0) (power (ValueF 0) (val g'.base) (exponent w i) ∷ power (ValueF 0) (val w'.base) (exponent w i) ∷ power (ValueF 0) (val g'.base) (exponent b i) ∷ power (ValueF 0) (val b'.base) (exponent b i) ∷ []) (search reads depth 12) refl
        ∙ ap₂ ◌*ᵛ◌ (ap (λ (r : List ℤ). power (ValueF 0) (val w'.base) (get_or r i (pos 0))) (sym w_exps))
        (ap₂ ◌*ᵛ◌ (ap (λ (r : List ℤ). power (ValueF 0) (val b'.base) (get_or r i (pos 0))) (sym b_exps))
        (sym (ap (λ (r : List ℤ). power (ValueF 0) (val g'.base) (get_or r i (pos 0))) g_exps ∙ ap (power (ValueF 0) (val g'.base)) (exponent-sum w.exps b.exps i) ∙ power-add (ValueF 0) (val g'.base) (exponent w i) (exponent b i) (val_ne g'.base g_some))))

    pub split_step : IsStep n w W S (((W ++ g' ∷ []) ++ b' ∷ []) ++ w' ∷ []) (remove S j)
    split_step = record {
      waiting_width = All-push (HasWidth n) ((W ++ g' ∷ []) ++ b' ∷ []) w' (All-push (HasWidth n) (W ++ g' ∷ []) b' (All-push (HasWidth n) W g' waiting_width (ap length g_exps ∙ length-sum w.exps b.exps (own_width ∙ sym b_width) ∙ own_width)) (ap length b_exps ∙ b_width)) (ap length w_exps ∙ own_width);
      standing_width = All-remove (HasWidth n) S j standing_width;
      positive = All-push IsPositive ((W ++ g' ∷ []) ++ b' ∷ []) w' (All-push IsPositive (W ++ g' ∷ []) b' (All-push IsPositive W g' positive g_some) b_some) w_some;
      proper = All-remove IsProper S j proper;
      coprime = all_pairs_remove AreCoprime S j inside coprime;
      kept = kept;
      falls = falls;
    }
      where
        standing : (i : ℕ) → column_value b i *ᵛ product_at (remove S j) i ≡ product_at S i
        standing i = ap (λ (c : Column). column_value c i *ᵛ product_at (remove S j) i) is_b ∙ product-remove S j b i inside

        kept : (i : ℕ) → product_at (((W ++ g' ∷ []) ++ b' ∷ []) ++ w' ∷ []) i *ᵛ product_at (remove S j) i ≡ (column_value w i *ᵛ product_at W i) *ᵛ product_at S i
        kept i = ap (λ (y : Value 0). y *ᵛ product_at (remove S j) i) (product-push ((W ++ g' ∷ []) ++ b' ∷ []) w' i ∙ ap (λ (y : Value 0). column_value w' i *ᵛ y) (product-push (W ++ g' ∷ []) b' i ∙ ap (λ (y : Value 0). column_value b' i *ᵛ y) (product-push W g' i)))
            ∙ ring (ValueR 0) (column_value w' i ∷ column_value b' i ∷ column_value g' i ∷ product_at W i ∷ product_at (remove S j) i ∷ []) (search reads depth 12) refl
            ∙ ap (λ (y : Value 0). y *ᵛ (product_at W i *ᵛ product_at (remove S j) i)) (sym (same i))
            ∙ ring (ValueR 0) (column_value w i ∷ column_value b i ∷ product_at W i ∷ product_at (remove S j) i ∷ []) (search reads depth 12) refl
            ∙ ap (λ (y : Value 0). (column_value w i *ᵛ product_at W i) *ᵛ y) (standing i)

        falls : weight_waiting (((W ++ g' ∷ []) ++ b' ∷ []) ++ w' ∷ []) + weight_standing (remove S j) < ((4 * (w.base - 1) + 1) + weight_waiting W) + weight_standing S
        falls =
            let e1 = weight_waiting-push ((W ++ g' ∷ []) ++ b' ∷ []) w' in
            let e2 = weight_waiting-push (W ++ g' ∷ []) b' in
            let e3 = weight_waiting-push W g' in
            let e4 : 4 * (b.base - 1) + weight_standing (remove S j) ≡ weight_standing S = ap (λ (c : Column). 4 * (c.base - 1) + weight_standing (remove S j)) is_b ∙ weight_standing-remove S j b inside in
            let e5 = split_falls w.base b.base w'.base b'.base g'.base w_parts b_parts g_above w_some b_some in
            omega arith

-- ---- A turn of the loop

weight_waiting-remove : (cs : List Column) (j : ℕ) (d : Column) → j < length cs → (4 * ((get_or cs j d).base - 1) + 1) + weight_waiting (remove cs j) ≡ weight_waiting cs
weight_waiting-remove [] j d l = absurd (omega arith)
weight_waiting-remove (c ∷ cs) zero d l = refl
weight_waiting-remove (c ∷ cs) (suc j) d l = let e = weight_waiting-remove cs j d (omega arith) in omega arith

module _ (n : ℕ) (W S W1 W2 S2 : List Column) (w : Column) (j : ℕ) (inside : j < length W) (is_w : w ≡ get_or W j w) (rest : W1 ≡ remove W j) (s : IsStep n w W1 S W2 S2) where
  pub turn_falls : weight_waiting W2 + weight_standing S2 < weight_waiting W + weight_standing S
  turn_falls =
      let e1 : (4 * (w.base - 1) + 1) + weight_waiting W1 ≡ weight_waiting W = ap₂ (λ (c : Column) (V : List Column). (4 * (c.base - 1) + 1) + weight_waiting V) is_w rest ∙ weight_waiting-remove W j w inside in
      let e2 = s.falls in
      omega arith

  pub turn_kept : (i : ℕ) → product_at W2 i *ᵛ product_at S2 i ≡ product_at W i *ᵛ product_at S i
  turn_kept i = s.kept i ∙ ap (λ (y : Value 0). y *ᵛ product_at S i) (ap₂ (λ (c : Column) (V : List Column). column_value c i *ᵛ product_at V i) is_w rest ∙ product-remove W j w i inside)
