-- The start of the recursion over slices: for each right side the unit constants, no value, and the right side as what is left.
--   IsUnit k x w     the row w is the start of the right side x, which stands at k
--   Starts k xs ws   so each of ws of its right side
--   state_start      these rows are a state, where the right sides and all solutions are in the space
use Rattle.std.proofs.Common.{◌≡◌, ℕ, zero, suc, ◌+◌, ◌<◌, sym, subst, List, [], ◌∷◌, ◌++◌, length, get_or, arith}
use Rattle.sg_algebra.specs.Ring.{Ring}
use Rattle.sg_algebra.specs.Coefficients.{Each}
use Rattle.sg_algebra.proofs.Ring.{mul_O, O_mul, O_add, neg_O, I_mul}
use Rattle.sg_algebra.proofs.Divides.{on-O}
use Rattle.sg_tower_theory.proofs.Difference.{Difference, total, mixed}
use Rattle.sg_tower_theory.proofs.Slices.{Map, Space, IsState, IsLeft}

module _ {C R : Ring} (B : Difference C R) where
  open R use {A, ◌≈◌, ◌⊞◌, ◌⊠◌, O, I, rfl, symm, trans, add_cong, mul_cong, add_O}

  total_zeros : {X : Type 0} (f : X → A) (u : ℕ → C.A) (xs : List X) → ((j : ℕ) → C.◌≈◌ (u j) C.O) → total B f u xs ≈ O
  total_zeros f u [] h = rfl
  total_zeros f u (x ∷ xs) h = trans (add_cong (trans (mul_cong (trans (B.κ.on_cong (u 0) C.O (h 0)) (on-O C R B.κ)) rfl) (O_mul R)) (total_zeros f (λ i. u (suc i)) xs (λ j. h (suc j)))) add_O

  pub total_unit : {X : Type 0} (f : X → A) (u : ℕ → C.A) (xs : List X) (k : ℕ) (x : X) → k < length xs → x ≡ get_or xs k x → C.◌≈◌ (u k) C.I → ((j : ℕ) → ¬ (j ≡ k) → C.◌≈◌ (u j) C.O) → total B f u xs ≈ f x
  total_unit f u [] k x l e one zeros = absurd (omega arith)
  total_unit f u (y ∷ xs) zero x l e one zeros =
      subst (λ z. κ0 ⊠ f y ⊞ rest ≈ f z) (sym e)
      (trans (add_cong (trans (mul_cong (trans (B.κ.on_cong (u 0) C.I one) B.κ.on-one) rfl) (I_mul R)) (total_zeros f (λ i. u (suc i)) xs (λ j. zeros (suc j) (λ q. omega (arith, q))))) add_O)
    where
      κ0 : A
      κ0 = B.κ.on (u 0)

      rest : A
      rest = total B f (λ i. u (suc i)) xs
  total_unit f u (y ∷ xs) (suc k) x l e one zeros =
      trans (add_cong (trans (mul_cong (trans (B.κ.on_cong (u 0) C.O (zeros 0 (λ q. omega (arith, q)))) (on-O C R B.κ)) rfl) (O_mul R))
      (total_unit f (λ i. u (suc i)) xs k x (omega arith) e one (λ j h. zeros (suc j) (λ q. h (omega (arith, q)))))) (O_add R)

module _ {C S : Ring} (E : Difference C S) (outer : Map E E) {X : Type 0} (m : X → S.A) (fs : List X) {W : Type 0} (consts : W → ℕ → C.A) (value left : W → S.A) where
  open S use {A, ◌≈◌, ◌⊞◌, ◌⊠◌, ⊟, O, I}

  pub record IsUnit (k : ℕ) (x : X) (w : W) : Type 0 where
    pub inside : k < length fs
    pub place : x ≡ get_or fs k x
    pub own : C.◌≈◌ (consts w k) C.I
    pub others : (j : ℕ) → ¬ (j ≡ k) → C.◌≈◌ (consts w j) C.O
    pub no_value : value w ≈ O
    pub all_left : left w ≈ m x

  abbrev pub Starts : ℕ → List X → List W → Type 0
  Starts k [] [] = Unit {0}
  Starts k [] (w ∷ ws) = ⊥
  Starts k (x ∷ xs) [] = ⊥
  Starts k (x ∷ xs) (w ∷ ws) = IsUnit k x w × Starts (suc k) xs ws

  pub starts_push : (k : ℕ) (xs : List X) (ws : List W) (x : X) (w : W) (n : ℕ) → Starts k xs ws → n ≡ k + length xs → IsUnit n x w → Starts k (xs ++ x ∷ []) (ws ++ w ∷ [])
  starts_push k [] [] x w n s e u = (subst (λ (j : ℕ). IsUnit j x w) (omega (arith, e)) u, tt)
  starts_push k [] (b ∷ ws) x w n s e u = absurd s
  starts_push k (a ∷ xs) [] x w n s e u = absurd s
  starts_push k (a ∷ xs) (b ∷ ws) x w n s e u = (s.0, starts_push (suc k) xs ws x w n s.1 (omega (arith, e)) u)

  earlier : (k : ℕ) (xs : List X) (ws : List W) (u : ℕ → C.A) (j : ℕ) → Starts k xs ws → j < k → C.◌≈◌ (mixed C consts u ws j) C.O
  earlier k [] [] u j s l = C.rfl
  earlier k [] (w ∷ ws) u j s l = absurd s
  earlier k (x ∷ xs) [] u j s l = absurd s
  earlier k (x ∷ xs) (w ∷ ws) u j s l = C.trans (C.add_cong (C.trans (C.mul_cong C.rfl (s.0.others j (λ q. omega (arith, q)))) (mul_O C)) (earlier (suc k) xs ws (λ i. u (suc i)) j s.1 (omega arith))) C.add_O

  weights : (k : ℕ) (xs : List X) (ws : List W) (u : ℕ → C.A) (i j : ℕ) → Starts k xs ws → i < length xs → j ≡ k + i → C.◌≈◌ (mixed C consts u ws j) (u i)
  weights k [] [] u i j s l e = absurd (omega arith)
  weights k [] (w ∷ ws) u i j s l e = absurd s
  weights k (x ∷ xs) [] u i j s l e = absurd s
  weights k (x ∷ xs) (w ∷ ws) u zero j s l e =
      C.trans (C.add_cong (C.trans (C.mul_cong C.rfl (subst (λ (z : ℕ). C.◌≈◌ (consts w z) C.I) (sym (same k j e)) s.0.own)) C.mul_I) (earlier (suc k) xs ws (λ i. u (suc i)) j s.1 (omega (arith, e)))) C.add_O
    where
      same : (k j : ℕ) → j ≡ k + 0 → j ≡ k
      same k j e = omega (arith, e)
  weights k (x ∷ xs) (w ∷ ws) u (suc i) j s l e =
      C.trans (C.add_cong (C.trans (C.mul_cong C.rfl (s.0.others j (λ q. omega (arith, q, e)))) (mul_O C)) (weights (suc k) xs ws (λ i. u (suc i)) i j s.1 (omega arith) (omega (arith, e)))) (O_add C)

  no_values : (k : ℕ) (xs : List X) (ws : List W) (u : ℕ → C.A) → Starts k xs ws → total E value u ws ≈ O
  no_values k [] [] u s = S.rfl
  no_values k [] (w ∷ ws) u s = absurd s
  no_values k (x ∷ xs) [] u s = absurd s
  no_values k (x ∷ xs) (w ∷ ws) u s = S.trans (S.add_cong (S.trans (S.mul_cong (S.rfl) (s.0.no_value)) (mul_O S)) (no_values (suc k) xs ws (λ i. u (suc i)) s.1)) (S.add_O)

  each_start : (Q : W → Type 0) → ((k : ℕ) (x : X) (w : W) → IsUnit k x w → Q w) → (k : ℕ) (xs : List X) (ws : List W) → Starts k xs ws → Each Q ws
  each_start Q h k [] [] s = tt
  each_start Q h k [] (w ∷ ws) s = absurd s
  each_start Q h k (x ∷ xs) [] s = absurd s
  each_start Q h k (x ∷ xs) (w ∷ ws) s = (h k x w s.0, each_start Q h (suc k) xs ws s.1)

  each_place : (Q : X → Type 0) (xs : List X) (k : ℕ) (x : X) → Each Q xs → k < length xs → x ≡ get_or xs k x → Q x
  each_place Q [] k x h l e = absurd (omega arith)
  each_place Q (y ∷ xs) zero x h l e = subst Q (sym e) h.0
  each_place Q (y ∷ xs) (suc k) x h l e = each_place Q xs k x h.1 (omega arith) e

  pub state_start : (P : A → Type 0) → Space E P → (rows : List W) → Starts 0 fs rows → Each (λ f. P (m f)) fs → ((c : ℕ → C.A) (g : A) → outer.linear.on g ≈ total E m c fs → P g) → IsState E outer m fs consts value left P rows
  state_start P space rows s inside bound = record {
    lefts = each_start (IsLeft E outer m fs consts value left) (λ k x w u. record { is_left = is_left k x w u }) 0 fs rows s;
    shorts = each_start (λ w. P (left w)) (λ k x w u. space.same (m x) (left w) (S.symm u.all_left) (each_place (λ f. P (m f)) fs k x inside u.inside u.place)) 0 fs rows s;
    spans = λ c g h. record {
      weights = c;
      same_consts = λ i l. C.symm (weights 0 fs rows c i i s l (from_zero i));
      short = space.same g (g ⊞ ⊟ (total E value c rows)) (S.symm (nothing g (total E value c rows) (no_values 0 fs rows c s))) (bound c g h);
    };
  }
    where
      from_zero : (i : ℕ) → i ≡ 0 + i
      from_zero i = omega arith

      nothing : (g t : A) → t ≈ O → g ⊞ ⊟ t ≈ g
      nothing g t h = S.trans (S.add_cong S.rfl (S.trans (S.neg_cong h) (neg_O S))) S.add_O

      is_left : (k : ℕ) (x : X) (w : W) → IsUnit k x w → left w ≈ total E m (consts w) fs ⊞ ⊟ (outer.linear.on (value w))
      is_left k x w u = S.trans u.all_left (S.symm (S.trans (nothing (total E m (consts w) fs) (outer.linear.on (value w)) (S.trans (outer.cong (value w) O u.no_value) outer.linear.on-none)) (total_unit E m (consts w) fs k x u.inside u.place u.own u.others)))
