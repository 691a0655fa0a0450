-- Combinations of rows, and their start.
use Rattle.std.proofs.Common.{◌≡◌, ℕ, zero, suc, ◌+◌, ◌<◌, ◌≤◌, refl, sym, ap, ap₂, ◌∙◌, subst, List, [], ◌∷◌, ◌++◌, map, length, take, get_or, arith}
use Rattle.std.proofs.lemmas.List.{take_more, take_all}
use Rattle.sg_algebra.specs.Ring.{Ring}
use Rattle.sg_algebra.proofs.Divides.{on-O}
use Rattle.sg_algebra.proofs.Linear.{unit}
use Rattle.sg_algebra.proofs.Ring.{O_mul}
use Rattle.sg_algebra.proofs.Solver.{ring, reads}
use Rattle.sg_algebra.proofs.Value.{Value, zero_value, ◌+ᵛ◌, ◌*ᵛ◌}
use Rattle.sg_algebra.proofs.ValueField.{ValueR, ValueF}
use Rattle.sg_tower_theory.proofs.Difference.{Difference as Shifted, trivial, total}
use Rattle.sg_tower_theory.proofs.Products.{LaurentsR}
use Rattle.sg_ratfun.specs.Fractions.{ratio}
use Rattle.sg_laurent.specs.declared.terms.Term.{Term}
use Rattle.sg_laurent.specs.Elements.{element}
use Rattle.sg_tower.specs.Elements.{IsSum, IsMultiple, IsCopy}
use Rattle.sg_products.specs.declared.partial.Partial.{Partial}
use Rattle.sg_products.specs.Readings.{count, laurents}
use Rattle.sg_matrix.specs.Systems.{ConstantsPlus}
use Rattle.sg_products.specs.Solving.{partial_consts, partial_value, partial_left, shift_of, IsExtended, IsCombined, IsStartRow, StartFrom}

take_next : {X : Type 0} (xs : List X) (i : ℕ) (x : X) → i < length xs → x ≡ get_or xs i x → take (i + 1) xs ≡ take i xs ++ x ∷ []
take_next xs i x l e = take_more xs i x l ∙ ap (λ z. take i xs ++ z ∷ []) (sym e)

length_take : {X : Type 0} (xs : List X) (i : ℕ) → i < length xs → length (take i xs) ≡ i
length_take [] i h = absurd (omega arith)
length_take (x ∷ xs) zero h = refl
length_take (x ∷ xs) (suc i) h = ap suc (length_take xs i (omega arith))

-- ---- Sums along a list
module _ {C R : Ring} (B : Shifted C R) where
  open B use {κ}
  open R use {A, ◌≈◌, ◌⊞◌, ◌⊠◌, O, rfl, symm, trans, add_cong, add_assoc, add_comm, add_O}

  total_push : {X : Type 0} (f : X → A) (c : ℕ → C.A) (xs : List X) (x : X) → total B f c (xs ++ x ∷ []) ≈ total B f c xs ⊞ κ.on (c (length xs)) ⊠ f x
  total_push f c [] x = add_comm
  total_push f c (y ∷ xs) x = trans (add_cong rfl (total_push f (λ i. c (suc i)) xs x)) (symm add_assoc)

  pub total_next : {X : Type 0} (f : X → A) (c : ℕ → C.A) (xs : List X) (i : ℕ) (x : X) → i < length xs → x ≡ get_or xs i x → total B f c (take (i + 1) xs) ≈ total B f c (take i xs) ⊞ κ.on (c i) ⊠ f x
  total_next f c xs i x l e = rw (take_next xs i x l e) (subst (λ (j : ℕ). total B f c (take i xs ++ x ∷ []) ≈ total B f c (take i xs) ⊞ κ.on (c j) ⊠ f x) (length_take xs i l) (total_push f c (take i xs) x))

  pub total_whole : {X : Type 0} (f : X → A) (c : ℕ → C.A) (xs : List X) (i : ℕ) → length xs ≤ i → total B f c (take i xs) ≈ total B f c xs
  total_whole f c xs i l = rw (take_all i xs l) rfl

module _ {K : Type 0} {d : ℕ} (v : K → Value d) (αs : List (List K × List K)) where
  abbrev S : Ring
  S = LaurentsR (ValueF (suc d)) (count v αs)

  abbrev D : Shifted (ValueR d) S
  D = shift_of v αs

  pub combined_start : (c : ℕ → Value d) (r : Partial K) → r.coeffs ≡ [] → r.value ≡ [] → r.left ≡ [] → IsCombined v αs c [] r
  combined_start c r h j k = record { coeffs = λ i. rw h refl; value = rw j S.rfl; left = rw k S.rfl }

  pub combined_next : (c : ℕ → Value d) (rows : List (Partial K)) (i : ℕ) (x : Value d) (row acc r : Partial K) → IsCombined v αs c (take i rows) acc → i < length rows → row ≡ get_or rows i row → x ≡ c i → IsExtended v αs acc x row r
      → IsCombined v αs c (take (i + 1) rows) r
  combined_next c rows i x row acc r b l e s h = record {
    coeffs = λ j. h.coeffs j ∙ ap₂ ◌+ᵛ◌ (b.coeffs j) (ap (λ z. z *ᵛ partial_consts v row j) s) ∙ sym (total_next (trivial (ValueR d)) (λ w. partial_consts v w j) c rows i row l e);
    value = S.trans h.value (S.trans (S.add_cong b.value (S.mul_cong (D.κ.on_cong x (c i) s) (S.rfl {x = partial_value v αs row}))) (S.symm (total_next D (partial_value v αs) c rows i row l e)));
    left = S.trans h.left (S.trans (S.add_cong b.left (S.mul_cong (D.κ.on_cong x (c i) s) (S.rfl {x = partial_left v αs row}))) (S.symm (total_next D (partial_left v αs) c rows i row l e)));
  }

  pub combined_whole : (c : ℕ → Value d) (rows : List (Partial K)) (i : ℕ) (r : Partial K) → IsCombined v αs c (take i rows) r → length rows ≤ i → IsCombined v αs c rows r
  combined_whole c rows i r b l = record {
    coeffs = λ j. b.coeffs j ∙ total_whole (trivial (ValueR d)) (λ w. partial_consts v w j) c rows i l;
    value = S.trans b.value (total_whole D (partial_value v αs) c rows i l);
    left = S.trans b.left (total_whole D (partial_left v αs) c rows i l);
  }

  pub extended_is : (acc row r : Partial K) (c : Value d) (more rest : List (Term (List K × List K))) → ConstantsPlus v acc.coeffs c row.coeffs r.coeffs
      → IsMultiple (laurents v αs) c row.value more → IsSum (laurents v αs) acc.value more r.value → IsMultiple (laurents v αs) c row.left rest → IsSum (laurents v αs) acc.left rest r.left → IsExtended v αs acc c row r
  extended_is acc row r c more rest h s t p q = record {
    coeffs = h;
    value = S.trans t (S.add_cong (S.rfl {x = partial_value v αs acc}) s);
    left = S.trans q (S.add_cong (S.rfl {x = partial_left v αs acc}) p);
  }

  -- the factor 0 changes nothing
  pub extended_none : (acc row : Partial K) (c : Value d) → c ≡ zero_value → IsExtended v αs acc c row acc
  extended_none acc row c e = record {
    coeffs = λ i. same (partial_consts v acc i) (partial_consts v row i);
    value = nothing (partial_value v αs acc) (partial_value v αs row);
    left = nothing (partial_left v αs acc) (partial_left v αs row);
  }
    where
      same : (a b : Value d) → a ≡ a +ᵛ c *ᵛ b
      same a b = rw e (ring (ValueR d) (a ∷ b ∷ []) (search reads depth 16) refl)

      none : S.◌≈◌ (D.κ.on c) S.O
      none = S.trans (D.κ.on_cong c zero_value e) (on-O (ValueR d) S D.κ)

      nothing : (x y : S.A) → S.◌≈◌ x (S.◌⊞◌ x (S.◌⊠◌ (D.κ.on c) y))
      nothing x y = S.symm (S.trans (S.add_cong (S.rfl {x = x}) (S.trans (S.mul_cong none (S.rfl {x = y})) (O_mul S))) S.add_O)

  -- ---- The start
  module _ (fs : List (List (Term (List K × List K)))) where
    pub start_row : (k : ℕ) (x : List (Term (List K × List K))) (w : Partial K) → k < length fs → x ≡ get_or fs k x → ((j : ℕ) → partial_consts v w j ≡ unit k j) → w.value ≡ [] → IsCopy (laurents v αs) x w.left → IsStartRow v αs fs k x w
    start_row k x w l e u z s = record { inside = l; place = e; consts = u; no_value = rw z S.rfl; all_left = s }

    starts_next : (xs : List (List (Term (List K × List K)))) (ws : List (Partial K)) (i k : ℕ) (x : List (Term (List K × List K))) (w : Partial K) → StartFrom v αs fs i xs ws → k ≡ i + length xs → IsStartRow v αs fs k x w → StartFrom v αs fs i (xs ++ x ∷ []) (ws ++ w ∷ [])
    starts_next [] [] i k x w s e u = (subst (λ (j : ℕ). IsStartRow v αs fs j x w) (omega (arith, e)) u, tt)
    starts_next [] (b ∷ ws) i k x w s e u = absurd s
    starts_next (a ∷ xs) [] i k x w s e u = absurd s
    starts_next (a ∷ xs) (b ∷ ws) i k x w s e u = (s.0, starts_next xs ws (suc i) k x w s.1 (omega (arith, e)) u)

    pub start_next : (rows new : List (Partial K)) (i : ℕ) (x : List (Term (List K × List K))) (w : Partial K) → StartFrom v αs fs 0 (take i fs) rows → i < length fs → x ≡ get_or fs i x → IsStartRow v αs fs i x w → new ≡ rows ++ w ∷ [] → StartFrom v αs fs 0 (take (i + 1) fs) new
    start_next rows new i x w s l e u n = rw (n, take_next fs i x l e) (starts_next (take i fs) rows 0 i x w s (omega (arith, length_take fs i l)) u)

    pub start_whole : (rows : List (Partial K)) (i : ℕ) → StartFrom v αs fs 0 (take i fs) rows → length fs ≤ i → StartFrom v αs fs 0 fs rows
    start_whole rows i s l = rw (take_all i fs l) at s
