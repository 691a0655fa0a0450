-- Values of expressions from those of their parts, and of sums and products term by term.
--   found-sum, found-product         what is found for a compound
--   none-over                        a quotient by 0 has no value
--   fold-none                        where a term has no value the sum or product has none
--   zero-less, power-even, power-odd  opposites and powers
use Rattle.std.proofs.Common.{◌≡◌, ℕ, zero, suc, ◌+◌, ◌<◌, ◌/◌, ◌%◌, ◌⊎◌, inl, inr, Option, Some, None, ℤ, pos, ◌+ℤ◌, refl, sym, ap, subst, ◌∙◌, [], ◌∷◌, arith}
use Rattle.sg_algebra.proofs.Ring.{pow, pow-add}
use Rattle.sg_algebra.proofs.Solver.{ring, reads}
use Rattle.sg_algebra.proofs.Value.{Value, ◌+ᵛ◌, ◌-ᵛ◌, ◌*ᵛ◌, neg_value, zero_value}
use Rattle.sg_algebra.proofs.ValueField.{ValueR}
use Rattle.sg_spec.specs.Tree.{Tree, add, mul, div}
use Rattle.sg_spec.specs.Worth.{IsFolded, HasWorth}
use Rattle.sg_build.specs.Found.{Finds, IsBoth}
use Rattle.sg_worth_theory.proofs.Worths.{worth_unique}

module _ {K : Type 0} {d : ℕ} (v : K → Value d) (letter : Value d) (k : ℤ) (s t : Tree) where
  pub found-sum : (x y o : Option K) → Finds v (HasWorth letter s k) x → Finds v (HasWorth letter t k) y → IsBoth v ◌+ᵛ◌ x y o → Finds v (HasWorth letter (add s t) k) o
  found-sum (Some x) (Some y) (Some r) h i e = (v x, v y, h, i, e)
  found-sum (Some x) (Some y) None h i e = absurd e
  found-sum (Some x) None (Some r) h i e = absurd e
  found-sum (Some x) None None h i e = λ w u. i u.1 u.3
  found-sum None y (Some r) h i e = absurd e
  found-sum None y None h i e = λ w u. h u.0 u.2

  pub found-product : (x y o : Option K) → Finds v (HasWorth letter s k) x → Finds v (HasWorth letter t k) y → IsBoth v ◌*ᵛ◌ x y o → Finds v (HasWorth letter (mul s t) k) o
  found-product (Some x) (Some y) (Some r) h i e = (v x, v y, h, i, e)
  found-product (Some x) (Some y) None h i e = absurd e
  found-product (Some x) None (Some r) h i e = absurd e
  found-product (Some x) None None h i e = λ w u. i u.1 u.3
  found-product None y (Some r) h i e = absurd e
  found-product None y None h i e = λ w u. h u.0 u.2

module _ {d : ℕ} (letter : Value d) (k : ℤ) where
  pub none-over : (s t : Tree) (y : Value d) → HasWorth letter t k y → y ≡ zero_value → (v : Value d) → ¬ HasWorth letter (div s t) k v
  none-over s t y i z v h = h.4 (worth_unique letter t k h.1 y h.3 i ∙ z)

same_or_less : (i n : ℕ) → i < suc n → (i ≡ n) ⊎ (i < n)
same_or_less i n l = grind arith

module _ {B : Type 0} (op : B → B → B) (start : B) (term : ℤ → B → Type 0) (from : ℤ) where
  -- where a term has no value the sum has none
  pub fold-none : (i n : ℕ) → i < n → ((w : B) → ¬ term (from +ℤ pos i) w) → (v : B) → ¬ IsFolded op start term from n v
  fold-none i zero l h v f = absurd (omega (arith, l))
  fold-none i (suc n) l h v f = elim (same_or_less i n l) [ inl e ↦ h f.1 (subst (λ (m : ℕ). term (from +ℤ pos m) f.1) (sym e) f.3) | inr m ↦ fold-none i n m h f.0 f.2 ]

module _ {d : ℕ} where
  pub zero-less : (z x r : Value d) → z ≡ zero_value → r ≡ z -ᵛ x → r ≡ neg_value x
  zero-less z x r h e = e ∙ ap (λ v. v -ᵛ x) h ∙ ring (ValueR d) (x ∷ []) (search reads depth 16) refl

  pub power-even : (x h s : Value d) (e q : ℕ) → q ≡ e / 2 → e % 2 ≡ 0 → h ≡ pow (ValueR d) x q → s ≡ h *ᵛ h → s ≡ pow (ValueR d) x e
  power-even x h s e q f m k l =
      let twice : q + q ≡ e = omega (arith, f, m) in
      l ∙ ap (λ v. v *ᵛ v) k ∙ sym (pow-add (ValueR d) x q q) ∙ ap (pow (ValueR d) x) twice

  pub power-odd : (x h s r : Value d) (e q : ℕ) → q ≡ e / 2 → ¬ (e % 2 ≡ 0) → h ≡ pow (ValueR d) x q → s ≡ h *ᵛ h → r ≡ s *ᵛ x → r ≡ pow (ValueR d) x e
  power-odd x h s r e q f m k l i =
      let more : suc (q + q) ≡ e = omega (arith, f, m) in
      i ∙ ap (λ v. v *ᵛ x) (l ∙ ap (λ v. v *ᵛ v) k ∙ sym (pow-add (ValueR d) x q q)) ∙ ap (pow (ValueR d) x) more
