-- Values of polynomials with whole coefficients.
--   value_next          the value of the coefficients from i on, by Horner's rule
--   carried_on, stuck   one division from the lowest coefficient on: by m there is a quotient, or none
--   lower               a size after one step of Horner's rule
--   value_whole         the value as a fraction
--   whole_root          the roots of whole coefficients that are those of a polynomial times a number other than 0
use Rattle.std.proofs.Common.{◌≡◌, ◌≢◌, ℕ, zero, suc, ◌*◌, ◌-◌, ◌<◌, ◌≤◌, refl, sym, ◌∙◌, ap, List, [], ◌∷◌, length, map, drop, get_or, ℤ, pos, neg_ℤ, ◌+ℤ◌, ◌*ℤ◌, unsigned_abs, ◌↔◌, arith}
use Rattle.std.proofs.lemmas.Int.{ints, unsigned_abs-mul}
use Rattle.std.proofs.lemmas.Nat.{mul-le}
use Rattle.sg_algebra.specs.Coefficients.{eval}
use Rattle.sg_algebra.proofs.Solver.{by, ring, reads}
use Rattle.sg_algebra.proofs.Whole.{ℤR, readsℤ, mul_zeroℤ}
use Rattle.sg_algebra.proofs.Value.{Value, ◌+ᵛ◌, ◌*ᵛ◌, zero_value}
use Rattle.sg_algebra.proofs.ValueField.{ValueR, ValueD, mul_zero_value}
use Rattle.sg_algebra.proofs.Rational.{whole_value}
use Rattle.sg_algebra.proofs.Embedding.{whole_value_zero}
use Rattle.sg_num.specs.Value.{number}
use Rattle.sg_num.specs.declared.rat.Rat.{Rat}
use Rattle.sg_num.specs.Roots.{whole_at, IsRoot}
use Rattle.sg_num.proofs.WholeSteps.{whole_value-add, whole_value-mul}

value_drop : (c : List ℤ) (i : ℕ) (m : ℤ) → i < length c → whole_at (drop i c) m ≡ get_or c i (pos 0) +ℤ m *ℤ whole_at (drop (suc i) c) m
value_drop [] i m h = absurd (omega arith)
value_drop (x ∷ c) zero m h = refl
value_drop (x ∷ c) (suc i) m h = value_drop c i m (omega arith)

value_next : (c : List ℤ) (i j : ℕ) (m : ℤ) → j ≡ suc i → i < length c → whole_at (drop i c) m ≡ get_or c i (pos 0) +ℤ m *ℤ whole_at (drop j c) m
value_next c i j m e h = rw e (value_drop c i m h)

-- ---- Division from the lowest coefficient on

joined : (a x s q m v : ℤ) → s ≡ a +ℤ x → q *ℤ m ≡ s → a +ℤ (x +ℤ m *ℤ v) ≡ m *ℤ (q +ℤ v)
joined a x s q m v e f = by ℤR (a ∷ x ∷ s ∷ q ∷ m ∷ v ∷ []) (ℤR.add_cong (ℤR.symm e) (ℤR.symm f)) (search readsℤ depth 20) refl

past : (a x s m v : ℤ) → s ≡ a +ℤ x → a +ℤ (x +ℤ m *ℤ v) ≡ pos 0 → neg_ℤ v *ℤ m ≡ s
past a x s m v e z = by ℤR (a ∷ x ∷ s ∷ m ∷ v ∷ []) (ℤR.add_cong (ℤR.symm e) (ℤR.neg_cong z)) (search readsℤ depth 20) refl

module _ (c : List ℤ) (i j : ℕ) (m a s : ℤ) (next : j ≡ suc i) (inside : i < length c) (e : s ≡ a +ℤ get_or c i (pos 0)) (k : (whole_at c m ≡ pos 0) ↔ (a +ℤ whole_at (drop i c) m ≡ pos 0)) where
  pub carried_on : (q : ℤ) → m ≢ pos 0 → q *ℤ m ≡ s → (whole_at c m ≡ pos 0) ↔ (q +ℤ whole_at (drop j c) m ≡ pos 0)
  carried_on q ne f =
      let x = get_or c i (pos 0) in
      let v = whole_at (drop j c) m in
      let same : a +ℤ whole_at (drop i c) m ≡ m *ℤ (q +ℤ v) = ap (λ w. a +ℤ w) (value_next c i j m next inside) ∙ joined a x s q m v e f in
      (λ z. mul_zeroℤ m (q +ℤ v) ne (sym same ∙ k.0 z), λ z. k.1 (same ∙ ap (λ w. m *ℤ w) z ∙ times_zero m))
    where
      times_zero : (m : ℤ) → m *ℤ pos 0 ≡ pos 0
      times_zero m = ring ℤR (m ∷ []) (search readsℤ depth 16) refl

  pub stuck : ((q : ℤ) → q *ℤ m ≢ s) → whole_at c m ≢ pos 0
  stuck none z =
      let x = get_or c i (pos 0) in
      let v = whole_at (drop j c) m in
      none (neg_ℤ v) (past a x s m v e (sym (ap (λ w. a +ℤ w) (value_next c i j m next inside)) ∙ k.0 z))

-- ---- Sizes

nearer : (x y : ℤ) → unsigned_abs y - unsigned_abs x ≤ unsigned_abs (x +ℤ y)
nearer x y = omega (arith, ints)

pub lower : (c : List ℤ) (i j : ℕ) (m : ℤ) (h b r : ℕ) → j ≡ suc i → i < length c → b ≤ unsigned_abs m → h ≤ unsigned_abs (whole_at (drop j c) m) → r ≤ h * b - unsigned_abs (get_or c i (pos 0)) → r ≤ unsigned_abs (whole_at (drop i c) m)
lower c i j m h b r next inside big away low =
    let x = get_or c i (pos 0) in
    let v = whole_at (drop j c) m in
    let size : unsigned_abs (m *ℤ v) ≡ unsigned_abs m * unsigned_abs v = unsigned_abs-mul m v in
    let product : h * b ≤ unsigned_abs v * unsigned_abs m = mul-le h b (unsigned_abs v) (unsigned_abs m) away big in
    let near : unsigned_abs (m *ℤ v) - unsigned_abs x ≤ unsigned_abs (x +ℤ m *ℤ v) = nearer x (m *ℤ v) in
    rw (value_next c i j m next inside) (omega arith)

-- ---- From whole coefficients to fractions

value_whole : (c : List ℤ) (m : ℤ) → whole_value 0 (whole_at c m) ≡ eval (ValueR 0) (map (whole_value 0) c) (whole_value 0 m)
value_whole [] m = refl
value_whole (x ∷ c) m = whole_value-add x (m *ℤ whole_at c m) ∙ ap (λ v. whole_value 0 x +ᵛ v) (whole_value-mul m (whole_at c m) ∙ ap (λ v. whole_value 0 m *ᵛ v) (value_whole c m))

scaled : (w x : Value 0) (list : List Rat) → eval (ValueR 0) (map (λ r. w *ᵛ number r) list) x ≡ w *ᵛ eval (ValueR 0) (map number list) x
scaled w x [] = sym (mul_zero_value w)
scaled w x (r ∷ list) = ap (λ v. w *ᵛ number r +ᵛ x *ᵛ v) (scaled w x list) ∙ outside w (number r) x (eval (ValueR 0) (map number list) x)
  where
    outside : (w n x e : Value 0) → w *ᵛ n +ᵛ x *ᵛ (w *ᵛ e) ≡ w *ᵛ (n +ᵛ x *ᵛ e)
    outside w n x e = ring (ValueR 0) (w ∷ n ∷ x ∷ e ∷ []) (search reads depth 16) refl

pub whole_root : (c : List ℤ) (list : List Rat) (l m : ℤ) → l ≢ pos 0 → map (whole_value 0) c ≡ map (λ r. whole_value 0 l *ᵛ number r) list → (whole_at c m ≡ pos 0) ↔ IsRoot (map number list) m
whole_root c list l m ne e =
    let w = whole_value 0 l in
    let x = whole_value 0 m in
    let value : whole_value 0 (whole_at c m) ≡ w *ᵛ eval (ValueR 0) (map number list) x = value_whole c m ∙ ap (λ p. eval (ValueR 0) p x) e ∙ scaled w x list in (
      λ z. (ValueD 0).cancel_mul {c = w} {x = eval (ValueR 0) (map number list) x} {y = zero_value} (λ h. ne (whole_value_zero 0 l h)) (sym value ∙ ap (whole_value 0) z ∙ sym (mul_zero_value w)),
      λ z. whole_value_zero 0 (whole_at c m) (value ∙ ap (λ v. w *ᵛ v) z ∙ mul_zero_value w),
    )
