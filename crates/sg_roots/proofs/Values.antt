-- Horner's rule from the last coefficient on.
--   value_end     before the first step
--   value_next    the value of the coefficients from i on
use Rattle.std.proofs.Common.{◌≡◌, ℕ, zero, suc, ◌<◌, ◌≤◌, refl, List, [], ◌∷◌, length, drop, get_or, ℤ, pos, ◌+ℤ◌, ◌*ℤ◌, arith}
use Rattle.sg_num.specs.Roots.{whole_at}

pub value_end : (c : List ℤ) (i : ℕ) (m : ℤ) → length c ≤ i → whole_at (drop i c) m ≡ pos 0
value_end [] zero m h = refl
value_end [] (suc i) m h = refl
value_end (x ∷ c) zero m h = absurd (omega arith)
value_end (x ∷ c) (suc i) m h = value_end c i m (omega arith)

value_drop : (c : List ℤ) (i : ℕ) (m : ℤ) → i < length c → whole_at (drop i c) m ≡ get_or c i (pos 0) +ℤ m *ℤ whole_at (drop (suc i) c) m
value_drop [] i m h = absurd (omega arith)
value_drop (x ∷ c) zero m h = refl
value_drop (x ∷ c) (suc i) m h = value_drop c i m (omega arith)

pub value_next : (c : List ℤ) (i j : ℕ) (m : ℤ) → j ≡ suc i → i < length c → whole_at (drop i c) m ≡ get_or c i (pos 0) +ℤ m *ℤ whole_at (drop j c) m
value_next c i j m e h = rw e (value_drop c i m h)
