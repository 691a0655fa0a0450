-- Numbers that are kept up to a cap.
--   min-times    a product keeps its cap where a factor is capped before
use Rattle.std.proofs.Common.{◌≡◌, ℕ, zero, suc, ◌*◌, ◌<◌, ◌≤◌, ◌⊎◌, inl, inr, min, ap, ◌∙◌, leb, true, false, arith}
use Rattle.std.proofs.lemmas.Bool.Decides.{leb_tells}

times-large : (a e : ℕ) → 65 < a → min (65 * e) 65 ≡ min (a * e) 65
times-large a zero h = omega arith
times-large a (suc e) h = omega arith

by_size : (a e : ℕ) → ((leb a 65 ≡ true) × (a ≤ 65)) ⊎ ((leb a 65 ≡ false) × (65 < a)) → min (min a 65 * e) 65 ≡ min (a * e) 65
by_size a e (inl h) = let small : min a 65 ≡ a = omega arith in ap (λ n. min (n * e) 65) small
by_size a e (inr h) = let large : min a 65 ≡ 65 = omega arith in ap (λ n. min (n * e) 65) large ∙ times-large a e h.1

pub min-times : (a e : ℕ) → min (min a 65 * e) 65 ≡ min (a * e) 65
min-times a e = by_size a e (leb_tells a 65)
