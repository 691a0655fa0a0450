-- The first place at which a row isn't 0, found from its first entry on.
--   zero_more, zero_all     a row that is 0 so far
--   leads_here              the place where it isn't any more
--   leads_unique            there is one such place
--   none_leads              a row that is 0 has none
use Rattle.std.proofs.Common.{◌≡◌, ℕ, ◌+◌, ◌<◌, ◌≤◌, sym, ◌∙◌, List, map, length, get_or, ◌⊎◌, inl, inr, arith}
use Rattle.sg_algebra.proofs.Value.{Value, zero_value}
use Rattle.sg_algebra.proofs.Polynomial.{coefficient}
use Rattle.sg_algebra.proofs.Rows.{at_read, past_row}
use Rattle.sg_matrix.specs.Systems.{LeadsAt}

order : (p q : ℕ) → (p ≡ q) ⊎ ((p < q) ⊎ (q < p))
order p q = grind arith

split : (k n : ℕ) → (k < n) ⊎ (n ≤ k)
split k n = grind arith

last_or_below : (n i : ℕ) → i < n + 1 → (i < n) ⊎ (i ≡ n)
last_or_below n i l = grind arith

pub leads_unique : {d : ℕ} (f : ℕ → Value d) (p q : ℕ) → LeadsAt f p → LeadsAt f q → p ≡ q
leads_unique f p q a b = go (order p q)
  where
    go : (p ≡ q) ⊎ ((p < q) ⊎ (q < p)) → p ≡ q
    go (inl e) = e
    go (inr (inl l)) = absurd (a.some (b.zeros p l))
    go (inr (inr l)) = absurd (b.some (a.zeros q l))

pub none_leads : {d : ℕ} (f : ℕ → Value d) (p : ℕ) → ((k : ℕ) → f k ≡ zero_value) → ¬ LeadsAt f p
none_leads f p z a = a.some (z p)

module _ {K : Type 0} {d : ℕ} (v : K → Value d) where
  pub zero_more : (r : List K) (n : ℕ) (x : K) → n < length r → x ≡ get_or r n x → v x ≡ zero_value → ((k : ℕ) → k < n → coefficient (map v r) k ≡ zero_value) → (k : ℕ) → k < n + 1 → coefficient (map v r) k ≡ zero_value
  zero_more r n x l e z h k q = elim (last_or_below n k q) [
    | inl g ↦ h k g
    | inr s ↦ rw s (at_read v r n x l e ∙ z)
  ]

  pub zero_all : (r : List K) (n : ℕ) → length r ≤ n → ((k : ℕ) → k < n → coefficient (map v r) k ≡ zero_value) → (k : ℕ) → coefficient (map v r) k ≡ zero_value
  zero_all r n l h k = elim (split k n) [ inl g ↦ h k g | inr g ↦ past_row v r k (omega arith) ]

  pub leads_here : (r : List K) (n : ℕ) (x : K) → n < length r → x ≡ get_or r n x → ¬ (v x ≡ zero_value) → ((k : ℕ) → k < n → coefficient (map v r) k ≡ zero_value) → LeadsAt (coefficient (map v r)) n
  leads_here r n x l e z h = record { zeros = h; some = λ s. z (sym (at_read v r n x l e) ∙ s) }
