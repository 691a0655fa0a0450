-- From the numerators over 60 to the sum in lowest terms.
--   list-value      the value of the terms from the end, and one more
--   summed-by       in lowest terms it is 0 at a - 1 and grows by the polynomial
use Rattle.std.proofs.Common.{◌≡◌, List, [], ◌∷◌, ◌++◌, ℤ, pos, ◌+ℤ◌, ◌-ℤ◌, ◌*ℤ◌, neg_ℤ, ◌<ℤ◌, refl, sym, ap, ap₂, ◌∙◌}
use Rattle.sg_algebra.specs.Coefficients.{eval}
use Rattle.sg_algebra.proofs.Solver.{ring, by, scale}
use Rattle.sg_algebra.proofs.Whole.{ℤR, readsℤ, cancelℤ, positive_ne}
use Rattle.sg_plain.specs.Lowest.{falling_at, turned, IsReduced, IsSummed}
use Rattle.sg_plain.specs.Plain.{quartic_at}
use Rattle.sg_plain.specs.Sums.{sum_terms, sum_at}
use Rattle.sg_plain.proofs.Lowest.{falling-more, falling-turned, falling-times}
use Rattle.sg_plain.proofs.Sums.{sum-step}

pub list-value : (ts : List ℤ) (l x : ℤ) → falling_at (turned ts ++ (l ∷ [])) x ≡ x *ℤ eval ℤR ts x +ℤ l
list-value ts l x = falling-more (turned ts) l x ∙ ap (λ v. x *ℤ v +ℤ l) (falling-turned ts x)

cancelled : (g x y : ℤ) → pos 0 <ℤ g → x *ℤ g ≡ y *ℤ g → x ≡ y
cancelled g x y h e = cancelℤ g x y (positive_ne g h) (ring ℤR (g ∷ x ∷ []) (search readsℤ depth 12) refl ∙ e
    ∙ ring ℤR (g ∷ y ∷ []) (search readsℤ depth 12) refl)

start-step : (v l w g n : ℤ) → n *ℤ g ≡ v +ℤ l → l ≡ neg_ℤ v → n *ℤ g ≡ pos 0 *ℤ g
start-step v l w g n h k = by ℤR (v ∷ l ∷ g ∷ n ∷ []) (ap₂ ◌+ℤ◌ h k) (search readsℤ depth 16) refl

grow-step : (n n' f e g v v' l d : ℤ) → n *ℤ g ≡ v +ℤ l → n' *ℤ g ≡ v' +ℤ l → e *ℤ g ≡ d → v ≡ v' +ℤ d *ℤ f → n *ℤ g ≡ (n' +ℤ e *ℤ f) *ℤ g
grow-step n n' f e g v v' l d h h' k s =
    by ℤR (n ∷ n' ∷ f ∷ e ∷ g ∷ v ∷ v' ∷ l ∷ d ∷ []) (ap₂ ◌+ℤ◌ (ap₂ ◌+ℤ◌ (ap₂ ◌+ℤ◌ h (scale ℤR (neg_ℤ (pos 1)) h')) (scale ℤR (neg_ℤ f) k)) s)
    (search readsℤ depth 28 fits 8000) refl

pub summed-by : (a b c d e : ℤ) (F : ℤ → ℤ) (low l : ℤ) (list ns : List ℤ) (m : ℤ) → ((k : ℤ) → F k ≡ eval ℤR (a ∷ b ∷ c ∷ d ∷ e ∷ []) k)
    → list ≡ turned (sum_terms (a ∷ b ∷ c ∷ d ∷ e ∷ [])) ++ (l ∷ []) → l ≡ neg_ℤ ((low -ℤ pos 1) *ℤ eval ℤR (sum_terms (a ∷ b ∷ c ∷ d ∷ e ∷ [])) (low -ℤ pos 1))
    → IsReduced list (pos 60) ns m → IsSummed F low ns m
summed-by a b c d e F low l list ns m hf is hl low-terms = record {
  positive = low-terms.positive;
  lowest = low-terms.lowest;
  start = cancelled low-terms.divisor (falling_at ns (low -ℤ pos 1)) (pos 0) low-terms.some
      (start-step (sum_at (a ∷ b ∷ c ∷ d ∷ e ∷ []) (low -ℤ pos 1)) l (pos 0) low-terms.divisor (falling_at ns (low -ℤ pos 1)) (at (low -ℤ pos 1)) hl);
  step = λ k. cancelled low-terms.divisor (falling_at ns k) (falling_at ns (k -ℤ pos 1) +ℤ m *ℤ F k) low-terms.some
      (grow-step (falling_at ns k) (falling_at ns (k -ℤ pos 1)) (F k) m low-terms.divisor (sum_at (a ∷ b ∷ c ∷ d ∷ e ∷ []) k) (sum_at
      (a ∷ b ∷ c ∷ d ∷ e ∷ []) (k -ℤ pos 1)) l (pos 60)
      (at k) (at (k -ℤ pos 1)) low-terms.denominator (sum-step a b c d e k
      ∙ ap (λ v. sum_at (a ∷ b ∷ c ∷ d ∷ e ∷ []) (k -ℤ pos 1) +ℤ pos 60 *ℤ v) (sym (hf k))));
}
  where
    at : (x : ℤ) → falling_at ns x *ℤ low-terms.divisor ≡ sum_at (a ∷ b ∷ c ∷ d ∷ e ∷ []) x +ℤ l
    at x = sym (falling-times low-terms.divisor ns x) ∙ ap (λ l. falling_at l x) (low-terms.numbers ∙ is) ∙ list-value (sum_terms (a ∷ b ∷ c ∷ d ∷ e ∷ [])) l x

pub quartic-eval : (a b c d e k : ℤ) → quartic_at a b c d e k ≡ eval ℤR (a ∷ b ∷ c ∷ d ∷ e ∷ []) k
quartic-eval a b c d e k = ring ℤR (a ∷ b ∷ c ∷ d ∷ e ∷ k ∷ []) (search readsℤ depth 30 fits 8000) refl
