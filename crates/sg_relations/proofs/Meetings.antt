-- The loops that look for a factor with a common divisor.
--   meeting_at        a factor that meets the polynomial is one at its place
--   unmet_more        what holds of the first j items, and of the next, holds of all these
--   unmet_item        what holds of each item holds of the one at a place
--   first_shift       the first of some shifts is one
--   no_shifts         there is none in an empty list
use Rattle.std.proofs.Common.{◌∙◌, ◌≡◌, ℕ, zero, suc, ◌+◌, ◌<◌, refl, sym, subst, List, [], ◌∷◌, map, length, take, get_or, All, ℤ, ◌==◌, true, false, arith}
use Rattle.std.specs.List.{Contains}
use Rattle.sg_algebra.proofs.Value.{Value}
use Rattle.sg_spread.specs.Shifts.{Meets}
use Rattle.sg_relations.specs.declared.factors.Factor.{Factor}
use Rattle.sg_relations.specs.Factors.{IsMeeting}

default : {X : Type 0} (zs : List X) (k : ℕ) (d e : X) → k < length zs → get_or zs k d ≡ get_or zs k e
default [] k d e l = absurd (omega arith)
default (z ∷ zs) zero d e l = refl
default (z ∷ zs) (suc k) d e l = default zs k d e (omega arith)

pub meeting_at : {K : Type 0} {d : ℕ} (v : K → Value d) (cs : List (Factor K)) (w : List K) (j : ℕ) (m : ℤ) (f : Factor K) → j < length cs → Meets (map v w) (map v (get_or cs j f).base) m → IsMeeting v cs w j m
meeting_at {K} v cs w j m f l h = record { inside = l; met = λ x. subst (λ (y : Factor K). Meets (map v w) (map v y.base) m) (default cs j f x l) h }

unmet_next : {X : Type 0} (P : X → Type 0) (cs : List X) (j : ℕ) (f : X) → j < length cs → All P (take j cs) → P (get_or cs j f) → All P (take (suc j) cs)
unmet_next P [] j f l h k i y q = absurd (omega arith)
unmet_next P (x ∷ cs) zero f l h k zero y q = k
unmet_next P (x ∷ cs) zero f l h k (suc i) y q = absurd (omega arith)
unmet_next P (x ∷ cs) (suc j) f l h k zero y q = h 0 y (omega arith)
unmet_next P (x ∷ cs) (suc j) f l h k (suc i) y q = unmet_next P cs j f (omega arith) (λ n z r. h (suc n) z (omega arith)) k i y (omega arith)

pub unmet_more : {X : Type 0} (P : X → Type 0) (cs : List X) (j : ℕ) (f : X) → j < length cs → All P (take j cs) → P (get_or cs j f) → All P (take (j + 1) cs)
unmet_more P cs j f l h k = let q : j + 1 ≡ suc j = omega arith in rw q (unmet_next P cs j f l h k)

pub unmet_item : {X : Type 0} (P : X → Type 0) (cs : List X) (j : ℕ) (f : X) → j < length cs → f ≡ get_or cs j f → All P cs → P f
unmet_item P cs j f l e h = subst P (sym e) (h j f l)

pub some_first : {X : Type 0} (xs : List X) → false ≡ (length xs == 0) → 0 < length xs
some_first [] e = cc
some_first (x ∷ xs) e = omega arith

pub no_item : {X : Type 0} (xs : List X) (x : X) → true ≡ (length xs == 0) → Contains xs x → ⊥
no_item [] x e h = below h.0 h.1
  where
    below : (k : ℕ) → k < 0 → ⊥
    below k l = omega arith
no_item (y ∷ xs) x e h = absurd (grind arith)

pub no_items : {X : Type 0} (xs : List X) → true ≡ (length xs == 0) → xs ≡ []
no_items [] e = refl
no_items (x ∷ xs) e = absurd (grind arith)

pub first_item : {X : Type 0} (xs : List X) (x y : X) → 0 < length xs → x ≡ get_or xs 0 x → x ≡ get_or xs 0 y
first_item xs x y l e = e ∙ default xs 0 x y l
