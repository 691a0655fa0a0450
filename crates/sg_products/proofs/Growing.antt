-- Lists of exponents that grow.
--   has_at, has_pushed, has_grown     a list that is among them
--   grows_none, grows_pushed, grows_both    as they were, one more, and on from there
use Rattle.std.proofs.Common.{◌≡◌, ℕ, zero, suc, ◌+◌, ◌<◌, refl, sym, ap, ◌∙◌, subst, List, [], ◌∷◌, ◌++◌, length, get_or, inl, inr, ℤ, append_assoc, arith}
use Rattle.std.proofs.lemmas.List.{append-nil}
use Rattle.sg_products.specs.Supports.{Has, Grows}

pub has_grown : (e : List ℤ) (es fs : List (List ℤ)) → Has e es → Grows es fs → Has e fs
has_grown e es fs h g = subst (λ (z : List (List ℤ)). Has e z) (sym g.are) (go es h)
  where
    go : (es : List (List ℤ)) → Has e es → Has e (es ++ g.more)
    go [] h = absurd h
    go (x ∷ es) (inl q) = inl q
    go (x ∷ es) (inr q) = inr (go es q)

pub has_at : (es : List (List ℤ)) (i : ℕ) (x e : List ℤ) → i < length es → x ≡ get_or es i x → x ≡ e → Has e es
has_at [] i x e l a q = absurd (omega arith)
has_at (y ∷ es) zero x e l a q = inl (sym a ∙ q)
has_at (y ∷ es) (suc i) x e l a q = inr (has_at es i x e (omega arith) a q)

pub has_pushed : (es : List (List ℤ)) (e : List ℤ) (new : List (List ℤ)) (x : List ℤ) → new ≡ es ++ x ∷ [] → x ≡ e → Has e new
has_pushed es e new x n q = subst (λ (z : List (List ℤ)). Has e z) (sym n) (go es)
  where
    go : (es : List (List ℤ)) → Has e (es ++ x ∷ [])
    go [] = inl q
    go (y ∷ es) = inr (go es)

pub grows_none : (es fs : List (List ℤ)) → fs ≡ es → Grows es fs
grows_none es fs q = record { more = []; are = q ∙ sym (append-nil es) }

pub grows_pushed : (es new : List (List ℤ)) (x : List ℤ) → new ≡ es ++ x ∷ [] → Grows es new
grows_pushed es new x n = record { more = x ∷ []; are = n }

pub grows_both : (es fs gs : List (List ℤ)) → Grows es fs → Grows fs gs → Grows es gs
grows_both es fs gs g h = record { more = g.more ++ h.more; are = h.are ∙ ap (λ z. z ++ h.more) g.are ∙ append_assoc es g.more h.more }
