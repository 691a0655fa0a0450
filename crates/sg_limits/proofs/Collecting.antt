-- Divisors, part after part.
--   of_role-append         the parts of a role in two lists
--   pairs_append           two lists, each with its divisors, one after the other
--   none_collected         no parts
--   skipped                a part of another role
--   pushed_part, heavy_part, pushed_result     a part of this role
--   at_zero, above_zero, leaf_parts     the parts of a power, and of a tree without operations
--   chain, stop, named     two walks one after the other; a walk that stops; the same parts named in another way
use Rattle.std.proofs.Common.{◌≡◌, ◌≢◌, ℕ, zero, suc, refl, sym, ap, subst, ◌∙◌, ℤ, List, [], ◌∷◌, ◌++◌, Bool, true, false, cond, Result, Ok, Err, IfOk, IfErr, ◌⊎◌, inl, inr}
use Rattle.std.proofs.lemmas.List.{append_assoc, append-nil}
use Rattle.sg_spec.specs.Tree.{Tree, power}
use Rattle.sg_spec.specs.Parts.{Part, anywhere, divides, is_body, own_part, parts, IsHeavy}
use Rattle.sg_spec.specs.Parts.{Role as Standing}
use Rattle.sg_spec.specs.Faults.{Among}
use Rattle.sg_num.specs.Stopped.{IsMemory}
use Rattle.sg_num.specs.declared.step.Stop.{Stop}
use Rattle.sg_num.specs.declared.step.Stop.TheVariants.{Memory, Wide}
use Rattle.sg_expr.specs.Tree.{tree_of}
use Rattle.sg_expr.specs.declared.tree.Expr.{Expr}
use Rattle.sg_expr.specs.declared.tree.Expr.TheVariants.{Num, Here, Param}
use Rattle.sg_parts.specs.Weights.{StopsHeavy}
use Rattle.sg_limits.specs.declared.divisors.Divisor.{Divisor}
use Rattle.sg_limits.specs.Divisors.{same_role, of_role, AreDivisors, StopsAmong, IsPushed, AreCollected}

of_role-append : (r : Standing) (ps qs : List Part) → of_role r (ps ++ qs) ≡ of_role r ps ++ of_role r qs
of_role-append r [] qs = refl
of_role-append r (p ∷ ps) qs = ap (λ l. cond (same_role r p.role) (p ∷ l) l) (of_role-append r ps qs) ∙ moved (same_role r p.role)
  where
    moved : (b : Bool) → cond b (p ∷ (of_role r ps ++ of_role r qs)) (of_role r ps ++ of_role r qs) ≡ cond b (p ∷ of_role r ps) (of_role r ps) ++ of_role r qs
    moved true = refl
    moved false = refl

pairs_append : (ps qs : List Part) (ds es : List Divisor) → AreDivisors ps ds → AreDivisors qs es → AreDivisors (ps ++ qs) (ds ++ es)
pairs_append [] qs [] es h k = k
pairs_append [] qs (d ∷ ds) es h k = absurd h
pairs_append (p ∷ ps) qs [] es h k = absurd h
pairs_append (p ∷ ps) qs (d ∷ ds) es h k = (h.0, pairs_append ps qs ds es h.1 k)

among_left : (xs ys : List Part) → Among IsHeavy xs → Among IsHeavy (xs ++ ys)
among_left xs ys f = record {
  before = f.before;
  element = f.element;
  after = f.after ++ ys;
  split = ap (λ l. l ++ ys) f.split ∙ append_assoc f.before (f.element ∷ f.after) ys;
  holds = f.holds;
}

among_right : (xs ys : List Part) → Among IsHeavy ys → Among IsHeavy (xs ++ ys)
among_right xs ys f = record {
  before = xs ++ f.before;
  element = f.element;
  after = f.after;
  split = ap (λ l. xs ++ l) f.split ∙ sym (append_assoc xs f.before (f.element ∷ f.after));
  holds = f.holds;
}

stops_left : (s : Stop) (xs ys : List Part) → StopsAmong s xs → StopsAmong s (xs ++ ys)
stops_left (Memory e) xs ys h = tt
stops_left (Wide w) xs ys h = (h.0, among_left xs ys h.1)

stops_right : (s : Stop) (xs ys : List Part) → StopsAmong s ys → StopsAmong s (xs ++ ys)
stops_right (Memory e) xs ys h = tt
stops_right (Wide w) xs ys h = (h.0, among_right xs ys h.1)

module _ (r : Standing) where
  pub none_collected : (list : List Divisor) → AreCollected r [] list (Ok list)
  none_collected list = record { parts = λ front h. subst (λ ps. AreDivisors (of_role r ps) list) (sym (append-nil front)) h; stop = tt }

  pub skipped : (p : Part) (list : List Divisor) → same_role r p.role ≡ false → AreCollected r (p ∷ []) list (Ok list)
  skipped p list e = record {
    parts = λ front h. subst (λ ps. AreDivisors ps list) (sym (of_role-append r front (p ∷ []) ∙ ap (λ b. of_role r front ++ cond b (p ∷ []) []) e ∙ append-nil (of_role r front))) h;
    stop = tt;
  }

  pub pushed_part : (p : Part) (list new : List Divisor) → same_role r p.role ≡ true → IsPushed p.tree p.limit list new → AreCollected r (p ∷ []) list (Ok new)
  pushed_part p list new e (d, is, normal, limit) = record {
    parts = λ front h. subst (λ ds. AreDivisors (of_role r (front ++ p ∷ [])) ds) (sym is)
        (subst (λ ps. AreDivisors ps (list ++ d ∷ [])) (sym (of_role-append r front (p ∷ []) ∙ ap (λ b. of_role r front ++ cond b (p ∷ []) []) e))
        (pairs_append (of_role r front) (p ∷ []) list (d ∷ []) h (record { normal = normal; limit_is = limit }, tt)));
    stop = tt;
  }

  pub heavy_part : (p : Part) (list : List Divisor) (s : Stop) → same_role r p.role ≡ true → StopsHeavy s p.tree → AreCollected r (p ∷ []) list (Err s)
  heavy_part p list s e h = record { parts = λ front k. tt; stop = subst (StopsAmong s) (ap (λ b. cond b (p ∷ []) []) (sym e)) (alone s h) }
    where
      alone : (s : Stop) → StopsHeavy s p.tree → StopsAmong s (p ∷ [])
      alone (Memory e) h = tt
      alone (Wide w) h = (h.0, record { before = []; element = p; after = []; split = refl; holds = h.1 })

  pub pushed_result : (p : Part) (list : List Divisor) (result : Result (List Divisor) Stop) → same_role r p.role ≡ true → IfOk result (λ new. IsPushed p.tree p.limit list new) → IfErr result (λ s. StopsHeavy s p.tree) → AreCollected r (p ∷ []) list result
  pushed_result p list (Ok new) e ok stop = pushed_part p list new e ok
  pushed_result p list (Err s) e ok stop = heavy_part p list s e stop

  pub chain : (xs ys : List Part) (list middle : List Divisor) (result : Result (List Divisor) Stop) → AreCollected r xs list (Ok middle) → AreCollected r ys middle result → AreCollected r (xs ++ ys) list result
  chain xs ys list middle (Ok ds) x y = record { parts = λ front h. subst (λ ps. AreDivisors (of_role r ps) ds) (append_assoc front xs ys) (y.parts (front ++ xs) (x.parts front h)); stop = tt }
  chain xs ys list middle (Err s) x y = record { parts = λ front h. tt; stop = subst (StopsAmong s) (sym (of_role-append r xs ys)) (stops_right s (of_role r xs) (of_role r ys) y.stop) }

  pub stop : (xs ys : List Part) (list : List Divisor) (s : Stop) → AreCollected r xs list (Err s) → AreCollected r (xs ++ ys) list (Err s)
  stop xs ys list s x = record { parts = λ front h. tt; stop = subst (StopsAmong s) (sym (of_role-append r xs ys)) (stops_left s (of_role r xs) (of_role r ys) x.stop) }

  pub named : (ps qs : List Part) (list : List Divisor) (result : Result (List Divisor) Stop) → ps ≡ qs → AreCollected r ps list result → AreCollected r qs list result
  named ps qs list result e h = subst (λ ps. AreCollected r ps list result) e h

pub own_parts : (r : Standing) (l : ℤ) (depth : ℕ) (t : Tree) (inner : List Part) → own_part r l depth t [] ++ inner ≡ own_part r l depth t inner
own_parts anywhere l depth t inner = refl
own_parts divides l depth t inner = refl
own_parts is_body l depth t inner = refl

pub at_zero : (r : Standing) (l : ℤ) (depth e : ℕ) (x : Tree) → e ≡ 0 → parts anywhere l depth x ≡ parts r l depth (power x e)
at_zero r l depth e x h = ap (λ e. parts r l depth (power x e)) (sym h)

pub above_zero : (r : Standing) (l : ℤ) (depth e : ℕ) (x : Tree) → e ≢ 0 → parts r l depth x ≡ parts r l depth (power x e)
above_zero r l depth zero x h = absurd (h refl)
above_zero r l depth (suc e) x h = refl

pub leaf_parts : (r : Standing) (l : ℤ) (depth : ℕ) (e : Expr) → ((x : ℤ) × (e ≡ Num x)) ⊎ ((e ≡ Here) ⊎ (e ≡ Param)) → own_part r l depth (tree_of e) [] ≡ parts r l depth (tree_of e)
leaf_parts r l depth e (inl (x, is)) = subst (λ e. own_part r l depth (tree_of e) [] ≡ parts r l depth (tree_of e)) (sym is) refl
leaf_parts r l depth e (inr (inl is)) = subst (λ e. own_part r l depth (tree_of e) [] ≡ parts r l depth (tree_of e)) (sym is) refl
leaf_parts r l depth e (inr (inr is)) = subst (λ e. own_part r l depth (tree_of e) [] ≡ parts r l depth (tree_of e)) (sym is) refl

pub memory_stops : (s : Stop) (t : Tree) → IsMemory s → StopsHeavy s t
memory_stops (Memory e) t h = tt
memory_stops (Wide w) t h = absurd h
