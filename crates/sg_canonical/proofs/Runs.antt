-- Runs of terms with one power of a sum.
--   power-at          the power that stands at i
--   run-none, run-more, run-other    the recursion's cases
--   run-signed        the terms of a run, raised, and then those of the others
--   own-joined        where no sum is left
use Rattle.std.proofs.Common.{◌≡◌, ◌≢◌, ℕ, zero, suc, ◌+◌, ◌<◌, ◌==◌, Bool, true, false, cond, refl, sym, ap, ap₂, ◌∙◌, subst, List, [], ◌∷◌, ◌++◌, length, map, drop, take, slice_index_or, arith}
use Rattle.std.proofs.lemmas.Bool.{eqb-true, eqb-false}
use Rattle.std.proofs.Math.Seq.{drop-nil}
use Rattle.sg_spec.specs.Tree.{Tree}
use Rattle.sg_expr.specs.Tree.{tree_of}
use Rattle.sg_expr.specs.declared.tree.Expr.{Expr}
use Rattle.sg_spec.specs.Canonical.{Written, Signed, term_of, joined, first_power, later_powers, without, before_groups, groups, raised, signed_terms, plane_of}
use Rattle.sg_canonical.specs.declared.element.Part.{Part}
use Rattle.sg_canonical.specs.Parts.{part_at, own_terms, IsRun}
use Rattle.sg_canonical.specs.declared.signs.Signed.{Signed as Kept}
use Rattle.sg_canonical.specs.Signs.{signed_of}

pub power-at : (i : ℕ) (ps : List ℕ) (x : ℕ) → i < length ps → x ≡ slice_index_or ps i x → first_power (drop i ps) ≡ x
power-at i [] x h e = absurd (omega arith)
power-at zero (p ∷ ps) x h e = sym e
power-at (suc i) (p ∷ ps) x h e = power-at i ps x (omega arith) e

later-drop : (i : ℕ) (ps : List ℕ) → later_powers (drop i ps) ≡ drop (suc i) ps
later-drop i [] = ap later_powers (drop-nil {A = ℕ} i)
later-drop zero (p ∷ ps) = refl
later-drop (suc i) (p ∷ ps) = later-drop i ps

without-part : (i : ℕ) (p : Part) → without (part_at i p) ≡ part_at (suc i) p
without-part i p = ap (λ (l : List ℕ). record { powers = l; exponents = p.exponents; upper = plane_of p.quotient.upper; lower = plane_of p.quotient.lower }) (later-drop i p.powers)

group-first : (i e : ℕ) (p : Part) (ps : List Part) → first_power (drop i p.powers) ≡ e → groups (map (part_at i) (p ∷ ps)) ≡ before_groups e (part_at (suc i) p) (groups (map (part_at i) ps))
group-first i e p ps h = ap₂ (λ (n : ℕ) (t : Written). before_groups n t (groups (map (part_at i) ps))) h (without-part i p)

same-number : (e : ℕ) → (e == e) ≡ true
same-number e = cases (e == e) refl
  where
    cases : (b : Bool) → (e == e) ≡ b → (e == e) ≡ true
    cases true k = k
    cases false k = absurd (eqb-false e e k refl)

pub run-none : (i e : ℕ) (ps : List Part) → length ps ≡ 0 → IsRun i e ps 0
run-none i e [] h p k = group-first i e p [] k
run-none i e (q ∷ ps) h p k = absurd (omega arith)

run-longer : (i e n : ℕ) (q : Part) (ps : List Part) → first_power (drop i q.powers) ≡ e → IsRun i e ps n → IsRun i e (q ∷ ps) (suc n)
run-longer i e n q ps h r p k =
    group-first i e p (q ∷ ps) k
    ∙ ap (before_groups e (part_at (suc i) p)) (r q h)
    ∙ ap (λ (b : Bool). cond b ((e, part_at (suc i) p ∷ map (part_at (suc i)) (q ∷ take n ps)) ∷ groups (map (part_at i) (drop n ps)))
    ((e, part_at (suc i) p ∷ []) ∷ ((e, map (part_at (suc i)) (q ∷ take n ps)) ∷ groups (map (part_at i) (drop n ps))))) (same-number e)

pub run-more : (i e n m : ℕ) (q : Part) (ps parts : List Part) → parts ≡ q ∷ ps → m ≡ suc n → first_power (drop i q.powers) ≡ e → IsRun i e ps n → IsRun i e parts m
run-more i e n m q ps parts hp hm h r = subst (λ (m : ℕ). IsRun i e parts m) (sym hm) (subst (λ (l : List Part). IsRun i e l (suc n)) (sym hp) (run-longer i e n q ps h r))

-- a group of another power stays apart
apart : (e f : ℕ) (t u : Written) (gs : List (ℕ × List Written)) → (e == f) ≡ false → before_groups e t (before_groups f u gs) ≡ (e, t ∷ []) ∷ before_groups f u gs
apart e f t u [] h = ap (λ (b : Bool). cond b ((f, t ∷ (u ∷ [])) ∷ []) ((e, t ∷ []) ∷ ((f, u ∷ []) ∷ []))) h
apart e f t u (g ∷ gs) h = cases (f == g.0) refl
  where
    cases : (b : Bool) → (f == g.0) ≡ b → before_groups e t (before_groups f u (g ∷ gs)) ≡ (e, t ∷ []) ∷ before_groups f u (g ∷ gs)
    cases true k =
        let inner : before_groups f u (g ∷ gs) ≡ (g.0, u ∷ g.1) ∷ gs = ap (λ (b : Bool). cond b ((g.0, u ∷ g.1) ∷ gs) ((f, u ∷ []) ∷ (g ∷ gs))) k in
        ap (before_groups e t) inner
        ∙ ap (λ (b : Bool). cond b ((g.0, t ∷ (u ∷ g.1)) ∷ gs) ((e, t ∷ []) ∷ ((g.0, u ∷ g.1) ∷ gs))) (subst (λ (n : ℕ). (e == n) ≡ false) (eqb-true f g.0 k) h)
        ∙ ap (λ (l : List (ℕ × List Written)). (e, t ∷ []) ∷ l) (sym inner)
    cases false k =
        let inner : before_groups f u (g ∷ gs) ≡ (f, u ∷ []) ∷ (g ∷ gs) = ap (λ (b : Bool). cond b ((g.0, u ∷ g.1) ∷ gs) ((f, u ∷ []) ∷ (g ∷ gs))) k in
        ap (before_groups e t) inner
        ∙ ap (λ (b : Bool). cond b ((f, t ∷ (u ∷ [])) ∷ (g ∷ gs)) ((e, t ∷ []) ∷ ((f, u ∷ []) ∷ (g ∷ gs)))) h
        ∙ ap (λ (l : List (ℕ × List Written)). (e, t ∷ []) ∷ l) (sym inner)

other-number : (e f : ℕ) → f ≢ e → (e == f) ≡ false
other-number e f h = cases (e == f) refl
  where
    cases : (b : Bool) → (e == f) ≡ b → (e == f) ≡ false
    cases true k = absurd (h (sym (eqb-true e f k)))
    cases false k = k

pub run-other : (i e : ℕ) (q : Part) (ps : List Part) → first_power (drop i q.powers) ≢ e → IsRun i e (q ∷ ps) 0
run-other i e q ps h p k =
    group-first i e p (q ∷ ps) k ∙ apart e (first_power (drop i q.powers)) (part_at (suc i) p) (without (part_at i q)) (groups (map (part_at i) ps)) (other-number e (first_power (drop i q.powers)) h)

pub run-signed : (qs : List Tree) (i e n : ℕ) (p : Part) (rest : List Part) (s : Tree) (ss : List Tree) → first_power (drop i p.powers) ≡ e → IsRun i e rest n
    → signed_terms qs (s ∷ ss) (map (part_at i) (p ∷ rest)) ≡ raised s e (signed_terms qs ss (map (part_at (suc i)) (take (suc n) (p ∷ rest)))) ++ signed_terms qs (s ∷ ss) (map (part_at i) (drop (suc n) (p ∷ rest)))
run-signed qs i e n p rest s ss h r = ap (joined (λ (g : ℕ × List Written). raised s g.0 (signed_terms qs ss g.1))) (r p h)

append-assoc : (a b c : List Signed) → (a ++ b) ++ c ≡ a ++ (b ++ c)
append-assoc [] b c = refl
append-assoc (x ∷ a) b c = ap (λ (l : List Signed). x ∷ l) (append-assoc a b c)

pub own-joined : (qs : List Tree) (i : ℕ) (ps : List Part) → joined (own_terms qs) ps ≡ signed_terms qs [] (map (part_at i) ps)
own-joined qs i [] = refl
own-joined qs i (p ∷ ps) = ap (λ (l : List Signed). own_terms qs p ++ l) (own-joined qs i ps)

pub own-signed : (qs : List Tree) (sums : List Expr) (i : ℕ) (ps : List Part) → length sums ≡ 0 → joined (own_terms qs) ps ≡ signed_terms qs (map tree_of sums) (map (part_at i) ps)
own-signed qs [] i ps h = own-joined qs i ps
own-signed qs (s ∷ sums) i ps h = absurd (omega arith)

pub push-step : (qs : List Tree) (sums below : List Expr) (s : Expr) (parts rest head tail : List Part) (p : Part) (i j e n m : ℕ) (start : List Kept) (old mid inner : List Signed)
    → sums ≡ s ∷ below → parts ≡ p ∷ rest → first_power (drop i p.powers) ≡ e → IsRun i e rest n → m ≡ suc n → j ≡ suc i → head ≡ take m parts → tail ≡ drop m parts
    → start ≡ [] → inner ≡ map signed_of start ++ signed_terms qs (map tree_of below) (map (part_at j) head) → mid ≡ old ++ raised (tree_of s) e inner
    → mid ++ signed_terms qs (map tree_of sums) (map (part_at i) tail) ≡ old ++ signed_terms qs (map tree_of sums) (map (part_at i) parts)
push-step qs sums below s parts rest head tail p i j e n m start old mid inner hs hp h r hm hj hh ht hn hi hd =
    let tail-is : tail ≡ drop n rest = ht ∙ ap₂ (λ (a : ℕ) (l : List Part). drop a l) hm hp in
    let head-is : head ≡ p ∷ take n rest = hh ∙ ap₂ (λ (a : ℕ) (l : List Part). take a l) hm hp in
    let inner-is : inner ≡ signed_terms qs (map tree_of below) (map (part_at (suc i)) (p ∷ take n rest)) =
    hi ∙ ap (λ (l : List Kept). map signed_of l ++ signed_terms qs (map tree_of below) (map (part_at j) head)) hn
    ∙ ap₂ (λ (a : ℕ) (l : List Part). signed_terms qs (map tree_of below) (map (part_at a) l)) hj head-is in
    let sums-is : map tree_of sums ≡ tree_of s ∷ map tree_of below = ap (map tree_of) hs in
    ap₂ (λ (a b : List Signed). a ++ b) (hd ∙ ap (λ (l : List Signed). old ++ raised (tree_of s) e l) inner-is) (ap₂ (λ (ts : List Tree) (l : List Part). signed_terms qs ts (map (part_at i) l)) sums-is tail-is)
    ∙ append-assoc old (raised (tree_of s) e (signed_terms qs (map tree_of below) (map (part_at (suc i)) (p ∷ take n rest)))) (signed_terms qs (map tree_of (s ∷ below)) (map (part_at i) (drop n rest)))
    ∙ ap (λ (l : List Signed). old ++ l) (sym (run-signed qs i e n p rest (tree_of s) (map tree_of below) h r))
    ∙ ap (λ (l : List Signed). old ++ l) (sym (ap₂ (λ (ts : List Tree) (l : List Part). signed_terms qs ts (map (part_at i) l)) sums-is hp))

pub size-first : (i : ℕ) (parts rest : List Part) (p : Part) → parts ≡ p ∷ rest → ((k : ℕ) (d : Part) → k < length parts → i < length (slice_index_or parts k d).powers) → i < length p.powers
size-first i parts rest p e sized = subst (λ (l : List Part). (k : ℕ) (d : Part) → k < length l → i < length (slice_index_or l k d).powers) e sized 0 p (omega arith)

pub part-sized : (i : ℕ) (sums below : List Expr) (s : Expr) (parts rest : List Part) (p : Part) → sums ≡ s ∷ below → parts ≡ p ∷ rest
    → ((k : ℕ) (d : Part) → k < length parts → i + length sums ≡ length (slice_index_or parts k d).powers)
    → (k : ℕ) (d : Part) → k < length (p ∷ rest) → i < length (slice_index_or (p ∷ rest) k d).powers
part-sized i sums below s parts rest p hs hp sized k d h =
    let is : i + length (s ∷ below) ≡ length (slice_index_or (p ∷ rest) k d).powers =
    subst (λ (l : List Part). (k : ℕ) (d : Part) → k < length l → i + length (s ∷ below) ≡ length (slice_index_or l k d).powers) hp
    (subst (λ (l : List Expr). (k : ℕ) (d : Part) → k < length parts → i + length l ≡ length (slice_index_or parts k d).powers) hs sized) k d h in
    omega (arith, is)
