-- The parts of all expressions, one after another.
--   fits_bare, walkable       the parts of a tree in form are bare
--   each_at, keeps_at         what holds of each expression holds of one
--   next_parts, split_parts   the parts of the first expressions and one more; those of an expression among all
--   all_parts                 past the last one all were gone over
--   next_start, last_start    the start, expression by expression
--   pole_found, factor_found, none_found    what is told at the end
use Rattle.std.proofs.Common.{◌≡◌, ℕ, zero, suc, ◌+◌, ◌<◌, ◌≤◌, refl, sym, ap, ap₂, subst, ◌∙◌, Bool, true, false, cond, ℤ, List, [], ◌∷◌, ◌++◌, length, map, take, drop, get_or, Option, Some, None, add-zero, arith}
use Rattle.std.proofs.lemmas.List.{append_assoc, append-nil, at_drop_more, at_drop_all}
use Rattle.std.proofs.lemmas.Bool.Decides.{leb_tells}
use Rattle.sg_algebra.specs.Coefficients.{Each}
use Rattle.sg_spec.specs.Tree.{Tree, numeral, here, param, add, neg, mul, div, power, sum_from, prod_from}
use Rattle.sg_spec.specs.Printing.{InForm}
use Rattle.sg_spec.specs.Shape.{is_polynomial_tree, is_divisor_tree}
use Rattle.sg_spec.specs.Generators.{start, start_of}
use Rattle.sg_spec.specs.Limits.{nodes, keeps_nodes, first_from}
use Rattle.sg_spec.specs.Parts.{anywhere, divides, is_body, parts}
use Rattle.sg_spec.specs.Parts.{Role as Standing}
use Rattle.sg_spec.specs.Faults.{Numbered, with_item, parts_from, IsFarNumbered, NoneFar, AreSpared}
use Rattle.sg_expr.specs.Tree.{tree_of}
use Rattle.sg_expr.specs.declared.tree.Expr.{Expr}
use Rattle.sg_num.specs.declared.step.Stop.TheVariants.{Memory, Wide}
use Rattle.sg_limits.specs.declared.fault.LimitFault.{LimitFault}
use Rattle.sg_limits.specs.declared.fault.LimitFault.TheVariants.{Nodes, Degree, Sums, Products, FarPole, Pole, ZeroFactor, Stop}
use Rattle.sg_limits.specs.declared.walk.Place.{Place}
use Rattle.sg_limits.specs.declared.walk.Found.{Found}
use Rattle.sg_limits.specs.declared.walk.Findings.{Findings}
use Rattle.sg_limits.specs.Walks.{items_of, IsBare, IsFitting, IsWalkable, AreFound, IsWalkFault, IsRefusal}
use Rattle.sg_limits.proofs.Walking.{fault_left, fault_right}
use Rattle.sg_limits.proofs.Elementary.{each_append, not_true, not_so, both_true}

-- ---- In form

pub fits_bare : (r : Standing) (t : Tree) → IsBare t → IsFitting r t
fits_bare anywhere t h = tt
fits_bare divides t h = h
fits_bare is_body t h = h

body_bare : (known : Bool) (t : Tree) → InForm known true t → IsBare t
body_bare known (numeral c) h = h
body_bare known here h = tt
body_bare known param h = tt
body_bare known (add x y) h = (body_bare known x h.0, body_bare known y h.1)
body_bare known (neg x) h = body_bare known x h
body_bare known (mul x y) h = (body_bare known x h.0, body_bare known y h.1)
body_bare known (div x y) h = (body_bare known x h.0, body_bare known y h.1)
body_bare known (power x e) h = body_bare known x h
body_bare known (sum_from from body) h = absurd (not_so h.0)
body_bare known (prod_from from body) h = absurd (not_so h.0)

polynomial_bare : (known inside : Bool) (t : Tree) → InForm known inside t → is_polynomial_tree t ≡ true → IsBare t
polynomial_bare known inside (numeral c) f h = f
polynomial_bare known inside here f h = tt
polynomial_bare known inside param f h = tt
polynomial_bare known inside (add x y) f h = let (l, r) = both_true (is_polynomial_tree x) (is_polynomial_tree y) h in (polynomial_bare known inside x f.0 l, polynomial_bare known inside y f.1 r)
polynomial_bare known inside (neg x) f h = polynomial_bare known inside x f h
polynomial_bare known inside (mul x y) f h = let (l, r) = both_true (is_polynomial_tree x) (is_polynomial_tree y) h in (polynomial_bare known inside x f.0 l, polynomial_bare known inside y f.1 r)
polynomial_bare known inside (div x y) f h = absurd (not_true h)
polynomial_bare known inside (power x e) f h = polynomial_bare known inside x f h
polynomial_bare known inside (sum_from from body) f h = absurd (not_true h)
polynomial_bare known inside (prod_from from body) f h = absurd (not_true h)

abbrev Stands : Standing → Bool → Tree → Type 0
Stands anywhere inside t = Unit {0}
Stands divides inside t = is_divisor_tree t ≡ true
Stands is_body inside t = inside ≡ true

fits_sum : (known inside : Bool) (r : Standing) (x y : Tree) → InForm known inside x × InForm known inside y → Stands r inside (add x y) → IsFitting r (add x y)
fits_sum known inside anywhere x y f s = tt
fits_sum known inside divides x y f s = polynomial_bare known inside (add x y) f s
fits_sum known inside is_body x y f s = body_bare known (add x y) (subst (λ i. InForm known i x × InForm known i y) s f)

stands_neg : (r : Standing) (inside : Bool) (x : Tree) → Stands r inside (neg x) → Stands r inside x
stands_neg anywhere inside x s = tt
stands_neg divides inside x s = s
stands_neg is_body inside x s = s

stands_power : (r : Standing) (inside : Bool) (x : Tree) (e : ℕ) → Stands r inside (power x e) → Stands r inside x
stands_power anywhere inside x e s = tt
stands_power divides inside x e s = s
stands_power is_body inside x e s = s

stands_left : (r : Standing) (inside : Bool) (x y : Tree) → Stands r inside (mul x y) → Stands r inside x
stands_left anywhere inside x y s = tt
stands_left divides inside x y s = (both_true (is_divisor_tree x) (is_divisor_tree y) s).0
stands_left is_body inside x y s = s

stands_right : (r : Standing) (inside : Bool) (x y : Tree) → Stands r inside (mul x y) → Stands r inside y
stands_right anywhere inside x y s = tt
stands_right divides inside x y s = (both_true (is_divisor_tree x) (is_divisor_tree y) s).1
stands_right is_body inside x y s = s

stands_over : (r : Standing) (inside : Bool) (x y : Tree) → Stands r inside (div x y) → Stands r inside x
stands_over anywhere inside x y s = tt
stands_over divides inside x y s = absurd (not_true s)
stands_over is_body inside x y s = s

walkable_as : (known inside : Bool) (r : Standing) (t : Tree) → InForm known inside t → Stands r inside t → IsWalkable r t
walkable_as known inside r (numeral c) f s = fits_bare r (numeral c) f
walkable_as known inside r here f s = fits_bare r here tt
walkable_as known inside r param f s = fits_bare r param tt
walkable_as known inside r (add x y) f s = (fits_sum known inside r x y f s, walkable_as known inside anywhere x f.0 tt, walkable_as known inside anywhere y f.1 tt)
walkable_as known inside r (neg x) f s = walkable_as known inside r x f (stands_neg r inside x s)
walkable_as known inside r (mul x y) f s = (walkable_as known inside r x f.0 (stands_left r inside x y s), walkable_as known inside r y f.1 (stands_right r inside x y s))
walkable_as known inside r (div x y) f s = (walkable_as known inside r x f.0 (stands_over r inside x y s), walkable_as known inside divides y f.1 f.2)
walkable_as known inside r (power x e) f s = (walkable_as known inside anywhere x f tt, walkable_as known inside r x f (stands_power r inside x e s))
walkable_as known inside r (sum_from from body) f s = walkable_as known false anywhere body f.2 tt
walkable_as known inside r (prod_from from body) f s = walkable_as known true is_body body f.2 refl

pub walkable : (t : Tree) → InForm true false t → IsWalkable anywhere t
walkable t f = walkable_as true false anywhere t f tt

-- ---- One expression among all

pub each_at : (P : Tree → Type 0) (es : List Expr) (i : ℕ) (e : Expr) → i < length es → e ≡ get_or es i e → Each P (map tree_of es) → P (tree_of e)
each_at P [] i e h is k = absurd (omega arith)
each_at P (x ∷ es) zero e h is k = subst (λ e. P (tree_of e)) (sym is) k.0
each_at P (x ∷ es) (suc i) e h is k = each_at P es i e (omega arith) is k.1

cond_none : (b : Bool) (n : ℕ) (rest : Option ℕ) → cond b rest (Some n) ≡ None → (b ≡ true) × (rest ≡ None)
cond_none true n rest e = (refl, e)
cond_none false n rest e = cc

keeps_from : (n : ℕ) (es : List Expr) (i : ℕ) (e : Expr) → i < length es → e ≡ get_or es i e → first_from n keeps_nodes (map tree_of es) ≡ None → keeps_nodes (tree_of e) ≡ true
keeps_from n [] i e h is k = absurd (omega arith)
keeps_from n (x ∷ es) zero e h is k = ap (λ e. keeps_nodes (tree_of e)) is ∙ (cond_none (keeps_nodes (tree_of x)) n (first_from (n + 1) keeps_nodes (map tree_of es)) k).0
keeps_from n (x ∷ es) (suc i) e h is k = keeps_from (n + 1) es i e (omega arith) is (cond_none (keeps_nodes (tree_of x)) n (first_from (n + 1) keeps_nodes (map tree_of es)) k).1

pub small_at : (es : List Expr) (i : ℕ) (e : Expr) → i < length es → e ≡ get_or es i e → first_from 1 keeps_nodes (map tree_of es) ≡ None → nodes (tree_of e) ≤ 2000
small_at es i e h is k = grind (arith, leb_tells (nodes (tree_of e)) 2000, keeps_from 1 es i e h is k)

-- ---- The parts of the first expressions

pub next_parts : (n : ℕ) (a : ℤ) (es : List Expr) (i : ℕ) (e : Expr) → i < length es → e ≡ get_or es i e
    → parts_from n a (map tree_of (take (suc i) es)) ≡ parts_from n a (map tree_of (take i es)) ++ with_item (n + i) (parts anywhere a 0 (tree_of e))
next_parts n a [] i e h is = absurd (omega arith)
next_parts n a (x ∷ es) zero e h is = append-nil (with_item n (parts anywhere a 0 (tree_of x))) ∙ ap₂ (λ m (e : Expr). with_item m (parts anywhere a 0 (tree_of e))) (sym (add-zero n)) (sym is)
next_parts n a (x ∷ es) (suc i) e h is =
    let first = with_item n (parts anywhere a 0 (tree_of x)) in
    ap (λ l. first ++ l) (next_parts (n + 1) a es i e (omega arith) is ∙ ap (λ m. parts_from (n + 1) a (map tree_of (take i es)) ++ with_item m (parts anywhere a 0 (tree_of e))) count)
    ∙ sym (append_assoc first (parts_from (n + 1) a (map tree_of (take i es))) (with_item (n + suc i) (parts anywhere a 0 (tree_of e))))
  where
    count : n + 1 + i ≡ n + suc i
    count = omega arith

pub split_parts : (n : ℕ) (a : ℤ) (es : List Expr) (i : ℕ) (e : Expr) → i < length es → e ≡ get_or es i e
    → (rest : List Numbered) × (parts_from n a (map tree_of es) ≡ parts_from n a (map tree_of (take i es)) ++ (with_item (n + i) (parts anywhere a 0 (tree_of e)) ++ rest))
split_parts n a [] i e h is = absurd (omega arith)
split_parts n a (x ∷ es) zero e h is =
    (parts_from (n + 1) a (map tree_of es), ap₂ (λ m (e : Expr). with_item m (parts anywhere a 0 (tree_of e)) ++ parts_from (n + 1) a (map tree_of es)) (sym (add-zero n)) (sym is))
split_parts n a (x ∷ es) (suc i) e h is =
    let first = with_item n (parts anywhere a 0 (tree_of x)) in
    let (rest, split) = split_parts (n + 1) a es i e (omega arith) is in (
      rest,
      ap (λ l. first ++ l) (split ∙ ap (λ m. parts_from (n + 1) a (map tree_of (take i es)) ++ (with_item m (parts anywhere a 0 (tree_of e)) ++ rest)) count)
          ∙ sym (append_assoc first (parts_from (n + 1) a (map tree_of (take i es))) (with_item (n + suc i) (parts anywhere a 0 (tree_of e)) ++ rest)),
    )
  where
    count : n + 1 + i ≡ n + suc i
    count = omega arith

take_all : (es : List Expr) (i : ℕ) → length es ≤ i → take i es ≡ es
take_all [] zero h = refl
take_all [] (suc i) h = refl
take_all (x ∷ es) zero h = absurd (omega arith)
take_all (x ∷ es) (suc i) h = ap (λ l. x ∷ l) (take_all es i (omega arith))

pub all_parts : (a : ℤ) (es : List Expr) (i : ℕ) → length es ≤ i → parts_from 1 a (map tree_of (take i es)) ≡ parts_from 1 a (map tree_of es)
all_parts a es i h = ap (λ es. parts_from 1 a (map tree_of es)) (take_all es i h)

module _ (a : ℤ) (es : List Expr) (i : ℕ) (e : Expr) (place : Place) (h : i < length es) (is : e ≡ get_or es i e) (at : place ≡ record { item = 1 + i; limit = a; depth = 0 }) where
  same_items : items_of place anywhere (tree_of e) ≡ with_item (1 + i) (parts anywhere a 0 (tree_of e))
  same_items = ap (λ (p : Place). items_of p anywhere (tree_of e)) at

  pub walked_near : (j : ℕ) → j ≡ suc i → NoneFar (parts_from 1 a (map tree_of (take i es))) → NoneFar (items_of place anywhere (tree_of e)) → NoneFar (parts_from 1 a (map tree_of (take j es)))
  walked_near j n before now =
      subst NoneFar (ap (λ j. parts_from 1 a (map tree_of (take j es))) (sym n))
      (subst NoneFar (sym (next_parts 1 a es i e h is)) (each_append (λ x. IsFarNumbered x → ⊥) (parts_from 1 a (map tree_of (take i es))) (with_item (1 + i) (parts anywhere a 0 (tree_of e))) before (subst NoneFar same_items now)))

  pub walked_found : (j : ℕ) (f g : Findings) → j ≡ suc i → AreFound (parts_from 1 a (map tree_of (take i es))) f → ((front : List Numbered) → AreFound front f → AreFound (front ++ items_of place anywhere (tree_of e)) g) → AreFound (parts_from 1 a (map tree_of (take j es))) g
  walked_found j f g n before step =
      subst (λ xs. AreFound xs g) (ap (λ j. parts_from 1 a (map tree_of (take j es))) (sym n))
      (subst (λ xs. AreFound xs g) (sym (next_parts 1 a es i e h is))
      (subst (λ ys. AreFound (parts_from 1 a (map tree_of (take i es)) ++ ys) g) same_items (step (parts_from 1 a (map tree_of (take i es))) before)))

  pub walked_fault : (f : LimitFault) → NoneFar (parts_from 1 a (map tree_of (take i es))) → IsWalkFault f (items_of place anywhere (tree_of e)) → IsWalkFault f (parts_from 1 a (map tree_of es))
  walked_fault f near w =
      let (rest, split) = split_parts 1 a es i e h is in
      subst (IsWalkFault f) (sym split)
      (fault_right f (parts_from 1 a (map tree_of (take i es))) (with_item (1 + i) (parts anywhere a 0 (tree_of e)) ++ rest) near
      (fault_left f (with_item (1 + i) (parts anywhere a 0 (tree_of e))) rest (subst (IsWalkFault f) same_items w)))

pub nothing_found : AreFound [] (record { pole = None; factor = None })
nothing_found = record { pole = tt; factor = tt }

-- ---- What is told

pub walk_refusal : (f : LimitFault) (xs : List Numbered) → IsWalkFault f xs → IsRefusal f xs
walk_refusal (Nodes item) xs h = h
walk_refusal (Degree item) xs h = h
walk_refusal Sums xs h = h
walk_refusal Products xs h = h
walk_refusal (FarPole item part depth) xs h = record { element = h.element; is = h.first; shown = h.shown }
walk_refusal (Pole item at part depth) xs h = absurd h
walk_refusal (ZeroFactor item at part depth) xs h = absurd h
walk_refusal (Stop (Memory e)) xs h = tt
walk_refusal (Stop (Wide w)) xs h = h

pub pole_found : (xs : List Numbered) (f : Found) (o : Option Found) → NoneFar xs → AreFound xs (record { pole = Some f; factor = o }) → IsRefusal (Pole f.place.item f.at f.part f.place.depth) xs
pole_found xs f o near k = record { element = k.pole.element; is = (near, k.pole.is); shown = k.pole.shown }

pub factor_found : (xs : List Numbered) (f : Found) → NoneFar xs → AreFound xs (record { pole = None; factor = Some f }) → IsRefusal (ZeroFactor f.place.item f.at f.part f.place.depth) xs
factor_found xs f near k = record { element = k.factor.element; is = (near, k.pole, k.factor.is); shown = k.factor.shown }

pub none_found : (xs : List Numbered) → NoneFar xs → AreFound xs (record { pole = None; factor = None }) → AreSpared xs
none_found xs near k = record { near = near; no_pole = k.pole; no_zero_factor = k.factor }

-- ---- The start

pub next_start : (es : List Expr) (i : ℕ) (e : Expr) (a : ℤ) → i < length es → e ≡ get_or es i e → start (map tree_of (drop i es)) a ≡ start (map tree_of (drop (i + 1) es)) (start_of (tree_of e) a)
next_start es i e a h is = at_drop_more (λ xs. start (map tree_of xs) a) es i e h ∙ ap (λ (x : Expr). start (map tree_of (drop (i + 1) es)) (start_of (tree_of x) a)) (sym is)

pub last_start : (es : List Expr) (i : ℕ) (a : ℤ) → length es ≤ i → start (map tree_of (drop i es)) a ≡ a
last_start es i a h = at_drop_all (λ xs. start (map tree_of xs) a) es i h
