-- An expression with products in place of its own quotients.
--   nodes-undivided, degrees-undivided, bodies-undivided     it has as many nodes, the same degrees and the same bodies
--   all_sums-undivided, all_prods-undivided, sums-undivided  the same sums and products
--   start-undivided        and so the same start
--   counted-undivided      it keeps the same counted limits
--   form-undivided         it is in reader's form
--   parts-undivided        without sums and products it has no parts
use Rattle.std.proofs.Common.{◌≡◌, ℕ, zero, suc, ◌+◌, ◌&&◌, Bool, true, cond, refl, sym, ap, ap₂, ◌∙◌, List, [], ◌∷◌, ◌++◌, length, ℤ, Option, Some, None}
use Rattle.std.specs.Prelude.{nat_le}
use Rattle.sg_spec.specs.Tree.{Tree, numeral, here, param, add, neg, mul, div, power, sum_from, prod_from}
use Rattle.sg_spec.specs.Generators.{all_sums, all_prods, distinct, sums, start_of, start}
use Rattle.sg_spec.specs.Limits.{nodes, Degrees, degrees, greater_degrees, added_degrees, times_degrees, bodies, all_keep, is_flat, or_else, CountFault, too_many_nodes, too_steep, too_many_sums, too_many_products, counted}
use Rattle.sg_spec.specs.Parts.{parts, anywhere}
use Rattle.sg_spec.specs.Printing.{InForm}
use Rattle.sg_top.specs.Stages.{undivided}
use Rattle.sg_top.proofs.Parted.{left_empty, right_empty, not_empty}

-- ---- Counts

pub nodes-undivided : (t : Tree) → nodes (undivided t) ≡ nodes t
nodes-undivided (numeral c) = refl
nodes-undivided here = refl
nodes-undivided param = refl
nodes-undivided (add x y) = ap₂ (λ (m n : ℕ). 1 + m + n) (nodes-undivided x) (nodes-undivided y)
nodes-undivided (neg x) = ap (λ (m : ℕ). 1 + m) (nodes-undivided x)
nodes-undivided (mul x y) = ap₂ (λ (m n : ℕ). 1 + m + n) (nodes-undivided x) (nodes-undivided y)
nodes-undivided (div x y) = ap₂ (λ (m n : ℕ). 1 + m + n) (nodes-undivided x) (nodes-undivided y)
nodes-undivided (power x e) = ap (λ (m : ℕ). 1 + m) (nodes-undivided x)
nodes-undivided (sum_from from body) = refl
nodes-undivided (prod_from from body) = refl

pub degrees-undivided : (t : Tree) → degrees (undivided t) ≡ degrees t
degrees-undivided (numeral c) = refl
degrees-undivided here = refl
degrees-undivided param = refl
degrees-undivided (add x y) = ap₂ greater_degrees (degrees-undivided x) (degrees-undivided y)
degrees-undivided (neg x) = degrees-undivided x
degrees-undivided (mul x y) = ap₂ added_degrees (degrees-undivided x) (degrees-undivided y)
degrees-undivided (div x y) = ap₂ added_degrees (degrees-undivided x) (degrees-undivided y)
degrees-undivided (power x e) = ap (λ (d : Degrees). times_degrees d e) (degrees-undivided x)
degrees-undivided (sum_from from body) = refl
degrees-undivided (prod_from from body) = refl

both-same : (a b c d : List Tree) → a ≡ c → b ≡ d → a ++ b ≡ c ++ d
both-same a b c d e f = ap₂ (λ (u v : List Tree). u ++ v) e f

pub bodies-undivided : (t : Tree) → bodies (undivided t) ≡ bodies t
bodies-undivided (numeral c) = refl
bodies-undivided here = refl
bodies-undivided param = refl
bodies-undivided (add x y) = both-same _ _ _ _ (bodies-undivided x) (bodies-undivided y)
bodies-undivided (neg x) = bodies-undivided x
bodies-undivided (mul x y) = both-same _ _ _ _ (bodies-undivided x) (bodies-undivided y)
bodies-undivided (div x y) = both-same _ _ _ _ (bodies-undivided x) (bodies-undivided y)
bodies-undivided (power x e) = bodies-undivided x
bodies-undivided (sum_from from body) = refl
bodies-undivided (prod_from from body) = refl

pub all_sums-undivided : (t : Tree) → all_sums (undivided t) ≡ all_sums t
all_sums-undivided (numeral c) = refl
all_sums-undivided here = refl
all_sums-undivided param = refl
all_sums-undivided (add x y) = both-same _ _ _ _ (all_sums-undivided x) (all_sums-undivided y)
all_sums-undivided (neg x) = all_sums-undivided x
all_sums-undivided (mul x y) = both-same _ _ _ _ (all_sums-undivided x) (all_sums-undivided y)
all_sums-undivided (div x y) = both-same _ _ _ _ (all_sums-undivided x) (all_sums-undivided y)
all_sums-undivided (power x e) = all_sums-undivided x
all_sums-undivided (sum_from from body) = refl
all_sums-undivided (prod_from from body) = refl

pub all_prods-undivided : (t : Tree) → all_prods (undivided t) ≡ all_prods t
all_prods-undivided (numeral c) = refl
all_prods-undivided here = refl
all_prods-undivided param = refl
all_prods-undivided (add x y) = both-same _ _ _ _ (all_prods-undivided x) (all_prods-undivided y)
all_prods-undivided (neg x) = all_prods-undivided x
all_prods-undivided (mul x y) = both-same _ _ _ _ (all_prods-undivided x) (all_prods-undivided y)
all_prods-undivided (div x y) = both-same _ _ _ _ (all_prods-undivided x) (all_prods-undivided y)
all_prods-undivided (power x e) = all_prods-undivided x
all_prods-undivided (sum_from from body) = refl
all_prods-undivided (prod_from from body) = refl

pub sums-undivided : (t : Tree) → sums (undivided t ∷ []) ≡ sums (t ∷ [])
sums-undivided t = ap (λ (ts : List Tree). distinct (ts ++ [])) (all_sums-undivided t)

start_of-undivided : (t : Tree) (a : ℤ) → start_of (undivided t) a ≡ start_of t a
start_of-undivided (numeral c) a = refl
start_of-undivided here a = refl
start_of-undivided param a = refl
start_of-undivided (add x y) a = start_of-undivided y (start_of (undivided x) a) ∙ ap (start_of y) (start_of-undivided x a)
start_of-undivided (neg x) a = start_of-undivided x a
start_of-undivided (mul x y) a = start_of-undivided y (start_of (undivided x) a) ∙ ap (start_of y) (start_of-undivided x a)
start_of-undivided (div x y) a = start_of-undivided y (start_of (undivided x) a) ∙ ap (start_of y) (start_of-undivided x a)
start_of-undivided (power x e) a = start_of-undivided x a
start_of-undivided (sum_from from body) a = refl
start_of-undivided (prod_from from body) a = refl

pub start-undivided : (t : Tree) (a : ℤ) → start (undivided t ∷ []) a ≡ start (t ∷ []) a
start-undivided t a = start_of-undivided t a

-- the first fault of one expression, by what is counted of it
counted_by : ℕ → Degrees → List Tree → List Tree → List Tree → Option CountFault
counted_by n d inner ss ps =
    or_else too_many_nodes (cond (nat_le n 2000) None (Some 1))
    (or_else too_steep (cond ((nat_le d.variable 64 && (nat_le d.parameter 64 && nat_le d.generators 8)) && all_keep is_flat inner) None (Some 1))
    (cond (nat_le (length (distinct (ss ++ []))) 8)
    (cond ((nat_le (length (distinct (ps ++ []))) 4 && true) && nat_le (length (distinct (ps ++ []))) 20) None (Some too_many_products)) (Some too_many_sums)))

counted-by : (t : Tree) → counted (t ∷ []) ≡ counted_by (nodes t) (degrees t) (bodies t) (all_sums t) (all_prods t)
unfolding counted_by
counted-by t = refl

pub counted-undivided : (t : Tree) → counted (undivided t ∷ []) ≡ counted (t ∷ [])
counted-undivided t =
    counted-by (undivided t) ∙ ap (λ (n : ℕ). counted_by n (degrees (undivided t)) (bodies (undivided t)) (all_sums (undivided t)) (all_prods (undivided t))) (nodes-undivided t)
    ∙ ap (λ (d : Degrees). counted_by (nodes t) d (bodies (undivided t)) (all_sums (undivided t)) (all_prods (undivided t))) (degrees-undivided t)
    ∙ ap (λ (l : List Tree). counted_by (nodes t) (degrees t) l (all_sums (undivided t)) (all_prods (undivided t))) (bodies-undivided t)
    ∙ ap₂ (λ (l m : List Tree). counted_by (nodes t) (degrees t) (bodies t) l m) (all_sums-undivided t) (all_prods-undivided t) ∙ sym (counted-by t)

-- ---- Form and parts

pub form-undivided : (known inside : Bool) (t : Tree) → InForm known inside t → InForm known inside (undivided t)
form-undivided known inside (numeral c) f = f
form-undivided known inside here f = f
form-undivided known inside param f = f
form-undivided known inside (add x y) f = (form-undivided known inside x f.0, form-undivided known inside y f.1)
form-undivided known inside (neg x) f = form-undivided known inside x f
form-undivided known inside (mul x y) f = (form-undivided known inside x f.0, form-undivided known inside y f.1)
form-undivided known inside (div x y) f = (form-undivided known inside x f.0, form-undivided known inside y f.1)
form-undivided known inside (power x e) f = form-undivided known inside x f
form-undivided known inside (sum_from from body) f = f
form-undivided known inside (prod_from from body) f = f

both-empty : (x y : Tree) (l : ℤ) (d : ℕ) → parts anywhere l d (undivided x) ≡ [] → parts anywhere l d (undivided y) ≡ [] → parts anywhere l d (undivided x) ++ parts anywhere l d (undivided y) ≡ []
both-empty x y l d e f = ap₂ ◌++◌ e f

pub parts-undivided : (l : ℤ) (d : ℕ) (t : Tree) → all_sums t ≡ [] → all_prods t ≡ [] → parts anywhere l d (undivided t) ≡ []
parts-undivided l d (numeral c) h k = refl
parts-undivided l d here h k = refl
parts-undivided l d param h k = refl
parts-undivided l d (add x y) h k =
    both-empty x y l d (parts-undivided l d x (left_empty (all_sums x) (all_sums y) h) (left_empty (all_prods x) (all_prods y) k))
    (parts-undivided l d y (right_empty (all_sums x) (all_sums y) h) (right_empty (all_prods x) (all_prods y) k))
parts-undivided l d (neg x) h k = parts-undivided l d x h k
parts-undivided l d (mul x y) h k =
    both-empty x y l d (parts-undivided l d x (left_empty (all_sums x) (all_sums y) h) (left_empty (all_prods x) (all_prods y) k))
    (parts-undivided l d y (right_empty (all_sums x) (all_sums y) h) (right_empty (all_prods x) (all_prods y) k))
parts-undivided l d (div x y) h k =
    both-empty x y l d (parts-undivided l d x (left_empty (all_sums x) (all_sums y) h) (left_empty (all_prods x) (all_prods y) k))
    (parts-undivided l d y (right_empty (all_sums x) (all_sums y) h) (right_empty (all_prods x) (all_prods y) k))
parts-undivided l d (power x zero) h k = parts-undivided l d x h k
parts-undivided l d (power x (suc e)) h k = parts-undivided l d x h k
parts-undivided l d (sum_from from body) h k = absurd (not_empty (all_sums body) (sum_from from body) h)
parts-undivided l d (prod_from from body) h k = absurd (not_empty (all_prods body) (prod_from from body) k)
