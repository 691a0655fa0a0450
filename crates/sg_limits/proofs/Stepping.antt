-- What a walk over expressions has found at a place, by what it finds from there on.
--   first-found, first-passed, first-none    the first expression that a test refuses
--   joined-more, joined-all                  the joined list
--   keep-found, keep-passed, keep-all        whether all keep a test
--   keep_append                              both parts of a list keep it
use Rattle.std.proofs.Common.{◌≡◌, refl, sym, ap, ◌∙◌, ℕ, ◌+◌, ◌<◌, ◌≤◌, Bool, true, false, cond, ◌&&◌, List, [], ◌∷◌, ◌++◌, length, map, drop, get_or, Some, None}
use Rattle.std.proofs.lemmas.List.{at_drop_more, at_drop_all}
use Rattle.sg_spec.specs.Tree.{Tree}
use Rattle.sg_spec.specs.Generators.{with_new, concatenated}
use Rattle.sg_spec.specs.Limits.{first_from, all_keep}
use Rattle.sg_expr.specs.declared.tree.Expr.{Expr}
use Rattle.sg_expr.specs.Tree.{tree_of}
use Rattle.sg_expr.proofs.Joining.{joined_append}

-- a walk over the rest of the list begins with the item at its place
at : {A : Type 0} (walk : List Tree → A) (es : List Expr) (i : ℕ) (e : Expr) → i < length es → e ≡ get_or es i e → walk (map tree_of (drop i es)) ≡ walk (tree_of e ∷ map tree_of (drop (i + 1) es))
at walk es i e h is = at_drop_more (λ xs. walk (map tree_of xs)) es i e h ∙ ap (λ x. walk (tree_of x ∷ map tree_of (drop (i + 1) es))) (sym is)

pub first-found : (test : Tree → Bool) (n : ℕ) (es : List Expr) (i : ℕ) (e : Expr) → i < length es → e ≡ get_or es i e → test (tree_of e) ≡ false → first_from n test (map tree_of (drop i es)) ≡ Some n
first-found test n es i e h is refused = at (first_from n test) es i e h is ∙ ap (λ b. cond b (first_from (n + 1) test (map tree_of (drop (i + 1) es))) (Some n)) refused

pub first-passed : (test : Tree → Bool) (n : ℕ) (es : List Expr) (i : ℕ) (e : Expr) → i < length es → e ≡ get_or es i e → test (tree_of e) ≡ true → first_from n test (map tree_of (drop i es)) ≡ first_from (n + 1) test (map tree_of (drop (i + 1) es))
first-passed test n es i e h is kept = at (first_from n test) es i e h is ∙ ap (λ b. cond b (first_from (n + 1) test (map tree_of (drop (i + 1) es))) (Some n)) kept

pub first-none : (test : Tree → Bool) (n : ℕ) (es : List Expr) (i : ℕ) → length es ≤ i → first_from n test (map tree_of (drop i es)) ≡ None
first-none test n es i h = at_drop_all (λ xs. first_from n test (map tree_of xs)) es i h

pub joined-more : (f : Tree → List Tree) (known : List Tree) (es : List Expr) (i : ℕ) (e : Expr) → i < length es → e ≡ get_or es i e → with_new known (concatenated f (map tree_of (drop i es))) ≡ with_new (with_new known (f (tree_of e))) (concatenated f (map tree_of (drop (i + 1) es)))
joined-more f known es i e h is = at (λ ts. with_new known (concatenated f ts)) es i e h is ∙ joined_append known (f (tree_of e)) (concatenated f (map tree_of (drop (i + 1) es)))

pub joined-all : (f : Tree → List Tree) (known : List Tree) (es : List Expr) (i : ℕ) → length es ≤ i → with_new known (concatenated f (map tree_of (drop i es))) ≡ known
joined-all f known es i h = at_drop_all (λ xs. with_new known (concatenated f (map tree_of xs))) es i h

pub keep-found : (test : Tree → Bool) (es : List Expr) (i : ℕ) (e : Expr) → i < length es → e ≡ get_or es i e → test (tree_of e) ≡ false → all_keep test (map tree_of (drop i es)) ≡ false
keep-found test es i e h is refused = at (all_keep test) es i e h is ∙ ap (λ b. b && all_keep test (map tree_of (drop (i + 1) es))) refused

pub keep-passed : (test : Tree → Bool) (es : List Expr) (i : ℕ) (e : Expr) → i < length es → e ≡ get_or es i e → test (tree_of e) ≡ true → all_keep test (map tree_of (drop i es)) ≡ all_keep test (map tree_of (drop (i + 1) es))
keep-passed test es i e h is kept = at (all_keep test) es i e h is ∙ ap (λ b. b && all_keep test (map tree_of (drop (i + 1) es))) kept

pub keep-all : (test : Tree → Bool) (es : List Expr) (i : ℕ) → length es ≤ i → all_keep test (map tree_of (drop i es)) ≡ true
keep-all test es i h = at_drop_all (λ xs. all_keep test (map tree_of xs)) es i h

&&-assoc : (a b c : Bool) → ((a && b) && c) ≡ (a && (b && c))
&&-assoc true b c = refl
&&-assoc false b c = refl

pub keep_append : (test : Tree → Bool) (ts us : List Tree) → all_keep test (ts ++ us) ≡ (all_keep test ts && all_keep test us)
keep_append test [] us = refl
keep_append test (t ∷ ts) us = ap (λ b. test t && b) (keep_append test ts us) ∙ sym (&&-assoc (test t) (all_keep test ts) (all_keep test us))
