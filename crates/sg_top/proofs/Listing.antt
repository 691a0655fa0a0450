-- The list of products and sums in a line.
--   listed-append      the list of two lists
--   listed-next        one more of them
--   listed-more        the same, as the text grows
--   form-at            each of expressions in form is
--   none-is            the line with its two lists
use Rattle.std.proofs.Common.{◌≡◌, ℕ, zero, suc, ◌+◌, ◌<◌, refl, sym, ap, ap₂, ◌∙◌, subst, List, [], ◌∷◌, ◌++◌, length, take, map, get_or, codes, append_assoc, append-nil, add-one, false, arith}
use Rattle.std.proofs.Math.Seq.{take-suc}
use Rattle.std.proofs.lemmas.List.{map-append}
use Rattle.sg_algebra.specs.Coefficients.{Each}
use Rattle.sg_expr.specs.Tree.{tree_of}
use Rattle.sg_expr.specs.declared.tree.Expr.{Expr}
use Rattle.sg_spec.specs.Printing.{InForm}
use Rattle.sg_spec.specs.Tree.{Tree}
use Rattle.sg_text.specs.PrintedText.{printed}
use Rattle.sg_top.specs.Lines.{listed, none_line}

pub listed-append : (gs hs : List Tree) → listed (gs ++ hs) ≡ listed gs ++ listed hs
listed-append [] hs = refl
listed-append (g ∷ gs) hs =
    ap (λ (l : List ℕ). codes ", " ++ printed (codes "k") g ++ l) (listed-append gs hs)
    ∙ ap (λ (l : List ℕ). codes ", " ++ l) (sym (append_assoc (printed (codes "k") g) (listed gs) (listed hs))) ∙ sym (append_assoc (codes ", ") (printed (codes "k") g ++ listed gs) (listed hs))

pub listed-next : (gens : List Expr) (i : ℕ) (g : Expr) → i < length gens → g ≡ get_or gens i g → listed (map tree_of (take (i + 1) gens)) ≡ (listed (map tree_of (take i gens)) ++ codes ", ") ++ printed (codes "k") (tree_of g)
listed-next gens i g l e =
    let before : take (i + 1) gens ≡ take i gens ++ (g ∷ []) = ap (λ n. take n gens) (add-one i) ∙ take-suc gens i g l ∙ ap (λ t. take i gens ++ (t ∷ [])) (sym e) in
    ap (λ (ts : List Expr). listed (map tree_of ts)) before ∙ ap listed (map-append tree_of (take i gens) (g ∷ [])) ∙ listed-append (map tree_of (take i gens)) (tree_of g ∷ [])
    ∙ ap (λ (w : List ℕ). listed (map tree_of (take i gens)) ++ (codes ", " ++ w)) (append-nil (printed (codes "k") (tree_of g))) ∙ sym (append_assoc (listed (map tree_of (take i gens))) (codes ", ") (printed (codes "k") (tree_of g)))

pub listed-more : (gens : List Expr) (i : ℕ) (g : Expr) (old mid new form : List ℕ) → i < length gens → g ≡ get_or gens i g → old ≡ listed (map tree_of (take i gens)) → mid ≡ old ++ codes ", "
    → form ≡ printed (codes "k") (tree_of g) → new ≡ mid ++ form → new ≡ listed (map tree_of (take (i + 1) gens))
listed-more gens i g old mid new form l e o m f n =
    n ∙ ap₂ (λ (u v : List ℕ). u ++ v) (m ∙ ap (λ (u : List ℕ). u ++ codes ", ") o) f ∙ sym (listed-next gens i g l e)

pub form-at : (gens : List Expr) (i : ℕ) (g : Expr) → i < length gens → g ≡ get_or gens i g → Each (InForm false false) (map tree_of gens) → InForm false false (tree_of g)
form-at [] i g l e h = absurd (omega (arith, l))
form-at (x ∷ gens) zero g l e h = subst (λ (y : Expr). InForm false false (tree_of y)) (sym e) h.0
form-at (x ∷ gens) (suc i) g l e h = form-at gens i g (omega (arith, l)) e h.1

pub none-is : (ps ss : List Tree) (front a b out : List ℕ) → front ≡ codes "none over k" → a ≡ listed ps → b ≡ listed ss → out ≡ ((front ++ a) ++ b) ++ codes "\n" → out ≡ none_line (ps ++ ss)
none-is ps ss front a b out f p q is =
    is ∙ ap (λ (w : List ℕ). w ++ codes "\n") (append_assoc front a b ∙ ap₂ (λ (u v : List ℕ). u ++ v) f (ap₂ (λ (u v : List ℕ). u ++ v) p q ∙ sym (listed-append ps ss)))
    ∙ append_assoc (codes "none over k") (listed (ps ++ ss)) (codes "\n")
