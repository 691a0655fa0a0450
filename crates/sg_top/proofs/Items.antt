-- The expressions of a command.
--   lone, not-alone     the only one; others are none alone
--   all-of              what each is, all are
--   later-found         the first with a product
use Rattle.std.proofs.Common.{◌≡◌, ℕ, zero, suc, ◌+◌, ◌<◌, List, [], ◌∷◌, ◌++◌, length, take, drop, get_or, map, refl, sym, ap, ◌∙◌, arith}
use Rattle.std.specs.Prelude.{All}
use Rattle.std.proofs.Math.Seq.{drop-cons}
use Rattle.std.proofs.lemmas.List.{take-append-drop, map-append, length-map, length-take-le}
use Rattle.sg_algebra.specs.Coefficients.{Each}
use Rattle.sg_expr.specs.Tree.{tree_of}
use Rattle.sg_expr.specs.declared.tree.Expr.{Expr}
use Rattle.sg_spec.specs.Tree.{Tree}
use Rattle.sg_worth_theory.proofs.Plain.{HasNoProduct}
use Rattle.sg_top.specs.Taking.{Alone, IsFirstLater}

pub lone : (items : List Expr) (e : Expr) → length items ≡ 1 → e ≡ get_or items 0 e → map tree_of items ≡ tree_of e ∷ []
lone [] e h k = absurd (omega arith)
lone (x ∷ (y ∷ xs)) e h k = absurd (omega arith)
lone (x ∷ []) e h k = ap (λ t. tree_of t ∷ []) (sym k)

pub not-alone : (P : Tree → Type 0) (items : List Expr) → (length items ≡ 1 → ⊥) → Alone P (map tree_of items) → ⊥
not-alone P [] h p = p
not-alone P (x ∷ []) h p = h refl
not-alone P (x ∷ (y ∷ xs)) h p = p

pub all-of : {X : Type 0} (P : X → Type 0) (xs : List X) → Each P xs → All P xs
all-of P [] h k d l = absurd (omega arith)
all-of P (x ∷ xs) h zero d l = h.0
all-of P (x ∷ xs) h (suc k) d l = all-of P xs h.1 k d (omega arith)

pub later-found : (items : List Expr) (i : ℕ) (e : Expr) → i < length items → e ≡ get_or items i e → Each HasNoProduct (map tree_of (take i items)) → (HasNoProduct (tree_of e) → ⊥)
    → IsFirstLater (i + 1) (map tree_of items)
later-found items i e l at before h =
    let cut : drop i items ≡ e ∷ drop (suc i) items = drop-cons items i e l ∙ ap (λ t. t ∷ drop (suc i) items) (sym at) in
    let count : length (map tree_of (take i items)) ≡ i = length-map (take i items) tree_of ∙ length-take-le i items (omega arith) in
    record {
      before = map tree_of (take i items);
      expression = tree_of e;
      after = map tree_of (drop (suc i) items);
      split = ap (map tree_of) (sym (take-append-drop i items) ∙ ap (λ t. take i items ++ t) cut) ∙ map-append tree_of (take i items) (e ∷ drop (suc i) items);
      plain = before;
      product = h;
      item_is = omega arith;
    }
