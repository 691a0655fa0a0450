-- What the reader finds is what the definitions say.
--   read_tree, read_fault      where no fault is found, and where one is
--   reads_back, refuses_back   from the definitions to the answer
use Rattle.std.specs.Prelude.{◌≡◌, ℕ, ◌+◌, ◌^◌, ◌≤◌, ◌<◌, ◌⊎◌, nat_le, true, false, List, [], ℤ, pos, negsuc, length, take, Option, Some, None, Result, Ok, Err, IfOk, IfErr, MatchResult}
use Rattle.std.proofs.Common.{refl, sym, ap, ◌∙◌, subst, arith, inl, inr}
use Rattle.std.proofs.lemmas.Bool.Decides.{nat_tests}
use Rattle.std.proofs.Common.{FitsSigned}
use mir.Syntax.{w128}
use Rattle.sg_spec.specs.Tree.{Tree}
use Rattle.sg_spec.specs.Syntax.{Placed}
use Rattle.sg_spec.specs.Reading.{Fault, faults, tree_in, open_after, KeepsSize, Bounds as Taken, Refusal, faulty, IsRefused, IsRead}
use Rattle.sg_expr.specs.declared.tree.Expr.{Expr}
use Rattle.sg_expr.specs.Tree.{tree_of}
use Rattle.sg_text.specs.Firsts.{first_of}
use Rattle.sg_syntax.specs.Machines.{HasCappedTree}
use Rattle.sg_text.specs.Limited.{is_within, limits_of, bounds_of}
use Rattle.sg_text.specs.Fits.{FitsTree}
use Rattle.sg_text.specs.Reads.{refusal_of, RefusedBy, Refuses, OneTree}
use Rattle.sg_text.specs.declared.bounds.Bounds.{Bounds}
use Rattle.sg_text.specs.declared.fault.ReadFault.{ReadFault}
use Rattle.sg_text.proofs.FirstFault.{first_is, none_is}
use Rattle.sg_text.proofs.Capping.{IsSteady, uncapped, faults-cap, FitsTree-uncapped}
use Rattle.sg_text.proofs.Within.{is_within-capped, at_most-capped, Fit128, FitsTree-faults, faults-unlimited}
use Rattle.sg_syntax.proofs.Unique.{Reads-unique}
use Rattle.sg_syntax.proofs.Exclusive.{IsRead-unique, IsRefused-unique, read_not_refused}

-- bounds of 128 bits
pub record IsBounds128 (b : Bounds) : Type 0 where
  pub numeral : is_within b.numeral (2 ^ 127) ≡ false
  pub exponent : b.exponent < 2 ^ 128

wider : (z : ℤ) → is_within z (2 ^ 127) ≡ false → is_within z (2 ^ 128) ≡ false
wider (pos m) h = grind (arith, nat_tests)
wider (negsuc m) h = refl

is_steady : (b : Bounds) → IsBounds128 b → IsSteady (limits_of b)
is_steady b h = record {
  numeral = λ n. is_within-capped b.numeral n (wider b.numeral h.numeral);
  exponent = λ n. at_most-capped b.exponent n h.exponent;
}

below_127 : (z : ℤ) (n : ℕ) → is_within z (2 ^ 127) ≡ false → is_within z n ≡ true → n < 2 ^ 127
below_127 (pos m) n h k = grind (arith, nat_tests)
below_127 (negsuc m) n h k = absurd (cc)

below_128 : (m n : ℕ) → m < 2 ^ 128 → nat_le n m ≡ true → n < 2 ^ 128
below_128 m n h k = grind (arith, nat_tests)

fit_128 : (b : Bounds) → IsBounds128 b → Fit128 (limits_of b)
fit_128 b h = record { numeral = λ n k. below_127 b.numeral n h.numeral k; exponent = λ n k. below_128 b.exponent n h.exponent k }

pub keeps_size : (b : Bounds) (w : List ℕ) → length w ≤ b.bytes → ((q : ℕ) → q < length w → open_after (take (q + 1) w) ≤ b.parens) → KeepsSize (bounds_of b) w
keeps_size b w h k = record { short = h; flat = k }

pub read_fault : (b : Bounds) (names w : List ℕ) (t : Placed) (f : Fault) → IsBounds128 b → KeepsSize (bounds_of b) w → HasCappedTree w t
    → Some f ≡ first_of (faults (limits_of b) false names t) → IsRefused (bounds_of b) names w (faulty f)
read_fault b names w t f k size h e =
    let (u, has, same) = uncapped w t h in
    let q : faults (limits_of b) false names t ≡ faults (limits_of b) false names u = ap (faults (limits_of b) false names) same ∙ faults-cap (limits_of b) (is_steady b k) false names u in
    (size, u, has, first_is (faults (limits_of b) false names u) f (sym (e ∙ ap first_of q)))

pub read_tree : (b : Bounds) (names w : List ℕ) (t : Placed) (e : Tree) → IsBounds128 b → KeepsSize (bounds_of b) w → HasCappedTree w t
    → None ≡ first_of (faults (limits_of b) false names t) → (FitsTree t → e ≡ tree_in names t) → IsRead (bounds_of b) names w e
read_tree b names w t e k size h n m =
    let (u, has, same) = uncapped w t h in
    let clean : faults (limits_of b) false names t ≡ [] = none_is (faults (limits_of b) false names t) (sym n) in
    let fits : FitsTree t = FitsTree-faults (limits_of b) (fit_128 b k) false names t clean in
    let whole : t ≡ u = same ∙ FitsTree-uncapped u (subst (λ q. FitsTree q) same fits) in
    let keeps : faults (limits_of b) false names u ≡ [] = sym (ap (faults (limits_of b) false names) whole) ∙ clean in
    record {
      size = size;
      reads = record { placed = u; has_tree = has; no_fault = faults-unlimited (limits_of b) false names u keeps; meaning = sym (m fits ∙ ap (tree_in names) whole) };
      keeps = keeps;
    }

want_only : (b : Taken) (names w : List ℕ) (e : Tree) (o : Option Refusal) → RefusedBy b names w o → IsRead b names w e → o ≡ None
want_only b names w e None h k = refl
want_only b names w e (Some r) h k = absurd (read_not_refused b names w e r k h)

pub reads_back : (b : Taken) (names w : List ℕ) (r : Result Expr ReadFault) → IfOk r (λ e. IsRead b names w (tree_of e)) → IfErr r (λ f. Refuses b names w f)
    → (e : Tree) → IsRead b names w e → MatchResult r (λ x. tree_of x ≡ e) (λ f. refusal_of f ≡ None)
reads_back b names w (Ok x) h k e m = IsRead-unique b names w (tree_of x) e h m
reads_back b names w (Err f) h k e m = want_only b names w e (refusal_of f) k m

want_or : (b : Taken) (names w : List ℕ) (r : Refusal) (o : Option Refusal) → RefusedBy b names w o → IsRefused b names w r → (o ≡ None) ⊎ (o ≡ Some r)
want_or b names w r None h k = inl refl
want_or b names w r (Some s) h k = inr (ap Some (IsRefused-unique b names w s r h k))

pub refuses_back : (b : Taken) (names w : List ℕ) (r : Result Expr ReadFault) → IfOk r (λ e. IsRead b names w (tree_of e)) → IfErr r (λ f. Refuses b names w f)
    → (s : Refusal) → IsRefused b names w s → MatchResult r (λ x. ⊥) (λ f. (refusal_of f ≡ None) ⊎ (refusal_of f ≡ Some s))
refuses_back b names w (Ok x) h k s m = read_not_refused b names w (tree_of x) s h m
refuses_back b names w (Err f) h k s m = want_or b names w s (refusal_of f) k m

pub one_tree : (w names : List ℕ) → OneTree w names
one_tree w names e f h k = Reads-unique w names e f h k

pub within_127 : (z : ℤ) → FitsSigned w128 z → is_within z (2 ^ 127) ≡ false
within_127 (pos m) h = grind (arith, nat_tests)
within_127 (negsuc m) h = refl
