-- A text is read or refused in one way only.
--   Reading-unique     two trees that a text is read as
--   Refusal-unique     two causes of a refusal
--   read_not_refused   a text that is read is not refused
use Rattle.std.specs.Prelude.{◌≡◌, ℕ, ◌+◌, ◌≤◌, ◌<◌, ◌⊎◌, false, List, [], ◌∷◌, length, take, drop}
use Rattle.std.proofs.Common.{refl, sym, ap, ◌∙◌, subst, arith, inl, inr}
use Rattle.std.proofs.lemmas.List.{take-append-drop}
use Rattle.sg_spec.specs.Tree.{Tree}
use Rattle.sg_spec.specs.Grammar.{IsText, IsFront, IsSyntaxFault}
use Rattle.sg_spec.specs.Syntax.{Placed}
use Rattle.sg_spec.specs.Reading.{Kind, numeral_fault, exponent_fault, unbound, form, Fault, rank, NotAfter, IsFirst, faults, HasTree, IsDeep, Bounds, KeepsSize, Refusal, too_long, too_deep, no_text, faulty, IsRefused, IsRead}
use Rattle.sg_syntax.proofs.Same.{spelled}
use Rattle.sg_syntax.proofs.Unique.{HasTree-unique, Reads-unique}

pub IsRead-unique : (bounds : Bounds) (names w : List ℕ) (e f : Tree) → IsRead bounds names w e → IsRead bounds names w f → e ≡ f
IsRead-unique bounds names w e f h k = Reads-unique w names e f h.reads k.reads

which : (p q : ℕ) → (p < q) ⊎ ((p ≡ q) ⊎ (q < p))
which p q = grind arith

deep_once : (most : ℕ) (w : List ℕ) (p q : ℕ) → p < q → IsDeep most w p → IsDeep most w q → ⊥
deep_once most w p q l h k = let a = h.deep in let b = k.before p l in omega arith

IsDeep-unique : (most : ℕ) (w : List ℕ) (p q : ℕ) → IsDeep most w p → IsDeep most w q → p ≡ q
IsDeep-unique most w p q h k = elim (which p q) [
  | inl l ↦ absurd (deep_once most w p q l h k)
  | inr r ↦ elim r [ inl e ↦ e | inr l ↦ absurd (deep_once most w q p l k h) ]
]

not_deep : (bounds : Bounds) (w : List ℕ) (p : ℕ) → KeepsSize bounds w → IsDeep bounds.parens w p → ⊥
not_deep bounds w p h k = let a = h.flat p k.within in let b = k.deep in omega arith

has_text : (w : List ℕ) (t : Placed) → HasTree w t → IsText w
has_text w t h = spelled h.built

front_of_text : (w : List ℕ) (n : ℕ) → IsText w → IsFront (take n w)
front_of_text w n h = (drop n w, subst (λ q. IsText q) (sym (take-append-drop n w)) h)

no_fault_in_text : (w : List ℕ) (p : ℕ) → IsText w → IsSyntaxFault w p → ⊥
no_fault_in_text w p h k = elim k.fault [
  | inl a ↦ a.1 (front_of_text w (p + 1) h)
  | inr a ↦ a.1 h
]

fault_once : (w : List ℕ) (p q : ℕ) → p < q → q ≤ length w → IsSyntaxFault w p → IsSyntaxFault w q → ⊥
fault_once w p q l m h k = elim h.fault [
  | inl a ↦ a.1 (k.before p l)
  | inr a ↦ absurd (let e = a.0 in omega arith)
]

fault_within_text : (w : List ℕ) (p : ℕ) → IsSyntaxFault w p → p ≤ length w
fault_within_text w p h = elim h.fault [ inl a ↦ (let b = a.0 in omega arith) | inr a ↦ (let b = a.0 in omega arith) ]

IsSyntaxFault-unique : (w : List ℕ) (p q : ℕ) → IsSyntaxFault w p → IsSyntaxFault w q → p ≡ q
IsSyntaxFault-unique w p q h k = elim (which p q) [
  | inl l ↦ absurd (fault_once w p q l (fault_within_text w q k) h k)
  | inr r ↦ elim r [ inl e ↦ e | inr l ↦ absurd (fault_once w q p l (fault_within_text w p h) k h) ]
]

same_rank : (k l : Kind) → rank k ≡ rank l → k ≡ l
same_rank numeral_fault numeral_fault h = refl
same_rank numeral_fault exponent_fault h = absurd (omega arith)
same_rank numeral_fault unbound h = absurd (omega arith)
same_rank numeral_fault form h = absurd (omega arith)
same_rank exponent_fault numeral_fault h = absurd (omega arith)
same_rank exponent_fault exponent_fault h = refl
same_rank exponent_fault unbound h = absurd (omega arith)
same_rank exponent_fault form h = absurd (omega arith)
same_rank unbound numeral_fault h = absurd (omega arith)
same_rank unbound exponent_fault h = absurd (omega arith)
same_rank unbound unbound h = refl
same_rank unbound form h = absurd (omega arith)
same_rank form numeral_fault h = absurd (omega arith)
same_rank form exponent_fault h = absurd (omega arith)
same_rank form unbound h = absurd (omega arith)
same_rank form form h = refl

same_fault : (f g : Fault) → NotAfter f g → NotAfter g f → f ≡ g
same_fault f g h k =
    let e : f.place ≡ g.place = places h k in
    let r : rank f.kind ≡ rank g.kind = ranks h k in
    ap (λ q. record { kind = q; place = f.place }) (same_rank f.kind g.kind r) ∙ ap (λ q. record { kind = g.kind; place = q }) e
  where
    places : NotAfter f g → NotAfter g f → f.place ≡ g.place
    places (inl a) (inl b) = absurd (omega arith)
    places (inl a) (inr b) = absurd (let c = b.0 in omega arith)
    places (inr a) b = a.0

    ranks : NotAfter f g → NotAfter g f → rank f.kind ≡ rank g.kind
    ranks (inl a) (inl b) = absurd (omega arith)
    ranks (inl a) (inr b) = absurd (let c = b.0 in omega arith)
    ranks (inr a) (inl b) = absurd (let c = a.0 in omega arith)
    ranks (inr a) (inr b) = let c = a.1 in let d = b.1 in omega arith

IsFirst-unique : (all : List Fault) (f g : Fault) → IsFirst f all → IsFirst g all → f ≡ g
IsFirst-unique all f g h k = same_fault f g (h.least g k.found) (k.least f h.found)

long_and_short : (w : List ℕ) (n : ℕ) → n < length w → length w ≤ n → ⊥
long_and_short w n h k = omega arith

pub IsRefused-unique : (bounds : Bounds) (names w : List ℕ) (r s : Refusal) → IsRefused bounds names w r → IsRefused bounds names w s → r ≡ s
IsRefused-unique bounds names w too_long too_long h k = refl
IsRefused-unique bounds names w too_long (too_deep q) h k = absurd (long_and_short w bounds.bytes h k.0)
IsRefused-unique bounds names w too_long (no_text q) h k = absurd (long_and_short w bounds.bytes h (k.0).short)
IsRefused-unique bounds names w too_long (faulty g) h k = absurd (long_and_short w bounds.bytes h (k.0).short)
IsRefused-unique bounds names w (too_deep p) too_long h k = absurd (long_and_short w bounds.bytes k h.0)
IsRefused-unique bounds names w (too_deep p) (too_deep q) h k = ap too_deep (IsDeep-unique bounds.parens w p q h.1 k.1)
IsRefused-unique bounds names w (too_deep p) (no_text q) h k = absurd (not_deep bounds w p k.0 h.1)
IsRefused-unique bounds names w (too_deep p) (faulty g) h k = absurd (not_deep bounds w p k.0 h.1)
IsRefused-unique bounds names w (no_text p) too_long h k = absurd (long_and_short w bounds.bytes k (h.0).short)
IsRefused-unique bounds names w (no_text p) (too_deep q) h k = absurd (not_deep bounds w q h.0 k.1)
IsRefused-unique bounds names w (no_text p) (no_text q) h k = ap no_text (IsSyntaxFault-unique w p q h.1 k.1)
IsRefused-unique bounds names w (no_text p) (faulty g) h k = absurd (no_fault_in_text w p (has_text w k.1 k.2) h.1)
IsRefused-unique bounds names w (faulty f) too_long h k = absurd (long_and_short w bounds.bytes k (h.0).short)
IsRefused-unique bounds names w (faulty f) (too_deep q) h k = absurd (not_deep bounds w q h.0 k.1)
IsRefused-unique bounds names w (faulty f) (no_text q) h k = absurd (no_fault_in_text w q (has_text w h.1 h.2) k.1)
IsRefused-unique bounds names w (faulty f) (faulty g) h k =
    let e : k.1 ≡ h.1 = HasTree-unique w k.1 h.1 k.2 h.2 in
    ap faulty (IsFirst-unique (faults bounds.limits false names h.1) f g h.3 (subst (λ q. IsFirst g (faults bounds.limits false names q)) e k.3))

none_first : (f : Fault) (all : List Fault) → all ≡ [] → IsFirst f all → ⊥
none_first f [] e h = elim h.found [ ]
none_first f (x ∷ xs) e h = absurd (cc)

pub read_not_refused : (bounds : Bounds) (names w : List ℕ) (e : Tree) (r : Refusal) → IsRead bounds names w e → IsRefused bounds names w r → ⊥
read_not_refused bounds names w e too_long h k = long_and_short w bounds.bytes k (h.size).short
read_not_refused bounds names w e (too_deep p) h k = not_deep bounds w p h.size k.1
read_not_refused bounds names w e (no_text p) h k = no_fault_in_text w p (has_text w (h.reads).placed (h.reads).has_tree) k.1
read_not_refused bounds names w e (faulty f) h k =
    let q : k.1 ≡ (h.reads).placed = HasTree-unique w k.1 (h.reads).placed k.2 (h.reads).has_tree in
    none_first f (faults bounds.limits false names k.1) (ap (faults bounds.limits false names) q ∙ h.keeps) k.3
