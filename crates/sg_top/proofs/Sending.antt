-- What a sink holds after an answer was sent, whole or in part.
--   tells-line      a line that was appended
--   tells-more, tells-after     what is told, in other words; after bytes that were appended before
--   sent, failed    a text that was appended; first bytes of it, and then a fault
--   ends-more, ends-fixed       an end by one answer is one by another
use Rattle.std.proofs.Common.{◌≡◌, ℕ, ◌+◌, List, ◌++◌, take, drop, Option, Some, None, refl, inl, inr, ap, sym, ◌∙◌, subst, append_assoc, length, ◌-◌, length-drop}
use Rattle.std.proofs.Math.Seq.{take-add, take-length}
use Rattle.std.proofs.lemmas.List.{take-append-drop}
use Rattle.sg_io.specs.Bytes.{Appends, Rose}
use Rattle.sg_top.specs.Answer.{Tells, IsFrontOf}
use Rattle.sg_top.specs.Ending.{Ends, IsFixed}
use Rattle.sg_top.specs.declared.status.Status.{Status}
use Rattle.sg_top.specs.declared.status.Status.TheVariants.{WriteFault}

-- two pieces after one another are one
pub appends-more : (old mid new : Option (List ℕ)) (text : List ℕ) (n m : ℕ) → Appends old mid (take n text) → Appends mid new (take m (drop n text)) → Appends old new (take (n + m) text)
appends-more (Some old) (Some mid) (Some new) text n m h k = k ∙ ap (λ (t : List ℕ). t ++ take m (drop n text)) h ∙ append_assoc old (take n text) (take m (drop n text)) ∙ ap (λ (t : List ℕ). old ++ t) (sym (take-add n m text))
appends-more (Some old) (Some mid) None text n m h k = absurd k
appends-more (Some old) None new text n m h k = absurd h
appends-more None (Some mid) new text n m h k = absurd h
appends-more None None (Some new) text n m h k = absurd k
appends-more None None None text n m h k = tt

pub front-of : (old new : Option (List ℕ)) (text : List ℕ) (n : ℕ) → Appends old new (take n text) → Tells (IsFrontOf (λ whole. whole ≡ text)) old new
front-of (Some old) (Some new) text n h = (take n text, h, (drop n text, take-append-drop n text))
front-of (Some old) None text n h = absurd h
front-of None (Some new) text n h = absurd h
front-of None None text n h = (take n text, (drop n text, take-append-drop n text))

-- what is left from a place on, whole
pub take-rest : (n : ℕ) (text : List ℕ) → take (length text - n) (drop n text) ≡ drop n text
take-rest n text = rw (← length-drop n text) (take-length (drop n text))

pub tells-line : (P : List ℕ → Type 0) (old new : Option (List ℕ)) (line : List ℕ) → P line → Appends old new line → Tells P old new
tells-line P (Some old) (Some new) line p h = (line, h, p)
tells-line P (Some old) None line p h = absurd h
tells-line P None (Some new) line p h = absurd h
tells-line P None None line p h = (line, p)

pub tells-more : (P Q : List ℕ → Type 0) (old new : Option (List ℕ)) → ((out : List ℕ) → P out → Q out) → Tells P old new → Tells Q old new
tells-more P Q (Some old) (Some new) f (out, e, p) = (out, e, f out p)
tells-more P Q (Some old) None f t = absurd t
tells-more P Q None (Some new) f t = absurd t
tells-more P Q None None f (out, p) = (out, f out p)

-- what is told after bytes that were appended
pub tells-after : (P Q : List ℕ → Type 0) (old mid new : Option (List ℕ)) (out : List ℕ) → ((more : List ℕ) → P more → Q (out ++ more)) → Appends old mid out → Tells P mid new → Tells Q old new
tells-after P Q (Some old) (Some mid) (Some new) out f h (more, e, p) = (out ++ more, e ∙ ap (λ (t : List ℕ). t ++ more) h ∙ append_assoc old out more, f more p)
tells-after P Q (Some old) (Some mid) None out f h t = absurd t
tells-after P Q (Some old) None new out f h t = absurd h
tells-after P Q None (Some mid) new out f h t = absurd h
tells-after P Q None None (Some new) out f h t = absurd t
tells-after P Q None None None out f h (more, p) = (out ++ more, f more p)

pub sent : (status : Status) (text : List ℕ) (old new : Option (List ℕ)) (before after : ℕ) → Appends old new text → Ends (IsFixed status text) status old new before after
sent status text old new before after h = inr (tells-line (IsFixed status text status) old new text (refl, refl) h)

pub failed : (status : Status) (text : List ℕ) (old new : Option (List ℕ)) (before after : ℕ) → Tells (IsFrontOf (λ whole. whole ≡ text)) old new → Rose before after
    → Ends (IsFixed status text) WriteFault old new before after
failed status text old new before after t rose = inl (refl, rose, tells-more _ _ old new (λ out f. (f.0, (status, (refl, f.1)))) t)

-- an end by one answer is one by another, where each of the first is one of the second
pub ends-more : (P Q : Status → List ℕ → Type 0) (status : Status) (old new : Option (List ℕ)) (before after : ℕ) → ((s : Status) (out : List ℕ) → P s out → Q s out)
    → Ends P status old new before after → Ends Q status old new before after
ends-more P Q status old new before after f (inl (e, rose, t)) = inl (e, rose, tells-more _ _ old new (λ out p. (p.0, (p.1.0, f p.1.0 (out ++ p.0) p.1.1))) t)
ends-more P Q status old new before after f (inr t) = inr (tells-more (P status) (Q status) old new (f status) t)

pub ends-fixed : (P : Status → List ℕ → Type 0) (fixed status : Status) (text : List ℕ) (old new : Option (List ℕ)) (before after : ℕ) → P fixed text
    → Ends (IsFixed fixed text) status old new before after → Ends P status old new before after
ends-fixed P fixed status text old new before after p e =
    ends-more (IsFixed fixed text) P status old new before after (λ s out f. subst (λ (t : List ℕ). P s t) (sym f.1) (subst (λ (u : Status). P u text) (sym f.0) p)) e
