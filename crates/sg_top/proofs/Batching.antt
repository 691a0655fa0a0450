-- The lines of a batch, one after another.
--   Answered            some lines were answered and others are left: what was appended so far, and how it goes on
--   answered-none       none was answered yet
--   answered-more       one more
--   answered-all        none is left
--   answered-memory     the next one is out of memory
--   on-err, on-ok, rises    what a call says, where a test tells how it ended; a count rose
--   answered-fault      the answer to the next one isn't taken whole
use Rattle.std.specs.Prelude.{◌≡◌, ℕ, ◌≤◌, Bool, true, false, Result, Ok, Err, OnOk, OnErr, is_err, List, [], ◌∷◌, ◌++◌, Option, Some, None, codes}
use Rattle.std.proofs.Common.{refl, sym, ap, subst, ◌∙◌, inl, inr, append_assoc, arith}
use Rattle.std.proofs.lemmas.List.{append-nil}
use Rattle.sg_io.specs.Bytes.{Appends, Rose}
use Rattle.sg_top.specs.Answer.{IsLineAnswer, IsBatch, ended, stopped, answered, Tells, IsFrontOf}
use Rattle.sg_top.specs.Ending.{Ends, IsFixed}
use Rattle.sg_top.specs.declared.status.Status.{Status}
use Rattle.sg_top.specs.declared.status.Status.TheVariants.{Done, Memory, WriteFault}
use Rattle.sg_top.proofs.Sending.{tells-line, tells-after}

pub record Answered (lines left : List (List (List ℕ))) (old new : Option (List ℕ)) : Type 0 where
  pub out : List ℕ
  pub sent : Appends old new out
  pub goes_on : (s : Status) (rest : List ℕ) → IsBatch left s rest → IsBatch lines s (out ++ rest)

nothing : (old : Option (List ℕ)) → Appends old old []
nothing (Some old) = sym (append-nil old)
nothing None = tt

both : (old mid new : Option (List ℕ)) (a b : List ℕ) → Appends old mid a → Appends mid new b → Appends old new (a ++ b)
both (Some old) (Some mid) (Some new) a b h k = k ∙ ap (λ (t : List ℕ). t ++ b) h ∙ append_assoc old a b
both (Some old) (Some mid) None a b h k = absurd k
both (Some old) None new a b h k = absurd h
both None (Some mid) new a b h k = absurd h
both None None (Some new) a b h k = absurd k
both None None None a b h k = tt

pub answered-none : (lines : List (List (List ℕ))) (old : Option (List ℕ)) → Answered lines lines old old
answered-none lines old = record { out = []; sent = nothing old; goes_on = λ s rest b. b }

pub answered-more : (lines left : List (List (List ℕ))) (words : List (List ℕ)) (old mid new : Option (List ℕ)) (status : Status) (text : List ℕ)
    → Answered lines (words ∷ left) old mid → IsLineAnswer words status text → Appends mid new text → Answered lines left old new
answered-more lines left words old mid new status text a line h = record {
  out = a.out ++ text;
  sent = both old mid new a.out text a.sent h;
  goes_on = λ s rest b. subst (λ (t : List ℕ). IsBatch lines s t) (sym (append_assoc a.out text rest)) (a.goes_on s (text ++ rest) (answered status text rest line b));
}

pub answered-all : (lines : List (List (List ℕ))) (old new : Option (List ℕ)) → Answered lines [] old new → Tells (IsBatch lines Done) old new
answered-all lines old new a = tells-line (IsBatch lines Done) old new a.out (subst (λ (t : List ℕ). IsBatch lines Done t) (append-nil a.out) (a.goes_on Done [] ended)) a.sent

memory-next : (lines left : List (List (List ℕ))) (words : List (List ℕ)) (old mid : Option (List ℕ)) (a : Answered lines (words ∷ left) old mid) (s : Status) (more : List ℕ)
    → IsFixed Memory (codes "memory\n") s more → IsBatch lines s (a.out ++ more)
memory-next lines left words old mid a s more (e, f) = subst (λ (t : List ℕ). IsBatch lines s (a.out ++ t)) (sym f) (subst (λ (u : Status). IsBatch lines u (a.out ++ codes "memory\n")) (sym e) (a.goes_on Memory (codes "memory\n") stopped))

-- first bytes of what follows are first bytes of the whole
front-after : (lines : List (List (List ℕ))) (out more rest : List ℕ) (s : Status) → IsBatch lines s (out ++ (more ++ rest)) → IsFrontOf (λ whole. (u : Status) × IsBatch lines u whole) (out ++ more)
front-after lines out more rest s b = (rest, (s, subst (λ (t : List ℕ). IsBatch lines s t) (sym (append_assoc out more rest)) b))

pub answered-memory : (lines left : List (List (List ℕ))) (words : List (List ℕ)) (old mid new : Option (List ℕ)) (status : Status) (before between after : ℕ)
    → Answered lines (words ∷ left) old mid → (Rose between after → Rose before after) → Ends (IsFixed Memory (codes "memory\n")) status mid new between after → Ends (IsBatch lines) status old new before after
answered-memory lines left words old mid new status before between after a rises (inl (e, rose, t)) =
    inl (
      e,
      rises rose,
      tells-after _ (IsFrontOf (λ whole. (u : Status) × IsBatch lines u whole)) old mid new a.out
          (λ more f. front-after lines a.out more f.0 f.1.0 (memory-next lines left words old mid a f.1.0 (more ++ f.0) f.1.1)) a.sent t,
    )
answered-memory lines left words old mid new status before between after a rises (inr t) =
    inr (tells-after (IsFixed Memory (codes "memory\n") status) (IsBatch lines status) old mid new a.out (memory-next lines left words old mid a status) a.sent t)

-- each batch has an end
some-end : (lines : List (List (List ℕ))) → (s : Status) × (out : List ℕ) × IsBatch lines s out
some-end [] = (Done, [], ended)
some-end (words ∷ lines) = (Memory, codes "memory\n", stopped)

pub answered-fault : (lines left : List (List (List ℕ))) (words : List (List ℕ)) (old mid new : Option (List ℕ)) (status : Status) (text : List ℕ) (before after : ℕ)
    → Answered lines (words ∷ left) old mid → IsLineAnswer words status text → Tells (IsFrontOf (λ whole. whole ≡ text)) mid new → Rose before after → Ends (IsBatch lines) WriteFault old new before after
answered-fault lines left words old mid new status text before after a line t rose =
    let (s, rest, end) = some-end left in
    inl (
      refl,
      rose,
      tells-after _ (IsFrontOf (λ whole. (u : Status) × IsBatch lines u whole)) old mid new a.out
          (λ more f. let whole : text ++ rest ≡ more ++ (f.0 ++ rest) = ap (λ (x : List ℕ). x ++ rest) (sym f.1) ∙ append_assoc more f.0 rest in
          front-after lines a.out more (f.0 ++ rest) s (subst (λ (x : List ℕ). IsBatch lines s (a.out ++ x)) whole (a.goes_on s (text ++ rest) (answered status text rest line end)))) a.sent t,
    )

-- what a call says of its error, where a test tells that there is one; and of its value
pub on-err : {T E : Type 0} (P : Type 0) (r : Result T E) (b : Bool) → OnErr r P → b ≡ is_err r → b ≡ true → P
on-err P (Ok x) b h e f = let no_truth : false ≡ true = sym e ∙ f in absurd (cc)
on-err P (Err x) b h e f = h

pub on-ok : {T E : Type 0} (P : Type 0) (r : Result T E) (b : Bool) → OnOk r P → b ≡ is_err r → b ≡ false → P
on-ok P (Ok x) b h e f = h
on-ok P (Err x) b h e f = let no_truth : true ≡ false = sym e ∙ f in absurd (cc)

pub rises : (before between after : ℕ) → before ≤ between → Rose between after → Rose before after
rises before between after h r = omega arith
