-- What is left of a source while it is read.
--   Took        these bytes were taken of it, where it is told
--   took-none   nothing yet
--   took-more   the next ones
--   took-all    all is taken
--   none-left   none is left
--   some-taken  a read that gave something
--   large       what was read doesn't fit a batch
use Rattle.std.specs.Prelude.{◌≡◌, ℕ, ◌≤◌, ◌<◌, List, [], ◌++◌, length, take, Option, Some, None, true}
use Rattle.std.proofs.Common.{refl, sym, ap, ◌∙◌, subst, append_assoc, arith}
use Rattle.std.proofs.lemmas.List.{append-nil, length-take}
use Rattle.sg_io.specs.Bytes.{Gives}
use Rattle.sg_lines.specs.Lines.{lines_of, fits_batch}
use Rattle.sg_lines.specs.Counting.{no_line, IsAfter, IsLong}
use Rattle.sg_lines.specs.Whole.{Told, IsLarge}
use Rattle.sg_lines.specs.declared.whole.Count.{Count}
use Rattle.sg_lines.proofs.Counted.{fits-whole, large-whole, large-alone, long-then}

abbrev pub Took : Option (List ℕ) → Option (List ℕ) → List ℕ → Type 0
Took (Some old) (Some new) bytes = old ≡ bytes ++ new
Took (Some old) None bytes = ⊥
Took None (Some new) bytes = ⊥
Took None None bytes = Unit {0}

all-taken : (left mid after : Option (List ℕ)) (room : ℕ) (bytes : List ℕ) → Took left mid bytes → 0 < room → Gives mid after room [] → Told left bytes
all-taken (Some old) (Some mid) (Some new) room bytes t some g = t ∙ ap (λ (x : List ℕ). bytes ++ x) (g.1 some refl) ∙ append-nil bytes
all-taken (Some old) (Some mid) None room bytes t some g = absurd g
all-taken (Some old) None after room bytes t some g = absurd t
all-taken None mid after room bytes t some g = tt

left-nothing : (mid after : Option (List ℕ)) (room : ℕ) → 0 < room → Gives mid after room [] → Told after []
left-nothing (Some mid) (Some new) room some g = sym g.0 ∙ g.1 some refl
left-nothing (Some mid) None room some g = absurd g
left-nothing None (Some new) room some g = absurd g
left-nothing None None room some g = tt

pub took-none : (left : Option (List ℕ)) → Took left left []
took-none (Some old) = refl
took-none None = tt

pub took-more : (left mid after : Option (List ℕ)) (room : ℕ) (bytes more : List ℕ) → Took left mid bytes → Gives mid after room more → Took left after (bytes ++ more)
took-more (Some old) (Some mid) (Some new) room bytes more t g = t ∙ ap (λ (x : List ℕ). bytes ++ x) g.0 ∙ sym (append_assoc bytes more new)
took-more (Some old) (Some mid) None room bytes more t g = absurd g
took-more (Some old) None after room bytes more t g = absurd t
took-more None (Some mid) after room bytes more t g = absurd t
took-more None None (Some new) room bytes more t g = absurd g
took-more None None None room bytes more t g = tt

-- a read into room that gave nothing
pub took-all : (left mid after : Option (List ℕ)) (room n : ℕ) (bytes buf : List ℕ) → n ≡ 0 → 0 < room → Took left mid bytes → Gives mid after room (take n buf) → Told left bytes
took-all left mid after room n bytes buf e some t g = all-taken left mid after room bytes t some (subst (λ m. Gives mid after room (take m buf)) e g)

pub none-left : (mid after : Option (List ℕ)) (room n : ℕ) (buf : List ℕ) → n ≡ 0 → 0 < room → Gives mid after room (take n buf) → Told after []
none-left mid after room n buf e some g = left-nothing mid after room some (subst (λ m. Gives mid after room (take m buf)) e g)

rest-of : (left after : Option (List ℕ)) (bytes : List ℕ) → Took left after bytes → (rest : List ℕ) × Told left (bytes ++ rest) × Told after rest
rest-of (Some old) (Some new) bytes t = (new, t, refl)
rest-of (Some old) None bytes t = absurd t
rest-of None (Some new) bytes t = absurd t
rest-of None None bytes t = ([], tt, tt)

taken-size : (n : ℕ) (buf : List ℕ) → n ≤ 4096 → length (take n buf) ≤ 4096
taken-size n buf h = omega (arith, length-take n buf)

pub some-taken : (n : ℕ) (buf : List ℕ) → n ≤ length buf → (n ≡ 0 → ⊥) → 0 < length (take n buf)
some-taken n buf h positive = omega (arith, length-take n buf)

is-large : (left after : Option (List ℕ)) (before last : List ℕ) → ((rest : List ℕ) × Told left (before ++ last ++ rest) × Told after rest) → length last ≤ 4096 → fits_batch (lines_of before) ≡ true
    → IsLong no_line (before ++ last) → IsLarge left after
is-large left after before last (rest, told, told_after) size fits long = record {
  before = before;
  last = last;
  after = rest;
  told = told;
  told_after = told_after;
  large = large-whole (before ++ last) rest long;
  fits_before = fits;
  room = size;
  certain = large-alone (before ++ last) long;
}

-- what was read and what is left don't fit
pub large : (left mid after : Option (List ℕ)) (count : Count) (room n : ℕ) (bytes buf : List ℕ) → Took left mid bytes → Gives mid after room (take n buf) → n ≤ 4096
    → IsAfter no_line bytes count → IsLong count (take n buf) → IsLarge left after
large left mid after count room n bytes buf t g size a long = is-large left after bytes (take n buf) (rest-of left after (bytes ++ take n buf) (took-more left mid after room bytes (take n buf) t g))
    (taken-size n buf size) (fits-whole bytes count a) (long-then no_line count bytes (take n buf) a long)
