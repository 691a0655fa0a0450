-- A source that is read whole as long as its lines fit a batch. What is left of it is told before and after, or not told.
--   Told       these bytes are what is told, where it is told
--   IsWhole    these bytes were left, they fit a batch, and none is left
--   IsLarge    what was left doesn't fit a batch; what was read before the last read did, and with it no more does
--   IsUnread   why it isn't read whole; after a fault its count of faults rose
use Rattle.std.specs.Prelude.{◌≡◌, ℕ, ◌≤◌, true, false, List, [], ◌++◌, length, Option, Some, None}
use Rattle.sg_io.specs.Bytes.{Rose}
use Rattle.sg_lines.specs.Lines.{lines_of, fits_batch}
use Rattle.sg_lines.specs.declared.whole.Unread.{Unread}
use Rattle.sg_lines.specs.declared.whole.Unread.TheVariants.{Large, Fault, Memory}

abbrev pub Told : Option (List ℕ) → List ℕ → Type 0
Told None bytes = Unit {0}
Told (Some told) bytes = told ≡ bytes

pub record IsWhole (left left_after : Option (List ℕ)) (bytes : List ℕ) : Type 0 where
  pub told : Told left bytes
  pub at_end : Told left_after []
  pub fits : fits_batch (lines_of bytes) ≡ true

-- at most 4,096 bytes are read at once
pub record IsLarge (left left_after : Option (List ℕ)) : Type 0 where
  pub before : List ℕ
  pub last : List ℕ
  pub after : List ℕ
  pub told : Told left (before ++ last ++ after)
  pub told_after : Told left_after after
  pub large : fits_batch (lines_of (before ++ last ++ after)) ≡ false
  pub fits_before : fits_batch (lines_of before) ≡ true
  pub room : length last ≤ 4096
  pub certain : fits_batch (lines_of (before ++ last)) ≡ false

abbrev pub IsUnread : Unread → Option (List ℕ) → Option (List ℕ) → ℕ → ℕ → Type 0
IsUnread Large left left_after faults faults_after = IsLarge left left_after
IsUnread Fault left left_after faults faults_after = Rose faults faults_after
IsUnread (Memory want) left left_after faults faults_after = Unit {0}
