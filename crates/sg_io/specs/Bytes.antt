-- Bytes that are told or not, and counts of faults.
--   Appends    what is held grew by these bytes, where it is told; what is told stays told
--   Gives      the bytes given were the next ones, where they are told; a buffer with room got none only at the end
--   Rose       a count rose, or stands at the last value of a counter of 64 bits
--   counted    the count after one more, which stops at that last value
use Rattle.std.specs.Prelude.{◌≡◌, ℕ, ◌+◌, ◌-◌, ◌^◌, ◌<◌, ◌≤◌, min, List, [], ◌++◌, Option, Some, None}

abbrev pub Appends : Option (List ℕ) → Option (List ℕ) → List ℕ → Type 0
Appends (Some old) (Some new) bytes = new ≡ old ++ bytes
Appends (Some old) None bytes = ⊥
Appends None (Some new) bytes = ⊥
Appends None None bytes = Unit {0}

-- the number is the buffer's length
abbrev pub Gives : Option (List ℕ) → Option (List ℕ) → ℕ → List ℕ → Type 0
Gives (Some old) (Some new) room bytes = (old ≡ bytes ++ new) × (0 < room → bytes ≡ [] → old ≡ [])
Gives (Some old) None room bytes = ⊥
Gives None (Some new) room bytes = ⊥
Gives None None room bytes = Unit {0}

abbrev pub counted : ℕ → ℕ
counted n = min (n + 1) (2 ^ 64 - 1)

abbrev pub Rose : ℕ → ℕ → Type 0
Rose old new = counted old ≤ new
