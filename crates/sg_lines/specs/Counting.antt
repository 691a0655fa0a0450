-- The lines of a text, counted byte by byte: `lines` have begun, and the open one has `bytes` so far, 0 where none is open.
--   no_line        before the first byte
--   after_byte     the count after one more byte
--   fits_so_far    what was counted fits a batch
--   fits_from      each count fits on the way through what follows
--   IsSmall        what was counted fits a batch
--   HoldsAtMost    how many bytes there can be, by the count
--   IsAfter        the count after a text
--   IsLong         a text after which nothing makes the whole fit
use Rattle.std.specs.Prelude.{◌≡◌, ℕ, ◌+◌, ◌*◌, ◌≤◌, ◌<◌, ◌==◌, nat_le, cond, Bool, true, false, ◌&&◌, List, [], ◌∷◌, ◌++◌, length}
use Rattle.sg_lines.specs.Lines.{most_lines, most_bytes}
use Rattle.sg_lines.specs.declared.whole.Count.{Count}

abbrev pub no_line : Count
no_line = record { lines = 0; bytes = 0 }

abbrev pub after_byte : ℕ → Count → Count
after_byte b c = record { lines = cond (c.bytes == 0) (c.lines + 1) c.lines; bytes = cond (b == 10) 0 (c.bytes + 1) }

abbrev pub fits_so_far : Count → Bool
fits_so_far c = nat_le c.lines most_lines && nat_le c.bytes most_bytes

abbrev pub fits_from : Count → List ℕ → Bool
fits_from c [] = true
fits_from c (b ∷ bs) = fits_so_far (after_byte b c) && fits_from (after_byte b c) bs

abbrev pub IsSmall : Count → Type 0
IsSmall c = (c.lines ≤ 1000) × (c.bytes ≤ 4096)

-- each line but the open one has a line feed beside its bytes
abbrev pub HoldsAtMost : Count → ℕ → Type 0
HoldsAtMost c total = (c.bytes ≡ 0 → total ≤ c.lines * 4097) × (0 < c.bytes → total + 4097 ≤ c.lines * 4097 + c.bytes)

pub record IsAfter (before : Count) (text : List ℕ) (c : Count) : Type 0 where
  pub small : IsSmall c
  pub same : (rest : List ℕ) → fits_from before (text ++ rest) ≡ fits_from c rest
  pub most : (total : ℕ) → HoldsAtMost before total → HoldsAtMost c (total + length text)

abbrev pub IsLong : Count → List ℕ → Type 0
IsLong before text = (rest : List ℕ) → fits_from before (text ++ rest) ≡ false
