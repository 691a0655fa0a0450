-- The lines of a text, and the words of a line.
--   with_byte       a byte before the first piece
--   pieces          what stands between the separators; an empty rest after the last one is no piece
--   lines_of        the lines of a text: each ends with a line feed, and the last may lack it
--   without_empty   the pieces that aren't empty
--   words_in        the words of a line, which blanks separate
--   most_lines, most_bytes     how many lines a batch may have, and how many bytes a line, without its line feed
--   short_lines     no line is too long
--   fits_batch      not too many lines, and none too long
use Rattle.std.specs.Prelude.{ℕ, ◌==◌, nat_le, cond, Bool, true, ◌&&◌, List, [], ◌∷◌, length}

abbrev pub with_byte : ℕ → List (List ℕ) → List (List ℕ)
with_byte b [] = (b ∷ []) ∷ []
with_byte b (l ∷ ls) = (b ∷ l) ∷ ls

abbrev pub pieces : ℕ → List ℕ → List (List ℕ)
pieces separator [] = []
pieces separator (b ∷ bs) = cond (b == separator) ([] ∷ pieces separator bs) (with_byte b (pieces separator bs))

abbrev pub lines_of : List ℕ → List (List ℕ)
lines_of bytes = pieces 10 bytes

abbrev pub without_empty : List (List ℕ) → List (List ℕ)
without_empty [] = []
without_empty ([] ∷ ws) = without_empty ws
without_empty ((b ∷ w) ∷ ws) = (b ∷ w) ∷ without_empty ws

abbrev pub words_in : List ℕ → List (List ℕ)
words_in line = without_empty (pieces 32 line)

abbrev pub most_lines : ℕ
most_lines = 1000

abbrev pub most_bytes : ℕ
most_bytes = 4096

abbrev pub short_lines : List (List ℕ) → Bool
short_lines [] = true
short_lines (l ∷ ls) = nat_le (length l) most_bytes && short_lines ls

abbrev pub fits_batch : List (List ℕ) → Bool
fits_batch lines = nat_le (length lines) most_lines && short_lines lines
