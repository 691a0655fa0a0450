-- The words of a command.
--   IsNumberWord     an optional minus and digits, for a number within a range; it is the number z
--   Ranged           a number with the range that it keeps
--   limit, point, parameter     a lower limit; a place at which a value is asked for, and the parameter there
--   seed_number, count_number   a seed of samples, and how many there are
--   NumbersThen      words for these numbers in turn, and then the rest
--   Says             a word, words for these numbers, and then the rest
--   after_with       further texts, after the word `with` where there are any
--   with_further     a text and further ones, as they stand among the words
--   HasTexts         so many texts the command may have
--   IsCommand        the words are this command for these texts
--   IsNoCommand      they are no command
--   IsBatchWord      they ask for the answers to the lines of a source
--   IsGenWords       they ask for the sums of so many samples of this seed
use Rattle.std.specs.Prelude.{◌≡◌, ◌≢◌, ℕ, ◌≤◌, ◌≤ℤ◌, List, [], ◌∷◌, length, ℤ, pos, negsuc, codes, slice_index}
use Rattle.std.specs.Str.Parse.{IsNumeral, without_leading_sign, signed_digits_value}
use Rattle.sg_words.specs.declared.asked.Command.{Command}
use Rattle.sg_words.specs.declared.asked.Command.TheVariants.{Sum, Tower, Simplify, Check, Value, ValueAtParameter}

-- a plus is no sign of a number word
pub record IsNumberWord (low high : ℤ) (word : List ℕ) (z : ℤ) : Type 0 where
  pub no_plus : slice_index word 0 ≢ 43
  pub digits : IsNumeral 10 (without_leading_sign word)
  pub value : z ≡ signed_digits_value 10 word
  pub not_low : low ≤ℤ z
  pub not_high : z ≤ℤ high

pub record Ranged : Type 0 where
  pub low : ℤ
  pub high : ℤ
  pub value : ℤ

-- from -1,000 to 1,000
abbrev pub limit : ℤ → Ranged
limit a = record { low = negsuc 999; high = pos 1000; value = a }

-- from -100,000 to 100,000
abbrev pub point : ℤ → Ranged
point k = record { low = negsuc 99999; high = pos 100000; value = k }

-- from 0 to 100,000
abbrev pub parameter : ℤ → Ranged
parameter n = record { low = pos 0; high = pos 100000; value = n }

-- from 0 to 2^64 - 1
abbrev pub seed_number : ℕ → Ranged
seed_number seed = record { low = pos 0; high = pos 18446744073709551615; value = pos seed }

-- from 0 to 1,000
abbrev pub count_number : ℕ → Ranged
count_number count = record { low = pos 0; high = pos 1000; value = pos count }

abbrev pub NumbersThen : List Ranged → List (List ℕ) → List (List ℕ) → Type 0
NumbersThen [] rest words = words ≡ rest
NumbersThen (r ∷ rs) rest [] = ⊥
NumbersThen (r ∷ rs) rest (w ∷ ws) = IsNumberWord r.low r.high w r.value × NumbersThen rs rest ws

abbrev pub Says : List ℕ → List Ranged → List (List ℕ) → List (List ℕ) → Type 0
Says word numbers rest [] = ⊥
Says word numbers rest (w ∷ ws) = (w ≡ word) × NumbersThen numbers rest ws

abbrev pub after_with : List (List ℕ) → List (List ℕ)
after_with [] = []
after_with (g ∷ gs) = codes "with" ∷ (g ∷ gs)

abbrev pub with_further : List (List ℕ) → List (List ℕ)
with_further [] = []
with_further (f ∷ gs) = f ∷ after_with gs

-- a line a command; at most eight texts stand after `with`
abbrev pub HasTexts : Command → ℕ → Type 0
HasTexts (Sum a) n = (1 ≤ n) × (n ≤ 9)
HasTexts Tower n = n ≡ 1
HasTexts (Simplify a) n = n ≡ 1
HasTexts (Check a) n = n ≡ 2
HasTexts (Value k) n = n ≡ 1
HasTexts (ValueAtParameter m k) n = n ≡ 1

-- a line a command
abbrev pub IsCommand : List (List ℕ) → Command → List (List ℕ) → Type 0
IsCommand words (Sum a) texts = Says (codes "sum") (limit a ∷ []) (with_further texts) words × HasTexts (Sum a) (length texts)
IsCommand words Tower texts = Says (codes "tower") [] texts words × HasTexts Tower (length texts)
IsCommand words (Simplify a) texts = Says (codes "simplify") (limit a ∷ []) texts words × HasTexts (Simplify a) (length texts)
IsCommand words (Check a) texts = Says (codes "check") (limit a ∷ []) texts words × HasTexts (Check a) (length texts)
IsCommand words (Value k) texts = Says (codes "value") (point k ∷ []) texts words × HasTexts (Value k) (length texts)
IsCommand words (ValueAtParameter n k) texts =
    Says (codes "value") (point k ∷ (parameter n ∷ [])) texts words × HasTexts (ValueAtParameter n k) (length texts)

abbrev pub IsNoCommand : List (List ℕ) → Type 0
IsNoCommand words = (c : Command) (texts : List (List ℕ)) → IsCommand words c texts → ⊥

-- these two stand in no line of a batch
abbrev pub IsBatchWord : List (List ℕ) → Type 0
IsBatchWord words = words ≡ codes "batch" ∷ []

abbrev pub IsGenWords : List (List ℕ) → ℕ → ℕ → Type 0
IsGenWords words seed count = Says (codes "gen") (seed_number seed ∷ (count_number count ∷ [])) [] words
