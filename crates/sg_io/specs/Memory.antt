-- A source and a sink in memory, which fail at the calls that they are told. Calls are counted from 1.
--   SinkState, SourceState    what they are: the bytes held or left, what bounds a call, the calls to fail at, the calls and faults so far
--   fails_next                whether the next call is listed
--   has_no_room               whether a nonempty piece comes where no room is left
--   taken, given              how many bytes the next write takes, the next read gives
--   after_write, after_read   what they are after a call that took or gave so many bytes
--   after_fault               what they are after a call that failed
use Rattle.std.specs.Prelude.{ℕ, ◌-◌, ◌==◌, min, Bool, ◌&&◌, ◌||◌, nat_lt, nat_le, List, ◌++◌, length, take, drop}
use Rattle.std.specs.List.{list_any}
use Rattle.sg_io.specs.Bytes.{counted}

pub record SinkState : Type 0 where
  pub held : List ℕ
  pub room : ℕ
  pub step : ℕ
  pub fails : List ℕ
  pub calls : ℕ
  pub faults : ℕ

pub record SourceState : Type 0 where
  pub left : List ℕ
  pub step : ℕ
  pub fails : List ℕ
  pub calls : ℕ
  pub faults : ℕ

abbrev pub fails_next : List ℕ → ℕ → Bool
fails_next fails calls = list_any (λ call. call == counted calls) fails

abbrev pub has_no_room : SinkState → List ℕ → Bool
has_no_room s piece = nat_lt 0 (length piece) && nat_le s.room (length s.held)

abbrev pub refuses : SinkState → List ℕ → Bool
refuses s piece = fails_next s.fails s.calls || has_no_room s piece

abbrev pub taken : SinkState → List ℕ → ℕ
taken s piece = min (length piece) (min s.step (s.room - length s.held))

abbrev pub given : SourceState → ℕ → ℕ
given s room = min room (min s.step (length s.left))

abbrev pub after_write : SinkState → List ℕ → SinkState
after_write s piece = record s { held = s.held ++ take (taken s piece) piece; calls = counted s.calls }

abbrev pub after_write_fault : SinkState → SinkState
after_write_fault s = record s { calls = counted s.calls; faults = counted s.faults }

abbrev pub after_read : SourceState → ℕ → SourceState
after_read s room = record s { left = drop (given s room) s.left; calls = counted s.calls }

abbrev pub after_read_fault : SourceState → SourceState
after_read_fault s = record s { calls = counted s.calls; faults = counted s.faults }
