-- The meaning of an input port of a station in memory.
use Rattle.std.specs.Prelude.{◌≡◌, ◌≤◌, ℕ, min, take, Result, Ok, Err, List, [], length, drop, Option, None, Some}
use Rattle.std.specs.Prelude.{is_some}
use Rattle.std.specs.Option.{option_copied}
use Rattle.station_core.specs.declared.station.Failed.{Failed}
use Rattle.station_core.specs.declared.source.Reading.{Reading}
use Rattle.station_core.specs.Meaning.{Source}
use Rattle.station_core.specs.Files.{Files, content_at}

-- the bytes left to read of an attached file, from a position on
abbrev pub left_of : Files → Option ℕ → ℕ → List ℕ
left_of fs None at = []
left_of fs (Some i) at = drop at (content_at fs i)

-- the state of an input port
abbrev pub source_of : Files → Reading → Source
source_of fs r = record { asked = option_copied r.asked; attached = is_some r.file; left = left_of fs r.file r.at }

-- A read of n bytes takes them from what is left. It never takes more than the buffer holds or than `most`.
pub record Reads (fs : Files) (most : ℕ) (old new : Reading) (n : ℕ) (buf : List ℕ) : Type 0 where
  pub source : source_of fs new ≡ record (source_of fs old) { left = drop n (left_of fs old.file old.at) }
  pub within : n ≤ length (left_of fs old.file old.at)
  pub bytes : take n buf ≡ take n (left_of fs old.file old.at)
  pub bound : n ≤ length buf
  pub end : n ≡ 0 → left_of fs old.file old.at ≡ []
  pub amount : n ≡ min (min most (length buf)) (length (left_of fs old.file old.at))

-- a read returns bytes, or fails and leaves the port unchanged
abbrev pub ReadsOrFails : Files → ℕ → Reading → Reading → Result ℕ Failed → List ℕ → Type 0
ReadsOrFails fs most old new (Ok n) buf = Reads fs most old new n buf
ReadsOrFails fs most old new (Err e) buf = source_of fs new ≡ source_of fs old
