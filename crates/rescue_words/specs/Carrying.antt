-- The contents of the delay lines of margins: four deinterleavers, one for each byte of a margin.
use Rattle.std.specs.Prelude.{◌≡◌, ℕ, ◌*◌, ◌/◌, ◌%◌, ◌<◌, ◌^◌, List, length, map, take, All}
use Rattle.forney.specs.Values.{values, stream_of}
use Rattle.forney.specs.Interleaving.{deinterleaved}
use Rattle.forney.specs.Delays.{Delays, Deinterleaves}

-- four deinterleavers, one for each byte of a margin
pub record MarginDelays : Type 0 where
  pub first : Delays
  pub second : Delays
  pub third : Delays
  pub fourth : Delays

-- bits 0 to 7 of a margin, a number below 2^32
abbrev pub first_byte : ℕ → ℕ
first_byte m = m % 256

-- bits 8 to 15 of a margin
abbrev pub second_byte : ℕ → ℕ
second_byte m = m / 256 % 256

-- bits 16 to 23 of a margin
abbrev pub third_byte : ℕ → ℕ
third_byte m = m / 65_536 % 256

-- bits 24 to 31 of a margin
abbrev pub fourth_byte : ℕ → ℕ
fourth_byte m = m / 16_777_216 % 256

-- the lines after these margins
pub record Carries (lines : MarginDelays) (margins : List ℕ) : Type 0 where
  pub first : Deinterleaves lines.first (map first_byte margins)
  pub second : Deinterleaves lines.second (map second_byte margins)
  pub third : Deinterleaves lines.third (map third_byte margins)
  pub fourth : Deinterleaves lines.fourth (map fourth_byte margins)
  pub small : All (λ m. m < 2 ^ 32) margins

-- the delay lines, and the margins of the bytes of the unfinished word
pub record MarginState : Type 0 where
  pub lines : MarginDelays
  pub begun : List ℕ

-- the same if the margins of the unfinished word are the first `filled` of a list
abbrev pub made_of : MarginDelays → List ℕ → ℕ → MarginState
made_of lines word filled = record { lines = lines; begun = take filled word }

-- the state after these margins of interleaved bytes
pub record Holds (state : MarginState) (margins : List ℕ) : Type 0 where
  pub carries : Carries state.lines margins
  pub begun : state.begun ≡ values (deinterleaved (stream_of margins)) (204 * (length margins / 204))
      (length margins % 204)
