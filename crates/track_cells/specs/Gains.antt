-- The gains of a symbol as lists.
use Rattle.std.specs.Prelude.{◌≡◌, ℕ, ◌^◌, ◌<◌, List, length, get_or, flat_map, slice_index}
use Rattle.spec_words.specs.Words.{numbers}
use Rattle.mode_set.specs.declared.modes.Guard.{Guard}
use Rattle.mode_set.specs.declared.modes.Mode.{Mode}
use Rattle.qam_map.specs.Cells.{cell_of}
use Rattle.qam_map.specs.declared.cell.Cell.{Cell}
use Rattle.tracking.specs.Comb.{points}
use Rattle.tracking.specs.Correction.{corrected}
use Rattle.tracking.specs.InFrequency.{carrier_gain, centred}
use Rattle.tracking.specs.Tracking.{bytes_of}
use Rattle.track_arithmetic.specs.Laws.{IsWithin}
use Rattle.track_arithmetic.specs.Numbers.{nothing}
use Rattle.track_arithmetic.specs.declared.complex.Complex.{Complex}

-- gain k
abbrev pub gain_of : List Complex → ℕ → Complex
gain_of gains k = get_or gains k nothing

-- no part of a gain exceeds n
abbrev pub AreWithin : ℕ → List Complex → Type 0
AreWithin n gains = (k : ℕ) → k < length gains → IsWithin n (gain_of gains k)

-- the bytes of the first n carriers after correction
unfoldable pub corrected_bytes : ℕ → List Complex → List Cell → List ℕ → ℕ → List ℕ
corrected_bytes full gains cells weights n = flat_map (λ k. bytes_of
    (corrected full (gain_of gains k) (cell_of cells k) (slice_index weights k))) (numbers n)

-- the gains at the points of a symbol, turned so that the middle of the guard interval has no delay
abbrev pub AreCentred : Guard → Mode → (ℕ → Complex) → List Complex → Type 0
AreCentred guard mode gains list = (j : ℕ) → j < points mode → gain_of list j ≡ centred guard gains j

-- the gains of the first n carriers are those of the definition
abbrev pub AreGains : Guard → Mode → (ℕ → Complex) → ℕ → List Complex → Type 0
AreGains guard mode gains n list = (k : ℕ) → k < n → gain_of list k ≡ carrier_gain guard mode gains k

-- no part of the first n gains exceeds 2^25
abbrev pub AreSmall : ℕ → List Complex → Type 0
AreSmall n list = (k : ℕ) → k < n → IsWithin (2 ^ 25) (gain_of list k)
