-- The position of a stream's encoder in its known bits.
use Rattle.std.specs.Prelude.{◌≡◌, ℕ, ◌+◌, ◌-◌, ◌≤◌, ◌⊎◌, ◌&&◌, ◌||◌, nat_le, not, Bool, List, [], length, take, drop}
use Rattle.mode_set.specs.declared.modes.Stream.{Stream}
use Rattle.mode_set.specs.declared.settings.Settings.{Settings}
use Rattle.symbol_parameters.specs.Spans.{steps_before}
use Rattle.puncture.specs.SentBits.{bits_from}
use Rattle.mode_set.specs.StreamTable.{has_stream, need}
use Rattle.measurement.specs.Known.{known_path, is_zero}
use Rattle.measure_known_bits.specs.Seen.{KnownState}

-- the steps that the encoder has passed
abbrev pub passed : KnownState → ℕ
passed k = k.before - k.lag

-- Before symbol m the encoder has passed all steps except the last `lag`. Its register holds the six bits of the path
-- before the next step, and the known bits after these are pending.
pub record HasPassed (s : Settings) (σ : Stream) (m : ℕ) (k : KnownState) (register known : List Bool) : Type 0 where
  pub before : k.before ≡ steps_before s σ m
  pub lag : k.lag ≤ k.before
  pub within : passed k ≤ length known
  pub waiting : k.waiting ≡ drop (passed k) known
  pub register_is : register ≡ bits_from (known_path known) (passed k) 6

-- the encoder has passed n of the pending bits
pub record Skips (old new old_register new_register : List Bool) (n : ℕ) : Type 0 where
  pub waiting : new ≡ drop n old
  pub register : (path : ℕ → Bool) (t : ℕ) → old_register ≡ bits_from path t 6 → take n old ≡ bits_from path (t + 6) n
      → new_register ≡ bits_from path (t + n) 6

-- it has passed all steps before the symbol, or all known bits
abbrev pub IsSettled : KnownState → Type 0
IsSettled k = (k.lag ≡ 0) ⊎ (k.waiting ≡ [])

-- a symbol of these parameters is without the stream; or the known bits reach the end of its steps, and the register
-- before them is known
abbrev pub has_bits : Settings → Stream → KnownState → Bool
has_bits s σ k = not (has_stream s.hierarchy σ) || (nat_le (k.lag + need s σ) (length k.waiting) &&
    (is_zero s.start || nat_le 6 k.before))
