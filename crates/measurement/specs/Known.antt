-- The decided bits known for a symbol, and the cells remade from them (this project's profile).
use Rattle.std.specs.Prelude.{ℕ, ◌+◌, ◌*◌, ◌<◌, ◌≤◌, ◌%◌, nat_le, ◌&&◌, ◌||◌, not, Bool, true, false, List, ◌++◌}
use Rattle.std.specs.Prelude.{length, take, replicate}
use Rattle.spec_words.specs.Bits.{bit}
use Rattle.code_paths.specs.Streams.{Given, Ended}
use Rattle.mode_set.specs.StreamTable.{has_stream}
use Rattle.mode_set.specs.declared.modes.Start.{Start}
use Rattle.mode_set.specs.declared.modes.Start.TheVariants.{Zero, Any}
use Rattle.mode_set.specs.declared.modes.Stream.{Stream}
use Rattle.mode_set.specs.declared.modes.Stream.TheVariants.{Hp, Lp}
use Rattle.mode_set.specs.declared.settings.Settings.{Settings}
use Rattle.symbol_parameters.specs.Spans.{settings_at, steps_before}
use Rattle.symbol_interleave.specs.Carried.{is_odd}
use Rattle.inner_chain.specs.Labels.{Paths, from_step, label_bit, coded_bits}
use Rattle.measure_sums.specs.Comparing.{Comparison}
use Rattle.reception.specs.Cells.{symbol_length, symbols, symbol_cells, symbol_weights}
use Rattle.reception.specs.Costs.{costs}
use Rattle.reception.specs.Streams.{memory, start_of}

-- the bytes of the first n symbols
abbrev pub first_symbols : Settings → ℕ → List ℕ → List ℕ
first_symbols s n bytes = take (n * symbol_length s) bytes

-- the bits of a stream known for symbol m: those given of the first m + 4 symbols, or those at the end if there are
-- fewer whole symbols
pub record IsKnown (s : Settings) (bytes : List ℕ) (σ : Stream) (m : ℕ) (bits : List Bool) : Type 0 where
  pub so_far : m + 4 ≤ symbols s bytes → Given memory (start_of s.start) (costs s (first_symbols s (m + 4) bytes) σ)
      bits
  pub at_end : symbols s bytes < m + 4 → Ended memory (start_of s.start) (costs s bytes σ) bits

-- the path of known bits: six zeros, then the bits, for any start
abbrev pub known_path : List Bool → ℕ → Bool
known_path bits = bit (replicate 6 false ++ bits)

-- the paths of both streams from the first step of symbol m on
abbrev pub known_paths : Settings → (Stream → List Bool) → ℕ → Paths
known_paths s known m σ = from_step (known_path (known σ)) (steps_before s σ m)

-- whether a stream exists in symbol m
abbrev pub is_present : Settings → ℕ → Stream → Bool
is_present s m σ = has_stream (settings_at s m).hierarchy σ

-- the cells begin with the transmission
abbrev pub is_zero : Start → Bool
is_zero Zero = true
is_zero Any = false

-- the known bits of a stream reach the end of symbol m and, for start any, the register before it is known; or the
-- stream does not exist there
abbrev pub suffices : Settings → ℕ → (Stream → List Bool) → Stream → Bool
suffices s m known σ = not (is_present s m σ) || (nat_le (steps_before s σ (m + 1)) (length (known σ)) &&
    (is_zero s.start || nat_le 6 (steps_before s σ m)))

-- symbol m is compared if the known bits of each of its streams suffice
unfoldable pub is_compared : Settings → ℕ → (Stream → List Bool) → Bool
is_compared s m known = suffices s m known Hp && suffices s m known Lp

-- remade bit e on payload carrier q of symbol m: the coded bit at that position, from the symbol's sent bits of the
-- known paths
unfoldable pub remade_bit : Settings → (Stream → List Bool) → ℕ → ℕ → ℕ → Bool
remade_bit s known m q e = label_bit (settings_at s m) (is_odd m) (coded_bits (settings_at s m) (known_paths s known m))
    q e

-- symbol m of the bytes with its remade labels
unfoldable pub comparison : Settings → List ℕ → (Stream → List Bool) → ℕ → Comparison
comparison s bytes known m = record {
  settings = settings_at s m;
  cells = symbol_cells s bytes m;
  weights = symbol_weights s bytes m;
  symbol = m % 68;
  labels = remade_bit s known m;
}
