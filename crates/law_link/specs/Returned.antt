-- The packets that a receiver gives for a transmission, and cells close to those of one.
use Rattle.std.specs.Prelude.{◌≡◌, ℕ, ◌-◌, ◌%◌, ◌<◌, ◌≤◌, IsTrue, List, Some}
use Rattle.mode_set.specs.StreamTable.{carriers}
use Rattle.mode_set.specs.declared.modes.Stream.{Stream}
use Rattle.mode_set.specs.declared.settings.Settings.{Settings}
use Rattle.pilots.specs.Carriers.{is_payload}
use Rattle.soft_metric.specs.Costs.{IsNear}
use Rattle.outer_chain.specs.Sent.{ArePackets, first_packets}
use Rattle.outer_chain.specs.Words.{Tally}
use Rattle.qam_map.specs.Cells.{cell_of}
use Rattle.inner_chain.specs.CostPairs.{weight_of}
use Rattle.symbol_parameters.specs.Spans.{settings_at, exists_in, words_before}
use Rattle.transmission.specs.Transmission.{Inputs, tx_cell}
use Rattle.transmission.specs.SuperFrames.{super_frames, counts_of, symbols_of}
use Rattle.reception.specs.Cells.{symbols, symbol_cells, symbol_weights}

-- the outer words of a stream that a receiver of n super-frames gets: all except the eleven of its start-up
abbrev pub words_of : Settings → Stream → ℕ → ℕ
words_of s σ n = words_before s σ n - 11

-- the received bytes of a stream: one packet for each of these words, its own packets and then null packets
abbrev pub returned : Settings → Inputs → Stream → ℕ → List ℕ
returned s inputs σ n = first_packets (inputs σ) (words_of s σ n)

-- each existing stream consists of packets
abbrev pub HavePackets : Settings → Inputs → Type 0
HavePackets s inputs = (σ : Stream) → IsTrue (exists_in s σ) → ArePackets (inputs σ)

-- the existing streams are received, if the transmission has a number of super-frames
abbrev pub IsReturned : Settings → Inputs → (Stream → List ℕ) → Type 0
IsReturned s inputs packets = (n : ℕ) (σ : Stream) → super_frames s (counts_of inputs) ≡ Some n → IsTrue (exists_in s σ)
    → packets σ ≡ returned s inputs σ n

-- all their words are clean
abbrev pub AreClean : Settings → Inputs → (Stream → Tally) → Type 0
AreClean s inputs tally = (n : ℕ) (σ : Stream) → super_frames s (counts_of inputs) ≡ Some n → IsTrue (exists_in s σ)
    → tally σ ≡ record { words = words_of s σ n; clean = words_of s σ n; corrected = 0; bad = 0; unphased = 0 }

-- The bytes have as many whole symbols as the transmission. Each cell on a payload carrier is within the tolerance of
-- the sent cell, by the settings of its symbol, on both axes, and has a weight of at least 1. All other cells and
-- weights are free, and so are bytes after the last whole symbol.
pub record IsWithin (s : Settings) (inputs : Inputs) (bytes : List ℕ) : Type 0 where
  pub all : symbols s bytes ≡ symbols_of s inputs
  pub near : (m k : ℕ) → m < symbols_of s inputs → k < carriers s.mode → IsTrue (is_payload s.mode (m % 68) k)
      → IsNear (settings_at s m).shape (settings_at s m).hierarchy (tx_cell s inputs m k)
      (cell_of (symbol_cells s bytes m) k)
  pub weight : (m k : ℕ) → m < symbols_of s inputs → k < carriers s.mode → IsTrue (is_payload s.mode (m % 68) k)
      → 1 ≤ weight_of (symbol_weights s bytes m) k
