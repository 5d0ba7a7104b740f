-- The laws of a trial. Each is the clause of a public function of module laws.
use Rattle.std.specs.Prelude.{◌≡◌, ℕ, ◌+◌, ◌-◌, ◌*◌, ◌<◌, ◌≤◌, List, [], length, nat_abs, Some}
use Rattle.mode_set.specs.Plans.{entries_of}
use Rattle.mode_set.specs.StreamTable.{carriers}
use Rattle.mode_set.specs.declared.modes.Stream.{Stream}
use Rattle.mode_set.specs.declared.settings.Settings.{Settings}
use Rattle.ts_packet.specs.Packet.{null_packet}
use Rattle.load_gen.specs.Draws.{after, packet_of, packet_words}
use Rattle.qam_map.specs.declared.cell.Cell.{Cell}
use Rattle.frame_build.specs.Symbol.{cell_from}
use Rattle.outer_chain.specs.Sent.{packet_at}
use Rattle.outer_chain.specs.Words.{Tally}
use Rattle.transmission.specs.Transmission.{Inputs, tx_cell, tx_symbol}
use Rattle.transmission.specs.SuperFrames.{counts_of, super_frames, symbols_of}
use Rattle.reception.specs.Cells.{symbol_length}
use Rattle.reception.specs.Streams.{Reception, Final}
use Rattle.trial.specs.Drawn.{drawn, drawn_count, drawn_before, drawn_for, packets_from, trial_frames, trial_symbols}
use Rattle.trial.specs.Fed.{fed_symbol}

-- ---- packets

-- if the counts have a number of super-frames, as many packets of a stream are generated as its count says
abbrev pub AllAreDrawn : Type 0
AllAreDrawn = (s : Settings) (number n : ℕ) (σ : Stream) → trial_frames s number ≡ Some n → length (drawn s number σ)
    ≡ drawn_count s number σ

-- so the super-frames for the counts are those for the packets
abbrev pub FramesOfDrawn : Type 0
FramesOfDrawn = (s : Settings) (number n : ℕ) → trial_frames s number ≡ Some n
    → super_frames s (counts_of (drawn s number)) ≡ Some n

-- and a trial's symbols are those of their transmission
abbrev pub SymbolsOfDrawn : Type 0
SymbolsOfDrawn = (s : Settings) (number n : ℕ) → trial_frames s number ≡ Some n → trial_symbols s number
    ≡ symbols_of s (drawn s number)

-- without a plan one super-frame is enough
abbrev pub OneSuperFrame : Type 0
OneSuperFrame = (s : Settings) (number : ℕ) → entries_of s.plan ≡ [] → trial_frames s number ≡ Some 1

-- the packets generated for a symbol follow those of earlier symbols
abbrev pub DrawnInOrder : Type 0
DrawnInOrder = (s : Settings) (number : ℕ) (σ : Stream) (m i : ℕ) → m < trial_symbols s number
    → i < drawn_for s number σ m
    → packet_at (drawn s number σ) (drawn_before s number σ m + i)
    ≡ packet_of (after (packet_words * i) (packets_from s number m σ))

-- null packets follow them
abbrev pub NullsBehind : Type 0
NullsBehind = (s : Settings) (number n : ℕ) (σ : Stream) (p : ℕ) → trial_frames s number ≡ Some n
    → drawn_count s number σ ≤ p → packet_at (drawn s number σ) p ≡ null_packet

-- ---- cells

-- both parts of a cell are at most the level of pilots
pub record IsSmall (c : Cell) : Type 0 where
  pub re : nat_abs c.re ≤ 21845
  pub im : nat_abs c.im ≤ 21845

-- no part of a transmitted cell exceeds the level of pilots
abbrev pub CellsAreSmall : Type 0
CellsAreSmall = (s : Settings) (inputs : Inputs) (m k : ℕ) → IsSmall (tx_cell s inputs m k)

-- so the cells of a symbol are read from its bytes
abbrev pub CellsAreRead : Type 0
CellsAreRead = (s : Settings) (inputs : Inputs) (m k : ℕ) → k < carriers s.mode → cell_from (tx_symbol s inputs m) k
    ≡ tx_cell s inputs m k

-- a disturbed symbol has the usual length
abbrev pub FedSymbolsAreLong : Type 0
FedSymbolsAreLong = (s : Settings) (number m : ℕ) → length (fed_symbol s number m) ≡ symbol_length s

-- ---- packets received

-- the bytes are one packet for each word with a phase
pub record AreCounted (packets : List ℕ) (tally : Tally) : Type 0 where
  pub few : tally.unphased ≤ tally.words
  pub long : length packets ≡ 188 * (tally.words - tally.unphased)

-- a final output has one packet for each word with a phase
abbrev pub PacketsAreCounted : Type 0
PacketsAreCounted = (s : Settings) (bytes : List ℕ) (r : Reception) (σ : Stream) → Final s bytes r
    → AreCounted (r.packets σ) (r.tally σ)
