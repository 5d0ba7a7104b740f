-- The laws of a link. Each is the clause of a public function of module laws.
use Rattle.std.specs.Prelude.{◌≡◌, ℕ, ◌-◌, ◌<◌, IsTrue, List, ◌++◌, length, replicate, Some}
use Rattle.std.specs.List.{concat}
use Rattle.mode_set.specs.StreamTable.{carriers}
use Rattle.mode_set.specs.declared.modes.Start.TheVariants.{Zero}
use Rattle.mode_set.specs.declared.modes.Stream.{Stream}
use Rattle.mode_set.specs.declared.settings.Settings.{Settings}
use Rattle.ts_packet.specs.Packet.{null_packet}
use Rattle.qam_map.specs.Cells.{cell_of}
use Rattle.symbol_parameters.specs.Spans.{exists_in}
use Rattle.transmission.specs.Transmission.{Inputs, tx_cell}
use Rattle.transmission.specs.SuperFrames.{counts_of, super_frames, symbols_of, tx}
use Rattle.reception.specs.Cells.{symbol_cells}
use Rattle.reception.specs.Streams.{Reception, Final}
use Rattle.law_link.specs.Returned.{words_of, returned, HavePackets, IsReturned, AreClean, IsWithin}

-- ---- noise

-- cells within the tolerance of a transmission decode to its packets ..
abbrev pub NoiseLaw : Type 0
NoiseLaw = (s : Settings) (inputs : Inputs) (bytes : List ℕ) (r : Reception) → s.start ≡ Zero → HavePackets s inputs
    → IsWithin s inputs bytes → Final s bytes r → IsReturned s inputs r.packets

-- .. and all words are clean
abbrev pub NoiseIsClean : Type 0
NoiseIsClean = (s : Settings) (inputs : Inputs) (bytes : List ℕ) (r : Reception) → s.start ≡ Zero → HavePackets s inputs
    → IsWithin s inputs bytes → Final s bytes r → AreClean s inputs r.tally

-- ---- own cells

-- the cells of a transmission are read from its bytes
abbrev pub CellsAreRead : Type 0
CellsAreRead = (s : Settings) (inputs : Inputs) (m k : ℕ) → m < symbols_of s inputs → k < carriers s.mode
    → cell_of (symbol_cells s (tx s inputs) m) k ≡ tx_cell s inputs m k

-- so they are within the tolerance
abbrev pub OwnAreWithin : Type 0
OwnAreWithin = (s : Settings) (inputs : Inputs) → IsWithin s inputs (tx s inputs)

-- a transmission decodes to its own packets ..
abbrev pub CleanLaw : Type 0
CleanLaw = (s : Settings) (inputs : Inputs) (r : Reception) → s.start ≡ Zero → HavePackets s inputs
    → Final s (tx s inputs) r → IsReturned s inputs r.packets

-- .. and all words are clean
abbrev pub OwnAreClean : Type 0
OwnAreClean = (s : Settings) (inputs : Inputs) (r : Reception) → s.start ≡ Zero → HavePackets s inputs
    → Final s (tx s inputs) r → AreClean s inputs r.tally

-- ---- packets received

-- the packets of a stream, followed by null packets
abbrev pub PacketsThenNulls : Type 0
PacketsThenNulls = (s : Settings) (inputs : Inputs) (n : ℕ) (σ : Stream) → super_frames s (counts_of inputs) ≡ Some n
    → IsTrue (exists_in s σ)
    → returned s inputs σ n ≡ concat (inputs σ) ++ concat (replicate (words_of s σ n - length (inputs σ)) null_packet)
