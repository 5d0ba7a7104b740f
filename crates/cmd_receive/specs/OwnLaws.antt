-- Laws of `receive`: its output is unique, the bits given are a prefix of the least path, own cells give their own
-- packets, and the number of workers changes nothing.
use Rattle.std.specs.Prelude.{◌≡◌, ℕ, List, Option, Some}
use Rattle.station_core.specs.declared.ports.OutPort.{OutPort}
use Rattle.mode_set.specs.declared.modes.Start.TheVariants.{Zero}
use Rattle.mode_set.specs.declared.settings.Settings.{Settings}
use Rattle.transmission.specs.Transmission.{Inputs}
use Rattle.transmission.specs.SuperFrames.{tx}
use Rattle.code_paths.specs.Laws.{SharedBeginsLeast}
use Rattle.law_link.specs.Laws.{PacketsThenNulls}
use Rattle.law_link.specs.Returned.{HavePackets, IsReturned, IsWithin}
use Rattle.reception.specs.Streams.{Reception, Final}
use Rattle.reception.specs.Alike.{DifferInWorkers}
use Rattle.cmd_receive.specs.OneOutput.{IsOneOutput}
use Rattle.cmd_receive.specs.Received.{cells_in, IsAll, LinesCome, LinesSoFar, OutputComes, OutputSoFar}

-- If the cells are a transmission from start zero, or within its tolerance, the packets of each stream, from all cells,
-- are those of that transmission, then null packets.
pub record Returns (s : Settings) (bytes : List ℕ) : Type 0 where
  pub own : (inputs : Inputs) → s.start ≡ Zero → HavePackets s inputs → bytes ≡ tx s inputs
      → (r : Reception) → IsAll Final s bytes r → IsReturned s inputs r.packets
  pub noise : (inputs : Inputs) → s.start ≡ Zero → HavePackets s inputs → IsWithin s inputs bytes
      → (r : Reception) → IsAll Final s bytes r → IsReturned s inputs r.packets

-- With settings t the file of cells has the same output as with settings s: the outputs and the lines of the report,
-- for all cells or those within the limit, and up to a failed read.
pub record AreAlike (s t : Settings) (file : List ℕ) : Type 0 where
  pub outputs : (port : OutPort) (output : List ℕ) → OutputComes s (cells_in file) port output
      → OutputComes t (cells_in file) port output
  pub lines : (lines : List ℕ) → LinesCome s (cells_in file) lines → LinesCome t (cells_in file) lines
  pub outputs_so_far : (left : List ℕ) (port : OutPort) (output : List ℕ) → OutputSoFar s file left port output
      → OutputSoFar t file left port output
  pub lines_so_far : (left lines : List ℕ) → LinesSoFar (Some s) file left lines → LinesSoFar (Some t) file left lines

-- the laws, from the stated settings, if any, and the file of cells
pub record ReceiveLaws (stated : Option Settings) (file : List ℕ) : Type 0 where
  -- Each output, and the report, is unique.
  pub one : (s : Settings) → stated ≡ Some s → IsOneOutput (OutputComes s (cells_in file)) (LinesCome s (cells_in file))
      (OutputSoFar s file) (LinesSoFar (Some s) file)
  -- The bits shared by all least paths are a prefix of the least path, over everything received and anything that may
  -- follow.
  pub begins_least : SharedBeginsLeast
  -- Own cells, and cells near them, give the packets sent.
  pub returns : (s : Settings) → stated ≡ Some s → Returns s (cells_in file)
  -- The packets of a stream are all that were sent, then null packets.
  pub packets_then_nulls : PacketsThenNulls
  -- Settings that differ only in the number of workers change nothing.
  pub alike : (s t : Settings) → stated ≡ Some s → DifferInWorkers s t → AreAlike s t file
