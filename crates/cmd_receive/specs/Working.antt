-- The work of `receive` on cells, with settings s; `two` means that there are two streams.
use Rattle.std.specs.Prelude.{ℕ, Bool, List, ◌++◌}
use Rattle.mode_set.specs.declared.settings.Settings.{Settings}
use Rattle.reception.specs.Streams.{Reception, Live, Final}
use Rattle.reception.specs.Lines.{event_lines, closing_lines}
use Rattle.reception.specs.Feeds.{Output}
use Rattle.cmd_cells.specs.Work.{Work, Written}
pub use Rattle.cmd_receive.specs.Kinds.{written_at, writes_at}
use Rattle.cmd_receive.specs.Kinds.{Gives, Kind, StandsAs, TakesAs, work_of}

-- the output for bytes of cells is the live one
abbrev pub LiveGives : Settings → Bool → List ℕ → Written → Type 0
LiveGives s two bytes = Gives (Live s bytes) (λ r. r.packets) (event_lines s bytes) two

-- the output at the end of the cells is the final one
abbrev pub FinalGives : Settings → Bool → List ℕ → Written → Type 0
FinalGives s two bytes = Gives (Final s bytes) (λ r. r.packets) (λ r. event_lines s bytes r ++ closing_lines s bytes r)
    two

-- the kind of `receive`
abbrev pub plain : Kind
plain = record {
  Received = Reception;
  Live = Live;
  Final = Final;
  packets = λ r. r.packets;
  reports
      = λ r. r.reports;
  closing = closing_lines;
}

-- the work of `receive` with these settings
abbrev pub reception_work : Settings → Bool → Work
reception_work = work_of plain

-- what is written for a live reception: the packets, and a line for each event
abbrev pub live_at : Settings → Bool → List ℕ → Reception → Written
live_at s two bytes r = written_at two r.packets (event_lines s bytes r)

-- what is written for a final reception: the same, then the closing lines
abbrev pub final_at : Settings → Bool → List ℕ → Reception → Written
final_at s two bytes r = written_at two r.packets (event_lines s bytes r ++ closing_lines s bytes r)

-- the receiver has taken one more piece, and this is its output then
abbrev pub Takes : (List ℕ → Reception → Type 0) → Settings → List ℕ → List ℕ → Reception → Output → Type 0
Takes = TakesAs plain

-- the receiver matches the bytes, and this is its output
abbrev pub ReceiverStands : (List ℕ → Reception → Type 0) → Settings → Bool → List ℕ → Written → Type 0
ReceiverStands = StandsAs plain
