-- Kinds of reception: the output of each for bytes of cells, with settings s. All have the same work on cells; `two`
-- means that there are two streams.
use Rattle.std.specs.Prelude.{◌≡◌, ℕ, Bool, true, false, if◌then◌else◌, List, [], ◌++◌, flat_map}
use Rattle.station_core.specs.declared.ports.OutPort.{OutPort}
use Rattle.station_core.specs.declared.ports.OutPort.TheVariants as outs
use Rattle.mode_set.specs.declared.modes.Stream.{Stream}
use Rattle.mode_set.specs.declared.modes.Stream.TheVariants.{Hp, Lp}
use Rattle.mode_set.specs.declared.settings.Settings.{Settings}
use Rattle.rx_report.specs.Text.{event_line}
use Rattle.reception.specs.Cells.{symbol_length, symbols}
use Rattle.reception.specs.Feeds.{Output, packets_of}
use Rattle.reception.specs.Lines.{events}
use Rattle.cmd_cells.specs.Work.{Work, Written}

-- the ports of packets: HP always, LP with two streams
abbrev pub writes_at : Bool → OutPort → Bool
writes_at two outs.Cells = false
writes_at two outs.Hp = true
writes_at two outs.Lp = two
writes_at two outs.Bytes = false
writes_at two outs.Report = false

-- the packets of the streams, with lines at Report
abbrev pub written_at : Bool → (Stream → List ℕ) → List ℕ → Written
written_at two packets lines outs.Cells = []
written_at two packets lines outs.Hp = packets Hp
written_at two packets lines outs.Lp = if two then packets Lp else []
written_at two packets lines outs.Bytes = []
written_at two packets lines outs.Report = lines

-- the output of some r that satisfies `Is`: its packets and its lines
abbrev pub Gives : {R : Type 0} → (R → Type 0) → (R → Stream → List ℕ) → (R → List ℕ) → Bool → Written → Type 0
Gives {R} Is packets lines two given = (r : R) × Is r × ((port : OutPort) → given port ≡ written_at two (packets r)
    (lines r) port)

-- a kind of reception
pub record Kind : Type 1 where
  -- the reception of bytes
  pub Received : Type 0
  -- as if more might follow, and at the end
  pub Live : Settings → List ℕ → Received → Type 0
  pub Final : Settings → List ℕ → Received → Type 0
  pub packets : Received → Stream → List ℕ
  -- the steps of the unmerged reports
  pub reports : Received → Stream → List ℕ
  -- the closing lines
  pub closing : Settings → List ℕ → Received → List ℕ

-- the lines of the reports
abbrev pub lines_of : (k : Kind) → Settings → List ℕ → k.Received → List ℕ
lines_of k s bytes r = flat_map event_line (events s (symbols s bytes) (k.reports r))

-- the output so far, and at the end
abbrev pub live_of : (k : Kind) → Settings → Bool → List ℕ → k.Received → Written
live_of k s two bytes r = written_at two (k.packets r) (lines_of k s bytes r)

-- the output at the end: its lines are those of the reports, then the closing lines
abbrev pub final_of : (k : Kind) → Settings → Bool → List ℕ → k.Received → Written
final_of k s two bytes r = written_at two (k.packets r) (lines_of k s bytes r ++ k.closing s bytes r)

-- The work on cells: its output for bytes is that of a reception, so far and at the end. It refuses no cells.
abbrev pub work_of : Kind → Settings → Bool → Work
work_of k s two = record {
  size = symbol_length s;
  Gives = λ bytes. Gives (k.Live s bytes) k.packets (lines_of k s bytes) two;
  Ends = λ bytes. Gives (k.Final s bytes) k.packets (λ r. lines_of k s bytes r ++ k.closing s bytes r) two;
  Refuses = λ bytes left given r. ⊥;
  Reasons = λ r. ⊥;
}

-- the receiver's reception after one more piece, and its output then
pub record TakesAs (k : Kind) (standing : List ℕ → k.Received → Type 0) (s : Settings) (bytes piece : List ℕ)
    (before : k.Received) (out : Output) : Type 0 where
  pub after : k.Received
  pub stands : standing (bytes ++ piece) after
  pub live : k.Live s (bytes ++ piece) after
  pub packets : (σ : Stream) → k.packets after σ ≡ k.packets before σ ++ packets_of out σ
  pub events_are : events s (symbols s (bytes ++ piece)) (k.reports after)
      ≡ events s (symbols s bytes) (k.reports before) ++ out.events

-- the receiver matches the bytes, and this is its output
abbrev pub StandsAs : (k : Kind) → (List ℕ → k.Received → Type 0) → Settings → Bool → List ℕ → Written → Type 0
StandsAs k standing s two bytes given = (r : k.Received) × standing bytes r × k.Live s bytes r
    × ((port : OutPort) → given port ≡ live_of k s two bytes r port)
