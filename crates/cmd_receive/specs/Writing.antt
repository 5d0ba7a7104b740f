-- Writes to the outputs of a reception.
use Rattle.std.specs.Prelude.{◌≡◌, ◌≤◌, ◌⊎◌, ℕ, Bool, true, false, if◌then◌else◌, List, [], ◌++◌, take, flat_map}
use Rattle.std.specs.Prelude.{Result, Ok, Err}
use Rattle.station_core.specs.Meaning.{Meaning}
use Rattle.station_core.specs.declared.ports.OutPort.TheVariants as outs
use Rattle.rx_report.specs.Text.{event_line}
use Rattle.rx_report.specs.declared.counts.Event.{Event}
use Rattle.reception.specs.Feeds.{Output}
use Rattle.cmd_cells.specs.declared.run_error.RunError.{RunError}
use Rattle.cmd_cells.specs.declared.run_error.RunError.TheVariants.{WriteFault}
use Rattle.cmd_cells.specs.Outputs.{IsWriting}
use Rattle.cmd_cells.specs.Stops.{HasCause}
use Rattle.cmd_cells.specs.Writing.{WritesAt}

-- bytes were written at Lp, if there are two streams, or a prefix of them
abbrev pub WritesLp : Bool → List ℕ → Meaning → Meaning → Result (Unit {0}) RunError → Type 0
WritesLp true bytes old new result = WritesAt outs.Lp bytes old new result
WritesLp false bytes old new (Ok u) = new ≡ old
WritesLp false bytes old new (Err r) = ⊥

-- bytes were appended, or a prefix of them
abbrev pub Appends : List ℕ → List ℕ → List ℕ → Result (Unit {0}) RunError → Type 0
Appends bytes before after (Ok u) = after ≡ before ++ bytes
Appends bytes before after (Err r) = (r ≡ WriteFault) × (k : ℕ) × (after ≡ before ++ take k bytes)

-- a line was appended to a pending text, which was written first if there was no space for both; or only a prefix of it
-- was
abbrev pub Pushes : List ℕ → List ℕ → List ℕ → List ℕ → List ℕ → Result (Unit {0}) RunError → Type 0
Pushes line text text' before after (Ok u) = ((after ≡ before) × (text' ≡ text ++ line))
    ⊎ ((after ≡ before ++ text) × (text' ≡ line))
Pushes line text text' before after (Err r) = (r ≡ WriteFault) × (k : ℕ) × (after ≡ before ++ take k text)

-- only what is written to Report and the counts of write faults have changed
abbrev pub ReportOnly : Meaning → Meaning → Type 0
ReportOnly old new = new ≡ record old {
  report = record old.report { written = new.report.written };
  write_faults =
      new.write_faults;
  report_faults = new.report_faults;
}

-- only the bytes written and pending at Hp, Lp and Report, and the counts of write faults have changed
abbrev pub WritesOnly : Meaning → Meaning → Type 0
WritesOnly old new = new ≡ record old {
  hp_out = record old.hp_out { written = new.hp_out.written };
  lp_out = record old.lp_out { written = new.lp_out.written };
  report = record old.report { written = new.report.written };
  write_faults = new.write_faults;
  report_faults = new.report_faults;
  pending = new.pending;
}

-- Report is open
pub record IsPrinting (m : Meaning) : Type 0 where
  pub created : m.report.created ≡ true
  pub opened : m.report.closed ≡ false

-- A call that writes to Report alone: an error is a write fault, which was counted, and nothing else has changed.
pub record OnlyPrints (old new : Meaning) (result : Result (Unit {0}) RunError) : Type 0 where
  pub kind : IsWriting result
  pub cause : HasCause old new result
  pub later_report : old.report_faults ≤ new.report_faults
  pub others : ReportOnly old new

-- the outputs are open: Hp, Lp with two streams, and Report
pub record AreOpen (two : Bool) (m : Meaning) : Type 0 where
  pub hp : m.hp_out.created ≡ true
  pub hp_open : m.hp_out.closed ≡ false
  pub lp : two ≡ true → m.lp_out.created ≡ true
  pub lp_open : two ≡ true → m.lp_out.closed ≡ false
  pub report : IsPrinting m

-- the lines of events
abbrev pub event_text : List Event → List ℕ
event_text events = flat_map event_line events

-- the packets of LP, if there are two streams
abbrev pub lp_bytes : Bool → List ℕ → List ℕ
lp_bytes two bytes = if two then bytes else []

-- the output of a receiver was written: packets of HP, packets of LP, the lines of events
pub record IsWritten (two : Bool) (out : Output) (old new : Meaning) : Type 0 where
  pub hp : new.hp_out.written ≡ old.hp_out.written ++ out.hp
  pub lp : new.lp_out.written ≡ old.lp_out.written ++ lp_bytes two out.lp
  pub report : new.report.written ≡ old.report.written ++ event_text out.events

-- a prefix of each was
pub record IsPartlyWritten (two : Bool) (out : Output) (old new : Meaning) : Type 0 where
  pub hp : (k : ℕ) × (new.hp_out.written ≡ old.hp_out.written ++ take k out.hp)
  pub lp : (k : ℕ) × (new.lp_out.written ≡ old.lp_out.written ++ take k (lp_bytes two out.lp))
  pub report : (k : ℕ) × (new.report.written ≡ old.report.written ++ take k (event_text out.events))

-- a write to the outputs: complete, or stopped by a write fault
abbrev pub WritesOut : Bool → Output → Meaning → Meaning → Result (Unit {0}) RunError → Type 0
WritesOut two out old new (Ok u) = IsWritten two out old new
WritesOut two out old new (Err r) = (r ≡ WriteFault) × IsPartlyWritten two out old new
