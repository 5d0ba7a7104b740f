-- The work of `track` on cells, with settings s.
use Rattle.std.specs.Prelude.{◌≡◌, ◌⊎◌, ℕ, ◌-◌, ◌≤◌, nat_le, false, if◌then◌else◌, List, [], ◌∷◌, ◌++◌, length}
use Rattle.std.specs.Prelude.{flat_map, take, Result, Ok, Err, Some}
use Rattle.std.specs.List.{range_with_len}
use Rattle.mode_set.specs.declared.modes.Mode.{Mode}
use Rattle.mode_set.specs.declared.settings.Settings.{Settings}
use Rattle.frame_build.specs.CellFile.{header}
use Rattle.frame_build.specs.Symbol.{cells_from, weights_from}
use Rattle.tracking.specs.Tracking.{Symbol, tracked_bytes}
use Rattle.reception.specs.Cells.{symbol_length, symbols, tail}
use Rattle.law_tracking.specs.Tracked.{received}
use Rattle.tracker.specs.Tracks.{TrackerState, Tracks}
use Rattle.station_core.specs.Meaning.{Meaning}
use Rattle.station_core.specs.declared.ports.OutPort.{OutPort}
use Rattle.cmd_base.specs.declared.refusal.Refusal.TheVariants.{Memory}
use Rattle.cmd_base.specs.Ports.{cell_names}
use Rattle.cmd_base.specs.Text.{refusal_text}
use Rattle.cmd_base.specs.Report.{WritesText}
use Rattle.cmd_cells.specs.declared.run_error.RunError.{RunError}
use Rattle.cmd_cells.specs.declared.run_error.RunError.TheVariants.{WriteFault}
use Rattle.cmd_cells.specs.Runs.{RunsCells}
use Rattle.cmd_cells.specs.Work.{Work, Written}
use Rattle.cmd_convert.specs.Working.{written_at}
use Rattle.cmd_track.specs.Tracked.{closing_line, ended_file, live_file}

-- the output for a prefix of the cells is the file of the symbols that no further symbol changes ..
abbrev pub FirstGive : Settings → List ℕ → Written → Type 0
FirstGive s bytes given = (port : OutPort) → given port ≡ written_at (live_file s bytes) [] port

-- .. and for all bytes that of all symbols, and the closing line; the work refuses no cells
abbrev pub AllGive : Settings → List ℕ → Written → Type 0
AllGive s bytes given = (port : OutPort) → given port ≡ written_at (ended_file s bytes) (closing_line s bytes) port

-- the work of `track`
abbrev pub tracking_work : Settings → Work
tracking_work s = record {
  size = symbol_length s;
  Gives = FirstGive s;
  Ends = AllGive s;
  Refuses = λ bytes left given r. ⊥;
  Reasons = λ r. ⊥;
}

-- the symbol of n carriers from its bytes
abbrev pub symbol_in : List ℕ → ℕ → Symbol
symbol_in bytes n = record { cells = cells_from bytes n; weights = weights_from bytes n }

-- the output for one more symbol: the symbol seven before it, if there is one
abbrev pub next_given : Settings → List Symbol → Symbol → List ℕ
next_given s all x = if nat_le 7 (length all) then tracked_bytes s (all ++ x ∷ []) (length all - 7) else []

-- the symbols from number n on, corrected
unfoldable pub symbols_from : Settings → List Symbol → ℕ → List ℕ
symbols_from s all n = flat_map (tracked_bytes s all) (range_with_len n (length all - n))

-- The tracker has had the whole symbols of these bytes, and the bytes after them were counted. No byte of the next
-- symbol was taken, and there is space for a corrected one.
pub record Stands (m : Mode) (t : TrackerState) (part : List ℕ) (capacity counted rest : ℕ) (bytes : List ℕ)
    (given : Written) : Type 0 where
  pub mode : t.settings.mode ≡ m
  pub tracks : Tracks t (received t.settings bytes)
  pub going : t.ended ≡ false
  pub none : part ≡ []
  pub room : symbol_length t.settings ≤ capacity
  pub whole : counted ≡ symbols t.settings bytes
  pub after : rest ≡ tail t.settings bytes
  pub gives : FirstGive t.settings bytes given

-- nothing was taken yet
pub record IsNew (m : Mode) (t : TrackerState) (part : List ℕ) (capacity counted rest : ℕ) : Type 0 where
  pub mode : t.settings.mode ≡ m
  pub tracks : Tracks t []
  pub going : t.ended ≡ false
  pub none : part ≡ []
  pub room : symbol_length t.settings ≤ capacity
  pub whole : counted ≡ 0
  pub after : rest ≡ 0

-- bytes were appended, or a prefix of them
abbrev pub Appends : List ℕ → List ℕ → List ℕ → Result (Unit {0}) RunError → Type 0
Appends bytes before after (Ok u) = after ≡ before ++ bytes
Appends bytes before after (Err r) = (r ≡ WriteFault) × (k : ℕ) × (after ≡ before ++ take k bytes)

-- only the bytes written and pending at Cells, and the count of write faults have changed
abbrev pub CellsOnly : Meaning → Meaning → Type 0
CellsOnly old new = new ≡ record old {
  cells_out = record old.cells_out { written = new.cells_out.written };
  write_faults = new.write_faults;
  pending = new.pending;
}

-- the work was done on the cells, or memory was lacking before a port was requested
abbrev pub RunsOrLacks : Settings → List ℕ → List ℕ → Meaning → Meaning → ℕ → Type 0
RunsOrLacks s old_name new_name old new status =
    RunsCells (tracking_work s) s.max_symbols old_name (Some (header s.mode)) (cell_names new_name) old new status
    ⊎ ((status ≡ 7) × WritesText (refusal_text Memory) old new)
