-- The work of `align` on cells, with settings s.
use Rattle.std.specs.Prelude.{◌≡◌, ◌⊎◌, ℕ, ◌+◌, ◌≤◌, List, [], ◌++◌, take, Option, Some, None, Result, Ok, Err}
use Rattle.mode_set.specs.declared.settings.Settings.{Settings}
use Rattle.reception.specs.Cells.{symbol_length, symbols, tail}
use Rattle.cmd_base.specs.declared.refusal.Refusal.{Refusal}
use Rattle.cmd_base.specs.declared.refusal.Refusal.TheVariants.{Cells, Memory}
use Rattle.cmd_base.specs.declared.refusal.CellsRefusal.TheVariants.{NoPlace}
use Rattle.cmd_base.specs.Ports.{cell_names}
use Rattle.cmd_base.specs.Text.{refusal_text}
use Rattle.cmd_base.specs.Report.{WritesText}
use Rattle.frame_build.specs.CellFile.{header}
use Rattle.station_core.specs.Meaning.{Meaning}
use Rattle.station_core.specs.declared.ports.OutPort.{OutPort}
use Rattle.cmd_cells.specs.declared.run_error.RunError.{RunError}
use Rattle.cmd_cells.specs.declared.run_error.RunError.TheVariants.{WriteFault}
use Rattle.cmd_cells.specs.Runs.{RunsCells}
use Rattle.cmd_cells.specs.Work.{Work, Written}
use Rattle.cmd_convert.specs.Working.{written_at}
use Rattle.tune_in.specs.OfBytes.{HasNoPlace, IsFoundIn, rest}
use Rattle.tune_in.specs.Places.{begin}
use Rattle.tune_in.specs.declared.frame.Found.{Found}
use Rattle.cmd_align.specs.Aligned.{aligned_file, closing_at, lines_at}
use Rattle.cmd_align.specs.Announcement.{found_lines}
use Rattle.cmd_align.specs.declared.copying.Copying.{Copying}

-- the bytes hold this place, or none
abbrev pub PlaceIs : Settings → List ℕ → Option Found → Type 0
PlaceIs s bytes None = HasNoPlace s bytes
PlaceIs s bytes (Some found) = IsFoundIn s bytes found

-- the aligned file and the lines of a place
abbrev pub GivesAt : Settings → List ℕ → Option Found → Written → Type 0
GivesAt s bytes place given = (port : OutPort) → given port ≡ written_at (aligned_file s bytes place) (lines_at place)
    port

-- the output for a prefix is that of its place
abbrev pub FirstGive : Settings → List ℕ → Written → Type 0
FirstGive s bytes given = (place : Option Found) × PlaceIs s bytes place × GivesAt s bytes place given

-- and for all bytes, which must hold a place, also the closing line
abbrev pub AllGive : Settings → List ℕ → Written → Type 0
AllGive s bytes given = (found : Found) × IsFoundIn s bytes found
    × ((port : OutPort) → given port ≡ written_at (aligned_file s bytes (Some found)) (found_lines found ++ closing_at s
    bytes (Some found)) port)

-- The cells are refused if they end without a place. The header was given before.
abbrev pub RefusesAligning : Settings → List ℕ → List ℕ → Written → Refusal → Type 0
RefusesAligning s bytes left given r = (r ≡ Cells NoPlace) × (left ≡ []) × HasNoPlace s bytes
    × GivesAt s bytes None given

-- the work of `align`
abbrev pub aligning_work : Settings → Work
aligning_work s = record {
  size = symbol_length s;
  Gives = FirstGive s;
  Ends = AllGive s;
  Refuses = RefusesAligning s;
  Reasons = λ r. r ≡ Cells NoPlace;
}

-- After a place: the number of symbols still to skip, of those copied, and of bytes after them.
pub record IsCopying (s : Settings) (found : Found) (bytes : List ℕ) (c : Copying) : Type 0 where
  pub counts : (c.skip + symbols s bytes ≡ begin found) ⊎ ((c.skip ≡ 0) × (begin found ≤ symbols s bytes))
  pub copied : c.symbols ≡ symbols s (rest s bytes found)
  pub after : c.tail ≡ tail s (rest s bytes found)

-- the state of the work: searching, or after a place the symbols copied
abbrev pub AligningStands : (Settings → List ℕ → Type 0) → Settings → Option Copying → List ℕ → Written → Type 0
AligningStands searching s None bytes given = searching s bytes × HasNoPlace s bytes × GivesAt s bytes None given
AligningStands searching s (Some c) bytes given = (found : Found) × IsFoundIn s bytes found × IsCopying s found bytes c
    × GivesAt s bytes (Some found) given

-- lines were appended to Report, or a prefix of them
abbrev pub Appends : List ℕ → List ℕ → List ℕ → Result (Unit {0}) RunError → Type 0
Appends lines before after (Ok u) = after ≡ before ++ lines
Appends lines before after (Err r) = (r ≡ WriteFault) × (k : ℕ) × (after ≡ before ++ take k lines)

-- only what is written to Report and the counts of write faults have changed
abbrev pub ReportOnly : Meaning → Meaning → Type 0
ReportOnly old new = new ≡ record old {
  report = record old.report { written = new.report.written };
  write_faults =
      new.write_faults;
  report_faults = new.report_faults;
}

-- the work was done on the cells, or memory was lacking before a port was requested
abbrev pub RunsOrLacks : Settings → List ℕ → List ℕ → Meaning → Meaning → ℕ → Type 0
RunsOrLacks s old_name new_name old new status =
    RunsCells (aligning_work s) s.max_symbols old_name (Some (header s.mode)) (cell_names new_name) old new status
    ⊎ ((status ≡ 7) × WritesText (refusal_text Memory) old new)
