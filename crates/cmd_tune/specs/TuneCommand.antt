-- The command `tune`: its files and its outputs, from its settings and the file of cells alone. Of the settings only
-- the mode, the workers and the limit are used.
use Rattle.std.specs.Prelude.{◌≡◌, ℕ, ◌+◌, true, List, [], ◌∷◌, Option, None, Some, is_some, option_and_then}
use Rattle.station_core.specs.declared.ports.InPort.TheVariants as ins
use Rattle.station_core.specs.declared.ports.OutPort.{OutPort}
use Rattle.station_core.specs.declared.ports.OutPort.TheVariants as outs
use Rattle.mode_set.specs.declared.settings.Settings.{Settings}
use Rattle.cmd_base.specs.Command.{Command}
use Rattle.cmd_base.specs.Ports.{by_input, stream_names}
use Rattle.cmd_base.specs.SettingsFile.{most_settings, settings_refusal}
use Rattle.cmd_base.specs.StatedSettings.{settings_of}
use Rattle.cmd_cells.specs.Work.{Written}
use Rattle.reception.specs.Alike.{DifferInWorkers}
use Rattle.cmd_receive.specs.OneOutput.{AtMostOne, ExactlyOne}
use Rattle.cmd_receive.specs.Received.{IsSoFar, cells_in}
use Rattle.cmd_receive.specs.ReceiveCommand.{header_by, most_cells}
use Rattle.tune_in.specs.LeastPlace.{Searches}
use Rattle.tune_in.specs.OfBytes.{IsFoundIn}
use Rattle.tune_in.specs.declared.frame.Found.{Found}
use Rattle.cmd_tune.specs.Tuned.{ComesTo, GivesLive, fits, tune_refusal}

-- what a run produces at a port
abbrev pub PortComes : Settings → Option (List ℕ) → List ℕ → OutPort → List ℕ → Type 0
PortComes s lp bytes port output = (given : Written) × ComesTo s (is_some lp) bytes given × (output ≡ given port)

-- the same after a failed read: what the bytes taken of the file give
abbrev pub PortSoFar : Settings → Option (List ℕ) → List ℕ → List ℕ → OutPort → List ℕ → Type 0
PortSoFar s lp file left port output = (given : Written) × IsSoFar (λ a. GivesLive a (is_some lp)) s file left given
    × (output ≡ given port)

-- the lines of the report then; none if no settings are stated
abbrev pub LinesSoFar : Option Settings → Option (List ℕ) → List ℕ → List ℕ → List ℕ → Type 0
LinesSoFar None lp file left lines = lines ≡ []
LinesSoFar (Some s) lp file left lines = PortSoFar s lp file left outs.Report lines

-- The bytes taken of the file hold a place that fits.
abbrev pub TakesPlace : Settings → Option (List ℕ) → List ℕ → List ℕ → Type 0
TakesPlace s lp file left = (place : Found) × IsSoFar (λ a bytes found. IsFoundIn a bytes found ×
    (fits (is_some lp) found ≡ true)) s file left place

-- Its laws, by the settings that are stated, if any are, the file of LP, if one is written, and the file of cells.
pub record TuneLaws (stated : Option Settings) (lp : Option (List ℕ)) (file : List ℕ) : Type 0 where
  -- At each port, the lines of Report among them, it produces one list of bytes; after a failed read one at most.
  pub one : (s : Settings) → stated ≡ Some s → (port : OutPort) → ExactlyOne (PortComes s lp (cells_in file) port)
      × ((left : List ℕ) → AtMostOne (PortSoFar s lp file left port))
  -- The place that decides the refusal is the least one by its definition.
  pub searches : (s : Settings) → stated ≡ Some s → Searches s (cells_in file)
  -- The number of workers changes nothing, at no port and after no failed read.
  pub alike : (s t : Settings) → stated ≡ Some s → DifferInWorkers s t → (port : OutPort) (output : List ℕ)
      → PortComes s lp (cells_in file) port output → PortComes t lp (cells_in file) port output
  pub alike_so_far : (s t : Settings) → stated ≡ Some s → DifferInWorkers s t
      → (left : List ℕ) (port : OutPort) (output : List ℕ) → PortSoFar s lp file left port output
      → PortSoFar t lp file left port output

-- tune SETTINGS CELLS HP, or tune SETTINGS CELLS HP LP
abbrev pub tune_command : List ℕ → List ℕ → List ℕ → Option (List ℕ) → Command
tune_command settings cells hp lp = record {
  reads = by_input (Some settings) None None (Some cells);
  writes = stream_names hp lp;
  statuses = 0 ∷ 3 ∷ 5 ∷ 6 ∷ 7 ∷ 8 ∷ 9 ∷ 10 ∷ 11 ∷ [];
  memory_at_work = true;
  LacksAtWork = λ limit file unread. (s : Settings) × (settings_of (file settings) ≡ Some s)
      × TakesPlace s lp (file cells) (unread ins.Cells);
  early_refusal = λ file. settings_refusal (file settings);
  header = λ file. header_by (settings_of (file settings));
  work_refusal = λ limit file. option_and_then (λ s. tune_refusal s (is_some lp) (cells_in (file cells)))
      (settings_of (file settings));
  most_taken = λ limit file. by_input (most_settings + 1) 0 0 (most_cells (settings_of (file settings)));
  Comes = λ limit file port output. (s : Settings) × (settings_of (file settings) ≡ Some s)
      × PortComes s lp (cells_in (file cells)) port output;
  Prints = λ limit file lines. (s : Settings) × (settings_of (file settings) ≡ Some s)
      × PortComes s lp (cells_in (file cells)) outs.Report lines;
  ComesSoFar = λ limit file unread port output. (s : Settings) × (settings_of (file settings) ≡ Some s)
      × PortSoFar s lp (file cells) (unread ins.Cells) port output;
  PrintsSoFar = λ limit file unread lines. LinesSoFar (settings_of (file settings)) lp (file cells) (unread ins.Cells)
      lines;
  Own = λ limit file. TuneLaws (settings_of (file settings)) lp (file cells);
}
