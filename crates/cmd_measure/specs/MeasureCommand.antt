-- The command `measure SETTINGS CELLS`: its files and its lines, from its settings and the file of cells alone. It
-- writes only its report.
use Rattle.std.specs.Prelude.{◌≡◌, ℕ, ◌+◌, List, [], ◌∷◌, Option, None, Some, option_and_then, false}
use Rattle.station_core.specs.declared.ports.InPort.TheVariants as ins
use Rattle.station_core.specs.declared.ports.OutPort.{OutPort}
use Rattle.mode_set.specs.declared.settings.Settings.{Settings}
use Rattle.cmd_base.specs.Command.{Command}
use Rattle.cmd_base.specs.Ports.{by_input}
use Rattle.cmd_base.specs.SettingsFile.{most_settings, settings_refusal}
use Rattle.cmd_base.specs.StatedSettings.{settings_of}
use Rattle.cmd_receive.specs.ReceiveCommand.{header_by, most_cells}
use Rattle.cmd_receive.specs.Received.{cells_in, reception_refusal}
use Rattle.cmd_measure.specs.MeasureLaws.{MeasureLaws}
use Rattle.cmd_measure.specs.Measured.{LinesCome, LinesSoFar}

-- no file is written
abbrev pub no_names : OutPort → Option (List ℕ)
no_names port = None

-- the command with these names of its files
abbrev pub measure_command : List ℕ → List ℕ → Command
measure_command settings cells = record {
  reads = by_input (Some settings) None None (Some cells);
  writes = no_names;
  statuses = 0 ∷ 3 ∷ 5 ∷ 6 ∷ 7 ∷ 8 ∷ 9 ∷ [];
  memory_at_work = false;
  LacksAtWork = λ limit file unread. ⊥;
  early_refusal = λ file. settings_refusal (file settings);
  header = λ file. header_by (settings_of (file settings));
  work_refusal = λ limit file. option_and_then (λ s. reception_refusal s (cells_in (file cells)))
      (settings_of (file settings));
  most_taken = λ limit file. by_input (most_settings + 1) 0 0 (most_cells (settings_of (file settings)));
  Comes = λ limit file port output. output ≡ [];
  Prints = λ limit file lines. (s : Settings) × (settings_of (file settings) ≡ Some s)
      × LinesCome s (cells_in (file cells)) lines;
  ComesSoFar = λ limit file unread port output. output ≡ [];
  PrintsSoFar = λ limit file unread lines. LinesSoFar (settings_of (file settings)) (file cells) (unread ins.Cells)
      lines;
  Own = λ limit file. MeasureLaws (settings_of (file settings)) (file cells);
}
