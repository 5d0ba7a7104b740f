-- The command `receive`: its files and its outputs, from its settings and the file of cells alone.
use Rattle.std.specs.Prelude.{◌≡◌, ℕ, ◌+◌, ◌*◌, List, [], ◌∷◌, Option, None, Some, option_and_then, false}
use Rattle.std.specs.Option.{option_map}
use Rattle.station_core.specs.declared.ports.InPort.TheVariants as ins
use Rattle.mode_set.specs.declared.settings.Settings.{Settings}
use Rattle.frame_build.specs.CellFile.{header}
use Rattle.reception.specs.Cells.{symbol_length}
use Rattle.cmd_base.specs.Command.{Command}
use Rattle.cmd_base.specs.Ports.{by_input, stream_names}
use Rattle.cmd_base.specs.SettingsFile.{most_settings}
use Rattle.cmd_base.specs.StatedSettings.{settings_of}
use Rattle.cmd_base.specs.StreamForm.{fitting_refusal}
use Rattle.cmd_receive.specs.OwnLaws.{ReceiveLaws}
use Rattle.cmd_receive.specs.Received.{cells_in, LinesCome, LinesSoFar, OutputComes, OutputSoFar, reception_refusal}

-- the header required of the cells is that of the settings' mode
abbrev pub header_by : Option Settings → Option (List ℕ)
header_by stated = option_map (λ s. header s.mode) stated

-- at most the header, the limit and one symbol are taken from the cells
abbrev pub most_cells : Option Settings → ℕ
most_cells None = 0
most_cells (Some s) = 8 + (s.max_symbols + 1) * symbol_length s

-- receive SETTINGS CELLS HP, or receive SETTINGS CELLS HP LP
abbrev pub receive_command : List ℕ → List ℕ → List ℕ → Option (List ℕ) → Command
receive_command settings cells hp lp = record {
  reads = by_input (Some settings) None None (Some cells);
  writes = stream_names hp lp;
  statuses = 0 ∷ 3 ∷ 5 ∷ 6 ∷ 7 ∷ 8 ∷ 9 ∷ [];
  memory_at_work = false;
  LacksAtWork = λ limit file unread. ⊥;
  early_refusal = λ file. fitting_refusal (file settings) lp;
  header = λ file. header_by (settings_of (file settings));
  work_refusal = λ limit file. option_and_then (λ s. reception_refusal s (cells_in (file cells)))
      (settings_of (file settings));
  most_taken = λ limit file. by_input (most_settings + 1) 0 0 (most_cells (settings_of (file settings)));
  Comes = λ limit file port output. (s : Settings) × (settings_of (file settings) ≡ Some s)
      × OutputComes s (cells_in (file cells)) port output;
  Prints = λ limit file lines. (s : Settings) × (settings_of (file settings) ≡ Some s)
      × LinesCome s (cells_in (file cells)) lines;
  ComesSoFar = λ limit file unread port output.
      (s : Settings) × (settings_of (file settings) ≡ Some s)
      × OutputSoFar s (file cells) (unread ins.Cells) port output;
  PrintsSoFar = λ limit file unread lines. LinesSoFar (settings_of (file settings)) (file cells) (unread ins.Cells)
      lines;
  Own = λ limit file. ReceiveLaws (settings_of (file settings)) (file cells);
}
