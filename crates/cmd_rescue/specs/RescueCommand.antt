-- The command `rescue`: its files and its outputs, from its settings and the file of cells alone.
use Rattle.std.specs.Prelude.{◌≡◌, ℕ, ◌+◌, List, [], ◌∷◌, Option, None, Some, option_and_then, false}
use Rattle.station_core.specs.declared.ports.InPort.TheVariants as ins
use Rattle.mode_set.specs.declared.settings.Settings.{Settings}
use Rattle.cmd_base.specs.Command.{Command}
use Rattle.cmd_base.specs.Ports.{by_input, stream_names}
use Rattle.cmd_base.specs.SettingsFile.{most_settings}
use Rattle.cmd_base.specs.StatedSettings.{settings_of}
use Rattle.cmd_base.specs.StreamForm.{fitting_refusal}
use Rattle.cmd_receive.specs.ReceiveCommand.{header_by, most_cells}
use Rattle.cmd_receive.specs.Received.{cells_in, reception_refusal}
use Rattle.cmd_rescue.specs.OwnLaws.{RescueLaws}
use Rattle.cmd_rescue.specs.Rescued.{LinesCome, LinesSoFar, OutputComes, OutputSoFar}

-- rescue SETTINGS CELLS HP, or rescue SETTINGS CELLS HP LP
abbrev pub rescue_command : List ℕ → List ℕ → List ℕ → Option (List ℕ) → Command
rescue_command settings cells hp lp = record {
  reads = by_input (Some settings) None None (Some cells);
  writes = stream_names hp lp;
  statuses = 0 ∷ 3 ∷ 5 ∷ 6 ∷ 7 ∷ 8 ∷ 9 ∷ [];
  memory_at_work = false;
  LacksAtWork = λ limit file unread. ⊥;
  early_refusal = λ file. fitting_refusal (file settings) lp;
  header = λ file. header_by (settings_of (file settings));
  work_refusal = λ limit file. option_and_then (λ s. reception_refusal s (cells_in (file cells)))
      (settings_of (file settings));
  most_taken = λ limit file. by_input (most_settings + 1) 0 0 (most_cells (settings_of (file settings)));
  Comes = λ limit file port output. (s : Settings) × (settings_of (file settings) ≡ Some s)
      × OutputComes s (cells_in (file cells)) port output;
  Prints = λ limit file lines. (s : Settings) × (settings_of (file settings) ≡ Some s)
      × LinesCome s (cells_in (file cells)) lines;
  ComesSoFar = λ limit file unread port output.
      (s : Settings) × (settings_of (file settings) ≡ Some s)
      × OutputSoFar s (file cells) (unread ins.Cells) port output;
  PrintsSoFar = λ limit file unread lines. LinesSoFar (settings_of (file settings)) (file cells) (unread ins.Cells)
      lines;
  Own = λ limit file. RescueLaws (settings_of (file settings)) (file cells);
}
