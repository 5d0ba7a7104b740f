-- The command `align SETTINGS IN OUT`: its files and its outputs, from its settings and the file of cells alone. Only
-- the mode and the limit of the settings are used.
use Rattle.std.specs.Prelude.{◌≡◌, ℕ, ◌+◌, ◌*◌, false, List, [], ◌∷◌, Option, None, Some, option_and_then}
use Rattle.std.specs.Option.{option_map}
use Rattle.station_core.specs.declared.ports.InPort.TheVariants as ins
use Rattle.mode_set.specs.declared.settings.Settings.{Settings}
use Rattle.frame_build.specs.CellFile.{header}
use Rattle.reception.specs.Cells.{symbol_length}
use Rattle.cmd_base.specs.Command.{Command}
use Rattle.cmd_base.specs.Ports.{by_input, cell_names}
use Rattle.cmd_base.specs.SettingsFile.{most_settings, settings_refusal}
use Rattle.cmd_base.specs.StatedSettings.{settings_of}
use Rattle.cmd_align.specs.Aligned.{AlignLaws, FileComes, FileSoFar, LinesCome, LinesSoFar, align_refusal, cells_in}

-- the header required of the cells is that of the settings' mode
abbrev pub header_by : Option Settings → Option (List ℕ)
header_by stated = option_map (λ s. header s.mode) stated

-- at most the header, the limit and one symbol are taken from the cells
abbrev pub most_cells : Option Settings → ℕ
most_cells None = 0
most_cells (Some s) = 8 + (s.max_symbols + 1) * symbol_length s

-- the command with these names of its files
abbrev pub align_command : List ℕ → List ℕ → List ℕ → Command
align_command settings old new = record {
  reads = by_input (Some settings) None None (Some old);
  writes = cell_names new;
  statuses = 0 ∷ 3 ∷ 5 ∷ 6 ∷ 7 ∷ 8 ∷ 9 ∷ 10 ∷ [];
  memory_at_work = false;
  LacksAtWork = λ limit file unread. ⊥;
  early_refusal = λ file. settings_refusal (file settings);
  header = λ file. header_by (settings_of (file settings));
  work_refusal = λ limit file. option_and_then (λ s. align_refusal s (cells_in (file old)))
      (settings_of (file settings));
  most_taken = λ limit file. by_input (most_settings + 1) 0 0 (most_cells (settings_of (file settings)));
  Comes = λ limit file port output. (s : Settings) × (settings_of (file settings) ≡ Some s)
      × FileComes s (cells_in (file old)) output;
  Prints = λ limit file lines. (s : Settings) × (settings_of (file settings) ≡ Some s)
      × LinesCome s (cells_in (file old)) lines;
  ComesSoFar = λ limit file unread port output. (s : Settings) × (settings_of (file settings) ≡ Some s)
      × FileSoFar s (file old) (unread ins.Cells) output;
  PrintsSoFar = λ limit file unread lines. LinesSoFar (settings_of (file settings)) (file old) (unread ins.Cells) lines;
  Own = λ limit file. AlignLaws (settings_of (file settings)) (file old);
}
