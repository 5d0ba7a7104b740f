-- The command of a conversion, `NAME SETTINGS OLD NEW`: its outputs, from its settings and the old file alone.
use Rattle.std.specs.Prelude.{◌≡◌, ◌⊎◌, ℕ, ◌+◌, ◌*◌, ◌<◌, ◌≤◌, nat_lt, if◌then◌else◌, List, [], ◌++◌, Option, None}
use Rattle.std.specs.Prelude.{Some, option_and_then, false}
use Rattle.station_core.specs.declared.ports.InPort.TheVariants as ins
use Rattle.mode_set.specs.declared.modes.Mode.{Mode}
use Rattle.mode_set.specs.declared.settings.Settings.{Settings}
use Rattle.cmd_base.specs.Command.{Command, Files}
use Rattle.cmd_base.specs.Header.{header_size}
use Rattle.cmd_base.specs.Ports.{by_input}
use Rattle.cmd_base.specs.SettingsFile.{most_settings, settings_refusal}
use Rattle.cmd_base.specs.StatedSettings.{settings_of}
use Rattle.cmd_base.specs.declared.refusal.Refusal.{Refusal}
use Rattle.cmd_base.specs.declared.refusal.Refusal.TheVariants.{Limit}
use Rattle.cmd_cells.specs.Outputs.{cell_names}
use Rattle.cmd_cells.specs.Symbols.{symbols, within_limit}
use Rattle.cmd_convert.specs.Conversion.{Conversion, closing_line, new_file, old_cells}

-- more whole symbols than the limit are refused
abbrev pub limit_refusal : Conversion → ℕ → List ℕ → Option Refusal
limit_refusal c most bytes = if nat_lt most (symbols c.size bytes) then Some (Limit most) else None

-- The new file is that of all old cells or, if they have more whole symbols than the limit, of those within it.
abbrev pub FileComes : Conversion → ℕ → List ℕ → List ℕ → Type 0
FileComes c most bytes output = ((symbols c.size bytes ≤ most) × (output ≡ new_file c bytes))
    ⊎ ((most < symbols c.size bytes) × (output ≡ new_file c (within_limit most c.size bytes)))

-- The report is the closing line, or is empty past the limit.
abbrev pub LinesCome : Conversion → ℕ → List ℕ → List ℕ → Type 0
LinesCome c most bytes lines = ((symbols c.size bytes ≤ most) × (lines ≡ closing_line c bytes))
    ⊎ ((most < symbols c.size bytes) × (lines ≡ []))

-- After a failed read the new file is that of the old cells taken, within the limit.
pub record FileSoFar (c : Conversion) (most : ℕ) (bytes left output : List ℕ) : Type 0 where
  pub taken : List ℕ
  pub are : bytes ≡ taken ++ left
  pub within : symbols c.size taken ≤ most
  pub is : output ≡ new_file c taken

-- at most the header, the limit and one symbol are taken from the old file
abbrev pub most_old : (Mode → Conversion) → Option Settings → ℕ
most_old by None = 0
most_old by (Some s) = header_size (by s.mode).old_header + (s.max_symbols + 1) * (by s.mode).size

-- the command, from the conversion of each mode, the possible statuses, and its own laws
abbrev pub conversion_command : (Mode → Conversion) → List ℕ → (Files → Type 0) → List ℕ → List ℕ → List ℕ → Command
conversion_command by statuses laws settings old new = record {
  reads = by_input (Some settings) None None (Some old);
  writes = cell_names new;
  statuses = statuses;
  memory_at_work = false;
  LacksAtWork = λ limit file unread. ⊥;
  early_refusal = λ file. settings_refusal (file settings);
  header = λ file. option_and_then (λ s. (by s.mode).old_header) (settings_of (file settings));
  work_refusal = λ limit file. option_and_then (λ s. limit_refusal (by s.mode) s.max_symbols
      (old_cells (by s.mode) (file old))) (settings_of (file settings));
  most_taken = λ limit file. by_input (most_settings + 1) 0 0 (most_old by (settings_of (file settings)));
  Comes = λ limit file port output. (s : Settings) × (settings_of (file settings) ≡ Some s)
      × FileComes (by s.mode) s.max_symbols (old_cells (by s.mode) (file old)) output;
  Prints = λ limit file lines. (s : Settings) × (settings_of (file settings) ≡ Some s)
      × LinesCome (by s.mode) s.max_symbols (old_cells (by s.mode) (file old)) lines;
  ComesSoFar = λ limit file unread port output.
      (s : Settings) × (settings_of (file settings) ≡ Some s)
      × FileSoFar (by s.mode) s.max_symbols (old_cells (by s.mode) (file old)) (unread ins.Cells) output;
  PrintsSoFar = λ limit file unread lines. lines ≡ [];
  Own = λ limit file. laws file;
}
