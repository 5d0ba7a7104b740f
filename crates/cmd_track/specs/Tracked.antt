-- A file of cells, corrected by the scattered pilots of neighbouring symbols (EN 300 744, 4.5.3; the cell file and the
-- rule are this project's own). `bytes` are those after the header of the file, which begins at the first symbol of a
-- super-frame.
use Rattle.std.specs.Prelude.{◌≡◌, ◌⊎◌, ℕ, ◌-◌, ◌*◌, ◌<◌, ◌≤◌, nat_lt, if◌then◌else◌, List, [], ◌++◌, flat_map, take}
use Rattle.std.specs.Prelude.{drop, Option, Some, None}
use Rattle.spec_words.specs.Words.{numbers}
use Rattle.mode_set.specs.declared.settings.Settings.{Settings}
use Rattle.frame_build.specs.CellFile.{header}
use Rattle.tracking.specs.Tracking.{tracked_bytes}
use Rattle.reception.specs.Cells.{symbol_length, symbols, tail}
use Rattle.law_tracking.specs.Tracked.{received, tracked_file}
use Rattle.cmd_base.specs.declared.refusal.Refusal.{Refusal}
use Rattle.cmd_base.specs.declared.refusal.Refusal.TheVariants.{Limit}
use Rattle.cmd_convert.specs.Conversion.{counts_line}

-- the bytes of a cell file after its header of eight bytes
abbrev pub cells_in : List ℕ → List ℕ
cells_in file = drop 8 file

-- the corrected symbols that no further symbol changes: all whole symbols except the last seven
unfoldable pub live_cells : Settings → List ℕ → List ℕ
live_cells s bytes = flat_map (tracked_bytes s (received s bytes)) (numbers (symbols s bytes - 7))

-- the new file of ended cells: the header, then all whole symbols, corrected
abbrev pub ended_file : Settings → List ℕ → List ℕ
ended_file s bytes = header s.mode ++ tracked_file s bytes

-- the new file of cells that may continue
abbrev pub live_file : Settings → List ℕ → List ℕ
live_file s bytes = header s.mode ++ live_cells s bytes

-- the closing line: the whole symbols, and the bytes after them
abbrev pub closing_line : Settings → List ℕ → List ℕ
closing_line s bytes = counts_line (symbols s bytes) (tail s bytes)

-- the bytes of as many symbols as the limit
abbrev pub within_limit : Settings → List ℕ → List ℕ
within_limit s bytes = take (s.max_symbols * symbol_length s) bytes

-- The new file is that of all cells or, if they have more whole symbols than the limit, of those within it, as if they
-- continued.
abbrev pub FileComes : Settings → List ℕ → List ℕ → Type 0
FileComes s bytes output = ((symbols s bytes ≤ s.max_symbols) × (output ≡ ended_file s bytes))
    ⊎ ((s.max_symbols < symbols s bytes) × (output ≡ live_file s (within_limit s bytes)))

-- The report is the closing line, or is empty past the limit.
abbrev pub LinesCome : Settings → List ℕ → List ℕ → Type 0
LinesCome s bytes lines = ((symbols s bytes ≤ s.max_symbols) × (lines ≡ closing_line s bytes))
    ⊎ ((s.max_symbols < symbols s bytes) × (lines ≡ []))

-- After a failed read the new file is that of the cells taken, as if they continued. They are within the limit.
pub record FileSoFar (s : Settings) (bytes left output : List ℕ) : Type 0 where
  pub taken : List ℕ
  pub are : bytes ≡ taken ++ left
  pub within : symbols s taken ≤ s.max_symbols
  pub is : output ≡ live_file s taken

-- more whole symbols than the limit are refused
abbrev pub track_refusal : Settings → List ℕ → Option Refusal
track_refusal s bytes = if nat_lt s.max_symbols (symbols s bytes) then Some (Limit s.max_symbols) else None
