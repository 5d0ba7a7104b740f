-- A file of cells that begins anywhere, aligned to the super-frame after the one found (EN 300 744, 4.6.2; the cell
-- file is this project's own). `bytes` are those after the header of the file.
use Rattle.std.specs.Prelude.{◌≡◌, ◌⊎◌, ℕ, ◌*◌, ◌<◌, ◌≤◌, nat_lt, if◌then◌else◌, List, [], ◌++◌, take, drop, Option}
use Rattle.std.specs.Prelude.{Some, None}
use Rattle.std.specs.Option.{option_or}
use Rattle.mode_set.specs.declared.settings.Settings.{Settings}
use Rattle.frame_build.specs.CellFile.{header}
use Rattle.reception.specs.Cells.{symbol_length, symbols, tail}
use Rattle.reception.specs.WholeSymbols.{AreReceivedAlike, whole_symbols}
use Rattle.cmd_base.specs.declared.refusal.Refusal.{Refusal}
use Rattle.cmd_base.specs.declared.refusal.Refusal.TheVariants.{Cells, Limit}
use Rattle.cmd_base.specs.declared.refusal.CellsRefusal.TheVariants.{NoPlace}
use Rattle.cmd_convert.specs.Conversion.{counts_line}
use Rattle.tune_in.specs.Announced.{IsAnnounced}
use Rattle.tune_in.specs.LeastPlace.{HoldsPlace, Searches, place_of}
use Rattle.tune_in.specs.OfBytes.{rest}
use Rattle.tune_in.specs.declared.frame.Found.{Found}
use Rattle.cmd_align.specs.Announcement.{AreSettingsWords, found_lines}

-- the bytes of a cell file after its header of eight bytes
abbrev pub cells_in : List ℕ → List ℕ
cells_in file = drop 8 file

-- the aligned cells: the whole symbols from the next super-frame on, byte for byte, or none if no place is found
abbrev pub aligned_cells : Settings → List ℕ → Option Found → List ℕ
aligned_cells s bytes None = []
aligned_cells s bytes (Some found) = whole_symbols s (rest s bytes found)

-- the aligned file, which has the header of the mode even if no place is found
abbrev pub aligned_file : Settings → List ℕ → Option Found → List ℕ
aligned_file s bytes place = header s.mode ++ aligned_cells s bytes place

-- the lines of the place
abbrev pub lines_at : Option Found → List ℕ
lines_at None = []
lines_at (Some found) = found_lines found

-- the closing line: the whole symbols from the next super-frame on, and the bytes after them
abbrev pub closing_at : Settings → List ℕ → Option Found → List ℕ
closing_at s bytes None = []
closing_at s bytes (Some found) = counts_line (symbols s (rest s bytes found)) (tail s (rest s bytes found))

-- the bytes of as many symbols as the limit
abbrev pub within_limit : Settings → List ℕ → List ℕ
within_limit s bytes = take (s.max_symbols * symbol_length s) bytes

-- The new file is the aligned file of all cells or, if they have more whole symbols than the limit, of those within it.
-- The place is the least one within the limit.
abbrev pub FileComes : Settings → List ℕ → List ℕ → Type 0
FileComes s bytes output =
    ((symbols s bytes ≤ s.max_symbols) × (output ≡ aligned_file s bytes (place_of s bytes)))
    ⊎ ((s.max_symbols < symbols s bytes) × (output ≡ aligned_file s (within_limit s bytes) (place_of s bytes)))

-- The report is the lines of the place and the closing line, or past the limit only the lines of the place.
abbrev pub LinesCome : Settings → List ℕ → List ℕ → Type 0
LinesCome s bytes lines =
    ((symbols s bytes ≤ s.max_symbols) × (lines ≡ lines_at (place_of s bytes) ++ closing_at s bytes (place_of s bytes)))
    ⊎ ((s.max_symbols < symbols s bytes) × (lines ≡ lines_at (place_of s bytes)))

-- After a failed read these bytes, a prefix of the file within the limit, were taken.
pub record AreTaken (s : Settings) (file left taken : List ℕ) : Type 0 where
  pub are : file ≡ taken ++ left
  pub within : symbols s (cells_in taken) ≤ s.max_symbols

-- the new file is the aligned file of their cells
abbrev pub FileSoFar : Settings → List ℕ → List ℕ → List ℕ → Type 0
FileSoFar s file left output = (taken : List ℕ) × AreTaken s file left taken
    × (output ≡ aligned_file s (cells_in taken) (place_of s (cells_in taken)))

-- and the report has the lines of their place, if there is one; none if no settings are stated
abbrev pub LinesSoFar : Option Settings → List ℕ → List ℕ → List ℕ → Type 0
LinesSoFar None file left lines = lines ≡ []
LinesSoFar (Some s) file left lines = (taken : List ℕ) × AreTaken s file left taken
    × (lines ≡ lines_at (place_of s (cells_in taken)))

-- the refusal past the limit of symbols, if any
abbrev pub limit_refusal : Settings → List ℕ → Option Refusal
limit_refusal s bytes = if nat_lt s.max_symbols (symbols s bytes) then Some (Limit s.max_symbols) else None

-- within the limit, cells without a place are refused
abbrev pub refusal_at : Option Refusal → Option Found → Option Refusal
refusal_at limit None = option_or limit (Some (Cells NoPlace))
refusal_at limit (Some found) = limit

-- the refusal of the cells, if any
abbrev pub align_refusal : Settings → List ℕ → Option Refusal
align_refusal s bytes = refusal_at (limit_refusal s bytes) (place_of s bytes)

-- the laws, from the stated settings, if any, and the file of cells
pub record AlignLaws (stated : Option Settings) (file : List ℕ) : Type 0 where
  -- The place is the least one by its definition.
  pub searches : (s : Settings) → stated ≡ Some s → Searches s (cells_in file)
  -- With the announced settings, the aligned cells have the same reception as the bytes from the next super-frame on.
  pub received : (s : Settings) → stated ≡ Some s → (found : Found) → HoldsPlace s (cells_in file) found
      → (announced : Settings) → IsAnnounced found.word s announced
      → AreReceivedAlike announced (rest s (cells_in file) found) (aligned_cells s (cells_in file) (Some found))
  -- The names of the announced parameters are those of the settings file.
  pub words : AreSettingsWords
