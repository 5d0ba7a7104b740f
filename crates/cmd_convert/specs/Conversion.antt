-- A file of cells is converted to another one, symbol by symbol (this project's own).
use Rattle.std.specs.Prelude.{ℕ, ◌*◌, List, ◌++◌, take, drop, flat_map, codes, decimal, Option}
use Rattle.spec_words.specs.Words.{numbers}
use Rattle.cmd_base.specs.Header.{behind_header}
use Rattle.cmd_cells.specs.Symbols.{symbols, tail}

-- a conversion from one kind of cell file to another
pub record Conversion : Type 0 where
  -- the header required of the old file, if any
  pub old_header : Option (List ℕ)
  -- the bytes of an old symbol
  pub size : ℕ
  -- the header of the new file
  pub new_header : List ℕ
  -- the new bytes of the symbol of this number, counted from 0, from its old bytes
  pub new_symbol : ℕ → List ℕ → List ℕ

-- the old cells: the bytes after the old file's header
abbrev pub old_cells : Conversion → List ℕ → List ℕ
old_cells c file = behind_header c.old_header file

-- the bytes of symbol n of old cells
abbrev pub old_symbol : ℕ → List ℕ → ℕ → List ℕ
old_symbol size bytes n = take size (drop (n * size) bytes)

-- the first n symbols of old cells, converted in order
unfoldable pub new_symbols : Conversion → ℕ → List ℕ → List ℕ
new_symbols c n bytes = flat_map (λ k. c.new_symbol k (old_symbol c.size bytes k)) (numbers n)

-- the new cells: the whole symbols of the old ones, converted
abbrev pub new_cells : Conversion → List ℕ → List ℕ
new_cells c bytes = new_symbols c (symbols c.size bytes) bytes

-- the new file for old cells: its header, then the new cells
abbrev pub new_file : Conversion → List ℕ → List ℕ
new_file c bytes = c.new_header ++ new_cells c bytes

-- the closing line: the whole symbols, and the bytes after them
abbrev pub counts_line : ℕ → ℕ → List ℕ
counts_line counted rest = codes "symbols " ++ decimal counted ++ codes " tail " ++ decimal rest ++ codes "\n"

-- the closing line for the bytes of an old file
abbrev pub closing_line : Conversion → List ℕ → List ℕ
closing_line c bytes = counts_line (symbols c.size bytes) (tail c.size bytes)
