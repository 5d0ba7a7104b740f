-- Places in a cell file.
use Rattle.std.specs.Prelude.{◌≡◌, ℕ, ◌*◌, List, [], ◌∷◌, ◌++◌, drop, length, map}
use Rattle.spec_words.specs.Words.{numbers}
use Rattle.mode_set.specs.declared.settings.Settings.{Settings}
use Rattle.qam_map.specs.declared.cell.Cell.{Cell}
use Rattle.reception.specs.Cells.{symbol_length, symbols, symbol_cells}
use Rattle.reception.specs.Frames.{tps_cells}
use Rattle.reception.specs.Laws.{EndsSymbol}
use Rattle.tune_in.specs.Places.{begin, IsFound, NoPlace}
use Rattle.tune_in.specs.Tuning.{tps_of}
use Rattle.tune_in.specs.declared.frame.Found.{Found}

-- the symbols of a list of bytes, each as the cells of its carriers
unfoldable pub symbols_of : Settings → List ℕ → List (List Cell)
symbols_of s bytes = map (symbol_cells s bytes) (numbers (symbols s bytes))

-- the least place in the symbols of the bytes
abbrev pub IsFoundIn : Settings → List ℕ → Found → Type 0
IsFoundIn s bytes found = IsFound s.mode (tps_cells s bytes) (symbols s bytes) found

-- the bytes hold no place
abbrev pub HasNoPlace : Settings → List ℕ → Type 0
HasNoPlace s bytes = NoPlace s.mode (tps_cells s bytes) (symbols s bytes)

-- what a tuner finds in the symbols of the bytes is found in the bytes
abbrev pub FoundInBytes : Type 0
FoundInBytes = (s : Settings) (bytes : List ℕ) (found : Found)
    → IsFound s.mode (tps_of s.mode (symbols_of s bytes)) (length (symbols_of s bytes)) found → IsFoundIn s bytes found

-- if a tuner finds none, there is none
abbrev pub NoneInBytes : Type 0
NoneInBytes = (s : Settings) (bytes : List ℕ) → NoPlace s.mode (tps_of s.mode (symbols_of s bytes)) (length
    (symbols_of s bytes)) → HasNoPlace s bytes

-- a place found stays found if more bytes follow
abbrev pub FoundStaysInBytes : Type 0
FoundStaysInBytes = (s : Settings) (bytes more : List ℕ) (found : Found) → IsFoundIn s bytes found
    → IsFoundIn s (bytes ++ more) found

-- bytes that complete a symbol add that symbol
abbrev pub SymbolIsAdded : Type 0
SymbolIsAdded = (s : Settings) (bytes more : List ℕ) → EndsSymbol s bytes more → symbols_of s (bytes ++ more)
    ≡ symbols_of s bytes ++ symbol_cells s (bytes ++ more) (symbols s bytes) ∷ []

-- the bytes from the first symbol of the next super-frame on
abbrev pub rest : Settings → List ℕ → Found → List ℕ
rest s bytes found = drop (begin found * symbol_length s) bytes
