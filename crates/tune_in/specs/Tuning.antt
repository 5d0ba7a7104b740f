-- The symbols that a tuner has received.
use Rattle.std.specs.Prelude.{◌≡◌, ℕ, ◌+◌, ◌-◌, ◌^◌, ◌<◌, ◌≤◌, min, Bool, false, List, [], length, take, get_or, Option}
use Rattle.std.specs.Prelude.{Some, None}
use Rattle.mode_set.specs.declared.modes.Mode.{Mode}
use Rattle.pilots.specs.Carriers.{tps_carriers}
use Rattle.qam_map.specs.declared.cell.Cell.{Cell}
use Rattle.tps_word.specs.Vote.{tps_cells_of, bit_from}
use Rattle.tune_in.specs.Places.{NoPlace, IsFound}
use Rattle.tune_in.specs.declared.frame.Found.{Found}

-- the cells of the TPS carriers of symbol m; each symbol is the cells of its carriers
unfoldable pub tps_of : Mode → List (List Cell) → ℕ → List Cell
tps_of mode symbols m = tps_cells_of mode (get_or symbols m [])

-- the visible state of a tuner: the number of symbols received, whether a place was found, the kept cells of the last
-- symbol, and the last votes
pub record TunerState : Type 0 where
  pub symbols : ℕ
  pub found : Bool
  pub before : List Cell
  pub votes : List Bool

-- every symbol after the first has a vote; the last 67 are kept
pub record IsTuning (votes : List Bool) (capacity symbols : ℕ) : Type 0 where
  pub room : capacity ≡ 67
  pub long : length votes ≡ min 67 (symbols - 1)
  pub few : symbols ≤ 2 ^ 32

-- the tuner has had n symbols with these TPS cells; it keeps those of the last one, and the last votes, at most 67
pub record Keeps (mode : Mode) (t : TunerState) (cells : ℕ → List Cell) (n : ℕ) : Type 0 where
  pub number : t.symbols ≡ n
  pub last : 0 < n → take (length (tps_carriers mode)) t.before ≡ cells (n - 1)
  pub long : length t.votes ≡ min 67 (n - 1)
  pub votes : (k : ℕ) → k < length t.votes → get_or t.votes k false ≡ bit_from cells (n - 1 - length t.votes) k

-- it has had exactly these symbols, and none of them is a place
pub record StandsFor (mode : Mode) (t : TunerState) (symbols : List (List Cell)) : Type 0 where
  pub keeps : Keeps mode t (tps_of mode symbols) (length symbols)
  pub none : NoPlace mode (tps_of mode symbols) (length symbols)

-- the answer to the last of these symbols: the least place, if this symbol is the last of its frame
abbrev pub Answers : Mode → List (List Cell) → Option Found → Type 0
Answers mode symbols None = NoPlace mode (tps_of mode symbols) (length symbols)
Answers mode symbols (Some found) = IsFound mode (tps_of mode symbols) (length symbols) found
    × (found.place + 68 ≡ length symbols)
