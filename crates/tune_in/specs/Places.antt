-- Frames in symbols that begin anywhere, and what they signal (EN 300 744, 4.6; the vote and the rule for places are
-- this project's own).
use Rattle.std.specs.Prelude.{◌≡◌, ℕ, ◌+◌, ◌-◌, ◌*◌, ◌≤◌, Bool, List}
use Rattle.mode_set.specs.declared.modes.Mode.{Mode}
use Rattle.qam_map.specs.declared.cell.Cell.{Cell}
use Rattle.tps_word.specs.Vote.{bits_from}
use Rattle.tps_word.specs.Signals.{Signals}
use Rattle.tps_word.specs.declared.word.TpsWord.{TpsWord}
use Rattle.tune_in.specs.declared.frame.Found.{Found}

-- the bits are within two errors of the word of these fields, which are valid and of this mode
pub record Announces (mode : Mode) (bits : List Bool) (fields : TpsWord) : Type 0 where
  pub signals : Signals bits fields
  pub mode_is : fields.mode ≡ mode

-- symbol i of n symbols is a place: symbols i to i + 67 exist, and the votes of a frame that begins with symbol i
-- announce these fields
pub record IsPlace (mode : Mode) (cells : ℕ → List Cell) (n i : ℕ) (fields : TpsWord) : Type 0 where
  pub held : i + 68 ≤ n
  pub announces : Announces mode (bits_from cells i) fields

-- none of the n symbols is a place
abbrev pub NoPlace : Mode → (ℕ → List Cell) → ℕ → Type 0
NoPlace mode cells n = (i : ℕ) (fields : TpsWord) → IsPlace mode cells n i fields → ⊥

-- the least place in n symbols, with the fields of the corrected word
pub record IsFound (mode : Mode) (cells : ℕ → List Cell) (n : ℕ) (found : Found) : Type 0 where
  pub place : IsPlace mode cells n found.place found.word
  pub least : (i : ℕ) (fields : TpsWord) → IsPlace mode cells n i fields → found.place ≤ i

-- the first symbol of the super-frame after the found one
abbrev pub begin : Found → ℕ
begin found = found.place + 68 * (5 - found.word.frame)

-- at most one place is found, with one word
abbrev pub OneFound : Type 0
OneFound = (mode : Mode) (cells : ℕ → List Cell) (n : ℕ) (found other : Found) → IsFound mode cells n found
    → IsFound mode cells n other → found ≡ other

-- a place found stays found with more symbols
abbrev pub FoundStays : Type 0
FoundStays = (mode : Mode) (cells : ℕ → List Cell) (n m : ℕ) (found : Found) → n ≤ m → IsFound mode cells n found
    → IsFound mode cells m found
