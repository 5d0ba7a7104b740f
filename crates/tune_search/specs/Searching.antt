-- The search for a place in bytes of cells.
use Rattle.std.specs.Prelude.{◌≡◌, ℕ, ◌+◌, ◌<◌, ◌^◌, ◌++◌, codes, decimal, false, List, [], Option, Some, None}
use Rattle.mode_set.specs.declared.settings.Settings.{Settings}
use Rattle.reception.specs.Cells.{symbols, tail}
use Rattle.tps_word.specs.Tps.{IsValid}
use Rattle.tune_in.specs.LeastPlace.{Searches}
use Rattle.tune_in.specs.OfBytes.{HasNoPlace, IsFoundIn, symbols_of}
use Rattle.tune_in.specs.Tuning.{StandsFor, TunerState}
use Rattle.tune_in.specs.declared.frame.Found.{Found}

-- the tuner has taken the whole symbols of the bytes and found no place, and no part of a symbol is waiting
pub record IsSearching (s : Settings) (tuner : TunerState) (waiting : List ℕ) (bytes : List ℕ) : Type 0 where
  pub stands : StandsFor s.mode tuner (symbols_of s bytes)
  pub searching : tuner.found ≡ false
  pub number : tuner.symbols ≡ symbols s bytes
  pub empty : waiting ≡ []
  pub none : HasNoPlace s bytes

-- bytes that hold this place, whose frame ends with them
pub record IsAtPlace (s : Settings) (bytes : List ℕ) (found : Found) : Type 0 where
  pub found_in : IsFoundIn s bytes found
  pub last : found.place + 68 ≡ symbols s bytes
  pub whole : tail s bytes ≡ 0
  pub small : found.place < 2 ^ 32
  pub valid : IsValid found.word

-- a search that has taken these bytes goes on, or has found a place
abbrev pub Searched : Settings → (List ℕ → Type 0) → List ℕ → Option Found → Type 0
Searched s standing bytes None = standing bytes × HasNoPlace s bytes
Searched s standing bytes (Some found) = IsAtPlace s bytes found

-- the least place within the limit is found, and none if there is none
abbrev pub FindsLeastPlaces : Type 0
FindsLeastPlaces = (s : Settings) (bytes : List ℕ) → Searches s bytes

-- the line of a place: the number of its first symbol, and that of the frame
abbrev pub place_line : Found → List ℕ
place_line found = codes "tune at " ++ decimal found.place ++ codes " frame " ++ decimal found.word.frame ++ codes "\n"
