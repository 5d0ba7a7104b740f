-- Reception of cells that begin at any symbol. `bytes` are those after the header of the file; `two` is true if a file
-- of LP is written too.
use Rattle.std.specs.Prelude.{◌≡◌, ◌⊎◌, ℕ, ◌<◌, ◌≤◌, Bool, true, false, not, List, [], ◌++◌, Option, Some}
use Rattle.std.specs.Prelude.{if◌then◌else◌}
use Rattle.std.specs.Bool.{beq}
use Rattle.std.specs.Option.{option_map_or, option_or}
use Rattle.station_core.specs.declared.ports.OutPort.{OutPort}
use Rattle.station_core.specs.declared.ports.OutPort.TheVariants as outs
use Rattle.mode_set.specs.Kept.{is_flat}
use Rattle.mode_set.specs.declared.settings.Settings.{Settings}
use Rattle.reception.specs.Cells.{symbols}
use Rattle.cmd_base.specs.declared.refusal.Refusal.{Refusal}
use Rattle.cmd_base.specs.declared.refusal.Refusal.TheVariants.{Cells}
use Rattle.cmd_base.specs.declared.refusal.CellsRefusal.TheVariants.{NoPlace, AnnouncedForm}
use Rattle.cmd_cells.specs.Work.{Written}
use Rattle.cmd_receive.specs.Received.{reception_refusal, within_limit}
use Rattle.cmd_receive.specs.Working.{LiveGives, FinalGives}
use Rattle.tune_in.specs.Announced.{IsAnnounced}
use Rattle.tune_in.specs.OfBytes.{HasNoPlace, IsFoundIn, rest}
use Rattle.tune_in.specs.declared.frame.Found.{Found}
use Rattle.tune_in.specs.LeastPlace.{HoldsNone, HoldsPlace, place_of}
use Rattle.tune_search.specs.Searching.{place_line}

-- the command has LP exactly if a hierarchy is announced
abbrev pub fits : Bool → Found → Bool
fits two found = beq two (not (is_flat found.word.hierarchy))

-- what is written at a place: its line
abbrev pub at_place : Found → Written
at_place found outs.Report = place_line found
at_place found port = []

-- The line of a place, and then what the bytes from the next super-frame on give by the settings that the place
-- announces.
pub record Tuned (Received : Settings → List ℕ → Written → Type 0) (s : Settings) (two : Bool) (bytes : List ℕ)
    (found : Found) (given : Written) : Type 0 where
  pub fits_form : fits two found ≡ true
  pub announced : Settings
  pub is_announced : IsAnnounced found.word s announced
  pub behind : Written
  pub received : Received announced (rest s bytes found) behind
  pub is : (port : OutPort) → given port ≡ at_place found port ++ behind port

-- nothing was given
abbrev pub IsNothing : Written → Type 0
IsNothing given = (port : OutPort) → given port ≡ []

-- What the first bytes give, as if more might follow: nothing if they hold no place.
abbrev pub GivesLive : Settings → Bool → List ℕ → Written → Type 0
GivesLive s two bytes given = (HasNoPlace s bytes × IsNothing given)
    ⊎ ((found : Found) × IsFoundIn s bytes found × Tuned (λ a. LiveGives a two) s two bytes found given)

-- What all bytes give at their end: they hold a place.
abbrev pub GivesFinal : Settings → Bool → List ℕ → Written → Type 0
GivesFinal s two bytes given = (found : Found) × IsFoundIn s bytes found
    × Tuned (λ a. FinalGives a two) s two bytes found given

-- What a run produces. The symbols within the limit hold no place, or one that does not fit: nothing. They hold one
-- that fits: what all bytes give from it on or, if they are more than the limit, what those within it give.
abbrev pub ComesTo : Settings → Bool → List ℕ → Written → Type 0
ComesTo s two bytes given =
    (HoldsNone s bytes × IsNothing given)
    ⊎ ((found : Found) × HoldsPlace s bytes found × (
    ((fits two found ≡ false) × IsNothing given)
    ⊎ ((symbols s bytes ≤ s.max_symbols) × Tuned (λ a. FinalGives a two) s two bytes found given)
    ⊎ ((s.max_symbols < symbols s bytes) × Tuned (λ a. LiveGives a two) s two (within_limit s bytes) found given)))

-- Why it is refused, if it is: by the place within the limit, if there is one, and by the limit.
abbrev pub tune_refusal : Settings → Bool → List ℕ → Option Refusal
tune_refusal s two bytes = option_map_or (λ found. if fits two found then reception_refusal s bytes else Some
    (Cells AnnouncedForm)) (place_of s bytes) (option_or (reception_refusal s bytes) (Some (Cells NoPlace)))
