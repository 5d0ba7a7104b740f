-- The work of `tune` on cells, by settings s; `two` is true if there are two streams.
use Rattle.std.specs.Prelude.{◌≡◌, ◌⊎◌, ℕ, ◌+◌, ◌≤◌, Bool, true, false, List, [], ◌++◌, Option, Some, None, Result, Ok}
use Rattle.std.specs.Prelude.{Err}
use Rattle.mode_set.specs.declared.settings.Settings.{Settings}
use Rattle.reception.specs.Cells.{symbol_length, symbols}
use Rattle.cmd_base.specs.declared.refusal.Refusal.{Refusal}
use Rattle.cmd_base.specs.declared.refusal.Refusal.TheVariants.{Usage, ReadFault, WriteFault, NotSync, Memory, Limit}
use Rattle.cmd_base.specs.declared.refusal.Refusal.TheVariants.{Cells}
use Rattle.cmd_base.specs.declared.refusal.Refusal.TheVariants as refusals
use Rattle.cmd_base.specs.declared.refusal.CellsRefusal.TheVariants.{Header, NoPlace, AnnouncedForm}
use Rattle.station_core.specs.Meaning.{Meaning}
use Rattle.station_core.specs.declared.ports.OutPort.{OutPort}
use Rattle.cmd_cells.specs.declared.run_error.RunError.{RunError}
use Rattle.cmd_cells.specs.declared.run_error.RunError.TheVariants as stops
use Rattle.cmd_cells.specs.Work.{Holds, HoldsFront, Work, Written}
use Rattle.cmd_receive.specs.Working.{LiveGives}
use Rattle.tune_in.specs.Announced.{IsAnnounced}
use Rattle.tune_in.specs.OfBytes.{HasNoPlace, IsFoundIn, rest}
use Rattle.tune_in.specs.Places.{begin}
use Rattle.tune_in.specs.declared.frame.Found.{Found}
use Rattle.cmd_tune.specs.Tuned.{GivesFinal, GivesLive, IsNothing, at_place, fits}

-- The cells are refused if they end without a place, if the place does not fit, or for want of memory at a place that
-- fits. Nothing was given before.
abbrev pub RefusesTuning : Settings → Bool → List ℕ → List ℕ → Written → Refusal → Type 0
RefusesTuning s two bytes left given (Cells NoPlace) = (left ≡ []) × HasNoPlace s bytes × IsNothing given
RefusesTuning s two bytes left given (Cells AnnouncedForm) = (found : Found) × IsFoundIn s bytes found
    × (fits two found ≡ false) × IsNothing given
RefusesTuning s two bytes left given (Cells Header) = ⊥
RefusesTuning s two bytes left given Memory = (found : Found) × IsFoundIn s bytes found × (fits two found ≡ true)
    × IsNothing given
RefusesTuning s two bytes left given Usage = ⊥
RefusesTuning s two bytes left given (refusals.Settings reason) = ⊥
RefusesTuning s two bytes left given ReadFault = ⊥
RefusesTuning s two bytes left given WriteFault = ⊥
RefusesTuning s two bytes left given (NotSync stream n) = ⊥
RefusesTuning s two bytes left given (Limit n) = ⊥

-- `tune` refuses the cells for want of a place, of a place that fits, or of memory
abbrev pub TuningReasons : Refusal → Type 0
TuningReasons r = (r ≡ Cells NoPlace) ⊎ (r ≡ Cells AnnouncedForm) ⊎ (r ≡ Memory)

-- the work of `tune` with these settings
abbrev pub tuning_work : Settings → Bool → Work
tuning_work s two = record {
  size = symbol_length s;
  Gives = GivesLive s two;
  Ends = GivesFinal s two;
  Refuses = RefusesTuning s two;
  Reasons = TuningReasons;
}

-- After a place: this many symbols are still to be skipped, and the reception by the announced settings stands for the
-- bytes after them.
pub record IsBehind (standing : List ℕ → Written → Type 0) (announced s : Settings) (two : Bool) (skip : ℕ)
    (found : Found) (bytes : List ℕ) (given : Written) : Type 0 where
  pub counts : (skip + symbols s bytes ≡ begin found) ⊎ ((skip ≡ 0) × (begin found ≤ symbols s bytes))
  pub stands : standing (rest s bytes found) given
  pub gives : LiveGives announced two (rest s bytes found) given

-- a reception after a place, by the settings that it announces
pub record IsBehindPlace (announced : Settings) (its_two : Bool) (skip : ℕ) (standing : List ℕ → Written → Type 0)
    (s : Settings) (two : Bool) (found : Found) (bytes : List ℕ) (given : Written) : Type 0 where
  pub is_announced : IsAnnounced found.word s announced
  pub two_is : its_two ≡ two
  pub is_behind : IsBehind standing announced s its_two skip found bytes given

-- the work stands for these bytes and gave this: it searches, or it receives after a place
abbrev pub TuningStands : {B : Type 0} → (Settings → List ℕ → Type 0)
    → (B → Settings → Bool → Found → List ℕ → Written → Type 0) → Settings → Bool → Option B → List ℕ → Written → Type 0
TuningStands searching receives s two None bytes given = searching s bytes × HasNoPlace s bytes × IsNothing given
TuningStands searching receives s two (Some b) bytes given =
    (found : Found) × (behind : Written) × IsFoundIn s bytes found × (fits two found ≡ true)
    × receives b s two found bytes behind × ((port : OutPort) → given port ≡ at_place found port ++ behind port)

-- a reception that begins after a place, and has had no byte
pub record BeginsBehind (announced : Settings) (Stands : Type 0) (s : Settings) (skip : ℕ) (its_two two : Bool)
    (found : Found) : Type 0 where
  pub is_announced : IsAnnounced found.word s announced
  pub stands : Stands
  pub two_is : its_two ≡ two
  pub skips : skip + (found.place + 68) ≡ begin found

-- there is something that is so
abbrev pub HasSome : {B : Type 0} → (B → Type 0) → Option B → Type 0
HasSome Is None = ⊥
HasSome Is (Some b) = Is b

-- what is done at a place: its line is written and the reception begun, or a prefix of the line was written, or the
-- place does not fit, or there was no memory
abbrev pub Tunes : Found → Bool → Type 0 → Meaning → Meaning → Result (Unit {0}) RunError → Type 0
Tunes found two Begun old new (Ok u) = (fits two found ≡ true) × Begun
    × (old.tells ≡ true → Holds old new (at_place found))
Tunes found two Begun old new (Err stops.WriteFault) = (fits two found ≡ true) × Begun
    × (old.tells ≡ true → HoldsFront old new (at_place found))
Tunes found two Begun old new (Err (stops.Work (Cells AnnouncedForm))) = (fits two found ≡ false) × (new ≡ old)
Tunes found two Begun old new (Err (stops.Work Memory)) = (fits two found ≡ true) × (new ≡ old)
Tunes found two Begun old new (Err stop) = ⊥
