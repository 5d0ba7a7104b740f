-- The work on cells: the bytes left, the output written, and how far it got. `file` is the bytes that the work may
-- take, `start` is the state of the station before it.
use Rattle.std.specs.Prelude.{◌≡◌, ◌⊎◌, ℕ, ◌+◌, ◌*◌, ◌<◌, ◌≤◌, Bool, true, false, List, [], ◌++◌, length, drop, Result}
use Rattle.std.specs.Prelude.{Ok, Err}
use Rattle.station_core.specs.Meaning.{Meaning}
use Rattle.cmd_base.specs.declared.refusal.Refusal.{Refusal}
use Rattle.cmd_cells.specs.declared.run_error.RunError.{RunError}
use Rattle.cmd_cells.specs.declared.run_error.RunError.TheVariants.{ReadFault, WriteFault, Limit}
use Rattle.cmd_cells.specs.declared.run_error.RunError.TheVariants as stops
use Rattle.cmd_cells.specs.Symbols.{symbols, within_limit}
use Rattle.cmd_cells.specs.Work.{Work, Written, Holds, HoldsFront}

-- only the cells left, the bytes written and pending, and the counts of faults have changed
abbrev pub KeepsOthers : Meaning → Meaning → Type 0
KeepsOthers old new = new ≡ record old {
  cells = record old.cells { left = new.cells.left };
  cells_out = record old.cells_out { written = new.cells_out.written };
  hp_out = record old.hp_out { written = new.hp_out.written };
  lp_out = record old.lp_out { written = new.lp_out.written };
  bytes_out = record old.bytes_out { written = new.bytes_out.written };
  report = record old.report { written = new.report.written };
  read_faults = new.read_faults;
  write_faults = new.write_faults;
  report_faults = new.report_faults;
  pending = new.pending;
}

-- at most n bytes of the cells were taken
abbrev pub TakesAtMost : ℕ → Meaning → Meaning → Type 0
TakesAtMost n old new = old.tells ≡ true → (k : ℕ) × (k ≤ n) × (new.cells.left ≡ drop k old.cells.left)

-- the state of the work matches the bytes taken, and its output was written
pub record IsWorking (w : Work) (standing : List ℕ → Written → Type 0) (file : List ℕ) (start m : Meaning)
    (bytes : List ℕ) (given : Written) : Type 0 where
  pub stands : standing bytes given
  pub gives : w.Gives bytes given
  pub are : m.tells ≡ true → file ≡ bytes ++ m.cells.left
  pub holds : m.tells ≡ true → Holds start m given

-- This is the output for some prefix: as if more might follow or, if the prefix is the whole file, at the end.
pub record GivenUpTo (w : Work) (most : ℕ) (file : List ℕ) (given : Written) : Type 0 where
  pub taken : List ℕ
  pub rest : List ℕ
  pub are : file ≡ taken ++ rest
  pub within : symbols w.size taken ≤ most
  pub gives : w.Gives taken given ⊎ ((rest ≡ []) × w.Ends taken given)

-- The work refuses the cells after some prefix, and had given this before.
pub record GivenBefore (w : Work) (most : ℕ) (file : List ℕ) (given : Written) : Type 0 where
  pub taken : List ℕ
  pub rest : List ℕ
  pub refusal : Refusal
  pub are : file ≡ taken ++ rest
  pub within : symbols w.size taken ≤ most
  pub its : w.Reasons refusal
  pub refuses : w.Refuses taken rest given refusal

-- a failed write: a prefix of the output for some prefix of the file was written, or of the output before a refusal
pub record IsCutShort (w : Work) (most : ℕ) (file : List ℕ) (start m : Meaning) : Type 0 where
  pub given : Written
  pub up : GivenUpTo w most file given ⊎ GivenBefore w most file given
  pub holds : HoldsFront start m given

-- a failed read: the output for the bytes taken was written, and they are within the limit
pub record IsStopped (w : Work) (most : ℕ) (file : List ℕ) (start m : Meaning) : Type 0 where
  pub taken : List ℕ
  pub given : Written
  pub are : file ≡ taken ++ m.cells.left
  pub within : symbols w.size taken ≤ most
  pub gives : w.Gives taken given
  pub holds : Holds start m given

-- more symbols than the limit: the output for those within it was written
pub record IsPast (w : Work) (most : ℕ) (file : List ℕ) (start m : Meaning) : Type 0 where
  pub given : Written
  pub past : most < symbols w.size file
  pub gives : w.Gives (within_limit most w.size file) given
  pub holds : Holds start m given

-- the work refuses the cells: its output before that was written
pub record IsRefused (w : Work) (most : ℕ) (file : List ℕ) (start m : Meaning) (r : Refusal) : Type 0 where
  pub taken : List ℕ
  pub given : Written
  pub are : file ≡ taken ++ m.cells.left
  pub within : symbols w.size taken ≤ most
  pub refuses : w.Refuses taken m.cells.left given r
  pub holds : Holds start m given

-- all cells: their final output was written
pub record IsWhole (w : Work) (file : List ℕ) (start m : Meaning) : Type 0 where
  pub given : Written
  pub ends : w.Ends file given
  pub holds : Holds start m given

-- The cells have no more whole symbols than the limit, and the work completes on them.
abbrev pub EndsWithin : Work → ℕ → List ℕ → Type 0
EndsWithin w most file = (symbols w.size file ≤ most) × ((given : Written) × w.Ends file given)

-- what is left if the work stops
abbrev pub Stopped : Work → ℕ → List ℕ → Meaning → Meaning → RunError → Type 0
Stopped w most file start m ReadFault = IsStopped w most file start m
Stopped w most file start m WriteFault = IsCutShort w most file start m
Stopped w most file start m Limit = IsPast w most file start m
Stopped w most file start m (stops.Work r) = IsRefused w most file start m r

-- After n symbols one more was taken, or the rest of the cells, or the work stopped.
abbrev pub Next : Work → (List ℕ → Written → Type 0) → ℕ → List ℕ → ℕ → Meaning → Meaning → Result Bool RunError
    → Type 0
Next w standing most file n start m (Ok true) =
    (bytes : List ℕ) × (given : Written) × IsWorking w standing file start m bytes given
    × (length bytes ≡ (n + 1) * w.size)
Next w standing most file n start m (Ok false) =
    (bytes : List ℕ) × (given : Written) × IsWorking w standing file start m bytes given × (symbols w.size bytes ≤ n)
    × (m.tells ≡ true → m.cells.left ≡ [])
Next w standing most file n start m (Err stop) = m.tells ≡ true → Stopped w most file start m stop

-- The whole work.
abbrev pub Works : Work → ℕ → List ℕ → Meaning → Meaning → Result (Unit {0}) RunError → Type 0
Works w most file start m (Ok u) = m.tells ≡ true → (m.cells.left ≡ []) × (symbols w.size file ≤ most)
    × IsWhole w file start m
Works w most file start m (Err stop) = m.tells ≡ true → Stopped w most file start m stop
