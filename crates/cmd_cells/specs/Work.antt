-- The work of a command on cells, and the effect of each of its calls.
use Rattle.std.specs.Prelude.{⊤, ◌≡◌, ℕ, ◌^◌, ◌<◌, Bool, true, false, List, [], ◌++◌, take, Result, Ok, Err}
use Rattle.station_core.specs.Meaning.{Meaning, sink_at}
use Rattle.station_core.specs.declared.ports.OutPort.{OutPort}
use Rattle.cmd_base.specs.declared.refusal.Refusal.{Refusal}
use Rattle.cmd_cells.specs.declared.run_error.RunError.{RunError}
use Rattle.cmd_cells.specs.declared.run_error.RunError.TheVariants.{ReadFault, WriteFault, Limit}
use Rattle.cmd_cells.specs.declared.run_error.RunError.TheVariants as stops
use Rattle.cmd_cells.specs.Symbols.{symbols}

-- the bytes written at each port; those at Report are the lines of the report
abbrev pub Written : Type 0
Written = OutPort → List ℕ

-- no bytes at any port
abbrev pub none_written : Written
none_written port = []

-- The work on cells: its outputs, as relations to the bytes of the cells.
pub record Work : Type 1 where
  -- the bytes of a symbol
  pub size : ℕ
  -- the output for a prefix of the cells, as if more might follow
  pub Gives : List ℕ → Written → Type 0
  -- the output for all bytes of the cells, at their end
  pub Ends : List ℕ → Written → Type 0
  -- After these bytes, with those left, the work refuses the cells for this reason. This output had been given before.
  pub Refuses : List ℕ → List ℕ → Written → Refusal → Type 0
  -- the possible reasons of a refusal
  pub Reasons : Refusal → Type 0

-- the work refuses only for its own reasons
abbrev pub HasReason : {T : Type 0} → Work → Result T RunError → Type 0
HasReason w (Ok value) = ⊤
HasReason w (Err ReadFault) = ⊤
HasReason w (Err WriteFault) = ⊤
HasReason w (Err Limit) = ⊤
HasReason w (Err (stops.Work r)) = w.Reasons r

-- at each port these bytes were appended
abbrev pub Holds : Meaning → Meaning → Written → Type 0
Holds old new more = (port : OutPort) → (sink_at port new).written ≡ (sink_at port old).written ++ more port

-- at each port a prefix of them was
abbrev pub HoldsFront : Meaning → Meaning → Written → Type 0
HoldsFront old new more = (port : OutPort) → (k : ℕ) × ((sink_at port new).written ≡ (sink_at port old).written ++ take
    k (more port))

-- the total output is the earlier output and this
abbrev pub Follows : Written → Written → Written → Type 0
Follows before more after = (port : OutPort) → after port ≡ before port ++ more port

-- a call gave this additional output, and wrote it
pub record Gave (Is : Written → Type 0) (before : Written) (old new : Meaning) : Type 0 where
  pub after : Written
  pub more : Written
  pub is : Is after
  pub follows : Follows before more after
  pub written : old.tells ≡ true → Holds old new more

-- a call gave this additional output, and wrote a prefix of it
pub record GaveFront (Is : Written → Type 0) (before : Written) (old new : Meaning) : Type 0 where
  pub after : Written
  pub more : Written
  pub is : Is after
  pub follows : Follows before more after
  pub written : old.tells ≡ true → HoldsFront old new more

-- The effect of a call of the work: it gave output that satisfies `Is`, and the new state satisfies `Stands`; or a
-- write failed; or the work refuses the cells for a reason in `Its`, and nothing was written.
abbrev pub Does : (Written → Type 0) → (Written → Type 0) → (Refusal → Type 0) → Written → Meaning → Meaning
    → Result (Unit {0}) RunError → Type 0
Does Stands Is Its before old new (Ok u) = Gave (λ after. Stands after × Is after) before old new
Does Stands Is Its before old new (Err WriteFault) = GaveFront Is before old new
Does Stands Is Its before old new (Err (stops.Work r)) = Its r
    × (old.tells ≡ true → (port : OutPort) → (sink_at port new).written ≡ (sink_at port old).written)
Does Stands Is Its before old new (Err ReadFault) = ⊥
Does Stands Is Its before old new (Err Limit) = ⊥

-- one more piece of the cells was taken; `standing` is the meaning of the state then
abbrev pub Takes : Work → (List ℕ → Written → Type 0) → List ℕ → List ℕ → Written → Meaning → Meaning
    → Result (Unit {0}) RunError → Type 0
Takes w standing bytes piece before =
    Does (standing (bytes ++ piece)) (w.Gives (bytes ++ piece))
    (λ r. (left : List ℕ) → w.Refuses (bytes ++ piece) left before r) before

-- all cells were taken
abbrev pub Finishes : Work → List ℕ → Written → Meaning → Meaning → Result (Unit {0}) RunError → Type 0
Finishes w bytes before = Does (λ after. Unit {0}) (w.Ends bytes) (w.Refuses bytes [] before) before

-- work that may take another piece: it has had fewer than 2^32 symbols
pub record GoesOn (w : Work) (standing : List ℕ → Written → Type 0) : Type 0 where
  pub bytes : List ℕ
  pub given : Written
  pub stands : standing bytes given
  pub few : symbols w.size bytes < 2 ^ 32

-- only the bytes written and pending, and the counts of write faults have changed
abbrev pub WritesOnly : Meaning → Meaning → Type 0
WritesOnly old new = new ≡ record old {
  cells_out = record old.cells_out { written = new.cells_out.written };
  hp_out = record old.hp_out { written = new.hp_out.written };
  lp_out = record old.lp_out { written = new.lp_out.written };
  bytes_out = record old.bytes_out { written = new.bytes_out.written };
  report = record old.report { written = new.report.written };
  write_faults = new.write_faults;
  report_faults = new.report_faults;
  pending = new.pending;
}

-- the outputs of the work, and Report, are created and not closed
pub record AreOpen (outputs : OutPort → Bool) (m : Meaning) : Type 0 where
  pub made : (port : OutPort) → outputs port ≡ true → (sink_at port m).created ≡ true
  pub opened : (port : OutPort) → outputs port ≡ true → (sink_at port m).closed ≡ false
  pub report : m.report.created ≡ true
  pub report_open : m.report.closed ≡ false
