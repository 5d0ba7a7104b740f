-- The outputs of a command that reads cells: created before the work, closed after it. `names` has the file written at
-- each port, if any.
use Rattle.std.specs.Prelude.{◌≡◌, ◌⊎◌, ℕ, Bool, true, false, List, [], Option, Some, None, is_some, if◌then◌else◌}
use Rattle.std.specs.Prelude.{Result, Ok, Err}
use Rattle.station_core.specs.Meaning.{Meaning, Sink, sink_at, IsUntouched}
use Rattle.station_core.specs.declared.ports.OutPort.{OutPort}
pub use Rattle.cmd_base.specs.Ports.{cell_names, stream_names}
use Rattle.cmd_cells.specs.declared.run_error.RunError.{RunError}
use Rattle.cmd_cells.specs.declared.run_error.RunError.TheVariants.{WriteFault}

-- the name of the file written at each port
abbrev pub Names : Type 0
Names = OutPort → Option (List ℕ)

-- nothing was requested at these ports
abbrev pub AreUntouched : Names → Meaning → Type 0
AreUntouched names m = (port : OutPort) → is_some (names port) ≡ true → IsUntouched (sink_at port m)

-- an output that was created
abbrev pub made : List ℕ → Sink
made name = record { asked = Some name; created = true; closed = false; written = [] }

-- only sinks and the counts of failed writes and closes have changed
abbrev pub SinksOnly : Meaning → Meaning → Type 0
SinksOnly old new = new ≡ record old {
  cells_out = new.cells_out;
  hp_out = new.hp_out;
  lp_out = new.lp_out;
  bytes_out =
      new.bytes_out;
  write_faults = new.write_faults;
  close_faults = new.close_faults;
}

-- the outputs were created, LP after HP
pub record AreMade (names : Names) (old new : Meaning) : Type 0 where
  pub others : SinksOnly old new
  pub unfailed : new.close_faults ≡ old.close_faults
  pub are : (port : OutPort) (name : List ℕ) → names port ≡ Some name → sink_at port new ≡ made name
  pub kept : (port : OutPort) → names port ≡ None → sink_at port new ≡ sink_at port old
  pub lp_behind : (new.lp_out ≡ old.lp_out) ⊎ (new.hp_out.created ≡ true)

-- An output was not created: none is open, and all are empty. LP was requested only if HP was created.
pub record AreUnmade (names : Names) (old new : Meaning) : Type 0 where
  pub others : SinksOnly old new
  pub asked : (port : OutPort) → (sink_at port new ≡ sink_at port old) ⊎ ((sink_at port new).asked ≡ names port)
  pub shut : (port : OutPort) → is_some (names port) ≡ true → (sink_at port new).created ≡ true
      → ((sink_at port new).closed ≡ true) × ((sink_at port new).written ≡ [])
  pub lp_behind : (new.lp_out ≡ old.lp_out) ⊎ (new.hp_out.created ≡ true)

-- the outputs were created, or one was not
abbrev pub Makes : Names → Meaning → Meaning → Result (Unit {0}) RunError → Type 0
Makes names old new (Ok u) = AreMade names old new
Makes names old new (Err stop) = (stop ≡ WriteFault) × AreUnmade names old new

-- only the closed flags and the count of failed closes have changed
abbrev pub ClosesOnly : Meaning → Meaning → Type 0
ClosesOnly old new = new ≡ record old {
  cells_out = record old.cells_out { closed = new.cells_out.closed };
  hp_out = record old.hp_out { closed = new.hp_out.closed };
  lp_out = record old.lp_out { closed = new.lp_out.closed };
  bytes_out = record old.bytes_out { closed = new.bytes_out.closed };
  close_faults = new.close_faults;
}

-- the outputs are closed, even if a close failed
pub record AreClosed (names : Names) (old new : Meaning) : Type 0 where
  pub others : ClosesOnly old new
  pub closed : (port : OutPort) → is_some (names port) ≡ true → (sink_at port new).closed ≡ true

-- success, or a write fault
abbrev pub IsWriting : Result (Unit {0}) RunError → Type 0
IsWriting (Ok u) = Unit {0}
IsWriting (Err stop) = stop ≡ WriteFault

-- LP is closed, if there are two streams
abbrev pub ClosesLp : Bool → Meaning → Meaning → Type 0
ClosesLp two old new = new ≡ record old {
  lp_out = if two then record old.lp_out { closed = true } else old.lp_out;
  close_faults = new.close_faults;
}
