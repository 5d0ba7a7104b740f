-- Why the work on cells stops, and the counts of faults at that point.
use Rattle.std.specs.Prelude.{◌≡◌, ◌≤◌, ◌⊎◌, ℕ, Option, None, Some, Result, Ok, Err}
use Rattle.station_core.specs.Causes.{Rose}
use Rattle.station_core.specs.Meaning.{Meaning, flushed, with_write_faults}
use Rattle.cmd_base.specs.declared.refusal.Refusal.{Refusal}
use Rattle.cmd_base.specs.declared.refusal.Refusal.TheVariants as refusals
use Rattle.cmd_base.specs.Causes.{AreReadsKept, IsSettled}
use Rattle.cmd_cells.specs.declared.run_error.RunError.{RunError}
use Rattle.cmd_cells.specs.declared.run_error.RunError.TheVariants.{ReadFault, WriteFault, Limit, Work}

-- the refusal of a run that stopped like this
abbrev pub stop_refusal : ℕ → RunError → Refusal
stop_refusal most ReadFault = refusals.ReadFault
stop_refusal most WriteFault = refusals.WriteFault
stop_refusal most Limit = refusals.Limit most
stop_refusal most (Work refusal) = refusal

-- the refusal of a result, if it has one
abbrev pub refusal_in : ℕ → Result (Unit {0}) RunError → Option Refusal
refusal_in most (Ok u) = None
refusal_in most (Err stop) = Some (stop_refusal most stop)

-- A fault is only reported if its count rose. If the work continues, no count has changed.
abbrev pub HasCause : {T : Type 0} → Meaning → Meaning → Result T RunError → Type 0
HasCause old new (Ok value) = (new.read_faults ≡ old.read_faults) × (new.write_faults ≡ old.write_faults)
HasCause old new (Err ReadFault) = Rose old.read_faults new.read_faults × (old.read_faults ≤ new.read_faults)
    × (new.write_faults ≡ old.write_faults)
HasCause old new (Err WriteFault) = (new.read_faults ≡ old.read_faults) × Rose old.write_faults new.write_faults
    × (old.write_faults ≤ new.write_faults)
HasCause old new (Err Limit) = (new.read_faults ≡ old.read_faults) × (new.write_faults ≡ old.write_faults)
HasCause old new (Err (Work refusal)) = (new.read_faults ≡ old.read_faults) × (new.write_faults ≡ old.write_faults)

-- The outputs were flushed after the work stopped. The reason stays unless a write failed in the flush; then it becomes
-- a write fault, as that write was given first.
abbrev pub Settles : Result (Unit {0}) RunError → Meaning → Meaning → Result (Unit {0}) RunError → Type 0
Settles (Ok u) old new settled = (settled ≡ Ok u) × (new ≡ old)
Settles (Err stop) old new settled =
    ((settled ≡ Err stop) × (new ≡ flushed old))
    ⊎ ((settled ≡ Err WriteFault) × Rose old.write_faults new.write_faults × (old.write_faults ≤ new.write_faults)
    × (new ≡ with_write_faults new.write_faults old))

-- The same after closing the outputs, which may fail and is counted. A write fault is reported if a write failed or,
-- after complete work, if an output could not be closed. After another stop the outputs were flushed first.
abbrev pub HasEndCause : {T : Type 0} → Type 0 → Meaning → Meaning → Result T RunError → Type 0
HasEndCause whole old new (Ok value) = (new.read_faults ≡ old.read_faults) × (new.write_faults ≡ old.write_faults)
    × (new.close_faults ≡ old.close_faults)
HasEndCause whole old new (Err ReadFault) = Rose old.read_faults new.read_faults × (old.read_faults ≤ new.read_faults)
    × IsSettled old new
HasEndCause whole old new (Err WriteFault) =
    AreReadsKept old new × (Rose old.write_faults new.write_faults ⊎ (Rose old.close_faults new.close_faults × whole))
    × (old.write_faults ≤ new.write_faults)
HasEndCause whole old new (Err Limit) = (new.read_faults ≡ old.read_faults) × IsSettled old new
HasEndCause whole old new (Err (Work refusal)) = (new.read_faults ≡ old.read_faults) × IsSettled old new

-- closing only fails if its count rose
abbrev pub HasCloseCause : {T : Type 0} → Meaning → Meaning → Result T RunError → Type 0
HasCloseCause old new (Ok value) = new.close_faults ≡ old.close_faults
HasCloseCause old new (Err stop) = Rose old.close_faults new.close_faults
