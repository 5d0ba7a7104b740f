-- The cause of each result of a part of the work, in the counts of faults.
use Rattle.std.specs.Prelude.{◌≡◌, ◌≤◌, ◌⊎◌, false, Result, Ok, Err}
use Rattle.station_core.specs.Meaning.{Meaning, flushed, with_write_faults}
use Rattle.station_core.specs.Causes.{Rose}
use Rattle.cmd_base.specs.declared.refusal.Refusal.{Refusal}
use Rattle.cmd_base.specs.declared.refusal.Refusal.TheVariants.{Usage, Settings, ReadFault, WriteFault, NotSync, Memory}
use Rattle.cmd_base.specs.declared.refusal.Refusal.TheVariants.{Limit, Cells}

-- no read and no write has failed
pub record IsFaultless (old new : Meaning) : Type 0 where
  pub reads : new.read_faults ≡ old.read_faults
  pub writes : new.write_faults ≡ old.write_faults

-- all bytes given to the outputs were passed to their files, and no write has failed
pub record IsSettled (old new : Meaning) : Type 0 where
  pub settled : new.pending ≡ false
  pub writes : new.write_faults ≡ old.write_faults

-- only what a flush may change has changed
abbrev pub FlushesOnly : Meaning → Meaning → Type 0
FlushesOnly old new = new ≡ record old { write_faults = new.write_faults; pending = new.pending }

-- The outputs were flushed after a refusal. The refusal stays unless a write failed in the flush; then it becomes a
-- write fault, as that write was given first.
abbrev pub Settles : Refusal → Meaning → Meaning → Refusal → Type 0
Settles refusal old new settled =
    ((settled ≡ refusal) × (new ≡ flushed old))
    ⊎ ((settled ≡ WriteFault) × Rose old.write_faults new.write_faults × (old.write_faults ≤ new.write_faults)
    × (new ≡ with_write_faults new.write_faults old))

-- A fault is only reported if its count rose. If the work succeeds, no count has changed.
abbrev pub HasCause : {T : Type 0} → Meaning → Meaning → Result T Refusal → Type 0
HasCause old new (Ok value) = IsFaultless old new
HasCause old new (Err ReadFault) = Rose old.read_faults new.read_faults × (old.read_faults ≤ new.read_faults)
    × (new.write_faults ≡ old.write_faults)
HasCause old new (Err WriteFault) = (new.read_faults ≡ old.read_faults) × Rose old.write_faults new.write_faults
    × (old.write_faults ≤ new.write_faults)
HasCause old new (Err (NotSync stream n)) = (new.read_faults ≡ old.read_faults) × (new.write_faults ≡ old.write_faults)
HasCause old new (Err (Limit n)) = (new.read_faults ≡ old.read_faults) × (new.write_faults ≡ old.write_faults)
HasCause old new (Err Usage) = ⊥
HasCause old new (Err (Cells reason)) = ⊥
HasCause old new (Err (Settings reason)) = ⊥
HasCause old new (Err Memory) = ⊥

-- At a write fault a read may have failed too, if a write has.
abbrev pub AreReadsKept : Meaning → Meaning → Type 0
AreReadsKept old new = (new.read_faults ≡ old.read_faults) ⊎ ((old.read_faults ≤ new.read_faults) × Rose
    old.write_faults new.write_faults)

-- The same after closing the output, which may fail and is counted. A write fault is reported if a write failed or,
-- after complete work, if the output could not be closed. After another refusal the output was flushed first.
abbrev pub HasEndCause : {T : Type 0} → Type 0 → Meaning → Meaning → Result T Refusal → Type 0
HasEndCause whole old new (Ok value) = IsFaultless old new × (new.close_faults ≡ old.close_faults)
HasEndCause whole old new (Err ReadFault) = Rose old.read_faults new.read_faults × (old.read_faults ≤ new.read_faults)
    × IsSettled old new
HasEndCause whole old new (Err WriteFault) =
    AreReadsKept old new × (Rose old.write_faults new.write_faults ⊎ (Rose old.close_faults new.close_faults × whole))
    × (old.write_faults ≤ new.write_faults)
HasEndCause whole old new (Err (NotSync stream n)) = (new.read_faults ≡ old.read_faults) × IsSettled old new
HasEndCause whole old new (Err (Limit n)) = (new.read_faults ≡ old.read_faults) × IsSettled old new
HasEndCause whole old new (Err Usage) = ⊥
HasEndCause whole old new (Err (Cells reason)) = ⊥
HasEndCause whole old new (Err (Settings reason)) = ⊥
HasEndCause whole old new (Err Memory) = ⊥
