-- The cause of a whole run's result, from the causes of its parts: the work, and closing the output after it.
use Rattle.std.proofs.Common.{◌≡◌, ◌≤◌, ◌⊎◌, inl, inr, ◌∙◌, ap, sym, subst, arith, false, Result, Ok, Err}
use Rattle.station_core.specs.Meaning.{Meaning}
use Rattle.station_core.specs.Causes.{Rose}
use Rattle.cmd_base.specs.declared.refusal.Refusal.{Refusal}
use Rattle.cmd_base.specs.declared.refusal.Refusal.TheVariants.{Usage, Settings, ReadFault, WriteFault, NotSync, Memory, Limit, Cells}
use Rattle.cmd_base.specs.Causes.{AreReadsKept, HasCause, HasEndCause, IsFaultless, IsSettled, Settles}

-- the work was refused, the outputs were flushed or had nothing pending, and closed, with any result
pub refused_cause : (T U : Type 0) (whole : Type 0) (old done fin new : Meaning) (r : Refusal) → IsFaultless old done → HasCause {T = T} done fin (Err r)
    → new.read_faults ≡ fin.read_faults → new.write_faults ≡ fin.write_faults → new.pending ≡ false → HasEndCause {T = U} whole old new (Err r)
refused_cause T U whole old done fin new ReadFault before cause reads writes settled =
    (omega (arith, before.reads, cause.0, reads), omega (arith, before.reads, cause.1, reads), record { settled = settled; writes = writes ∙ cause.2 ∙ before.writes })
refused_cause T U whole old done fin new WriteFault before cause reads writes settled =
    (inl (reads ∙ cause.0 ∙ before.reads), inl (omega (arith, before.writes, cause.1, writes)), omega (arith, before.writes, cause.2, writes))
refused_cause T U whole old done fin new (NotSync stream n) before cause reads writes settled = (reads ∙ cause.0 ∙ before.reads, record { settled = settled; writes = writes ∙ cause.1 ∙ before.writes })
refused_cause T U whole old done fin new (Limit n) before cause reads writes settled = (reads ∙ cause.0 ∙ before.reads, record { settled = settled; writes = writes ∙ cause.1 ∙ before.writes })
refused_cause T U whole old done fin new Usage before cause reads writes settled = absurd cause
refused_cause T U whole old done fin new (Cells reason) before cause reads writes settled = absurd cause
refused_cause T U whole old done fin new (Settings reason) before cause reads writes settled = absurd cause
refused_cause T U whole old done fin new Memory before cause reads writes settled = absurd cause

-- the counts of faults have not fallen
later_writes : (T : Type 0) (done fin : Meaning) (r : Refusal) → HasCause {T = T} done fin (Err r) → done.write_faults ≤ fin.write_faults
later_writes T done fin ReadFault cause = omega (arith, cause.2)
later_writes T done fin WriteFault cause = cause.2
later_writes T done fin (NotSync stream n) cause = omega (arith, cause.1)
later_writes T done fin (Limit n) cause = omega (arith, cause.1)
later_writes T done fin Usage cause = absurd cause
later_writes T done fin (Cells reason) cause = absurd cause
later_writes T done fin (Settings reason) cause = absurd cause
later_writes T done fin Memory cause = absurd cause

later_reads : (T : Type 0) (done fin : Meaning) (r : Refusal) → HasCause {T = T} done fin (Err r) → done.read_faults ≤ fin.read_faults
later_reads T done fin ReadFault cause = cause.1
later_reads T done fin WriteFault cause = omega (arith, cause.0)
later_reads T done fin (NotSync stream n) cause = omega (arith, cause.0)
later_reads T done fin (Limit n) cause = omega (arith, cause.0)
later_reads T done fin Usage cause = absurd cause
later_reads T done fin (Cells reason) cause = absurd cause
later_reads T done fin (Settings reason) cause = absurd cause
later_reads T done fin Memory cause = absurd cause

-- the work was refused, and the outputs were flushed and then closed, with any result
pub settled_cause : (T U : Type 0) (whole : Type 0) (old done fin sett new : Meaning) (r r' : Refusal) → IsFaultless old done → HasCause {T = T} done fin (Err r)
    → Settles r fin sett r' → new.read_faults ≡ sett.read_faults → new.write_faults ≡ sett.write_faults → new.pending ≡ sett.pending → HasEndCause {T = U} whole old new (Err r')
settled_cause T U whole old done fin sett new r r' before cause settles reads writes pending = go settles
  where
    go : Settles r fin sett r' → HasEndCause {T = U} whole old new (Err r')
    go (inl same) = subst (λ (x : Refusal). HasEndCause {T = U} whole old new (Err x)) (sym same.0)
        (refused_cause T U whole old done fin new r before cause (reads ∙ ap (λ (m : Meaning). m.read_faults) same.1) (writes ∙ ap (λ (m : Meaning). m.write_faults) same.1) (pending ∙ ap (λ (m : Meaning). m.pending) same.1))
    go (inr failed) = subst (λ (x : Refusal). HasEndCause {T = U} whole old new (Err x)) (sym failed.0) (
      inr (
        omega (arith, before.reads, later_reads T done fin r cause, reads, ap (λ (m : Meaning). m.read_faults) failed.3),
        omega (arith, before.writes, later_writes T done fin r cause, failed.1, writes),
      ),
      inl (omega (arith, before.writes, later_writes T done fin r cause, failed.1, writes)),
      omega (arith, before.writes, later_writes T done fin r cause, failed.2, writes),
    )

-- the work was complete, and the output closed after its last lines
pub finished_cause : (T whole : Type 0) (old fin new : Meaning) (o : Result T Refusal) → IsFaultless old fin → fin.close_faults ≡ old.close_faults → whole
    → HasEndCause (Unit {0}) fin new o → HasEndCause whole old new o
finished_cause T whole old fin new (Ok value) before closes all cause = (record { reads = cause.0.reads ∙ before.reads; writes = cause.0.writes ∙ before.writes }, cause.1 ∙ closes)
finished_cause T whole old fin new (Err ReadFault) before closes all cause = (omega (arith, before.reads, cause.0), omega (arith, before.reads, cause.1), record { settled = cause.2.settled; writes = cause.2.writes ∙ before.writes })
finished_cause T whole old fin new (Err WriteFault) before closes all cause = (kept cause.0, fault cause.1, omega (arith, before.writes, cause.2))
  where
    kept : AreReadsKept fin new → AreReadsKept old new
    kept (inl same) = inl (same ∙ before.reads)
    kept (inr both) = inr (omega (arith, before.reads, both.0), omega (arith, before.writes, both.1))

    fault : Rose fin.write_faults new.write_faults ⊎ (Rose fin.close_faults new.close_faults × Unit {0}) → Rose old.write_faults new.write_faults ⊎ (Rose old.close_faults new.close_faults × whole)
    fault (inl rose) = inl (omega (arith, before.writes, rose))
    fault (inr shut) = inr (omega (arith, closes, shut.0), all)
finished_cause T whole old fin new (Err (NotSync stream n)) before closes all cause = (cause.0 ∙ before.reads, record { settled = cause.1.settled; writes = cause.1.writes ∙ before.writes })
finished_cause T whole old fin new (Err (Limit n)) before closes all cause = (cause.0 ∙ before.reads, record { settled = cause.1.settled; writes = cause.1.writes ∙ before.writes })
finished_cause T whole old fin new (Err Usage) before closes all cause = absurd cause
finished_cause T whole old fin new (Err (Cells reason)) before closes all cause = absurd cause
finished_cause T whole old fin new (Err (Settings reason)) before closes all cause = absurd cause
finished_cause T whole old fin new (Err Memory) before closes all cause = absurd cause
