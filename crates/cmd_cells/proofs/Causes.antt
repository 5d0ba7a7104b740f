-- The cause of the result of a run on cells, from the causes of its parts.
use Rattle.std.proofs.Common.{◌≡◌, inl, inr, ℕ, ◌≤◌, true, Result, Ok, Err, ◌∙◌, sym, ap, subst, arith}
use Rattle.std.specs.Result.{result_and}
use Rattle.station_core.specs.Causes.{Rose}
use Rattle.station_core.specs.Meaning.{Meaning, flushed, with_write_faults}
use Rattle.cmd_base.specs.Causes.{IsSettled}
use Rattle.cmd_cells.specs.declared.run_error.RunError.{RunError}
use Rattle.cmd_cells.specs.declared.run_error.RunError.TheVariants.{ReadFault, WriteFault, Limit}
use Rattle.cmd_cells.specs.declared.run_error.RunError.TheVariants as stops
use Rattle.cmd_cells.specs.Stops.{HasCause, HasCloseCause, HasEndCause, Settles}
use Rattle.cmd_cells.specs.Work.{Work}
use Rattle.cmd_cells.specs.Outputs.{AreMade, ClosesOnly, IsWriting, Names}
use Rattle.cmd_cells.specs.Cells.{EndsWithin, KeepsOthers, Works}

-- an output was not created
pub unmade_cause : (whole : Type 0) (old new : Meaning) (stop : RunError) → stop ≡ WriteFault → HasCause {T = Unit {0}} old new (Err stop) → HasEndCause {T = Unit {0}} whole old new (Err stop)
unmade_cause whole old new stop kind cause = subst (λ (s : RunError). HasEndCause {T = Unit {0}} whole old new (Err s)) (sym kind) (made (subst (λ (s : RunError). HasCause {T = Unit {0}} old new (Err s)) kind cause))
  where
    made : HasCause {T = Unit {0}} old new (Err WriteFault) → HasEndCause {T = Unit {0}} whole old new (Err WriteFault)
    made cause = (inl cause.0, inl cause.1, cause.2)

-- the outputs were created, the work was done as far as it went, and the outputs were flushed and closed
module _ (w : Work) (most : ℕ) (names : Names) (old m1 m2 m3 new : Meaning) (made : HasCause {T = Unit {0}} old m1 (Ok tt)) (makes : AreMade names old m1) (keeps : KeepsOthers m1 m2) (closes : ClosesOnly m3 new) where
  abbrev whole : Type 0
  whole = old.tells ≡ true → EndsWithin w most old.cells.left

  reads_same : new.read_faults ≡ m3.read_faults
  reads_same = ap (λ (x : Meaning). x.read_faults) closes

  writes_same : new.write_faults ≡ m3.write_faults
  writes_same = ap (λ (x : Meaning). x.write_faults) closes

  closes_same : m2.close_faults ≡ old.close_faults
  closes_same = ap (λ (x : Meaning). x.close_faults) keeps ∙ makes.unfailed

  whole_by : Works w most m1.cells.left m1 m2 (Ok tt) → whole
  whole_by works t =
      let d = works (ap (λ (x : Meaning). x.tells) keeps ∙ ap (λ (x : Meaning). x.tells) makes.others ∙ t) in
      subst (EndsWithin w most) (ap (λ (x : Meaning). x.cells.left) makes.others) (d.1, (d.2.given, d.2.ends))

  -- the work is complete
  done_cause : m3 ≡ m2 → (closing : Result (Unit {0}) RunError) → IsWriting closing → HasCause {T = Unit {0}} m1 m2 (Ok tt) → Works w most m1.cells.left m1 m2 (Ok tt) → HasCloseCause m3 new closing → HasEndCause whole old new closing
  done_cause same (Ok v) kind cause works shut = (
    reads_same ∙ ap (λ (x : Meaning). x.read_faults) same ∙ cause.0 ∙ made.0,
    writes_same ∙ ap (λ (x : Meaning). x.write_faults) same ∙ cause.1 ∙ made.1,
    shut ∙ ap (λ (x : Meaning). x.close_faults) same ∙ closes_same,
  )
  done_cause same (Err stop) kind cause works shut = subst (λ (s : RunError). HasEndCause {T = Unit {0}} whole old new (Err s)) (sym kind) (
    inl (reads_same ∙ ap (λ (x : Meaning). x.read_faults) same ∙ cause.0 ∙ made.0),
    inr (omega (arith, shut, ap (λ (x : Meaning). x.close_faults) same, closes_same), whole_by works),
    omega (arith, writes_same, ap (λ (x : Meaning). x.write_faults) same, cause.1, made.1),
  )

  -- it stopped, and the flush did not fail
  module _ (same : m3 ≡ flushed m2) where
    reads_are : new.read_faults ≡ m2.read_faults
    reads_are = reads_same ∙ ap (λ (x : Meaning). x.read_faults) same

    writes_are : new.write_faults ≡ m2.write_faults
    writes_are = writes_same ∙ ap (λ (x : Meaning). x.write_faults) same

    settled_by : m2.write_faults ≡ m1.write_faults → IsSettled old new
    settled_by writes = record { settled = ap (λ (x : Meaning). x.pending) closes ∙ ap (λ (x : Meaning). x.pending) same; writes = writes_are ∙ writes ∙ made.1 }

    kept_cause : (stop : RunError) → HasCause {T = Unit {0}} m1 m2 (Err stop) → HasEndCause {T = Unit {0}} whole old new (Err stop)
    kept_cause ReadFault cause = (omega (arith, reads_are, cause.0, made.0), omega (arith, reads_are, cause.1, made.0), settled_by cause.2)
    kept_cause WriteFault cause = (inl (reads_are ∙ cause.0 ∙ made.0), inl (omega (arith, writes_are, cause.1, made.1)), omega (arith, writes_are, cause.2, made.1))
    kept_cause Limit cause = (reads_are ∙ cause.0 ∙ made.0, settled_by cause.1)
    kept_cause (stops.Work r) cause = (reads_are ∙ cause.0 ∙ made.0, settled_by cause.1)

  -- no count fell in the work
  later_reads : (stop : RunError) → HasCause {T = Unit {0}} m1 m2 (Err stop) → m1.read_faults ≤ m2.read_faults
  later_reads ReadFault cause = cause.1
  later_reads WriteFault cause = omega (arith, cause.0)
  later_reads Limit cause = omega (arith, cause.0)
  later_reads (stops.Work r) cause = omega (arith, cause.0)

  later_writes : (stop : RunError) → HasCause {T = Unit {0}} m1 m2 (Err stop) → m1.write_faults ≤ m2.write_faults
  later_writes ReadFault cause = omega (arith, cause.2)
  later_writes WriteFault cause = cause.2
  later_writes Limit cause = omega (arith, cause.1)
  later_writes (stops.Work r) cause = omega (arith, cause.1)

  -- it stopped, and the flush failed
  lost_cause : (stop : RunError) → HasCause {T = Unit {0}} m1 m2 (Err stop) → Rose m2.write_faults m3.write_faults → m2.write_faults ≤ m3.write_faults → m3 ≡ with_write_faults m3.write_faults m2
      → HasEndCause {T = Unit {0}} whole old new (Err WriteFault)
  lost_cause stop cause rose later lost =
      let reads : m3.read_faults ≡ m2.read_faults = ap (λ (x : Meaning). x.read_faults) lost in
      let risen : Rose old.write_faults new.write_faults = omega (arith, writes_same, rose, later_writes stop cause, made.1) in
      (inr (omega (arith, reads_same, reads, later_reads stop cause, made.0), risen), inl risen, omega (arith, writes_same, later, later_writes stop cause, made.1))

  pub end_cause : (worked settled closing : Result (Unit {0}) RunError) → Settles worked m2 m3 settled → IsWriting closing → HasCause m1 m2 worked → Works w most m1.cells.left m1 m2 worked → HasCloseCause m3 new closing
      → HasEndCause whole old new (result_and settled closing)
  end_cause (Ok u) settled closing s kind cause works shut = subst (λ (r : Result (Unit {0}) RunError). HasEndCause whole old new (result_and r closing)) (sym s.0) (done_cause s.1 closing kind cause works shut)
  end_cause (Err stop) settled closing (inl same) kind cause works shut = subst (λ (r : Result (Unit {0}) RunError). HasEndCause whole old new (result_and r closing)) (sym same.0) (kept_cause same.1 stop cause)
  end_cause (Err stop) settled closing (inr lost) kind cause works shut = subst (λ (r : Result (Unit {0}) RunError). HasEndCause whole old new (result_and r closing)) (sym lost.0) (lost_cause stop cause lost.1 lost.2 lost.3)
