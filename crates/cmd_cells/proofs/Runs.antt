-- The ports of a run, from creating the outputs to closing them.
use Rattle.std.proofs.Common.{◌≡◌, inl, inr, ℕ, ◌*◌, ◌<◌, Bool, true, List, [], ◌++◌, drop, Option, Some, None, Result, Ok, Err, refl, ◌∙◌, sym, ap, subst}
use Rattle.std.specs.Prelude.{◌⊎◌, is_some}
use Rattle.std.specs.Result.{result_and}
use Rattle.std.proofs.lemmas.Bool.{true≢false}
use Rattle.std.proofs.lemmas.List.{append-nil, take-append-drop}
use Rattle.station_core.specs.Meaning.{Meaning, Sink, sink_at}
use Rattle.station_core.specs.declared.ports.OutPort.{OutPort}
use Rattle.station_core.specs.declared.ports.OutPort.TheVariants as outs
use Rattle.cmd_cells.specs.declared.run_error.RunError.{RunError}
use Rattle.cmd_cells.specs.declared.run_error.RunError.TheVariants.{ReadFault, WriteFault, Limit}
use Rattle.cmd_cells.specs.declared.run_error.RunError.TheVariants as stops
use Rattle.cmd_base.specs.Causes.{FlushesOnly}
use Rattle.cmd_cells.specs.Stops.{Settles}
use Rattle.cmd_cells.specs.Symbols.{within_limit}
use Rattle.cmd_cells.specs.Work.{AreOpen, HasReason, Holds, HoldsFront, Work, Written}
use Rattle.cmd_cells.specs.Outputs.{AreClosed, AreMade, AreUnmade, ClosesOnly, IsWriting, Names}
use Rattle.cmd_cells.specs.Cells.{IsCutShort, KeepsOthers, Stopped, Works}
use Rattle.cmd_cells.specs.Runs.{AsksOutputs, CanBegin, RanBehind}
use Rattle.cmd_cells.proofs.Fronts.{all_of}
use Rattle.cmd_cells.proofs.Counting.{few_within}
use Rattle.cmd_cells.proofs.Sinks.{keeps_again, kept_sink}

-- the name of an output port
pub name_at : (names : Names) (port : OutPort) → is_some (names port) ≡ true → (name : List ℕ) × (names port ≡ Some name)
name_at names port is = go (names port) is
  where
    go : (o : Option (List ℕ)) → is_some o ≡ true → (name : List ℕ) × (o ≡ Some name)
    go None e = absurd (true≢false (sym e))
    go (Some name) e = (name, refl)

-- closing changes only the closed flags
pub closed_sink : (m m' : Meaning) → ClosesOnly m m' → (port : OutPort) → sink_at port m' ≡ record (sink_at port m) { closed = (sink_at port m').closed }
closed_sink m m' p outs.Cells = ap (λ (x : Meaning). x.cells_out) p
closed_sink m m' p outs.Hp = ap (λ (x : Meaning). x.hp_out) p
closed_sink m m' p outs.Lp = ap (λ (x : Meaning). x.lp_out) p
closed_sink m m' p outs.Bytes = ap (λ (x : Meaning). x.bytes_out) p
closed_sink m m' p outs.Report =
    let same : m'.report ≡ m.report = ap (λ (x : Meaning). x.report) p in
    same ∙ sym (ap (λ (b : Bool). record m.report { closed = b }) (ap (λ (x : Sink). x.closed) same))

pub closed_written : (m m' : Meaning) → ClosesOnly m m' → (port : OutPort) → (sink_at port m').written ≡ (sink_at port m).written
closed_written m m' p port = ap (λ (x : Sink). x.written) (closed_sink m m' p port)

-- nor does flushing change what was written
flushed_written : (m m' : Meaning) → FlushesOnly m m' → (port : OutPort) → (sink_at port m').written ≡ (sink_at port m).written
flushed_written m m' p outs.Cells = ap (λ (x : Meaning). x.cells_out.written) p
flushed_written m m' p outs.Hp = ap (λ (x : Meaning). x.hp_out.written) p
flushed_written m m' p outs.Lp = ap (λ (x : Meaning). x.lp_out.written) p
flushed_written m m' p outs.Bytes = ap (λ (x : Meaning). x.bytes_out.written) p
flushed_written m m' p outs.Report = ap (λ (x : Meaning). x.report.written) p

-- if no more is taken or written, all work done stays
module _ (w : Work) (most : ℕ) (file : List ℕ) (start m m' : Meaning) (tells_same : m'.tells ≡ m.tells) (left_is : m'.cells.left ≡ m.cells.left) (written : (port : OutPort) → (sink_at port m').written ≡ (sink_at port m).written) where
  tells_are : m'.tells ≡ true → m.tells ≡ true
  tells_are t = sym tells_same ∙ t

  stop_kept : (stop : RunError) → Stopped w most file start m stop → Stopped w most file start m' stop
  stop_kept ReadFault s = record { taken = s.taken; given = s.given; are = s.are ∙ ap (λ (l : List ℕ). s.taken ++ l) (sym left_is); within = s.within; gives = s.gives; holds = λ port. written port ∙ s.holds port }
  stop_kept WriteFault s = record { given = s.given; up = s.up; holds = λ port. ((s.holds port).0, written port ∙ (s.holds port).1) }
  stop_kept Limit s = record { given = s.given; past = s.past; gives = s.gives; holds = λ port. written port ∙ s.holds port }
  stop_kept (stops.Work r) s = record {
    taken = s.taken;
    given = s.given;
    are = s.are ∙ ap (λ (l : List ℕ). s.taken ++ l) (sym left_is);
    within = s.within;
    refuses = subst (λ (l : List ℕ). w.Refuses s.taken l s.given r) (sym left_is) s.refuses;
    holds = λ port. written port ∙ s.holds port;
  }

  pub works_kept : (result : Result (Unit {0}) RunError) → Works w most file start m result → Works w most file start m' result
  works_kept (Ok u) f = λ t. let d = f (tells_are t) in (left_is ∙ d.0, d.1, record { given = d.2.given; ends = d.2.ends; holds = λ port. written port ∙ d.2.holds port })
  works_kept (Err stop) f = λ t. stop_kept stop (f (tells_are t))

  -- the output is a prefix of itself
  all_held : (given : Written) → Holds start m given → HoldsFront start m' given
  all_held given holds port = all_of (sink_at port start).written (given port) (sink_at port m').written (written port ∙ holds port)

  -- whatever the work stopped at, a failed write cuts it short
  stop_cut : 0 < w.size → (stop : RunError) → HasReason {T = Unit {0}} w (Err stop) → Stopped w most file start m stop → IsCutShort w most file start m'
  stop_cut some ReadFault reason s = record {
    given = s.given;
    up = inl (record { taken = s.taken; rest = m.cells.left; are = s.are; within = s.within; gives = inl s.gives });
    holds = all_held s.given s.holds;
  }
  stop_cut some WriteFault reason s = record { given = s.given; up = s.up; holds = λ port. ((s.holds port).0, written port ∙ (s.holds port).1) }
  stop_cut some Limit reason s = record {
    given = s.given;
    up = inl (record {
      taken = within_limit most w.size file;
      rest = drop (most * w.size) file;
      are = sym (take-append-drop (most * w.size) file);
      within = few_within w.size some most file;
      gives = inl s.gives;
    });
    holds = all_held s.given s.holds;
  }
  stop_cut some (stops.Work r) reason s = record {
    given = s.given;
    up = inr (record { taken = s.taken; rest = m.cells.left; refusal = r; are = s.are; within = s.within; its = reason; refuses = s.refuses });
    holds = all_held s.given s.holds;
  }

  pub works_cut : 0 < w.size → (stop : RunError) → HasReason {T = Unit {0}} w (Err stop) → Works w most file start m (Err stop) → Works w most file start m' (Err WriteFault)
  works_cut some stop reason f = λ t. stop_cut some stop reason (f (tells_are t))

  -- the whole is a prefix of itself
  whole_cut : Works w most file start m (Ok tt) → m'.tells ≡ true → IsCutShort w most file start m'
  whole_cut f t = let d = f (tells_are t) in record {
    given = d.2.given;
    up = inl (record { taken = file; rest = []; are = sym (append-nil file); within = d.1; gives = inr (refl, d.2.ends) });
    holds = all_held d.2.given d.2.holds;
  }

  works_unclosed : (result : Result (Unit {0}) RunError) → IsWriting result → Works w most file start m (Ok tt) → Works w most file start m' result
  works_unclosed (Ok u) kind f = works_kept (Ok u) f
  works_unclosed (Err stop) kind f = λ t. subst (Stopped w most file start m') (sym kind) (whole_cut f t)

  -- the outputs were closed after the work, with any result
  pub works_then : (worked closing : Result (Unit {0}) RunError) → IsWriting closing → Works w most file start m worked → Works w most file start m' (result_and worked closing)
  works_then (Ok u) closing kind f = works_unclosed closing kind f
  works_then (Err stop) closing kind f = works_kept (Err stop) f

-- after the closing
pub works_then_closed : (w : Work) (most : ℕ) (file : List ℕ) (start m m' : Meaning) → ClosesOnly m m' → (worked closing : Result (Unit {0}) RunError) → IsWriting closing
    → Works w most file start m worked → Works w most file start m' (result_and worked closing)
works_then_closed w most file start m m' p = works_then w most file start m m' (ap (λ (x : Meaning). x.tells) p) (ap (λ (x : Meaning). x.cells.left) p) (closed_written m m' p)

-- after the flush
pub works_settled : (w : Work) (most : ℕ) (file : List ℕ) (start m m' : Meaning) → 0 < w.size → FlushesOnly m m' → (worked settled : Result (Unit {0}) RunError) → Settles worked m m' settled → HasReason w worked
    → Works w most file start m worked → Works w most file start m' settled
works_settled w most file start m m' some p = go
  where
    tells_same : m'.tells ≡ m.tells
    tells_same = ap (λ (x : Meaning). x.tells) p

    left_is : m'.cells.left ≡ m.cells.left
    left_is = ap (λ (x : Meaning). x.cells.left) p

    go : (worked settled : Result (Unit {0}) RunError) → Settles worked m m' settled → HasReason w worked → Works w most file start m worked → Works w most file start m' settled
    go (Ok u) settled s reason f = subst (Works w most file start m') (sym s.0) (works_kept w most file start m m' tells_same left_is (flushed_written m m' p) (Ok u) f)
    go (Err stop) settled (inl same) reason f = subst (Works w most file start m') (sym same.0) (works_kept w most file start m m' tells_same left_is (flushed_written m m' p) (Err stop) f)
    go (Err stop) settled (inr lost) reason f = subst (Works w most file start m') (sym lost.0) (works_cut w most file start m m' tells_same left_is (flushed_written m m' p) some stop reason f)

-- a reason of the work stays one
pub settled_reason : (w : Work) (m m' : Meaning) (worked settled closing : Result (Unit {0}) RunError) → Settles worked m m' settled → HasReason w worked → IsWriting closing → HasReason w (result_and settled closing)
settled_reason w m m' (Ok u) settled closing s reason kind = subst (λ (r : Result (Unit {0}) RunError). HasReason w (result_and r closing)) (sym s.0) (closed closing kind)
  where
    closed : (closing : Result (Unit {0}) RunError) → IsWriting closing → HasReason w closing
    closed (Ok v) kind = tt
    closed (Err stop) kind = subst (λ (x : RunError). HasReason {T = Unit {0}} w (Err x)) (sym kind) tt
settled_reason w m m' (Err stop) settled closing (inl same) reason kind = subst (λ (r : Result (Unit {0}) RunError). HasReason w (result_and r closing)) (sym same.0) reason
settled_reason w m m' (Err stop) settled closing (inr lost) reason kind = subst (λ (r : Result (Unit {0}) RunError). HasReason w (result_and r closing)) (sym lost.0) tt

-- flushing preserves what the work preserves
pub keeps_flushed : (m1 m2 m3 : Meaning) → KeepsOthers m1 m2 → FlushesOnly m2 m3 → KeepsOthers m1 m3
keeps_flushed m1 m2 m3 keeps p = keeps_again m1 m2 m3 keeps (subst (λ (x : Meaning). KeepsOthers m2 x) (sym p) refl)

module _ (names : Names) (old m1 : Meaning) (makes : AreMade names old m1) (begin : CanBegin names old) where
  pub report_same : m1.report ≡ old.report
  report_same = ap (λ (x : Meaning). x.report) makes.others

  -- the outputs are open
  pub opened : (outputs : OutPort → Bool) → ((port : OutPort) → outputs port ≡ is_some (names port)) → AreOpen outputs m1
  opened outputs same = record {
    made = λ port is. let n = name_at names port (sym (same port) ∙ is) in ap (λ (x : Sink). x.created) (makes.are port n.0 n.1);
    opened = λ port is. let n = name_at names port (sym (same port) ∙ is) in ap (λ (x : Sink). x.closed) (makes.are port n.0 n.1);
    report = ap (λ (x : Sink). x.created) report_same ∙ begin.report;
    report_open = ap (λ (x : Sink). x.closed) report_same ∙ begin.report_open;
  }

  pub asks_made : (port : OutPort) → ((sink_at port m1).asked ≡ (sink_at port old).asked) ⊎ ((sink_at port m1).asked ≡ names port)
  asks_made port = go (names port) refl
    where
      go : (o : Option (List ℕ)) → names port ≡ o → ((sink_at port m1).asked ≡ (sink_at port old).asked) ⊎ ((sink_at port m1).asked ≡ names port)
      go None e = inl (ap (λ (x : Sink). x.asked) (makes.kept port e))
      go (Some name) e = inr (ap (λ (x : Sink). x.asked) (makes.are port name e) ∙ sym e)

  -- after the work and the closing
  module _ (w : Work) (most : ℕ) (m2 new : Meaning) (keeps : KeepsOthers m1 m2) (closed : AreClosed names m2 new) where
    abbrev sinks : (port : OutPort) → sink_at port new ≡ record (sink_at port m1) { written = (sink_at port m2).written; closed = (sink_at port new).closed }
    sinks port = closed_sink m2 new closed.others port ∙ ap (λ (x : Sink). record x { closed = (sink_at port new).closed }) (kept_sink m1 m2 keeps port)

    pub asks_closed : AsksOutputs names old new
    asks_closed port = subst (λ o. (o ≡ (sink_at port old).asked) ⊎ (o ≡ names port)) (sym (ap (λ (x : Sink). x.asked) (sinks port))) (asks_made port)

    asked : (port : OutPort) → is_some (names port) ≡ true → (sink_at port new).asked ≡ names port
    asked port is = let n = name_at names port is in ap (λ (x : Sink). x.asked) (sinks port) ∙ ap (λ (x : Sink). x.asked) (makes.are port n.0 n.1) ∙ sym n.1

    created : (port : OutPort) → is_some (names port) ≡ true → (sink_at port new).created ≡ true
    created port is = let n = name_at names port is in ap (λ (x : Sink). x.created) (sinks port) ∙ ap (λ (x : Sink). x.created) (makes.are port n.0 n.1)

    attached_same : new.cells.attached ≡ old.cells.attached
    attached_same = ap (λ (x : Meaning). x.cells.attached) closed.others ∙ ap (λ (x : Meaning). x.cells.attached) keeps ∙ ap (λ (x : Meaning). x.cells.attached) makes.others

    left_same : m1.cells.left ≡ old.cells.left
    left_same = ap (λ (x : Meaning). x.cells.left) makes.others

    pub worked : (result : Result (Unit {0}) RunError) → Works w most m1.cells.left m1 new result → RanBehind w most names old new result
    worked result works = inr (record {
      start = m1;
      tells = ap (λ (x : Meaning). x.tells) makes.others;
      made = makes.are;
      report = report_same;
      attached = attached_same;
      asked = asked;
      created = created;
      closed = closed.closed;
      lp_behind = elim makes.lp_behind [
        | inl same ↦ inl (ap (λ (x : Sink). x.asked) (sinks outs.Lp) ∙ ap (λ (x : Sink). x.asked) same)
        | inr is ↦ inr (ap (λ (x : Sink). x.created) (sinks outs.Hp) ∙ is)
      ];
      works = subst (λ (l : List ℕ). Works w most l m1 new result) left_same works;
    })

-- an output was not created
pub unmade : (w : Work) (most : ℕ) (names : Names) (old new : Meaning) (stop : RunError) → (stop ≡ WriteFault) × AreUnmade names old new → RanBehind w most names old new (Err stop)
unmade w most names old new stop p = inl (
  ap (λ (x : RunError). Err x) p.0,
  record {
    cells = ap (λ (x : Meaning). x.cells) p.1.others;
    shut = p.1.shut;
    asked = λ port is. p.1.asked port;
    lp_behind = p.1.lp_behind;
    report = ap (λ (x : Meaning). x.report) p.1.others;
  },
)

pub unmade_asks : (names : Names) (old new : Meaning) → AreUnmade names old new → AsksOutputs names old new
unmade_asks names old new p port = elim (p.asked port) [ inl same ↦ inl (ap (λ (x : Sink). x.asked) same) | inr is ↦ inr is ]
