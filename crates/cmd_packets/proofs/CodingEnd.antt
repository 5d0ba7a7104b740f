-- The state at the end of a run of a command that codes packets, before the text of a refusal, and the promise of the
-- run.
use Rattle.std.proofs.Common.{◌≡◌, ◌≢◌, ◌⊎◌, inl, inr, true, false, ℕ, ◌+◌, ◌*◌, ◌≤◌, ◌<◌, Bool, List, [], ◌++◌, length, take, drop, refl, ◌∙◌, sym, ap, subst, arith, Result, Ok, Err, Option, None, Some}
use Rattle.std.specs.Prelude.{IsTrue, is_some, if◌then◌else◌, ◌==◌}
use Rattle.std.specs.Option.{option_or}
use Rattle.std.proofs.lemmas.List.{append-nil, drop_all, take_all}
use Rattle.std.proofs.lemmas.Bool.{true≢false, eq-eqb, eqb-true}
use Rattle.station_core.specs.Meaning.{Meaning, Source, Sink, IsFresh, IsUntouched, source_at, sink_at}
use Rattle.station_core.specs.Causes.{Rose}
use Rattle.station_core.specs.declared.ports.InPort.{InPort}
use Rattle.station_core.specs.declared.ports.InPort.TheVariants as ins
use Rattle.station_core.specs.declared.ports.OutPort.{OutPort}
use Rattle.station_core.specs.declared.ports.OutPort.TheVariants as outs
use Rattle.mode_set.specs.declared.modes.Stream.{Stream}
use Rattle.cmd_base.specs.declared.counts.Counts.{Counts}
use Rattle.cmd_base.specs.declared.refusal.Refusal.{Refusal}
use Rattle.cmd_base.specs.declared.refusal.Refusal.TheVariants.{Usage, Settings, ReadFault, WriteFault, NotSync, Memory, Limit, Cells}
use Rattle.cmd_base.specs.Command.{Command, Files, IsInput, IsOutput, is_among, refusal_of, named, unread}
use Rattle.cmd_base.specs.Packets.{whole_packets, first_packets, packets_of, accepted, AcceptsFirst, packet_refusal, most_packets_taken, closing_line, counts_of}
use Rattle.cmd_base.specs.Run.{Run, IsUntaken}
use Rattle.cmd_base.proofs.Taken.{all_unread}
use Rattle.cmd_base.specs.Text.{status_of}
use Rattle.cmd_base.proofs.Accepting.{all_accepted, no_refusal, not_sync_at, not_sync, past_limit_at, past_limit, accepted_from}
use Rattle.cmd_base.specs.Causes.{AreReadsKept, HasEndCause, IsSettled}
use Rattle.cmd_base.specs.Ended.{Ended, IsCaused, IsExact, IsSettledAt, IsWriteFault, Leaves, AreMade}
use Rattle.cmd_base.proofs.Whole.{run_done, run_refused}
use Rattle.cmd_base.specs.SettingsFile.{most_settings}
use Rattle.cmd_packets.specs.Commands.{Coding, IsRefused, CodesTo, ClosesWith, CodesSoFar, packets_taken, coding_early, coding_command}
use Rattle.cmd_packets.specs.Coding.{Codes}
use Rattle.cmd_packets.specs.Steps.{IsReady, AsksPorts, Ran, Tells, outcome_status, RunsCoding}
use Rattle.cmd_packets.proofs.Growing.{Grows, Ends, fronts, front_of}

-- the state of the settings' port before the work
pub record SettingsDone (settings : Option (List ℕ)) (start : Meaning) (s : Source) : Type 0 where
  pub asked : (s.asked ≡ None) ⊎ (s.asked ≡ settings)
  pub attached : IsTrue (is_some settings) → s.attached ≡ true
  pub left : start.tells ≡ true → IsTrue (is_some settings) → s.left ≡ []
  pub read : start.tells ≡ true → IsTrue (is_some settings) → s.attached ≡ true → (k : ℕ) × (k ≤ most_settings + 1) × (s.left ≡ drop k (named start.file settings))
  pub accepted : start.tells ≡ true → coding_early settings start.file ≡ None

-- none, for a command without settings
pub no_settings : (start : Meaning) → IsFresh start → SettingsDone None start start.settings
no_settings start fresh = record {
  asked = inl fresh.settings.asked;
  attached = λ is. absurd (true≢false (sym is));
  left = λ t is. absurd (true≢false (sym is));
  read = λ t is. absurd (true≢false (sym is));
  accepted = λ t. refl;
}

-- the statuses of a command include those of its work
pub record KnowsStatuses (statuses : List ℕ) : Type 0 where
  pub done : is_among 0 statuses ≡ true
  pub not_sync : is_among 4 statuses ≡ true
  pub read_fault : is_among 5 statuses ≡ true
  pub write_fault : is_among 6 statuses ≡ true
  pub limit : is_among 8 statuses ≡ true

-- the output of a coder is that of the command for the packets
pub record SameCoding (k : Coding) (file : Files) (gives ends : List (List ℕ) → List ℕ) : Type 0 where
  pub so_far : (packets : List (List ℕ)) → k.Gives file packets (gives packets)
  pub in_all : (packets : List (List ℕ)) → k.GivesInAll file packets (ends packets)

-- a coding with nothing to add at its end
pub ends_at_once : (gives : List (List ℕ) → List ℕ) → Ends gives gives
ends_at_once gives packets = ([], sym (append-nil (gives packets)))

pub ready_after : (m : Meaning) (s : Source) → IsFresh m → IsReady (record m { settings = s })
ready_after m s f = record {
  hp = f.hp.asked;
  hp_closed = f.hp.attached;
  bytes = f.bytes_out.asked;
  not_created = f.bytes_out.created;
  report = f.report;
  report_open = f.report_open;
  report_empty = f.report_empty;
  settled = f.settled;
}

-- the refusal of a run, by its outcome
abbrev pub reason : Result Counts Refusal → Option Refusal
reason (Ok counts) = None
reason (Err refusal) = Some refusal

module _ (settings : Option (List ℕ)) (statuses : List ℕ) (knows : KnowsStatuses statuses) (k : Coding) (limit : ℕ) (input output : List ℕ)
    (start : Meaning) (s : Source) (fresh : IsFresh start) (done : SettingsDone settings start s)
    (gives ends : List (List ℕ) → List ℕ) (same : start.tells ≡ true → SameCoding k start.file gives ends) (grows : Grows gives) (adds : Ends gives ends) where
  abbrev c : Command
  c = coding_command settings statuses k input output

  abbrev old : Meaning
  old = record start { settings = s }

  abbrev file : List ℕ
  file = start.file input

  -- every packet is accepted
  abbrev AllAccepted : Type 0
  AllAccepted = start.tells ≡ true → AcceptsFirst limit file (whole_packets file)

  -- a fact of the only output
  only : (P : OutPort → Type 0) → P outs.Bytes → (port : OutPort) → IsOutput c port → P port
  only P p outs.Cells is = absurd (true≢false (sym is))
  only P p outs.Hp is = absurd (true≢false (sym is))
  only P p outs.Lp is = absurd (true≢false (sym is))
  only P p outs.Bytes is = p
  only P p outs.Report is = absurd (true≢false (sym is))

  -- past the limit
  limit_at : (n : ℕ) → n ≡ limit → AcceptsFirst limit file n → n < whole_packets file → (packet_refusal limit file ≡ Some (Limit n)) × (accepted limit file ≡ n)
  limit_at n is all within =
      let all' : AcceptsFirst limit file limit = subst (AcceptsFirst limit file) is all in
      let within' : limit < whole_packets file = omega (arith, is, within) in (
        past_limit limit file all' within' ∙ ap (λ (m : ℕ). Some (Limit m)) (sym is),
        past_limit_at limit file all' within' ∙ sym is,
      )

  refused_at : (n : ℕ) → n < whole_packets file → accepted limit file ≡ n → IsRefused limit file
  refused_at n within is = λ all. absurd (omega (arith, within, is, all))

  -- the output if all packets are accepted, and if packet n is the first rejected one
  output_all : start.tells ≡ true → AcceptsFirst limit file (whole_packets file) → (bytes : List ℕ) → bytes ≡ ends (packets_of file) → CodesTo k limit start.file input bytes
  output_all t all bytes is =
      inl (all_accepted limit file all, subst (λ (b : List ℕ). k.GivesInAll start.file (packets_of file) b) (sym is) ((same t).in_all (packets_of file)))

  output_before : start.tells ≡ true → (n : ℕ) → n < whole_packets file → accepted limit file ≡ n → (bytes : List ℕ) → bytes ≡ gives (first_packets n file) → CodesTo k limit start.file input bytes
  output_before t n within is bytes are = inr (
    refused_at n within is,
    subst (λ (m : ℕ). k.Gives start.file (first_packets m file) bytes) (sym is)
        (subst (λ (b : List ℕ). k.Gives start.file (first_packets n file) b) (sym are) ((same t).so_far (first_packets n file))),
  )

  -- the output, of which that of fewer packets is a prefix
  record Comes : Type 0 where
    bytes : List ℕ
    are : CodesTo k limit start.file input bytes
    begins : (n : ℕ) → n ≤ accepted limit file → (j : ℕ) → (i : ℕ) × (take j (gives (first_packets n file)) ≡ take i bytes)

  comes : start.tells ≡ true → Comes
  comes t = by (accepted limit file == whole_packets file) refl
    where
      by : (b : Bool) → (accepted limit file == whole_packets file) ≡ b → Comes
      by true is =
          let all : accepted limit file ≡ whole_packets file = eqb-true (accepted limit file) (whole_packets file) is in
          let rest = adds (packets_of file) in
          record {
            bytes = ends (packets_of file);
            are = inl (all, (same t).in_all (packets_of file));
            begins = λ n le j.
                let longer = fronts gives grows file n (whole_packets file) (omega (arith, le, all)) j in
                let more = front_of (gives (packets_of file)) rest.0 longer.0 in
                (more.0, longer.1 ∙ more.1 ∙ ap (take more.0) (sym rest.1));
          }
      by false is = record {
        bytes = gives (first_packets (accepted limit file) file);
        are = inr ((λ all. true≢false (sym (eq-eqb (accepted limit file) (whole_packets file) all) ∙ is)), (same t).so_far (first_packets (accepted limit file) file));
        begins = λ n le j. fronts gives grows file n (accepted limit file) le j;
      }

  -- the lines of the report
  record Closes : Type 0 where
    lines : List ℕ
    are : ClosesWith limit file lines

  closes : Closes
  closes = by (accepted limit file == whole_packets file) refl
    where
      by : (b : Bool) → (accepted limit file == whole_packets file) ≡ b → Closes
      by true is = record { lines = closing_line (counts_of file); are = inl (eqb-true (accepted limit file) (whole_packets file) is, refl) }
      by false is = record { lines = []; are = inr ((λ all. true≢false (sym (eq-eqb (accepted limit file) (whole_packets file) all) ∙ is)), refl) }

  -- the whole is a prefix of itself
  whole_of : (l : List ℕ) → l ≡ take (length l) l
  whole_of l = sym (take_all (length l) l (omega arith))

  module _ (mid : Meaning) (asks : AsksPorts input output old mid) where
    known_by : (o : Result Counts Refusal) → HasEndCause AllAccepted old mid o → is_among (status_of (reason o)) statuses ≡ true
    known_by (Ok counts) cause = knows.done
    known_by (Err Usage) cause = absurd cause
    known_by (Err (Cells reason)) cause = absurd cause
    known_by (Err (Settings why)) cause = absurd cause
    known_by (Err ReadFault) cause = knows.read_fault
    known_by (Err WriteFault) cause = knows.write_fault
    known_by (Err (NotSync stream n)) cause = knows.not_sync
    known_by (Err Memory) cause = absurd cause
    known_by (Err (Limit n)) cause = knows.limit

    refusal_is : start.tells ≡ true → refusal_of limit start.file c ≡ packet_refusal limit file
    refusal_is t = ap (λ (x : Option Refusal). option_or x (packet_refusal limit file)) (done.accepted t)

    -- a failure to close after complete work does not come with a refusal
    fault_by : Rose start.write_faults mid.write_faults ⊎ (Rose start.close_faults mid.close_faults × AllAccepted) → IsWriteFault c limit start mid
    fault_by (inl rose) = inl rose
    fault_by (inr shut) = inr (shut.0, λ t. refusal_is t ∙ no_refusal limit file (shut.1 t))

    caused_by : (o : Result Counts Refusal) → HasEndCause AllAccepted old mid o → IsCaused c limit start mid (reason o)
    caused_by (Ok counts) cause = (cause.0.reads, cause.0.writes, cause.1)
    caused_by (Err Usage) cause = absurd cause
    caused_by (Err (Cells reason)) cause = absurd cause
    caused_by (Err (Settings why)) cause = absurd cause
    caused_by (Err ReadFault) cause = cause.0
    caused_by (Err WriteFault) cause = (cause.0, fault_by cause.1)
    caused_by (Err (NotSync stream n)) cause = cause.0
    caused_by (Err Memory) cause = absurd cause
    caused_by (Err (Limit n)) cause = cause.0

    later_reads : AreReadsKept old mid → start.read_faults ≤ mid.read_faults
    later_reads (inl same) = omega (arith, same)
    later_reads (inr both) = both.0

    -- the settings do not change the pending flag
    settled_is : IsSettled old mid → IsSettled start mid
    settled_is s = record { settled = s.settled; writes = s.writes }

    settled_by : (o : Result Counts Refusal) → HasEndCause AllAccepted old mid o → IsSettledAt start mid (reason o)
    settled_by (Ok counts) cause = tt
    settled_by (Err Usage) cause = absurd cause
    settled_by (Err (Cells reason)) cause = absurd cause
    settled_by (Err (Settings why)) cause = absurd cause
    settled_by (Err ReadFault) cause = settled_is cause.2
    settled_by (Err WriteFault) cause = tt
    settled_by (Err (NotSync stream n)) cause = settled_is cause.1
    settled_by (Err Memory) cause = absurd cause
    settled_by (Err (Limit n)) cause = settled_is cause.1

    later_reads_by : (o : Result Counts Refusal) → HasEndCause AllAccepted old mid o → start.read_faults ≤ mid.read_faults
    later_reads_by (Ok counts) cause = omega (arith, cause.0.reads)
    later_reads_by (Err Usage) cause = absurd cause
    later_reads_by (Err (Cells reason)) cause = absurd cause
    later_reads_by (Err (Settings why)) cause = absurd cause
    later_reads_by (Err ReadFault) cause = cause.1
    later_reads_by (Err WriteFault) cause = later_reads cause.0
    later_reads_by (Err (NotSync stream n)) cause = omega (arith, cause.0)
    later_reads_by (Err Memory) cause = absurd cause
    later_reads_by (Err (Limit n)) cause = omega (arith, cause.0)

    later_writes_by : (o : Result Counts Refusal) → HasEndCause AllAccepted old mid o → start.write_faults ≤ mid.write_faults
    later_writes_by (Ok counts) cause = omega (arith, cause.0.writes)
    later_writes_by (Err Usage) cause = absurd cause
    later_writes_by (Err (Cells reason)) cause = absurd cause
    later_writes_by (Err (Settings why)) cause = absurd cause
    later_writes_by (Err ReadFault) cause = omega (arith, cause.2.writes)
    later_writes_by (Err WriteFault) cause = cause.2
    later_writes_by (Err (NotSync stream n)) cause = omega (arith, cause.1.writes)
    later_writes_by (Err Memory) cause = absurd cause
    later_writes_by (Err (Limit n)) cause = omega (arith, cause.1.writes)

    exact_by : (o : Result Counts Refusal) → HasEndCause AllAccepted old mid o → Ran gives ends limit input old mid o → IsExact c limit start (reason o)
    exact_by (Ok counts) cause ran = λ t. refusal_is t ∙ no_refusal limit file (ran.1 t).1
    exact_by (Err Usage) cause ran = absurd cause
    exact_by (Err (Cells reason)) cause ran = absurd cause
    exact_by (Err (Settings why)) cause ran = absurd cause
    exact_by (Err ReadFault) cause ran = tt
    exact_by (Err WriteFault) cause ran = tt
    exact_by (Err (NotSync stream n)) cause ran = λ t.
        let e = ran.2 t in
        refusal_is t ∙ not_sync limit file n e.1 e.2 e.3 e.4 ∙ ap (λ (x : Stream). Some (NotSync x n)) (sym e.0)
    exact_by (Err Memory) cause ran = absurd cause
    exact_by (Err (Limit n)) cause ran = λ t. let e = ran.2 t in refusal_is t ∙ (limit_at n e.0 e.1 e.2).0

    -- the ports requested
    sources_asked : (port : InPort) → ((source_at port mid).asked ≡ None) ⊎ ((source_at port mid).asked ≡ c.reads port)
    sources_asked ins.Settings = elim done.asked [
      | inl none ↦ inl (ap (λ (x : Meaning). x.settings.asked) asks.others ∙ none)
      | inr is ↦ inr (ap (λ (x : Meaning). x.settings.asked) asks.others ∙ is)
    ]
    sources_asked ins.Hp = inr asks.hp
    sources_asked ins.Lp = inl (ap (λ (x : Meaning). x.lp.asked) asks.others ∙ fresh.lp.asked)
    sources_asked ins.Cells = inl (ap (λ (x : Meaning). x.cells.asked) asks.others ∙ fresh.cells.asked)

    sinks_asked : (port : OutPort) → ((sink_at port mid).asked ≡ None) ⊎ ((sink_at port mid).asked ≡ c.writes port)
    sinks_asked outs.Cells = inl (ap (λ (x : Meaning). x.cells_out.asked) asks.others ∙ fresh.cells_out.asked)
    sinks_asked outs.Hp = inl (ap (λ (x : Meaning). x.hp_out.asked) asks.others ∙ fresh.hp_out.asked)
    sinks_asked outs.Lp = inl (ap (λ (x : Meaning). x.lp_out.asked) asks.others ∙ fresh.lp_out.asked)
    sinks_asked outs.Bytes = elim asks.bytes [
      | inl unmade ↦ inl (ap (λ (x : Sink). x.asked) unmade ∙ fresh.bytes_out.asked)
      | inr is ↦ inr is.0
    ]
    sinks_asked outs.Report = inl (ap (λ (x : Meaning). x.report.asked) asks.others ∙ fresh.report_asked)

    -- every input was opened, if HP was
    inputs_opened : mid.hp.attached ≡ true → (port : InPort) → IsInput c port → (source_at port mid).attached ≡ true
    inputs_opened is ins.Settings reads = ap (λ (x : Meaning). x.settings.attached) asks.others ∙ done.attached reads
    inputs_opened is ins.Hp reads = is
    inputs_opened is ins.Lp reads = absurd (true≢false (sym reads))
    inputs_opened is ins.Cells reads = absurd (true≢false (sym reads))

    behind_inputs : (out : OutPort) → ((sink_at out mid).asked ≡ None) ⊎ ((port : InPort) → IsInput c port → (source_at port mid).attached ≡ true)
    behind_inputs outs.Cells = inl (ap (λ (x : Meaning). x.cells_out.asked) asks.others ∙ fresh.cells_out.asked)
    behind_inputs outs.Hp = inl (ap (λ (x : Meaning). x.hp_out.asked) asks.others ∙ fresh.hp_out.asked)
    behind_inputs outs.Lp = inl (ap (λ (x : Meaning). x.lp_out.asked) asks.others ∙ fresh.lp_out.asked)
    behind_inputs outs.Bytes = elim asks.bytes [
      | inl unmade ↦ inl (ap (λ (x : Sink). x.asked) unmade ∙ fresh.bytes_out.asked)
      | inr is ↦ inr (inputs_opened is.1)
    ]
    behind_inputs outs.Report = inl (ap (λ (x : Meaning). x.report.asked) asks.others ∙ fresh.report_asked)

    -- an output that was not requested is unchanged
    unasked : mid.bytes_out.asked ≡ None → IsUntouched mid.bytes_out
    unasked none = elim asks.bytes [
      | inl unmade ↦ subst IsUntouched (sym unmade) fresh.bytes_out
      | inr is ↦ absurd (let e : Some output ≡ None = sym is.0 ∙ none in cc)
    ]

    -- an output is created only after the input was opened
    opened_before : mid.bytes_out.created ≡ true → mid.hp.attached ≡ true
    opened_before made = elim asks.bytes [
      | inl unmade ↦ absurd (true≢false (sym made ∙ ap (λ (x : Sink). x.created) unmade ∙ fresh.bytes_out.created))
      | inr is ↦ is.1
    ]

    -- the bytes left of the opened input
    left_is : mid.hp.attached ≡ true → unread c mid ins.Hp ≡ mid.hp.left
    left_is is = ap (λ (b : Bool). if b then mid.hp.left else mid.file input) is

    same_file : mid.file input ≡ file
    same_file = ap (λ (x : Meaning). x.file input) asks.others

    work_behind : (b : Bool) → mid.hp.attached ≡ b → IsUntaken c mid ins.Hp ⊎ AreMade c mid
    work_behind true is = elim (asks.untaken is) [
      | inl made ↦ inr (only (λ out. (sink_at out mid).created ≡ true) made)
      | inr untaken ↦ inl (all_unread c mid ins.Hp (left_is is ∙ untaken ∙ sym same_file))
    ]
    work_behind false is = inl (all_unread c mid ins.Hp (ap (λ (b : Bool). if b then mid.hp.left else mid.file input) is))

    -- at most the accepted packets and one more are taken
    abbrev Taken : Type 0
    Taken = (j : ℕ) × (j ≤ most_packets_taken limit file) × (mid.hp.left ≡ drop j file)

    all_taken : AcceptsFirst limit file (whole_packets file) → mid.hp.left ≡ [] → Taken
    all_taken all none = (length file, omega (arith, all_accepted limit file all), none ∙ sym (drop_all (length file) file (omega arith)))

    one_taken : (n : ℕ) → accepted limit file ≡ n → mid.hp.left ≡ drop (188 * (n + 1)) file → Taken
    one_taken n is left = (188 * (n + 1), omega (arith, is), left)

    taken_by : (o : Result Counts Refusal) → HasEndCause AllAccepted old mid o → Ran gives ends limit input old mid o → start.tells ≡ true → mid.bytes_out.created ≡ true → Taken
    taken_by (Ok counts) cause ran t made = let e = ran.1 t in all_taken e.1 e.2
    taken_by (Err Usage) cause ran t made = absurd cause
    taken_by (Err (Cells reason)) cause ran t made = absurd cause
    taken_by (Err (Settings why)) cause ran t made = absurd cause
    taken_by (Err ReadFault) cause ran t made =
        let e = ran.1 t made in
        (188 * e.0 + e.4.0, omega (arith, accepted_from limit file e.0 e.2 e.3, e.4.1), e.4.2)
    taken_by (Err WriteFault) cause ran t made = elim (ran.0 t made) [
      | inl e ↦ refused_taken e.0 e.1
      | inr e ↦ all_taken e.0 e.1
    ]
      where
        refused_taken : (r : Refusal) → Codes gives limit file [] mid.hp.left mid.bytes_out.written (Err r) → Taken
        refused_taken ReadFault e = (188 * e.0 + e.4.0, omega (arith, accepted_from limit file e.0 e.2 e.3, e.4.1), e.4.2)
        refused_taken WriteFault e = (188 * e.0, omega (arith, accepted_from limit file e.0 e.2 e.3), e.4)
        refused_taken (NotSync stream n) e = one_taken n (not_sync_at limit file n e.1 e.2 e.4) e.5
        refused_taken (Limit n) e = one_taken n (limit_at n e.0 e.1 e.2).1 e.3
        refused_taken Usage e = absurd e
        refused_taken (Cells reason) e = absurd e
        refused_taken (Settings reason) e = absurd e
        refused_taken Memory e = absurd e
    taken_by (Err (NotSync stream n)) cause ran t made = let e = ran.2 t in one_taken n (not_sync_at limit file n e.1 e.2 e.4) e.5
    taken_by (Err Memory) cause ran t made = absurd cause
    taken_by (Err (Limit n)) cause ran t made = let e = ran.2 t in one_taken n (limit_at n e.0 e.1 e.2).1 e.3

    taken : (o : Result Counts Refusal) → HasEndCause AllAccepted old mid o → Ran gives ends limit input old mid o → start.tells ≡ true → (port : InPort) → IsInput c port → (source_at port mid).attached ≡ true
        → (j : ℕ) × (j ≤ c.most_taken limit start.file port) × ((source_at port mid).left ≡ drop j (named start.file (c.reads port)))
    taken o cause ran t ins.Settings reads is =
        let r = done.read t reads (ap (λ (x : Meaning). x.settings.attached) (sym asks.others) ∙ is) in
        (r.0, r.1, ap (λ (x : Meaning). x.settings.left) asks.others ∙ r.2)
    taken o cause ran t ins.Hp reads is = elim (asks.untaken is) [
      | inl made ↦ taken_by o cause ran t made
      | inr untaken ↦ (0, omega arith, untaken)
    ]
    taken o cause ran t ins.Lp reads is = absurd (true≢false (sym reads))
    taken o cause ran t ins.Cells reads is = absurd (true≢false (sym reads))

    -- a run that succeeded
    not_done : (r : Refusal) → Some r ≡ None → ⊥
    not_done r is = cc

    opened_by : (o : Result Counts Refusal) → Ran gives ends limit input old mid o → reason o ≡ None → mid.hp.attached ≡ true
    opened_by (Ok counts) ran is = ran.0.attached
    opened_by (Err r) ran is = absurd (not_done r is)

    hp_read_out : (o : Result Counts Refusal) → Ran gives ends limit input old mid o → reason o ≡ None → start.tells ≡ true → mid.hp.left ≡ []
    hp_read_out (Ok counts) ran is t = (ran.1 t).2
    hp_read_out (Err r) ran is t = absurd (not_done r is)

    read_out : (o : Result Counts Refusal) → Ran gives ends limit input old mid o → reason o ≡ None → start.tells ≡ true → (port : InPort) → IsInput c port → (source_at port mid).left ≡ []
    read_out o ran is t ins.Settings reads = ap (λ (x : Meaning). x.settings.left) asks.others ∙ done.left t reads
    read_out o ran is t ins.Hp reads = hp_read_out o ran is t
    read_out o ran is t ins.Lp reads = absurd (true≢false (sym reads))
    read_out o ran is t ins.Cells reads = absurd (true≢false (sym reads))

    -- the outputs
    none_printed : mid.report ≡ old.report → start.tells ≡ true → mid.report.written ≡ []
    none_printed is t = ap (λ (x : Sink). x.written) is ∙ fresh.report_empty t

    empty : (text : List ℕ) → start.tells ≡ true → start.report.written ++ text ≡ text
    empty text t = ap (λ (l : List ℕ). l ++ text) (fresh.report_empty t)

    so_far : (n : ℕ) → n ≡ packets_taken file mid.hp.left → mid.hp.attached ≡ true → start.tells ≡ true → n ≤ accepted limit file → mid.bytes_out.written ≡ gives (first_packets n file)
        → CodesSoFar k limit start.file input (unread c mid ins.Hp) mid.bytes_out.written
    so_far n count is t within written =
        let At : ℕ → Type 0 = λ m. k.Gives start.file (first_packets m file) mid.bytes_out.written × (m ≤ accepted limit file) in
        let here : At n = (subst (λ (b : List ℕ). k.Gives start.file (first_packets n file) b) (sym written) ((same t).so_far (first_packets n file)), within) in
        subst (λ (l : List ℕ). At (packets_taken file l)) (sym (left_is is)) (subst At count here)

    leaves_by : (o : Result Counts Refusal) → HasEndCause AllAccepted old mid o → Ran gives ends limit input old mid o → Leaves c limit start mid (reason o)
    leaves_by (Ok counts) cause ran = record {
      made = only (λ out. (sink_at out mid).created ≡ true) ran.0.created;
      outputs = λ t. only (λ out. CodesTo k limit start.file input (sink_at out mid).written) (output_all t (ran.1 t).1 mid.bytes_out.written (ran.1 t).3);
      report = λ t. inl (all_accepted limit file (ran.1 t).1, ran.0.report t ∙ empty (closing_line counts) t ∙ ap closing_line (ran.1 t).0);
    }
    leaves_by (Err Usage) cause ran = absurd cause
    leaves_by (Err (Cells reason)) cause ran = absurd cause
    leaves_by (Err (Settings why)) cause ran = absurd cause
    leaves_by (Err Memory) cause ran = absurd cause
    leaves_by (Err (NotSync stream n)) cause ran = record {
      made = only (λ out. (sink_at out mid).created ≡ true) ran.1;
      outputs = λ t. only (λ out. CodesTo k limit start.file input (sink_at out mid).written)
          (let e = ran.2 t in output_before t n e.2 (not_sync_at limit file n e.1 e.2 e.4) mid.bytes_out.written e.6);
      report = λ t. let e = ran.2 t in inr (refused_at n e.2 (not_sync_at limit file n e.1 e.2 e.4), none_printed ran.0 t);
    }
    leaves_by (Err (Limit n)) cause ran = record {
      made = only (λ out. (sink_at out mid).created ≡ true) ran.1;
      outputs = λ t. only (λ out. CodesTo k limit start.file input (sink_at out mid).written)
          (let e = ran.2 t in output_before t n e.2 (limit_at n e.0 e.1 e.2).1 mid.bytes_out.written e.4);
      report = λ t. let e = ran.2 t in inr (refused_at n e.2 (limit_at n e.0 e.1 e.2).1, none_printed ran.0 t);
    }
    leaves_by (Err ReadFault) cause ran = record {
      outputs = λ t. only (λ out. (sink_at out mid).created ≡ true → CodesSoFar k limit start.file input (unread c mid ins.Hp) (sink_at out mid).written)
          (λ made. let e = ran.1 t made in so_far e.0 e.1 (opened_before made) t (accepted_from limit file e.0 e.2 e.3) e.5);
      report = λ t. none_printed ran.0 t;
    }
    leaves_by (Err WriteFault) cause ran = record {
      outputs = λ t. only
          (λ out. (sink_at out mid).created ≡ true → (bytes : List ℕ) × CodesTo k limit start.file input bytes × ((j : ℕ) × ((sink_at out mid).written ≡ take j bytes)))
          (λ made. front t (ran.0 t made));
      report = λ t. lines t (ran.1 t);
    }
      where
        -- the output for the packets before a refusal
        refused_front : start.tells ≡ true → (r : Refusal) → Codes gives limit file [] mid.hp.left mid.bytes_out.written (Err r)
            → (n : ℕ) × (j : ℕ) × (n ≤ accepted limit file) × (mid.bytes_out.written ≡ take j (gives (first_packets n file)))
        refused_front t ReadFault e = (e.0, length (gives (first_packets e.0 file)), accepted_from limit file e.0 e.2 e.3, e.5 ∙ whole_of (gives (first_packets e.0 file)))
        refused_front t WriteFault e = (e.0, e.1, accepted_from limit file e.0 e.2 e.3, e.5)
        refused_front t (NotSync stream n) e = (n, length (gives (first_packets n file)), omega (arith, not_sync_at limit file n e.1 e.2 e.4), e.6 ∙ whole_of (gives (first_packets n file)))
        refused_front t (Limit n) e = (n, length (gives (first_packets n file)), omega (arith, (limit_at n e.0 e.1 e.2).1), e.4 ∙ whole_of (gives (first_packets n file)))
        refused_front t Usage e = absurd e
        refused_front t (Cells reason) e = absurd e
        refused_front t (Settings reason) e = absurd e
        refused_front t Memory e = absurd e

        front : start.tells ≡ true
            → ((r : Refusal) × Codes gives limit file [] mid.hp.left mid.bytes_out.written (Err r))
            ⊎ (AcceptsFirst limit file (whole_packets file) × (mid.hp.left ≡ []) × ((j : ℕ) × (mid.bytes_out.written ≡ take j (ends (first_packets (whole_packets file) file)))))
            → (bytes : List ℕ) × CodesTo k limit start.file input bytes × ((j : ℕ) × (mid.bytes_out.written ≡ take j bytes))
        front t (inl e) =
            let all = comes t in
            let f = refused_front t e.0 e.1 in
            let begins = all.begins f.0 f.2 f.1 in
            (all.bytes, all.are, (begins.0, f.3 ∙ begins.1))
        front t (inr e) = (ends (packets_of file), output_all t e.0 (ends (packets_of file)) refl, (e.2.0, e.2.1))

        lines : start.tells ≡ true
            → (mid.report.written ≡ start.report.written) ⊎ (AcceptsFirst limit file (whole_packets file) × ((j : ℕ) × (mid.report.written ≡ start.report.written ++ take j (closing_line (counts_of file)))))
            → (l : List ℕ) × ClosesWith limit file l × ((j : ℕ) × (mid.report.written ≡ take j l))
        lines t (inl is) = (closes.lines, closes.are, (0, is ∙ fresh.report_empty t))
        lines t (inr is) = (
          closing_line (counts_of file),
          inl (all_accepted limit file is.0, refl),
          (is.1.0, is.1.1 ∙ empty (take is.1.0 (closing_line (counts_of file))) t),
        )

    pub ended_of : (o : Result Counts Refusal) → HasEndCause AllAccepted old mid o → Ran gives ends limit input old mid o → Ended c limit start mid (reason o)
    ended_of o cause ran = record {
      known = known_by o cause;
      caused = caused_by o cause;
      settled = settled_by o cause;
      later_reads = later_reads_by o cause;
      later_writes = later_writes_by o cause;
      later_report = asks.later_report;
      exact = exact_by o cause ran;
      sources = sources_asked;
      sinks = sinks_asked;
      settings_first = λ is. inr (
        ap (λ (x : Meaning). x.settings.attached) asks.others ∙ done.attached is,
        λ t. (ap (λ (x : Meaning). x.settings.left) asks.others ∙ done.left t is, done.accepted t),
      );
      lp_behind_hp = inl (ap (λ (x : Meaning). x.lp.asked) asks.others ∙ fresh.lp.asked);
      outputs_behind_inputs = behind_inputs;
      unasked = only (λ out. (sink_at out mid).asked ≡ None → IsUntouched (sink_at out mid)) unasked;
      outputs_behind_header = λ t out. inr tt;
      lp_made_behind_hp = inl (ap (λ (x : Meaning). x.lp_out.asked) asks.others ∙ fresh.lp_out.asked);
      work_behind_outputs = λ t port other is. work_of port other is;
      taken = taken o cause ran;
      opened = λ is. inputs_opened (opened_by o ran is);
      read_out = λ is t. read_out o ran is t;
      closed = λ out is. only (λ port. (sink_at port mid).created ≡ true → (sink_at port mid).closed ≡ true) asks.closed out is;
      no_report = refl;
      same_telling = ap (λ (x : Meaning). x.tells) asks.others;
      same_files = ap (λ (x : Meaning). x.file) asks.others;
      report_open = ap (λ (x : Meaning). x.report.closed) asks.others;
      leaves = leaves_by o cause ran;
      own = λ file. tt;
    }
      where
        work_of : (port : InPort) → port ≢ ins.Settings → IsInput c port → IsUntaken c mid port ⊎ AreMade c mid
        work_of ins.Settings other is = absurd (other refl)
        work_of ins.Hp other is = work_behind mid.hp.attached refl
        work_of ins.Lp other is = absurd (true≢false (sym is))
        work_of ins.Cells other is = absurd (true≢false (sym is))

  -- the promise of the run
  run_by : (o : Result Counts Refusal) (mid new : Meaning) (status : ℕ) → status ≡ outcome_status o → AsksPorts input output old mid → HasEndCause AllAccepted old mid o → Ran gives ends limit input old mid o → Tells mid new o
      → Run c limit start new status
  run_by (Ok counts) mid new status is asks cause ran tells =
      subst (λ (n : ℕ). Run c limit start new n) (sym is)
      (subst (λ (m : Meaning). Run c limit start m 0) (sym tells) (run_done c limit start mid (ended_of mid asks (Ok counts) cause ran)))
  run_by (Err r) mid new status is asks cause ran tells =
      subst (λ (n : ℕ). Run c limit start new n) (sym is) (run_refused c limit start mid new r (ended_of mid asks (Err r) cause ran) tells)

  pub run_of : (new : Meaning) (status : ℕ) → RunsCoding gives ends limit input output old new status → Run c limit start new status
  run_of new status runs = run_by runs.outcome runs.mid new status runs.status_is runs.asks runs.cause runs.ran runs.tells
