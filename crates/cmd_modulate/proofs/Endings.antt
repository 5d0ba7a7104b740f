-- The joint effect of the parts of a run, from opening the ports to closing them.
use Rattle.std.proofs.Common.{◌≡◌, ◌≤◌, ◌<◌, ◌+◌, inl, inr, ℕ, Bool, true, false, if◌then◌else◌, List, [], ◌++◌, length, take, Option, Some, None, Result, Ok, Err, refl, ap, sym, subst, ◌∙◌, arith}
use Rattle.std.specs.Prelude.{is_some, IsTrue}
use Rattle.std.proofs.lemmas.List.{append-nil, take_all}
use Rattle.std.specs.Bool.{beq}
use Rattle.station_core.specs.Meaning.{Meaning, Source, Sink}
use Rattle.mode_set.specs.Entries.{has_lp}
use Rattle.mode_set.specs.declared.modes.Stream.{Stream}
use Rattle.mode_set.specs.declared.modes.Stream.TheVariants.{Lp}
use Rattle.mode_set.specs.declared.settings.Settings.{Settings as TheSettings}
use Rattle.symbol_parameters.specs.Spans.{exists_in}
use Rattle.std.proofs.lemmas.Bool.{cases_lt}
use Rattle.std.proofs.Math.Seq.{take-append-add}
use Rattle.frame_build.specs.CellFile.{header}
use Rattle.transmission.specs.Transmission.{Inputs, first_symbols}
use Rattle.transmission.specs.SuperFrames.{symbols_of}
use Rattle.transmission.specs.Agenda.{first_refusal, symbols_sent}
use Rattle.transmission.specs.Agenda as agenda
use Rattle.transmission.specs.Laws.{PartOfSymbols}
use Rattle.transmission.specs.AgendaLaws.{IsAt, WorkBegins}
use Rattle.cmd_modulate.specs.declared.counts.TransmissionCounts.{TransmissionCounts}
use Rattle.cmd_base.specs.declared.refusal.Refusal.{Refusal}
use Rattle.cmd_base.specs.declared.refusal.Refusal.TheVariants.{Usage, Settings, ReadFault, WriteFault, NotSync, Memory, Limit, Cells}
use Rattle.cmd_base.specs.Command.{named}
use Rattle.cmd_base.specs.StreamForm.{fits_form}
use Rattle.cmd_modulate.proofs.Keeping.{keeps_again}
use Rattle.cmd_modulate.specs.ModulateCommand.{cells_sent, file_of_symbols, files_of, inputs_of, sent_by, modulation_lines, modulation_refusal, transmission_counts, transmission_lines}
use Rattle.cmd_modulate.specs.Inputs.{Reads, left_of, lp_left}
use Rattle.cmd_modulate.specs.Seen.{Seen}
use Rattle.cmd_modulate.specs.Work.{AreOpen, AreWithin, Ends, IsAtWork, KeepsOthers, Modulates, TakeFew}
use Rattle.cmd_modulate.specs.Reporting.{Finishes, IsFinish}
use Rattle.cmd_base.specs.Causes.{Settles}
use Rattle.cmd_modulate.specs.Steps.{ClosesOutput, ClosesRefused, HasPrinted, IsClosed, IsNew, OpensAll, Ran, first_inputs, lp_source}

-- Cells is closed; the bytes left of the inputs, those written and the counts may differ
abbrev closed_as : Meaning → Meaning → Meaning
closed_as new m = record m {
  hp = record m.hp { left = new.hp.left };
  lp = record m.lp { left = new.lp.left };
  cells_out = record m.cells_out { closed = true; written = new.cells_out.written };
  report = record m.report { written = new.report.written };
  read_faults = new.read_faults;
  write_faults = new.write_faults;
  close_faults = new.close_faults;
  report_faults = new.report_faults;
  pending = new.pending;
}

abbrev ClosedSince : Meaning → Meaning → Type 0
ClosedSince m new = new ≡ closed_as new m

-- ---- prefixes of the cells sent the symbols so far are one
front_so_far : PartOfSymbols → (s : TheSettings) (limit : ℕ) (inputs : Inputs) (m : ℕ) → m < symbols_of s inputs → m ≤ symbols_sent s limit inputs → (j : ℕ) × (file_of_symbols s inputs m ≡ take j (cells_sent s limit inputs))
front_so_far part s limit inputs m more sent = go (first_refusal s limit inputs)
  where
    behind : (n : ℕ) → m ≤ n → (j : ℕ) × (file_of_symbols s inputs m ≡ take j (file_of_symbols s inputs n))
    behind n le = elim (cases_lt m n) [
      | inl lt ↦
          let p = part s inputs m n 0 lt in (
            length (header s.mode) + p.0,
            ap (λ (l : List ℕ). header s.mode ++ l) (sym (append-nil (first_symbols s inputs m)) ∙ p.1) ∙ sym (take-append-add (header s.mode) (first_symbols s inputs n) p.0),
          )
      | inr ge ↦
          let same : m ≡ n = omega (arith, le, ge) in
          let all : List ℕ = file_of_symbols s inputs n in
          (length all, ap (λ (k : ℕ). file_of_symbols s inputs k) same ∙ sym (take_all (length all) all (omega arith)))
    ]

    go : (o : Option agenda.Refusal) → (j : ℕ) × (file_of_symbols s inputs m ≡ take j (sent_by s limit inputs o))
    go None = behind (symbols_of s inputs) (omega (arith, more))
    go (Some r) = behind (symbols_sent s limit inputs) sent

-- the whole is
front_of_sent : (written sent : List ℕ) → written ≡ sent → (k : ℕ) × (written ≡ take k sent)
front_of_sent written sent is = (length written, sym (take_all (length written) written (omega arith)) ∙ ap (λ (l : List ℕ). take (length written) l) is)

-- ---- before the first symbol the file of LP can be read from its start, or there is none
lp_reads : (lp : Option (List ℕ)) (old mid : Meaning) (put : ℕ) → put ≡ 0 → old.lp.attached ≡ false → mid.lp ≡ lp_source lp old
    → Reads (named old.file lp) (lp_left mid) (first_inputs (is_some lp)).lp put
lp_reads None old mid put none closed is =
    let attached : mid.lp.attached ≡ false = ap (λ (x : Source). x.attached) is ∙ closed in
    record {
      within = omega arith;
      rest = (ap (λ (b : Bool). if b then mid.lp.left else []) attached, refl, refl, omega arith);
    }
lp_reads (Some name) old mid put none closed is = record {
  within = omega arith;
  rest = (ap (λ (x : Source). if x.attached then x.left else []) is, none);
}

module _ (s : TheSettings) (limit : ℕ) (hp : List ℕ) (lp : Option (List ℕ)) (cells : List ℕ) (old mid : Meaning) (opened : OpensAll hp lp cells old mid (Ok tt)) where
  abbrev files : Stream → List ℕ
  files = files_of old.file hp lp

  tells : mid.tells ≡ old.tells
  tells = ap (λ (x : Meaning). x.tells) opened

  pub unwritten : mid.cells_out.written ≡ []
  unwritten = ap (λ (x : Meaning). x.cells_out.written) opened

  pub starts : WorkBegins → old.lp.attached ≡ false → (t : Seen) (put : Inputs → Type 0) → IsNew t → put (inputs_of files) → IsAtWork limit files mid (first_inputs (is_some lp)) t put
  starts begins closed t put new stands = record {
    at = at;
    stands = stands;
    read = record {
      hp = record { within = omega arith; rest = (ap (λ (x : Meaning). x.hp.left) opened, new.hp) };
      lp = lp_reads lp old mid t.lp new.lp closed (ap (λ (x : Meaning). x.lp) opened);
    };
  }
    where
      at : IsAt t.settings limit (inputs_of files) t.made t.hp t.lp
      at =
          subst (λ (n : ℕ). IsAt t.settings limit (inputs_of files) n t.hp t.lp) (sym new.made)
          (subst (λ (n : ℕ). IsAt t.settings limit (inputs_of files) 0 n t.lp) (sym new.hp)
          (subst (λ (n : ℕ). IsAt t.settings limit (inputs_of files) 0 0 n) (sym new.lp) (begins t.settings limit (inputs_of files))))

  -- ---- the work has ended, and the output was then closed
  module _ (fin new : Meaning) (keeps : KeepsOthers mid fin) where
    same_report : fin.report ≡ old.report
    same_report = ap (λ (x : Meaning). x.report) keeps ∙ ap (λ (x : Meaning). x.report) opened

    same_faults : fin.report_faults ≡ old.report_faults
    same_faults = ap (λ (x : Meaning). x.report_faults) keeps ∙ ap (λ (x : Meaning). x.report_faults) opened

    tells_same : fin.tells ≡ old.tells
    tells_same = ap (λ (x : Meaning). x.tells) keeps ∙ tells

    is_closed : ClosedSince fin new → old.report_faults ≤ new.report_faults → IsClosed hp lp cells old new
    is_closed since later = record { others = since ∙ ap (closed_as new) keeps ∙ ap (closed_as new) opened; later_report = later }

    -- the facts on the cells and on the bytes left also hold when Cells is closed
    ends_same : (n : ℕ) (r : Refusal) → Ends s limit files fin r → Ends s limit files (record fin { cells_out = record fin.cells_out { closed = true }; close_faults = n }) r
    ends_same n Usage e = e
    ends_same n (Cells reason) e = e
    ends_same n (Settings reason) e = e
    ends_same n ReadFault e = e
    ends_same n WriteFault e = e
    ends_same n (NotSync σ p) e = e
    ends_same n Memory e = e
    ends_same n (Limit most) e = e

    -- the work was refused: nothing was printed
    shut_with : (r : Refusal) → (mid.tells ≡ true → Modulates s limit files fin (Err r)) → ClosesOutput fin new → Ran s limit hp lp cells old new (Err r)
    shut_with r work closes = inr (record {
      ports = is_closed (subst (λ (x : Meaning). ClosedSince fin x) (sym closes.closed) refl) (omega (arith, same_faults, ap (λ (x : Meaning). x.report_faults) closes.closed));
      modulates = λ t. subst (λ (x : Meaning). Modulates s limit files x (Err r)) (sym closes.closed)
          (let w = work (tells ∙ t) in (ends_same new.close_faults r w.0, w.1));
      printed = λ t. none r;
    })
      where
        report_same : new.report.written ≡ old.report.written
        report_same = ap (λ (x : Meaning). x.report.written) closes.closed ∙ ap (λ (x : Sink). x.written) same_report

        none : (r : Refusal) → HasPrinted (modulation_lines s limit (is_some lp) files) old new (Err r)
        none Usage = report_same
        none (Cells reason) = report_same
        none (Settings reason) = report_same
        none ReadFault = report_same
        none WriteFault = (0, report_same ∙ sym (append-nil old.report.written))
        none (NotSync σ p) = report_same
        none Memory = report_same
        none (Limit n) = report_same

    -- the work was done: its closing lines are those of the modulation
    lines_are : (counts : TransmissionCounts) → counts ≡ transmission_counts s files → modulation_refusal s limit (inputs_of files) ≡ None
        → transmission_lines (is_some lp) counts ≡ modulation_lines s limit (is_some lp) files
    lines_are counts same none =
        ap (transmission_lines (is_some lp)) same ∙ sym (ap (λ (o : Option Refusal). if is_some o then [] else transmission_lines (is_some lp) (transmission_counts s files)) none)

    -- they were written, or were not
    pub finished : (counts : TransmissionCounts) → (mid.tells ≡ true → Modulates s limit files fin (Ok counts))
        → (r : Result TransmissionCounts Refusal) → IsFinish counts r → Finishes (is_some lp) counts fin new r → Ran s limit hp lp cells old new r
    finished counts work (Ok c) is f = record {
      ports = ports;
      modulates = λ t. subst (λ (x : TransmissionCounts). Modulates s limit files new (Ok x)) (sym is) (
          let w = work (tells ∙ t) in (
            w.0,
            ap (λ (x : Meaning). x.hp.left) f.others ∙ w.1,
            ap lp_left f.others ∙ w.2,
            w.3,
            ap (λ (x : Meaning). x.cells_out.written) f.others ∙ w.4,
            left_same w.5,
          )
          );
      printed = λ t. f.written (tells_same ∙ t) ∙ all_lines t;
    }
      where
        ports : IsClosed hp lp cells old new
        ports = is_closed (subst (λ (x : Meaning). ClosedSince fin x) (sym f.others) refl) (omega (arith, same_faults, f.later_report))

        left_same : TakeFew limit files (left_of fin) → TakeFew limit files (left_of new)
        left_same few = subst (λ (l : Stream → List ℕ). TakeFew limit files l) (sym (ap left_of f.others)) few

        all_lines : old.tells ≡ true → fin.report.written ++ transmission_lines (is_some lp) counts ≡ old.report.written ++ modulation_lines s limit (is_some lp) files
        all_lines t =
            ap (λ (x : Sink). x.written ++ transmission_lines (is_some lp) counts) same_report
            ∙ ap (λ (l : List ℕ). old.report.written ++ l) (lines_are counts (work (tells ∙ t)).0 (work (tells ∙ t)).3)
    finished counts work (Err r) is f = subst (λ (x : Refusal). Ran s limit hp lp cells old new (Err x)) (sym is) (inr (record {
      ports = ports;
      modulates = λ t. let w = work (tells ∙ t) in (
        (length fin.cells_out.written, ap (λ (x : Meaning). x.cells_out.written) f.others ∙ whole fin.cells_out.written ∙ ap (take (length fin.cells_out.written)) w.4),
        subst (λ (l : Stream → List ℕ). TakeFew limit files l) (sym (ap left_of f.others)) w.5,
      );
      printed = λ t.
          let w = f.written (tells_same ∙ t) in
          let k = work (tells ∙ t) in (
            w.0,
            w.1 ∙ ap (λ (x : Sink). x.written ++ take w.0 (transmission_lines (is_some lp) counts)) same_report
                ∙ ap (λ (l : List ℕ). old.report.written ++ take w.0 l) (lines_are counts k.0 k.3),
          );
    }))
      where
        ports : IsClosed hp lp cells old new
        ports = is_closed (subst (λ (x : Meaning). ClosedSince fin x) (sym f.others) refl) (omega (arith, same_faults, f.later_report))

        whole : (l : List ℕ) → l ≡ take (length l) l
        whole l = sym (take_all (length l) l (omega arith))

  -- ---- the work was refused, and the output was then flushed and closed
  module _ (part : PartOfSymbols) (fin new : Meaning) (keeps : KeepsOthers mid fin) where
    -- flushing changes no output
    ends_flushed : (n : ℕ) (waits : Bool) (r : Refusal) → Ends s limit files fin r → Ends s limit files (record fin { write_faults = n; pending = waits }) r
    ends_flushed n waits Usage e = e
    ends_flushed n waits (Cells reason) e = e
    ends_flushed n waits (Settings reason) e = e
    ends_flushed n waits ReadFault e = e
    ends_flushed n waits WriteFault e = e
    ends_flushed n waits (NotSync σ p) e = e
    ends_flushed n waits Memory e = e
    ends_flushed n waits (Limit most) e = e

    -- the output is a prefix of the cells sent
    lost : (m : Meaning) (r : Refusal) → Ends s limit files m r → Ends s limit files m WriteFault
    lost m Usage e = front_of_sent m.cells_out.written (cells_sent s limit (inputs_of files)) e.1
    lost m (Cells reason) e = front_of_sent m.cells_out.written (cells_sent s limit (inputs_of files)) e.1
    lost m (Settings reason) e = front_of_sent m.cells_out.written (cells_sent s limit (inputs_of files)) e.1
    lost m ReadFault e =
        let f = front_so_far part s limit (inputs_of files) e.symbols e.among e.in_order in (f.0, e.is ∙ f.1)
    lost m WriteFault e = e
    lost m (NotSync σ p) e = front_of_sent m.cells_out.written (cells_sent s limit (inputs_of files)) e.1
    lost m Memory e = front_of_sent m.cells_out.written (cells_sent s limit (inputs_of files)) e.1
    lost m (Limit n) e = front_of_sent m.cells_out.written (cells_sent s limit (inputs_of files)) e.1

    pub refused_with : (r r' : Refusal) → (mid.tells ≡ true → Modulates s limit files fin (Err r)) → ClosesRefused r fin new r' → Ran s limit hp lp cells old new (Err r')
    refused_with r r' work closes = by closes.settles
      where
        keeps' : KeepsOthers mid closes.flushed
        keeps' = keeps_again mid fin closes.flushed keeps (subst (λ (x : Meaning). KeepsOthers fin x) (sym closes.flushes) refl)

        work' : mid.tells ≡ true → Modulates s limit files closes.flushed (Err r)
        work' t = subst (λ (x : Meaning). Modulates s limit files x (Err r)) (sym closes.flushes)
            (let w = work t in (ends_flushed closes.flushed.write_faults closes.flushed.pending r w.0, w.1))

        by : Settles r fin closes.flushed r' → Ran s limit hp lp cells old new (Err r')
        by (inl same) = subst (λ (x : Refusal). Ran s limit hp lp cells old new (Err x)) (sym same.0) (shut_with closes.flushed new keeps' r work' closes.closes)
        by (inr failed) = subst (λ (x : Refusal). Ran s limit hp lp cells old new (Err x)) (sym failed.0)
            (shut_with closes.flushed new keeps' WriteFault (λ t. let w = work' t in (lost closes.flushed r w.0, w.1)) closes.closes)

-- if a port was not opened, nothing was given to the output
pub unopened_waits : (hp : List ℕ) (lp : Option (List ℕ)) (cells : List ℕ) (old mid : Meaning) (r : Refusal) → OpensAll hp lp cells old mid (Err r) → mid.pending ≡ old.pending
unopened_waits hp lp cells old mid ReadFault (inl e) = ap (λ (x : Meaning). x.pending) e
unopened_waits hp None cells old mid ReadFault (inr e) = absurd e
unopened_waits hp (Some name) cells old mid ReadFault (inr e) = ap (λ (x : Meaning). x.pending) e
unopened_waits hp lp cells old mid WriteFault e = ap (λ (x : Meaning). x.pending) e
unopened_waits hp lp cells old mid (NotSync σ n) e = absurd e
unopened_waits hp lp cells old mid (Limit n) e = absurd e
unopened_waits hp lp cells old mid Usage e = absurd e
unopened_waits hp lp cells old mid (Cells reason) e = absurd e
unopened_waits hp lp cells old mid (Settings reason) e = absurd e
unopened_waits hp lp cells old mid Memory e = absurd e

-- ---- the conditions of the work on the arguments if LP is read, it exists in the transmission
pub lp_exists : (s : TheSettings) (lp : Option (List ℕ)) → fits_form s lp ≡ true → (first_inputs (is_some lp)).lp.tail ≡ None → IsTrue (exists_in s Lp)
unfolding exists_in
lp_exists s None fits none = absurd (let e : Some 0 ≡ None = none in cc)
lp_exists s (Some name) fits none = go (has_lp s) fits
  where
    go : (b : Bool) → beq true b ≡ true → b ≡ true
    go true e = refl
    go false e = e

-- before the first packet the inputs are open, and nothing was taken of them
pub first_open : (hp : List ℕ) (lp : Option (List ℕ)) (cells : List ℕ) (old mid : Meaning) → OpensAll hp lp cells old mid (Ok tt) → AreOpen (first_inputs (is_some lp)) mid
first_open hp None cells old mid opened = record { hp = λ e. ap (λ (x : Meaning). x.hp.attached) opened; lp = λ none. absurd (let e : Some 0 ≡ None = none in cc) }
first_open hp (Some name) cells old mid opened = record { hp = λ e. ap (λ (x : Meaning). x.hp.attached) opened; lp = λ e. ap (λ (x : Meaning). x.lp.attached) opened }

pub first_within : (limit : ℕ) (two : Bool) → AreWithin limit (first_inputs two)
first_within limit true = record { hp = omega arith; lp = omega arith }
first_within limit false = record { hp = omega arith; lp = omega arith }
