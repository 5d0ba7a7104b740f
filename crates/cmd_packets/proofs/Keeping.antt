-- How the meaning of a station changes from step to step of a coding.
use Rattle.std.proofs.Common.{◌≡◌, ◌≤◌, Bool, true, refl, subst, inl, inr, ℕ, List, ◌++◌, if◌then◌else◌, length, take, ◌∙◌, sym, ap, arith, Result, Ok, Err}
use Rattle.std.proofs.lemmas.List.{take_all}
use Rattle.station_core.specs.Meaning.{Meaning, Source, Sink, with_sink, written_sink, closed_sink, with_close_faults}
use Rattle.station_core.specs.declared.ports.OutPort.TheVariants.{Report, Bytes}
use Rattle.cmd_base.specs.declared.counts.Counts.{Counts}
use Rattle.cmd_base.specs.declared.refusal.Refusal.{Refusal}
use Rattle.cmd_base.specs.Packets.{closing_line}
use Rattle.cmd_packets.specs.Coding.{KeepsOthers}
use Rattle.cmd_base.specs.Causes.{FlushesOnly}
use Rattle.cmd_packets.specs.Steps.{AsksPorts, OpensAll, Finishes, ClosesOutput, ClosesRefused}

pub keeps_again : (a b c : Meaning) → KeepsOthers a b → KeepsOthers b c → KeepsOthers a c
keeps_again a b c p q =
    q ∙ ap (λ (x : Meaning). record x { hp = record x.hp { left = c.hp.left }; bytes_out = record x.bytes_out { written = c.bytes_out.written }; read_faults = c.read_faults; write_faults = c.write_faults; pending = c.pending }) p

-- the closing line was written, and the output could not be closed
pub closes_late : (line : List ℕ) (m m' m'' : Meaning)
    → m' ≡ with_sink Report (written_sink m.tells line m.report) m
    → m'' ≡ with_close_faults m''.close_faults (with_sink Bytes (closed_sink m'.bytes_out) m')
    → (m.report_faults ≤ m''.report_faults) × (m'' ≡ record m {
      bytes_out = record m.bytes_out { closed = true };
      report = record m.report { written = if m.tells then m.report.written ++ take (length line) line else m.report.written };
      write_faults = m''.write_faults;
      close_faults = m''.close_faults;
      report_faults = m''.report_faults;
    })
closes_late line m m' m'' p q =
    let At : ℕ → ℕ → List ℕ → Meaning = λ n f l. record m {
      bytes_out = record m.bytes_out { closed = true };
      report = record m.report { written = if m.tells then m.report.written ++ l else m.report.written };
      write_faults = n;
      close_faults = m''.close_faults;
      report_faults = f;
    } in
    let first : m'' ≡ At m.write_faults m.report_faults line = q ∙ ap (λ (x : Meaning). with_close_faults m''.close_faults (with_sink Bytes (closed_sink x.bytes_out) x)) p in
    let writes : m''.write_faults ≡ m.write_faults = ap (λ (x : Meaning). x.write_faults) first in
    let same : m''.report_faults ≡ m.report_faults = ap (λ (x : Meaning). x.report_faults) first in (
      omega (arith, same),
      first ∙ ap (λ (n : ℕ). At n m.report_faults line) (sym writes) ∙ ap (λ (f : ℕ). At m''.write_faults f line) (sym same) ∙ ap (At m''.write_faults m''.report_faults) (sym (take_all (length line) line (omega arith))),
    )

-- The work of a run over its open ports: only the input left, the output and its closing, the report's text and the
-- counts have changed.
abbrev pub Works : Meaning → Meaning → Type 0
Works old new = new ≡ record old {
  hp = record old.hp { left = new.hp.left };
  bytes_out = record old.bytes_out { closed = true; written = new.bytes_out.written };
  report = record old.report { written = new.report.written };
  read_faults = new.read_faults;
  write_faults = new.write_faults;
  close_faults = new.close_faults;
  report_faults = new.report_faults;
  pending = new.pending;
}

works_from : (old new : Meaning) (left out text : List ℕ) (reads writes shut reports : ℕ) (waits : Bool)
    → new ≡ record old {
      hp = record old.hp { left = left };
      bytes_out = record old.bytes_out { closed = true; written = out };
      report = record old.report { written = text };
      read_faults = reads;
      write_faults = writes;
      close_faults = shut;
      report_faults = reports;
      pending = waits;
    } → Works old new
works_from old new left out text reads writes shut reports waits p = p ∙ (λ i. record old {
  hp = record old.hp { left = sym (ap (λ (x : Meaning). x.hp.left) p) i };
  bytes_out = record old.bytes_out { closed = true; written = sym (ap (λ (x : Meaning). x.bytes_out.written) p) i };
  report = record old.report { written = sym (ap (λ (x : Meaning). x.report.written) p) i };
  read_faults = sym (ap (λ (x : Meaning). x.read_faults) p) i;
  write_faults = sym (ap (λ (x : Meaning). x.write_faults) p) i;
  close_faults = sym (ap (λ (x : Meaning). x.close_faults) p) i;
  report_faults = sym (ap (λ (x : Meaning). x.report_faults) p) i;
  pending = sym (ap (λ (x : Meaning). x.pending) p) i;
})

-- flushing preserves what the work preserves
keeps_flushed : (old fin new : Meaning) → KeepsOthers old fin → FlushesOnly fin new → KeepsOthers old new
keeps_flushed old fin new keeps p = keeps_again old fin new keeps (subst (λ (x : Meaning). KeepsOthers fin x) (sym p) refl)

-- the output was closed after the work
works_shut : (old fin new : Meaning) → KeepsOthers old fin → ClosesOutput fin new → Works old new
works_shut old fin new keeps closes =
    works_from old new fin.hp.left fin.bytes_out.written old.report.written fin.read_faults fin.write_faults new.close_faults old.report_faults fin.pending
    (closes.closed ∙ ap (λ (x : Meaning). record x { bytes_out = record x.bytes_out { closed = true }; close_faults = new.close_faults }) keeps)

-- the work was refused, and the output flushed and closed
pub works_closed : (r r' : Refusal) (old fin new : Meaning) → KeepsOthers old fin → ClosesRefused r fin new r' → Works old new
works_closed r r' old fin new keeps closes = works_shut old closes.flushed new (keeps_flushed old fin closes.flushed keeps closes.flushes) closes.closes

-- the work was done, the closing line written or not, and the output closed
pub works_finished : (old fin new : Meaning) (counts : Counts) (r : Result Counts Refusal) → KeepsOthers old fin → Finishes counts fin new r → Works old new
works_finished old fin new counts (Ok c) keeps f =
    let text : List ℕ = if fin.tells then fin.report.written ++ closing_line counts else fin.report.written in
    works_from old new fin.hp.left fin.bytes_out.written text fin.read_faults fin.write_faults old.close_faults old.report_faults fin.pending
    (f.1 ∙ ap (λ (x : Meaning). record x { bytes_out = record x.bytes_out { closed = true }; report = record x.report { written = text } }) keeps)
works_finished old fin new counts (Err refusal) keeps f =
    let text : List ℕ = if fin.tells then fin.report.written ++ take f.2 (closing_line counts) else fin.report.written in
    works_from old new fin.hp.left fin.bytes_out.written text fin.read_faults new.write_faults new.close_faults new.report_faults fin.pending
    (f.3 ∙ ap (λ (x : Meaning). record x { bytes_out = record x.bytes_out { closed = true }; report = record x.report { written = text }; write_faults = new.write_faults; close_faults = new.close_faults; report_faults = new.report_faults }) keeps)

-- the count of failed writes to Report has not fallen
pub later_closed : (r r' : Refusal) (old fin new : Meaning) → KeepsOthers old fin → ClosesRefused r fin new r' → old.report_faults ≤ new.report_faults
later_closed r r' old fin new keeps closes =
    omega (arith, ap (λ (x : Meaning). x.report_faults) keeps, ap (λ (x : Meaning). x.report_faults) closes.flushes, ap (λ (x : Meaning). x.report_faults) closes.closes.closed)

pub later_finished : (old fin new : Meaning) (counts : Counts) (r : Result Counts Refusal) → KeepsOthers old fin → Finishes counts fin new r → old.report_faults ≤ new.report_faults
later_finished old fin new counts (Ok c) keeps f = omega (arith, ap (λ (x : Meaning). x.report_faults) keeps, ap (λ (x : Meaning). x.report_faults) f.1)
later_finished old fin new counts (Err refusal) keeps f = omega (arith, ap (λ (x : Meaning). x.report_faults) keeps, f.1)

-- the ports requested, of a station changed only in these
others_from : (old new : Meaning) (hp : Source) (out : Sink) (text : List ℕ) (reads writes shut reports : ℕ) (waits : Bool)
    → new ≡ record old { hp = hp; bytes_out = out; report = record old.report { written = text }; read_faults = reads; write_faults = writes; close_faults = shut; report_faults = reports; pending = waits }
    → new ≡ record old {
      hp = new.hp;
      bytes_out = new.bytes_out;
      report = record old.report { written = new.report.written };
      read_faults = new.read_faults;
      write_faults = new.write_faults;
      close_faults = new.close_faults;
      report_faults = new.report_faults;
      pending = new.pending;
    }
others_from old new hp out text reads writes shut reports waits p = p ∙ (λ i. record old {
  hp = sym (ap (λ (x : Meaning). x.hp) p) i;
  bytes_out = sym (ap (λ (x : Meaning). x.bytes_out) p) i;
  report = record old.report { written = sym (ap (λ (x : Meaning). x.report.written) p) i };
  read_faults = sym (ap (λ (x : Meaning). x.read_faults) p) i;
  write_faults = sym (ap (λ (x : Meaning). x.write_faults) p) i;
  close_faults = sym (ap (λ (x : Meaning). x.close_faults) p) i;
  report_faults = sym (ap (λ (x : Meaning). x.report_faults) p) i;
  pending = sym (ap (λ (x : Meaning). x.pending) p) i;
})

-- both ports were opened, the work ended, and the output closed
pub asks_worked : (input output : List ℕ) (old mid new : Meaning) → OpensAll input output old mid (Ok tt) → Works mid new → mid.report_faults ≤ new.report_faults → AsksPorts input output old new
asks_worked input output old mid new opened works later =
    let all = works ∙ ap (λ (x : Meaning). record x {
      hp = record x.hp { left = new.hp.left };
      bytes_out = record x.bytes_out { closed = true; written = new.bytes_out.written };
      report = record x.report { written = new.report.written };
      read_faults = new.read_faults;
      write_faults = new.write_faults;
      close_faults = new.close_faults;
      report_faults = new.report_faults;
      pending = new.pending;
    }) opened in
    record {
      others = others_from old new _ _ _ _ _ _ _ _ all;
      later_report = omega (arith, later, ap (λ (x : Meaning). x.report_faults) opened);
      hp = ap (λ (x : Meaning). x.hp.asked) all;
      bytes = inr (ap (λ (x : Meaning). x.bytes_out.asked) all, ap (λ (x : Meaning). x.hp.attached) all);
      untaken = λ is. inl (ap (λ (x : Meaning). x.bytes_out.created) all);
      closed = λ is. ap (λ (x : Meaning). x.bytes_out.closed) all;
    }
