-- The joint effect of the parts of a run, from opening the ports to closing them.
use Rattle.std.proofs.Common.{◌≡◌, inl, inr, true, Bool, ℕ, ◌+◌, List, [], ◌++◌, length, take, if◌then◌else◌, ◌∙◌, sym, ap, subst, arith, Result, Ok, Err}
use Rattle.std.proofs.lemmas.List.{take_all}
use Rattle.std.proofs.Math.Seq.{take-append-add}
use Rattle.station_core.specs.Meaning.{Meaning, Sink}
use Rattle.cmd_base.specs.declared.counts.Counts.{Counts}
use Rattle.cmd_base.specs.declared.refusal.Refusal.{Refusal}
use Rattle.cmd_base.specs.declared.refusal.Refusal.TheVariants.{Usage, Settings, ReadFault, WriteFault, NotSync, Memory, Limit, Cells}
use Rattle.cmd_base.specs.Packets.{whole_packets, first_packets, closing_line}
use Rattle.cmd_packets.specs.Coding.{Codes, CodesWhole, EndsCoding, KeepsOthers}
use Rattle.cmd_base.specs.Causes.{Settles}
use Rattle.cmd_packets.specs.Steps.{Ran, OpensAll, Finishes, ClosesOutput, ClosesRefused}

-- the work over the opened ports is the work over the file
from_opened : (input output : List ℕ) (old mid : Meaning) → OpensAll input output old mid (Ok tt) → (P : List ℕ → List ℕ → Type 0) → P mid.hp.left mid.bytes_out.written → P (old.file input) []
from_opened input output old mid opened P p =
    subst (λ (l : List ℕ). P (old.file input) l) (ap (λ (x : Meaning). x.bytes_out.written) opened)
    (subst (λ (l : List ℕ). P l mid.bytes_out.written) (ap (λ (x : Meaning). x.hp.left) opened) p)

-- if a port was not opened, nothing was given to the output
pub unopened_waits : (input output : List ℕ) (old mid : Meaning) (r : Refusal) → OpensAll input output old mid (Err r) → mid.pending ≡ old.pending
unopened_waits input output old mid ReadFault o = ap (λ (x : Meaning). x.pending) o
unopened_waits input output old mid WriteFault o = ap (λ (x : Meaning). x.pending) o
unopened_waits input output old mid (NotSync stream n) o = absurd o
unopened_waits input output old mid (Limit n) o = absurd o
unopened_waits input output old mid Usage o = absurd o
unopened_waits input output old mid (Cells reason) o = absurd o
unopened_waits input output old mid (Settings reason) o = absurd o
unopened_waits input output old mid Memory o = absurd o

module _ (coded ended : List (List ℕ) → List ℕ) (limit : ℕ) (input output : List ℕ) (old mid : Meaning) (opened : OpensAll input output old mid (Ok tt)) where
  tells : mid.tells ≡ old.tells
  tells = ap (λ (x : Meaning). x.tells) opened

  -- a run whose output was closed after this
  shut_with : (r : Refusal) (fin new : Meaning) → fin.report ≡ old.report → fin.bytes_out.created ≡ true
      → (old.tells ≡ true → CodesWhole coded ended limit (old.file input) [] fin.hp.left fin.bytes_out.written (Err r)) → ClosesOutput fin new → Ran coded ended limit input old new (Err r)
  shut_with r fin new report created work closes = cases r (λ t. subst (λ (x : Meaning). CodesWhole coded ended limit (old.file input) [] x.hp.left x.bytes_out.written (Err r)) (sym closes.closed) (work t))
    where
      report' : new.report ≡ old.report
      report' = ap (λ (x : Meaning). x.report) closes.closed ∙ report

      created' : new.bytes_out.created ≡ true
      created' = ap (λ (x : Meaning). x.bytes_out.created) closes.closed ∙ created

      cases : (r : Refusal) → (old.tells ≡ true → CodesWhole coded ended limit (old.file input) [] new.hp.left new.bytes_out.written (Err r)) → Ran coded ended limit input old new (Err r)
      cases Usage d = (report', created', d)
      cases (Cells reason) d = (report', created', d)
      cases (Settings reason) d = (report', created', d)
      cases ReadFault d = (report', (λ t is. d t))
      cases WriteFault d = ((λ t is. d t), (λ t. inl (ap (λ (x : Sink). x.written) report')))
      cases (NotSync stream n) d = (report', created', d)
      cases Memory d = (report', created', d)
      cases (Limit n) d = (report', created', d)

  -- a refusal that became a write fault when the output was flushed
  lost : (r : Refusal) (left after : List ℕ) → CodesWhole coded ended limit (old.file input) [] left after (Err r) → CodesWhole coded ended limit (old.file input) [] left after (Err WriteFault)
  lost Usage left after d = inl (Usage, d)
  lost (Cells reason) left after d = inl (Cells reason, d)
  lost (Settings reason) left after d = inl (Settings reason, d)
  lost ReadFault left after d = inl (ReadFault, d)
  lost WriteFault left after d = d
  lost (NotSync stream n) left after d = inl (NotSync stream n, d)
  lost Memory left after d = inl (Memory, d)
  lost (Limit n) left after d = inl (Limit n, d)

  -- a run refused in the work, whose output was then flushed and closed
  refused_with : (r r' : Refusal) (fin new : Meaning) → fin.report ≡ old.report → fin.bytes_out.created ≡ true
      → (old.tells ≡ true → CodesWhole coded ended limit (old.file input) [] fin.hp.left fin.bytes_out.written (Err r)) → ClosesRefused r fin new r' → Ran coded ended limit input old new (Err r')
  refused_with r r' fin new report created work closes = by closes.settles
    where
      report' : closes.flushed.report ≡ old.report
      report' = ap (λ (x : Meaning). x.report) closes.flushes ∙ report

      created' : closes.flushed.bytes_out.created ≡ true
      created' = ap (λ (x : Meaning). x.bytes_out.created) closes.flushes ∙ created

      work' : old.tells ≡ true → CodesWhole coded ended limit (old.file input) [] closes.flushed.hp.left closes.flushed.bytes_out.written (Err r)
      work' t = subst (λ (x : Meaning). CodesWhole coded ended limit (old.file input) [] x.hp.left x.bytes_out.written (Err r)) (sym closes.flushes) (work t)

      by : Settles r fin closes.flushed r' → Ran coded ended limit input old new (Err r')
      by (inl same) = subst (λ (x : Refusal). Ran coded ended limit input old new (Err x)) (sym same.0) (shut_with r closes.flushed new report' created' work' closes.closes)
      by (inr failed) = subst (λ (x : Refusal). Ran coded ended limit input old new (Err x)) (sym failed.0)
          (shut_with WriteFault closes.flushed new report' created' (λ t. lost r closes.flushed.hp.left closes.flushed.bytes_out.written (work' t)) closes.closes)

  -- the packets were refused, or could not be read or written
  pub refused_work : (r r' : Refusal) (fin new : Meaning) → KeepsOthers mid fin
      → (mid.tells ≡ true → Codes coded limit mid.hp.left mid.bytes_out.written fin.hp.left fin.bytes_out.written (Err r)) → ClosesRefused r fin new r' → Ran coded ended limit input old new (Err r')
  refused_work r r' fin new keeps work closes =
      refused_with r r' fin new
      (ap (λ (x : Meaning). x.report) keeps ∙ ap (λ (x : Meaning). x.report) opened)
      (ap (λ (x : Meaning). x.bytes_out.created) keeps ∙ ap (λ (x : Meaning). x.bytes_out.created) opened)
      (λ t. whole r (from_opened input output old mid opened (λ i b. Codes coded limit i b fin.hp.left fin.bytes_out.written (Err r)) (work (tells ∙ t))))
      closes
    where
      whole : (r : Refusal) → Codes coded limit (old.file input) [] fin.hp.left fin.bytes_out.written (Err r) → CodesWhole coded ended limit (old.file input) [] fin.hp.left fin.bytes_out.written (Err r)
      whole Usage d = d
      whole (Cells reason) d = d
      whole (Settings reason) d = d
      whole ReadFault d = d
      whole WriteFault d = inl (WriteFault, d)
      whole (NotSync stream n) d = d
      whole Memory d = d
      whole (Limit n) d = d

  module _ (done : Meaning) (counts : Counts) (keeps : KeepsOthers mid done)
      (work : mid.tells ≡ true → Codes coded limit mid.hp.left mid.bytes_out.written done.hp.left done.bytes_out.written (Ok counts))
      (piece : List ℕ) (gives : mid.tells ≡ true → ended (first_packets counts.packets mid.hp.left) ≡ coded (first_packets counts.packets mid.hp.left) ++ piece) where
    contents : old.tells ≡ true → Codes coded limit (old.file input) [] done.hp.left done.bytes_out.written (Ok counts)
    contents t = from_opened input output old mid opened (λ i b. Codes coded limit i b done.hp.left done.bytes_out.written (Ok counts)) (work (tells ∙ t))

    -- the output for all packets, and the piece after it
    in_all : old.tells ≡ true → ended (first_packets (whole_packets (old.file input)) (old.file input)) ≡ coded (first_packets (whole_packets (old.file input)) (old.file input)) ++ piece
    in_all t =
        let Gives : List ℕ → Type 0 = λ ps. ended (first_packets counts.packets ps) ≡ coded (first_packets counts.packets ps) ++ piece in
        let here : Gives (old.file input) = subst Gives (ap (λ (x : Meaning). x.hp.left) opened) (gives (tells ∙ t)) in
        let all : counts.packets ≡ whole_packets (old.file input) = ap (λ (c : Counts). c.packets) (contents t).0 in
        subst (λ (n : ℕ). ended (first_packets n (old.file input)) ≡ coded (first_packets n (old.file input)) ++ piece) all here

    -- the end was not written
    pub refused_end : (r r' : Refusal) (fin new : Meaning) → KeepsOthers done fin
        → (done.tells ≡ true → EndsCoding piece done.hp.left done.bytes_out.written fin.hp.left fin.bytes_out.written (Err r)) → ClosesRefused r fin new r' → Ran coded ended limit input old new (Err r')
    refused_end r r' fin new keeps' end closes =
        refused_with r r' fin new
        (ap (λ (x : Meaning). x.report) keeps' ∙ ap (λ (x : Meaning). x.report) keeps ∙ ap (λ (x : Meaning). x.report) opened)
        (ap (λ (x : Meaning). x.bytes_out.created) keeps' ∙ ap (λ (x : Meaning). x.bytes_out.created) keeps ∙ ap (λ (x : Meaning). x.bytes_out.created) opened)
        (λ t. by r t (end (ap (λ (x : Meaning). x.tells) keeps ∙ tells ∙ t)))
        closes
      where
        by : (r : Refusal) → old.tells ≡ true → EndsCoding piece done.hp.left done.bytes_out.written fin.hp.left fin.bytes_out.written (Err r) → CodesWhole coded ended limit (old.file input) [] fin.hp.left fin.bytes_out.written (Err r)
        by Usage t e = absurd e
        by (Cells reason) t e = absurd e
        by (Settings reason) t e = absurd e
        by ReadFault t e = absurd e
        by WriteFault t e =
            let c = contents t in
            let few = coded (first_packets (whole_packets (old.file input)) (old.file input)) in
            inr (
              c.1,
              e.1 ∙ c.2,
              (
                length few + e.0,
                e.2 ∙ ap (λ (l : List ℕ). l ++ take e.0 piece) c.3
                    ∙ sym (take-append-add few piece e.0) ∙ ap (take (length few + e.0)) (sym (in_all t)),
              ),
            )
        by (NotSync stream n) t e = absurd e
        by Memory t e = absurd e
        by (Limit n) t e = absurd e

    -- the end was written; the closing line was written, or was not
    pub finished : (fin new : Meaning) (r : Result Counts Refusal) → KeepsOthers done fin
        → (done.tells ≡ true → EndsCoding piece done.hp.left done.bytes_out.written fin.hp.left fin.bytes_out.written (Ok tt)) → Finishes counts fin new r → Ran coded ended limit input old new r
    finished fin new r keeps' end = by r
      where
        tells' : fin.tells ≡ old.tells
        tells' = ap (λ (x : Meaning). x.tells) keeps' ∙ ap (λ (x : Meaning). x.tells) keeps ∙ tells

        same_report : fin.report.written ≡ old.report.written
        same_report = ap (λ (x : Meaning). x.report.written) keeps' ∙ ap (λ (x : Meaning). x.report.written) keeps ∙ ap (λ (x : Meaning). x.report.written) opened

        written : old.tells ≡ true → fin.bytes_out.written ≡ ended (first_packets (whole_packets (old.file input)) (old.file input))
        written t =
            let c = contents t in
            let e = end (ap (λ (x : Meaning). x.tells) keeps ∙ tells ∙ t) in
            e.1 ∙ ap (λ (l : List ℕ). l ++ piece) c.3 ∙ sym (in_all t)

        left : old.tells ≡ true → fin.hp.left ≡ []
        left t = (end (ap (λ (x : Meaning). x.tells) keeps ∙ tells ∙ t)).0 ∙ (contents t).2

        by : (r : Result Counts Refusal) → Finishes counts fin new r → Ran coded ended limit input old new r
        by (Ok c) f =
            subst (λ (x : Counts). Ran coded ended limit input old new (Ok x)) (sym f.0) (
              record {
                attached = ap (λ (x : Meaning). x.hp.attached) f.1 ∙ ap (λ (x : Meaning). x.hp.attached) keeps' ∙ ap (λ (x : Meaning). x.hp.attached) keeps ∙ ap (λ (x : Meaning). x.hp.attached) opened;
                created = ap (λ (x : Meaning). x.bytes_out.created) f.1 ∙ ap (λ (x : Meaning). x.bytes_out.created) keeps' ∙ ap (λ (x : Meaning). x.bytes_out.created) keeps ∙ ap (λ (x : Meaning). x.bytes_out.created) opened;
                report = λ t. ap (λ (x : Meaning). x.report.written) f.1
                    ∙ ap (λ (b : Bool). if b then fin.report.written ++ closing_line counts else fin.report.written) (tells' ∙ t)
                    ∙ ap (λ (l : List ℕ). l ++ closing_line counts) same_report;
              },
              (λ t. (
                (contents t).0,
                (contents t).1,
                ap (λ (x : Meaning). x.hp.left) f.1 ∙ left t,
                ap (λ (x : Meaning). x.bytes_out.written) f.1 ∙ written t,
              )),
            )
        by (Err r) f = subst (λ (x : Refusal). Ran coded ended limit input old new (Err x)) (sym f.0) (
          (λ t is.
              let all = ended (first_packets (whole_packets (old.file input)) (old.file input)) in
              let whole : take (length all) all ≡ all = take_all (length all) all (omega arith) in
              inr (
                (contents t).1,
                ap (λ (x : Meaning). x.hp.left) f.3 ∙ left t,
                (length all, ap (λ (x : Meaning). x.bytes_out.written) f.3 ∙ written t ∙ sym whole),
              )),
          (λ t. inr (
            (contents t).1,
            (
              f.2,
              ap (λ (x : Meaning). x.report.written) f.3
                  ∙ ap (λ (b : Bool). if b then fin.report.written ++ take f.2 (closing_line counts) else fin.report.written) (tells' ∙ t)
                  ∙ ap (λ (l : List ℕ). l ++ take f.2 (closing_line counts)) same_report
                  ∙ ap (λ (c : Counts). old.report.written ++ take f.2 (closing_line c)) (contents t).0,
            ),
          )),
        )
