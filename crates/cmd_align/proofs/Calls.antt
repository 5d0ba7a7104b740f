-- The output of a call of the work, and what it wrote.
use Rattle.std.proofs.Common.{◌≡◌, ℕ, ◌+◌, Bool, true, List, [], ◌++◌, length, take, Result, Ok, Err, if◌then◌else◌, refl, ◌∙◌, sym, ap, subst, append_assoc}
use Rattle.std.proofs.Math.Seq.{take-append-add}
use Rattle.std.proofs.lemmas.List.{append-nil}
use Rattle.station_core.specs.Meaning.{Meaning, sink_at}
use Rattle.station_core.specs.declared.ports.OutPort.{OutPort}
use Rattle.station_core.specs.declared.ports.OutPort.TheVariants as outs
use Rattle.cmd_base.specs.declared.refusal.Refusal.{Refusal}
use Rattle.cmd_cells.specs.declared.run_error.RunError.{RunError}
use Rattle.cmd_cells.specs.declared.run_error.RunError.TheVariants.{ReadFault, WriteFault, Limit}
use Rattle.cmd_cells.specs.declared.run_error.RunError.TheVariants as stops
use Rattle.cmd_cells.specs.Outputs.{IsWriting}
use Rattle.cmd_cells.specs.Work.{Does, Follows, Holds, HoldsFront, WritesOnly, Written}
use Rattle.cmd_cells.specs.Writing.{WritesAt}
use Rattle.cmd_cells.proofs.Fronts.{front_of, none_of}
use Rattle.cmd_convert.specs.Working.{written_at}
use Rattle.cmd_align.specs.Working.{Appends, ReportOnly}

-- the same output stated differently
pub does_as : (S S' I I' : Written → Type 0) (Its Its' : Refusal → Type 0) (before : Written) (m m' : Meaning) (result : Result (Unit {0}) RunError)
    → ((after : Written) → S after → I after → S' after) → ((after : Written) → I after → I' after) → ((r : Refusal) → Its r → Its' r)
    → Does S I Its before m m' result → Does S' I' Its' before m m' result
does_as S S' I I' Its Its' before m m' (Ok u) stands gives its d = record { after = d.after; more = d.more; is = (stands d.after d.is.0 d.is.1, gives d.after d.is.1); follows = d.follows; written = d.written }
does_as S S' I I' Its Its' before m m' (Err WriteFault) stands gives its d = record { after = d.after; more = d.more; is = gives d.after d.is; follows = d.follows; written = d.written }
does_as S S' I I' Its Its' before m m' (Err (stops.Work r)) stands gives its d = (its r d.0, d.1)
does_as S S' I I' Its Its' before m m' (Err ReadFault) stands gives its d = absurd d
does_as S S' I I' Its Its' before m m' (Err Limit) stands gives its d = absurd d

-- nothing was given, and nothing written
pub does_nothing : (S I : Written → Type 0) (Its : Refusal → Type 0) (before : Written) (m : Meaning) → S before → I before → Does S I Its before m m (Ok tt)
does_nothing S I Its before m stands gives = record {
  after = before;
  more = λ port. [];
  is = (stands, gives);
  follows = λ port. sym (append-nil (before port));
  written = λ t port. sym (append-nil (sink_at port m).written);
}

-- more cells and more lines after the earlier ones
pub follow : (cells more_cells lines more_lines cells' lines' : List ℕ) (before : Written) → ((port : OutPort) → before port ≡ written_at cells lines port) → cells' ≡ cells ++ more_cells → lines' ≡ lines ++ more_lines
    → Follows before (written_at more_cells more_lines) (written_at cells' lines')
follow cells more_cells lines more_lines cells' lines' before gives is_cells is_lines port = go port ∙ ap (λ (l : List ℕ). l ++ written_at more_cells more_lines port) (sym (gives port))
  where
    go : (port : OutPort) → written_at cells' lines' port ≡ written_at cells lines port ++ written_at more_cells more_lines port
    go outs.Cells = is_cells
    go outs.Hp = refl
    go outs.Lp = refl
    go outs.Bytes = refl
    go outs.Report = is_lines

-- lines were written, or a prefix of them
module _ (m m' : Meaning) (lines : List ℕ) (only : ReportOnly m m') where
  told_all : m'.report.written ≡ m.report.written ++ lines → Holds m m' (written_at [] lines)
  told_all is outs.Cells = ap (λ (x : Meaning). x.cells_out.written) only ∙ sym (append-nil m.cells_out.written)
  told_all is outs.Hp = ap (λ (x : Meaning). x.hp_out.written) only ∙ sym (append-nil m.hp_out.written)
  told_all is outs.Lp = ap (λ (x : Meaning). x.lp_out.written) only ∙ sym (append-nil m.lp_out.written)
  told_all is outs.Bytes = ap (λ (x : Meaning). x.bytes_out.written) only ∙ sym (append-nil m.bytes_out.written)
  told_all is outs.Report = is

  told_front : (k : ℕ) → m'.report.written ≡ m.report.written ++ take k lines → HoldsFront m m' (written_at [] lines)
  told_front k is outs.Cells = none_of m.cells_out.written [] m'.cells_out.written (ap (λ (x : Meaning). x.cells_out.written) only)
  told_front k is outs.Hp = none_of m.hp_out.written [] m'.hp_out.written (ap (λ (x : Meaning). x.hp_out.written) only)
  told_front k is outs.Lp = none_of m.lp_out.written [] m'.lp_out.written (ap (λ (x : Meaning). x.lp_out.written) only)
  told_front k is outs.Bytes = none_of m.bytes_out.written [] m'.bytes_out.written (ap (λ (x : Meaning). x.bytes_out.written) only)
  told_front k is outs.Report = (k, is)

pub told : (S I : Written → Type 0) (Its : Refusal → Type 0) (before after : Written) (m m' : Meaning) (lines : List ℕ) (result : Result (Unit {0}) RunError) → S after → I after → ReportOnly m m' → Follows before (written_at [] lines) after
    → IsWriting result → (m.tells ≡ true → Appends lines m.report.written m'.report.written result) → Does S I Its before m m' result
told S I Its before after m m' lines (Ok u) stands gives only follows kind is = record { after = after; more = written_at [] lines; is = (stands, gives); follows = follows; written = λ t. told_all m m' lines only (is t) }
told S I Its before after m m' lines (Err r) stands gives only follows kind is =
    subst (λ (stop : RunError). Does S I Its before m m' (Err stop)) (sym kind)
    (record { after = after; more = written_at [] lines; is = gives; follows = follows; written = λ t. let a = is t in told_front m m' lines only a.1 a.2 })

-- only Report was written
pub report_only : (m m' : Meaning) → ReportOnly m m' → WritesOnly m m'
report_only m m' p = go m'.report.written m'.write_faults m'.report_faults p
  where
    go : (l : List ℕ) (n k : ℕ) → m' ≡ record m { report = record m.report { written = l }; write_faults = n; report_faults = k } → WritesOnly m m'
    go l n k p = subst (λ (x : Meaning). WritesOnly m x) (sym p) refl

-- the content, if contents are known or not
abbrev at_told : Bool → List ℕ → List ℕ → List ℕ
at_told tells before bytes = if tells then before ++ bytes else before

pub at_report_only : (m m' : Meaning) (bytes : List ℕ) (r : Result (Unit {0}) RunError) → WritesAt outs.Report bytes m m' r → ReportOnly m m'
at_report_only m m' bytes (Ok u) w = subst (λ (x : Meaning). ReportOnly m x) (sym w) refl
at_report_only m m' bytes (Err r) w = go (at_told m.tells m.report.written (take w.1 bytes)) m'.write_faults m'.report_faults w.2
  where
    go : (l : List ℕ) (n k : ℕ) → m' ≡ record m { report = record m.report { written = l }; write_faults = n; report_faults = k } → ReportOnly m m'
    go l n k p = subst (λ (x : Meaning). ReportOnly m x) (sym p) refl

pub report_appends : (bytes : List ℕ) (m m' : Meaning) (r : Result (Unit {0}) RunError) → m.tells ≡ true → WritesAt outs.Report bytes m m' r → Appends bytes m.report.written m'.report.written r
report_appends bytes m m' (Ok u) t w = ap (λ (x : Meaning). x.report.written) w ∙ ap (λ (b : Bool). at_told b m.report.written bytes) t
report_appends bytes m m' (Err r) t w = (w.0, w.1, ap (λ (x : Meaning). x.report.written) w.2 ∙ ap (λ (b : Bool). at_told b m.report.written (take w.1 bytes)) t)

-- a prefix of the first line is a prefix of both
pub first_front : (a b before after : List ℕ) (stop : RunError) → Appends a before after (Err stop) → Appends (a ++ b) before after (Err stop)
first_front a b before after stop w = let f = front_of a b w.1 in (w.0, f.0, w.2 ∙ ap (λ (l : List ℕ). before ++ l) f.1)

-- and so is the first line with a prefix of the second
pub both_lines : (a b before mid after : List ℕ) (result : Result (Unit {0}) RunError) → mid ≡ before ++ a → Appends b mid after result → Appends (a ++ b) before after result
both_lines a b before mid after (Ok u) is w = w ∙ ap (λ (l : List ℕ). l ++ b) is ∙ append_assoc before a b
both_lines a b before mid after (Err r) is w = (
  w.0,
  length a + w.1,
  w.2 ∙ ap (λ (l : List ℕ). l ++ take w.1 b) is ∙ append_assoc before a (take w.1 b) ∙ ap (λ (l : List ℕ). before ++ l) (sym (take-append-add a b w.1)),
)

pub report_again : (a b c : Meaning) → ReportOnly a b → ReportOnly b c → ReportOnly a c
report_again a b c p q = q ∙ ap (λ (x : Meaning). record x { report = record x.report { written = c.report.written }; write_faults = c.write_faults; report_faults = c.report_faults }) p
