-- The lines printed by the work's calls.
use Rattle.std.proofs.Common.{◌≡◌, ℕ, zero, suc, ◌+◌, ◌<◌, List, [], ◌∷◌, ◌++◌, length, get_or, take, true, refl, ◌∙◌, sym, ap, subst, arith, append_assoc, Result, Ok, Err}
use Rattle.std.specs.List.{concat}
use Rattle.std.proofs.lemmas.List.{append-nil}
use Rattle.std.proofs.Math.Seq.{take-append-add}
use Rattle.arrayvec.specs.ArrayString.{ArrayString}
use Rattle.station_core.specs.Meaning.{Meaning}
use Rattle.station_core.specs.declared.ports.OutPort.{OutPort}
use Rattle.station_core.specs.declared.ports.OutPort.TheVariants as outs
use Rattle.cmd_base.specs.declared.refusal.Refusal.{Refusal}
use Rattle.cmd_cells.specs.declared.run_error.RunError.{RunError}
use Rattle.cmd_cells.specs.Outputs.{IsWriting}
use Rattle.cmd_cells.specs.Work.{Does, Follows, Holds, HoldsFront, WritesOnly, Written}
use Rattle.cmd_cells.proofs.Fronts.{front_of, none_of}
use Rattle.cmd_receive.specs.Writing.{Appends, ReportOnly}
use Rattle.cmd_measure.specs.Working.{printed, texts}

-- only Report was written
pub report_only : (m m' : Meaning) → ReportOnly m m' → WritesOnly m m'
report_only m m' p = go m'.report.written m'.write_faults m'.report_faults p
  where
    go : (l : List ℕ) (n k : ℕ) → m' ≡ record m { report = record m.report { written = l }; write_faults = n; report_faults = k } → WritesOnly m m'
    go l n k p = subst (λ (x : Meaning). WritesOnly m x) (sym p) refl

-- lines were appended, or a prefix of them
module _ (m m' : Meaning) (lines : List ℕ) (only : ReportOnly m m') where
  told_all : m'.report.written ≡ m.report.written ++ lines → Holds m m' (printed lines)
  told_all is outs.Cells = ap (λ (x : Meaning). x.cells_out.written) only ∙ sym (append-nil m.cells_out.written)
  told_all is outs.Hp = ap (λ (x : Meaning). x.hp_out.written) only ∙ sym (append-nil m.hp_out.written)
  told_all is outs.Lp = ap (λ (x : Meaning). x.lp_out.written) only ∙ sym (append-nil m.lp_out.written)
  told_all is outs.Bytes = ap (λ (x : Meaning). x.bytes_out.written) only ∙ sym (append-nil m.bytes_out.written)
  told_all is outs.Report = is

  told_front : (k : ℕ) → m'.report.written ≡ m.report.written ++ take k lines → HoldsFront m m' (printed lines)
  told_front k is outs.Cells = none_of m.cells_out.written [] m'.cells_out.written (ap (λ (x : Meaning). x.cells_out.written) only)
  told_front k is outs.Hp = none_of m.hp_out.written [] m'.hp_out.written (ap (λ (x : Meaning). x.hp_out.written) only)
  told_front k is outs.Lp = none_of m.lp_out.written [] m'.lp_out.written (ap (λ (x : Meaning). x.lp_out.written) only)
  told_front k is outs.Bytes = none_of m.bytes_out.written [] m'.bytes_out.written (ap (λ (x : Meaning). x.bytes_out.written) only)
  told_front k is outs.Report = (k, is)

-- more lines after the earlier ones
pub follows : (given more : List ℕ) (before : Written) → ((port : OutPort) → before port ≡ printed given port) → Follows before (printed more) (printed (given ++ more))
follows given more before is port = go port ∙ ap (λ (l : List ℕ). l ++ printed more port) (sym (is port))
  where
    go : (port : OutPort) → printed (given ++ more) port ≡ printed given port ++ printed more port
    go outs.Cells = refl
    go outs.Hp = refl
    go outs.Lp = refl
    go outs.Bytes = refl
    go outs.Report = refl

-- a call printed these lines
pub prints : (S I : Written → Type 0) (Its : Refusal → Type 0) (given more : List ℕ) (before : Written) (m m' : Meaning) (result : Result (Unit {0}) RunError) → ((port : OutPort) → before port ≡ printed given port)
    → S (printed (given ++ more)) → I (printed (given ++ more)) → ReportOnly m m' → IsWriting result → (m.tells ≡ true → Appends more m.report.written m'.report.written result) → Does S I Its before m m' result
prints S I Its given more before m m' (Ok u) was stands gives only kind is = record { after = printed (given ++ more); more = printed more; is = (stands, gives); follows = follows given more before was; written = λ t. told_all m m' more only (is t) }
prints S I Its given more before m m' (Err r) was stands gives only kind is =
    subst (λ (stop : RunError). Does S I Its before m m' (Err stop)) (sym kind)
    (record { after = printed (given ++ more); more = printed more; is = gives; follows = follows given more before was; written = λ t. let a = is t in told_front m m' more only a.1 a.2 })

-- ---- lines in order

-- the lines before one, and that line
line_next : (lines : List ArrayString) (n : ℕ) (d : ArrayString) (x : List ℕ) → n < length lines → x ≡ (get_or lines n d).bytes → concat (texts (take (suc n) lines)) ≡ concat (texts (take n lines)) ++ x
line_next [] n d x l e = absurd (omega (arith, l))
line_next (y ∷ ys) zero d x l e = append-nil y.bytes ∙ sym e
line_next (y ∷ ys) (suc n) d x l e = ap (λ (z : List ℕ). y.bytes ++ z) (line_next ys n d x (omega (arith, l)) e) ∙ sym (append_assoc y.bytes (concat (texts (take n ys))) x)

pub line_more : (lines : List ArrayString) (n : ℕ) (d : ArrayString) (x : List ℕ) → n < length lines → x ≡ (get_or lines n d).bytes → concat (texts (take (n + 1) lines)) ≡ concat (texts (take n lines)) ++ x
line_more lines n d x l e = let one : n + 1 ≡ suc n = omega arith in ap (λ (k : ℕ). concat (texts (take k lines))) one ∙ line_next lines n d x l e

-- no lines print nothing
pub nothing_printed : (port : OutPort) → printed [] port ≡ []
nothing_printed outs.Cells = refl
nothing_printed outs.Hp = refl
nothing_printed outs.Lp = refl
nothing_printed outs.Bytes = refl
nothing_printed outs.Report = refl

-- the lines before one are a prefix of all
pub lines_begin : (lines : List ArrayString) (n : ℕ) → (rest : List ℕ) × (concat (texts lines) ≡ concat (texts (take n lines)) ++ rest)
lines_begin [] zero = ([], refl)
lines_begin [] (suc n) = ([], refl)
lines_begin (y ∷ ys) zero = (concat (texts (y ∷ ys)), refl)
lines_begin (y ∷ ys) (suc n) =
    let r = lines_begin ys n in
    (r.0, ap (λ (l : List ℕ). y.bytes ++ l) r.1 ∙ sym (append_assoc y.bytes (concat (texts (take n ys))) r.0))

-- the lines before one, and a prefix of it, are a prefix of all
pub line_front : (lines : List ArrayString) (n : ℕ) (d : ArrayString) (x before after : List ℕ) (k : ℕ) → n < length lines → x ≡ (get_or lines n d).bytes → after ≡ (before ++ concat (texts (take n lines))) ++ take k x
    → (j : ℕ) × (after ≡ before ++ take j (concat (texts lines)))
line_front lines n d x before after k l e p =
    let first : List ℕ = concat (texts (take n lines)) in
    let r = lines_begin lines (n + 1) in
    let f = front_of x r.0 k in
    let all : concat (texts lines) ≡ first ++ (x ++ r.0) = r.1 ∙ ap (λ (z : List ℕ). z ++ r.0) (line_more lines n d x l e) ∙ append_assoc first x r.0 in (
      length first + f.0,
      p ∙ append_assoc before first (take k x) ∙ ap (λ (z : List ℕ). before ++ (first ++ z)) f.1
          ∙ ap (λ (z : List ℕ). before ++ z) (sym (take-append-add first (x ++ r.0) f.0) ∙ ap (λ (z : List ℕ). take (length first + f.0) z) (sym all)),
    )
