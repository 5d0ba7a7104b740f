-- The output of the work's calls, and what they write.
use Rattle.std.proofs.Common.{◌≡◌, ℕ, Bool, true, List, [], ◌++◌, take, refl, ◌∙◌, sym, ap, subst, if◌then◌else◌, Result, Ok, Err}
use Rattle.std.proofs.lemmas.List.{append-nil}
use Rattle.station_core.specs.Meaning.{Meaning, sink_at}
use Rattle.station_core.specs.declared.ports.OutPort.{OutPort}
use Rattle.station_core.specs.declared.ports.OutPort.TheVariants as outs
use Rattle.cmd_base.specs.declared.refusal.Refusal.{Refusal}
use Rattle.cmd_cells.specs.declared.run_error.RunError.{RunError}
use Rattle.cmd_cells.specs.Work.{Does, Follows, Gave, Holds, HoldsFront, Written, none_written}
use Rattle.cmd_cells.specs.Writing.{WritesAt}
use Rattle.cmd_cells.proofs.Fronts.{none_of}
use Rattle.cmd_convert.specs.Conversion.{Conversion, new_file}
use Rattle.cmd_convert.specs.Working.{FirstGive, written_at}

-- bytes were written at Cells, or a prefix of them
module _ (m m' : Meaning) (bytes : List ℕ) (t : m.tells ≡ true) where
  abbrev told : List ℕ → List ℕ → Bool → List ℕ
  told before more tells = if tells then before ++ more else before

  cells_held : WritesAt outs.Cells bytes m m' (Ok tt) → Holds m m' (written_at bytes [])
  cells_held w outs.Cells = ap (λ (x : Meaning). x.cells_out.written) w ∙ ap (told m.cells_out.written bytes) t
  cells_held w outs.Hp = ap (λ (x : Meaning). x.hp_out.written) w ∙ sym (append-nil m.hp_out.written)
  cells_held w outs.Lp = ap (λ (x : Meaning). x.lp_out.written) w ∙ sym (append-nil m.lp_out.written)
  cells_held w outs.Bytes = ap (λ (x : Meaning). x.bytes_out.written) w ∙ sym (append-nil m.bytes_out.written)
  cells_held w outs.Report = ap (λ (x : Meaning). x.report.written) w ∙ sym (append-nil m.report.written)

  cells_begun : (r : RunError) → WritesAt outs.Cells bytes m m' (Err r) → HoldsFront m m' (written_at bytes [])
  cells_begun r w outs.Cells = (w.1, ap (λ (x : Meaning). x.cells_out.written) w.2 ∙ ap (told m.cells_out.written (take w.1 bytes)) t)
  cells_begun r w outs.Hp = none_of m.hp_out.written [] m'.hp_out.written (ap (λ (x : Meaning). x.hp_out.written) w.2)
  cells_begun r w outs.Lp = none_of m.lp_out.written [] m'.lp_out.written (ap (λ (x : Meaning). x.lp_out.written) w.2)
  cells_begun r w outs.Bytes = none_of m.bytes_out.written [] m'.bytes_out.written (ap (λ (x : Meaning). x.bytes_out.written) w.2)
  cells_begun r w outs.Report = none_of m.report.written [] m'.report.written (ap (λ (x : Meaning). x.report.written) w.2)

  line_held : WritesAt outs.Report bytes m m' (Ok tt) → Holds m m' (written_at [] bytes)
  line_held w outs.Cells = ap (λ (x : Meaning). x.cells_out.written) w ∙ sym (append-nil m.cells_out.written)
  line_held w outs.Hp = ap (λ (x : Meaning). x.hp_out.written) w ∙ sym (append-nil m.hp_out.written)
  line_held w outs.Lp = ap (λ (x : Meaning). x.lp_out.written) w ∙ sym (append-nil m.lp_out.written)
  line_held w outs.Bytes = ap (λ (x : Meaning). x.bytes_out.written) w ∙ sym (append-nil m.bytes_out.written)
  line_held w outs.Report = ap (λ (x : Meaning). x.report.written) w ∙ ap (told m.report.written bytes) t

  line_begun : (r : RunError) → WritesAt outs.Report bytes m m' (Err r) → HoldsFront m m' (written_at [] bytes)
  line_begun r w outs.Cells = none_of m.cells_out.written [] m'.cells_out.written (ap (λ (x : Meaning). x.cells_out.written) w.2)
  line_begun r w outs.Hp = none_of m.hp_out.written [] m'.hp_out.written (ap (λ (x : Meaning). x.hp_out.written) w.2)
  line_begun r w outs.Lp = none_of m.lp_out.written [] m'.lp_out.written (ap (λ (x : Meaning). x.lp_out.written) w.2)
  line_begun r w outs.Bytes = none_of m.bytes_out.written [] m'.bytes_out.written (ap (λ (x : Meaning). x.bytes_out.written) w.2)
  line_begun r w outs.Report = (w.1, ap (λ (x : Meaning). x.report.written) w.2 ∙ ap (told m.report.written (take w.1 bytes)) t)

-- so this is the effect of a call
module _ (Stands Is : Written → Type 0) (Its : Refusal → Type 0) (before after : Written) (stands : Stands after) (is : Is after) (m m' : Meaning) (bytes : List ℕ) where
  pub wrote_cells : Follows before (written_at bytes []) after → (result : Result (Unit {0}) RunError) → WritesAt outs.Cells bytes m m' result → Does Stands Is Its before m m' result
  wrote_cells follows (Ok u) w = record { after = after; more = written_at bytes []; is = (stands, is); follows = follows; written = λ t. cells_held m m' bytes t w }
  wrote_cells follows (Err r) w = subst (λ (stop : RunError). Does Stands Is Its before m m' (Err stop)) (sym w.0)
      (record { after = after; more = written_at bytes []; is = is; follows = follows; written = λ t. cells_begun m m' bytes t r w })

  pub wrote_line : Follows before (written_at [] bytes) after → (result : Result (Unit {0}) RunError) → WritesAt outs.Report bytes m m' result → Does Stands Is Its before m m' result
  wrote_line follows (Ok u) w = record { after = after; more = written_at [] bytes; is = (stands, is); follows = follows; written = λ t. line_held m m' bytes t w }
  wrote_line follows (Err r) w = subst (λ (stop : RunError). Does Stands Is Its before m m' (Err stop)) (sym w.0)
      (record { after = after; more = written_at [] bytes; is = is; follows = follows; written = λ t. line_begun m m' bytes t r w })

-- a call without output writes nothing
pub nothing_wrote : (Is : Written → Type 0) (before after : Written) (m : Meaning) → Is after → ((port : OutPort) → after port ≡ before port) → Gave Is before m m
nothing_wrote Is before after m is same = record {
  after = after;
  more = none_written;
  is = is;
  follows = λ port. same port ∙ sym (append-nil (before port));
  written = λ t port. sym (append-nil (sink_at port m).written);
}

-- ---- outputs that follow more cells after the first ones
pub cells_follow : (c : Conversion) (bytes : List ℕ) (before : Written) (all more : List ℕ) → FirstGive c bytes before → all ≡ new_file c bytes ++ more → Follows before (written_at more []) (written_at all [])
cells_follow c bytes before all more gives is port = go port ∙ ap (λ (l : List ℕ). l ++ written_at more [] port) (sym (gives port))
  where
    go : (port : OutPort) → written_at all [] port ≡ written_at (new_file c bytes) [] port ++ written_at more [] port
    go outs.Cells = is
    go outs.Hp = refl
    go outs.Lp = refl
    go outs.Bytes = refl
    go outs.Report = refl

-- the header with nothing before it
pub header_follows : (all more : List ℕ) (before : Written) → ((port : OutPort) → before port ≡ []) → all ≡ more → Follows before (written_at more []) (written_at all [])
header_follows all more before none is port = go port ∙ ap (λ (l : List ℕ). l ++ written_at more [] port) (sym (none port))
  where
    go : (port : OutPort) → written_at all [] port ≡ written_at more [] port
    go outs.Cells = is
    go outs.Hp = refl
    go outs.Lp = refl
    go outs.Bytes = refl
    go outs.Report = refl

-- the closing line after all cells
pub line_follows : (c : Conversion) (bytes : List ℕ) (before : Written) (line : List ℕ) → FirstGive c bytes before → Follows before (written_at [] line) (written_at (new_file c bytes) line)
line_follows c bytes before line gives port = go port ∙ ap (λ (l : List ℕ). l ++ written_at [] line port) (sym (gives port))
  where
    go : (port : OutPort) → written_at (new_file c bytes) line port ≡ written_at (new_file c bytes) [] port ++ written_at [] line port
    go outs.Cells = sym (append-nil (new_file c bytes))
    go outs.Hp = refl
    go outs.Lp = refl
    go outs.Bytes = refl
    go outs.Report = refl
