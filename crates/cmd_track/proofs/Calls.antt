-- The output of a call of the work, and what it wrote.
use Rattle.std.proofs.Common.{◌≡◌, ℕ, Bool, true, List, [], ◌++◌, take, Result, Ok, Err, if◌then◌else◌, refl, ◌∙◌, sym, ap, subst}
use Rattle.std.proofs.lemmas.List.{append-nil}
use Rattle.station_core.specs.Meaning.{Meaning}
use Rattle.station_core.specs.declared.ports.OutPort.{OutPort}
use Rattle.station_core.specs.declared.ports.OutPort.TheVariants as outs
use Rattle.cmd_base.specs.declared.refusal.Refusal.{Refusal}
use Rattle.cmd_cells.specs.declared.run_error.RunError.{RunError}
use Rattle.cmd_cells.specs.declared.run_error.RunError.TheVariants.{WriteFault}
use Rattle.cmd_cells.specs.Work.{Does, Follows, Holds, HoldsFront, Written}
use Rattle.cmd_cells.specs.Writing.{WritesAt}
use Rattle.cmd_cells.proofs.Fronts.{all_of, none_of}
use Rattle.cmd_convert.specs.Working.{written_at}
use Rattle.cmd_track.specs.Working.{Appends, CellsOnly}

-- more cells and a line after the earlier ones
pub follow : (cells more_cells all_cells line : List ℕ) (before : Written) → ((port : OutPort) → before port ≡ written_at cells [] port) → all_cells ≡ cells ++ more_cells
    → Follows before (written_at more_cells line) (written_at all_cells line)
follow cells more_cells all_cells line before gives is port = go port ∙ ap (λ (l : List ℕ). l ++ written_at more_cells line port) (sym (gives port))
  where
    go : (port : OutPort) → written_at all_cells line port ≡ written_at cells [] port ++ written_at more_cells line port
    go outs.Cells = is
    go outs.Hp = refl
    go outs.Lp = refl
    go outs.Bytes = refl
    go outs.Report = refl

-- the content, if contents are known or not
abbrev pub told : Bool → List ℕ → List ℕ → List ℕ
told tells before bytes = if tells then before ++ bytes else before

-- ---- a write to Cells

cells_by : (old new : Meaning) (w : List ℕ) (n : ℕ) (b : Bool) → new ≡ record old { cells_out = record old.cells_out { written = w }; write_faults = n; pending = b } → CellsOnly old new
cells_by old new w n b p = subst (λ (x : Meaning). CellsOnly old x) (sym p) refl

pub at_cells_only : (bytes : List ℕ) (old new : Meaning) (r : Result (Unit {0}) RunError) → WritesAt outs.Cells bytes old new r → CellsOnly old new
at_cells_only bytes old new (Ok u) w = cells_by old new (told old.tells old.cells_out.written bytes) old.write_faults new.pending w
at_cells_only bytes old new (Err r) w = cells_by old new (told old.tells old.cells_out.written (take w.1 bytes)) new.write_faults new.pending w.2

pub cells_append : (bytes : List ℕ) (old new : Meaning) (r : Result (Unit {0}) RunError) → old.tells ≡ true → WritesAt outs.Cells bytes old new r → Appends bytes old.cells_out.written new.cells_out.written r
cells_append bytes old new (Ok u) t w = ap (λ (x : Meaning). x.cells_out.written) w ∙ ap (λ (b : Bool). told b old.cells_out.written bytes) t
cells_append bytes old new (Err r) t w = (w.0, w.1, ap (λ (x : Meaning). x.cells_out.written) w.2 ∙ ap (λ (b : Bool). told b old.cells_out.written (take w.1 bytes)) t)

pub cells_again : (a b c : Meaning) → CellsOnly a b → CellsOnly b c → CellsOnly a c
cells_again a b c p q = q ∙ ap (λ (x : Meaning). record x { cells_out = record x.cells_out { written = c.cells_out.written }; write_faults = c.write_faults; pending = c.pending }) p

-- ---- the remaining symbols, and the closing line
module _ (m m' : Meaning) (cells line : List ℕ) (only : CellsOnly m m') where
  -- a prefix of the symbols was written
  front_held : (k : ℕ) → m'.cells_out.written ≡ m.cells_out.written ++ take k cells → HoldsFront m m' (written_at cells line)
  front_held k is outs.Cells = (k, is)
  front_held k is outs.Hp = none_of m.hp_out.written [] m'.hp_out.written (ap (λ (x : Meaning). x.hp_out.written) only)
  front_held k is outs.Lp = none_of m.lp_out.written [] m'.lp_out.written (ap (λ (x : Meaning). x.lp_out.written) only)
  front_held k is outs.Bytes = none_of m.bytes_out.written [] m'.bytes_out.written (ap (λ (x : Meaning). x.bytes_out.written) only)
  front_held k is outs.Report = none_of m.report.written line m'.report.written (ap (λ (x : Meaning). x.report.written) only)

  -- all symbols were written, and then the line
  module _ (m'' : Meaning) (is : m'.cells_out.written ≡ m.cells_out.written ++ cells) (t : m.tells ≡ true) where
    tells : m'.tells ≡ true
    tells = ap (λ (x : Meaning). x.tells) only ∙ t

    same_report : m'.report.written ≡ m.report.written
    same_report = ap (λ (x : Meaning). x.report.written) only

    all_held : WritesAt outs.Report line m' m'' (Ok tt) → Holds m m'' (written_at cells line)
    all_held w outs.Cells = ap (λ (x : Meaning). x.cells_out.written) w ∙ is
    all_held w outs.Hp = ap (λ (x : Meaning). x.hp_out.written) w ∙ ap (λ (x : Meaning). x.hp_out.written) only ∙ sym (append-nil m.hp_out.written)
    all_held w outs.Lp = ap (λ (x : Meaning). x.lp_out.written) w ∙ ap (λ (x : Meaning). x.lp_out.written) only ∙ sym (append-nil m.lp_out.written)
    all_held w outs.Bytes = ap (λ (x : Meaning). x.bytes_out.written) w ∙ ap (λ (x : Meaning). x.bytes_out.written) only ∙ sym (append-nil m.bytes_out.written)
    all_held w outs.Report = ap (λ (x : Meaning). x.report.written) w ∙ ap (λ (b : Bool). told b m'.report.written line) tells ∙ ap (λ (l : List ℕ). l ++ line) same_report

    line_front : (r : RunError) → WritesAt outs.Report line m' m'' (Err r) → HoldsFront m m'' (written_at cells line)
    line_front r w outs.Cells = all_of m.cells_out.written cells m''.cells_out.written (ap (λ (x : Meaning). x.cells_out.written) w.2 ∙ is)
    line_front r w outs.Hp = none_of m.hp_out.written [] m''.hp_out.written (ap (λ (x : Meaning). x.hp_out.written) w.2 ∙ ap (λ (x : Meaning). x.hp_out.written) only)
    line_front r w outs.Lp = none_of m.lp_out.written [] m''.lp_out.written (ap (λ (x : Meaning). x.lp_out.written) w.2 ∙ ap (λ (x : Meaning). x.lp_out.written) only)
    line_front r w outs.Bytes = none_of m.bytes_out.written [] m''.bytes_out.written (ap (λ (x : Meaning). x.bytes_out.written) w.2 ∙ ap (λ (x : Meaning). x.bytes_out.written) only)
    line_front r w outs.Report = (w.1, ap (λ (x : Meaning). x.report.written) w.2 ∙ ap (λ (b : Bool). told b m'.report.written (take w.1 line)) tells ∙ ap (λ (l : List ℕ). l ++ take w.1 line) same_report)

module _ (Stands Is : Written → Type 0) (Its : Refusal → Type 0) (before after : Written) (is : Is after) (cells line : List ℕ) (follows : Follows before (written_at cells line) after) where
  -- a symbol could not be written
  pub stopped : (m m' : Meaning) (stop : RunError) → CellsOnly m m' → stop ≡ WriteFault → (m.tells ≡ true → Appends cells m.cells_out.written m'.cells_out.written (Err stop)) → Does Stands Is Its before m m' (Err stop)
  stopped m m' stop only kind written = subst (λ (r : RunError). Does Stands Is Its before m m' (Err r)) (sym kind)
      (record { after = after; more = written_at cells line; is = is; follows = follows; written = λ t. let w = written t in front_held m m' cells line only w.1 w.2 })

  -- the line was written, or could not be
  pub ended : (stands : Stands after) (m m' m'' : Meaning) → CellsOnly m m' → (m.tells ≡ true → m'.cells_out.written ≡ m.cells_out.written ++ cells) → (result : Result (Unit {0}) RunError) → WritesAt outs.Report line m' m'' result → Does Stands Is Its before m m'' result
  ended stands m m' m'' only written (Ok u) w = record { after = after; more = written_at cells line; is = (stands, is); follows = follows; written = λ t. all_held m m' cells line only m'' (written t) t w }
  ended stands m m' m'' only written (Err r) w = subst (λ (stop : RunError). Does Stands Is Its before m m'' (Err stop)) (sym w.0)
      (record { after = after; more = written_at cells line; is = is; follows = follows; written = λ t. line_front m m' cells line only m'' (written t) t r w })
