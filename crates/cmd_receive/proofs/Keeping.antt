-- How the meaning of a station changes from call to call of a reception.
use Rattle.std.proofs.Common.{◌≡◌, true, false, Bool, ℕ, List, ◌++◌, if◌then◌else◌, take, refl, ◌∙◌, sym, ap, subst, append_assoc, Result, Ok, Err}
use Rattle.station_core.specs.Meaning.{Meaning}
use Rattle.station_core.specs.declared.ports.OutPort.TheVariants as outs
use Rattle.cmd_cells.specs.declared.run_error.RunError.{RunError}
use Rattle.cmd_cells.specs.Writing.{WritesAt}
use Rattle.cmd_receive.specs.Writing.{Appends, IsPrinting, ReportOnly, WritesLp, WritesOnly}

-- the content, if contents are known or not
abbrev pub told : Bool → List ℕ → List ℕ → List ℕ
told tells before bytes = if tells then before ++ bytes else before

at_hp : (old new : Meaning) (w : List ℕ) (n : ℕ) (b : Bool) → new ≡ record old { hp_out = record old.hp_out { written = w }; write_faults = n; pending = b } → WritesOnly old new
at_hp old new w n b p = subst (λ (x : Meaning). WritesOnly old x) (sym p) refl

at_lp : (old new : Meaning) (w : List ℕ) (n : ℕ) (b : Bool) → new ≡ record old { lp_out = record old.lp_out { written = w }; write_faults = n; pending = b } → WritesOnly old new
at_lp old new w n b p = subst (λ (x : Meaning). WritesOnly old x) (sym p) refl

at_report : (old new : Meaning) (w : List ℕ) (n k : ℕ) → new ≡ record old { report = record old.report { written = w }; write_faults = n; report_faults = k } → WritesOnly old new
at_report old new w n k p = subst (λ (x : Meaning). WritesOnly old x) (sym p) refl

pub hp_frame : (bytes : List ℕ) (old new : Meaning) (r : Result (Unit {0}) RunError) → WritesAt outs.Hp bytes old new r → WritesOnly old new
hp_frame bytes old new (Ok u) w = at_hp old new (told old.tells old.hp_out.written bytes) old.write_faults new.pending w
hp_frame bytes old new (Err r) w = at_hp old new (told old.tells old.hp_out.written (take w.1 bytes)) new.write_faults new.pending w.2

pub lp_frame : (two : Bool) (bytes : List ℕ) (old new : Meaning) (r : Result (Unit {0}) RunError) → WritesLp two bytes old new r → WritesOnly old new
lp_frame true bytes old new (Ok u) w = at_lp old new (told old.tells old.lp_out.written bytes) old.write_faults new.pending w
lp_frame true bytes old new (Err r) w = at_lp old new (told old.tells old.lp_out.written (take w.1 bytes)) new.write_faults new.pending w.2
lp_frame false bytes old new (Ok u) w = subst (λ (x : Meaning). WritesOnly old x) (sym w) refl
lp_frame false bytes old new (Err r) w = absurd w

pub report_frame : (old new : Meaning) → ReportOnly old new → WritesOnly old new
report_frame old new p = at_report old new new.report.written new.write_faults new.report_faults p

pub writes_again : (a b c : Meaning) → WritesOnly a b → WritesOnly b c → WritesOnly a c
writes_again a b c p q =
    q ∙ ap (λ (x : Meaning). record x {
      hp_out = record x.hp_out { written = c.hp_out.written };
      lp_out = record x.lp_out { written = c.lp_out.written };
      report = record x.report { written = c.report.written };
      write_faults = c.write_faults;
      report_faults = c.report_faults;
      pending = c.pending;
    }) p

pub report_again : (a b c : Meaning) → ReportOnly a b → ReportOnly b c → ReportOnly a c
report_again a b c p q = q ∙ ap (λ (x : Meaning). record x { report = record x.report { written = c.report.written }; write_faults = c.write_faults; report_faults = c.report_faults }) p

-- the content of Report, Hp and Lp after a write
pub hp_appends : (bytes : List ℕ) (old new : Meaning) (r : Result (Unit {0}) RunError) → old.tells ≡ true → WritesAt outs.Hp bytes old new r → Appends bytes old.hp_out.written new.hp_out.written r
hp_appends bytes old new (Ok u) t w = ap (λ (x : Meaning). x.hp_out.written) w ∙ ap (λ (b : Bool). told b old.hp_out.written bytes) t
hp_appends bytes old new (Err r) t w = (w.0, w.1, ap (λ (x : Meaning). x.hp_out.written) w.2 ∙ ap (λ (b : Bool). told b old.hp_out.written (take w.1 bytes)) t)

pub lp_appends : (bytes : List ℕ) (old new : Meaning) (r : Result (Unit {0}) RunError) → old.tells ≡ true → WritesAt outs.Lp bytes old new r → Appends bytes old.lp_out.written new.lp_out.written r
lp_appends bytes old new (Ok u) t w = ap (λ (x : Meaning). x.lp_out.written) w ∙ ap (λ (b : Bool). told b old.lp_out.written bytes) t
lp_appends bytes old new (Err r) t w = (w.0, w.1, ap (λ (x : Meaning). x.lp_out.written) w.2 ∙ ap (λ (b : Bool). told b old.lp_out.written (take w.1 bytes)) t)

pub report_appends : (bytes : List ℕ) (old new : Meaning) (r : Result (Unit {0}) RunError) → old.tells ≡ true → WritesAt outs.Report bytes old new r → Appends bytes old.report.written new.report.written r
report_appends bytes old new (Ok u) t w = ap (λ (x : Meaning). x.report.written) w ∙ ap (λ (b : Bool). told b old.report.written bytes) t
report_appends bytes old new (Err r) t w = (w.0, w.1, ap (λ (x : Meaning). x.report.written) w.2 ∙ ap (λ (b : Bool). told b old.report.written (take w.1 bytes)) t)

-- the content of the others
pub hp_only : (bytes : List ℕ) (old new : Meaning) (r : Result (Unit {0}) RunError) → WritesAt outs.Hp bytes old new r → (new.lp_out.written ≡ old.lp_out.written) × (new.report.written ≡ old.report.written)
hp_only bytes old new (Ok u) w = (ap (λ (x : Meaning). x.lp_out.written) w, ap (λ (x : Meaning). x.report.written) w)
hp_only bytes old new (Err r) w = (ap (λ (x : Meaning). x.lp_out.written) w.2, ap (λ (x : Meaning). x.report.written) w.2)

pub lp_only : (two : Bool) (bytes : List ℕ) (old new : Meaning) (r : Result (Unit {0}) RunError) → WritesLp two bytes old new r → (new.hp_out.written ≡ old.hp_out.written) × (new.report.written ≡ old.report.written)
lp_only true bytes old new (Ok u) w = (ap (λ (x : Meaning). x.hp_out.written) w, ap (λ (x : Meaning). x.report.written) w)
lp_only true bytes old new (Err r) w = (ap (λ (x : Meaning). x.hp_out.written) w.2, ap (λ (x : Meaning). x.report.written) w.2)
lp_only false bytes old new (Ok u) w = (ap (λ (x : Meaning). x.hp_out.written) w, ap (λ (x : Meaning). x.report.written) w)
lp_only false bytes old new (Err r) w = absurd w

pub at_report_only : (old new : Meaning) (bytes : List ℕ) (r : Result (Unit {0}) RunError) → WritesAt outs.Report bytes old new r → ReportOnly old new
at_report_only old new bytes (Ok u) w = subst (λ (x : Meaning). ReportOnly old x) (sym w) refl
at_report_only old new bytes (Err r) w = go (told old.tells old.report.written (take w.1 bytes)) new.write_faults new.report_faults w.2
  where
    go : (l : List ℕ) (n k : ℕ) → new ≡ record old { report = record old.report { written = l }; write_faults = n; report_faults = k } → ReportOnly old new
    go l n k p = subst (λ (x : Meaning). ReportOnly old x) (sym p) refl

-- this text was appended to Report
abbrev pub Printed : Meaning → Meaning → List ℕ → Type 0
Printed m m' text = IsPrinting m' × ReportOnly m m' × (m'.write_faults ≡ m.write_faults) × (m'.report_faults ≡ m.report_faults) × (m.tells ≡ true → m'.report.written ≡ m.report.written ++ text)

pub line_printed : (m m' m'' : Meaning) (text line : List ℕ) → Printed m m' text → WritesAt outs.Report line m' m'' (Ok tt) → Printed m m'' (text ++ line)
line_printed m m' m'' text line p w = (
  record { created = ap (λ (x : Meaning). x.report.created) w ∙ p.0.created; opened = ap (λ (x : Meaning). x.report.closed) w ∙ p.0.opened },
  report_again m m' m'' p.1 (at_report_only m' m'' line (Ok tt) w),
  ap (λ (x : Meaning). x.write_faults) w ∙ p.2,
  ap (λ (x : Meaning). x.report_faults) w ∙ p.3,
  (λ t. report_appends line m' m'' (Ok tt) (ap (λ (x : Meaning). x.tells) p.1 ∙ t) w ∙ ap (λ (l : List ℕ). l ++ line) (p.4 t) ∙ append_assoc m.report.written text line),
)
