-- The line of a place is written; and what the work stands for, before a place and after it.
use Rattle.std.proofs.Common.{◌≡◌, ℕ, Bool, true, List, [], ◌++◌, take, Option, Some, None, Result, Ok, Err, ◌∙◌, sym, ap, subst, if◌then◌else◌}
use Rattle.std.proofs.lemmas.List.{append-nil}
use Rattle.station_core.specs.Meaning.{Meaning}
use Rattle.station_core.specs.declared.ports.OutPort.TheVariants as outs
use Rattle.mode_set.specs.declared.settings.Settings.{Settings}
use Rattle.cmd_cells.specs.declared.run_error.RunError.{RunError}
use Rattle.cmd_cells.specs.Work.{Holds, HoldsFront, Written}
use Rattle.cmd_cells.specs.Writing.{WritesAt}
use Rattle.cmd_cells.proofs.Fronts.{none_of}
use Rattle.tune_in.specs.OfBytes.{HasNoPlace}
use Rattle.tune_in.specs.declared.frame.Found.{Found}
use Rattle.tune_search.specs.Searching.{place_line}
use Rattle.cmd_tune.specs.Tuned.{IsNothing, at_place, fits}
use Rattle.cmd_tune.specs.Working.{Tunes, TuningStands}

module _ (m m' : Meaning) (found : Found) (text : List ℕ) (is : text ≡ place_line found) (t : m.tells ≡ true) where
  abbrev told : List ℕ → Bool → List ℕ
  told more tells = if tells then m.report.written ++ more else m.report.written

  line_held : WritesAt outs.Report text m m' (Ok tt) → Holds m m' (at_place found)
  line_held w outs.Cells = ap (λ (x : Meaning). x.cells_out.written) w ∙ sym (append-nil m.cells_out.written)
  line_held w outs.Hp = ap (λ (x : Meaning). x.hp_out.written) w ∙ sym (append-nil m.hp_out.written)
  line_held w outs.Lp = ap (λ (x : Meaning). x.lp_out.written) w ∙ sym (append-nil m.lp_out.written)
  line_held w outs.Bytes = ap (λ (x : Meaning). x.bytes_out.written) w ∙ sym (append-nil m.bytes_out.written)
  line_held w outs.Report = ap (λ (x : Meaning). x.report.written) w ∙ ap (told text) t ∙ ap (λ (l : List ℕ). m.report.written ++ l) is

  line_begun : (r : RunError) → WritesAt outs.Report text m m' (Err r) → HoldsFront m m' (at_place found)
  line_begun r w outs.Cells = none_of m.cells_out.written [] m'.cells_out.written (ap (λ (x : Meaning). x.cells_out.written) w.2)
  line_begun r w outs.Hp = none_of m.hp_out.written [] m'.hp_out.written (ap (λ (x : Meaning). x.hp_out.written) w.2)
  line_begun r w outs.Lp = none_of m.lp_out.written [] m'.lp_out.written (ap (λ (x : Meaning). x.lp_out.written) w.2)
  line_begun r w outs.Bytes = none_of m.bytes_out.written [] m'.bytes_out.written (ap (λ (x : Meaning). x.bytes_out.written) w.2)
  line_begun r w outs.Report = (w.1, ap (λ (x : Meaning). x.report.written) w.2 ∙ ap (told (take w.1 text)) t ∙ ap (λ (l : List ℕ). m.report.written ++ take w.1 l) is)

pub line_tunes : (found : Found) (two : Bool) (Begun : Type 0) (m m' : Meaning) (text : List ℕ) (result : Result (Unit {0}) RunError) → fits two found ≡ true → Begun → text ≡ place_line found → WritesAt outs.Report text m m' result
    → Tunes found two Begun m m' result
line_tunes found two Begun m m' text (Ok u) fit begun is w = (fit, begun, λ t. line_held m m' found text is t w)
line_tunes found two Begun m m' text (Err r) fit begun is w =
    subst (λ (stop : RunError). Tunes found two Begun m m' (Err stop)) (sym w.0) (fit, begun, λ t. line_begun m m' found text is t r w)

-- ---- what the work stands for

module _ {B : Type 0} (searching : Settings → List ℕ → Type 0) (receives : B → Settings → Bool → Found → List ℕ → Written → Type 0) (s : Settings) (two : Bool) (bytes : List ℕ) (given : Written) where
  pub searching_stands : (behind : Option B) → behind ≡ None → searching s bytes → HasNoPlace s bytes → IsNothing given → TuningStands searching receives s two behind bytes given
  searching_stands None e a b c = (a, b, c)
  searching_stands (Some b) e a d c = cc

  pub stands_searching : (behind : Option B) → behind ≡ None → TuningStands searching receives s two behind bytes given → searching s bytes × HasNoPlace s bytes × IsNothing given
  stands_searching None e stands = stands
  stands_searching (Some b) e stands = cc

  pub behind_stands : (behind : Option B) (b : B) → behind ≡ Some b → TuningStands searching receives s two (Some b) bytes given → TuningStands searching receives s two behind bytes given
  behind_stands behind b e stands = subst (λ (o : Option B). TuningStands searching receives s two o bytes given) (sym e) stands

  pub stands_behind : (behind : Option B) (b : B) → behind ≡ Some b → TuningStands searching receives s two behind bytes given → TuningStands searching receives s two (Some b) bytes given
  stands_behind behind b e stands = subst (λ (o : Option B). TuningStands searching receives s two o bytes given) e stands
