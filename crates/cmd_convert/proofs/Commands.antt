-- A conversion is a command on cells: its output is that of its work.
use Rattle.std.proofs.Common.{◌≡◌, inl, inr, true, ℕ, ◌<◌, ◌≤◌, Bool, List, [], ◌++◌, Option, Some, None, refl, ◌∙◌, sym, ap, subst, arith, if◌then◌else◌}
use Rattle.std.specs.Prelude.{◌⊎◌, is_some, option_and_then}
use Rattle.std.proofs.lemmas.Bool.{cases_lt, lt-ltb, le-ltb, true≢false}
use Rattle.std.proofs.lemmas.List.{append-nil}
use Rattle.station_core.specs.Meaning.{Meaning}
use Rattle.station_core.specs.declared.ports.InPort.TheVariants as ins
use Rattle.station_core.specs.declared.ports.OutPort.{OutPort}
use Rattle.station_core.specs.declared.ports.OutPort.TheVariants as outs
use Rattle.mode_set.specs.declared.modes.Mode.{Mode}
use Rattle.mode_set.specs.declared.settings.Settings.{Settings as TheSettings}
use Rattle.cmd_base.specs.declared.refusal.Refusal.{Refusal}
use Rattle.cmd_base.specs.declared.refusal.Refusal.TheVariants.{Limit}
use Rattle.cmd_base.specs.Command.{Command, Files, IsOutput, is_among}
use Rattle.cmd_base.specs.StatedSettings.{settings_of}
use Rattle.cmd_cells.specs.Symbols.{symbols, within_limit}
use Rattle.cmd_cells.specs.Work.{Written}
use Rattle.cmd_cells.specs.Outputs.{cell_names}
use Rattle.cmd_cells.specs.Cells.{GivenUpTo}
use Rattle.cmd_cells.specs.Commands.{CellCommand, Come, ComesTo, Continues}
use Rattle.cmd_convert.specs.Conversion.{Conversion, closing_line, new_file, old_cells}
use Rattle.cmd_convert.specs.ConversionCommand.{FileComes, LinesCome, conversion_command, limit_refusal, most_old}
use Rattle.cmd_convert.specs.Working.{conversion_work, writes_at, written_at}
use Rattle.cmd_convert.proofs.Files.{begins, begins_limited}

-- the facts on a conversion in each mode: a symbol has some bytes, and the statuses are possible ones
pub record IsSound (by : Mode → Conversion) (statuses : List ℕ) : Type 0 where
  pub some : (mode : Mode) → 0 < (by mode).size
  pub done : is_among 0 statuses ≡ true
  pub settings : is_among 3 statuses ≡ true
  pub read_fault : is_among 5 statuses ≡ true
  pub write_fault : is_among 6 statuses ≡ true
  pub memory : is_among 7 statuses ≡ true
  pub limit_passed : is_among 8 statuses ≡ true
  pub unheaded : (mode : Mode) → is_some (by mode).old_header ≡ true → is_among 9 statuses ≡ true

-- the work writes where the new file is created
pub outputs_are : (name : List ℕ) (port : OutPort) → writes_at port ≡ is_some (cell_names name port)
outputs_are name outs.Cells = refl
outputs_are name outs.Hp = refl
outputs_are name outs.Lp = refl
outputs_are name outs.Bytes = refl
outputs_are name outs.Report = refl

module _ (by : Mode → Conversion) (statuses : List ℕ) (sound : IsSound by statuses) (laws : Files → Type 0) (limit : ℕ) (settings old new : List ℕ) (file : Files) (s : TheSettings) (stated : settings_of (file settings) ≡ Some s) where
  abbrev c : Command
  c = conversion_command by statuses laws settings old new

  abbrev v : Conversion
  v = by s.mode

  abbrev most : ℕ
  most = s.max_symbols

  abbrev bytes : List ℕ
  bytes = old_cells (by s.mode) (file old)

  some : 0 < v.size
  some = sound.some s.mode

  -- the bytes written at the one output are the new file
  at_output : (cells lines : List ℕ) (port : OutPort) → IsOutput c port → written_at cells lines port ≡ cells
  at_output cells lines outs.Cells is = refl
  at_output cells lines outs.Hp is = absurd (true≢false (sym is))
  at_output cells lines outs.Lp is = absurd (true≢false (sym is))
  at_output cells lines outs.Bytes is = absurd (true≢false (sym is))
  at_output cells lines outs.Report is = absurd (true≢false (sym is))

  come : (cells lines : List ℕ) (given : Written) → ((port : OutPort) → given port ≡ written_at cells lines port) → FileComes v most bytes cells → LinesCome v most bytes lines → Come c limit file given
  come cells lines given is comes prints = record {
    outputs = λ port output. (s, stated, subst (FileComes v most bytes) (sym (is port ∙ at_output cells lines port output)) comes);
    report = (s, stated, subst (LinesCome v most bytes) (sym (is outs.Report)) prints);
  }

  refusal_is : (o : Option Refusal) → limit_refusal v most bytes ≡ o → c.work_refusal limit file ≡ o
  refusal_is o is = ap (λ (x : Option TheSettings). option_and_then (λ y. limit_refusal (by y.mode) y.max_symbols (old_cells (by y.mode) (file old))) x) stated ∙ is

  -- the output of a prefix is a prefix of the output
  continued : (cells lines all_cells all_lines : List ℕ) (given : Written) → ((port : OutPort) → given port ≡ written_at cells lines port)
      → (more : List ℕ) × (all_cells ≡ cells ++ more) → (more : List ℕ) × (all_lines ≡ lines ++ more) → FileComes v most bytes all_cells → LinesCome v most bytes all_lines → Continues c limit file given
  continued cells lines all_cells all_lines given is more_cells more_lines comes prints = record {
    all = written_at all_cells all_lines;
    come = come all_cells all_lines (written_at all_cells all_lines) (λ port. refl) comes prints;
    begins = λ port. let m = more_at port in (m.0, m.1 ∙ ap (λ (l : List ℕ). l ++ m.0) (sym (is port)));
  }
    where
      more_at : (port : OutPort) → (rest : List ℕ) × (written_at all_cells all_lines port ≡ written_at cells lines port ++ rest)
      more_at outs.Cells = more_cells
      more_at outs.Hp = ([], refl)
      more_at outs.Lp = ([], refl)
      more_at outs.Bytes = ([], refl)
      more_at outs.Report = more_lines

  first_continue : (taken rest : List ℕ) (given : Written) → bytes ≡ taken ++ rest → symbols v.size taken ≤ most → ((port : OutPort) → given port ≡ written_at (new_file v taken) [] port)
      → (most < symbols v.size bytes) ⊎ (symbols v.size bytes ≤ most) → Continues c limit file given
  first_continue taken rest given are few gives (inl past) =
      let b = begins_limited v some taken rest most few (subst (λ (l : List ℕ). most < symbols v.size l) are past) in
      continued (new_file v taken) [] (new_file v (within_limit most v.size bytes)) [] given gives (b.0, ap (λ (l : List ℕ). new_file v (within_limit most v.size l)) are ∙ b.1) ([], refl) (inr (past, refl)) (inr (past, refl))
  first_continue taken rest given are few gives (inr within) =
      let b = begins v some taken rest in
      continued (new_file v taken) [] (new_file v bytes) (closing_line v bytes) given gives (b.0, ap (new_file v) are ∙ b.1) (closing_line v bytes, refl) (inl (within, refl)) (inl (within, refl))

  all_continue : (taken : List ℕ) (given : Written) → bytes ≡ taken → symbols v.size taken ≤ most → ((port : OutPort) → given port ≡ written_at (new_file v taken) (closing_line v taken) port) → Continues c limit file given
  all_continue taken given same few gives =
      let within : symbols v.size bytes ≤ most = subst (λ (l : List ℕ). symbols v.size l ≤ most) (sym same) few in
      continued (new_file v taken) (closing_line v taken) (new_file v bytes) (closing_line v bytes) given gives ([], ap (new_file v) same ∙ sym (append-nil (new_file v taken)))
      ([], ap (closing_line v) same ∙ sym (append-nil (closing_line v taken))) (inl (within, refl)) (inl (within, refl))

  continues : (given : Written) → GivenUpTo (conversion_work v) most bytes given → Continues c limit file given
  continues given up = elim up.gives [
    | inl gives ↦ first_continue up.taken up.rest given up.are up.within gives (cases_lt most (symbols v.size bytes))
    | inr all ↦ all_continue up.taken given (up.are ∙ ap (λ (l : List ℕ). up.taken ++ l) all.0 ∙ append-nil up.taken) up.within all.1
  ]

  pub comes : ComesTo c limit file (conversion_work v) most bytes
  comes = record {
    whole = λ given few ends. (
      come (new_file v bytes) (closing_line v bytes) given ends (inl (few, refl)) (inl (few, refl)),
      refusal_is None (ap (λ (b : Bool). if b then Some (Limit most) else None) (le-ltb most (symbols v.size bytes) few)),
    );
    past = λ given more gives. (
      come (new_file v (within_limit most v.size bytes)) [] given gives (inr (more, refl)) (inr (more, refl)),
      refusal_is (Some (Limit most)) (ap (λ (b : Bool). if b then Some (Limit most) else None) (lt-ltb most (symbols v.size bytes) more)),
    );
    refused = λ unread taken given r are within reason refuses. absurd reason;
    so_far = λ unread taken given are within gives. record {
      outputs = λ port output. (s, stated, record { taken = taken; are = are; within = within; is = gives port ∙ at_output (new_file v taken) [] port output });
      report = gives outs.Report;
    };
    begun = continues;
    first = (written_at (new_file v []) [], (λ port. refl));
  }

pub command_of : (by : Mode → Conversion) (statuses : List ℕ) (sound : IsSound by statuses) (laws : Files → Type 0) (limit : ℕ) (settings old new : List ℕ) (s : TheSettings) (start : Meaning)
    → (start.tells ≡ true → settings_of (start.file settings) ≡ Some s) → ((file : Files) → laws file)
    → CellCommand (conversion_command by statuses laws settings old new) limit settings old (by s.mode).old_header (cell_names new) (conversion_work (by s.mode)) s.max_symbols start
command_of by statuses sound laws limit settings old new s start stated own = record {
  reads = elim [ ins.Settings ↦ refl | ins.Hp ↦ refl | ins.Lp ↦ refl | ins.Cells ↦ refl ];
  writes = λ port. refl;
  header_is = λ t. ap (λ (x : Option TheSettings). option_and_then (λ y. (by y.mode).old_header) x) (stated t);
  no_report = refl;
  some = sound.some s.mode;
  done = sound.done;
  read_fault = sound.read_fault;
  write_fault = sound.write_fault;
  unheaded = sound.unheaded s.mode;
  limit_passed = sound.limit_passed;
  most_taken = λ t. let e = ap (most_old by) (stated t) in omega (arith, e);
  comes = λ t. comes by statuses sound laws limit settings old new start.file s (stated t);
  unread = λ t left taken. refl;
  its = λ r reason. absurd reason;
  own = own;
}
