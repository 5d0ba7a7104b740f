-- `track` is a command on cells: its output is that of its work.
use Rattle.std.proofs.Common.{◌≡◌, inl, inr, true, ℕ, ◌<◌, ◌≤◌, Bool, List, [], ◌++◌, Option, Some, None, refl, ◌∙◌, sym, ap, subst, arith, if◌then◌else◌}
use Rattle.std.specs.Prelude.{◌⊎◌, option_and_then}
use Rattle.std.proofs.lemmas.Bool.{cases_lt, le-ltb, lt-ltb, true≢false}
use Rattle.std.proofs.lemmas.List.{append-nil}
use Rattle.station_core.specs.Meaning.{Meaning}
use Rattle.station_core.specs.declared.ports.InPort.TheVariants as ins
use Rattle.station_core.specs.declared.ports.OutPort.{OutPort}
use Rattle.station_core.specs.declared.ports.OutPort.TheVariants as outs
use Rattle.mode_set.specs.declared.settings.Settings.{Settings as TheSettings}
use Rattle.frame_build.specs.CellFile.{header}
use Rattle.tracking.specs.Laws.{GreaterPowersWeighMore, LiveSymbolsStay}
use Rattle.law_tracking.specs.Steady.{SteadyGainsAreExact}
use Rattle.reception.specs.Cells.{symbols}
use Rattle.law_tracking.specs.Tracked.{BeginningsAreTracked, FilesAreTracked, TrackedAreClean, TrackedAreReturned, TrackedAreWithin}
use Rattle.cmd_base.specs.declared.refusal.Refusal.{Refusal}
use Rattle.cmd_base.specs.declared.refusal.Refusal.TheVariants.{Limit}
use Rattle.cmd_base.specs.Command.{Command, Files, IsOutput}
use Rattle.cmd_base.specs.StatedSettings.{settings_of}
use Rattle.cmd_base.specs.Ports.{cell_names}
use Rattle.cmd_cells.specs.Work.{Written}
use Rattle.cmd_cells.specs.Cells.{GivenUpTo}
use Rattle.cmd_cells.specs.Commands.{CellCommand, Come, ComesTo, Continues}
use Rattle.cmd_convert.specs.Working.{written_at}
use Rattle.cmd_track.specs.OwnLaws.{TrackLaws}
use Rattle.cmd_track.specs.TrackCommand.{header_by, most_cells, track_command}
use Rattle.cmd_track.specs.Tracked.{FileComes, LinesCome, cells_in, closing_line, ended_file, live_file, track_refusal, within_limit}
use Rattle.cmd_track.specs.Working.{AllGive, FirstGive, tracking_work}
use Rattle.cmd_track.proofs.Bytes.{Cuts, some_bytes}
use Rattle.cmd_track.proofs.Files.{begins, begins_limited, live_begins}

pub record Laws : Type 0 where
  pub cuts : Cuts
  pub live : LiveSymbolsStay
  pub weights : GreaterPowersWeighMore
  pub steady : SteadyGainsAreExact
  pub restored : FilesAreTracked
  pub begun : BeginningsAreTracked
  pub within : TrackedAreWithin
  pub returned : TrackedAreReturned
  pub clean : TrackedAreClean

pub own_laws : Laws → (stated : Option TheSettings) (file : List ℕ) → TrackLaws stated file
own_laws laws stated file = record {
  live = λ s is more. live_begins laws.live laws.cuts s (cells_in file) more;
  flat_gain = λ s is. record {
    restored = λ inputs a b flat some come. laws.restored s inputs a b (cells_in file) flat some come;
    begun = λ inputs a b flat come. laws.begun s inputs a b (cells_in file) flat come;
    within = λ inputs a b flat some come. laws.within s inputs a b (cells_in file) flat some come;
    returned = λ inputs a b zero have flat come r final. laws.returned s inputs a b (cells_in file) r zero have flat come final;
    clean = λ inputs a b zero have flat come r final. laws.clean s inputs a b (cells_in file) r zero have flat come final;
  };
  steady = laws.steady;
  weights = laws.weights;
}

module _ (laws : Laws) (limit : ℕ) (settings old new : List ℕ) (file : Files) (s : TheSettings) (stated : settings_of (file settings) ≡ Some s) where
  abbrev c : Command
  c = track_command settings old new

  abbrev bytes : List ℕ
  bytes = cells_in (file old)

  -- the bytes written at the one output are the new file
  at_output : (cells lines : List ℕ) (port : OutPort) → IsOutput c port → written_at cells lines port ≡ cells
  at_output cells lines outs.Cells is = refl
  at_output cells lines outs.Hp is = absurd (true≢false (sym is))
  at_output cells lines outs.Lp is = absurd (true≢false (sym is))
  at_output cells lines outs.Bytes is = absurd (true≢false (sym is))
  at_output cells lines outs.Report is = absurd (true≢false (sym is))

  come : (cells lines : List ℕ) (given : Written) → ((port : OutPort) → given port ≡ written_at cells lines port) → FileComes s bytes cells → LinesCome s bytes lines → Come c limit file given
  come cells lines given is comes prints = record {
    outputs = λ port output. (s, stated, subst (FileComes s bytes) (sym (is port ∙ at_output cells lines port output)) comes);
    report = (s, stated, subst (LinesCome s bytes) (sym (is outs.Report)) prints);
  }

  refusal_is : (o : Option Refusal) → track_refusal s bytes ≡ o → c.work_refusal limit file ≡ o
  refusal_is o is = ap (λ (x : Option TheSettings). option_and_then (λ y. track_refusal y bytes) x) stated ∙ is

  -- the output of a prefix is a prefix of the output
  continued : (cells lines all_cells all_lines : List ℕ) (given : Written) → ((port : OutPort) → given port ≡ written_at cells lines port)
      → (more : List ℕ) × (all_cells ≡ cells ++ more) → (more : List ℕ) × (all_lines ≡ lines ++ more) → FileComes s bytes all_cells → LinesCome s bytes all_lines → Continues c limit file given
  continued cells lines all_cells all_lines given is more_cells more_lines comes prints = record {
    all = written_at all_cells all_lines;
    come = come all_cells all_lines (written_at all_cells all_lines) (λ port. refl) comes prints;
    begins = λ port. let m = more_at port in (m.0, m.1 ∙ ap (λ (l : List ℕ). l ++ m.0) (sym (is port)));
  }
    where
      more_at : (port : OutPort) → (others : List ℕ) × (written_at all_cells all_lines port ≡ written_at cells lines port ++ others)
      more_at outs.Cells = more_cells
      more_at outs.Hp = ([], refl)
      more_at outs.Lp = ([], refl)
      more_at outs.Bytes = ([], refl)
      more_at outs.Report = more_lines

  first_continue : (taken left : List ℕ) (given : Written) → bytes ≡ taken ++ left → symbols s taken ≤ s.max_symbols → FirstGive s taken given
      → (s.max_symbols < symbols s bytes) ⊎ (symbols s bytes ≤ s.max_symbols) → Continues c limit file given
  first_continue taken left given are few gives (inl past) =
      let b = begins_limited laws.live laws.cuts s taken left s.max_symbols few (subst (λ (l : List ℕ). s.max_symbols < symbols s l) are past) in
      continued (live_file s taken) [] (live_file s (within_limit s bytes)) [] given gives (b.0, ap (λ (l : List ℕ). live_file s (within_limit s l)) are ∙ b.1) ([], refl) (inr (past, refl)) (inr (past, refl))
  first_continue taken left given are few gives (inr within) =
      let b = begins laws.live laws.cuts s taken left in
      continued (live_file s taken) [] (ended_file s bytes) (closing_line s bytes) given gives (b.0, ap (ended_file s) are ∙ b.1) (closing_line s bytes, refl) (inl (within, refl)) (inl (within, refl))

  all_continue : (taken : List ℕ) (given : Written) → bytes ≡ taken → symbols s taken ≤ s.max_symbols → AllGive s taken given → Continues c limit file given
  all_continue taken given same few gives =
      let within : symbols s bytes ≤ s.max_symbols = subst (λ (l : List ℕ). symbols s l ≤ s.max_symbols) (sym same) few in
      continued (ended_file s taken) (closing_line s taken) (ended_file s bytes) (closing_line s bytes) given gives ([], ap (ended_file s) same ∙ sym (append-nil (ended_file s taken)))
      ([], ap (closing_line s) same ∙ sym (append-nil (closing_line s taken))) (inl (within, refl)) (inl (within, refl))

  begun : (given : Written) → GivenUpTo (tracking_work s) s.max_symbols bytes given → Continues c limit file given
  begun given up = elim up.gives [
    | inl gives ↦ first_continue up.taken up.rest given up.are up.within gives (cases_lt s.max_symbols (symbols s bytes))
    | inr all ↦ all_continue up.taken given (up.are ∙ ap (λ (l : List ℕ). up.taken ++ l) all.0 ∙ append-nil up.taken) up.within all.1
  ]

  pub comes : ComesTo c limit file (tracking_work s) s.max_symbols bytes
  comes = record {
    whole = λ given few ends. (
      come (ended_file s bytes) (closing_line s bytes) given ends (inl (few, refl)) (inl (few, refl)),
      refusal_is None (ap (λ (b : Bool). if b then Some (Limit s.max_symbols) else None) (le-ltb s.max_symbols (symbols s bytes) few)),
    );
    past = λ given more gives. (
      come (live_file s (within_limit s bytes)) [] given gives (inr (more, refl)) (inr (more, refl)),
      refusal_is (Some (Limit s.max_symbols)) (ap (λ (b : Bool). if b then Some (Limit s.max_symbols) else None) (lt-ltb s.max_symbols (symbols s bytes) more)),
    );
    refused = λ unread taken given r are within reason refuses. absurd reason;
    so_far = λ unread taken given are within gives. record {
      outputs = λ port output. (s, stated, record { taken = taken; are = are; within = within; is = gives port ∙ at_output (live_file s taken) [] port output });
      report = gives outs.Report;
    };
    begun = begun;
    first = (written_at (live_file s []) [], (λ port. refl));
  }

pub command_of : (laws : Laws) (limit : ℕ) (settings old new : List ℕ) (s : TheSettings) (start : Meaning) → (start.tells ≡ true → settings_of (start.file settings) ≡ Some s)
    → CellCommand (track_command settings old new) limit settings old (Some (header s.mode)) (cell_names new) (tracking_work s) s.max_symbols start
command_of laws limit settings old new s start stated = record {
  reads = elim [ ins.Settings ↦ refl | ins.Hp ↦ refl | ins.Lp ↦ refl | ins.Cells ↦ refl ];
  writes = λ port. refl;
  header_is = λ t. ap header_by (stated t);
  no_report = refl;
  some = some_bytes s;
  done = refl;
  read_fault = refl;
  write_fault = refl;
  unheaded = λ is. refl;
  limit_passed = refl;
  most_taken = λ t. let e = ap most_cells (stated t) in omega (arith, e);
  comes = λ t. comes laws limit settings old new start.file s (stated t);
  unread = λ t unread taken. refl;
  its = λ r reason. absurd reason;
  own = λ file. own_laws laws (settings_of (file settings)) (file old);
}
