-- `tune` is a command on cells: it produces what its work gives.
use Rattle.std.proofs.Common.{◌≡◌, inl, inr, true, false, ℕ, ◌*◌, ◌≤◌, ◌<◌, Bool, List, [], ◌++◌, take, drop, Option, Some, None, refl, ◌∙◌, sym, ap, subst, arith, append_assoc, if◌then◌else◌}
use Rattle.std.proofs.lemmas.List.{append-nil, drop_all, length-take, take-append-drop}
use Rattle.std.specs.Prelude.{is_some, option_and_then}
use Rattle.std.specs.Option.{option_or}
use Rattle.station_core.specs.Meaning.{Meaning}
use Rattle.station_core.specs.declared.ports.InPort.TheVariants as ins
use Rattle.station_core.specs.declared.ports.OutPort.TheVariants as outs
use Rattle.mode_set.specs.declared.settings.Settings.{Settings as TheSettings}
use Rattle.frame_build.specs.CellFile.{header}
use Rattle.reception.specs.Cells.{symbol_length, symbols}
use Rattle.cmd_base.specs.declared.refusal.Refusal.{Refusal}
use Rattle.cmd_base.specs.declared.refusal.Refusal.TheVariants.{Limit, Cells, Memory}
use Rattle.cmd_base.specs.declared.refusal.Refusal.TheVariants as refusals
use Rattle.cmd_base.specs.declared.refusal.CellsRefusal.TheVariants.{Header, NoPlace, AnnouncedForm}
use Rattle.cmd_base.specs.Command.{Command, Files, Unread, is_among}
use Rattle.cmd_base.specs.StatedSettings.{settings_of}
use Rattle.cmd_base.specs.Text.{refusal_status}
use Rattle.cmd_cells.specs.Work.{Written}
use Rattle.cmd_base.specs.Ports.{stream_names}
use Rattle.cmd_cells.specs.Cells.{GivenUpTo}
use Rattle.cmd_cells.specs.Commands as commands
use Rattle.cmd_cells.specs.Commands.{CellCommand, Come, ComesRefused, MayRefuse}
use Rattle.cmd_receive.specs.Received.{IsSoFar, cells_in, within_limit}
use Rattle.cmd_receive.specs.ReceiveCommand.{header_by, most_cells}
use Rattle.cmd_receive.proofs.Commands.{behind}
use Rattle.tune_in.specs.OfBytes.{HasNoPlace, IsFoundIn}
use Rattle.tune_in.specs.declared.frame.Found.{Found}
use Rattle.tune_search.proofs.Bytes.{symbols_limited}
use Rattle.tune_search.proofs.Held.{held_none, held_place, no_place, some_bytes, symbols_none}
use Rattle.cmd_tune.specs.Tuned.{ComesTo, GivesFinal, GivesLive, fits, tune_refusal}
use Rattle.cmd_tune.specs.TuneCommand.{LinesSoFar, TakesPlace, tune_command}
use Rattle.cmd_tune.specs.Working.{RefusesTuning, TuningReasons, tuning_work}
use Rattle.cmd_tune.proofs.Coming.{Laws, final_begins, final_comes, live_begins, passed, refusal_found, refusal_none, unrefused}
use Rattle.cmd_tune.proofs.Coming as coming
use Rattle.cmd_tune.proofs.OwnLaws.{own_laws}

-- bytes within the header are no cells
none_behind : (file : List ℕ) (k : ℕ) → k ≤ 8 → cells_in (take k file) ≡ []
none_behind file k few = drop_all 8 (take k file) (let some = length-take k file in omega (arith, some, few))

-- so the report has no lines if no more than the header is taken
pub no_lines : (stated : Option TheSettings) (lp : Option (List ℕ)) (file left : List ℕ) (k : ℕ) → k ≤ 8 → left ≡ drop k file → LinesSoFar stated lp file left []
no_lines None lp file left k few is = refl
no_lines (Some s) lp file left k few is = (
  (λ port. []),
  record {
    taken = take k file;
    are = sym (take-append-drop k file) ∙ ap (λ (l : List ℕ). take k file ++ l) (sym is);
    within = let none : symbols s (cells_in (take k file)) ≡ 0 = ap (symbols s) (none_behind file k few) ∙ symbols_none s in omega (arith, none);
    live = inl (subst (HasNoPlace s) (sym (none_behind file k few)) (no_place s), λ port. refl);
  },
  refl,
)

-- a work refuses for one of its reasons
pub its_reasons : (hp settings cells : List ℕ) (lp : Option (List ℕ)) (r : Refusal) → TuningReasons r → MayRefuse (tune_command settings cells hp lp) r × (is_among (refusal_status r) (tune_command settings cells hp lp).statuses ≡ true)
its_reasons hp settings cells lp r reason = elim reason [
  | inl e ↦ subst (λ (x : Refusal). MayRefuse (tune_command settings cells hp lp) x × (is_among (refusal_status x) (tune_command settings cells hp lp).statuses ≡ true)) (sym e) (tt, refl)
  | inr p ↦ elim p [
    | inl e ↦ subst (λ (x : Refusal). MayRefuse (tune_command settings cells hp lp) x × (is_among (refusal_status x) (tune_command settings cells hp lp).statuses ≡ true)) (sym e) (tt, refl)
    | inr e ↦ subst (λ (x : Refusal). MayRefuse (tune_command settings cells hp lp) x × (is_among (refusal_status x) (tune_command settings cells hp lp).statuses ≡ true)) (sym e) (refl, refl)
  ]
]

module _ (laws : Laws) (limit : ℕ) (name cells hp : List ℕ) (lp : Option (List ℕ)) (file : Files) (s : TheSettings) (stated : settings_of (file name) ≡ Some s) where
  abbrev c : Command
  c = tune_command name cells hp lp

  abbrev two : Bool
  two = is_some lp

  abbrev bytes : List ℕ
  bytes = cells_in (file cells)

  come : (given : Written) → ComesTo s two bytes given → Come c limit file given
  come given comes = record { outputs = λ port output. (s, stated, (given, comes, refl)); report = (s, stated, (given, comes, refl)) }

  refusal_is : (o : Option Refusal) → tune_refusal s two bytes ≡ o → c.work_refusal limit file ≡ o
  refusal_is o is = ap (λ (x : Option TheSettings). option_and_then (λ y. tune_refusal y two bytes) x) stated ∙ is

  lines_so_far : (left lines : List ℕ) → LinesSoFar (Some s) lp (file cells) left lines → LinesSoFar (settings_of (file name)) lp (file cells) left lines
  lines_so_far left lines is = subst (λ (o : Option TheSettings). LinesSoFar o lp (file cells) left lines) (sym stated) is

  continues : (given : Written) → coming.Continues laws s two bytes given → commands.Continues c limit file given
  continues given b = record { all = b.all; come = come b.all b.comes; begins = b.begins }

  fitting : (b : Bool) (o : Option Refusal) (found : Bool) → found ≡ b → (if found then o else Some (Cells AnnouncedForm)) ≡ (if b then o else Some (Cells AnnouncedForm))
  fitting b o found e = ap (λ (x : Bool). if x then o else Some (Cells AnnouncedForm)) e

  whole : (given : Written) → symbols s bytes ≤ s.max_symbols → GivesFinal s two bytes given → Come c limit file given × (c.work_refusal limit file ≡ None)
  whole given few ends = (
    come given (final_comes laws s two bytes few given ends),
    refusal_is None (refusal_found laws s two bytes ends.0 (held_place laws.stays laws.tps s bytes bytes [] ends.0 (sym (append-nil bytes)) few ends.1) ∙ fitting true (coming.limit laws s two bytes) (fits two ends.0) ends.2.fits_form ∙ unrefused laws s two bytes few),
  )

  past : (given : Written) → s.max_symbols < symbols s bytes → GivesLive s two (within_limit s bytes) given → Come c limit file given × (c.work_refusal limit file ≡ Some (Limit s.max_symbols))
  past given more gives = elim gives [
    | inl p ↦
        let none = held_none laws.stays laws.tps s bytes taken left are (omega (arith, many)) p.0 in
        (come given (inl (none, p.1)), refusal_is (Some (Limit s.max_symbols)) (refusal_none laws s two bytes none ∙ ap (λ (o : Option Refusal). option_or o (Some (Cells NoPlace))) (passed laws s two bytes more)))
    | inr p ↦
        let holds = held_place laws.stays laws.tps s bytes taken left p.0 are (omega (arith, many)) p.1 in
        (come given (inr (p.0, holds, inr (inr (more, p.2)))), refusal_is (Some (Limit s.max_symbols)) (refusal_found laws s two bytes p.0 holds ∙ fitting true (coming.limit laws s two bytes) (fits two p.0) p.2.fits_form ∙ passed laws s two bytes more))
  ]
    where
      taken : List ℕ
      taken = within_limit s bytes

      left : List ℕ
      left = drop (s.max_symbols * symbol_length s) bytes

      are : bytes ≡ taken ++ left
      are = sym (take-append-drop (s.max_symbols * symbol_length s) bytes)

      many : symbols s taken ≡ s.max_symbols
      many = symbols_limited s bytes more

  -- a place found in the cells is found in what was taken of the file, after its header
  takes : (unread : Unread) (taken : List ℕ) (found : Found) → bytes ≡ taken ++ unread ins.Cells → symbols s taken ≤ s.max_symbols → IsFoundIn s taken found → fits two found ≡ true → TakesPlace s lp (file cells) (unread ins.Cells)
  takes unread taken found are few is fit =
      let same : cells_in (take 8 (file cells) ++ taken) ≡ taken = behind 8 (file cells) taken (unread ins.Cells) are in (
        found,
        record {
          taken = take 8 (file cells) ++ taken;
          are = sym (take-append-drop 8 (file cells)) ∙ ap (λ (l : List ℕ). take 8 (file cells) ++ l) are ∙ sym (append_assoc (take 8 (file cells)) taken (unread ins.Cells));
          within = subst (λ (l : List ℕ). symbols s l ≤ s.max_symbols) (sym same) few;
          live = (subst (λ (l : List ℕ). IsFoundIn s l found) (sym same) is, fit);
        },
      )

  refused : (unread : Unread) (taken : List ℕ) (given : Written) (r : Refusal) → bytes ≡ taken ++ unread ins.Cells → symbols s taken ≤ s.max_symbols → TuningReasons r → RefusesTuning s two taken (unread ins.Cells) given r
      → ComesRefused c limit file unread given r
  refused unread taken given Memory are few reason is = ((s, stated, takes unread taken is.0 are few is.1 is.2), is.3)
  refused unread taken given (Cells NoPlace) are few reason is =
      let same : bytes ≡ taken = are ∙ ap (λ (l : List ℕ). taken ++ l) is.0 ∙ append-nil taken in
      let all : symbols s bytes ≡ symbols s taken = ap (symbols s) same in
      let none = held_none laws.stays laws.tps s bytes taken (unread ins.Cells) are (omega (arith, all)) is.1 in
      (come given (inl (none, is.2)), refusal_is (Some (Cells NoPlace)) (refusal_none laws s two bytes none ∙ ap (λ (o : Option Refusal). option_or o (Some (Cells NoPlace))) (unrefused laws s two bytes (omega (arith, all, few)))))
  refused unread taken given (Cells AnnouncedForm) are few reason is =
      let holds = held_place laws.stays laws.tps s bytes taken (unread ins.Cells) is.0 are few is.1 in
      (come given (inr (is.0, holds, inl (is.2, is.3))), refusal_is (Some (Cells AnnouncedForm)) (refusal_found laws s two bytes is.0 holds ∙ fitting false (coming.limit laws s two bytes) (fits two is.0) is.2))
  refused unread taken given (Cells Header) are few reason is = absurd is
  refused unread taken given refusals.Usage are few reason is = absurd is
  refused unread taken given (refusals.Settings x) are few reason is = absurd is
  refused unread taken given refusals.ReadFault are few reason is = absurd is
  refused unread taken given refusals.WriteFault are few reason is = absurd is
  refused unread taken given (refusals.NotSync stream n) are few reason is = absurd is
  refused unread taken given (Limit n) are few reason is = absurd is

  begun : (given : Written) → GivenUpTo (tuning_work s two) s.max_symbols bytes given → commands.Continues c limit file given
  begun given up = elim up.gives [
    | inl g ↦ continues given (live_begins laws s two bytes up.taken up.rest up.are up.within given g)
    | inr g ↦
        let same : up.taken ≡ bytes = sym (up.are ∙ ap (λ (l : List ℕ). up.taken ++ l) g.0 ∙ append-nil up.taken) in
        continues given (final_begins laws s two bytes (subst (λ (l : List ℕ). symbols s l ≤ s.max_symbols) same up.within) given (subst (λ (l : List ℕ). GivesFinal s two l given) same g.1))
  ]

  comes : commands.ComesTo c limit file (tuning_work s two) s.max_symbols bytes
  comes = record {
    whole = whole;
    past = past;
    refused = refused;
    so_far = λ unread taken given are within gives.
        let same : cells_in (take 8 (file cells) ++ taken) ≡ taken = behind 8 (file cells) taken (unread ins.Cells) are in
        let so_far : IsSoFar (λ a. GivesLive a two) s (file cells) (unread ins.Cells) given = record {
          taken = take 8 (file cells) ++ taken;
          are = sym (take-append-drop 8 (file cells)) ∙ ap (λ (l : List ℕ). take 8 (file cells) ++ l) are ∙ sym (append_assoc (take 8 (file cells)) taken (unread ins.Cells));
          within = subst (λ (l : List ℕ). symbols s l ≤ s.max_symbols) (sym same) within;
          live = subst (λ (l : List ℕ). GivesLive s two l given) (sym same) gives;
        } in
        record {
          outputs = λ port output. (s, stated, (given, so_far, refl));
          report = lines_so_far (unread ins.Cells) (given outs.Report) (given, so_far, refl);
        };
    begun = begun;
    first = ((λ port. []), inl (no_place s, λ port. refl));
  }

pub command_of : (laws : Laws) (limit : ℕ) (name cells hp : List ℕ) (lp : Option (List ℕ)) (s : TheSettings) (start : Meaning) → (start.tells ≡ true → settings_of (start.file name) ≡ Some s)
    → CellCommand (tune_command name cells hp lp) limit name cells (Some (header s.mode)) (stream_names hp lp) (tuning_work s (is_some lp)) s.max_symbols start
command_of laws limit name cells hp lp s start stated = record {
  reads = elim [ ins.Settings ↦ refl | ins.Hp ↦ refl | ins.Lp ↦ refl | ins.Cells ↦ refl ];
  writes = elim [ outs.Cells ↦ refl | outs.Hp ↦ refl | outs.Lp ↦ refl | outs.Bytes ↦ refl | outs.Report ↦ refl ];
  header_is = λ t. ap header_by (stated t);
  no_report = refl;
  some = some_bytes s;
  done = refl;
  read_fault = refl;
  write_fault = refl;
  unheaded = λ is. refl;
  limit_passed = refl;
  most_taken = λ t. let e = ap most_cells (stated t) in omega (arith, e);
  comes = λ t. comes laws limit name cells hp lp start.file s (stated t);
  unread = λ t unread taken. no_lines (settings_of (start.file name)) lp (start.file cells) (unread ins.Cells) taken.0 taken.1 taken.2;
  its = its_reasons hp name cells lp;
  own = λ file. own_laws laws (settings_of (file name)) lp (file cells);
}
