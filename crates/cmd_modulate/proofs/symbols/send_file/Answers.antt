use Rattle.std.proofs.Common.{◌≡◌, ◌+◌, ◌∙◌, ℕ, Some, None, Ok, Err, refl, ap, sym, subst, arith}
use Rattle.station_core.specs.Meaning.{Meaning}
use Rattle.mode_set.specs.declared.settings.Settings.{Settings}
use Rattle.cmd_base.specs.declared.refusal.Refusal.{Refusal}
use Rattle.cmd_base.specs.declared.refusal.Refusal.TheVariants.{Limit}
use Rattle.cmd_base.proofs.HandedOn.{handed_on}
use Rattle.frame_build.specs.CellFile.{header}
use Rattle.modulator.specs.State.{HasPut}
use Rattle.cmd_modulate.specs.ModulateCommand.{inputs_of}
use Rattle.cmd_modulate.specs.Seen.{Seen, seen_of}
use Rattle.cmd_modulate.specs.Work.{CountsAt, Ends, Modulates, WritesBytes}
use Rattle.cmd_modulate.proofs.Heading.{headed, inputs_stay, unheaded}
use Rattle.cmd_modulate.proofs.Keeping.{keeps_again}
use Rattle.cmd_modulate.proofs.WholeWork.{begins, ends_done, ends_at_limit, due_at, due_more, more_again}
use Rattle.cmd_modulate.proofs.symbols.send_file.Goals as goal

pub returns-in_err-write_header-clause-modulates : goal.returns-in_err-write_header-clause-modulates
returns-in_err-write_header-clause-modulates g c = λ t files work empty.
    let m : Meaning = g.S.Station.meaning c.args.station.now in
    let m' : Meaning = g.S.Station.meaning c.write_header.new.station in
    let seen : Seen = seen_of c.args.tx.now in
    let refusal : Refusal = c.in_err-write_header.field-0.0 in
    handed_on c.from_residual.result refusal (Modulates seen.settings c.args.limits.now.packets files m') c.from_residual.ensures.1
    (unheaded c.args.limits.now.packets files m m' c.args.inputs seen (HasPut c.args.tx.now) work empty c.write_header.ensures.others refusal
    (subst (λ (s : Settings). WritesBytes (header s.mode) m m' (Err refusal)) (sym c.requires.same) (c.in_err-write_header.ensures.written t)))

pub loop-symbol-init : goal.loop-symbol-init
loop-symbol-init g c = record {
  others = refl;
  read_faults = refl;
  write_faults = refl;
  settings = refl;
  made = c.requires.none_made;
  long = refl;
  opened = inputs_stay (g.S.Station.meaning c.args.station.now) (g.S.Station.meaning c.write_header.new.station) c.args.inputs c.in_ok-write_header.ensures.others c.requires.inputs_open;
  within = c.requires.within;
  met = λ none. none;
  works = λ t files w. (w, begins c.super_frames.ensures.found c.args.tx.now.settings (inputs_of files));
}

pub returns-in_err-next_symbol-clause-modulates : goal.returns-in_err-next_symbol-clause-modulates
returns-in_err-next_symbol-clause-modulates g c = λ t₀ files work empty.
    let before : Meaning = g.S.Station.meaning c.args.station.now in
    let start : Meaning = g.S.Station.meaning c.write_header.new.station in
    let t = ap (λ (x : Meaning). x.tells) c.in_ok-write_header.ensures.others ∙ t₀ in
    let w = headed c.args.limits.now.packets files before start c.args.inputs (seen_of c.args.tx.now) (HasPut c.args.tx.now) work empty c.in_ok-write_header.ensures.others c.symbols.ensures.none c.requires.none_made
    (subst (λ (s : Settings). WritesBytes (header s.mode) before start (Ok tt)) (sym c.requires.same) (c.in_ok-write_header.ensures.written t₀)) in
    let m : Meaning = g.S.Station.meaning c.next_symbol.new.station in
    let seen : Seen = seen_of c.args.tx.now in
    let seen' : Seen = seen_of c.loop-symbol.tx in
    let seen'' : Seen = seen_of c.next_symbol.new.tx in
    let inv = c.loop-symbol.invariant in
    let tells = ap (λ (x : Meaning). x.tells) inv.others in
    let works = inv.works t files w in
    let due = due_at files seen seen' c.loop-symbol.symbol c.args.settings.now.max_symbols inv.settings inv.made (ap (λ (s : Settings). s.max_symbols) c.requires.same) works.1 c.loop-symbol-test.true in
    let same : seen''.settings ≡ seen.settings = c.in_err-next_symbol.ensures.settings ∙ inv.settings in
    let e = c.in_err-next_symbol.ensures.sends (tells ∙ t) files due works.0 in
    let refusal = c.in_err-next_symbol.field-0.0 in
    handed_on c.from_residual-in_err-next_symbol.result refusal (Modulates seen.settings c.args.limits.now.packets files m) c.from_residual-in_err-next_symbol.ensures.1
    (subst (λ (s : Settings). Ends s c.args.limits.now.packets files m refusal) same e.0, e.1)

pub returns-in-Some-clause-modulates : goal.returns-in-Some-clause-modulates
returns-in-Some-clause-modulates g c = λ t₀ files work empty.
    let before : Meaning = g.S.Station.meaning c.args.station.now in
    let start : Meaning = g.S.Station.meaning c.write_header.new.station in
    let t = ap (λ (x : Meaning). x.tells) c.in_ok-write_header.ensures.others ∙ t₀ in
    let w = headed c.args.limits.now.packets files before start c.args.inputs (seen_of c.args.tx.now) (HasPut c.args.tx.now) work empty c.in_ok-write_header.ensures.others c.symbols.ensures.none c.requires.none_made
    (subst (λ (s : Settings). WritesBytes (header s.mode) before start (Ok tt)) (sym c.requires.same) (c.in_ok-write_header.ensures.written t₀)) in
    let m : Meaning = g.S.Station.meaning c.next_symbol.new.station in
    let seen : Seen = seen_of c.args.tx.now in
    let seen' : Seen = seen_of c.loop-symbol.tx in
    let seen'' : Seen = seen_of c.next_symbol.new.tx in
    let inv = c.loop-symbol.invariant in
    let tells = ap (λ (x : Meaning). x.tells) inv.others in
    let works = inv.works t files w in
    let due = due_at files seen seen' c.loop-symbol.symbol c.args.settings.now.max_symbols inv.settings inv.made (ap (λ (s : Settings). s.max_symbols) c.requires.same) works.1 c.loop-symbol-test.true in
    let same : seen''.settings ≡ seen.settings = c.in_ok-next_symbol.ensures.settings ∙ inv.settings in
    let made : seen''.made ≡ c.loop-symbol.symbol + 1 = c.in_ok-next_symbol.ensures.made ∙ ap (λ (n : ℕ). n + 1) inv.made in
    let written = c.in_ok-next_symbol.ensures.sends (tells ∙ t) files due works.0 in
    subst (λ (s : Settings). Modulates s c.args.limits.now.packets files m (Ok c.in-Some.counts)) same
    (ends_done c.args.limits.now.packets files m c.next_symbol.new.inputs seen'' (HasPut c.next_symbol.new.tx) written c.work.ensures.ends (c.loop-symbol.symbol + 1) c.in-Some.counts made
    (subst (λ (s : Settings). CountsAt s c.next_symbol.new.inputs (c.loop-symbol.symbol + 1) (Some c.in-Some.counts)) (sym (same ∙ c.requires.same)) c.in-Some.ensures))

pub loop-symbol-preserved : goal.loop-symbol-preserved
loop-symbol-preserved g c =
    let m : Meaning = g.S.Station.meaning c.write_header.new.station in
    let m' : Meaning = g.S.Station.meaning c.loop-symbol.station in
    let m'' : Meaning = g.S.Station.meaning c.next_symbol.new.station in
    let seen : Seen = seen_of c.args.tx.now in
    let seen' : Seen = seen_of c.loop-symbol.tx in
    let seen'' : Seen = seen_of c.next_symbol.new.tx in
    let inv = c.loop-symbol.invariant in
    let e = c.in_ok-next_symbol.ensures in
    let tells = ap (λ (x : Meaning). x.tells) inv.others in
    let same : seen''.settings ≡ seen.settings = e.settings ∙ inv.settings in
    let made : seen''.made ≡ c.loop-symbol.symbol + 1 = e.made ∙ ap (λ (n : ℕ). n + 1) inv.made in
    record {
      others = keeps_again m m' m'' inv.others e.others;
      read_faults = e.cause.reads ∙ inv.read_faults;
      write_faults = e.cause.writes ∙ inv.write_faults;
      settings = same;
      made = made;
      long = e.long ∙ inv.long;
      opened = e.inputs_open;
      within = e.within;
      met = λ none. inv.met (e.met none);
      works = λ t files w.
          let works = inv.works t files w in
          let due = due_at files seen seen' c.loop-symbol.symbol c.args.settings.now.max_symbols inv.settings inv.made (ap (λ (s : Settings). s.max_symbols) c.requires.same) works.1 c.loop-symbol-test.true in
          let written = e.sends (tells ∙ t) files due works.0 in (
            written,
            more_again c.packets.ensures.super_frames c.super_frames.ensures.found c.settings.ensures.exist c.args.limits.now.packets files m'' c.next_symbol.new.inputs seen seen'' (HasPut c.next_symbol.new.tx)
                written c.loop-symbol.symbol same made
                (subst (λ (s : Settings). CountsAt s c.next_symbol.new.inputs (c.loop-symbol.symbol + 1) None) (sym (same ∙ c.requires.same)) c.in-None.ensures) works.1 (λ none. c.requires.two (inv.met (e.met none))),
          );
    }

pub returns-clause-modulates : goal.returns-clause-modulates
returns-clause-modulates g c = λ t₀ files work empty.
    let before : Meaning = g.S.Station.meaning c.args.station.now in
    let start : Meaning = g.S.Station.meaning c.write_header.new.station in
    let t = ap (λ (x : Meaning). x.tells) c.in_ok-write_header.ensures.others ∙ t₀ in
    let w = headed c.args.limits.now.packets files before start c.args.inputs (seen_of c.args.tx.now) (HasPut c.args.tx.now) work empty c.in_ok-write_header.ensures.others c.symbols.ensures.none c.requires.none_made
    (subst (λ (s : Settings). WritesBytes (header s.mode) before start (Ok tt)) (sym c.requires.same) (c.in_ok-write_header.ensures.written t₀)) in
    let m : Meaning = g.S.Station.meaning c.loop-symbol.station in
    let seen : Seen = seen_of c.args.tx.now in
    let seen' : Seen = seen_of c.loop-symbol.tx in
    let inv = c.loop-symbol.invariant in
    let works = inv.works t files w in
    let most : seen'.settings.max_symbols ≡ c.args.settings.now.max_symbols = ap (λ (s : Settings). s.max_symbols) inv.settings ∙ (ap (λ (s : Settings). s.max_symbols) c.requires.same) in
    let past = ends_at_limit c.args.limits.now.packets files m c.loop-symbol.inputs seen' (HasPut c.loop-symbol.tx) works.0 c.work.ensures.at_limit c.args.settings.now.max_symbols most
    (omega (arith, inv.made, c.loop-symbol-test.false)) (due_more files seen seen' c.loop-symbol.symbol inv.settings inv.made works.1) in
    (subst (λ (s : Settings). Ends s c.args.limits.now.packets files m (Limit c.args.settings.now.max_symbols)) inv.settings past.0, past.1)
