use Rattle.std.proofs.Common.{◌≡◌, ◌∙◌, inl, true, ℕ, Bool, List, Option, None, Ok, refl, ap, sym, subst}
use Rattle.std.specs.Prelude.{is_some, IsTrue}
use Rattle.std.specs.Option.{option_copied}
use Rattle.station_core.specs.Meaning.{Meaning}
use Rattle.mode_set.specs.declared.modes.Stream.{Stream}
use Rattle.mode_set.specs.declared.modes.Stream.TheVariants.{Lp}
use Rattle.symbol_parameters.specs.Spans.{exists_in}
use Rattle.modulator.specs.State.{HasPut}
use Rattle.cmd_modulate.specs.ModulateCommand.{files_of, inputs_of}
use Rattle.cmd_modulate.specs.declared.inputs.PacketInputs.{PacketInputs}
use Rattle.cmd_modulate.specs.Seen.{Seen, seen_of}
use Rattle.cmd_modulate.specs.Work.{AreOpen, AreWithin, IsAtWork}
use Rattle.cmd_modulate.specs.Reporting.{Finishes}
use Rattle.cmd_modulate.specs.Steps.{IsAccepted, OpensAll, Ran, first_inputs}
use Rattle.cmd_base.proofs.Fitting.{copied_some}
use Rattle.cmd_base.proofs.HandedOn.{handed_on}
use Rattle.cmd_base.specs.Causes.{HasEndCause}
use Rattle.cmd_base.proofs.EndCauses.{finished_cause, refused_cause, settled_cause}
use Rattle.cmd_modulate.specs.declared.counts.TransmissionCounts.{TransmissionCounts}
use Rattle.cmd_modulate.proofs.Endings.{starts, unwritten, refused_with, finished, lp_exists, first_open, first_within, unopened_waits}
use Rattle.cmd_modulate.proofs.run.modulate_all.Goals as goal

pub send_file-requires : goal.send_file-requires
send_file-requires g c κs =
    let old : Meaning = g.S.Station.meaning c.args.station.now in
    let mid : Meaning = g.S.Station.meaning c.open.new.station in
    let lp : Option (List ℕ) = option_copied c.args.names.lp in
    let s = c.args.tx.now.settings in
    let first : c.first.result ≡ first_inputs (is_some lp) = c.first.ensures ∙ ap first_inputs (c.is_some-two.ensures ∙ copied_some c.args.names.lp) in
    let opened : OpensAll c.args.names.hp.now lp c.args.names.cells.now old mid (Ok tt) = c.in_ok-open.ensures.opened in
    let two : c.first.result.lp.tail ≡ None → IsTrue (exists_in s Lp) = λ none. lp_exists s lp c.requires.form (subst (λ (x : PacketInputs). x.lp.tail ≡ None) first none) in
    let inputs_open : AreOpen c.first.result mid = subst (λ (x : PacketInputs). AreOpen x mid) (sym first) (first_open c.args.names.hp.now lp c.args.names.cells.now old mid opened) in
    let within : AreWithin c.args.limits.now.packets c.first.result = subst (λ (x : PacketInputs). AreWithin c.args.limits.now.packets x) (sym first) (first_within c.args.limits.now.packets (is_some lp)) in (
      (refl, tt),
      (
        c.requires.few,
        (
          c.requires.same,
          (
            two,
            (
              c.requires.new.made,
              (c.requires.long, (c.requires.some, (ap (λ (x : Meaning). x.cells_out.created) opened, (ap (λ (x : Meaning). x.cells_out.closed) opened, (inputs_open, within))))),
            ),
          ),
        ),
      ),
    )

pub returns-in_err-open-clause-ran : goal.returns-in_err-open-clause-ran
returns-in_err-open-clause-ran g c =
    let old : Meaning = g.S.Station.meaning c.args.station.now in
    let mid : Meaning = g.S.Station.meaning c.open.new.station in
    let s = c.args.tx.now.settings in
    handed_on c.from_residual.result c.in_err-open.field-0.0
    (Ran s c.args.limits.now.packets c.args.names.hp.now (option_copied c.args.names.lp) c.args.names.cells.now old mid)
    c.from_residual.ensures.1 (inl c.in_err-open.ensures.opened)

pub returns-in-Ok-clause-ran : goal.returns-in-Ok-clause-ran
returns-in-Ok-clause-ran g c =
    let old : Meaning = g.S.Station.meaning c.args.station.now in
    let mid : Meaning = g.S.Station.meaning c.open.new.station in
    let fin : Meaning = g.S.Station.meaning c.send_file.new.station in
    let new : Meaning = g.S.Station.meaning c.finish.new.station in
    let t : Seen = seen_of c.args.tx.now in
    let put = HasPut c.args.tx.now in
    let hp : List ℕ = c.args.names.hp.now in
    let lp : Option (List ℕ) = option_copied c.args.names.lp in
    let cells : List ℕ = c.args.names.cells.now in
    let limit : ℕ = c.args.limits.now.packets in
    let files : Stream → List ℕ = files_of old.file hp lp in
    let two : c.is_some-two.result ≡ is_some lp = c.is_some-two.ensures ∙ copied_some c.args.names.lp in
    let first : c.first.result ≡ first_inputs (is_some lp) = c.first.ensures ∙ ap first_inputs two in
    let start = starts t.settings limit hp lp cells old mid c.in_ok-open.ensures.opened c.work.ensures.begins c.requires.ready.lp_attached t put c.requires.new (c.requires.stands (inputs_of files)) in
    let start' = subst (λ (i : PacketInputs). IsAtWork limit files mid i t put) (sym first) start in
    finished t.settings limit hp lp cells old mid c.in_ok-open.ensures.opened fin new c.send_file.ensures.others c.in-Ok.counts
    (λ told. c.in-Ok.ensures.modulates told files start' (unwritten t.settings limit hp lp cells old mid c.in_ok-open.ensures.opened)) c.finish.result c.finish.ensures.kind
    (subst (λ (b : Bool). Finishes b c.in-Ok.counts fin new c.finish.result) two c.finish.ensures.finished)

pub returns-in-Err-clause-ran : goal.returns-in-Err-clause-ran
returns-in-Err-clause-ran g c =
    let old : Meaning = g.S.Station.meaning c.args.station.now in
    let mid : Meaning = g.S.Station.meaning c.open.new.station in
    let fin : Meaning = g.S.Station.meaning c.send_file.new.station in
    let new : Meaning = g.S.Station.meaning c.close_refused.new.station in
    let t : Seen = seen_of c.args.tx.now in
    let put = HasPut c.args.tx.now in
    let hp : List ℕ = c.args.names.hp.now in
    let lp : Option (List ℕ) = option_copied c.args.names.lp in
    let cells : List ℕ = c.args.names.cells.now in
    let limit : ℕ = c.args.limits.now.packets in
    let files : Stream → List ℕ = files_of old.file hp lp in
    let two : c.is_some-two.result ≡ is_some lp = c.is_some-two.ensures ∙ copied_some c.args.names.lp in
    let first : c.first.result ≡ first_inputs (is_some lp) = c.first.ensures ∙ ap first_inputs two in
    let start = starts t.settings limit hp lp cells old mid c.in_ok-open.ensures.opened c.work.ensures.begins c.requires.ready.lp_attached t put c.requires.new (c.requires.stands (inputs_of files)) in
    let start' = subst (λ (i : PacketInputs). IsAtWork limit files mid i t put) (sym first) start in
    refused_with t.settings limit hp lp cells old mid c.in_ok-open.ensures.opened c.symbols.ensures.part fin new c.send_file.ensures.others c.in-Err.refusal c.close_refused.result
    (λ told. c.in-Err.ensures.modulates told files start' (unwritten t.settings limit hp lp cells old mid c.in_ok-open.ensures.opened)) c.close_refused.ensures.closed

pub returns-in_err-open-clause-cause : goal.returns-in_err-open-clause-cause
returns-in_err-open-clause-cause g c =
    let old : Meaning = g.S.Station.meaning c.args.station.now in
    let mid : Meaning = g.S.Station.meaning c.open.new.station in
    let files : Stream → List ℕ = files_of old.file c.args.names.hp.now (option_copied c.args.names.lp) in
    let whole : Type 0 = old.tells ≡ true → IsAccepted c.args.tx.now.settings c.args.limits.now.packets files in
    handed_on c.from_residual.result c.in_err-open.field-0.0 (HasEndCause whole old mid) c.from_residual.ensures.1
    (refused_cause (Unit {0}) TransmissionCounts whole old old mid mid c.in_err-open.field-0.0 (record { reads = refl; writes = refl }) c.in_err-open.ensures.cause refl refl
    (unopened_waits c.args.names.hp.now (option_copied c.args.names.lp) c.args.names.cells.now old mid c.in_err-open.field-0.0 c.in_err-open.ensures.opened ∙ c.requires.ready.settled))

pub returns-in-Ok-clause-cause : goal.returns-in-Ok-clause-cause
returns-in-Ok-clause-cause g c =
    let old : Meaning = g.S.Station.meaning c.args.station.now in
    let mid : Meaning = g.S.Station.meaning c.open.new.station in
    let fin : Meaning = g.S.Station.meaning c.send_file.new.station in
    let new : Meaning = g.S.Station.meaning c.finish.new.station in
    let t : Seen = seen_of c.args.tx.now in
    let put = HasPut c.args.tx.now in
    let hp : List ℕ = c.args.names.hp.now in
    let lp : Option (List ℕ) = option_copied c.args.names.lp in
    let cells : List ℕ = c.args.names.cells.now in
    let limit : ℕ = c.args.limits.now.packets in
    let files : Stream → List ℕ = files_of old.file hp lp in
    let opened : OpensAll hp lp cells old mid (Ok tt) = c.in_ok-open.ensures.opened in
    let two : c.is_some-two.result ≡ is_some lp = c.is_some-two.ensures ∙ copied_some c.args.names.lp in
    let first : c.first.result ≡ first_inputs (is_some lp) = c.first.ensures ∙ ap first_inputs two in
    let start = starts t.settings limit hp lp cells old mid opened c.work.ensures.begins c.requires.ready.lp_attached t put c.requires.new (c.requires.stands (inputs_of files)) in
    let start' = subst (λ (i : PacketInputs). IsAtWork limit files mid i t put) (sym first) start in
    let work = c.in-Ok.ensures in
    finished_cause TransmissionCounts (old.tells ≡ true → IsAccepted t.settings limit files) old fin new c.finish.result
    (record { reads = work.cause.reads ∙ c.in_ok-open.ensures.cause.reads; writes = work.cause.writes ∙ c.in_ok-open.ensures.cause.writes })
    (ap (λ (x : Meaning). x.close_faults) c.send_file.ensures.others ∙ ap (λ (x : Meaning). x.close_faults) opened)
    (λ told. (work.modulates (ap (λ (x : Meaning). x.tells) opened ∙ told) files start' (unwritten t.settings limit hp lp cells old mid opened)).3)
    c.finish.ensures.cause

pub returns-in-Err-clause-cause : goal.returns-in-Err-clause-cause
returns-in-Err-clause-cause g c =
    let old : Meaning = g.S.Station.meaning c.args.station.now in
    let mid : Meaning = g.S.Station.meaning c.open.new.station in
    let fin : Meaning = g.S.Station.meaning c.send_file.new.station in
    let new : Meaning = g.S.Station.meaning c.close_refused.new.station in
    let files : Stream → List ℕ = files_of old.file c.args.names.hp.now (option_copied c.args.names.lp) in
    let shut = c.close_refused.ensures.closed in
    settled_cause TransmissionCounts TransmissionCounts (old.tells ≡ true → IsAccepted c.args.tx.now.settings c.args.limits.now.packets files) old mid fin shut.flushed new c.in-Err.refusal c.close_refused.result
    c.in_ok-open.ensures.cause c.in-Err.ensures.cause shut.settles (ap (λ (x : Meaning). x.read_faults) shut.closes.closed) (ap (λ (x : Meaning). x.write_faults) shut.closes.closed) (ap (λ (x : Meaning). x.pending) shut.closes.closed)
