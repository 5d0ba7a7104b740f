use Rattle.std.proofs.Common.{◌≡◌, ◌∙◌, ℕ, Option, None, sym, ap}
use Rattle.std.specs.Prelude.{is_some}
use Rattle.station_core.specs.Meaning.{Meaning}
use Rattle.mode_set.specs.declared.settings.Settings.{Settings}
use Rattle.trial.specs.Drawn.{trial_frames}
use Rattle.cmd_trial.specs.TrialCommand.{limit_of, trial_refusal}
use Rattle.cmd_trial.proofs.Running.{ran_by}
use Rattle.cmd_trial.proofs.run.run_and_report.Goals as goal

pub returns-in-Some-clause-ran : goal.returns-in-Some-clause-ran
returns-in-Some-clause-ran g c =
    let old : Meaning = g.S.Station.meaning c.args.station.now in
    let new : Meaning = g.S.Station.meaning c.write_lines.new.station in
    let s : Settings = c.args.trial.settings in
    let n : ℕ = c.args.trial.number in
    let enough : trial_refusal s n ≡ None =
    ap (λ (most : ℕ). limit_of most (trial_frames s n)) c.requires.most
    ∙ ap (limit_of c.args.max_symbols) (sym c.super_frames.ensures)
    ∙ c.frames_within.ensures.allowed (ap (λ (o : Option ℕ). is_some o) c.in-Some.is) in
    let e = c.run-counts.ensures.counts in
    ran_by s n old new enough e.0 e.1 c.run-counts.result e.2 c.write_lines.result c.write_lines.ensures.kind c.write_lines.ensures.writes
