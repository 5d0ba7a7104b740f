use Rattle.std.proofs.Common.{◌≡◌, ◌∙◌, List, ℕ, Option, Bool, false, sym, ap}
use Rattle.std.specs.Prelude.{is_some}
use Rattle.std.specs.Bool.{beq}
use Rattle.std.specs.Option.{option_copied}
use Rattle.mode_set.specs.Entries.{has_lp}
use Rattle.station_core.specs.Meaning.{Meaning}
use Rattle.cmd_base.specs.StreamForm.{fits_form}
use Rattle.cmd_base.proofs.Fitting.{copied_some, misfit, differ}
use Rattle.cmd_base.proofs.fitting_step.read_fitting.Goals as goal

pub returns-then-is_some-has_lp-clause-accepts : goal.returns-then-is_some-has_lp-clause-accepts
returns-then-is_some-has_lp-clause-accepts g c =
    let old : Meaning = g.S.Station.meaning c.args.station.now in
    let lp : Option (List ℕ) = option_copied c.args.lp in
    let reads = c.in_ok-settings.ensures.reads in
    let has : c.is_some.result ≡ is_some lp = c.is_some.ensures ∙ copied_some c.args.lp in
    let other : fits_form c.in_ok-settings.settings lp ≡ false =
    ap (λ (b : Bool). beq b (has_lp c.in_ok-settings.settings)) (sym has) ∙ ap (beq c.is_some.result) (sym c.has_lp.ensures) ∙ differ c.is_some.result c.has_lp.result c.if-is_some-has_lp.true in
    (reads.0, λ t. let r = reads.3 t in misfit (old.file c.args.name.now) lp c.in_ok-settings.settings r.1.1 r.1.2 other)
