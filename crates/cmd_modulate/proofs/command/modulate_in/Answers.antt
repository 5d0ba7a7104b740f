use Rattle.std.proofs.Common.{◌<◌, ◌*◌, ◌∙◌, inl, refl, ap, subst, arith, List, ℕ, Option, Err}
use Rattle.std.specs.Option.{option_copied}
use Rattle.station_core.specs.Meaning.{Meaning}
use Rattle.mode_set.specs.StreamTable.{carriers}
use Rattle.mode_set.specs.declared.modes.Mode.{Mode}
use Rattle.mode_set.specs.declared.modes.Mode.TheVariants.{M2k, M8k}
use Rattle.mode_set.specs.declared.settings.Settings.{Settings}
use Rattle.cmd_base.specs.StreamForm.{fits_form}
use Rattle.cmd_modulate.specs.Steps.{RunsModulation}
use Rattle.cmd_modulate.proofs.command.modulate_in.Goals as goal

-- a symbol has a carrier
some_carriers : (m : Mode) → 0 < carriers m
some_carriers M2k = omega arith
some_carriers M8k = omega arith

pub modulate_all-requires : goal.modulate_all-requires
modulate_all-requires g c κs =
    let e = c.in-Ok-new.ensures in
    let some : 0 < 5 * g.M.Carriers.K = omega (arith, some_carriers g.M.Carriers.MODE, g.M.Carriers.k_of) in
    let lp : Option (List ℕ) = option_copied c.args.names.lp in (
      (refl, tt),
      (
        c.requires.ready,
        (
          c.requires.few,
          (
            e.settings,
            (
              ap (λ (s : Settings). fits_form s lp) e.settings ∙ c.requires.form,
              (record { made = e.made; hp = e.hp; lp = e.lp }, (e.put, (omega (arith, c.deref_mut.ensures.len, c.in-Ok.ensures.len, c.K.ensures), some))),
            ),
          ),
        ),
      ),
    )

pub returns : goal.returns
returns g c =
    let old : Meaning = g.S.Station.meaning c.args.station.now in
    let mid : Meaning = g.S.Station.meaning c.modulate_all.new.station in
    let new : Meaning = g.S.Station.meaning c.refuse-in-Err.new.station in
    inl (subst (λ (s : Settings). RunsModulation s c.args.limits.now.packets c.args.names.hp.now (option_copied c.args.names.lp) c.args.names.cells.now old new c.refuse-in-Err.result)
    c.in-Ok-new.ensures.settings
    (record {
      outcome = Err c.in-Err.refusal;
      mid = mid;
      status_is = c.refuse-in-Err.ensures.status;
      cause = c.in-Err.ensures.cause;
      ran = c.in-Err.ensures.ran;
      tells = c.refuse-in-Err.ensures.text;
    }))
