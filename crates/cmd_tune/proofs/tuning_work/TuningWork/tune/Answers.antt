use Rattle.std.proofs.Common.{◌≡◌, Bool, true, false, not, refl, ◌∙◌, sym, ap, subst, arith}
use Rattle.std.specs.Bool.{beq}
use Rattle.std.proofs.lemmas.Bool.{true≢false}
use Rattle.station_core.specs.Meaning.{Meaning}
use Rattle.mode_set.specs.Kept.{is_flat}
use Rattle.mode_set.specs.declared.settings.Settings.{Settings}
use Rattle.tune_in.specs.Announced.{IsAnnounced}
use Rattle.tune_in.specs.declared.frame.Found.{Found}
use Rattle.cmd_tune.specs.Tuned.{fits}
use Rattle.cmd_tune.proofs.Places.{line_tunes}
use Rattle.cmd_tune.proofs.tuning_work.TuningWork.tune.Goals as goal

-- the form fits if LP is written and there is a hierarchy, or neither
fitting : (flat two : Bool) → beq flat two ≡ false → beq two (not flat) ≡ true
fitting true true e = absurd (true≢false e)
fitting true false e = refl
fitting false true e = refl
fitting false false e = absurd (true≢false e)

-- the same at a place that announces it
fits_found : (found : Found) (two flat : Bool) → flat ≡ is_flat found.word.hierarchy → beq flat two ≡ false → fits two found ≡ true
fits_found found two flat is e = fitting (is_flat found.word.hierarchy) two (ap (λ (f : Bool). beq f two) (sym is) ∙ e)

pub returns-in_default-clause-tunes : goal.returns-in_default-clause-tunes
returns-in_default-clause-tunes g c = (fits_found c.args.found.now c.args.self.now.two c.is_flat.result (c.is_flat.ensures ∙ ap is_flat c.announced-settings.ensures.hierarchy_is) c.if-is_flat-self.false, refl)

pub returns-clause-tunes : goal.returns-clause-tunes
returns-clause-tunes g c =
    let m : Meaning = g.S.Station.meaning c.args.station.now in
    let m' : Meaning = g.S.Station.meaning c.write_some.new.station in
    line_tunes c.args.found.now c.args.self.now.two _ m m' c.as_bytes.result.now c.write_some.result
    (fits_found c.args.found.now c.args.self.now.two c.is_flat.result (c.is_flat.ensures ∙ ap is_flat c.announced-settings.ensures.hierarchy_is) c.if-is_flat-self.false)
    (record {
      is_announced = subst (λ (a : Settings). IsAnnounced c.args.found.now.word c.args.self.now.settings a) (sym c.in-Some.ensures.settings) c.announced-settings.ensures;
      stands = (c.in-Some.ensures.stands, c.requires.feeder);
      two_is = refl;
      skips = (let v = c.requires.valid in omega (arith, c.begin.ensures, v.first, v.last));
    })
    (c.as_bytes.ensures.value ∙ c.as_str.ensures.value ∙ c.place_line-line.ensures) c.write_some.ensures.writes
