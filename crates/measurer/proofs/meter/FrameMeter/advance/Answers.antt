use Rattle.std.proofs.Common.{◌+◌, ◌^◌, ◌<◌, refl, sym, subst}
use Rattle.reception.specs.Cells.{symbols}
use Rattle.measure_stream.specs.Reports.{AreFew}
use Rattle.measurer.specs.declared.current.Current.{Current}
use Rattle.measurer.specs.Seen.{MeterState}
use Rattle.measurer.specs.Standing.{MetersStand}
use Rattle.measurer.specs.Steps.{HasStood, IsDone}
use Rattle.measurer.proofs.Framing.{advanced_on, stood_few}
use Rattle.measurer.proofs.meter.FrameMeter.advance.Goals as goal

pub advance-requires : goal.advance-requires
advance-requires g c =
    let x = c.self.inside in
    let s : MeterState = record { comparer = x.comparer; hp = x.hp; lp = x.lp; current = x.current } in
    record {
      few = (stood_few c.words.ensures.whole c.steps.ensures.none c.rooms.ensures.steps s c.args.settings.now (subst (λ (z : MeterState). z.current.number < 2 ^ 31) (sym c.self.view_is) c.requires.few)
          (subst (λ (z : MeterState). HasStood c.args.settings.now z) (sym c.self.view_is) c.requires.stood)).0;
    }

pub advance-requires-2 : goal.advance-requires-2
advance-requires-2 g c =
    let x = c.self.inside in
    let s : MeterState = record { comparer = x.comparer; hp = x.hp; lp = x.lp; current = x.current } in
    record {
      few = (stood_few c.words.ensures.whole c.steps.ensures.none c.rooms.ensures.steps s c.args.settings.now (subst (λ (z : MeterState). z.current.number < 2 ^ 31) (sym c.self.view_is) c.requires.few)
          (subst (λ (z : MeterState). HasStood c.args.settings.now z) (sym c.self.view_is) c.requires.stood)).1;
    }

pub returns-clause-hp_reports : goal.returns-clause-hp_reports
returns-clause-hp_reports g c = λ n k. c.advance.ensures.reports n (subst (λ (z : MeterState). AreFew z.hp.reports n) (sym c.self.view_is) k)

pub returns-clause-lp_reports : goal.returns-clause-lp_reports
returns-clause-lp_reports g c = λ n k. c.advance-2.ensures.reports n (subst (λ (z : MeterState). AreFew z.lp.reports n) (sym c.self.view_is) k)

pub returns-clause-advanced : goal.returns-clause-advanced
returns-clause-advanced g c = λ moment bytes.
    let x = c.self.inside in
    let s : MeterState = record { comparer = x.comparer; hp = x.hp; lp = x.lp; current = x.current } in
    let t = c.args.settings.now in
    subst (λ (z : MeterState). MetersStand moment t bytes z → IsDone moment (symbols t bytes) z.comparer.next z.current.number → MetersStand moment t bytes (record { comparer = x.comparer; hp = c.advance.new.self; lp = c.advance-2.new.self; current = c.at-self-inside.result })) c.self.view_is
    (λ h d. subst (λ (k : Current). MetersStand moment t bytes (record { comparer = x.comparer; hp = c.advance.new.self; lp = c.advance-2.new.self; current = k })) (sym c.at-self-inside.ensures.is)
    (advanced_on (record { given_once = c.given_once.ensures.law; ended_once = c.ended_once.ensures.law; same = c.costs.ensures.same; long = c.costs.ensures.long; next = c.steps.ensures.next; grow = c.steps.ensures.grow })
    s c.advance.new.self c.advance-2.new.self (x.current.number + 1) c.args.frames.now.read c.args.frames.now.bad moment t bytes refl c.advance.ensures.advanced c.advance-2.ensures.advanced c.advance.ensures.known c.advance-2.ensures.known h d))
