use Rattle.std.proofs.Common.{◌++◌, ℕ, List, true, refl, sym, ap, ◌∙◌, subst}
use Rattle.std.specs.List.{concat}
use Rattle.mode_set.specs.declared.settings.Settings.{Settings}
use Rattle.reception.specs.Streams.{so_far, at_end}
use Rattle.measurer.specs.Kept.{HasMeasured}
use Rattle.measurer.specs.Seen.{MeasurerState}
use Rattle.measurer.specs.Standing.{StandsFor, GoOn, MetersStand}
use Rattle.measurer.specs.Steps.{IsEnded}
use Rattle.measurer.proofs.Lining.{live_lines}
use Rattle.measurer.proofs.Feeding.{state}
use Rattle.measurer.proofs.Ending.{EndsFrame, ending_first, ended_next, finishes}
use Rattle.measurer.proofs.measurer.Measurer.finish.Goals as goal

pub end_super_frame-requires-clause-ending : goal.end_super_frame-requires-clause-ending
end_super_frame-requires-clause-ending g c =
    let x = c.self.inside in
    let m : HasMeasured (state x.cells x.meter x.frames x.ended) = c.self.invariant.measured (ap (λ (z : MeasurerState). z.ended) c.self.view_is ∙ c.requires.going) in
    let finished = subst (λ (z : Settings). (bytes : List ℕ) → GoOn z bytes x.meter → MetersStand at_end z bytes c.finish.new.self) c.settings-2.ensures.settings c.finish.ensures.finished in
    record {
      bytes = m.bytes;
      lines = m.lines;
      count = sym m.stands.taken;
      ending = ending_first x.cells.settings m.bytes x.frames x.meter c.finish.new.self m.lines m.stands.goes_on.meters m.stands.goes_on.frames c.finish.ensures.comparer c.finish.ensures.current (finished m.bytes m.stands.goes_on.meters)
          (live_lines x.cells.settings m.bytes m.lines m.stands.lines_are);
    }

pub end_super_frame-requires-2-clause-ending : goal.end_super_frame-requires-2-clause-ending
end_super_frame-requires-2-clause-ending g c =
    let x = c.self.inside in
    let m : HasMeasured (state x.cells x.meter x.frames x.ended) = c.self.invariant.measured (ap (λ (z : MeasurerState). z.ended) c.self.view_is ∙ c.requires.going) in
    let finished = subst (λ (z : Settings). (bytes : List ℕ) → GoOn z bytes x.meter → MetersStand at_end z bytes c.finish.new.self) c.settings-2.ensures.settings c.finish.ensures.finished in
    let first : IsEnded x.cells.settings x.cells.taken x.frames c.finish.new.self = record {
      bytes = m.bytes;
      lines = m.lines;
      count = sym m.stands.taken;
      ending = ending_first x.cells.settings m.bytes x.frames x.meter c.finish.new.self m.lines m.stands.goes_on.meters m.stands.goes_on.frames c.finish.ensures.comparer c.finish.ensures.current (finished m.bytes m.stands.goes_on.meters)
          (live_lines x.cells.settings m.bytes m.lines m.stands.lines_are);
    } in
    let e1 : EndsFrame x.cells.settings x.cells.taken x.frames c.finish.new.self c.end_super_frame.new.meter c.clear.new.self c.end_super_frame.new.out =
    record { further = c.end_super_frame.ensures.further; stays = c.end_super_frame.ensures.stays; ended = c.end_super_frame.ensures.ended } in
    ended_next x.cells.settings x.cells.taken x.frames c.finish.new.self c.end_super_frame.new.meter c.clear.new.self c.end_super_frame.new.out first e1

pub returns-clause-finished : goal.returns-clause-finished
returns-clause-finished g c = λ bytes given.
    let x = c.self.inside in
    let s = x.cells.settings in
    let finished = subst (λ (z : Settings). (bytes : List ℕ) → GoOn z bytes x.meter → MetersStand at_end z bytes c.finish.new.self) c.settings-2.ensures.settings c.finish.ensures.finished in
    let e1 : EndsFrame s x.cells.taken x.frames c.finish.new.self c.end_super_frame.new.meter c.clear.new.self c.end_super_frame.new.out =
    record { further = c.end_super_frame.ensures.further; stays = c.end_super_frame.ensures.stays; ended = c.end_super_frame.ensures.ended } in
    let e2 : EndsFrame s x.cells.taken x.frames c.end_super_frame.new.meter c.end_super_frame-2.new.meter c.end_super_frame.new.out c.end_super_frame-2.new.out =
    record { further = c.end_super_frame-2.ensures.further; stays = c.end_super_frame-2.ensures.stays; ended = c.end_super_frame-2.ensures.ended } in
    subst (λ (z : MeasurerState). StandsFor so_far z bytes given → StandsFor at_end (state x.cells c.end_super_frame-2.new.meter x.frames true) bytes (given ++ concat c.put_counts.new.out)) c.self.view_is
    (λ h. record {
      ended = refl;
      taken = h.taken;
      rest = h.rest;
      lines_are = finishes s bytes given x.cells.taken x.frames c.finish.new.self c.end_super_frame.new.meter c.end_super_frame-2.new.meter c.clear.new.self c.end_super_frame.new.out c.end_super_frame-2.new.out c.put_counts.new.out c.counts.result (sym h.taken)
          (ending_first s bytes x.frames x.meter c.finish.new.self given h.goes_on.meters h.goes_on.frames c.finish.ensures.comparer c.finish.ensures.current (finished bytes h.goes_on.meters) (live_lines s bytes given h.lines_are))
          e1 e2 c.clear.ensures.nothing c.put_counts.ensures.lines (λ stand reader. c.counts.ensures.counts bytes stand reader h.taken h.rest);
      goes_on = tt;
    })
