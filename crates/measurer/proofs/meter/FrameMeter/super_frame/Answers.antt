use Rattle.std.proofs.Common.{◌-◌, sym, subst}
use Rattle.reception.specs.Cells.{symbols}
use Rattle.measure_report.specs.declared.sums.SuperFrame.{SuperFrame}
use Rattle.measurement.specs.SuperFrames.{AreSums}
use Rattle.measurer.specs.Seen.{MeterState}
use Rattle.measurer.specs.Standing.{MetersStand, FramesStand}
use Rattle.measurer.specs.Steps.{CountsOn, IsDone}
use Rattle.measurer.proofs.Framing.{frame_sums, counts_on}
use Rattle.measurer.proofs.meter.FrameMeter.super_frame.Goals as goal

pub overflow_sub-result : goal.overflow_sub-result
overflow_sub-result g c = (counts_on c.self.inside.current c.args.frames.now (subst (λ (z : MeterState). CountsOn z.current c.args.frames.now) (sym c.self.view_is) c.requires.counts)).0

pub overflow_sub-result-2 : goal.overflow_sub-result-2
overflow_sub-result-2 g c = (counts_on c.self.inside.current c.args.frames.now (subst (λ (z : MeterState). CountsOn z.current c.args.frames.now) (sym c.self.view_is) c.requires.counts)).1

pub returns : goal.returns
returns g c = record {
  sums = λ moment bytes.
      let x = c.self.inside in
      let s : MeterState = record { comparer = x.comparer; hp = x.hp; lp = x.lp; current = x.current } in
      let t = c.args.cells.now.settings in
      let frames = c.args.frames.now in
      let f : SuperFrame = record { number = x.current.number; symbols = x.current.symbols; cells = x.current.sums.cells; muted = x.current.sums.muted; power = x.current.sums.power; error = x.current.sums.error; tps_read = frames.read - x.current.read_before; tps_bad = frames.bad - x.current.bad_before; hp = c.sums-hp.result; lp = c.where_lp.result } in
      subst (λ (z : MeterState). MetersStand moment t bytes z → FramesStand t bytes frames z.current → IsDone moment (symbols t bytes) z.comparer.next z.current.number → AreSums t bytes z.current.number f) c.self.view_is
      (frame_sums (record { given_once = c.given_once.ensures.law; ended_once = c.ended_once.ensures.law; same = c.costs.ensures.same; long = c.costs.ensures.long; next = c.steps.ensures.next; grow = c.steps.ensures.grow }) c.existence.ensures.given c.existence.ensures.ended
      s frames moment t bytes c.sums-hp.result c.sums-lp.result c.where_lp.result c.sums-hp.ensures.sums c.sums-lp.ensures.sums c.where_lp.ensures);
}
