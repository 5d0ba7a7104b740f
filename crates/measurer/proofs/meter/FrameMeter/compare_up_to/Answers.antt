use Rattle.std.proofs.Common.{ap, ◌∙◌}
use Rattle.measurer.specs.Seen.{MeterState}
use Rattle.measurer.proofs.Comparing.{compares_first, compares_next}
use Rattle.measurer.proofs.meter.FrameMeter.compare_up_to.Goals as goal

pub loop-m-init : goal.loop-m-init
loop-m-init g c = compares_first c.args.self.now c.next-m.result c.args.to (c.next-m.ensures.number ∙ ap (λ (z : MeterState). z.comparer.next) c.self.view_is) c.requires.begun c.requires.little c.requires.symbols

pub loop-m-preserved : goal.loop-m-preserved
loop-m-preserved g c = compares_next c.args.self.now c.loop-m.self c.compare.new.self c.loop-m._m c.args.to c.loop-m-test.true c.loop-m.invariant c.compare.ensures.begun c.compare.ensures.little c.compare.ensures.symbols c.compare.ensures.next c.compare.ensures.current c.compare.ensures.compared
