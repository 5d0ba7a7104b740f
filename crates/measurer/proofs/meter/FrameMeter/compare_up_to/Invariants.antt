use Rattle.measurer.proofs.Comparing.{ComparesOn}
use Rattle.measurer.proofs.meter.FrameMeter.compare_up_to.Given as goal

abbrev pub invariant-loop-m : goal.invariant-loop-m
invariant-loop-m g l = ComparesOn l.initial.self l.self l._m l.to
