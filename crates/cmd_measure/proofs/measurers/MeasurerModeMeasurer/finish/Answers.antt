use Rattle.cmd_measure.proofs.measurers.MeasurerModeMeasurer.finish.Goals as goal

pub finish-requires-sync-R : goal.finish-requires-sync-R
finish-requires-sync-R g c κs within = record { shared = c.requires.threads.shared }
