use Rattle.measure_stream.proofs.Meters.{stands_ready, runs_on}
use Rattle.measure_stream.proofs.laws.ready.Goals as goal

pub returns-clause-ready : goal.returns-clause-ready
returns-clause-ready c = stands_ready

pub returns-clause-runs : goal.returns-clause-runs
returns-clause-runs c = runs_on
