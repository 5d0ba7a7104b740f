use Rattle.test_station.proofs.tests.calls.answers.Given as goal
use Rattle.test_station.specs.Ports.{AreTrue}

abbrev pub invariant-loop-call : goal.invariant-loop-call
invariant-loop-call g l = AreTrue l.ports.bytes_asked l.ports.bytes_open l.ports.hp_asked l.ports.hp_attached (g.S.Station.meaning l.station)
