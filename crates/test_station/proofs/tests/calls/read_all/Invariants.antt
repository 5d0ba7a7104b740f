use Rattle.test_station.proofs.tests.calls.read_all.Given as goal
use Rattle.test_station.specs.Ports.{AreTrue}

abbrev pub invariant-loop : goal.invariant-loop
invariant-loop g l = AreTrue l.ports.bytes_asked l.ports.bytes_open l.ports.hp_asked l.ports.hp_attached (g.S.Station.meaning l.station)
