use Rattle.std.proofs.Common.{◌≡◌, ◌+◌, take}
use Rattle.survivor_ring.specs.Survivors.{AreAllPushed}
use Rattle.survivor_ring.proofs.survivors.Survivors.push_all.Given as goal

abbrev pub invariant-loop-k : goal.invariant-loop-k
invariant-loop-k g l = record {
  states : g.Self.Survivors.states l.self ≡ 18446744073709551615;
  count : g.Self.Survivors.count l.self ≡ g.Self.Survivors.count l.initial.self + l.k;
  list : AreAllPushed (g.Self.Survivors.list l.initial.self) (take l.k l.decisions) (g.Self.Survivors.list l.self);
}
