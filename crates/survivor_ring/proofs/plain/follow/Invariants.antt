use Rattle.std.proofs.Common.{◌≡◌, take}
use Rattle.survivor_ring.proofs.plain.follow.Given as goal

abbrev pub invariant-loop-k : goal.invariant-loop-k
invariant-loop-k l = take l.k l.to ≡ take l.k l.from
