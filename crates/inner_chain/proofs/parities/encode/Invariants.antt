use Rattle.std.proofs.Common.{◌-◌, ◌≤◌}
use Rattle.inner_chain.specs.Tables.{IsEncoded}
use Rattle.inner_chain.proofs.parities.encode.Given as goal

abbrev pub invariant-loop-done : goal.invariant-loop-done
invariant-loop-done l = record {
  encoded : IsEncoded l.initial.waiting l.initial.encoder l.initial.to l.first l.count l.done l.waiting l.encoder l.to;
  few : l.done ≤ l.count;
}

abbrev pub decreases-loop-done : goal.decreases-loop-done
decreases-loop-done l = l.count - l.done
