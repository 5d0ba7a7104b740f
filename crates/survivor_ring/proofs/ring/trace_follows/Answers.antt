use Rattle.survivor_ring.proofs.Walks.{trace_push}
use Rattle.survivor_ring.proofs.ring.trace_follows.Goals as goal

pub returns : goal.returns
returns c = record { law = trace_push }
