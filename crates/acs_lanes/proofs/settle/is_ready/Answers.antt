use Rattle.std.proofs.lemmas.Bool.{ltb-true}
use Rattle.acs_lanes.proofs.LaneLaws.{ready_is}
use Rattle.acs_lanes.proofs.settle.is_ready.Goals as goal

pub returns-then-sums : goal.returns-then-sums
returns-then-sums c = record { ready = λ t. ready_is c.args.sums.now c.requires.close c.if-sums.true (ltb-true _ _ t) }
