use Rattle.measure_known_bits.proofs.Rooms.{steps_few, few_wait}
use Rattle.measure_known_bits.proofs.laws.rooms.Goals as goal

pub returns-clause-steps : goal.returns-clause-steps
returns-clause-steps c = steps_few c.steps.ensures.next

pub returns-clause-wait : goal.returns-clause-wait
returns-clause-wait c = few_wait c.steps.ensures.next
