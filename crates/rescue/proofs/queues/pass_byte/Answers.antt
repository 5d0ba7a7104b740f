use Rattle.rescue.proofs.Moving.{passes_one}
use Rattle.rescue.proofs.queues.pass_byte.Goals as goal

pub returns-in-Some-clause-passed : goal.returns-in-Some-clause-passed
returns-in-Some-clause-passed c = passes_one c.args.branch.now c.take_byte.new.self c.in-Some.byte _ _ c.push_byte.ensures.small c.in-Some.ensures.taken c.take_byte.ensures.rest c.push_byte.ensures.items
