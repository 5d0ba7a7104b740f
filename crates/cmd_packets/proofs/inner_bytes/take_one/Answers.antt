use Rattle.cmd_packets.proofs.WholeBytes.{one_rest}
use Rattle.cmd_packets.proofs.inner_bytes.take_one.Goals as goal

pub returns-in-Some-clause-rest : goal.returns-in-Some-clause-rest
returns-in-Some-clause-rest c = one_rest c.in-Some.byte c.take_byte.new.self c.args.waiting.now c.in-Some.ensures.taken
