use Rattle.measure_stream.proofs.Bits.{byte_given}
use Rattle.measure_stream.proofs.passing.give_byte.Goals as goal

pub returns-in-Some-clause-bits : goal.returns-in-Some-clause-bits
returns-in-Some-clause-bits c = byte_given c.args.part.now c.take_byte.new.self c.args.words.now c.put_byte.new.words c.in-Some.byte c.in-Some.ensures.taken c.put_byte.ensures.small c.put_byte.ensures.measures
