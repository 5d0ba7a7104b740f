-- What is sent of a byte goes behind what waits.
use Rattle.std.proofs.Common.{◌++◌, ap, ◌∙◌}
use Rattle.puncture.proofs.coder.PuncturedEncoder.push_byte_in_word.Goals as goal

pub returns-clause-sent : goal.returns-clause-sent
returns-clause-sent c = λ r path t at is. c.push_bits.ensures.bits ∙ ap (λ bits. c.args.to.now ++ bits) (c.coded-bits.ensures.sent r path t at is)
