-- What is sent of a byte goes behind what waits.
use Rattle.std.proofs.Common.{◌≡◌, ◌*◌, arith, ◌++◌, ◌+◌, ap, ◌∙◌}
use Rattle.spec_words.specs.Bits.{spelled}
use Rattle.puncture.specs.SentBits.{path_of, bits_from, sent_bits}
use Rattle.puncture.specs.Steps.{sent_before}
use Rattle.puncture.proofs.Runs.{joined, steps_grow}
use Rattle.puncture.proofs.Paths.{byte_is_path}
use Rattle.puncture.proofs.CoderLaws.{at_same}
use Rattle.puncture.proofs.coder.PuncturedEncoder.push_byte.Goals as goal

pub returns-clause-sent : goal.returns-clause-sent
returns-clause-sent g c = λ r path t at is. c.push_bits.ensures.bits ∙ ap (λ bits. c.args.to.now ++ bits) (c.coded-bits.ensures.sent r path t at is)

pub returns-clause-holds : goal.returns-clause-holds
returns-clause-holds g c = λ r path t a at is first held.
    returns-clause-sent g c r path t at is ∙ ap (λ bits. bits ++ sent_bits r path (sent_before r t) (sent_before r (t + 8))) held
    ∙ joined r path a (sent_before r t) (sent_before r (t + 8)) first (steps_grow r t 8)

pub returns-clause-of_bytes : goal.returns-clause-of_bytes
returns-clause-of_bytes g c = λ r bytes m a at is first held.
    let spelt : spelled 8 c.args.byte ≡ bits_from (path_of bytes) (8 * m + 6) 8 = ap (spelled 8) is ∙ byte_is_path bytes m in
    let next : 8 * m + 8 ≡ 8 * (m + 1) = omega arith in (
      at_same _ r (path_of bytes) (8 * m + 8) (8 * (m + 1)) next (c.coded-bits.ensures.next r (path_of bytes) (8 * m) at spelt),
      returns-clause-holds g c r (path_of bytes) (8 * m) a at spelt first held ∙ ap (λ t. sent_bits r (path_of bytes) a (sent_before r t)) next,
    )
