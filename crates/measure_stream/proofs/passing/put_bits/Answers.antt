use Rattle.std.proofs.Common.{◌++◌}
use Rattle.spec_words.specs.Bits.{spelled}
use Rattle.measure_stream.proofs.Bits.{bits_put}
use Rattle.measure_stream.proofs.passing.put_bits.Goals as goal

pub returns-clause-bits : goal.returns-clause-bits
returns-clause-bits c = λ bits done from limit h.
    c.give_byte.ensures.bits (bits ++ spelled c.args.count c.args.word) done from limit
    (bits_put c.args.part.now c.push_bits.new.self (spelled c.args.count c.args.word) c.args.words.now c.push_bits.ensures.bits bits done from limit h)
