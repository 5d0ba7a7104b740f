use Rattle.measure_sums.proofs.Placing.{six_bits}
use Rattle.measure_sums.proofs.place.sent_bits.Goals as goal

pub returns : goal.returns
returns c = λ e l. six_bits c.args.label _ _ _ _ _ _ c.bit_of.ensures c.bit_of-2.ensures c.bit_of-3.ensures c.bit_of-4.ensures c.bit_of-5.ensures c.bit_of-6.ensures e l
