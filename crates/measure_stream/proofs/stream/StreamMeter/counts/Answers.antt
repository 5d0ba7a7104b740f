use Rattle.measure_stream.proofs.Meters.{totals}
use Rattle.measure_stream.proofs.stream.StreamMeter.counts.Goals as goal

pub returns : goal.returns
returns c = record { totals = λ moment s σ j from k bits reports h. totals c.bits.ensures.byte moment c.args.self.now s σ j from k bits reports c.all-words.result c.all-words.ensures.all h }
