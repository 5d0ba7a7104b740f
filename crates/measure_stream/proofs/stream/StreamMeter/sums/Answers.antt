use Rattle.measure_stream.proofs.Standing.{are_sums}
use Rattle.measure_stream.proofs.stream.StreamMeter.sums.Goals as goal

pub returns : goal.returns
returns c = record {
  sums = λ moment s bytes known σ j from given reports h k f eb ew.
      are_sums c.bits.ensures.byte moment c.args.self.now s bytes known σ j from given reports c.args.bits.now.bits c.args.bits.now.wrong c.current-words.result c.current-words.ensures.current h k f eb ew;
}
