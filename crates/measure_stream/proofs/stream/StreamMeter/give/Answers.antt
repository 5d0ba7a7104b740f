use Rattle.std.proofs.Common.{ap, arith}
use Rattle.measure_words.specs.declared.counts.WordSums.{WordSums}
use Rattle.measure_stream.proofs.Standing.{room_at_first, none_waits, all_known, all_given}
use Rattle.measure_stream.proofs.stream.StreamMeter.give.Goals as goal

pub pass_bits-requires-clause-few : goal.pass_bits-requires-clause-few
pass_bits-requires-clause-few g c = c.requires.may.few

pub pass_bits-requires-clause-room : goal.pass_bits-requires-clause-room
pass_bits-requires-clause-room g c = room_at_first c.args.self.now _ (omega (arith, c.waiting-waiting.ensures.few, c.waiting-waiting.ensures.number)) c.requires.may

pub finish-requires-clause-few : goal.finish-requires-clause-few
finish-requires-clause-few g c = omega (arith, ap (λ (z : WordSums). z.words) c.pass_bits.ensures.takes.all, c.requires.few)

pub returns-clause-few : goal.returns-clause-few
returns-clause-few g c = omega (arith, c.finish.ensures.words, ap (λ (z : WordSums). z.words) c.pass_bits.ensures.takes.all, c.pass_bits.ensures.slots)

pub returns-clause-branch : goal.returns-clause-branch
returns-clause-branch g c = none_waits _ _ _ _ _ _ _ _ c.pass_bits.ensures.takes

pub returns-clause-known : goal.returns-clause-known
returns-clause-known g c = all_known _ _ _ _ _ _ _ _ c.pass_bits.ensures.takes

pub returns-clause-gave : goal.returns-clause-gave
returns-clause-gave g c = record {
  few = c.pass_bits.ensures.takes.few;
  none = c.finish.ensures.none;
  bits = all_given _ _ _ _ _ _ _ _ _ c.limit_of-limit.result _ c.limit_of-limit.ensures.is c.pass_bits.ensures.takes c.finish.ensures.measures;
}
