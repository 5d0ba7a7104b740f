use Rattle.std.proofs.Common.{◌∙◌, ap}
use Rattle.rescue_words.specs.Recovering.{counted}
use Rattle.rescue_words.proofs.Finishing.{word_finished}
use Rattle.rescue_words.proofs.recovery.finish_known.Goals as goal

pub returns-then-known-clause-finished : goal.returns-then-known-clause-finished
returns-then-known-clause-finished c = λ known.
    word_finished c.args.slot.word c.args.margins.now c.recover-kind.new.slot c.recover-kind.result c.args.outer.now.phase c.finish_word-packet.new.self.phase c.finish_word-packet.result c.args.to.now.items c.append_packet.new.to.items c.args.counts.now c.count.new.counts
    c.recover-kind.ensures.recovered c.finish_word-packet.ensures.phase c.finish_word-packet.ensures.packet (c.count.ensures.counted ∙ ap (counted c.args.counts.now c.recover-kind.result) c.is_some.ensures) c.append_packet.ensures.items
