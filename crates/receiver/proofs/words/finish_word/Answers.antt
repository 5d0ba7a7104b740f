use Rattle.std.proofs.Common.{◌∙◌, ap}
use Rattle.receiver.specs.Words.{counted}
use Rattle.receiver.proofs.Pending.{word_wrote}
use Rattle.receiver.proofs.words.finish_word.Goals as goal

pub returns-clause-wrote : goal.returns-clause-wrote
returns-clause-wrote c = λ bytes given tally done h l d.
    word_wrote c.receiving.ensures.word c.args.outer.now c.finish_word-packet.new.self c.args.slot.now c.finish_word-packet.result c.args.counts.now c.count.new.counts c.args.to.now.items c.append_packet.new.to.items bytes given tally done
    c.finish_word-packet.ensures.stands c.finish_word-packet.ensures.phase c.finish_word-packet.ensures.packet
    (c.count.ensures.counted ∙ ap (counted c.args.counts.now c.args.slot.now.outcome) c.is_some.ensures) c.append_packet.ensures.items h l d
