use Rattle.modulator.proofs.Feeding.{holds_more}
use Rattle.modulator.proofs.stream.StreamTx.put.Goals as goal

pub returns-clause-holds : goal.returns-clause-holds
returns-clause-holds c = λ packets n taken h e.
    holds_more c.sending.ensures.beginning c.bytes_are_paths.ensures c.args.self.now.outer c.take-word.new.self c.args.self.now.waiting c.push_word.new.to packets n taken c.args.packet.now c.take-word.result
    c.take-word.ensures.sends c.take-word.ensures.bytes c.push_word.ensures.bits h e
