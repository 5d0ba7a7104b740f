use Rattle.std.proofs.Common.{sym, subst, ap, ◌∙◌}
use Rattle.rs204.specs.Codes.{codeword}
use Rattle.outer_chain.specs.Sending.{Sends}
use Rattle.outer_chain.proofs.Sender.{sends_push, bytes_push, next_push}
use Rattle.outer_chain.proofs.tx.OuterTx.take.Goals as goal

pub returns-clause-sends : goal.returns-clause-sends
returns-clause-sends c = λ packets h.
    sends_push (record { delays = c.self.inside.interleaver; phase = c.self.inside.dispersal }) _ packets c.args.packet.now c.encode-word.result
    (c.encode-word.ensures.is ∙ ap codeword c.apply.ensures.word) c.encode-word.ensures.code.long (subst (λ s. Sends s packets) (sym c.self.view_is) h)
    c.take.ensures.stands c.apply.ensures.next

pub returns-clause-bytes : goal.returns-clause-bytes
returns-clause-bytes c = λ packets h.
    bytes_push (record { delays = c.self.inside.interleaver; phase = c.self.inside.dispersal }) packets c.args.packet.now c.encode-word.result c.take.new.word
    (c.encode-word.ensures.is ∙ ap codeword c.apply.ensures.word) c.encode-word.ensures.code.long (subst (λ s. Sends s packets) (sym c.self.view_is) h)
    c.take.ensures.given

pub returns-clause-next : goal.returns-clause-next
returns-clause-next c = λ packets h. next_push packets c.args.packet.now c.take.new.word (returns-clause-bytes c packets h)
