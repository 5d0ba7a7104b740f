use Rattle.std.proofs.Common.{rules, ◌≡◌, length}
use Rattle.outer_chain.proofs.DecodedWords.{decoded_nearest, nearest_taken, nearest_told}
use Rattle.outer_chain.proofs.slot.WordSlot.decode.Goals as goal

pub returns-clause-nearest : goal.returns-clause-nearest
returns-clause-nearest c = λ near h.
    let long : length c.args.self.now.word ≡ 204 = search rules in
    nearest_taken c.decode-self.new.word near c.decode-self.result (decoded_nearest c.args.self.now.word c.decode-self.new.word near c.decode-self.result long c.decode-self.ensures.decoded h)

pub returns-clause-not_bad : goal.returns-clause-not_bad
returns-clause-not_bad c = λ near h.
    let long : length c.args.self.now.word ≡ 204 = search rules in
    nearest_told c.decode-self.new.word near c.decode-self.result (decoded_nearest c.args.self.now.word c.decode-self.new.word near c.decode-self.result long c.decode-self.ensures.decoded h)
