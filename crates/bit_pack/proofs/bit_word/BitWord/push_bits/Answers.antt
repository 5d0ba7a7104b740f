use Rattle.std.proofs.Common.{arith, ap, ◌∙◌, ◌+◌, ◌≤◌, ◌++◌, length, length-append}
use Rattle.spec_words.specs.Bits.{spelled}
use Rattle.bit_pack.proofs.Spelling.{length-spelled}
use Rattle.bit_pack.proofs.bit_word.BitWord.push_bits.Goals as goal

pub invariant_of-self : goal.invariant_of-self
invariant_of-self c = omega (arith, c.requires.room, ap length c.self.view_is, length-spelled c.self.inside.count c.self.inside.bits)

bits : goal.returns-clause-bits
bits c =
    let fits : c.self.inside.count + c.args.count ≤ 32 = omega (arith, c.requires.room, ap length c.self.view_is, length-spelled c.self.inside.count c.self.inside.bits) in
    c.joined-self-inside.ensures c.self.inside.count fits ∙ ap (λ l. l ++ spelled c.args.count c.args.word) c.self.view_is

pub returns-clause-bits : goal.returns-clause-bits
returns-clause-bits c = bits c

pub returns-clause-amount : goal.returns-clause-amount
returns-clause-amount c = omega (arith, ap length (bits c), length-append c.args.self.now (spelled c.args.count c.args.word), length-spelled c.args.count c.args.word)
