use Rattle.std.proofs.Common.{arith, ap, sym, ◌∙◌, ◌≡◌, true≢false, length, refl}
use Rattle.bit_pack.proofs.Spelling.{length-spelled}
use Rattle.bit_pack.proofs.WordBits.{byte_first}
use Rattle.bit_pack.proofs.bit_word.BitWord.take_byte.Goals as goal

pub returns-then-self-lt8-clause-none : goal.returns-then-self-lt8-clause-none
returns-then-self-lt8-clause-none c =
    let old : length c.args.self.now ≡ c.self.inside.count = sym (ap length c.self.view_is) ∙ length-spelled c.self.inside.count c.self.inside.bits in
    (λ e. omega (arith, old, c.if-self-lt8.true), λ l. refl)

pub returns-clause-none : goal.returns-clause-none
returns-clause-none c =
    let old : length c.args.self.now ≡ c.self.inside.count = sym (ap length c.self.view_is) ∙ length-spelled c.self.inside.count c.self.inside.bits in
    (λ e. absurd (true≢false e), λ l. absurd (omega (arith, old, l, c.if-self-lt8.false)))

taken : goal.returns-clause-taken
taken c = sym c.self.view_is ∙ byte_first c.self.inside.bits c.self.inside.count (omega (arith, c.if-self-lt8.false))

pub returns-clause-taken : goal.returns-clause-taken
returns-clause-taken c = taken c

pub returns-clause-amount : goal.returns-clause-amount
returns-clause-amount c = omega (arith, ap length (taken c))
