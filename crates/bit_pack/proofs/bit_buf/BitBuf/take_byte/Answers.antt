use Rattle.std.proofs.Common.{arith, ap, sym, ◌∙◌, refl, ◌+◌, ◌-◌, ◌*◌, ◌≡◌, ◌<◌, true≢false, ◌++◌, length}
use Rattle.spec_words.specs.Bits.{spelled}
use Rattle.bit_pack.specs.Queue.{ring}
use Rattle.bit_pack.proofs.Spelling.{length_queue, queue_take}
use Rattle.bit_pack.proofs.bit_buf.BitBuf.take_byte.Goals as goal

pub returns-then-self-gt0-clause-none : goal.returns-then-self-gt0-clause-none
returns-then-self-gt0-clause-none g c =
    let old : length c.args.self.now ≡ c.self.inside.front_len + 8 * c.self.inside.count + c.self.inside.back_len = sym (ap length c.self.view_is) ∙ length_queue c.self.inside.bytes c.self.inside.first c.self.inside.count c.self.inside.front c.self.inside.front_len c.self.inside.back c.self.inside.back_len (omega (arith, c.self.told, c.self.invariant.first_within)) (omega (arith, c.self.told, c.self.invariant.within)) in
    (λ e. absurd (true≢false e), λ l. absurd (omega (arith, old, c.if-self-gt0.true)))

taken : goal.returns-then-self-gt0-clause-taken
taken g c =
    let n : c.self.inside.front_len + 8 - 8 ≡ c.self.inside.front_len = omega arith in
    let m : c.self.inside.count - 1 + 1 ≡ c.self.inside.count = omega (arith, c.if-self-gt0.true) in
    let k : c.self.inside.count - 1 < length c.self.inside.bytes = omega (arith, c.self.told, c.self.invariant.within, c.if-self-gt0.true) in
    sym c.self.view_is
    ∙ queue_take (ring c.self.inside.bytes c.self.inside.first c.self.inside.count) (ring c.self.inside.bytes c.pop_whole-byte.result.1 (c.self.inside.count - 1)) (spelled c.self.inside.back_len c.self.inside.back) c.self.inside.front c.first_eight-whole.result c.pop_whole-byte.result.0 c.self.inside.front_len
    (ap (λ z. ring c.self.inside.bytes c.self.inside.first z) (sym m) ∙ c.pop_whole-byte.ensures.popped (c.self.inside.count - 1) k)
    (ap (λ z. spelled 8 c.first_eight-whole.result ++ spelled z c.pop_whole-byte.result.0) (sym n) ∙ c.first_eight-whole.ensures)

pub returns-then-self-gt0-clause-taken : goal.returns-then-self-gt0-clause-taken
returns-then-self-gt0-clause-taken g c = taken g c

pub returns-then-self-gt0-clause-amount : goal.returns-then-self-gt0-clause-amount
returns-then-self-gt0-clause-amount g c = omega (arith, ap length (taken g c))

pub returns-then-waiting-lt8-clause-none : goal.returns-then-waiting-lt8-clause-none
returns-then-waiting-lt8-clause-none g c =
    let old : length c.args.self.now ≡ c.self.inside.front_len + 8 * c.self.inside.count + c.self.inside.back_len = sym (ap length c.self.view_is) ∙ length_queue c.self.inside.bytes c.self.inside.first c.self.inside.count c.self.inside.front c.self.inside.front_len c.self.inside.back c.self.inside.back_len (omega (arith, c.self.told, c.self.invariant.first_within)) (omega (arith, c.self.told, c.self.invariant.within)) in
    (λ e. omega (arith, old, c.if-self-gt0.false, c.if-waiting-lt8.true), λ l. refl)
