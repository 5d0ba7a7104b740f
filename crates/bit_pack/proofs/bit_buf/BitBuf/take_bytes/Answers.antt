use Rattle.std.proofs.Common.{arith, ap, sym, ◌∙◌, ◌≡◌, ◌+◌, ◌-◌, ◌++◌, length}
use Rattle.spec_words.specs.Bits.{spelled}
use Rattle.bit_pack.specs.Queue.{bits_of_bytes, queue}
use Rattle.bit_pack.proofs.Spelling.{queue_part}
use Rattle.bit_pack.proofs.bit_buf.BitBuf.take_bytes.Goals as goal

pub returns-then-self-to-clause-taken : goal.returns-then-self-to-clause-taken
returns-then-self-to-clause-taken g c =
    let i = c.self.inside in
    let n = length c.args.to.now in
    let all : queue i.bytes i.first i.count i.front i.front_len i.back i.back_len ≡ bits_of_bytes c.copy_part.new.to ++ queue i.bytes (i.first + n) (i.count - n) i.front i.front_len i.back i.back_len =
    queue_part i.bytes c.copy_part.new.to i.first i.count n i.front i.front_len i.back i.back_len (omega (arith, c.if-self-eq0.true)) (c.copy_part.ensures.popped i.count (omega (arith, c.if-to-self.true))) in
    sym c.self.view_is ∙ all ∙ ap (λ m. bits_of_bytes c.copy_part.new.to ++ queue i.bytes (i.first + m) (i.count - m) i.front i.front_len i.back i.back_len) (sym c.copy_part.ensures.size)
    ∙ ap (λ z. bits_of_bytes c.copy_part.new.to ++ (spelled i.front_len i.front ++ (bits_of_bytes z ++ spelled i.back_len i.back))) (sym (c.first_of-self-inside.ensures.same i.bytes))
