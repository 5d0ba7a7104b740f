use Rattle.std.proofs.Common.{◌≡◌, ◌+◌, ◌-◌, ℕ, arith, ap, ◌∙◌, length, take, drop}
use Rattle.bit_pack.proofs.Spelling.{ring_split}
use Rattle.bit_pack.proofs.bit_buf.copy_part.Goals as goal

pub returns-clause-popped : goal.returns-clause-popped
returns-clause-popped c = λ count l.
    let n = length c.args.to.now in
    let few : c.args.first + n - c.args.first ≡ n = omega arith in
    ring_split c.args.bytes.now c.copy_from_slice.new.self c.args.first count n c.requires.room l
    (c.copy_from_slice.ensures.after ∙ ap (λ (m : ℕ). take m (drop c.args.first c.args.bytes.now)) few)
