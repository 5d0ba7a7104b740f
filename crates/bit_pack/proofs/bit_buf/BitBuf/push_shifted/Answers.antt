use Rattle.std.proofs.Common.{arith, ap, sym, ◌∙◌, ◌≡◌, ◌+◌, ◌*◌, ◌++◌, length}
use Rattle.spec_words.specs.Bits.{spelled}
use Rattle.bit_pack.specs.Queue.{bits_of_bytes, ring}
use Rattle.bit_pack.proofs.Spelling.{length_queue, queue_shifted}
use Rattle.bit_pack.proofs.bit_buf.BitBuf.push_shifted.Goals as goal

pub invariant_of-self : goal.invariant_of-self
invariant_of-self g c =
    let old : length c.args.self.now ≡ c.self.inside.front_len + 8 * c.self.inside.count + c.self.inside.back_len = sym (ap length c.self.view_is) ∙ length_queue c.self.inside.bytes c.self.inside.first c.self.inside.count c.self.inside.front c.self.inside.front_len c.self.inside.back c.self.inside.back_len (omega (arith, c.self.told, c.self.invariant.first_within)) (omega (arith, c.self.told, c.self.invariant.within)) in
    record {
      few = c.self.invariant.few;
      first_within = c.self.invariant.first_within;
      front_short = c.self.invariant.front_short;
      back_short = c.self.invariant.back_short;
      within = omega (arith, old, c.requires);
    }

pub returns-then-self-bytes : goal.returns-then-self-bytes
returns-then-self-bytes g c =
    let i = c.self.inside in
    queue_shifted (spelled i.front_len i.front) (bits_of_bytes (ring i.bytes i.first i.count)) (spelled i.back_len i.back) _ (bits_of_bytes c.args.bytes.now) c.paste_shifted-self-inside.ensures.pushed
    ∙ ap (λ z. z ++ bits_of_bytes c.args.bytes.now) c.self.view_is
