use Rattle.std.proofs.Common.{◌≡◌, ℕ, ◌++◌, take, drop, sym, ap, subst}
use Rattle.std.specs.Prelude.{Option, IfSome}
use Rattle.spec_words.specs.Bits.{spelled}
use Rattle.measure_stream.proofs.Bits.{takes}
use Rattle.measure_stream.proofs.passing.pass_byte.Goals as goal

pub returns : goal.returns
returns c =
    let byte : ℕ = c.unwrap-byte.result in
    let taken : c.args.branch.now.wait ≡ spelled 8 byte ++ c.take_byte.new.self.wait = subst (λ (z : Option ℕ). IfSome z (λ b. c.args.branch.now.wait ≡ spelled 8 b ++ c.take_byte.new.self.wait)) c.unwrap-byte.ensures c.take_byte.ensures.taken in
    record {
      takes = takes 8 (spelled 8 byte) c.args.branch.now c.take_byte.new.self c.args.known.now c.push_byte.new.self c.args.part.now c.put_bits.new.part c.args.words.now c.put_bits.new.words
          c.take_byte.ensures.rest (sym (ap (take 8) taken)) (sym (ap (drop 8) taken)) c.push_byte.ensures.pushed c.put_bits.ensures.few c.put_bits.ensures.all c.put_bits.ensures.bits;
    }
