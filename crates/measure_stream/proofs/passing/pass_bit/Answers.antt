use Rattle.std.proofs.Common.{◌≡◌, ℕ, Bool, List, [], ◌∷◌, ◌++◌, take, drop, sym, ap, subst}
use Rattle.std.specs.Prelude.{Option, IfSome}
use Rattle.measure_stream.specs.Passing.{HasBits}
use Rattle.measure_stream.proofs.Bits.{takes}
use Rattle.measure_stream.proofs.passing.pass_bit.Goals as goal

pub returns : goal.returns
returns c =
    let bit : Bool = c.unwrap-bit.result in
    let taken : c.args.branch.now.wait ≡ bit ∷ c.take_bit.new.self.wait = subst (λ (z : Option Bool). IfSome z (λ b. c.args.branch.now.wait ≡ b ∷ c.take_bit.new.self.wait)) c.unwrap-bit.ensures c.take_bit.ensures.taken in
    record {
      takes = takes 1 (bit ∷ []) c.args.branch.now c.take_bit.new.self c.args.known.now c.push_bit.new.self c.args.part.now c.put_bits.new.part c.args.words.now c.put_bits.new.words
          c.take_bit.ensures.rest (sym (ap (take 1) taken)) (sym (ap (drop 1) taken)) c.push_bit.ensures.pushed c.put_bits.ensures.few c.put_bits.ensures.all
          (subst (λ (w : List Bool). (bits : List Bool) (done from limit : ℕ) → HasBits c.args.part.now c.args.words.now bits done from limit → HasBits c.put_bits.new.part c.put_bits.new.words (bits ++ w) done from limit) c.digit.ensures.is c.put_bits.ensures.bits);
    }
