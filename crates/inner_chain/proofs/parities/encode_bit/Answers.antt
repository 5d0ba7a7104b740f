use Rattle.std.proofs.Common.{◌≡◌, ◌∷◌, ◌+◌, ◌*◌, ◌<◌, length, set, Bool, subst, Option, arith}
use Rattle.std.specs.Prelude.{IfSome}
use Rattle.inner_chain.proofs.Encoding.{encode_one, pair_set}
use Rattle.inner_chain.proofs.parities.encode_bit.Goals as goal

pub returns : goal.returns
returns c = record {
  goes = λ w e x n few s.
      let taken : c.args.waiting.now ≡ c.unwrap.result ∷ c.take_bit.new.self = subst (λ (z : Option Bool). IfSome z (λ b. c.args.waiting.now ≡ b ∷ c.take_bit.new.self)) c.unwrap.ensures c.take_bit.ensures.taken in
      let p = 2 * (c.args.first + c.args.done) in
      let there : p + 1 < length c.args.to.now = omega (arith, c.requires.room) in
      let pair = pair_set c.args.to.now p c.step-x.result.0 c.step-x.result.1 there in
      encode_one w e x c.args.first n c.args.done c.args.waiting.now c.args.encoder.now c.args.to.now c.unwrap.result c.take_bit.new.self c.step-x.new.self (set (set c.args.to.now p c.step-x.result.0) (p + 1) c.step-x.result.1)
      c.step-x.result.0 c.step-x.result.1 s few taken c.step-x.ensures.x c.step-x.ensures.y c.step-x.ensures.register pair.0 pair.1 pair.2;
}
