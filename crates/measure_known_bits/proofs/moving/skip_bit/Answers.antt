use Rattle.std.proofs.Common.{◌≡◌, Bool, ◌∷◌, subst}
use Rattle.std.specs.Prelude.{Option, IfSome}
use Rattle.measure_known_bits.proofs.Taking.{bit_skipped}
use Rattle.measure_known_bits.proofs.moving.skip_bit.Goals as goal

pub returns-clause-skips : goal.returns-clause-skips
returns-clause-skips g c =
    let taken : c.args.from.now ≡ c.unwrap.result ∷ c.take_bit.new.self = subst (λ (z : Option Bool). IfSome z (λ b. c.args.from.now ≡ b ∷ c.take_bit.new.self)) c.unwrap.ensures c.take_bit.ensures.taken in
    bit_skipped _ _ _ _ c.unwrap.result taken c.skip_bit.ensures.next
