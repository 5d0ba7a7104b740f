use Rattle.std.proofs.Common.{◌≡◌, Bool, ◌∷◌, ◌++◌, take, drop, sym, ap, ◌∙◌, subst}
use Rattle.std.specs.Prelude.{Option, IfSome}
use Rattle.measure_known_bits.proofs.moving.move_bit.Goals as goal

pub returns-clause-left : goal.returns-clause-left
returns-clause-left c =
    let taken : c.args.from.now ≡ c.unwrap.result ∷ c.take_bit.new.self = subst (λ (z : Option Bool). IfSome z (λ b. c.args.from.now ≡ b ∷ c.take_bit.new.self)) c.unwrap.ensures c.take_bit.ensures.taken in
    sym (ap (drop 1) taken)

pub returns-clause-moved : goal.returns-clause-moved
returns-clause-moved c =
    let taken : c.args.from.now ≡ c.unwrap.result ∷ c.take_bit.new.self = subst (λ (z : Option Bool). IfSome z (λ b. c.args.from.now ≡ b ∷ c.take_bit.new.self)) c.unwrap.ensures c.take_bit.ensures.taken in
    c.push_bit.ensures.bits ∙ ap (λ z. c.args.to.now ++ z) (sym (ap (take 1) taken))
