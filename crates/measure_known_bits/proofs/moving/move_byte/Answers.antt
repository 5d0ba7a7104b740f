use Rattle.std.proofs.Common.{◌≡◌, ℕ, ◌++◌, take, drop, sym, ap, ◌∙◌, subst}
use Rattle.std.specs.Prelude.{Option, IfSome}
use Rattle.spec_words.specs.Bits.{spelled}
use Rattle.measure_known_bits.proofs.moving.move_byte.Goals as goal

pub returns-clause-left : goal.returns-clause-left
returns-clause-left c =
    let taken : c.args.from.now ≡ spelled 8 c.unwrap.result ++ c.take_byte.new.self = subst (λ (z : Option ℕ). IfSome z (λ b. c.args.from.now ≡ spelled 8 b ++ c.take_byte.new.self)) c.unwrap.ensures c.take_byte.ensures.taken in
    sym (ap (drop 8) taken)

pub returns-clause-moved : goal.returns-clause-moved
returns-clause-moved c =
    let taken : c.args.from.now ≡ spelled 8 c.unwrap.result ++ c.take_byte.new.self = subst (λ (z : Option ℕ). IfSome z (λ b. c.args.from.now ≡ spelled 8 b ++ c.take_byte.new.self)) c.unwrap.ensures c.take_byte.ensures.taken in
    c.push_byte.ensures.bits ∙ ap (λ z. c.args.to.now ++ z) (sym (ap (take 8) taken))
