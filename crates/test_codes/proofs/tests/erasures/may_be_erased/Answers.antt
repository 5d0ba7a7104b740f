use Rattle.std.proofs.Common.{◌≡◌, ◌<◌, arith}
use Rattle.std.proofs.lemmas.List.Elements.{All-from_get_or}
use Rattle.test_codes.proofs.tests.erasures.may_be_erased.Goals as goal

pub returns-clause-rising : goal.returns-clause-rising
returns-clause-rising c = λ t k l.
    let e : c.loop-k.k ≡ 8 = omega arith in
    c.loop-k.invariant.rising k (omega (arith, e, c.told-places)) (omega (arith, c.told-places))

pub returns-clause-within : goal.returns-clause-within
returns-clause-within c = λ t.
    let e : c.loop-k.k ≡ 8 = omega arith in
    All-from_get_or (λ p. p < 204) c.args.places.now 0 (λ i l. c.loop-k.invariant.below i (omega (arith, e, c.told-places)))
