use Rattle.std.proofs.Common.{◌≡◌, ◌+◌, ◌-◌, ◌*◌, ◌%◌, ◌++◌, subst, arith, length, take, drop, length-take-le}
use Rattle.std.proofs.lemmas.List.{take_all}
use Rattle.outer_chain.specs.Receiving.{Holds}
use Rattle.outer_chain.proofs.ByteRuns.{holds_rest, length_part}
use Rattle.outer_chain.proofs.rx.put_round.Goals as goal

pub returns-then-this-lt-ROUND-clause-holds : goal.returns-then-this-lt-ROUND-clause-holds
returns-then-this-lt-ROUND-clause-holds g c = λ before h.
    let bytes = c.args.bytes.now in
    let next = c.args.next in
    let n = g.row.FROM + 1 in
    let one : length (take n bytes) ≡ n = length-take-le n bytes (omega (arith, c.requires.from, c.requires.round)) in
    let two : length (take (length bytes - n) (drop n bytes)) ≡ length bytes - n = length_part n (length bytes - n) bytes (omega (arith, c.requires.from, c.requires.round)) in
    let last : (next + 2245 * length (take n bytes)) % 2448 ≡ next + 2448 - 203 * n = omega (arith, one, c.requires.above, c.requires.below, c.if-this-lt-ROUND.true) in
    let after : (next + 2448 - 203 * n + 2245 * length (take (length bytes - n) (drop n bytes))) % 2448 ≡ (next + 12) % 2448 = omega (arith, two, c.requires.round, c.requires.from, c.requires.above, c.requires.below) in
    subst (λ p. Holds c.put_falling-then-this-lt-ROUND.new.words p (before ++ bytes)) after
    (holds_rest c.put_falling-then-this-lt-ROUND.new.words _ n _ before bytes (omega (arith, c.requires.from, c.requires.round))
    (c.put_falling-then-this-lt-ROUND.ensures.holds (before ++ take n bytes) (subst (λ p. Holds c.put_falling.new.words p (before ++ take n bytes)) last (c.put_falling.ensures.holds before h))))

pub returns-else-this-lt-ROUND-clause-holds : goal.returns-else-this-lt-ROUND-clause-holds
returns-else-this-lt-ROUND-clause-holds g c = λ before h.
    let bytes = c.args.bytes.now in
    let next = c.args.next in
    let n = g.row.FROM + 1 in
    let all : take n bytes ≡ bytes = take_all n bytes (omega (arith, c.if-this-lt-ROUND.false, c.requires.round)) in
    let one : length (take n bytes) ≡ n = length-take-le n bytes (omega (arith, c.requires.from, c.requires.round)) in
    let after : (next + 2245 * length (take n bytes)) % 2448 ≡ (next + 12) % 2448 = omega (arith, one, c.requires.from, c.if-this-lt-ROUND.false) in
    subst (λ p. Holds c.put_falling.new.words p (before ++ bytes)) after
    (subst (λ z. Holds c.put_falling.new.words ((next + 2245 * length (take n bytes)) % 2448) (before ++ z)) all (c.put_falling.ensures.holds before h))
