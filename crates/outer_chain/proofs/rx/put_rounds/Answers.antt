use Rattle.std.proofs.Common.{◌≡◌, ◌+◌, ◌*◌, ◌%◌, ◌++◌, ℕ, subst, arith, length, take}
use Rattle.std.proofs.lemmas.List.{take_all}
use Rattle.outer_chain.specs.Receiving.{Holds}
use Rattle.outer_chain.proofs.ByteRuns.{holds_part}
use Rattle.outer_chain.proofs.rx.put_rounds.Goals as goal

pub loop-round-preserved : goal.loop-round-preserved
loop-round-preserved g c =
    let l = c.loop-round in
    let bytes = c.args.bytes.now in
    let n = 12 * l.round in
    let new = c.put_round.new.words in
    let at : (c.args.next + n) % 2448 ≡ c.args.next + n = omega (arith, c.requires.from, c.requires.below, c.loop-round-test.true) in
    let after : (c.args.next + n + 12) % 2448 ≡ (c.args.next + 12 * (l.round + 1)) % 2448 = omega arith in
    record {
      size = c.put_round.ensures.size;
      holds = λ before h. subst (λ p. Holds new p (before ++ take (12 * (l.round + 1)) bytes)) after
          (holds_part new _ n _ (12 * (l.round + 1)) before bytes (omega arith) (c.put_round.ensures.holds (before ++ take n bytes) (subst (λ p. Holds l.words p (before ++ take n bytes)) at (l.invariant.holds before h))));
    }

pub returns-clause-holds : goal.returns-clause-holds
returns-clause-holds g c = λ before h.
    let l = c.loop-round in
    let e : 12 * l.round ≡ length c.args.bytes.now = omega (arith, c.requires.rounds, c.loop-round-test.false, l.auto.round-end) in
    subst (λ (n : ℕ). Holds l.words ((c.args.next + n) % 2448) (before ++ c.args.bytes.now)) e
    (subst (λ z. Holds l.words ((c.args.next + 12 * l.round) % 2448) (before ++ z)) (take_all (12 * l.round) c.args.bytes.now (omega (arith, e))) (l.invariant.holds before h))
