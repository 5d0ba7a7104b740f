use Rattle.std.proofs.Common.{◌≡◌, ◌+◌, ◌-◌, ◌%◌, ◌++◌, subst, arith, length, take, length-take-le}
use Rattle.outer_chain.specs.Receiving.{Holds}
use Rattle.outer_chain.proofs.ByteRuns.{holds_rest}
use Rattle.outer_chain.proofs.rx.put_each.Goals as goal
use Rattle.outer_chain.proofs.rx.put_each.Goals.{then-place-lt-WORDS, else-place-lt-WORDS}

pub returns-clause-holds : goal.returns-clause-holds
returns-clause-holds c = λ before h.
    let bytes = c.args.bytes.now in
    let whole = length bytes - length bytes % 12 in
    let long : length (take whole bytes) ≡ whole = length-take-le whole bytes (omega arith) in
    let place : (c.args.next + length (take whole bytes)) % 2448 ≡ c.if-place-lt-WORDS.place = elim c.if-place-lt-WORDS.branch [
      | then-place-lt-WORDS w ↦ omega (arith, long, w.if-place-lt-WORDS, w.place-is)
      | else-place-lt-WORDS w ↦ omega (arith, long, w.if-place-lt-WORDS, w.place-is, c.requires.next, c.requires.within)
    ] in
    holds_rest c.put_singly.new.words c.put_singly.result whole _ before bytes (omega arith)
    (c.put_singly.ensures.holds _ (subst (λ p. Holds c.put_rounds_from.new.words p (before ++ take whole bytes)) place (c.put_rounds_from.ensures.holds before h)))
