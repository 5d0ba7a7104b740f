use Rattle.std.proofs.Common.{◌≡◌, subst, arith, length, ◌-◌, ◌+◌, ◌++◌, suc, ◌<◌}
use Rattle.survivor_ring.proofs.Walks.{Walk, walk_more, walk_alike, walk_single}
use Rattle.survivor_ring.proofs.ring.shared_words.Goals as goal

pub loop-k-preserved : goal.loop-k-preserved
loop-k-preserved c =
    let ws = c.args.words.now.items ++ c.args.more.now in
    let n = length ws in
    let i = c.number_of-count.result - 1 - c.loop-k.k in
    let j : n - c.loop-k.k ≡ suc i = omega (arith, c.number_of-count.ensures, c.loop-k-test.true) in
    let l : i < n = omega (arith, c.number_of-count.ensures, c.loop-k-test.true) in
    let e : i ≡ n - (c.loop-k.k + 1) = omega (arith, c.number_of-count.ensures) in
    subst (λ z. Walk ws c.args.states z c.ancestors-set.result c.lowered-answer.result) e
    (walk_more ws c.args.states (n - c.loop-k.k) i c.loop-k.set c.loop-k.answer c.word_at.result c.ancestors-set.result c.lowered-answer.result c.loop-k.invariant j l c.word_at.ensures c.lowered-answer.ensures c.ancestors-set.ensures)

pub returns : goal.returns
returns c = let ws = c.args.words.now.items ++ c.args.more.now in
    walk_alike ws c.args.states (length ws - c.loop-k.k) c.loop-k.set c.loop-k.answer c.loop-k.invariant (omega (arith, c.number_of-count.ensures, c.loop-k-test.false))

pub returns-then-is_single : goal.returns-then-is_single
returns-then-is_single c = let ws = c.args.words.now.items ++ c.args.more.now in
    walk_single ws c.args.states (length ws - c.loop-k.k) c.loop-k.set c.loop-k.answer c.loop-k.invariant (c.is_single.ensures c.if-is_single.true)
