use Rattle.std.proofs.Common.{◌+◌, ◌^◌, ◌<◌, length, arith}
use Rattle.std.proofs.lemmas.List.{get_or_default}
use Rattle.measure_words.proofs.Counting.{counts_more, few_up}
use Rattle.measure_words.proofs.words.count_words.Goals as goal

pub count_word-requires-clause-all : goal.count_word-requires-clause-all
count_word-requires-clause-all c = few_up c.loop-k.all (2 ^ 49 + c.loop-k.k) (2 ^ 50) (omega (arith, c.loop-k-test.true, c.requires.number)) (c.loop-k.invariant.few_all (2 ^ 49) c.requires.all)

pub count_word-requires-clause-current : goal.count_word-requires-clause-current
count_word-requires-clause-current c = few_up c.loop-k.current (2 ^ 49 + c.loop-k.k) (2 ^ 50) (omega (arith, c.loop-k-test.true, c.requires.number)) (c.loop-k.invariant.few_current (2 ^ 49) c.requires.current)

pub count_word-requires-clause-later : goal.count_word-requires-clause-later
count_word-requires-clause-later c = few_up c.loop-k.later (2 ^ 49 + c.loop-k.k) (2 ^ 50) (omega (arith, c.loop-k-test.true, c.requires.number)) (c.loop-k.invariant.few_later (2 ^ 49) c.requires.later)

pub loop-k-preserved : goal.loop-k-preserved
loop-k-preserved c =
    let within : c.loop-k.k < length c.args.received.now = omega (arith, c.loop-k-test.true, c.requires.received) in
    counts_more c.loop-k.k c.args.slots.now c.args.received.now c.args.limit _ _ _ _ _ _ _ _ _ _ _ _ _ _ c.loop-k-test.true c.requires.received
    (get_or_default c.args.slots.now c.loop-k.k _ _ c.loop-k-test.true) (get_or_default c.args.received.now c.loop-k.k _ _ within)
    c.count_word.ensures.all c.count_word.ensures.current c.count_word.ensures.later c.count_word.ensures.words c.count_word.ensures.counted c.loop-k.invariant

pub returns-clause-all : goal.returns-clause-all
returns-clause-all c = λ n h. few_up c.loop-k.all (n + c.loop-k.k) (n + length c.args.slots.now) (omega (arith, c.loop-k.auto.k-end)) (c.loop-k.invariant.few_all n h)

pub returns-clause-current : goal.returns-clause-current
returns-clause-current c = λ n h. few_up c.loop-k.current (n + c.loop-k.k) (n + length c.args.slots.now) (omega (arith, c.loop-k.auto.k-end)) (c.loop-k.invariant.few_current n h)

pub returns-clause-later : goal.returns-clause-later
returns-clause-later c = λ n h. few_up c.loop-k.later (n + c.loop-k.k) (n + length c.args.slots.now) (omega (arith, c.loop-k.auto.k-end)) (c.loop-k.invariant.few_later n h)
