use Rattle.std.proofs.Common.{ℕ, ◌≡◌, ◌+◌, ◌^◌, length, subst, arith}
use Rattle.std.proofs.lemmas.List.{get_or_default}
use Rattle.receiver.specs.Words.{Wrote}
use Rattle.receiver.proofs.Pending.{writes_none, writes_more, few_more}
use Rattle.receiver.proofs.words.finish_words.Goals as goal

pub loop-slot-init : goal.loop-slot-init
loop-slot-init c = writes_none c.args.slots.now c.args.outer.now c.args.counts.now c.args.to.now.items _ _

pub finish_word-requires-clause-few : goal.finish_word-requires-clause-few
finish_word-requires-clause-few c = few_more c.loop-slot.counts (2 ^ 61 + c.loop-slot.slot-index) (2 ^ 62) (omega (arith, c.loop-slot-test.true, c.requires.number)) (c.loop-slot.invariant.counts (2 ^ 61) c.requires.few)

pub loop-slot-preserved : goal.loop-slot-preserved
loop-slot-preserved c = writes_more c.loop-slot.slot-index c.args.slots.now _ c.args.outer.now c.loop-slot.outer c.finish_word.new.outer c.args.counts.now c.loop-slot.counts c.finish_word.new.counts c.args.to.now.items c.loop-slot.to.items c.finish_word.new.to.items _ _ _ _ _ _
    c.loop-slot-test.true (λ e. get_or_default c.args.slots.now c.loop-slot.slot-index _ e c.loop-slot-test.true) c.finish_word.ensures.capacity c.finish_word.ensures.len c.finish_word.ensures.few c.finish_word.ensures.wrote c.loop-slot.invariant

pub returns-clause-few : goal.returns-clause-few
returns-clause-few c = λ n h. few_more c.loop-slot.counts (n + c.loop-slot.slot-index) (n + 24) (omega (arith, c.requires.number, c.loop-slot.auto.slot-index-end)) (c.loop-slot.invariant.counts n h)

pub returns-clause-wrote : goal.returns-clause-wrote
returns-clause-wrote c = λ bytes given tally done f l d.
    let e : c.loop-slot.slot-index ≡ length c.args.slots.now = omega (arith, c.loop-slot-test.false, c.loop-slot.auto.slot-index-end) in
    subst (λ (k : ℕ). Wrote c.loop-slot.outer bytes given (done + k) c.args.to.now.items c.loop-slot.to.items c.args.counts.now c.loop-slot.counts tally) e (c.loop-slot.invariant.wrote bytes given tally done f l d)
