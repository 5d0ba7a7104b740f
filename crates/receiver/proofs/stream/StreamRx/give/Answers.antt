use Rattle.std.proofs.Common.{ℕ, ◌+◌, ◌≤◌, List, length, ◌++◌, subst}
use Rattle.outer_chain.specs.declared.slot.WordSlot.{WordSlot}
use Rattle.outer_chain.specs.Running.{Finished}
use Rattle.outer_chain.specs.Words.{Tally, word_count}
use Rattle.receiver.specs.Words.{AreDecoded, Wrote}
use Rattle.receiver.proofs.Pending.{gives}
use Rattle.receiver.proofs.stream.StreamRx.give.Goals as goal

pub returns-clause-gives : goal.returns-clause-gives
returns-clause-gives g c = λ b d t h.
    gives _ _ c.args.self.now.outer c.collect.new.outer c.finish_words.new.outer b d t _ _ c.decode.new.slots.items _ _ _ _ (c.collect.ensures.collected b d t h) c.decode.ensures.decoded
    (subst (λ (z : List WordSlot). (b g : List ℕ) (t : Tally) (n : ℕ) → Finished c.collect.new.outer b g t n → n + length z ≤ word_count b → AreDecoded b n z → Wrote c.finish_words.new.outer b g (n + length z) c.args.to.now.items c.finish_words.new.to.items c.args.self.now.counts c.finish_words.new.counts t) c.deref.ensures.value c.finish_words.ensures.wrote)

pub returns-clause-started : goal.returns-clause-started
returns-clause-started g c =
    let s = c.requires.started in
    let w = gives _ _ c.args.self.now.outer c.collect.new.outer c.finish_words.new.outer s.bytes s.given s.tally _ _ c.decode.new.slots.items _ _ _ _ (c.collect.ensures.collected s.bytes s.given s.tally s.finished) c.decode.ensures.decoded
    (subst (λ (z : List WordSlot). (b g : List ℕ) (t : Tally) (n : ℕ) → Finished c.collect.new.outer b g t n → n + length z ≤ word_count b → AreDecoded b n z → Wrote c.finish_words.new.outer b g (n + length z) c.args.to.now.items c.finish_words.new.to.items c.args.self.now.counts c.finish_words.new.counts t) c.deref.ensures.value c.finish_words.ensures.wrote) in
    record { bytes = s.bytes ++ w.more; given = s.given ++ w.written; tally = w.now; finished = w.finished }
