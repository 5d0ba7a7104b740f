use Rattle.std.proofs.Common.{ℕ, ◌+◌, ◌≤◌, List, length, sym, ap, ◌∙◌, subst, arith}
use Rattle.std.specs.Prelude.{map}
use Rattle.outer_chain.specs.Words.{word_count}
use Rattle.outer_chain.specs.declared.slot.WordSlot.{WordSlot}
use Rattle.measure_words.specs.Seen.{WordsState}
use Rattle.measure_words.specs.Sums.{AreFew}
use Rattle.measure_words.specs.Counted.{HasCounted, Measures, AreDecoded, AreReceived}
use Rattle.measure_words.proofs.Counting.{measures_finished}
use Rattle.measure_words.proofs.words.MeasuredWords.finish.Goals as goal

pub invariant_of-self : goal.invariant_of-self
invariant_of-self g c =
    let i = c.self.invariant in (
      omega (arith, i.0, c.decode.ensures.capacity, c.clear.ensures.capacity),
      omega (arith, i.1, c.keep.ensures.capacity),
      subst (AreFew c.count_words.new.all) (sym c.count_words.ensures.words) (c.count_words.ensures.all c.self.inside.all.words i.2),
      subst (AreFew c.count_words.new.current) (sym c.count_words.ensures.words) (c.count_words.ensures.current c.self.inside.all.words i.3),
      subst (AreFew c.count_words.new.later) (sym c.count_words.ensures.words) (c.count_words.ensures.later c.self.inside.all.words i.4),
    )

pub returns-clause-measures : goal.returns-clause-measures
returns-clause-measures g c = λ bytes done from.
    let x = c.self.inside in
    let limit : ℕ = c.args.limit in
    let old : WordsState = record { outer = x.outer; slots = x.slots.items; all = x.all; current = x.current; later = x.later } in
    let new : List WordSlot → WordsState = λ (z : List WordSlot). record { outer = c.count_words.new.outer; slots = z; all = c.count_words.new.all; current = c.count_words.new.current; later = c.count_words.new.later } in
    subst (λ (z : WordsState). Measures z bytes done from limit → Measures (new c.clear.new.self.items) bytes (word_count bytes) from limit) c.self.view_is
    (λ h. subst (λ (z : List WordSlot). Measures (new z) bytes (word_count bytes) from limit) (sym c.clear.ensures.items)
    (measures_finished old bytes done from limit c.decode.new.slots.items c.keep.new.received.items c.count_words.new.outer c.count_words.new.all c.count_words.new.current c.count_words.new.later h
    (c.keep.ensures.received ∙ ap (map (λ (s : WordSlot). s.word)) c.deref.ensures.value) c.decode.ensures.long c.decode.ensures.each
    (subst (λ (r : List (List ℕ)). (b : List ℕ) (n f : ℕ) → HasCounted x.outer x.all x.current x.later b n f limit → n + length c.decode.new.slots.items ≤ word_count b → AreReceived b n r → AreDecoded b n c.decode.new.slots.items
    → HasCounted c.count_words.new.outer c.count_words.new.all c.count_words.new.current c.count_words.new.later b (n + length c.decode.new.slots.items) f limit) c.deref-3.ensures.value
    (subst (λ (z : List WordSlot). (b : List ℕ) (n f : ℕ) → HasCounted x.outer x.all x.current x.later b n f limit → n + length z ≤ word_count b → AreReceived b n c.deref-3.result.now → AreDecoded b n z
    → HasCounted c.count_words.new.outer c.count_words.new.all c.count_words.new.current c.count_words.new.later b (n + length z) f limit) c.deref-2.ensures.value c.count_words.ensures.counted))))
