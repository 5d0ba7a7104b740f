use Rattle.std.proofs.Common.{◌≡◌, take}
use Rattle.std.specs.Prelude.{vec_len, vec_capacity, map}
use Rattle.outer_chain.specs.declared.slot.WordSlot.{WordSlot}
use Rattle.measure_words.proofs.words.keep.Given as goal

abbrev pub invariant-loop-slot : goal.invariant-loop-slot
invariant-loop-slot l = (l.received.items ≡ map (λ (s : WordSlot). s.word) (take l.slot-index l.slots)) × (vec_len l.received ≡ l.slot-index) × (vec_capacity l.received ≡ vec_capacity l.initial.received)
