-- The visible state of the words of a measured stream.
use Rattle.std.specs.Prelude.{List}
use Rattle.outer_chain.specs.Receiving.{Receiver}
use Rattle.outer_chain.specs.declared.slot.WordSlot.{WordSlot}
use Rattle.measure_words.specs.declared.counts.WordSums.{WordSums}

-- the outer receiver, the words to be decoded, and the counts: of all words, of those of the super-frame, and of later
-- ones
pub record WordsState : Type 0 where
  pub outer : Receiver
  pub slots : List WordSlot
  pub all : WordSums
  pub current : WordSums
  pub later : WordSums
