use Rattle.forney.proofs.WindowLines.{zeros_stand}
use Rattle.forney.proofs.word_interleaver.WordInterleaver.new.Goals as goal

pub returns : goal.returns
returns c = record { empty = zeros_stand _ (c.in_ok-vec.ensures.items_if_clones_equal (λ y e. e)) }
