use Rattle.std.proofs.Common.{◌≡◌, ◌+◌, length}
use Rattle.inner_chain.specs.Fours.{ArePairs}
use Rattle.inner_chain.proofs.twos.turn_half.Given as goal

abbrev pub invariant-loop-j : goal.invariant-loop-j
invariant-loop-j g l = record {
  long : length l.words ≡ length l.initial.words;
  made : ArePairs l.parities l.first l.initial.words → ArePairs l.parities (l.first + l.j) l.words;
}
