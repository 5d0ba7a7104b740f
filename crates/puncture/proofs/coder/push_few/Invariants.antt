use Rattle.std.proofs.Common.{◌≡◌, ◌+◌, ◌≤◌, ◌++◌, length}
use Rattle.spec_words.specs.Bits.{spelled}
use Rattle.puncture.proofs.coder.push_few.Given as goal

abbrev pub invariant-loop-left : goal.invariant-loop-left
invariant-loop-left g l = record {
  bits : l.to ++ spelled l.left l.word ≡ l.initial.to ++ spelled l.initial.left l.word;
  amount : length l.to + l.left ≡ length l.initial.to + l.initial.left;
  few : l.left ≤ 16;
}

abbrev pub decreases-loop-left : goal.decreases-loop-left
decreases-loop-left g l = l.left
