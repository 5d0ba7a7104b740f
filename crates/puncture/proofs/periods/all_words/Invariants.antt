use Rattle.std.proofs.Common.{◌≡◌, length}
use Rattle.puncture.specs.Periods.{AreAllWords}
use Rattle.puncture.proofs.periods.all_words.Given as goal

abbrev pub invariant-loop-k : goal.invariant-loop-k
invariant-loop-k l = record { size : length l.words ≡ 1792; filled : AreAllWords l.rate l.k l.words }
