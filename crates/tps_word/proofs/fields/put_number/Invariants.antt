-- The prefix has the digits so far.
use Rattle.std.proofs.Common.{◌≡◌, ◌+◌, ◌++◌, take}
use Rattle.spec_words.specs.Bits.{spelled}
use Rattle.tps_word.proofs.fields.put_number.Given as goal

abbrev pub invariant-loop-i : goal.invariant-loop-i
invariant-loop-i l = take (l.at + l.i) l.bits ≡ take l.at l.initial.bits ++ take l.i (spelled l.width l.number)
