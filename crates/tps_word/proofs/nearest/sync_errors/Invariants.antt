use Rattle.std.proofs.Common.{◌≡◌, ◌≤◌, take}
use Rattle.spec_words.specs.Bits.{digits}
use Rattle.tps_bch.specs.Bch.{bit_distance}
use Rattle.tps_word.proofs.nearest.sync_errors.Given as goal

abbrev pub invariant-loop-i : goal.invariant-loop-i
invariant-loop-i l = (l.errors ≡ bit_distance (take l.i l.bits) (take l.i (digits l.digit-items))) × (l.errors ≤ l.i)
