-- The number so far, followed by the remaining bits, is the whole.
use Rattle.std.proofs.Common.{◌≡◌, ◌<◌, ◌^◌, ℕ, drop, List, Bool}
use Rattle.tps_word.specs.Number.{number_behind, number_of}
use Rattle.tps_word.proofs.fields.number.Given as goal

pub record Reads (i n : ℕ) (bits : List Bool) : Type 0 where
  pub value : number_behind n (drop i bits) ≡ number_of bits
  pub small : n < 2 ^ i

abbrev pub invariant-loop-bit : goal.invariant-loop-bit
invariant-loop-bit l = Reads l.bit-index l.number l.bits
