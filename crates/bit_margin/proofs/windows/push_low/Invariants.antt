use Rattle.std.proofs.Common.{◌≡◌, ◌+◌, take}
use Rattle.std.specs.Prelude.{None, vec_len, vec_capacity}
use Rattle.bit_margin.specs.Sums.{AreLowForward, Appended}
use Rattle.bit_margin.proofs.windows.push_low.Given as goal

abbrev pub invariant-loop-t : goal.invariant-loop-t
invariant-loop-t l = record {
  low : AreLowForward (take l.t l.window) l.before;
  appended : Appended None l.window l.t l.initial.to.items l.to.items;
  len : vec_len l.to ≡ vec_len l.initial.to + l.t;
  capacity : vec_capacity l.to ≡ vec_capacity l.initial.to;
}
