-- The sizes on the way.
use Rattle.std.proofs.Common.{◌+◌, ◌*◌, ◌^◌, ◌≤◌, arith}
use Rattle.track_arithmetic.specs.Laws.{IsWithin}
use Rattle.track_turns.proofs.sums.difference.Goals as goal

pub near-requires-clause-x : goal.near-requires-clause-x
near-requires-clause-x c =
    let w = c.times.ensures.within (2 ^ 15) (2 ^ 14) c.requires.other_small c.requires.turn in
    record { re = omega (arith, w.re); im = omega (arith, w.im) }

pub power-requires : goal.power-requires
power-requires c =
    let w = c.times.ensures.within (2 ^ 15) (2 ^ 14) c.requires.other_small c.requires.turn in
    let n = c.near.ensures.within (2 ^ 16) (record { re = omega (arith, w.re); im = omega (arith, w.im) }) in
    let m = c.minus.ensures.within (2 ^ 15) (2 ^ 16) c.requires.row_small n in
    record { re = omega (arith, m.re); im = omega (arith, m.im) }

pub returns-clause-most : goal.returns-clause-most
returns-clause-most c =
    let w = c.times.ensures.within (2 ^ 15) (2 ^ 14) c.requires.other_small c.requires.turn in
    let n = c.near.ensures.within (2 ^ 16) (record { re = omega (arith, w.re); im = omega (arith, w.im) }) in
    let m = c.minus.ensures.within (2 ^ 15) (2 ^ 16) c.requires.row_small n in
    let p = c.power.ensures.within (2 ^ 15 + 2 ^ 16) m in
    omega (arith, p)
