-- A direction doubles the bound at most.
use Rattle.std.proofs.Common.{◌+◌, ◌*◌, ◌^◌, ◌≤◌, arith, to_z, of_z}
use Rattle.std.specs.Prelude.{nat_abs}
use Rattle.std.proofs.lemmas.Int.{ints}
use Rattle.track_arithmetic.specs.Laws.{IsWithin}
use Rattle.track_cells.proofs.frequency.turned.Goals as goal

pub near-requires-clause-x : goal.near-requires-clause-x
near-requires-clause-x c =
    let w = c.times.ensures.within (2 ^ 24) (2 ^ 14) (record { re = omega (arith, ints, c.from.ensures, c.requires.re); im = omega (arith, ints, c.from-2.ensures, c.requires.im) }) (record { re = omega (arith, ints, c.from-3.ensures, c.requires.cosine); im = omega (arith, ints, c.from-4.ensures, c.requires.sine) }) in
    record { re = omega (arith, w.re); im = omega (arith, w.im) }

pub returns-clause-within : goal.returns-clause-within
returns-clause-within c =
    let w = c.times.ensures.within (2 ^ 24) (2 ^ 14) (record { re = omega (arith, ints, c.from.ensures, c.requires.re); im = omega (arith, ints, c.from-2.ensures, c.requires.im) }) (record { re = omega (arith, ints, c.from-3.ensures, c.requires.cosine); im = omega (arith, ints, c.from-4.ensures, c.requires.sine) }) in
    c.near.ensures.within (2 ^ 25) (record { re = omega (arith, w.re); im = omega (arith, w.im) })
