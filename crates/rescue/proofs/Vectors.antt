-- Worked values of the definitions.
use Rattle.std.proofs.Common.{◌≡◌, refl}
use Rattle.rescue.specs.Known.{settled_blocks}

-- a block is settled by the 256th step after it
none : settled_blocks 1279 ≡ 0
none = refl

one : settled_blocks 1280 ≡ 1
one = refl

still_one : settled_blocks 2303 ≡ 1
still_one = refl

two : settled_blocks 2304 ≡ 2
two = refl

-- fewer steps than the 256 after a block
few : settled_blocks 100 ≡ 0
few = refl
