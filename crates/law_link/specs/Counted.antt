-- A symbol has as many payload carriers as its mode says, and they are numbered.
use Rattle.std.specs.Prelude.{◌≡◌, ℕ, length}
use Rattle.mode_set.specs.StreamTable.{payload}
use Rattle.mode_set.specs.declared.modes.Mode.{Mode}
use Rattle.pilots.specs.Carriers.{payload_carriers, AreNumbered}

-- symbol l has as many payload carriers as its mode says, numbered from 0
pub record AreCounted (m : Mode) (l : ℕ) : Type 0 where
  pub many : length (payload_carriers m l) ≡ payload m
  pub numbered : AreNumbered m l
