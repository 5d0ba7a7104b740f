use Rattle.std.proofs.Common.{refl}
use Rattle.forney.specs.Delays.{falling}
use Rattle.forney.proofs.DelayLines.{stands_first, falling_table, falling_lengths}
use Rattle.forney.proofs.Deinterleaver.new.Goals as goal

pub returns : goal.returns
returns c = record { empty = stands_first falling falling_lengths _ _ c.in_ok-new.ensures.0 c.in_ok-new.ensures.1 refl falling_table }
