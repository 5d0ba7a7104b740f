use Rattle.std.proofs.Common.{refl}
use Rattle.forney.specs.Delays.{rising}
use Rattle.forney.proofs.DelayLines.{stands_first, rising_table, rising_lengths}
use Rattle.forney.proofs.plain.Interleaver.new.Goals as goal

pub returns : goal.returns
returns c = record { empty = stands_first rising rising_lengths _ _ c.in_ok-new.ensures.0 c.in_ok-new.ensures.1 refl rising_table }
