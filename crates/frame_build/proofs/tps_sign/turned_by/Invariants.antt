use Rattle.std.proofs.Common.{◌≡◌}
use Rattle.frame_build.specs.State.{is_turned}
use Rattle.frame_build.proofs.tps_sign.turned_by.Given as goal

abbrev pub invariant-loop-l : goal.invariant-loop-l
invariant-loop-l l = l.turned ≡ is_turned l.word l.l
