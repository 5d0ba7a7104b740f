-- An upgrade is a conversion.
use Rattle.std.proofs.Common.{◌*◌, ◌<◌, refl, arith, sym}
use Rattle.std.proofs.lemmas.Bool.{true≢false}
use Rattle.mode_set.specs.StreamTable.{carriers}
use Rattle.mode_set.specs.declared.modes.Mode.{Mode}
use Rattle.mode_set.specs.declared.modes.Mode.TheVariants.{M2k, M8k}
use Rattle.cmd_convert.proofs.Commands.{IsSound}
use Rattle.cmd_convert.specs.Upgrading.{upgrading}
use Rattle.cmd_convert.specs.UpgradeCommand.{statuses}

pub some_bytes : (mode : Mode) → 0 < 4 * carriers mode
some_bytes M2k = omega arith
some_bytes M8k = omega arith

pub sound : IsSound upgrading statuses
sound = record {
  some = some_bytes;
  done = refl;
  settings = refl;
  read_fault = refl;
  write_fault = refl;
  memory = refl;
  limit_passed = refl;
  unheaded = λ mode is. absurd (true≢false (sym is));
}
