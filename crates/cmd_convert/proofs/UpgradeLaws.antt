-- The laws of the command.
use Rattle.std.proofs.Common.{List, ℕ, Option}
use Rattle.mode_set.specs.declared.settings.Settings.{Settings}
use Rattle.law_link.specs.UpgradedCells.{UpgradedCostsArePlain}
use Rattle.cmd_convert.specs.UpgradeLaws.{UpgradeLaws}
use Rattle.cmd_convert.proofs.UpgradeJoined.{whole}

pub own_laws : UpgradedCostsArePlain → (stated : Option Settings) (bytes : List ℕ) → UpgradeLaws stated bytes
own_laws plain stated bytes = record {
  whole = λ s is. whole s.mode bytes;
  plain = λ s is σ. plain s bytes σ;
}
