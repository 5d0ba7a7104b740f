-- The command `upgrade SETTINGS OLD NEW`.
use Rattle.std.specs.Prelude.{List, [], ◌∷◌, ℕ}
use Rattle.cmd_base.specs.Command.{Command, Files}
use Rattle.cmd_base.specs.StatedSettings.{settings_of}
use Rattle.cmd_convert.specs.ConversionCommand.{conversion_command}
use Rattle.cmd_convert.specs.Upgrading.{upgrading}
use Rattle.cmd_convert.specs.UpgradeLaws.{UpgradeLaws}

-- the possible statuses
abbrev pub statuses : List ℕ
statuses = 0 ∷ 3 ∷ 5 ∷ 6 ∷ 7 ∷ 8 ∷ []

-- its laws, from the settings and the old cells in the files
abbrev pub laws : List ℕ → List ℕ → Files → Type 0
laws settings old file = UpgradeLaws (settings_of (file settings)) (file old)

-- NEW is the header and the upgraded cells of OLD, for the mode in the settings
abbrev pub upgrade_command : List ℕ → List ℕ → List ℕ → Command
upgrade_command settings old new = conversion_command upgrading statuses (laws settings old) settings old new
