-- The command `equalise SETTINGS IN OUT`.
use Rattle.std.specs.Prelude.{List, [], ◌∷◌, ℕ}
use Rattle.cmd_base.specs.Command.{Command}
use Rattle.cmd_base.specs.StatedSettings.{settings_of}
use Rattle.cmd_convert.specs.ConversionCommand.{conversion_command}
use Rattle.cmd_convert.specs.Equalising.{equalisation}
use Rattle.cmd_convert.specs.EqualiseLaws.{EqualiseLaws}

-- the possible statuses
abbrev pub statuses : List ℕ
statuses = 0 ∷ 3 ∷ 5 ∷ 6 ∷ 7 ∷ 8 ∷ 9 ∷ []

-- OUT is the header and the corrected cells of IN, for the mode in the settings; its law relates both files
abbrev pub equalise_command : List ℕ → List ℕ → List ℕ → Command
equalise_command settings old new = conversion_command equalisation statuses (λ file. EqualiseLaws
    (settings_of (file settings)) (file old)) settings old new
