-- A cell file (this project's own format): a header of eight bytes, then the cells of all symbols in order, five bytes
-- each.
use Rattle.std.specs.Prelude.{ℕ, List, [], ◌∷◌}
use Rattle.mode_set.specs.declared.modes.Mode.{Mode}
use Rattle.mode_set.specs.declared.modes.Mode.TheVariants.{M2k, M8k}

-- the byte for the mode
abbrev pub mode_byte : Mode → ℕ
mode_byte M2k = 0
mode_byte M8k = 1

-- the letters DVTC, version 2, the mode, two zeros
abbrev pub header : Mode → List ℕ
header mode = 0x44 ∷ 0x56 ∷ 0x54 ∷ 0x43 ∷ 0x02 ∷ mode_byte mode ∷ 0x00 ∷ 0x00 ∷ []
