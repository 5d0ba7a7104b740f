-- The header required of a file of cells, if any.
use Rattle.std.specs.Prelude.{◌≡◌, ℕ, ⊤, List, ◌++◌, length, take, drop, bytes_eq, Option, None, Some, if◌then◌else◌}
use Rattle.cmd_base.specs.declared.refusal.Refusal.{Refusal}
use Rattle.cmd_base.specs.declared.refusal.Refusal.TheVariants.{Cells}
use Rattle.cmd_base.specs.declared.refusal.CellsRefusal.TheVariants.{Header}

-- its length
abbrev pub header_size : Option (List ℕ) → ℕ
header_size None = 0
header_size (Some header) = length header

-- the bytes of a file after its header
abbrev pub behind_header : Option (List ℕ) → List ℕ → List ℕ
behind_header None file = file
behind_header (Some header) file = drop (length header) file

-- the refusal of a file that does not begin with it, or is too short
abbrev pub header_refusal : Option (List ℕ) → List ℕ → Option Refusal
header_refusal None file = None
header_refusal (Some header) file = if bytes_eq (take (length header) file) header then None else Some (Cells Header)

-- the file is its header, then the bytes taken, then those left
abbrev pub IsHeaderTaken : Option (List ℕ) → List ℕ → List ℕ → Type 0
IsHeaderTaken None file left = ⊤
IsHeaderTaken (Some header) file left = (taken : List ℕ) × (file ≡ header ++ taken ++ left)
