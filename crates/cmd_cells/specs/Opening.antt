-- Opening a file of cells, up to its first symbol; `header` is the header required, if any.
use Rattle.std.specs.Prelude.{◌≡◌, ◌⊎◌, ◌≤◌, ℕ, true, false, List, drop, Option, None, Some, is_some, Result, Ok, Err}
use Rattle.station_core.specs.Meaning.{Meaning}
use Rattle.station_core.specs.Causes.{Rose}
use Rattle.cmd_base.specs.declared.refusal.Refusal.{Refusal}
use Rattle.cmd_base.specs.declared.refusal.Refusal.TheVariants.{ReadFault, Cells}
use Rattle.cmd_base.specs.declared.refusal.CellsRefusal.TheVariants.{Header}
use Rattle.cmd_base.specs.Header.{behind_header, header_refusal, header_size}

-- only Cells and the count of read faults have changed
abbrev pub CellsOnly : Meaning → Meaning → Type 0
CellsOnly old new = new ≡ record old { cells = new.cells; read_faults = new.read_faults }

-- nothing past the header was taken of the cells left
abbrev pub TakesHeader : Option (List ℕ) → List ℕ → List ℕ → Type 0
TakesHeader header before left = (k : ℕ) × (k ≤ header_size header) × (left ≡ drop k before)

-- the header of open cells was read
pub record IsRead (header : Option (List ℕ)) (old new : Meaning) : Type 0 where
  pub others : CellsOnly old new
  pub asked : new.cells.asked ≡ old.cells.asked
  pub attached : new.cells.attached ≡ old.cells.attached
  pub taken : old.tells ≡ true → TakesHeader header old.cells.left new.cells.left

-- it is the header; or it is not; or the read failed
abbrev pub ReadsHeader : Option (List ℕ) → Meaning → Meaning → Result (Unit {0}) Refusal → Type 0
ReadsHeader header old new (Ok u) =
    (new ≡ record old { cells = record old.cells { left = behind_header header old.cells.left } })
    × (old.tells ≡ true → header_refusal header old.cells.left ≡ None)
ReadsHeader header old new (Err ReadFault) = IsRead header old new × Rose old.read_faults new.read_faults
    × (old.read_faults ≤ new.read_faults)
ReadsHeader header old new (Err (Cells Header)) =
    IsRead header old new × (is_some header ≡ true) × (new.read_faults ≡ old.read_faults)
    × (old.tells ≡ true → header_refusal header old.cells.left ≡ Some (Cells Header))
ReadsHeader header old new (Err refusal) = ⊥

-- the cells were opened, and their header was read
abbrev pub opened : List ℕ → Option (List ℕ) → Meaning → Meaning
opened cells header m = record m
    { cells = record { asked = Some cells; attached = true; left = behind_header header (m.file cells) } }

-- They were not opened, or nothing past the header was read. Nothing else was requested.
pub record IsUnopened (cells : List ℕ) (header : Option (List ℕ)) (old new : Meaning) : Type 0 where
  pub others : CellsOnly old new
  pub asked : new.cells.asked ≡ Some cells
  pub taken : (new.cells.attached ≡ false) ⊎ ((new.cells.attached ≡ true) ×
      (old.tells ≡ true → TakesHeader header (old.file cells) new.cells.left))

-- the effect of opening: the header was read and accepted, a read failed, or the header was refused
abbrev pub Opens : List ℕ → Option (List ℕ) → Meaning → Meaning → Result (Unit {0}) Refusal → Type 0
Opens cells header old new (Ok u) = (new ≡ opened cells header old)
    × (old.tells ≡ true → header_refusal header (old.file cells) ≡ None)
Opens cells header old new (Err ReadFault) = IsUnopened cells header old new × Rose old.read_faults new.read_faults
    × (old.read_faults ≤ new.read_faults)
Opens cells header old new (Err (Cells Header)) =
    IsUnopened cells header old new × (is_some header ≡ true) × (new.read_faults ≡ old.read_faults)
    × (old.tells ≡ true → header_refusal header (old.file cells) ≡ Some (Cells Header))
Opens cells header old new (Err refusal) = ⊥
