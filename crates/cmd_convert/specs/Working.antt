-- The work of a conversion on old cells.
use Rattle.std.specs.Prelude.{◌≡◌, ◌<◌, ℕ, Bool, true, false, List, []}
use Rattle.station_core.specs.declared.ports.OutPort.{OutPort}
use Rattle.station_core.specs.declared.ports.OutPort.TheVariants as outs
use Rattle.cmd_cells.specs.Symbols.{symbols, tail}
use Rattle.cmd_cells.specs.Work.{Work, Written}
use Rattle.cmd_convert.specs.Conversion.{Conversion, closing_line, new_file}

-- the new file is written
abbrev pub writes_at : OutPort → Bool
writes_at outs.Cells = true
writes_at outs.Hp = false
writes_at outs.Lp = false
writes_at outs.Bytes = false
writes_at outs.Report = false

-- these bytes at Cells, and these lines at Report
abbrev pub written_at : List ℕ → List ℕ → Written
written_at cells lines outs.Cells = cells
written_at cells lines outs.Hp = []
written_at cells lines outs.Lp = []
written_at cells lines outs.Bytes = []
written_at cells lines outs.Report = lines

-- a prefix of the old cells gives the file of its whole symbols, and the end also the closing line; a conversion
-- refuses no cells
abbrev pub FirstGive : Conversion → List ℕ → Written → Type 0
FirstGive c bytes given = (port : OutPort) → given port ≡ written_at (new_file c bytes) [] port

-- the output for all bytes is the whole new file and the closing line
abbrev pub AllGive : Conversion → List ℕ → Written → Type 0
AllGive c bytes given = (port : OutPort) → given port ≡ written_at (new_file c bytes) (closing_line c bytes) port

-- the work of a conversion
abbrev pub conversion_work : Conversion → Work
conversion_work c = record {
  size = c.size;
  Gives = FirstGive c;
  Ends = AllGive c;
  Refuses = λ bytes left given r. ⊥;
  Reasons = λ r. ⊥;
}

-- the whole symbols of these bytes and the bytes after them were counted, and this is their output
pub record Counts (c : Conversion) (counted rest : ℕ) (bytes : List ℕ) (given : Written) : Type 0 where
  pub some : 0 < c.size
  pub whole : counted ≡ symbols c.size bytes
  pub behind : rest ≡ tail c.size bytes
  pub gives : FirstGive c bytes given

-- nothing is counted yet
pub record CountsNone (c : Conversion) (counted rest : ℕ) : Type 0 where
  pub some : 0 < c.size
  pub whole : counted ≡ 0
  pub behind : rest ≡ 0
