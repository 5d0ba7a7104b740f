-- Commands that read cells: settings and cells are read, and the outputs are those of the work on the cells.
use Rattle.std.specs.Prelude.{◌≡◌, ◌<◌, ◌≤◌, ◌+◌, ◌*◌, ⊤, ℕ, true, List, [], ◌++◌, drop, Option, None, Some, is_some}
use Rattle.station_core.specs.Meaning.{Meaning, Source}
use Rattle.station_core.specs.declared.ports.InPort.{InPort}
use Rattle.station_core.specs.declared.ports.InPort.TheVariants as ins
use Rattle.station_core.specs.declared.ports.OutPort.{OutPort}
use Rattle.station_core.specs.declared.ports.OutPort.TheVariants as outs
use Rattle.cmd_base.specs.declared.refusal.Refusal.{Refusal}
use Rattle.cmd_base.specs.declared.refusal.Refusal.TheVariants as refusals
use Rattle.cmd_base.specs.declared.refusal.Refusal.TheVariants.{Limit}
use Rattle.cmd_base.specs.declared.refusal.CellsRefusal.TheVariants.{Header, NoPlace, AnnouncedForm}
use Rattle.cmd_base.specs.Command.{Command, Files, IsOutput, Unread, is_among}
use Rattle.cmd_base.specs.Header.{behind_header, header_size}
use Rattle.cmd_base.specs.Text.{refusal_status}
use Rattle.cmd_cells.specs.Symbols.{symbols, within_limit}
use Rattle.cmd_cells.specs.Work.{Work, Written}
use Rattle.cmd_cells.specs.Outputs.{Names}
use Rattle.cmd_cells.specs.Cells.{GivenUpTo}
use Rattle.cmd_cells.specs.Opening.{TakesHeader}

-- the settings and the cells are read
abbrev pub reads_at : List ℕ → List ℕ → InPort → Option (List ℕ)
reads_at settings cells ins.Settings = Some settings
reads_at settings cells ins.Hp = None
reads_at settings cells ins.Lp = None
reads_at settings cells ins.Cells = Some cells

-- the state of the settings' port before the cells are opened: they were read to their end and accepted
pub record SettingsDone (c : Command) (limit : ℕ) (name : List ℕ) (start : Meaning) (at : Source) : Type 0 where
  pub asked : at.asked ≡ Some name
  pub attached : at.attached ≡ true
  pub left : start.tells ≡ true → at.left ≡ []
  pub read : start.tells ≡ true → (k : ℕ) × (k ≤ c.most_taken limit start.file ins.Settings)
      × (at.left ≡ drop k (start.file name))
  pub accepted : start.tells ≡ true → c.early_refusal start.file ≡ None

-- each output is what was given there, and Report has its lines
pub record Come (c : Command) (limit : ℕ) (file : Files) (given : Written) : Type 0 where
  pub outputs : (port : OutPort) → IsOutput c port → c.Comes limit file port (given port)
  pub report : c.Prints limit file (given outs.Report)

-- the same up to a failed read
pub record ComeSoFar (c : Command) (limit : ℕ) (file : Files) (unread : Unread) (given : Written) : Type 0 where
  pub outputs : (port : OutPort) → IsOutput c port → c.ComesSoFar limit file unread port (given port)
  pub report : c.PrintsSoFar limit file unread (given outs.Report)

-- outputs that begin with these
pub record Continues (c : Command) (limit : ℕ) (file : Files) (given : Written) : Type 0 where
  pub all : Written
  pub come : Come c limit file all
  pub begins : (port : OutPort) → (rest : List ℕ) × (all port ≡ given port ++ rest)

-- the reasons for which work may refuse its cells: their content and, if the command allocates memory within its work,
-- lack of memory
abbrev pub MayRefuse : Command → Refusal → Type 0
MayRefuse c refusals.Usage = ⊥
MayRefuse c (refusals.Settings reason) = ⊥
MayRefuse c refusals.ReadFault = ⊥
MayRefuse c refusals.WriteFault = ⊥
MayRefuse c (refusals.NotSync stream n) = ⊥
MayRefuse c refusals.Memory = c.memory_at_work ≡ true
MayRefuse c (refusals.Limit n) = ⊥
MayRefuse c (refusals.Cells Header) = ⊥
MayRefuse c (refusals.Cells NoPlace) = ⊤
MayRefuse c (refusals.Cells AnnouncedForm) = ⊤

-- The output before a refusal is what the command defines, and the refusal is the command's. At lack of memory nothing
-- was given, and the files and unread bytes allow it.
abbrev pub ComesRefused : Command → ℕ → Files → Unread → Written → Refusal → Type 0
ComesRefused c limit file unread given refusals.Memory = c.LacksAtWork limit file unread
    × ((port : OutPort) → given port ≡ [])
ComesRefused c limit file unread given refusals.Usage = ⊥
ComesRefused c limit file unread given (refusals.Settings reason) = ⊥
ComesRefused c limit file unread given refusals.ReadFault = ⊥
ComesRefused c limit file unread given refusals.WriteFault = ⊥
ComesRefused c limit file unread given (refusals.NotSync stream n) = ⊥
ComesRefused c limit file unread given (refusals.Limit n) = ⊥
ComesRefused c limit file unread given (refusals.Cells reason) = Come c limit file given
    × (c.work_refusal limit file ≡ Some (refusals.Cells reason))

-- The outputs of the command are those of the work on the cells, `bytes` after their header.
pub record ComesTo (c : Command) (limit : ℕ) (file : Files) (w : Work) (most : ℕ) (bytes : List ℕ) : Type 0 where
  -- all cells, if they are within the limit
  pub whole : (given : Written) → symbols w.size bytes ≤ most → w.Ends bytes given → Come c limit file given
      × (c.work_refusal limit file ≡ None)
  -- the cells within the limit, if there are more
  pub past : (given : Written) → most < symbols w.size bytes → w.Gives (within_limit most w.size bytes) given
      → Come c limit file given × (c.work_refusal limit file ≡ Some (Limit most))
  -- the cells up to a refusal by the work
  pub refused : (unread : Unread) (taken : List ℕ) (given : Written) (r : Refusal) → bytes ≡ taken ++ unread ins.Cells
      → symbols w.size taken ≤ most → w.Reasons r → w.Refuses taken (unread ins.Cells) given r
      → ComesRefused c limit file unread given r
  -- the cells up to a failed read
  pub so_far : (unread : Unread) (taken : List ℕ) (given : Written) → bytes ≡ taken ++ unread ins.Cells
      → symbols w.size taken ≤ most → w.Gives taken given → ComeSoFar c limit file unread given
  -- the output of a prefix is a prefix of the output
  pub begun : (given : Written) → GivenUpTo w most bytes given → Continues c limit file given
  pub first : (given : Written) × w.Gives [] given

-- a command on cells that must begin with this header, if any
pub record CellCommand (c : Command) (limit : ℕ) (settings cells : List ℕ) (header : Option (List ℕ)) (names : Names)
    (w : Work) (most : ℕ) (start : Meaning) : Type 0 where
  pub reads : (port : InPort) → c.reads port ≡ reads_at settings cells port
  pub writes : (port : OutPort) → c.writes port ≡ names port
  pub header_is : start.tells ≡ true → c.header start.file ≡ header
  pub no_report : names outs.Report ≡ None
  pub some : 0 < w.size
  pub done : is_among 0 c.statuses ≡ true
  pub read_fault : is_among 5 c.statuses ≡ true
  pub write_fault : is_among 6 c.statuses ≡ true
  pub unheaded : is_some header ≡ true → is_among 9 c.statuses ≡ true
  pub limit_passed : is_among 8 c.statuses ≡ true
  pub most_taken : start.tells ≡ true → header_size header + (most + 1) * w.size ≤ c.most_taken limit start.file
      ins.Cells
  pub comes : start.tells ≡ true → ComesTo c limit start.file w most (behind_header header (start.file cells))
  -- if reading stops within the header, no line is printed
  pub unread : start.tells ≡ true → (unread : Unread) → TakesHeader header (start.file cells) (unread ins.Cells)
      → c.PrintsSoFar limit start.file unread []
  pub its : (r : Refusal) → w.Reasons r → MayRefuse c r × (is_among (refusal_status r) c.statuses ≡ true)
  pub own : (file : Files) → c.Own limit file
