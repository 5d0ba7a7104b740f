-- A command with its arguments: the files that it reads and writes, and their contents.
use Rattle.std.specs.Prelude.{◌==◌, ◌||◌, ℕ, Bool, false, IsTrue, List, [], ◌∷◌, Option, None, Some, is_some}
use Rattle.std.specs.Prelude.{if◌then◌else◌}
use Rattle.std.specs.Option.{option_or}
use Rattle.station_core.specs.Meaning.{Meaning, source_at}
use Rattle.station_core.specs.declared.ports.InPort.{InPort}
use Rattle.station_core.specs.declared.ports.InPort.TheVariants.{Cells}
use Rattle.station_core.specs.declared.ports.OutPort.{OutPort}
use Rattle.cmd_base.specs.declared.refusal.Refusal.{Refusal}
use Rattle.cmd_base.specs.Header.{header_refusal}

-- the bytes of the file of each name
abbrev pub Files : Type 0
Files = List ℕ → List ℕ

-- the bytes left to read at each input
abbrev pub Unread : Type 0
Unread = InPort → List ℕ

-- a command: what it reads and writes, its statuses, its refusals, and its outputs
pub record Command : Type 1 where
  -- the name of the file read at each input port, if any, and of the file written at each output port
  pub reads : InPort → Option (List ℕ)
  pub writes : OutPort → Option (List ℕ)
  -- the possible statuses
  pub statuses : List ℕ
  -- whether its work also allocates memory, after other files than the settings were opened
  pub memory_at_work : Bool
  -- the files and unread bytes for which its work may lack memory; the number is that of `work_refusal`
  pub LacksAtWork : ℕ → Files → Unread → Type 0
  -- the refusal of its arguments or settings, if any
  pub early_refusal : Files → Option Refusal
  -- the header required of its cells, if any
  pub header : Files → Option (List ℕ)
  -- the refusal of its work, if any; the number is the most packets taken from a transport file
  pub work_refusal : ℕ → Files → Option Refusal
  -- the most bytes taken from an input
  pub most_taken : ℕ → Files → InPort → ℕ
  -- the bytes of each output: all of them or, if the work is refused, those before the refusal
  pub Comes : ℕ → Files → OutPort → List ℕ → Type 0
  -- the lines of the report: all or those before the refusal; the text of a refusal is not among them
  pub Prints : ℕ → Files → List ℕ → Type 0
  -- the same if reading stops at a fault, with these bytes left unread
  pub ComesSoFar : ℕ → Files → Unread → OutPort → List ℕ → Type 0
  pub PrintsSoFar : ℕ → Files → Unread → List ℕ → Type 0
  -- laws of all its outputs for these files; most commands have none
  pub Own : ℕ → Files → Type 0

-- the command writes at the port
abbrev pub IsOutput : Command → OutPort → Type 0
IsOutput c port = IsTrue (is_some (c.writes port))

-- the command reads at the port
abbrev pub IsInput : Command → InPort → Type 0
IsInput c port = IsTrue (is_some (c.reads port))

-- a list contains the number
abbrev pub is_among : ℕ → List ℕ → Bool
is_among n [] = false
is_among n (m ∷ ms) = (n == m) || is_among n ms

-- the whole file of this name; no bytes without a name
abbrev pub named : Files → Option (List ℕ) → List ℕ
named file None = []
named file (Some name) = file name

-- the whole file that a command reads at a port
abbrev pub input_file : Files → Command → InPort → List ℕ
input_file file c port = named file (c.reads port)

-- the refusal of a run without faults: of the settings, then of the header, then of the work
abbrev pub refusal_of : ℕ → Files → Command → Option Refusal
refusal_of limit file c = option_or (c.early_refusal file) (option_or
    (header_refusal (c.header file) (input_file file c Cells)) (c.work_refusal limit file))

-- the bytes left to read at an input; all of them if it was not opened
abbrev pub unread : Command → Meaning → Unread
unread c m port = if (source_at port m).attached then (source_at port m).left else input_file m.file c port
