-- The output of a command on cells is unique. Outputs are defined by relations; here each relation holds for one list
-- of bytes.
use Rattle.std.specs.Prelude.{◌≡◌, ℕ, List}
use Rattle.station_core.specs.declared.ports.OutPort.{OutPort}

-- exactly one list satisfies `Is`
abbrev pub ExactlyOne : (List ℕ → Type 0) → Type 0
ExactlyOne Is = (one : List ℕ) × Is one × ((other : List ℕ) → Is other → other ≡ one)

-- at most one list satisfies `Is`
abbrev pub AtMostOne : (List ℕ → Type 0) → Type 0
AtMostOne Is = (one other : List ℕ) → Is one → Is other → other ≡ one

-- Each output and the lines of the report are unique. After a failed read that leaves `left` unread there is at most
-- one, as `left` may not be the end of the file.
pub record IsOneOutput (Output : OutPort → List ℕ → Type 0) (Lines : List ℕ → Type 0)
    (OutputSoFar : List ℕ → OutPort → List ℕ → Type 0) (LinesSoFar : List ℕ → List ℕ → Type 0) : Type 0 where
  pub outputs : (port : OutPort) → ExactlyOne (Output port)
  pub lines : ExactlyOne Lines
  pub outputs_so_far : (left : List ℕ) (port : OutPort) → AtMostOne (OutputSoFar left port)
  pub lines_so_far : (left : List ℕ) → AtMostOne (LinesSoFar left)
