-- Settings that differ only in the number of workers, and their receptions.
use Rattle.std.specs.Prelude.{◌≡◌, ℕ, List}
use Rattle.mode_set.specs.declared.modes.Stream.{Stream}
use Rattle.mode_set.specs.declared.settings.Settings.{Settings}
use Rattle.symbol_parameters.specs.Spans.{exists_in}
use Rattle.reception.specs.Costs.{costs}
use Rattle.reception.specs.Streams.{Reception, Live, Final}
use Rattle.reception.specs.Lines.{events, event_lines, closing_lines}

-- all fields but `workers` agree
pub record DifferInWorkers (s t : Settings) : Type 0 where
  pub mode : t.mode ≡ s.mode
  pub shape : t.shape ≡ s.shape
  pub hierarchy : t.hierarchy ≡ s.hierarchy
  pub rate_hp : t.rate_hp ≡ s.rate_hp
  pub rate_lp : t.rate_lp ≡ s.rate_lp
  pub guard : t.guard ≡ s.guard
  pub cell_id : t.cell_id ≡ s.cell_id
  pub start : t.start ≡ s.start
  pub max_symbols : t.max_symbols ≡ s.max_symbols
  pub plan : t.plan ≡ s.plan

-- the live output of bytes is the same under both ..
abbrev pub SameLive : Type 0
SameLive = (s t : Settings) (bytes : List ℕ) (r : Reception) → DifferInWorkers s t → Live s bytes r → Live t bytes r

-- .. and so is the final output ..
abbrev pub SameFinal : Type 0
SameFinal = (s t : Settings) (bytes : List ℕ) (r : Reception) → DifferInWorkers s t → Final s bytes r → Final t bytes r

-- .. and the report has the same lines
abbrev pub SameLines : Type 0
SameLines = (s t : Settings) (bytes : List ℕ) (r : Reception) → DifferInWorkers s t
    → (event_lines t bytes r ≡ event_lines s bytes r) × (closing_lines t bytes r ≡ closing_lines s bytes r)

-- the streams are the same ..
abbrev pub SameStreams : Type 0
SameStreams = (s t : Settings) (σ : Stream) → DifferInWorkers s t → exists_in t σ ≡ exists_in s σ

-- .. the costs of each stream are the same ..
abbrev pub SameCosts : Type 0
SameCosts = (s t : Settings) (bytes : List ℕ) (σ : Stream) → DifferInWorkers s t → costs t bytes σ ≡ costs s bytes σ

-- .. and the events of reports
abbrev pub SameEvents : Type 0
SameEvents = (s t : Settings) (n : ℕ) (reports : Stream → List ℕ) → DifferInWorkers s t → events t n reports
    ≡ events s n reports
