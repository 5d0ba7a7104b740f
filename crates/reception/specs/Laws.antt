-- The laws of reception. Each is the clause of a public function of module laws.
use Rattle.std.specs.Prelude.{◌≡◌, ℕ, ◌+◌, ◌-◌, ◌*◌, ◌%◌, ◌<◌, ◌≤◌, Bool, false, List, [], ◌++◌, map, length, drop}
use Rattle.std.specs.Prelude.{slice_index_or, Option, All}
use Rattle.code_paths.specs.declared.costs.CostPair.{CostPair}
use Rattle.code_paths.specs.Streams.{Given, Reports}
use Rattle.mode_set.specs.declared.modes.Start.{Start}
use Rattle.mode_set.specs.declared.modes.Stream.{Stream}
use Rattle.mode_set.specs.declared.modes.Stream.TheVariants.{Hp, Lp}
use Rattle.mode_set.specs.declared.settings.Settings.{Settings}
use Rattle.symbol_parameters.specs.Spans.{settings_at, exists_in, steps_before, IsStepOf}
use Rattle.outer_chain.specs.Words.{Tally}
use Rattle.inner_chain.specs.PairLists.{pair_of}
use Rattle.reception.specs.Cells.{symbol_length, symbols, tail, bytes_of_symbol, symbol_cells, symbol_weights}
use Rattle.reception.specs.Costs.{symbol_costs, costs}
use Rattle.qam_map.specs.declared.cell.Cell.{Cell}
use Rattle.reception.specs.Frames.{tps_cells, frame_bits}
use Rattle.reception.specs.Streams.{memory, start_of, Reception, Live, Final}
use Rattle.reception.specs.Lines.{event_at, events}

-- bytes that do not complete the unfinished symbol
abbrev pub IsWithin : Settings → List ℕ → List ℕ → Type 0
IsWithin s bytes more = tail s bytes + length more < symbol_length s

-- bytes that complete it
abbrev pub EndsSymbol : Settings → List ℕ → List ℕ → Type 0
EndsSymbol s bytes more = tail s bytes + length more ≡ symbol_length s

-- ---- symbols

-- bytes within a symbol do not change the number of whole symbols
abbrev pub SameSymbols : Type 0
SameSymbols = (s : Settings) (bytes more : List ℕ) → IsWithin s bytes more → symbols s (bytes ++ more) ≡ symbols s bytes

-- bytes that complete a symbol add one, and no byte remains after it
abbrev pub OneSymbolMore : Type 0
OneSymbolMore = (s : Settings) (bytes more : List ℕ) → EndsSymbol s bytes more
    → (symbols s (bytes ++ more) ≡ symbols s bytes + 1) × (tail s (bytes ++ more) ≡ 0)

-- the bytes after the whole symbols
abbrev pub unfinished : Settings → List ℕ → List ℕ
unfinished s bytes = drop (symbols s bytes * symbol_length s) bytes

-- the tail is their number
abbrev pub TailIsUnfinished : Type 0
TailIsUnfinished = (s : Settings) (bytes : List ℕ) → length (unfinished s bytes) ≡ tail s bytes

-- bytes within a symbol are appended to them
abbrev pub MoreUnfinished : Type 0
MoreUnfinished = (s : Settings) (bytes more : List ℕ) → IsWithin s bytes more → unfinished s (bytes ++ more)
    ≡ unfinished s bytes ++ more

-- the bytes of the completed symbol
abbrev pub EndedSymbol : Type 0
EndedSymbol = (s : Settings) (bytes more : List ℕ) → EndsSymbol s bytes more
    → (bytes_of_symbol s (bytes ++ more) (symbols s bytes) ≡ unfinished s bytes ++ more)
    × (unfinished s (bytes ++ more) ≡ [])

-- more bytes leave the cells of whole symbols unchanged
abbrev pub CellsStay : Type 0
CellsStay = (s : Settings) (bytes more : List ℕ) (m : ℕ) → m < symbols s bytes → symbol_cells s (bytes ++ more) m
    ≡ symbol_cells s bytes m

-- more bytes leave the weights of whole symbols unchanged
abbrev pub WeightsStay : Type 0
WeightsStay = (s : Settings) (bytes more : List ℕ) (m : ℕ) → m < symbols s bytes → symbol_weights s (bytes ++ more) m
    ≡ symbol_weights s bytes m

-- more bytes leave the TPS cells of whole symbols unchanged
abbrev pub TpsCellsStay : Type 0
TpsCellsStay = (s : Settings) (bytes more : List ℕ) (m : ℕ) → m < symbols s bytes → tps_cells s (bytes ++ more) m
    ≡ tps_cells s bytes m

-- the bits of a frame depend only on the cells of its symbols
abbrev pub BitsOfCells : Type 0
BitsOfCells = (cells longer : ℕ → List Cell) (frame : ℕ) → ((m : ℕ) → m < 68 * frame + 68 → longer m ≡ cells m)
    → frame_bits longer frame ≡ frame_bits cells frame

-- ---- costs

-- the costs of longer bytes begin with those of shorter ones
abbrev pub CostsGrow : Type 0
CostsGrow = (s : Settings) (bytes more : List ℕ) (σ : Stream) → (rest : List CostPair)
    × (costs s (bytes ++ more) σ ≡ costs s bytes σ ++ rest)

-- bytes within a symbol add no costs
abbrev pub SameCosts : Type 0
SameCosts = (s : Settings) (bytes more : List ℕ) (σ : Stream) → IsWithin s bytes more → costs s (bytes ++ more) σ
    ≡ costs s bytes σ

-- bytes that complete a symbol add its costs
abbrev pub NextCosts : Type 0
NextCosts = (s : Settings) (bytes more : List ℕ) (σ : Stream) → EndsSymbol s bytes more → costs s (bytes ++ more) σ
    ≡ costs s bytes σ ++ symbol_costs s (bytes ++ more) σ (symbols s bytes)

-- without bytes there are no costs
abbrev pub NoCosts : Type 0
NoCosts = (s : Settings) (σ : Stream) → costs s [] σ ≡ []

-- one pair for each step of every whole symbol
abbrev pub CostsAreSteps : Type 0
CostsAreSteps = (s : Settings) (bytes : List ℕ) (σ : Stream) → length (costs s bytes σ)
    ≡ steps_before s σ (symbols s bytes)

-- step t belongs to its symbol, and counts from 0 there
abbrev pub CostOfStep : Type 0
CostOfStep = (s : Settings) (bytes : List ℕ) (σ : Stream) (m t : ℕ) (d : CostPair) → m < symbols s bytes
    → IsStepOf s σ m t
    → slice_index_or (costs s bytes σ) t d ≡ pair_of (settings_at s m) (symbol_cells s bytes m) (symbol_weights s bytes
    m) (m % 68) σ (t - steps_before s σ m)

-- a stream that does not exist has no costs
abbrev pub NoCostsWithout : Type 0
NoCostsWithout = (s : Settings) (bytes : List ℕ) (σ : Stream) → exists_in s σ ≡ false → costs s bytes σ ≡ []

-- ---- reports and events

-- reports are numbers of steps, counted from 1
abbrev pub ReportsAreSteps : Type 0
ReportsAreSteps = (most : ℕ) (a : Option (List Bool)) (c : List CostPair) (rs : List ℕ) → Reports most a c rs
    → All (λ at. (0 < at) × (at ≤ length c)) rs

-- new reports name later steps
abbrev pub NewReportsAreLater : Type 0
NewReportsAreLater = (most : ℕ) (a : Option (List Bool)) (c more : List CostPair) (rs us : List ℕ) → Reports most a c rs
    → Reports most a (c ++ more) (rs ++ us) → All (λ at. (length c < at) × (at ≤ length c + length more)) us

-- the reports of each stream for these bytes
abbrev pub AreReports : Settings → List ℕ → (Stream → List ℕ) → Type 0
AreReports s bytes reports = (σ : Stream) → Reports memory (start_of s.start) (costs s bytes σ) (reports σ)

-- one more symbol: its reports follow, HP before LP
abbrev pub NextEvents : Type 0
NextEvents = (s : Settings) (bytes more : List ℕ) (before new : Stream → List ℕ) → EndsSymbol s bytes more
    → AreReports s bytes before → AreReports s (bytes ++ more) (λ σ. before σ ++ new σ)
    → events s (symbols s bytes + 1) (λ σ. before σ ++ new σ) ≡ events s (symbols s bytes) before
    ++ (map (event_at Hp) (new Hp) ++ map (event_at Lp) (new Lp))

-- without symbols there are no reports
abbrev pub NoEvents : Type 0
NoEvents = (s : Settings) (reports : Stream → List ℕ) → events s 0 reports ≡ []

-- ---- receptions

-- two receptions are equal in everything received
pub record AreSame (r q : Reception) : Type 0 where
  pub packets : (σ : Stream) → r.packets σ ≡ q.packets σ
  pub reports : (σ : Stream) → r.reports σ ≡ q.reports σ
  pub tally : (σ : Stream) → r.tally σ ≡ q.tally σ
  pub read : r.read ≡ q.read
  pub bad : r.bad ≡ q.bad

-- bytes have one live output
abbrev pub OneLive : Type 0
OneLive = (s : Settings) (bytes : List ℕ) (r q : Reception) → Live s bytes r → Live s bytes q → AreSame r q

-- bytes have one final output
abbrev pub OneFinal : Type 0
OneFinal = (s : Settings) (bytes : List ℕ) (r q : Reception) → Final s bytes r → Final s bytes q → AreSame r q

-- the live output only grows with longer bytes
pub record Grows (r q : Reception) : Type 0 where
  pub packets : (σ : Stream) → (rest : List ℕ) × (q.packets σ ≡ r.packets σ ++ rest)
  pub reports : (σ : Stream) → (rest : List ℕ) × (q.reports σ ≡ r.reports σ ++ rest)
  pub read : r.read ≤ q.read
  pub bad : r.bad ≤ q.bad

-- more bytes only extend the live output
abbrev pub LiveGrows : Type 0
LiveGrows = (s : Settings) (bytes more : List ℕ) (r q : Reception) → Live s bytes r → Live s (bytes ++ more) q
    → Grows r q

-- the final output begins with the live one, and has the same reports and frames
pub record Ends (r q : Reception) : Type 0 where
  pub packets : (σ : Stream) → (rest : List ℕ) × (q.packets σ ≡ r.packets σ ++ rest)
  pub reports : (σ : Stream) → q.reports σ ≡ r.reports σ
  pub read : q.read ≡ r.read
  pub bad : q.bad ≡ r.bad

-- the final output extends the live one of the same bytes
abbrev pub FinalEndsLive : Type 0
FinalEndsLive = (s : Settings) (bytes : List ℕ) (r q : Reception) → Live s bytes r → Final s bytes q → Ends r q

-- ---- no bytes

-- the counts of no words
abbrev pub no_words : Tally
no_words = record { words = 0; clean = 0; corrected = 0; bad = 0; unphased = 0 }

-- nothing received
abbrev pub nothing : Reception
nothing = record { packets = λ σ. []; reports = λ σ. []; tally = λ σ. no_words; read = 0; bad = 0 }

-- no costs give no bits
abbrev pub NothingGiven : Type 0
NothingGiven = (most : ℕ) (start : Start) → Given most (start_of start) [] []

-- without bytes there is no live output
abbrev pub NothingLive : Type 0
NothingLive = (s : Settings) → Live s [] nothing
