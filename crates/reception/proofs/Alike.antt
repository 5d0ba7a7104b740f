-- No definition of a reception depends on the number of workers.
use Rattle.std.proofs.Common.{◌≡◌, ℕ, ◌+◌, ◌%◌, ◌/◌, ◌++◌, ◌&&◌, List, Option, map, refl, sym, ap, subst}
use Rattle.std.specs.Prelude.{Some, None, nat_lt, nat_le, filter, find, flat_map, reverse, sum_by, unwrap_or}
use Rattle.std.proofs.Math.Bridge.{le_prop}
use Rattle.spec_words.specs.Words.{numbers}
use Rattle.code_paths.specs.declared.costs.CostPair.{CostPair}
use Rattle.code_paths.specs.Streams.{Reports}
use Rattle.mode_set.specs.Entries.{top, with_entry}
use Rattle.mode_set.specs.Kept.{IsKept}
use Rattle.mode_set.specs.Plans.{entries_of}
use Rattle.mode_set.specs.StreamTable.{need}
use Rattle.mode_set.specs.declared.entry.Entry.{Entry}
use Rattle.mode_set.specs.declared.plan.Plan.{Plan}
use Rattle.mode_set.specs.declared.modes.Mode.{Mode}
use Rattle.mode_set.specs.declared.modes.Shape.{Shape}
use Rattle.mode_set.specs.declared.modes.Hierarchy.{Hierarchy}
use Rattle.mode_set.specs.declared.modes.Rate.{Rate}
use Rattle.mode_set.specs.declared.modes.Guard.{Guard}
use Rattle.mode_set.specs.declared.modes.Start.{Start}
use Rattle.mode_set.specs.declared.modes.Stream.{Stream}
use Rattle.mode_set.specs.declared.modes.Stream.TheVariants.{Hp, Lp}
use Rattle.mode_set.specs.declared.settings.Settings.{Settings}
use Rattle.qam_map.specs.declared.cell.Cell.{Cell}
use Rattle.inner_chain.specs.CostPairs.{costs_on, weighted_costs_on}
use Rattle.inner_chain.specs.PairLists.{pair_of}
use Rattle.symbol_parameters.specs.Spans.{settings_in, exists_in, steps_of, steps_before}
use Rattle.reception.specs.Cells.{symbols, symbol_cells, symbol_weights, bytes_of_symbol}
use Rattle.reception.specs.Costs.{symbol_costs, costs}
use Rattle.reception.specs.Frames.{tps_cells, frame_bits, CountsWords}
use Rattle.rx_report.specs.Text.{event_line}
use Rattle.rx_report.specs.declared.counts.Event.{Event}
use Rattle.reception.specs.Lines.{event_at, events, event_lines, closing_lines}
use Rattle.reception.specs.Streams.{memory, start_of, Moment, so_far, at_end, IsDecoded, Reception, Receives}
use Rattle.reception.specs.Alike.{DifferInWorkers, SameCosts, SameEvents, SameFinal, SameLines, SameLive, SameStreams}

-- the same settings with another number of workers
abbrev pub with_workers : (s : Settings) (w : ℕ) → IsKept s.shape s.hierarchy s.rate_lp w s.max_symbols → Settings
with_workers s w k = record s { workers = w; kept = k }

-- a fact on the settings with these fields, for any proof of their invariant
abbrev Of : (Settings → Type 0) → ℕ → Mode → Shape → Hierarchy → Rate → Option Rate → Guard → Option ℕ → Start → ℕ → Plan → Type 0
Of Fact w mode shape hierarchy rate_hp rate_lp guard cell_id start most plan =
    (k : IsKept shape hierarchy rate_lp w most) → Fact (record { mode = mode; shape = shape; hierarchy = hierarchy; rate_hp = rate_hp; rate_lp = rate_lp; guard = guard; cell_id = cell_id; start = start; workers = w; max_symbols = most; plan = plan; kept = k })

-- what holds with another number of workers holds for settings that differ only in it
pub over : (Fact : Settings → Type 0) (s t : Settings) → DifferInWorkers s t → ((k : IsKept s.shape s.hierarchy s.rate_lp t.workers s.max_symbols) → Fact (with_workers s t.workers k)) → Fact t
over Fact s t d base =
    let a = subst (λ (x : Mode). Of Fact t.workers x s.shape s.hierarchy s.rate_hp s.rate_lp s.guard s.cell_id s.start s.max_symbols s.plan) (sym d.mode) base in
    let b = subst (λ (x : Shape). Of Fact t.workers t.mode x s.hierarchy s.rate_hp s.rate_lp s.guard s.cell_id s.start s.max_symbols s.plan) (sym d.shape) a in
    let c = subst (λ (x : Hierarchy). Of Fact t.workers t.mode t.shape x s.rate_hp s.rate_lp s.guard s.cell_id s.start s.max_symbols s.plan) (sym d.hierarchy) b in
    let e = subst (λ (x : Rate). Of Fact t.workers t.mode t.shape t.hierarchy x s.rate_lp s.guard s.cell_id s.start s.max_symbols s.plan) (sym d.rate_hp) c in
    let f = subst (λ (x : Option Rate). Of Fact t.workers t.mode t.shape t.hierarchy t.rate_hp x s.guard s.cell_id s.start s.max_symbols s.plan) (sym d.rate_lp) e in
    let g = subst (λ (x : Guard). Of Fact t.workers t.mode t.shape t.hierarchy t.rate_hp t.rate_lp x s.cell_id s.start s.max_symbols s.plan) (sym d.guard) f in
    let h = subst (λ (x : Option ℕ). Of Fact t.workers t.mode t.shape t.hierarchy t.rate_hp t.rate_lp t.guard x s.start s.max_symbols s.plan) (sym d.cell_id) g in
    let j = subst (λ (x : Start). Of Fact t.workers t.mode t.shape t.hierarchy t.rate_hp t.rate_lp t.guard t.cell_id x s.max_symbols s.plan) (sym d.start) h in
    let l = subst (λ (x : ℕ). Of Fact t.workers t.mode t.shape t.hierarchy t.rate_hp t.rate_lp t.guard t.cell_id t.start x s.plan) (sym d.max_symbols) j in
    let m = subst (λ (x : Plan). Of Fact t.workers t.mode t.shape t.hierarchy t.rate_hp t.rate_lp t.guard t.cell_id t.start t.max_symbols x) (sym d.plan) l in
    m t.kept

module _ (s : Settings) (w : ℕ) (k : IsKept s.shape s.hierarchy s.rate_lp w s.max_symbols) where
  -- its costs are the same, and their bound has at most one proof
  pair_alike : (cells : List Cell) (weights : List ℕ) (l : ℕ) (σ : Stream) (t : ℕ) → pair_of s cells weights l σ t ≡ pair_of (with_workers s w k) cells weights l σ t
  unfolding pair_of weighted_costs_on costs_on
  pair_alike cells weights l σ t = λ i.
      let p = pair_of s cells weights l σ t in
      let q = pair_of (with_workers s w k) cells weights l σ t in
      record {
        x0 = p.x0;
        x1 = p.x1;
        y0 = p.y0;
        y1 = p.y1;
        small = record { x0_small = le_prop p.small.x0_small q.small.x0_small i; x1_small = le_prop p.small.x1_small q.small.x1_small i; y0_small = le_prop p.small.y0_small q.small.y0_small i; y1_small = le_prop p.small.y1_small q.small.y1_small i };
      }

  -- and so are those of all its steps in a symbol
  pub pairs_alike : (cells : List Cell) (weights : List ℕ) (l : ℕ) (σ : Stream) → map (pair_of s cells weights l σ) (numbers (need s σ)) ≡ map (pair_of (with_workers s w k) cells weights l σ) (numbers (need (with_workers s w k) σ))
  pairs_alike cells weights l σ = λ i. map (λ t. pair_alike cells weights l σ t i) (numbers (need s σ))

module _ (s : Settings) (w : ℕ) (k : IsKept s.shape s.hierarchy s.rate_lp w s.max_symbols) where
  -- the settings with the parameters found, or with their own
  abbrev with_found : Settings → Option Entry → Settings
  with_found z e = with_entry z (unwrap_or e (top z))

  steps_found : (e : Option Entry) (σ : Stream) → need (with_found s e) σ ≡ need (with_found (with_workers s w k) e) σ
  steps_found None σ = refl
  steps_found (Some e) σ = refl

  steps_alike : (σ : Stream) (m : ℕ) → steps_of s σ m ≡ steps_of (with_workers s w k) σ m
  unfolding settings_in
  steps_alike σ m = steps_found (find (λ e. nat_le e.after (m / 272)) (reverse (entries_of s.plan))) σ

  before_alike : (σ : Stream) (m : ℕ) → steps_before s σ m ≡ steps_before (with_workers s w k) σ m
  unfolding steps_before
  before_alike σ m = λ i. sum_by (λ n. steps_alike σ n i) (numbers m)

  pairs_found : (e : Option Entry) (cells : List Cell) (weights : List ℕ) (l : ℕ) (σ : Stream)
      → map (pair_of (with_found s e) cells weights l σ) (numbers (need (with_found s e) σ)) ≡ map (pair_of (with_found (with_workers s w k) e) cells weights l σ) (numbers (need (with_found (with_workers s w k) e) σ))
  pairs_found None cells weights l σ = pairs_alike (with_entry s (top s)) w (with_found (with_workers s w k) None).kept cells weights l σ
  pairs_found (Some e) cells weights l σ = pairs_alike (with_entry s e) w (with_found (with_workers s w k) (Some e)).kept cells weights l σ

  symbol_alike : (bytes : List ℕ) (σ : Stream) (m : ℕ) → symbol_costs s bytes σ m ≡ symbol_costs (with_workers s w k) bytes σ m
  unfolding symbol_costs symbol_cells symbol_weights bytes_of_symbol settings_in
  symbol_alike bytes σ m = pairs_found (find (λ e. nat_le e.after (m / 272)) (reverse (entries_of s.plan))) (symbol_cells s bytes m) (symbol_weights s bytes m) (m % 68) σ

  costs_alike : (bytes : List ℕ) (σ : Stream) → costs s bytes σ ≡ costs (with_workers s w k) bytes σ
  unfolding costs
  costs_alike bytes σ = λ i. flat_map (λ m. symbol_alike bytes σ m i) (numbers (symbols s bytes))

  cells_alike : (bytes : List ℕ) (m : ℕ) → tps_cells s bytes m ≡ tps_cells (with_workers s w k) bytes m
  unfolding tps_cells symbol_cells bytes_of_symbol
  cells_alike bytes m = refl

  received : (moment : Moment) (bytes : List ℕ) (r : Reception) → Receives moment s bytes r → Receives moment (with_workers s w k) bytes r
  received moment bytes r h = record {
    bits = h.bits;
    decoded = λ σ. subst (λ (c : List CostPair). IsDecoded moment (start_of s.start) c (h.bits σ)) (costs_alike bytes σ) (h.decoded σ);
    packets = h.packets;
    tally = h.tally;
    reports = λ σ. subst (λ (c : List CostPair). Reports memory (start_of s.start) c (r.reports σ)) (costs_alike bytes σ) (h.reports σ);
    frames = subst (λ (cells : ℕ → List Cell). CountsWords (frame_bits cells) (symbols s bytes / 68) r.read r.bad) (λ i m. cells_alike bytes m i) h.frames;
  }

  streams_alike : (σ : Stream) → exists_in (with_workers s w k) σ ≡ exists_in s σ
  unfolding exists_in
  streams_alike σ = refl

  events_alike : (n : ℕ) (reports : Stream → List ℕ) → events (with_workers s w k) n reports ≡ events s n reports
  unfolding events
  events_alike n reports = sym (λ i. flat_map (λ m.
      map (event_at Hp) (filter (λ at. nat_lt (before_alike Hp m i) at && nat_le at (before_alike Hp (m + 1) i)) (reports Hp))
      ++ map (event_at Lp) (filter (λ at. nat_lt (before_alike Lp m i) at && nat_le at (before_alike Lp (m + 1) i)) (reports Lp))) (numbers n))

  lines : (bytes : List ℕ) (r : Reception) → (event_lines (with_workers s w k) bytes r ≡ event_lines s bytes r) × (closing_lines (with_workers s w k) bytes r ≡ closing_lines s bytes r)
  unfolding exists_in
  lines bytes r = (ap (λ (es : List Event). flat_map event_line es) (events_alike (symbols s bytes) r.reports), refl)

pub same_live : SameLive
same_live s t bytes r d h = over (λ z. Receives so_far z bytes r) s t d (λ k. received s t.workers k so_far bytes r h)

pub same_final : SameFinal
same_final s t bytes r d h = over (λ z. Receives at_end z bytes r) s t d (λ k. received s t.workers k at_end bytes r h)

pub same_lines : SameLines
same_lines s t bytes r d = over (λ z. (event_lines z bytes r ≡ event_lines s bytes r) × (closing_lines z bytes r ≡ closing_lines s bytes r)) s t d (λ k. lines s t.workers k bytes r)

pub same_streams : SameStreams
same_streams s t σ d = over (λ z. exists_in z σ ≡ exists_in s σ) s t d (λ k. streams_alike s t.workers k σ)

pub same_costs : SameCosts
same_costs s t bytes σ d = over (λ z. costs z bytes σ ≡ costs s bytes σ) s t d (λ k. sym (costs_alike s t.workers k bytes σ))

pub same_events : SameEvents
same_events s t n reports d = over (λ z. events z n reports ≡ events s n reports) s t d (λ k. events_alike s t.workers k n reports)
