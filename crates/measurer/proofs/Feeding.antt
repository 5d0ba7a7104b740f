-- Bytes more for a measurer.
use Rattle.std.proofs.Common.{◌≡◌, ℕ, ◌+◌, ◌-◌, ◌*◌, ◌/◌, Bool, true, false, List, [], ◌++◌, take, map, refl, sym, ap, ap₂, ◌∙◌, subst, arith, append-nil}
use Rattle.std.specs.List.{concat}
use Rattle.code_paths.specs.declared.costs.CostPair.{CostPair}
use Rattle.mode_set.specs.StreamTable.{carriers}
use Rattle.mode_set.specs.declared.modes.Mode.{Mode}
use Rattle.mode_set.specs.declared.modes.Mode.TheVariants.{M2k, M8k}
use Rattle.mode_set.specs.declared.modes.Stream.{Stream}
use Rattle.mode_set.specs.declared.modes.Stream.TheVariants.{Hp, Lp}
use Rattle.mode_set.specs.declared.settings.Settings.{Settings}
use Rattle.pilots.specs.Carriers.{tps_carriers}
use Rattle.qam_map.specs.declared.cell.Cell.{Cell}
use Rattle.qam_map.specs.Cells.{cell_of}
use Rattle.measure_known_bits.specs.Passing.{IsSettled}
use Rattle.reception.specs.Cells.{symbols}
use Rattle.reception.specs.Frames.{tps_cells, frame_bits, CountsWords}
use Rattle.reception.specs.Laws.{IsWithin, SameSymbols, OneSymbolMore, CellsStay, WeightsStay, TpsCellsStay, BitsOfCells, SameCosts}
use Rattle.reception.specs.Streams.{so_far}
use Rattle.inner_receiver.specs.Fed.{HasHad, Fed}
use Rattle.inner_receiver.specs.Framing.{FrameStands}
use Rattle.inner_receiver.specs.Seen.{CostsState}
use Rattle.inner_receiver.specs.declared.frames.FrameReader.{FrameReader}
use Rattle.measure_stream.specs.Standing.{Stands}
use Rattle.measure_stream.specs.declared.stream.StreamMeter.{StreamMeter}
use Rattle.measure_comparison.specs.Seen.{SymbolState}
use Rattle.measurement.specs.Laws.{SumsStay}
use Rattle.measurement.specs.Lines.{defined_by}
use Rattle.measurer.specs.declared.current.Current.{Current}
use Rattle.measurer.specs.Seen.{MeterState, meter_of, MeasurerState}
use Rattle.measurer.specs.Standing.{MeterStands, MetersStand, KeepsLast, FramesStand, GoOn, StandsFor}
use Rattle.measurer.specs.Kept.{HasMeasured, IsKept}
use Rattle.measurer.specs.Steps.{AreKept, TakesSymbol, TakesNext, HasBegun, HasCompared, IsCompared, HasLines, IsLive}
use Rattle.measurer.proofs.Knowing.{known_back}
use Rattle.measurer.proofs.Summing.{summed_stays}
use Rattle.measurer.proofs.Counting.{words_stay, frames_alike, no_words}
use Rattle.measurer.proofs.Lining.{lines_stay, live_lines, lines_live, no_lines}

pub record AreFed : Type 0 where
  pub same : SameSymbols
  pub next : OneSymbolMore
  pub cells : CellsStay
  pub weights : WeightsStay
  pub tps : TpsCellsStay
  pub bits : BitsOfCells
  pub costs_same : SameCosts
  pub stay : SumsStay

-- a measurer by its parts
abbrev pub state : CostsState → MeterState → FrameReader → Bool → MeasurerState
state c meter frames ended = record { settings = c.settings; rest = c.rest; taken = c.taken; meter = meter; frames = frames; ended = ended }

-- ---- bytes within a symbol

meter_within : AreFed → (s : Settings) (bytes p : List ℕ) (x : StreamMeter) (σ : Stream) (j : ℕ) (bits : List Bool) → IsWithin s bytes p → j ≡ defined_by (symbols s bytes) → MeterStands so_far x s bytes σ j bits → MeterStands so_far x s (bytes ++ p) σ j bits
meter_within laws s bytes p x σ j bits w e h = record {
  from = h.from;
  reports = h.reports;
  stands = subst (λ (c : List CostPair). Stands so_far x s σ j h.from c bits h.reports) (sym (laws.costs_same s bytes p σ w)) h.stands;
  told = λ known k. h.told known (λ m em. known_back s bytes p σ m (known m σ) (omega (arith, em, e)) (k m em));
}

meters_within : AreFed → (s : Settings) (bytes p : List ℕ) (x : MeterState) → IsWithin s bytes p → GoOn s bytes x → GoOn s (bytes ++ p) x
meters_within laws s bytes p x w g = record {
  next = subst (λ (n : ℕ). x.comparer.next ≡ n - 3) (sym same) g.next;
  number = subst (λ (n : ℕ). x.current.number ≡ defined_by n) (sym same) g.number;
  hp_settled = g.hp_settled;
  lp_settled = g.lp_settled;
  stand = record {
    bits = g.stand.bits;
    meters = meters;
    settings = g.stand.settings;
    before = g.stand.before;
    keeps = subst (λ (n : ℕ). KeepsLast s (bytes ++ p) n x.comparer) (sym same)
        (λ m d l k. g.stand.keeps m d l k ∙ ap₂ (λ (a : List Cell) (b : List ℕ). let z : SymbolState = record { cells = a; weights = b } in z) (sym (laws.cells s bytes p m l)) (sym (laws.weights s bytes p m l)));
    summed = summed_stays laws.cells laws.weights s bytes p x.comparer.next x.current g.next (omega (arith, g.number, g.next)) g.stand.summed;
  };
}
  where
    same : symbols s (bytes ++ p) ≡ symbols s bytes
    same = laws.same s bytes p w

    meters : (σ : Stream) → MeterStands so_far (meter_of x σ) s (bytes ++ p) σ x.current.number (g.stand.bits σ)
    meters Hp = meter_within laws s bytes p x.hp Hp x.current.number (g.stand.bits Hp) w g.number (g.stand.meters Hp)
    meters Lp = meter_within laws s bytes p x.lp Lp x.current.number (g.stand.bits Lp) w g.number (g.stand.meters Lp)

frames_within : AreFed → (s : Settings) (bytes p : List ℕ) (frames : FrameReader) (x : Current) → IsWithin s bytes p → x.number ≡ defined_by (symbols s bytes) → FramesStand s bytes frames x → FramesStand s (bytes ++ p) frames x
frames_within laws s bytes p frames x w e f = record {
  reader = subst (λ (n : ℕ). FrameStands s.mode frames (tps_cells s (bytes ++ p)) n) (sym (laws.same s bytes p w))
      (frames_alike laws.bits s.mode frames (tps_cells s bytes) (tps_cells s (bytes ++ p)) (symbols s bytes) (λ m l. laws.tps s bytes p m l) f.reader);
  before = words_stay laws.tps laws.bits s bytes p (4 * x.number) x.read_before x.bad_before (omega (arith, e)) f.before;
}

within : AreFed → (old new : CostsState) (meter : MeterState) (frames : FrameReader) (ended : Bool) (bytes piece given : List ℕ) (n : ℕ) → new.settings ≡ old.settings → Fed new bytes piece n → new.whole ≡ false
    → StandsFor so_far (record { settings = new.settings; rest = old.rest; taken = old.taken; meter = meter; frames = frames; ended = ended }) bytes given → StandsFor so_far (state new meter frames ended) (bytes ++ take n piece) given
within laws old new meter frames ended bytes piece given n kept fed part h =
    let s = new.settings in
    let p = take n piece in
    let w : IsWithin s bytes p = fed.within part in
    let same : symbols s (bytes ++ p) ≡ symbols s bytes = laws.same s bytes p w in
    record {
      ended = h.ended;
      taken = fed.had.taken;
      rest = fed.had.rest;
      lines_are = lines_live s (bytes ++ p) given
          (subst (λ (k : ℕ). HasLines s (bytes ++ p) (defined_by k) given) (sym same) (lines_stay laws.stay s bytes p (defined_by (symbols s bytes)) given (omega arith) (live_lines s bytes given h.lines_are)));
      goes_on = record {
        meters = meters_within laws s bytes p meter w h.goes_on.meters;
        frames = frames_within laws s bytes p frames meter.current w h.goes_on.meters.number h.goes_on.frames;
      };
    }

pub fed_within : AreFed → (old new : CostsState) (meter : MeterState) (frames : FrameReader) (ended : Bool) (bytes piece given : List ℕ) (out : List (List ℕ)) (n : ℕ) → new.settings ≡ old.settings → ((bytes : List ℕ) → HasHad old bytes → Fed new bytes piece n) → new.whole ≡ false → out ≡ []
    → StandsFor so_far (state old meter frames ended) bytes given → StandsFor so_far (state new meter frames ended) (bytes ++ take n piece) (given ++ concat out)
fed_within laws old new meter frames ended bytes piece given out n kept fed part none h =
    subst (λ (z : List (List ℕ)). StandsFor so_far (state new meter frames ended) (bytes ++ take n piece) (given ++ concat z)) (sym none)
    (subst (λ (z : List ℕ). StandsFor so_far (state new meter frames ended) (bytes ++ take n piece) z) (sym (append-nil given))
    (within laws old new meter frames ended bytes piece given n kept (fed bytes (record { taken = h.taken; rest = h.rest })) part
    (subst (λ (z : Settings). StandsFor so_far (record { settings = z; rest = old.rest; taken = old.taken; meter = meter; frames = frames; ended = ended }) bytes given) (sym kept) h)))

-- ---- bytes that end a symbol

pub takes_symbol : AreFed → (old new : CostsState) (meter : MeterState) (frames : FrameReader) (ended : Bool) (bytes piece given : List ℕ) (n : ℕ) → new.settings ≡ old.settings → ((bytes : List ℕ) → HasHad old bytes → Fed new bytes piece n) → new.whole ≡ true
    → StandsFor so_far (state old meter frames ended) bytes given → TakesSymbol meter new bytes (take n piece)
takes_symbol laws old new meter frames ended bytes piece given n kept fed whole h =
    let f = fed bytes (record { taken = h.taken; rest = h.rest }) in
    let e = f.ends whole in
    record {
      taken = f.had.taken ∙ (laws.next new.settings bytes (take n piece) e.ends).0;
      ends = e;
      goes_on = subst (λ (z : Settings). GoOn z bytes meter) (sym kept) h.goes_on.meters;
    }

-- what the symbol makes of the parts
pub record Moved (new : CostsState) (meter took compared : MeterState) (frames new_frames : FrameReader) : Type 0 where
  pub take : (bytes p : List ℕ) → TakesSymbol meter new bytes p → MetersStand so_far new.settings (bytes ++ p) took
  pub took_current : took.current ≡ meter.current
  pub compare : (s : Settings) (bytes : List ℕ) → symbols s bytes ≡ new.taken → MetersStand so_far s bytes took → MetersStand so_far s bytes compared
  pub next : compared.comparer.next ≡ new.taken - 3
  pub current : compared.current ≡ record took.current { symbols = compared.current.symbols; sums = compared.current.sums }
  pub hp_settled : IsSettled compared.hp.known
  pub lp_settled : IsSettled compared.lp.known
  pub framed : (shown : ℕ → List Cell) (n : ℕ) → shown n ≡ map (cell_of new.cells) (tps_carriers new.settings.mode) → FrameStands new.settings.mode frames shown n → FrameStands new.settings.mode new_frames shown (n + 1)

pub has_compared : AreFed → (old new : CostsState) (meter took compared : MeterState) (frames new_frames : FrameReader) (ended : Bool) (bytes piece given : List ℕ) (n : ℕ) → new.settings ≡ old.settings → ((bytes : List ℕ) → HasHad old bytes → Fed new bytes piece n) → new.whole ≡ true
    → Moved new meter took compared frames new_frames → StandsFor so_far (state old meter frames ended) bytes given
    → (symbols new.settings (bytes ++ take n piece) ≡ new.taken) × HasCompared new.settings (bytes ++ take n piece) new_frames compared given
has_compared laws old new meter took compared frames new_frames ended bytes piece given n kept fed whole moved h = (
  sym count,
  record {
    next = moved.next ∙ ap (λ (k : ℕ). k - 3) count;
    number = number ∙ g.number ∙ (omega (arith, one));
    hp_settled = moved.hp_settled;
    lp_settled = moved.lp_settled;
    stand = moved.compare s (bytes ++ p) (sym count) (moved.take bytes p t);
    frames_stand = record {
      reader = subst (λ (k : ℕ). FrameStands s.mode new_frames (tps_cells s (bytes ++ p)) k) (sym one)
          (moved.framed (tps_cells s (bytes ++ p)) (symbols s bytes) t.ends.tps_are (frames_alike laws.bits s.mode frames (tps_cells s bytes) (tps_cells s (bytes ++ p)) (symbols s bytes) (λ m l. laws.tps s bytes p m l) f.reader));
      before = subst (λ (z : Current). CountsWords (frame_bits (tps_cells s (bytes ++ p))) (4 * z.number) z.read_before z.bad_before) (sym same_frames)
          (words_stay laws.tps laws.bits s bytes p (4 * meter.current.number) meter.current.read_before meter.current.bad_before (omega (arith, g.number)) f.before);
    };
    lines_are = subst (λ (k : ℕ). HasLines s (bytes ++ p) k given) (sym (number ∙ g.number)) (lines_stay laws.stay s bytes p (defined_by (symbols s bytes)) given (omega arith)
        (subst (λ (z : Settings). HasLines z bytes (defined_by (symbols z bytes)) given) (sym kept) (live_lines old.settings bytes given h.lines_are)));
  },
)
  where
    s : Settings
    s = new.settings

    p : List ℕ
    p = take n piece

    t : TakesSymbol meter new bytes (take n piece)
    t = takes_symbol laws old new meter frames ended bytes piece given n kept fed whole h

    g : GoOn new.settings bytes meter
    g = t.goes_on

    f : FramesStand new.settings bytes frames meter.current
    f = subst (λ (z : Settings). FramesStand z bytes frames meter.current) (sym kept) h.goes_on.frames

    one : symbols new.settings (bytes ++ take n piece) ≡ symbols new.settings bytes + 1
    one = (laws.next new.settings bytes (take n piece) t.ends.ends).0

    count : new.taken ≡ symbols new.settings (bytes ++ take n piece)
    count = t.taken ∙ sym one

    number : compared.current.number ≡ meter.current.number
    number = ap (λ (z : Current). z.number) moved.current ∙ ap (λ (z : Current). z.number) moved.took_current

    same_frames : compared.current ≡ record meter.current { symbols = compared.current.symbols; sums = compared.current.sums }
    same_frames = moved.current ∙ ap (λ (z : Current). record z { symbols = compared.current.symbols; sums = compared.current.sums }) moved.took_current

pub fed_whole : AreFed → (old new : CostsState) (meter took compared gave : MeterState) (frames new_frames : FrameReader) (ended : Bool) (bytes piece given : List ℕ) (out : List (List ℕ)) (n : ℕ) → new.settings ≡ old.settings → ((bytes : List ℕ) → HasHad old bytes → Fed new bytes piece n) → new.whole ≡ true
    → Moved new meter took compared frames new_frames
    → ((bytes given : List ℕ) → symbols new.settings bytes ≡ new.taken → HasCompared new.settings bytes new_frames compared given → IsLive new.settings bytes new_frames gave (given ++ concat out))
    → StandsFor so_far (state old meter frames ended) bytes given → StandsFor so_far (state new gave new_frames ended) (bytes ++ take n piece) (given ++ concat out)
fed_whole laws old new meter took compared gave frames new_frames ended bytes piece given out n kept fed whole moved live h =
    let c = has_compared laws old new meter took compared frames new_frames ended bytes piece given n kept fed whole moved h in
    let l = live (bytes ++ take n piece) given c.0 c.1 in
    let f = fed bytes (record { taken = h.taken; rest = h.rest }) in
    record {
      ended = h.ended;
      taken = f.had.taken;
      rest = f.had.rest;
      lines_are = lines_live new.settings (bytes ++ take n piece) (given ++ concat out) l.lines_are;
      goes_on = record { meters = l.goes_on; frames = l.frames_stand };
    }

-- ---- at first

no_symbols : (m : Mode) → 0 / (5 * carriers m) ≡ 0
no_symbols M2k = refl
no_symbols M8k = refl

no_frames : (word : ℕ → List Bool) (number read bad : ℕ) → number ≡ 0 → read ≡ 0 → bad ≡ 0 → CountsWords word (4 * number) read bad
no_frames word number read bad e f g =
    subst (λ (n : ℕ). CountsWords word (4 * n) read bad) (sym e) (subst (λ (r : ℕ). CountsWords word 0 r bad) (sym f) (subst (λ (b : ℕ). CountsWords word 0 0 b) (sym g) (no_words word)))

pub first_stands : (cells : CostsState) (meter : MeterState) (frames : FrameReader) (s : Settings) → cells.settings ≡ s → HasHad cells [] → GoOn s [] meter → meter.current.number ≡ 0 → meter.current.read_before ≡ 0 → meter.current.bad_before ≡ 0
    → ((mode : Mode) (shown : ℕ → List Cell) → FrameStands mode frames shown 0) → StandsFor so_far (state cells meter frames false) [] []
first_stands cells meter frames s kept had g number read bad framed =
    let none : symbols cells.settings [] ≡ 0 = no_symbols cells.settings.mode in
    let zero_lines : 0 ≡ defined_by (symbols cells.settings []) = omega (arith, none) in
    record {
      ended = refl;
      taken = had.taken;
      rest = had.rest;
      lines_are = lines_live cells.settings [] [] (subst (λ (k : ℕ). HasLines cells.settings [] k []) zero_lines (no_lines cells.settings []));
      goes_on = record {
        meters = subst (λ (z : Settings). GoOn z [] meter) (sym kept) g;
        frames = record {
          reader = subst (λ (k : ℕ). FrameStands cells.settings.mode frames (tps_cells cells.settings []) k) (sym none) (framed cells.settings.mode (tps_cells cells.settings []));
          before = no_frames (frame_bits (tps_cells cells.settings [])) meter.current.number meter.current.read_before meter.current.bad_before number read bad;
        };
      };
    }

-- ---- what a measurer keeps

pub may_take : AreFed → (old new : CostsState) (meter : MeterState) (frames : FrameReader) (ended : Bool) (piece : List ℕ) (n : ℕ) → new.settings ≡ old.settings → ((bytes : List ℕ) → HasHad old bytes → Fed new bytes piece n) → new.whole ≡ true → HasMeasured (state old meter frames ended) → TakesNext meter new
may_take laws old new meter frames ended piece n kept fed whole m = record { bytes = m.bytes; p = take n piece; takes = takes_symbol laws old new meter frames ended m.bytes piece m.lines n kept fed whole m.stands }

pub may_compare : AreFed → (old new : CostsState) (meter took compared : MeterState) (frames new_frames : FrameReader) (ended : Bool) (piece : List ℕ) (n : ℕ) → new.settings ≡ old.settings → ((bytes : List ℕ) → HasHad old bytes → Fed new bytes piece n) → new.whole ≡ true
    → Moved new meter took compared frames new_frames → HasMeasured (state old meter frames ended) → IsCompared new.settings new.taken new_frames compared
may_compare laws old new meter took compared frames new_frames ended piece n kept fed whole moved m =
    let c = has_compared laws old new meter took compared frames new_frames ended m.bytes piece m.lines n kept fed whole moved m.stands in
    record { bytes = m.bytes ++ take n piece; lines = m.lines; count = c.0; compared = c.1 }

pub begun_took : (new : CostsState) (meter took : MeterState) → TakesNext meter new → ((bytes p : List ℕ) → TakesSymbol meter new bytes p → MetersStand so_far new.settings (bytes ++ p) took) → HasBegun took
begun_took new meter took t f = let s = f t.bytes t.p t.takes in record { known = s.bits; stands = s.before }

pub next_took : (new : CostsState) (meter took : MeterState) → TakesNext meter new → took.comparer.next ≡ meter.comparer.next → took.comparer.next ≡ new.taken - 4
next_took new meter took t e = omega (arith, e, t.takes.goes_on.next, t.takes.taken)

pub number_took : (new : CostsState) (meter took : MeterState) → TakesNext meter new → took.current ≡ meter.current → took.current.number ≡ defined_by (new.taken - 1)
number_took new meter took t e = omega (arith, ap (λ (z : Current). z.number) e, t.takes.goes_on.number, t.takes.taken)

pub measured_within : AreFed → (old new : CostsState) (meter : MeterState) (frames : FrameReader) (ended : Bool) (piece : List ℕ) (n : ℕ) → new.settings ≡ old.settings → ((bytes : List ℕ) → HasHad old bytes → Fed new bytes piece n) → new.whole ≡ false → HasMeasured (state old meter frames ended) → HasMeasured (state new meter frames ended)
measured_within laws old new meter frames ended piece n kept fed part m = record {
  bytes = m.bytes ++ take n piece;
  lines = m.lines ++ concat [];
  stands = fed_within laws old new meter frames ended m.bytes piece m.lines [] n kept fed part refl m.stands;
}

pub measured_whole : AreFed → (old new : CostsState) (meter took compared gave : MeterState) (frames new_frames : FrameReader) (ended : Bool) (piece : List ℕ) (out : List (List ℕ)) (n : ℕ) → new.settings ≡ old.settings → ((bytes : List ℕ) → HasHad old bytes → Fed new bytes piece n) → new.whole ≡ true
    → Moved new meter took compared frames new_frames
    → ((bytes given : List ℕ) → symbols new.settings bytes ≡ new.taken → HasCompared new.settings bytes new_frames compared given → IsLive new.settings bytes new_frames gave (given ++ concat out))
    → HasMeasured (state old meter frames ended) → HasMeasured (state new gave new_frames ended)
measured_whole laws old new meter took compared gave frames new_frames ended piece out n kept fed whole moved live m = record {
  bytes = m.bytes ++ take n piece;
  lines = m.lines ++ concat out;
  stands = fed_whole laws old new meter took compared gave frames new_frames ended m.bytes piece m.lines out n kept fed whole moved live m.stands;
}

pub kept_within : (old new : CostsState) (meter : MeterState) (frames : FrameReader) (ended : Bool) → IsKept (state old meter frames ended) → new.taken ≡ old.taken → (HasMeasured (state old meter frames ended) → HasMeasured (state new meter frames ended)) → IsKept (state new meter frames ended)
kept_within old new meter frames ended k e f = record {
  few_taken = omega (arith, e, k.few_taken);
  symbol = k.symbol;
  few_frames = omega (arith, e, k.few_frames);
  kept = λ going. subst (AreKept meter) (sym e) (k.kept going);
  measured = λ going. f (k.measured going);
}

pub kept_first : (x : MeterState) (taken : ℕ) → taken ≡ 0 → AreKept x 0 → AreKept x taken
kept_first x taken e k = subst (AreKept x) (sym e) k
