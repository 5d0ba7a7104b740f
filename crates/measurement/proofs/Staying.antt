-- More bytes leave the sums of a defined super-frame.
use Rattle.std.proofs.Common.{◌≡◌, ℕ, ◌+◌, ◌-◌, ◌*◌, ◌/◌, ◌%◌, ◌<◌, ◌≤◌, min, Bool, true, false, cond, List, ◌++◌, length, refl, sym, ap, ap₂, ◌∙◌, subst, arith, length-append}
use Rattle.std.specs.Prelude.{◌↔◌, ◌&&◌, nat_lt, nat_le, IsTrue, count_by}
use Rattle.std.proofs.lemmas.Bool.{lt-leb}
use Rattle.std.proofs.lemmas.List.{take-append-le}
use Rattle.std.proofs.lemmas.List.Elements.{All-weaker}
use Rattle.code_paths.specs.declared.costs.CostPair.{CostPair}
use Rattle.code_paths.specs.Streams.{Given, Reports}
use Rattle.code_paths.specs.Laws.{ReportsGrow}
use Rattle.code_paths.specs.Uniqueness.{IsStart, SomeAreReported}
use Rattle.mode_set.specs.StreamTable.{carriers}
use Rattle.mode_set.specs.declared.modes.Mode.{Mode}
use Rattle.mode_set.specs.declared.modes.Mode.TheVariants.{M2k, M8k}
use Rattle.mode_set.specs.declared.modes.Start.{Start}
use Rattle.mode_set.specs.declared.modes.Start.TheVariants.{Zero, Any}
use Rattle.mode_set.specs.declared.modes.Stream.{Stream}
use Rattle.mode_set.specs.declared.modes.Stream.TheVariants.{Hp, Lp}
use Rattle.mode_set.specs.declared.settings.Settings.{Settings}
use Rattle.symbol_parameters.specs.Spans.{settings_at, steps_before}
use Rattle.symbol_parameters.specs.Laws.{StepsGrow}
use Rattle.outer_chain.specs.Words.{count}
use Rattle.qam_map.specs.declared.cell.Cell.{Cell}
use Rattle.reception.specs.Cells.{symbol_length, symbols}
use Rattle.reception.specs.Costs.{costs}
use Rattle.reception.specs.Frames.{tps_cells, frame_bits, IsReadable, CountsWords}
use Rattle.reception.specs.Streams.{memory, start_of}
use Rattle.reception.specs.Laws.{CellsStay, WeightsStay, TpsCellsStay, BitsOfCells, CostsGrow, CostsAreSteps, NewReportsAreLater}
use Rattle.reception.proofs.Reported.{IsBetween}
use Rattle.reception.proofs.Symbols.{more_count}
use Rattle.measure_sums.specs.Comparing.{Comparison, cells_in, muted_in, power_in, error_in, bits_in, wrong_in}
use Rattle.measure_report.specs.declared.sums.StreamSums.{StreamSums}
use Rattle.measurement.specs.Known.{first_symbols, IsKnown, is_compared, remade_bit, comparison}
use Rattle.measurement.specs.SuperFrames.{Knowns, over_compared, is_reported_in, AreStreamSums}
use Rattle.measurement.specs.Lines.{defined_by}
use Rattle.measurement.specs.Laws.{SumsStay}
use Rattle.measurement.proofs.Lists.{range_same, count_front}

-- ---- symbols of more bytes

within_length : (m : Mode) (n len : ℕ) → n ≤ len / (5 * carriers m) → n * (5 * carriers m) ≤ len
within_length M2k n len l = omega (arith, l)
within_length M8k n len l = omega (arith, l)

pub more_symbols : (s : Settings) (bytes more : List ℕ) → symbols s bytes ≤ symbols s (bytes ++ more)
more_symbols s bytes more = subst (λ (n : ℕ). symbols s bytes ≤ n / (5 * carriers s.mode)) (sym (length-append bytes more)) (more_count s.mode (length bytes) (length more))

first_stay : (s : Settings) (bytes more : List ℕ) (n : ℕ) → n ≤ symbols s bytes → first_symbols s n (bytes ++ more) ≡ first_symbols s n bytes
first_stay s bytes more n l = take-append-le (n * symbol_length s) bytes more (within_length s.mode n (length bytes) l)

-- ---- known bits

pub known_stays : (s : Settings) (bytes more : List ℕ) (σ : Stream) (m : ℕ) (bits : List Bool) → m + 4 ≤ symbols s bytes → IsKnown s bytes σ m bits → IsKnown s (bytes ++ more) σ m bits
known_stays s bytes more σ m bits l k = record {
  so_far = λ h. subst (λ (z : List ℕ). Given memory (start_of s.start) (costs s z σ) bits) (sym (first_stay s bytes more (m + 4) l)) (k.so_far l);
  at_end = λ h. absurd (omega (arith, h, l, more_symbols s bytes more));
}

-- ---- the sums of symbols

abbrev put_beside : Settings → (Stream → List Bool) → ℕ → List Cell → List ℕ → Comparison
put_beside s known m cells weights = record { settings = settings_at s m; cells = cells; weights = weights; symbol = m % 68; labels = remade_bit s known m }

comparison_stays : CellsStay → WeightsStay → (s : Settings) (bytes more : List ℕ) (known : Stream → List Bool) (m : ℕ) → m < symbols s bytes → comparison s (bytes ++ more) known m ≡ comparison s bytes known m
unfolding comparison
comparison_stays cells weights s bytes more known m l = ap₂ (put_beside s known m) (cells s bytes more m l) (weights s bytes more m l)

over_stays : CellsStay → WeightsStay → (s : Settings) (bytes more : List ℕ) (known : Knowns) (j : ℕ) (f : Comparison → ℕ) → 272 * (j + 1) ≤ symbols s bytes → over_compared s (bytes ++ more) known j f ≡ over_compared s bytes known j f
over_stays cells weights s bytes more known j f l =
    range_same (λ m. cond (is_compared s m (known m)) (f (comparison s (bytes ++ more) (known m) m)) 0) (λ m. cond (is_compared s m (known m)) (f (comparison s bytes (known m) m)) 0) (272 * j) 272
    (λ m p q. ap (λ (x : Comparison). cond (is_compared s m (known m)) (f x) 0) (comparison_stays cells weights s bytes more (known m) m (omega (arith, q, l))))

-- ---- TPS words

all_four : (n j : ℕ) → 272 * (j + 1) ≤ n → min 4 (n / 68 - 4 * j) ≡ 4
all_four n j l = omega (arith, l)

frames_stay : TpsCellsStay → BitsOfCells → (s : Settings) (bytes more : List ℕ) (j read bad : ℕ) → 272 * (j + 1) ≤ symbols s bytes
    → CountsWords (λ i. frame_bits (tps_cells s bytes) (4 * j + i)) (min 4 (symbols s bytes / 68 - 4 * j)) read bad
    → CountsWords (λ i. frame_bits (tps_cells s (bytes ++ more)) (4 * j + i)) (min 4 (symbols s (bytes ++ more) / 68 - 4 * j)) read bad
frames_stay tps bits s bytes more j read bad l c = record {
  is_read = c.is_read;
  reads = λ f k. subst (λ (w : List Bool). IsTrue (c.is_read f) ↔ IsReadable w) (sym (word f (omega (arith, k, longer)))) (c.reads f (omega (arith, k, same)));
  read_is = c.read_is ∙ ap (count c.is_read) same;
  all = c.all ∙ same;
}
  where
    longer : min 4 (symbols s (bytes ++ more) / 68 - 4 * j) ≡ 4
    longer = all_four (symbols s (bytes ++ more)) j (omega (arith, l, more_symbols s bytes more))

    same : min 4 (symbols s bytes / 68 - 4 * j) ≡ min 4 (symbols s (bytes ++ more) / 68 - 4 * j)
    same = all_four (symbols s bytes) j l ∙ sym longer

    word : (f : ℕ) → f < 4 → frame_bits (tps_cells s (bytes ++ more)) (4 * j + f) ≡ frame_bits (tps_cells s bytes) (4 * j + f)
    word f k = bits (tps_cells s bytes) (tps_cells s (bytes ++ more)) (4 * j + f) (λ m h. tps s bytes more m (omega (arith, h, k, l)))

-- ---- reports

is_start : (start : Start) → IsStart (start_of start)
is_start Zero = refl
is_start Any = tt

no_and : (b c : Bool) → c ≡ false → (b && c) ≡ false
no_and true c e = e
no_and false c e = refl

record Later (s : Settings) (bytes : List ℕ) (σ : Stream) (j : ℕ) (old : List ℕ) : Type 0 where
  reports : List ℕ
  are : Reports memory (start_of s.start) (costs s bytes σ) reports
  same : count_by (is_reported_in s σ j) reports ≡ count_by (is_reported_in s σ j) old

reports_stay : ReportsGrow → SomeAreReported → NewReportsAreLater → CostsGrow → CostsAreSteps → StepsGrow → (s : Settings) (bytes more : List ℕ) (σ : Stream) (j : ℕ) (old : List ℕ) → 272 * (j + 1) ≤ symbols s bytes
    → Reports memory (start_of s.start) (costs s bytes σ) old → Later s (bytes ++ more) σ j old
reports_stay grow some later costs_grow long first s bytes more σ j old l r =
    let a = start_of s.start in
    let c = costs s bytes σ in
    let g = costs_grow s bytes more σ in
    let q = some memory a (costs s (bytes ++ more) σ) (is_start s.start) in
    let on_parts = subst (λ (z : List CostPair). Reports memory a z q.0) g.1 q.1 in
    let u = grow memory a c g.0 old q.0 r on_parts in
    let new = later memory a c g.0 old u.0 r (subst (λ (z : List ℕ). Reports memory a (c ++ g.0) z) u.1 on_parts) in
    let up = first s σ (272 * (j + 1)) (symbols s bytes) l in
    let steps : length c ≡ steps_before s σ (symbols s bytes) = long s bytes σ in
    record {
      reports = q.0;
      are = q.1;
      same = ap (count_by (is_reported_in s σ j)) u.1
          ∙ count_front (is_reported_in s σ j) old u.0
          (All-weaker (IsBetween (length c) (length c + length g.0)) (λ at. is_reported_in s σ j at ≡ false)
          (λ at k. no_and (nat_lt (steps_before s σ (272 * j)) at) (nat_le at (steps_before s σ (272 * (j + 1)))) (lt-leb at (steps_before s σ (272 * (j + 1))) (omega (arith, k.0, up, steps)))) u.0 new);
    }

-- ---- all sums

defined_within : (n j : ℕ) → j < defined_by n → 272 * (j + 1) + 3 ≤ n
defined_within n j l = omega (arith, l)

module _ (grow : ReportsGrow) (some : SomeAreReported) (later : NewReportsAreLater) (costs_grow : CostsGrow) (long : CostsAreSteps) (first : StepsGrow) (cells : CellsStay) (weights : WeightsStay) (tps : TpsCellsStay) (bits : BitsOfCells) where
  stream_stays : (s : Settings) (bytes more : List ℕ) (known : Knowns) (j : ℕ) (σ : Stream) (t : StreamSums) → 272 * (j + 1) ≤ symbols s bytes → AreStreamSums s bytes known j σ t → AreStreamSums s (bytes ++ more) known j σ t
  stream_stays s bytes more known j σ t l a =
      let r = reports_stay grow some later costs_grow long first s bytes more σ j a.reports l a.are_reports in
      record {
        bits = a.bits ∙ sym (over_stays cells weights s bytes more known j (λ x. bits_in x σ) l);
        wrong = a.wrong ∙ sym (over_stays cells weights s bytes more known j (λ x. wrong_in x σ) l);
        near = a.near;
        is_near = a.is_near;
        words = a.words;
        clean = a.clean;
        corrected = a.corrected;
        bad = a.bad;
        unphased = a.unphased;
        repaired = a.repaired;
        reports = r.reports;
        are_reports = r.are;
        unmerged = a.unmerged ∙ sym r.same;
      }

  pub sums_stay : SumsStay
  sums_stay s bytes more j f defined a =
      let all : 272 * (j + 1) + 3 ≤ symbols s bytes = defined_within (symbols s bytes) j defined in
      let l : 272 * (j + 1) ≤ symbols s bytes = omega (arith, all) in
      record {
        known = a.known;
        are_known = λ m σ p q. known_stays s bytes more σ m (a.known m σ) (omega (arith, q, all)) (a.are_known m σ p q);
        number = a.number;
        compared = a.compared;
        cells = a.cells ∙ sym (over_stays cells weights s bytes more a.known j cells_in l);
        muted = a.muted ∙ sym (over_stays cells weights s bytes more a.known j muted_in l);
        power = a.power ∙ sym (over_stays cells weights s bytes more a.known j power_in l);
        error = a.error ∙ sym (over_stays cells weights s bytes more a.known j error_in l);
        frames = frames_stay tps bits s bytes more j f.tps_read f.tps_bad l a.frames;
        hp = stream_stays s bytes more a.known j Hp f.hp l a.hp;
        lp = a.lp;
        lp_are = stream_stays s bytes more a.known j Lp a.lp l a.lp_are;
        lp_is = a.lp_is;
      }
