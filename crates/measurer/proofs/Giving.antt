-- The lines that a symbol defines.
use Rattle.std.proofs.Common.{◌≡◌, ℕ, ◌+◌, ◌-◌, ◌*◌, ◌/◌, ◌≤◌, List, [], ◌++◌, inl, inr, sym, ap, ◌∙◌, subst, arith, append-nil}
use Rattle.std.specs.List.{concat}
use Rattle.std.proofs.lemmas.Bool.{cases_lt}
use Rattle.mode_set.specs.declared.modes.Stream.TheVariants.{Hp, Lp}
use Rattle.mode_set.specs.declared.settings.Settings.{Settings}
use Rattle.symbol_parameters.specs.Spans.{steps_before}
use Rattle.symbol_parameters.specs.Laws.{NoSteps}
use Rattle.measure_known_bits.specs.Passing.{IsSettled}
use Rattle.reception.specs.Cells.{symbols}
use Rattle.reception.specs.Frames.{tps_cells, frame_bits, CountsWords}
use Rattle.reception.specs.Streams.{so_far}
use Rattle.inner_receiver.specs.declared.frames.FrameReader.{FrameReader}
use Rattle.measure_stream.specs.declared.reports.ReportCounts.{ReportCounts}
use Rattle.measure_stream.specs.Reports.{AreFew}
use Rattle.measure_comparison.specs.Seen.{ComparerState}
use Rattle.measure_sums.specs.Tables.{AreLittle}
use Rattle.measurement.specs.Lines.{defined_by}
use Rattle.measurer.specs.declared.current.Current.{Current}
use Rattle.measurer.specs.Seen.{MeterState}
use Rattle.measurer.specs.Sums.{nothing_of}
use Rattle.measurer.specs.Standing.{MetersStand, FramesStand}
use Rattle.measurer.specs.Steps.{AreKept, HasBegun, IsDone, CountsOn, HasLines, HasCompared, IsLive, Adds}

-- ---- the next symbol is compared

lag_none : (lag before steps : ℕ) → lag ≤ before → before ≡ steps → steps ≡ 0 → lag ≡ 0
lag_none lag before steps l e z = omega (arith, l, e, z)

-- before the first symbol nothing lags
pub settled_first : NoSteps → (x : MeterState) → HasBegun x → x.comparer.next ≡ 0 → IsSettled x.hp.known × IsSettled x.lp.known
settled_first none x h e =
    let s = x.comparer.settings in
    let hp = h.stands.streams Hp in
    let lp = h.stands.streams Lp in (
      inl (lag_none x.hp.known.lag x.hp.known.before (steps_before s Hp x.comparer.next) hp.lag hp.before (ap (steps_before s Hp) e ∙ none s Hp)),
      inl (lag_none x.lp.known.lag x.lp.known.before (steps_before s Lp x.comparer.next) lp.lag lp.before (ap (steps_before s Lp) e ∙ none s Lp)),
    )

pub kept_compared : (x y : MeterState) (taken : ℕ) → AreKept x taken → y.hp.reports ≡ x.hp.reports → y.lp.reports ≡ x.lp.reports → AreLittle y.current.sums (6048 * y.current.symbols) → y.current.symbols ≤ x.current.symbols + 1 → y.current.number ≡ x.current.number
    → y.comparer.next ≡ x.comparer.next + 1 → x.comparer.next + 1 ≤ taken → AreKept y taken
kept_compared x y taken k hp lp little symbols number next l = record {
  hp_reports = subst (λ (z : ReportCounts). AreFew z (16 * taken)) (sym hp) k.hp_reports;
  lp_reports = subst (λ (z : ReportCounts). AreFew z (16 * taken)) (sym lp) k.lp_reports;
  little = little;
  symbols = omega (arith, k.symbols, symbols, number, next);
  next = omega (arith, next, l);
}

-- ---- lines

frames_all : (n j : ℕ) → 272 * j ≤ n → 4 * j + (n / 68 - 4 * j) ≡ n / 68
frames_all n j l = omega (arith, l)

pub counts_now : (s : Settings) (bytes : List ℕ) (frames : FrameReader) (x : Current) → FramesStand s bytes frames x → 272 * x.number ≤ symbols s bytes → CountsOn x frames
counts_now s bytes frames x f l = record {
  word = frame_bits (tps_cells s bytes);
  first = 4 * x.number;
  more = symbols s bytes / 68 - 4 * x.number;
  before = f.before;
  all = subst (λ (k : ℕ). CountsWords (frame_bits (tps_cells s bytes)) k frames.read frames.bad) (sym (frames_all (symbols s bytes) x.number l)) f.reader.counts;
}

pub done_now : (s : Settings) (bytes : List ℕ) (frames : FrameReader) (x : MeterState) (lines : List ℕ) → HasCompared s bytes frames x lines → symbols s bytes ≡ 272 * (x.current.number + 1) + 3 → IsDone so_far (symbols s bytes) x.comparer.next x.current.number
done_now s bytes frames x lines h e = (e, omega (arith, h.next, e))

words_there : (n j : ℕ) → n ≡ 272 * (j + 1) + 3 → n / 68 ≡ 4 * (j + 1)
words_there n j e = omega (arith, e)

defined_there : (n j : ℕ) → n ≡ 272 * (j + 1) + 3 → j + 1 ≡ defined_by n
defined_there n j e = omega (arith, e)

-- a number of symbols that defines no lines more
defined_same : (n j : ℕ) → j ≡ defined_by (n - 1) → (n ≡ 272 * (j + 1) + 3 → ⊥) → j ≡ defined_by n
defined_same n j e absent = elim (cases_lt (272 * (j + 1) + 2) n) [
  | inl l ↦ elim (cases_lt (272 * (j + 1) + 3) n) [
    | inl k ↦ absurd (omega (arith, e, k))
    | inr k ↦ absurd (absent (omega (arith, l, k)))
  ]
  | inr l ↦ omega (arith, e, l)
]

pub no_little : (j read bad : ℕ) → AreLittle (nothing_of j read bad).sums (6048 * (nothing_of j read bad).symbols)
no_little j read bad = record { cells = omega arith; muted = omega arith; power = omega arith; error = omega arith; hp = (omega arith, omega arith); lp = (omega arith, omega arith) }

-- the parts after the lines were given
pub record Passed (x y : MeterState) (frames : FrameReader) : Type 0 where
  pub comparer : y.comparer ≡ x.comparer
  pub hp_known : y.hp.known ≡ x.hp.known
  pub lp_known : y.lp.known ≡ x.lp.known
  pub current : y.current ≡ nothing_of (x.current.number + 1) frames.read frames.bad

pub given_live : (s : Settings) (bytes : List ℕ) (frames : FrameReader) (x y : MeterState) (given : List ℕ) (old out : List (List ℕ)) → HasCompared s bytes frames x given → symbols s bytes ≡ 272 * (x.current.number + 1) + 3 → old ≡ [] → Passed x y frames
    → MetersStand so_far s bytes y → Adds old out (HasLines s bytes (x.current.number + 1)) given → IsLive s bytes frames y (given ++ concat out)
given_live s bytes frames x y given old out h e none p stand adds = record {
  goes_on = record {
    next = ap (λ (z : ComparerState). z.next) p.comparer ∙ h.next;
    number = ap (λ (z : Current). z.number) p.current ∙ there;
    hp_settled = subst IsSettled (sym p.hp_known) h.hp_settled;
    lp_settled = subst IsSettled (sym p.lp_known) h.lp_settled;
    stand = stand;
  };
  frames_stand = record {
    reader = h.frames_stand.reader;
    before = subst (λ (z : Current). CountsWords (frame_bits (tps_cells s bytes)) (4 * z.number) z.read_before z.bad_before) (sym p.current)
        (subst (λ (k : ℕ). CountsWords (frame_bits (tps_cells s bytes)) k frames.read frames.bad) (words_there (symbols s bytes) x.current.number e) h.frames_stand.reader.counts);
  };
  lines_are = subst (λ (k : ℕ). HasLines s bytes k (given ++ concat out)) there (subst (λ (z : List (List ℕ)). HasLines s bytes (x.current.number + 1) (given ++ concat z)) (sym (adds.is ∙ ap (λ (z : List (List ℕ)). z ++ adds.more) none)) adds.then);
}
  where
    there : x.current.number + 1 ≡ defined_by (symbols s bytes)
    there = defined_there (symbols s bytes) x.current.number e

pub none_live : (s : Settings) (bytes : List ℕ) (frames : FrameReader) (x : MeterState) (given : List ℕ) (out : List (List ℕ)) → HasCompared s bytes frames x given → (symbols s bytes ≡ 272 * (x.current.number + 1) + 3 → ⊥) → out ≡ [] → IsLive s bytes frames x (given ++ concat out)
none_live s bytes frames x given out h absent none = record {
  goes_on = record { next = h.next; number = same; hp_settled = h.hp_settled; lp_settled = h.lp_settled; stand = h.stand };
  frames_stand = h.frames_stand;
  lines_are = subst (λ (z : List (List ℕ)). HasLines s bytes (defined_by (symbols s bytes)) (given ++ concat z)) (sym none)
      (subst (λ (z : List ℕ). HasLines s bytes (defined_by (symbols s bytes)) z) (sym (append-nil given)) (subst (λ (k : ℕ). HasLines s bytes k given) same h.lines_are));
}
  where
    same : x.current.number ≡ defined_by (symbols s bytes)
    same = defined_same (symbols s bytes) x.current.number h.number absent

pub kept_given : (x y : MeterState) (frames : FrameReader) (taken : ℕ) → AreKept x taken → Passed x y frames → 272 * (x.current.number + 1) ≤ x.comparer.next → ((n : ℕ) → AreFew x.hp.reports n → AreFew y.hp.reports n) → ((n : ℕ) → AreFew x.lp.reports n → AreFew y.lp.reports n) → AreKept y taken
kept_given x y frames taken k p l hp lp = record {
  hp_reports = hp (16 * taken) k.hp_reports;
  lp_reports = lp (16 * taken) k.lp_reports;
  little = subst (λ (z : Current). AreLittle z.sums (6048 * z.symbols)) (sym p.current) (no_little (x.current.number + 1) frames.read frames.bad);
  symbols = omega (arith, l, ap (λ (z : Current). z.symbols) p.current, ap (λ (z : Current). z.number) p.current, ap (λ (z : ComparerState). z.next) p.comparer);
  next = omega (arith, k.next, ap (λ (z : ComparerState). z.next) p.comparer);
}
