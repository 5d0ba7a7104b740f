-- The end of a measurement.
use Rattle.std.proofs.Common.{◌≡◌, ℕ, ◌+◌, ◌-◌, ◌*◌, ◌/◌, ◌^◌, ◌<◌, ◌≤◌, min, List, [], ◌++◌, inl, inr, sym, ap, ap₂, ◌∙◌, subst, arith, append-nil, append_assoc}
use Rattle.std.specs.List.{concat}
use Rattle.std.proofs.lemmas.Bool.{cases_lt}
use Rattle.std.proofs.lemmas.List.Folds.{concat-append}
use Rattle.mode_set.specs.declared.settings.Settings.{Settings}
use Rattle.reception.specs.Cells.{symbols}
use Rattle.reception.specs.Frames.{tps_cells, frame_bits, CountsWords}
use Rattle.reception.specs.Lines.{closing_lines}
use Rattle.reception.specs.Streams.{at_end}
use Rattle.rx_report.specs.Text as text
use Rattle.rx_report.specs.declared.counts.Counts.{Counts}
use Rattle.inner_receiver.specs.Framing.{FrameStands}
use Rattle.inner_receiver.specs.declared.frames.FrameReader.{FrameReader}
use Rattle.measure_comparison.specs.Seen.{ComparerState}
use Rattle.measure_sums.specs.Tables.{AreLittle}
use Rattle.measurement.specs.Lines.{defined_by, begun_by, lines_of, MeasureFinal}
use Rattle.measurer.specs.declared.current.Current.{Current}
use Rattle.measurer.specs.Seen.{MeterState}
use Rattle.measurer.specs.Standing.{MetersStand, FramesStand, GoOn}
use Rattle.measurer.specs.Steps.{AreKept, HasBegun, HasStood, IsDone, CountsOn, HasLines, IsEnding, IsEnded, HasPlace, Adds, AreClosing}
use Rattle.measurer.proofs.Giving.{Passed, no_little, counts_now}

-- ---- at first

pub ending_first : (s : Settings) (bytes : List ℕ) (frames : FrameReader) (x y : MeterState) (given : List ℕ) → GoOn s bytes x → FramesStand s bytes frames x.current → y.comparer ≡ x.comparer → y.current ≡ x.current → MetersStand at_end s bytes y
    → HasLines s bytes (defined_by (symbols s bytes)) given → IsEnding s bytes frames y given
ending_first s bytes frames x y given g f same current stand lines = record {
  within = omega (arith, number);
  few = omega (arith, number);
  last = λ l. omega (arith, next, number);
  from = λ l. omega (arith, next, number);
  to = omega (arith, next, number);
  stand = stand;
  reader = f.reader;
  before = λ l. subst (λ (z : Current). CountsWords (frame_bits (tps_cells s bytes)) (4 * z.number) z.read_before z.bad_before) (sym current) f.before;
  lines_are = subst (λ (k : ℕ). HasLines s bytes k given) (sym number) lines;
}
  where
    number : y.current.number ≡ defined_by (symbols s bytes)
    number = ap (λ (z : Current). z.number) current ∙ g.number

    next : y.comparer.next ≡ symbols s bytes - 3
    next = ap (λ (z : ComparerState). z.next) same ∙ g.next

pub place_first : (x y : MeterState) (taken : ℕ) → AreKept x taken → y.comparer ≡ x.comparer → y.current ≡ x.current → HasPlace y taken
place_first x y taken k same current = record {
  little = subst (λ (z : Current). AreLittle z.sums (6048 * z.symbols)) (sym current) k.little;
  symbols = λ l. omega (arith, k.symbols, ap (λ (z : Current). z.symbols) current, ap (λ (z : Current). z.number) current, ap (λ (z : ComparerState). z.next) same);
  next = omega (arith, k.next, ap (λ (z : ComparerState). z.next) same);
}

-- ---- a super-frame

-- how far its symbols go
pub record Reaches (x : MeterState) (taken to : ℕ) : Type 0 where
  pub from : x.comparer.next ≤ to
  pub symbols : x.current.symbols + to ≤ 272 + x.comparer.next
  pub few : x.current.number < 2 ^ 31

pub reaches : (s : Settings) (taken to : ℕ) (frames : FrameReader) (x : MeterState) → IsEnded s taken frames x → HasPlace x taken → taken ≤ 2 ^ 32 → 272 * x.current.number < taken → to ≡ min taken (272 * (x.current.number + 1)) → Reaches x taken to
reaches s taken to frames x h p l begun e = record {
  from = omega (arith, e, p.next, h.ending.to);
  symbols = omega (arith, e, p.symbols begun);
  few = omega (arith, l, begun);
}

pub begun_end : (s : Settings) (taken : ℕ) (frames : FrameReader) (x : MeterState) → IsEnded s taken frames x → HasBegun x
begun_end s taken frames x h = record { known = h.ending.stand.bits; stands = h.ending.stand.before }

-- what `compare_up_to` makes of it
pub record ComparesTo (x y : MeterState) (to : ℕ) : Type 0 where
  pub next : y.comparer.next ≡ to
  pub current : y.current ≡ record x.current { symbols = y.current.symbols; sums = y.current.sums }
  pub compared : (s : Settings) (bytes : List ℕ) → MetersStand at_end s bytes x → to ≤ symbols s bytes → symbols s bytes < x.comparer.next + 4 → 272 * x.current.number ≤ x.comparer.next → MetersStand at_end s bytes y

pub stand_to : (s : Settings) (bytes : List ℕ) (taken to : ℕ) (frames : FrameReader) (x y : MeterState) (given : List ℕ) → symbols s bytes ≡ taken → IsEnding s bytes frames x given → 272 * x.current.number < taken → to ≡ min taken (272 * (x.current.number + 1)) → ComparesTo x y to → MetersStand at_end s bytes y
stand_to s bytes taken to frames x y given count h begun e c =
    let l : 272 * x.current.number < symbols s bytes = omega (arith, count, begun) in
    c.compared s bytes h.stand (omega (arith, e, count)) (h.last l) (h.from l)

pub frames_to : (s : Settings) (bytes : List ℕ) (taken to : ℕ) (frames : FrameReader) (x y : MeterState) (given : List ℕ) → symbols s bytes ≡ taken → IsEnding s bytes frames x given → 272 * x.current.number < taken → ComparesTo x y to → FramesStand s bytes frames y.current
frames_to s bytes taken to frames x y given count h begun c = record {
  reader = h.reader;
  before = subst (λ (z : Current). CountsWords (frame_bits (tps_cells s bytes)) (4 * z.number) z.read_before z.bad_before) (sym c.current) (h.before (omega (arith, count, begun)));
}

number_to : (x y : MeterState) (to : ℕ) → ComparesTo x y to → y.current.number ≡ x.current.number
number_to x y to c = ap (λ (z : Current). z.number) c.current

pub done_to : (s : Settings) (bytes : List ℕ) (taken to : ℕ) (frames : FrameReader) (x y : MeterState) (given : List ℕ) → symbols s bytes ≡ taken → IsEnding s bytes frames x given → 272 * x.current.number < taken → to ≡ min taken (272 * (x.current.number + 1)) → ComparesTo x y to
    → IsDone at_end (symbols s bytes) y.comparer.next y.current.number
done_to s bytes taken to frames x y given count h begun e c =
    let n = number_to x y to c in
    (omega (arith, count, begun, n), omega (arith, h.few, n), omega (arith, c.next, e, count, n))

pub counts_to : (s : Settings) (taken to : ℕ) (frames : FrameReader) (x y : MeterState) → IsEnded s taken frames x → 272 * x.current.number < taken → ComparesTo x y to → CountsOn y.current frames
counts_to s taken to frames x y h begun c =
    counts_now s h.bytes frames y.current (frames_to s h.bytes taken to frames x y h.lines h.count h.ending begun c) (omega (arith, h.count, begun, number_to x y to c))

pub stood_to : (s : Settings) (taken to : ℕ) (frames : FrameReader) (x y : MeterState) → IsEnded s taken frames x → 272 * x.current.number < taken → to ≡ min taken (272 * (x.current.number + 1)) → ComparesTo x y to → HasStood s y
stood_to s taken to frames x y h begun e c = record { moment = at_end; bytes = h.bytes; stand = stand_to s h.bytes taken to frames x y h.lines h.count h.ending begun e c }

words_end : (n j : ℕ) → 272 * (j + 1) < n → n < 272 * (j + 1) + 3 → n / 68 ≡ 4 * (j + 1)
words_end n j l k = omega (arith, l, k)

-- its lines are given
pub closed_end : (s : Settings) (bytes : List ℕ) (taken to : ℕ) (frames : FrameReader) (x y z : MeterState) (given : List ℕ) (old out : List (List ℕ)) → symbols s bytes ≡ taken → 272 * x.current.number < taken → to ≡ min taken (272 * (x.current.number + 1)) → ComparesTo x y to → Passed y z frames
    → (MetersStand at_end s bytes y → IsDone at_end (symbols s bytes) y.comparer.next y.current.number → MetersStand at_end s bytes z)
    → (MetersStand at_end s bytes y → FramesStand s bytes frames y.current → IsDone at_end (symbols s bytes) y.comparer.next y.current.number → HasLines s bytes y.current.number given → Adds old out (HasLines s bytes (y.current.number + 1)) given)
    → IsEnding s bytes frames x given → Adds old out (IsEnding s bytes frames z) given
closed_end s bytes taken to frames x y z given old out count begun e c p stands lines h = record { more = a.more; is = a.is; then = ending }
  where
    n : y.current.number ≡ x.current.number
    n = number_to x y to c

    number : z.current.number ≡ y.current.number + 1
    number = ap (λ (k : Current). k.number) p.current

    next : z.comparer.next ≡ to
    next = ap (λ (k : ComparerState). k.next) p.comparer ∙ c.next

    stand : MetersStand at_end s bytes y
    stand = stand_to s bytes taken to frames x y given count h begun e c

    done : IsDone at_end (symbols s bytes) y.comparer.next y.current.number
    done = done_to s bytes taken to frames x y given count h begun e c

    a : Adds old out (HasLines s bytes (y.current.number + 1)) given
    a = lines stand (frames_to s bytes taken to frames x y given count h begun c) done (subst (λ (k : ℕ). HasLines s bytes k given) (sym n) h.lines_are)

    ending : IsEnding s bytes frames z (given ++ concat a.more)
    ending = record {
      within = omega (arith, number, n, count, begun);
      few = omega (arith, number, n, h.few);
      last = λ l. omega (arith, l, number, n, next, e, count, h.few);
      from = λ l. omega (arith, l, number, n, next, e, count);
      to = omega (arith, number, n, next, e);
      stand = stands stand done;
      reader = h.reader;
      before = λ l. subst (λ (k : Current). CountsWords (frame_bits (tps_cells s bytes)) (4 * k.number) k.read_before k.bad_before) (sym p.current)
          (subst (λ (k : ℕ). CountsWords (frame_bits (tps_cells s bytes)) k frames.read frames.bad)
          (words_end (symbols s bytes) y.current.number (omega (arith, l, number)) (omega (arith, h.few, n))) h.reader.counts);
      lines_are = subst (λ (k : ℕ). HasLines s bytes k (given ++ concat a.more)) (sym number) a.then;
    }

pub place_end : (s : Settings) (taken to : ℕ) (frames : FrameReader) (x y z : MeterState) → IsEnded s taken frames x → 272 * x.current.number < taken → to ≡ min taken (272 * (x.current.number + 1)) → ComparesTo x y to → Passed y z frames → HasPlace z taken
place_end s taken to frames x y z h begun e c p = record {
  little = subst (λ (k : Current). AreLittle k.sums (6048 * k.symbols)) (sym p.current) (no_little (y.current.number + 1) frames.read frames.bad);
  symbols = λ l. omega (arith, l, none, number, n, next, e);
  next = omega (arith, next, e);
}
  where
    n : y.current.number ≡ x.current.number
    n = number_to x y to c

    number : z.current.number ≡ y.current.number + 1
    number = ap (λ (k : Current). k.number) p.current

    none : z.current.symbols ≡ 0
    none = ap (λ (k : Current). k.symbols) p.current

    next : z.comparer.next ≡ to
    next = ap (λ (k : ComparerState). k.next) p.comparer ∙ c.next

-- nothing is appended
pub none_end : (s : Settings) (bytes : List ℕ) (frames : FrameReader) (x : MeterState) (given : List ℕ) (out : List (List ℕ)) → IsEnding s bytes frames x given → Adds out out (IsEnding s bytes frames x) given
none_end s bytes frames x given out h = record { more = []; is = sym (append-nil out); then = subst (λ (z : List ℕ). IsEnding s bytes frames x z) (sym (append-nil given)) h }

-- ---- all lines

-- after at most two super-frames all that were begun have their lines
pub record HasGiven (taken first second last : ℕ) : Type 0 where
  pub further : 272 * first < taken → second ≡ first + 1
  pub stays : taken ≤ 272 * first → second ≡ first
  pub further_2 : 272 * second < taken → last ≡ second + 1
  pub stays_2 : taken ≤ 272 * second → last ≡ second

all_begun : (taken first second last : ℕ) → HasGiven taken first second last → first ≤ begun_by taken → taken < 272 * (first + 1) + 3 → last ≡ begun_by taken
all_begun taken first second last h within few = elim (cases_lt (272 * first) taken) [
  | inl l ↦
      let e = h.further l in
      elim (cases_lt (272 * second) taken) [
        | inl k ↦ let f = h.further_2 k in omega (arith, e, f, l, k, few)
        | inr k ↦ let f = h.stays_2 k in omega (arith, e, f, l, k, few)
      ]
  | inr l ↦
      let e = h.stays l in
      let f = h.stays_2 (omega (arith, e, l)) in
      omega (arith, e, f, l, within)
]

pub final_lines : (s : Settings) (bytes : List ℕ) (taken first second : ℕ) (frames : FrameReader) (z : MeterState) (given : List ℕ) (out0 out1 out2 out : List (List ℕ)) (more1 more2 : List (List ℕ)) (counts : Counts) → symbols s bytes ≡ taken → HasGiven taken first second z.current.number
    → first ≤ begun_by taken → taken < 272 * (first + 1) + 3 → out0 ≡ [] → out1 ≡ out0 ++ more1 → out2 ≡ out1 ++ more2 → out ≡ out2 ++ text.closing_lines counts → IsEnding s bytes frames z (given ++ (concat more1 ++ concat more2)) → AreClosing s bytes counts → MeasureFinal s bytes (given ++ concat out)
final_lines s bytes taken first second frames z given out0 out1 out2 out more1 more2 counts count steps within few none e1 e2 e h c = record {
  frames = h.lines_are.frames;
  are = λ j l. h.lines_are.are j (omega (arith, l, last, count));
  reception = c.reception;
  final = c.final;
  is = all ∙ ap₂ (λ (a b : List ℕ). a ++ b) front back;
}
  where
    last : z.current.number ≡ begun_by taken
    last = all_begun taken first second z.current.number steps within few

    front : given ++ (concat more1 ++ concat more2) ≡ lines_of h.lines_are.frames (begun_by (symbols s bytes))
    front = h.lines_are.is ∙ ap (lines_of h.lines_are.frames) (last ∙ ap begun_by (sym count))

    back : concat (text.closing_lines counts) ≡ closing_lines s bytes c.reception
    back = ap (λ (k : Counts). concat (text.closing_lines k)) c.is

    lines : out ≡ (more1 ++ more2) ++ text.closing_lines counts
    lines = e ∙ ap (λ (k : List (List ℕ)). k ++ text.closing_lines counts) (e2 ∙ ap (λ (k : List (List ℕ)). k ++ more2) (e1 ∙ ap (λ (k : List (List ℕ)). k ++ more1) none))

    parts : concat ((more1 ++ more2) ++ text.closing_lines counts) ≡ (concat more1 ++ concat more2) ++ concat (text.closing_lines counts)
    parts = concat-append (more1 ++ more2) (text.closing_lines counts) ∙ ap (λ (k : List ℕ). k ++ concat (text.closing_lines counts)) (concat-append more1 more2)

    all : given ++ concat out ≡ (given ++ (concat more1 ++ concat more2)) ++ concat (text.closing_lines counts)
    all =
        let one : given ++ concat out ≡ given ++ concat ((more1 ++ more2) ++ text.closing_lines counts) = ap (λ (k : List (List ℕ)). given ++ concat k) lines in
        let two : given ++ concat ((more1 ++ more2) ++ text.closing_lines counts) ≡ given ++ ((concat more1 ++ concat more2) ++ concat (text.closing_lines counts)) = ap (λ (k : List ℕ). given ++ k) parts in
        one ∙ two ∙ sym (append_assoc given (concat more1 ++ concat more2) (concat (text.closing_lines counts)))

-- what the end of a super-frame makes of the parts
pub record EndsFrame (s : Settings) (taken : ℕ) (frames : FrameReader) (x y : MeterState) (old new : List (List ℕ)) : Type 0 where
  pub further : 272 * x.current.number < taken → y.current.number ≡ x.current.number + 1
  pub stays : taken ≤ 272 * x.current.number → y.current.number ≡ x.current.number
  pub ended : (bytes given : List ℕ) → symbols s bytes ≡ taken → IsEnding s bytes frames x given → Adds old new (IsEnding s bytes frames y) given

pub ended_next : (s : Settings) (taken : ℕ) (frames : FrameReader) (x y : MeterState) (old new : List (List ℕ)) → IsEnded s taken frames x → EndsFrame s taken frames x y old new → IsEnded s taken frames y
ended_next s taken frames x y old new h e =
    let a = e.ended h.bytes h.lines h.count h.ending in
    record { bytes = h.bytes; lines = h.lines ++ concat a.more; count = h.count; ending = a.then }

pub finishes : (s : Settings) (bytes given : List ℕ) (taken : ℕ) (frames : FrameReader) (y z1 z2 : MeterState) (out0 out1 out2 out : List (List ℕ)) (counts : Counts) → symbols s bytes ≡ taken → IsEnding s bytes frames y given → EndsFrame s taken frames y z1 out0 out1 → EndsFrame s taken frames z1 z2 out1 out2
    → out0 ≡ [] → out ≡ out2 ++ text.closing_lines counts → (MetersStand at_end s bytes z2 → FrameStands s.mode frames (tps_cells s bytes) (symbols s bytes) → AreClosing s bytes counts) → MeasureFinal s bytes (given ++ concat out)
finishes s bytes given taken frames y z1 z2 out0 out1 out2 out counts count h e1 e2 none e close =
    let a1 = e1.ended bytes given count h in
    let a2 = e2.ended bytes (given ++ concat a1.more) count a1.then in
    final_lines s bytes taken y.current.number z1.current.number frames z2 given out0 out1 out2 out a1.more a2.more counts count
    (record { further = e1.further; stays = e1.stays; further_2 = e2.further; stays_2 = e2.stays })
    (omega (arith, h.within, count)) (omega (arith, h.few, count)) none a1.is a2.is e
    (subst (λ (z : List ℕ). IsEnding s bytes frames z2 z) (append_assoc given (concat a1.more) (concat a2.more)) a2.then) (close a2.then.stand a2.then.reader)
