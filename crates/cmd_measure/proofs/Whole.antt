-- The lines of bytes are unique, and bytes that do not complete a symbol leave them.
use Rattle.std.proofs.Common.{◌≡◌, ℕ, ◌+◌, ◌-◌, ◌*◌, ◌<◌, ◌≤◌, List, [], ◌++◌, length, take, drop, ◌∙◌, sym, ap, ap₂, subst, arith, append_assoc, take-append-drop, length-take-le}
use Rattle.std.specs.Prelude.{None, flat_map}
use Rattle.std.specs.List.{concat}
use Rattle.std.proofs.lemmas.List.{length-append}
use Rattle.std.proofs.lemmas.Nat.{div-add-mod', mul-le}
use Rattle.std.proofs.Math.Nat.{div-mul-le_self, mod-lt}
use Rattle.std.proofs.Math.Seq.{take-append-add}
use Rattle.mode_set.specs.declared.settings.Settings.{Settings}
use Rattle.reception.specs.Cells.{symbol_length, symbols, tail}
use Rattle.reception.specs.Laws.{IsWithin, SameSymbols}
use Rattle.reception.proofs.Numbered.{no_parts, same_parts}
use Rattle.spec_words.specs.Words.{numbers}
use Rattle.reception.specs.Moments.{SomeFinal, SomeLive}
use Rattle.measure_report.specs.Text.{lines}
use Rattle.measure_report.specs.declared.sums.SuperFrame.{SuperFrame}
use Rattle.measurement.specs.Laws.{OneSums, SumsStay}
use Rattle.measurement.specs.Lines.{MeasureFinal, MeasureLive, begun_by, defined_by, lines_of}
use Rattle.law_measurement.specs.Totals.{ClosingIsReceived, nothing}
use Rattle.cmd_receive.specs.Received.{within_limit}
use Rattle.cmd_receive.proofs.Parts.{no_tail, some_bytes, symbols_are}
use Rattle.cmd_measure.proofs.Existing.{some_lines}

-- ---- one list

same_lines : (f g : ℕ → SuperFrame) (n : ℕ) → ((j : ℕ) → j < n → f j ≡ g j) → lines_of f n ≡ lines_of g n
unfolding lines_of
same_lines f g n same = same_parts (λ j. concat (lines (f j))) (λ j. concat (lines (g j))) n (λ j l. ap (λ (x : SuperFrame). concat (lines x)) (same j l))

pub one_live : OneSums → (s : Settings) (bytes a b : List ℕ) → MeasureLive s bytes a → MeasureLive s bytes b → b ≡ a
one_live one s bytes a b x y = y.is ∙ same_lines y.frames x.frames (defined_by (symbols s bytes)) (λ j l. one s bytes j (y.frames j) (x.frames j) (y.are j l) (x.are j l)) ∙ sym x.is

pub one_final : OneSums → ClosingIsReceived → (s : Settings) (bytes a b : List ℕ) → MeasureFinal s bytes a → MeasureFinal s bytes b → b ≡ a
one_final one closing s bytes a b x y =
    y.is
    ∙ ap₂ (λ (p q : List ℕ). p ++ q) (same_lines y.frames x.frames (begun_by (symbols s bytes)) (λ j l. one s bytes j (y.frames j) (x.frames j) (y.are j l) (x.are j l))) (closing s bytes b y x.reception x.final)
    ∙ sym x.is

-- ---- bytes that do not complete a symbol

-- the sums of no symbols
no_frame : SuperFrame
no_frame = record { number = 0; symbols = 0; cells = 0; muted = 0; power = 0; error = 0; tps_read = 0; tps_bad = 0; hp = nothing; lp = None }

none_defined : (n : ℕ) → n ≡ 0 → defined_by n ≡ 0
none_defined n e = omega (arith, e)

no_lines_of : (frames : ℕ → SuperFrame) (n : ℕ) → n ≡ 0 → lines_of frames n ≡ []
unfolding lines_of
no_lines_of frames n e = ap (λ (k : ℕ). flat_map (λ j. concat (lines (frames j))) (numbers k)) e ∙ no_parts (λ j. concat (lines (frames j)))

-- no bytes define no lines
pub no_lines_yet : (s : Settings) → MeasureLive s [] []
no_lines_yet s =
    let none : defined_by (symbols s []) ≡ 0 = none_defined (symbols s []) (symbols_are s [] 0 (omega arith)) in
    record { frames = λ j. no_frame; are = λ j l. absurd (omega (arith, l, none)); is = sym (no_lines_of (λ j. no_frame) (defined_by (symbols s [])) none) }

pub part_live : SameSymbols → SumsStay → (s : Settings) (bytes more out : List ℕ) → IsWithin s bytes more → MeasureLive s bytes out → MeasureLive s (bytes ++ more) out
part_live same stay s bytes more out within live = record {
  frames = live.frames;
  are = λ j l. let k : j < defined_by (symbols s bytes) = subst (λ (n : ℕ). j < defined_by n) is l in stay s bytes more j (live.frames j) k (live.are j k);
  is = live.is ∙ ap (λ (n : ℕ). lines_of live.frames (defined_by n)) (sym is);
}
  where
    is : symbols s (bytes ++ more) ≡ symbols s bytes
    is = same s bytes more within

module _ (some_live : SomeLive) (some_final : SomeFinal) (same : SameSymbols) (stay : SumsStay) (one : OneSums) where
  -- they define no line
  pub whole_live : (s : Settings) (bytes more out : List ℕ) → IsWithin s bytes more → MeasureLive s (bytes ++ more) out → MeasureLive s bytes out
  whole_live s bytes more out within live =
      let l = some_lines some_live some_final s bytes in
      subst (λ (x : List ℕ). MeasureLive s bytes x) (one_live one s (bytes ++ more) out l.0 live (part_live same stay s bytes more l.0 within l.1)) l.1

-- ---- the limit

-- Bytes within the limit are whole symbols and bytes that do not complete one, and the symbols within the limit are
-- those and others.
pub record IsWithinLimit (s : Settings) (taken rest : List ℕ) : Type 0 where
  pub whole : List ℕ
  pub after : List ℕ
  pub others : List ℕ
  pub are : taken ≡ whole ++ after
  pub ends_none : IsWithin s whole after
  pub limited : within_limit s (taken ++ rest) ≡ whole ++ others

pub within_by : (s : Settings) (taken rest : List ℕ) → symbols s taken ≤ s.max_symbols → IsWithinLimit s taken rest
within_by s taken rest few =
    let size : ℕ = symbol_length s in
    let file : List ℕ = taken ++ rest in
    let t : List ℕ = take (symbols s taken * size) taken in
    let u : List ℕ = drop (symbols s taken * size) taken in
    let q : ℕ = s.max_symbols * size in
    let v : List ℕ = take (q - length t) (u ++ rest) in
    let long : length t ≡ symbols s taken * size = length-take-le (symbols s taken * size) taken (div-mul-le_self (length taken) size) in
    let joined : t ++ u ≡ taken = take-append-drop (symbols s taken * size) taken in
    let file_is : file ≡ t ++ (u ++ rest) = ap (λ (l : List ℕ). l ++ rest) (sym joined) ∙ append_assoc t u rest in
    let fits : length t ≤ q = omega (arith, long, mul-le (symbols s taken) size s.max_symbols size few (omega arith)) in
    let split : q ≡ length t + (q - length t) = omega (arith, fits) in
    let none : tail s t ≡ 0 = no_tail s t (symbols s taken) long in
    let less : tail s taken < size = mod-lt (length taken) (some_bytes s) in
    let sum : length t + length u ≡ length taken = sym (length-append t u) ∙ ap length joined in
    let cut : symbols s taken * size + tail s taken ≡ length taken = div-add-mod' (length taken) size in
    record {
      whole = t;
      after = u;
      others = v;
      are = sym joined;
      ends_none = omega (arith, none, less, sum, cut, long);
      limited = ap (λ (n : ℕ). take n file) split ∙ ap (take (length t + (q - length t))) file_is ∙ take-append-add t (u ++ rest) (q - length t);
    }
