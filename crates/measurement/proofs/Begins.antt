-- The lines for bytes are a prefix of those for more bytes.
use Rattle.std.proofs.Common.{◌≡◌, ℕ, ◌+◌, ◌-◌, ◌<◌, ◌≤◌, List, ◌++◌, sym, ap, ◌∙◌, arith, append_assoc}
use Rattle.std.specs.Prelude.{flat_map}
use Rattle.std.specs.List.{concat}
use Rattle.spec_words.specs.Words.{numbers}
use Rattle.mode_set.specs.declared.settings.Settings.{Settings}
use Rattle.reception.specs.Cells.{symbols}
use Rattle.reception.specs.Lines.{closing_lines}
use Rattle.reception.proofs.Numbered.{same_parts, more_parts}
use Rattle.measure_report.specs.Text.{lines}
use Rattle.measure_report.specs.declared.sums.SuperFrame.{SuperFrame}
use Rattle.measurement.specs.SuperFrames.{AreSums}
use Rattle.measurement.specs.Lines.{defined_by, begun_by, lines_of, MeasureLive}
use Rattle.measurement.specs.Laws.{SumsStay, OneSums, LiveBeginsLive, LiveBeginsFinal}
use Rattle.measurement.proofs.Staying.{more_symbols}

lines_begin : (f g : ℕ → SuperFrame) (n m : ℕ) → n ≤ m → ((j : ℕ) → j < n → f j ≡ g j) → (rest : List ℕ) × (lines_of g m ≡ lines_of f n ++ rest)
unfolding lines_of
lines_begin f g n m l same =
    let d = m - n in
    let all : m ≡ d + n = omega (arith, l) in
    let r = more_parts (λ j. concat (lines (g j))) n d in (
      r.0,
      ap (λ (k : ℕ). flat_map (λ j. concat (lines (g j))) (numbers k)) all ∙ r.1
          ∙ ap (λ (z : List ℕ). z ++ r.0) (same_parts (λ j. concat (lines (g j))) (λ j. concat (lines (f j))) n (λ j k. ap (λ (x : SuperFrame). concat (lines x)) (sym (same j k)))),
    )

defined_grow : (n m : ℕ) → n ≤ m → defined_by n ≤ defined_by m
defined_grow n m l = omega (arith, l)

defined_begun : (n m : ℕ) → n ≤ m → defined_by n ≤ begun_by m
defined_begun n m l = omega (arith, l)

module _ (stay : SumsStay) (one : OneSums) (s : Settings) (bytes more out : List ℕ) (a : MeasureLive s bytes out) (frames : ℕ → SuperFrame) (n : ℕ) (within : defined_by (symbols s bytes) ≤ n) (are : (j : ℕ) → j < n → AreSums s (bytes ++ more) j (frames j)) where
  begins : (rest : List ℕ) × (lines_of frames n ≡ out ++ rest)
  begins =
      let r = lines_begin a.frames frames (defined_by (symbols s bytes)) n within (λ j l. one s (bytes ++ more) j (a.frames j) (frames j) (stay s bytes more j (a.frames j) l (a.are j l)) (are j (omega (arith, l, within)))) in
      (r.0, r.1 ∙ ap (λ (z : List ℕ). z ++ r.0) (sym a.is))

pub live_begins_live : SumsStay → OneSums → LiveBeginsLive
live_begins_live stay one s bytes more out longer a b =
    let r = begins stay one s bytes more out a b.frames (defined_by (symbols s (bytes ++ more))) (defined_grow (symbols s bytes) (symbols s (bytes ++ more)) (more_symbols s bytes more)) b.are in
    (r.0, b.is ∙ r.1)

pub live_begins_final : SumsStay → OneSums → LiveBeginsFinal
live_begins_final stay one s bytes more out longer a b =
    let r = begins stay one s bytes more out a b.frames (begun_by (symbols s (bytes ++ more))) (defined_begun (symbols s bytes) (symbols s (bytes ++ more)) (more_symbols s bytes more)) b.are in
    let c = closing_lines s (bytes ++ more) b.reception in
    (r.0 ++ c, b.is ∙ ap (λ (z : List ℕ). z ++ c) r.1 ∙ append_assoc out r.0 c)
