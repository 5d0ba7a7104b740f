-- Lines that are appended.
use Rattle.std.proofs.Common.{◌≡◌, ℕ, zero, suc, ◌+◌, ◌<◌, ◌≤◌, Bool, cond, List, [], ◌∷◌, ◌++◌, length, take, refl, sym, ap, ap₂, ◌∙◌, subst, inl, inr, arith, append_assoc, append-nil}
use Rattle.std.specs.Prelude.{Option, Some, None, IfSome, IsNone, ◌↔◌, slice_get, flat_map, nat_le}
use Rattle.std.specs.List.{concat}
use Rattle.std.proofs.lemmas.Bool.{cases_lt, le-leb, lt-leb}
use Rattle.std.proofs.lemmas.List.{take_all}
use Rattle.arrayvec.specs.ArrayString.{ArrayString}
use Rattle.std.proofs.lemmas.List.Concat.{flat_map-append}
use Rattle.spec_words.specs.Words.{numbers}
use Rattle.spec_words.proofs.Counting.{numbers_end}
use Rattle.mode_set.specs.declared.settings.Settings.{Settings}
use Rattle.reception.specs.Cells.{symbols}
use Rattle.measure_report.specs.Text.{lines, lp_lines}
use Rattle.measure_report.specs.declared.sums.StreamSums.{StreamSums}
use Rattle.rx_report.specs.Text as text
use Rattle.rx_report.specs.declared.counts.Counts.{Counts}
use Rattle.rx_report.specs.declared.counts.StreamCounts.{StreamCounts}
use Rattle.measure_report.specs.declared.sums.SuperFrame.{SuperFrame}
use Rattle.measurement.specs.SuperFrames.{AreSums}
use Rattle.measurement.specs.Lines.{defined_by, lines_of, MeasureLive}
use Rattle.measurement.specs.Laws.{SumsStay}
use Rattle.measurer.specs.Steps.{HasLines}

-- ---- lines of a list, one after another

take_more : (xs : List (List ℕ)) (k : ℕ) (b : List ℕ) → slice_get xs k ≡ Some b → take (suc k) xs ≡ take k xs ++ b ∷ []
take_more [] k b h = absurd (cc h)
take_more (x ∷ xs) zero b h = let e : x ≡ b = cc h in ap (λ (z : List ℕ). z ∷ []) e
take_more (x ∷ xs) (suc k) b h = ap (λ (z : List (List ℕ)). x ∷ z) (take_more xs k b h)

pub line_more : (old now xs : List (List ℕ)) (k : ℕ) (b : List ℕ) → now ≡ old ++ take k xs → slice_get xs k ≡ Some b → now ++ b ∷ [] ≡ old ++ take (k + 1) xs
line_more old now xs k b e h =
    let next : suc k ≡ k + 1 = omega arith in
    ap (λ (z : List (List ℕ)). z ++ b ∷ []) e ∙ append_assoc old (take k xs) (b ∷ []) ∙ ap (λ (z : List (List ℕ)). old ++ z) (sym (take_more xs k b h) ∙ ap (λ (n : ℕ). take n xs) next)

pub line_past : (old now xs : List (List ℕ)) (k : ℕ) → now ≡ old ++ take k xs → length xs ≤ k → now ≡ old ++ take (k + 1) xs
line_past old now xs k e l = e ∙ ap (λ (z : List (List ℕ)). old ++ z) (take_all k xs l ∙ sym (take_all (k + 1) xs (omega (arith, l))))

pub lines_all : (old now xs : List (List ℕ)) (k : ℕ) → now ≡ old ++ take k xs → length xs ≤ k → now ≡ old ++ xs
lines_all old now xs k e l = e ∙ ap (λ (z : List (List ℕ)). old ++ z) (take_all k xs l)

-- the next line was appended, if there is one
pub put_next : (old now next xs : List (List ℕ)) (k : ℕ) (r : Option ArrayString) → now ≡ old ++ take k xs → IfSome r (λ (l : ArrayString). slice_get xs k ≡ Some l.bytes) → (IsNone r ↔ (length xs ≤ k))
    → IfSome r (λ (l : ArrayString). next ≡ now ++ l.bytes ∷ []) → (IsNone r → next ≡ now) → next ≡ old ++ take (k + 1) xs
put_next old now next xs k None e line past some none = none refl ∙ line_past old now xs k e (past.0 refl)
put_next old now next xs k (Some l) e line past some none = some ∙ line_more old now xs k l.bytes e line

-- ---- the lines of super-frames

parts_end : (f : ℕ → List ℕ) (n : ℕ) → flat_map f (numbers (suc n)) ≡ flat_map f (numbers n) ++ f n
parts_end f n =
    let next : suc n ≡ n + 1 = omega arith in
    ap (flat_map f) (ap numbers next ∙ numbers_end n) ∙ flat_map-append f (numbers n) (n ∷ []) ∙ ap (λ (z : List ℕ). flat_map f (numbers n) ++ z) (append-nil (f n))

no_parts : (f : ℕ → List ℕ) → flat_map f (numbers 0) ≡ []
unfolding numbers
no_parts f = refl

same_parts : (f g : ℕ → List ℕ) (n : ℕ) → ((k : ℕ) → k < n → f k ≡ g k) → flat_map f (numbers n) ≡ flat_map g (numbers n)
same_parts f g zero h = no_parts f ∙ sym (no_parts g)
same_parts f g (suc n) h =
    parts_end f n ∙ ap₂ (λ (x y : List ℕ). x ++ y) (same_parts f g n (λ k l. h k (omega (arith, l)))) (h n (omega arith)) ∙ sym (parts_end g n)

abbrev with_frame : (ℕ → SuperFrame) → ℕ → SuperFrame → ℕ → SuperFrame
with_frame frames n f j = cond (nat_le (suc j) n) (frames j) f

frame_below : (frames : ℕ → SuperFrame) (n : ℕ) (f : SuperFrame) (j : ℕ) → j < n → with_frame frames n f j ≡ frames j
frame_below frames n f j l = ap (λ (b : Bool). cond b (frames j) f) (le-leb (suc j) n (omega (arith, l)))

frame_there : (frames : ℕ → SuperFrame) (n : ℕ) (f : SuperFrame) → with_frame frames n f n ≡ f
frame_there frames n f = ap (λ (b : Bool). cond b (frames n) f) (lt-leb (suc n) n (omega arith))

-- a super-frame more
pub lines_more : (s : Settings) (bytes : List ℕ) (n : ℕ) (given : List ℕ) (f : SuperFrame) → HasLines s bytes n given → AreSums s bytes n f → HasLines s bytes (n + 1) (given ++ concat (lines f))
unfolding lines_of
lines_more s bytes n given f h a = record { frames = frames; are = are; is = is }
  where
    frames : ℕ → SuperFrame
    frames = with_frame h.frames n f

    text : (ℕ → SuperFrame) → ℕ → List ℕ
    text g j = concat (lines (g j))

    are : (j : ℕ) → j < n + 1 → AreSums s bytes j (with_frame h.frames n f j)
    are j l = elim (cases_lt j n) [
      | inl k ↦ subst (AreSums s bytes j) (sym (frame_below h.frames n f j k)) (h.are j k)
      | inr k ↦
          let e : n ≡ j = omega (arith, k, l) in
          subst (λ (z : ℕ). AreSums s bytes z (with_frame h.frames n f z)) e (subst (AreSums s bytes n) (sym (frame_there h.frames n f)) a)
    ]

    is : given ++ concat (lines f) ≡ flat_map (λ j. concat (lines (with_frame h.frames n f j))) (numbers (n + 1))
    is =
        let next : suc n ≡ n + 1 = omega arith in
        ap₂ (λ (x y : List ℕ). x ++ y)
        (h.is ∙ same_parts (λ j. concat (lines (h.frames j))) (λ j. concat (lines (with_frame h.frames n f j))) n (λ j l. ap (λ (z : SuperFrame). concat (lines z)) (sym (frame_below h.frames n f j l))))
        (ap (λ (z : SuperFrame). concat (lines z)) (sym (frame_there h.frames n f)))
        ∙ sym (parts_end (λ j. concat (lines (with_frame h.frames n f j))) n)
        ∙ ap (λ (k : ℕ). flat_map (λ j. concat (lines (with_frame h.frames n f j))) (numbers k)) next

-- more bytes leave the lines that are defined
pub lines_stay : SumsStay → (s : Settings) (bytes more : List ℕ) (n : ℕ) (given : List ℕ) → n ≤ defined_by (symbols s bytes) → HasLines s bytes n given → HasLines s (bytes ++ more) n given
lines_stay stay s bytes more n given l h = record { frames = h.frames; are = λ j k. stay s bytes more j (h.frames j) (omega (arith, k, l)) (h.are j k); is = h.is }

pub live_lines : (s : Settings) (bytes given : List ℕ) → MeasureLive s bytes given → HasLines s bytes (defined_by (symbols s bytes)) given
live_lines s bytes given h = record { frames = h.frames; are = h.are; is = h.is }

pub lines_live : (s : Settings) (bytes given : List ℕ) → HasLines s bytes (defined_by (symbols s bytes)) given → MeasureLive s bytes given
lines_live s bytes given h = record { frames = h.frames; are = h.are; is = h.is }

-- no line
pub no_lines : (s : Settings) (bytes : List ℕ) → HasLines s bytes 0 []
unfolding lines_of numbers
no_lines s bytes = record { frames = frames; are = λ j l. absurd (omega (arith, l)); is = refl }
  where
    frames : ℕ → SuperFrame
    frames j = record { number = 0; symbols = 0; cells = 0; muted = 0; power = 0; error = 0; tps_read = 0; tps_bad = 0; hp = record { bits = 0; wrong = 0; words = 0; clean = 0; corrected = 0; bad = 0; unphased = 0; unmerged = 0; repaired = 0 }; lp = None }

-- ---- how many lines there are

lp_few : (t : Option StreamSums) → length (lp_lines t) ≤ 1
lp_few None = omega arith
lp_few (Some t) = omega arith

pub frame_few : (f : SuperFrame) → length (lines f) ≤ 3
frame_few f = omega (arith, lp_few f.lp)

lp_closing : (t : Option StreamCounts) → length (text.lp_lines t) ≤ 1
lp_closing None = omega arith
lp_closing (Some t) = omega arith

pub counts_few : (c : Counts) → length (text.closing_lines c) ≤ 4
counts_few c = omega (arith, lp_closing c.lp)
