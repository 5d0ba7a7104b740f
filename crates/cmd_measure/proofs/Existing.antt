-- Bytes have a measurement at every moment: the definitions reject no input.
use Rattle.std.proofs.Common.{◌⊎◌, inl, inr, ℕ, zero, suc, ◌+◌, ◌-◌, ◌*◌, ◌/◌, ◌<◌, ◌≤◌, min, Bool, true, false, cond, List, ◌++◌, Some, None, refl, arith, if◌then◌else◌}
use Rattle.std.specs.Prelude.{◌&&◌, not, count_by, sum_by}
use Rattle.std.proofs.lemmas.Bool.{cases_lt}
use Rattle.mode_set.specs.declared.modes.Stream.{Stream}
use Rattle.mode_set.specs.declared.modes.Stream.TheVariants.{Hp, Lp}
use Rattle.mode_set.specs.declared.settings.Settings.{Settings}
use Rattle.symbol_parameters.specs.Spans.{exists_in}
use Rattle.outer_chain.specs.Bits.{bytes_of}
use Rattle.outer_chain.specs.Words.{Tally, Tallies, count, has, is_clean, phase_before, word_at}
use Rattle.reception.specs.Cells.{symbols}
use Rattle.reception.specs.Frames.{CountsWords, frame_bits, tps_cells}
use Rattle.reception.specs.Moments.{SomeFinal, SomeLive}
use Rattle.measure_sums.specs.Comparing.{bits_in, cells_in, error_in, muted_in, power_in, wrong_in}
use Rattle.measure_report.specs.declared.sums.StreamSums.{StreamSums}
use Rattle.measure_report.specs.declared.sums.SuperFrame.{SuperFrame}
use Rattle.measurement.specs.Known.{IsKnown, first_symbols}
use Rattle.measurement.specs.SuperFrames.{AreStreamSums, AreSums, Knowns, compared_in, is_reported_in, known_with, over_compared, repaired_in, told, told_before, words_of}
use Rattle.measurement.specs.Lines.{MeasureFinal, MeasureLive, begun_by, defined_by, lines_of}
use Rattle.reception.specs.Lines.{closing_lines}

-- no more numbers pass a test than there are
count_most : (f : ℕ → Bool) (n : ℕ) → count f n ≤ n
unfolding count
count_most f zero = omega arith
count_most f (suc n) = go (f n) (count_most f n)
  where
    go : (b : Bool) → count f n ≤ n → cond b 1 0 + count f n ≤ suc n
    go true l = omega (arith, l)
    go false l = omega (arith, l)

-- a whole frame of a super-frame is one of the whole frames
frame_within : (n j i : ℕ) → i < min 4 (n / 68 - 4 * j) → 4 * j + i < n / 68
frame_within n j i l = omega (arith, l)

-- the bits known for a symbol of a stream, with a tally of their words
record KnownBits (s : Settings) (bytes : List ℕ) (σ : Stream) (m : ℕ) : Type 0 where
  bits : List Bool
  known : IsKnown s bytes σ m bits
  tally : Tally
  tallies : Tallies (bytes_of bits) tally

module _ (live : SomeLive) (final : SomeFinal) (s : Settings) (bytes : List ℕ) where
  known_at : (m : ℕ) (σ : Stream) → KnownBits s bytes σ m
  known_at m σ = go (cases_lt (symbols s bytes) (m + 4))
    where
      go : (symbols s bytes < m + 4) ⊎ (m + 4 ≤ symbols s bytes) → KnownBits s bytes σ m
      go (inl few) =
          let r = final s bytes in
          record { bits = r.1.bits σ; known = record { so_far = λ h. absurd (omega (arith, h, few)); at_end = λ h. r.1.decoded σ }; tally = r.0.tally σ; tallies = r.1.tally σ }
      go (inr enough) =
          let r = live s (first_symbols s (m + 4) bytes) in
          record { bits = r.1.bits σ; known = record { so_far = λ h. r.1.decoded σ; at_end = λ h. absurd (omega (arith, h, enough)) }; tally = r.0.tally σ; tallies = r.1.tally σ }

  knowns : Knowns
  knowns m σ = (known_at m σ).bits

  are_known : (m : ℕ) (σ : Stream) → IsKnown s bytes σ m (knowns m σ)
  unfolding knowns
  are_known m σ = (known_at m σ).known

  words_are : (j : ℕ) (σ : Stream) → Tallies (bytes_of (known_with knowns σ j)) (known_at (272 * j + 271) σ).tally
  unfolding knowns
  words_are j σ = (known_at (272 * j + 271) σ).tallies

  -- the sums of a stream in a super-frame
  record SomeSums (j : ℕ) (σ : Stream) : Type 0 where
    sums : StreamSums
    are : AreStreamSums s bytes knowns j σ sums

  stream_sums : (j : ℕ) (σ : Stream) → SomeSums j σ
  stream_sums j σ =
      let t = words_are j σ in
      let r = final s bytes in
      let word = word_at (bytes_of (known_with knowns σ j)) in
      let words : List ℕ = words_of s knowns σ j in
      record {
        sums = record {
          bits = over_compared s bytes knowns j (λ x. bits_in x σ);
          wrong = over_compared s bytes knowns j (λ x. wrong_in x σ);
          words = told s knowns σ j - told_before s knowns σ j;
          clean = count_by (λ x. is_clean (word x) (t.near x)) words;
          corrected = count_by (λ x. has (t.near x) && not (is_clean (word x) (t.near x))) words;
          bad = count_by (λ x. not (has (t.near x))) words;
          unphased = count_by (λ x. not (has (phase_before t.near (suc x)))) words;
          unmerged = count_by (is_reported_in s σ j) (r.0.reports σ);
          repaired = sum_by (λ x. repaired_in (word x) (t.near x)) words;
        };
        are = record {
          bits = refl;
          wrong = refl;
          near = t.near;
          is_near = λ x l. t.is_near x (omega (arith, l));
          words = refl;
          clean = refl;
          corrected = refl;
          bad = refl;
          unphased = refl;
          repaired = refl;
          reports = r.0.reports σ;
          are_reports = r.1.reports σ;
          unmerged = refl;
        };
      }

  -- the frames of a super-frame
  record SomeFrames (j : ℕ) : Type 0 where
    read : ℕ
    bad : ℕ
    are : CountsWords (λ i. frame_bits (tps_cells s bytes) (4 * j + i)) (min 4 (symbols s bytes / 68 - 4 * j)) read bad

  frames_of : (j : ℕ) → SomeFrames j
  frames_of j =
      let f = (final s bytes).1.frames in
      let n : ℕ = min 4 (symbols s bytes / 68 - 4 * j) in
      let is_read : ℕ → Bool = λ i. f.is_read (4 * j + i) in
      record {
        read = count is_read n;
        bad = n - count is_read n;
        are = record { is_read = is_read; reads = λ i l. f.reads (4 * j + i) (frame_within (symbols s bytes) j i l); read_is = refl; all = omega (arith, count_most is_read n) };
      }

  -- the sums of a super-frame
  pub record SomeFrame (j : ℕ) : Type 0 where
    pub frame : SuperFrame
    pub are : AreSums s bytes j frame

  pub frame_of : (j : ℕ) → SomeFrame j
  frame_of j =
      let hp = stream_sums j Hp in
      let lp = stream_sums j Lp in
      let f = frames_of j in
      record {
        frame = record {
          number = j;
          symbols = compared_in s knowns j;
          cells = over_compared s bytes knowns j cells_in;
          muted = over_compared s bytes knowns j muted_in;
          power = over_compared s bytes knowns j power_in;
          error = over_compared s bytes knowns j error_in;
          tps_read = f.read;
          tps_bad = f.bad;
          hp = hp.sums;
          lp = if exists_in s Lp then Some lp.sums else None;
        };
        are = record {
          known = knowns;
          are_known = λ m σ l k. are_known m σ;
          number = refl;
          compared = refl;
          cells = refl;
          muted = refl;
          power = refl;
          error = refl;
          frames = f.are;
          hp = hp.are;
          lp = lp.sums;
          lp_are = lp.are;
          lp_is = refl;
        };
      }

  -- so bytes have lines so far, and at the end
  pub some_lines : (out : List ℕ) × MeasureLive s bytes out
  some_lines =
      let frames : ℕ → SuperFrame = λ j. (frame_of j).frame in
      (lines_of frames (defined_by (symbols s bytes)), record { frames = frames; are = λ j l. (frame_of j).are; is = refl })

  pub some_last : (out : List ℕ) × MeasureFinal s bytes out
  some_last =
      let frames : ℕ → SuperFrame = λ j. (frame_of j).frame in
      let r = final s bytes in
      (lines_of frames (begun_by (symbols s bytes)) ++ closing_lines s bytes r.0, record { frames = frames; are = λ j l. (frame_of j).are; reception = r.0; final = r.1; is = refl })
