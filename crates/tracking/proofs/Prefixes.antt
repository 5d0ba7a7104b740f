-- The corrected symbols of a file and of one that begins with it.
use Rattle.std.proofs.Common.{◌≡◌, ℕ, ◌+◌, ◌-◌, ◌/◌, ◌<◌, ◌≤◌, List, [], ◌∷◌, ◌++◌, length, take, get_or, Bool, refl, ap, sym, ◌∙◌, arith, map, max, length-append}
use Rattle.std.specs.Prelude.{◌==◌, if◌then◌else◌, ◌*◌, pos, Option, sum_by, slice_index}
use Rattle.std.proofs.lemmas.List.{get_or_append_left, map-append, length-map}
use Rattle.std.proofs.lemmas.List.FromFn.{take-map-range_with_len}
use Rattle.spec_words.specs.Words.{numbers}
use Rattle.spec_words.proofs.Counting.{length-numbers, get_or-numbers}
use Rattle.mode_set.specs.Entries.{entry}
use Rattle.mode_set.specs.StreamTable.{carriers}
use Rattle.mode_set.specs.declared.modes.Guard.{Guard}
use Rattle.mode_set.specs.declared.modes.Mode.{Mode}
use Rattle.mode_set.specs.declared.settings.Settings.{Settings}
use Rattle.qam_map.specs.Cells.{cell_of}
use Rattle.qam_map.specs.declared.cell.Cell.{Cell}
use Rattle.tracking.specs.BadSymbols.{middle}
use Rattle.tracking.specs.Comb.{Comb, comb_of, pilot, continual_points, window}
use Rattle.tracking.specs.Correction.{mean_power, full_power, corrected}
use Rattle.tracking.specs.InFrequency.{frequency_row, first_point, slope, centred, carrier_gain}
use Rattle.tracking.specs.InTime.{point_gain}
use Rattle.tracking.specs.Laws.{LiveSymbolsStay}
use Rattle.tracking.specs.Moving.{mean_residue}
use Rattle.tracking.specs.Tracking.{Symbol, comb, gain, noise, noise_by, reference_power, tracked, bytes_of, tracked_bytes, tracked_symbols, live_symbols}
use Rattle.tracking.specs.declared.motion.Motion.TheVariants.{Slow, Fast}
use Rattle.tracking.specs.declared.tracked.Tracked.{Tracked}
use Rattle.tracking.proofs.Live.{Agree, same_window, same_middle, same_mean, same_point}
use Rattle.tracking.proofs.Same.{sum_same, total_same, map_same, bytes_same}
use Rattle.track_arithmetic.specs.Numbers.{times, scaled, power, near, sum_of, turned_by}
use Rattle.track_arithmetic.specs.declared.complex.Complex.{Complex}

-- ---- from the gains at the points only
same_carrier : (g : Guard) (m : Mode) (h i : ℕ → Complex) (k : ℕ) → ((j : ℕ) → h j ≡ i j) → carrier_gain g m h k ≡ carrier_gain g m i k
unfolding carrier_gain
same_carrier g m h i k e =
    let o = first_point m k in
    let row = frequency_row g (k - 3 * o) in
    let each : (j : ℕ) → scaled (get_or row j (pos 0)) (centred g h (o + j)) ≡ scaled (get_or row j (pos 0)) (centred g i (o + j)) = λ j.
    ap (λ (z : Complex). scaled (get_or row j (pos 0)) (near 14 (times z (turned_by (3 * (o + j) * slope g))))) (e (o + j)) in
    ap (λ (z : Complex). near 14 (times (near 14 z) (turned_by (63 * (k * slope g)))))
    (sum_same (numbers 12) (λ (j : ℕ). scaled (get_or row j (pos 0)) (centred g h (o + j))) (λ (j : ℕ). scaled (get_or row j (pos 0)) (centred g i (o + j))) (λ j _. each (get_or (numbers 12) j 0)))

same_power : (m : Mode) (g h : ℕ → Complex) → ((k : ℕ) → g k ≡ h k) → mean_power m g ≡ mean_power m h
unfolding mean_power
same_power m g h e =
    ap (λ (z : ℕ). max 1 (z / carriers m)) (total_same (numbers (carriers m)) (λ (k : ℕ). power (g k)) (λ (k : ℕ). power (h k)) (λ i _. ap power (e (get_or (numbers (carriers m)) i 0))))

module _ (s : Settings) (c d : Comb) (n : ℕ) (a : Agree c d n) where
  same_gain : (m k : ℕ) → m + 8 ≤ n → gain s c m k ≡ gain s d m k
  unfolding gain
  same_gain m k h = same_carrier s.guard s.mode (point_gain s.guard c m) (point_gain s.guard d m) k (λ j. same_point c d n a s.guard m j h)

  same_noise : (m : ℕ) → m + 8 ≤ n → noise c m ≡ noise d m
  unfolding noise
  same_noise m h =
      ap (λ (z : Option ℕ). noise_by z (mean_residue c Fast m) (middle c m)) (same_mean c d n a Slow m h)
      ∙ ap (λ (z : Option ℕ). noise_by (mean_residue d Slow m) z (middle c m)) (same_mean c d n a Fast m h)
      ∙ ap (noise_by (mean_residue d Slow m) (mean_residue d Fast m)) (same_middle c d n a m h)

  same_reference : (m : ℕ) → m + 8 ≤ n → reference_power s c m ≡ reference_power s d m
  unfolding reference_power
  same_reference m h =
      let shape = (entry s (m / 272)).shape in
      let pilots = length (continual_points s.mode) in
      let mean : mean_power s.mode (gain s c m) ≡ mean_power s.mode (gain s d m) = same_power s.mode (gain s c m) (gain s d m) (λ k. same_gain m k h) in
      ap (λ (z : List ℕ). if length z == 1 then mean_power s.mode (gain s c m) else full_power shape (mean_power s.mode (gain s c m)) (noise c m) pilots) (same_window c d n a m h)
      ∙ ap (λ (z : ℕ). if length (window d m) == 1 then z else full_power shape z (noise c m) pilots) mean
      ∙ ap (λ (z : ℕ). if length (window d m) == 1 then mean_power s.mode (gain s d m) else full_power shape (mean_power s.mode (gain s d m)) z pilots) (same_noise m h)

-- ---- a file and what follows it
agree : (s : Settings) (symbols more : List Symbol) → Agree (comb s (symbols ++ more)) (comb s symbols) (length symbols)
unfolding comb_of
agree s symbols more =
    let f = λ (x : Symbol). x.cells in
    let long = length-append symbols more in
    record {
      mode = refl;
      here = omega (arith, long, length-map (symbols ++ more) f);
      there = omega (arith, length-map symbols f);
      value = λ t j h. ap (λ (z : List Cell). pilot z j) (ap (λ (z : List (List Cell)). get_or z t []) (map-append f symbols more) ∙ get_or_append_left (map f symbols) (map f more) [] t (omega (arith, h, length-map symbols f)));
    }

same_tracked : (s : Settings) (symbols more : List Symbol) (m k : ℕ) → m + 8 ≤ length symbols → tracked s (symbols ++ more) m k ≡ tracked s symbols m k
unfolding tracked
same_tracked s symbols more m k h =
    let c = comb s (symbols ++ more) in
    let d = comb s symbols in
    let a = agree s symbols more in
    let none : Symbol = record { cells = []; weights = [] } in
    ap (λ (z : Symbol). corrected (reference_power s c m) (gain s c m k) (cell_of z.cells k) (slice_index z.weights k)) (get_or_append_left symbols more none m (omega (arith, h)))
    ∙ ap (λ (z : ℕ). corrected z (gain s c m k) (cell_of (get_or symbols m none).cells k) (slice_index (get_or symbols m none).weights k)) (same_reference s c d (length symbols) a m h)
    ∙ ap (λ (z : Complex). corrected (reference_power s d m) z (cell_of (get_or symbols m none).cells k) (slice_index (get_or symbols m none).weights k)) (same_gain s c d (length symbols) a m k h)

pub same_bytes : (s : Settings) (symbols more : List Symbol) (m : ℕ) → m + 8 ≤ length symbols → tracked_bytes s (symbols ++ more) m ≡ tracked_bytes s symbols m
unfolding tracked_bytes
same_bytes s symbols more m h =
    bytes_same (numbers (carriers s.mode)) (λ (k : ℕ). bytes_of (tracked s (symbols ++ more) m k)) (λ (k : ℕ). bytes_of (tracked s symbols m k)) (λ i _. ap bytes_of (same_tracked s symbols more m (get_or (numbers (carriers s.mode)) i 0) h))

first_of : {X : Type 0} (f : ℕ → X) (n k : ℕ) → k ≤ n → take k (map f (numbers n)) ≡ map f (numbers k)
unfolding numbers
first_of f n k h = take-map-range_with_len f 0 n k h

pub live_symbols_stay : LiveSymbolsStay
unfolding tracked_symbols live_symbols
live_symbols_stay s symbols more =
    let n = length symbols in
    let long = length-append symbols more in
    first_of (tracked_bytes s (symbols ++ more)) (length (symbols ++ more)) (n - 7) (omega (arith, long))
    ∙ map_same (numbers (n - 7)) (tracked_bytes s (symbols ++ more)) (tracked_bytes s symbols)
    (λ i h. let lt : i < n - 7 = omega (arith, h, length-numbers (n - 7)) in let e = get_or-numbers (n - 7) i lt in same_bytes s symbols more (get_or (numbers (n - 7)) i 0) (omega (arith, e, lt)))
