-- The symbols of a file received through a flat channel, after correction.
use Rattle.std.proofs.Common.{◌≡◌, ℕ, zero, suc, ◌+◌, ◌*◌, ◌/◌, ◌%◌, ◌^◌, ◌<◌, ◌≤◌, List, [], ◌∷◌, length, get_or, map, ap, refl, sym, subst, arith, min, max, Bool, true, false}
use Rattle.std.specs.Prelude.{ℤ, pos, neg_ℤ, nat_abs, ◌+ℤ◌, ◌-ℤ◌, ◌*ℤ◌, ◌==◌, if◌then◌else◌, sum_by, slice_index}
use Rattle.std.proofs.lemmas.List.Sums.{sum_by-cons}
use Rattle.spec_words.specs.Words.{numbers}
use Rattle.spec_words.proofs.Counting.{length-numbers, get_or-numbers}
use Rattle.spec_words.proofs.Ring.{itself, number, plus, opposite, less, times, same}
use Rattle.spec_words.proofs.Sizes.{Below, opposite_below}
use Rattle.mode_set.specs.Entries.{entry}
use Rattle.mode_set.specs.StreamTable.{carriers}
use Rattle.mode_set.specs.declared.modes.Mode.{Mode}
use Rattle.mode_set.specs.declared.modes.Mode.TheVariants.{M2k, M8k}
use Rattle.mode_set.specs.declared.modes.Shape.{Shape}
use Rattle.mode_set.specs.declared.settings.Settings.{Settings}
use Rattle.pilots.specs.Around.{is_pilot}
use Rattle.pilots.specs.Reference.{reference}
use Rattle.qam_map.specs.Cells.{cell_of}
use Rattle.qam_map.specs.declared.cell.Cell.{Cell}
use Rattle.tracking.specs.Comb.{Comb, comb_of, points, pilot, unturned, window, continual_points}
use Rattle.tracking.specs.Correction.{mean_power, full_ratio, full_power}
use Rattle.tracking.specs.InTime.{point_gain}
use Rattle.tracking.specs.Tracking.{Symbol, comb, gain, noise, reference_power, tracked}
use Rattle.track_arithmetic.specs.Numbers.{power, root}
use Rattle.track_arithmetic.specs.declared.complex.Complex.{Complex}
use Rattle.law_tracking.proofs.Cell.{IsReceived, IsCorrected, cell_corrected, power_near}
use Rattle.law_tracking.proofs.Frequency.{carrier_near}
use Rattle.law_tracking.proofs.Received.{IsAmplitude, amplitude, IsPilotOf}
use Rattle.law_tracking.proofs.Time.{HasThrough, IsNear, true_gain, point_near}

abbrev pub no_symbol : Symbol
no_symbol = record { cells = []; weights = [] }

abbrev pub pilot_cell : ℕ → Cell
pilot_cell k = record { re = unturned (reference k) (pos 21845); im = pos 0 }

-- the known facts on symbols received through a flat channel
pub record HaveArrived (s : Settings) (a b : ℤ) (sent : ℕ → ℕ → Cell) (symbols : List Symbol) : Type 0 where
  pub re : (m k : ℕ) → Below (sent m k).re 21845
  pub im : (m k : ℕ) → Below (sent m k).im 21845
  pub pilots : (m k : ℕ) → is_pilot s.mode (m % 68) k ≡ true → sent m k ≡ pilot_cell k
  pub through : (m k : ℕ) → m < length symbols → k < carriers s.mode → IsReceived a b (sent m k).re (sent m k).im (cell_of (get_or symbols m no_symbol).cells k).re (cell_of (get_or symbols m no_symbol).cells k).im
  pub counts : (m k : ℕ) → m < length symbols → k < carriers s.mode → 1 ≤ slice_index (get_or symbols m no_symbol).weights k

-- ---- pilots
real_part : (w : Bool) (a b r : ℤ) → Below (pos 16384 *ℤ r -ℤ (a *ℤ unturned w (pos 21845) -ℤ b *ℤ pos 0)) 16384 → Below (pos 16384 *ℤ unturned w r -ℤ pos 21845 *ℤ a) 16384
real_part true a b r h =
    let g = number 16384 in let s = number 21845 in let o = number 0 in let a' = itself a in let b' = itself b in let r' = itself r in
    let is : neg_ℤ (pos 16384 *ℤ r -ℤ (a *ℤ neg_ℤ (pos 21845) -ℤ b *ℤ pos 0)) ≡ pos 16384 *ℤ neg_ℤ r -ℤ pos 21845 *ℤ a =
    same (opposite (less (times g r') (less (times a' (opposite s)) (times b' o)))) (less (times g (opposite r')) (times s a')) (omega arith) in
    subst (λ (z : ℤ). Below z 16384) is (opposite_below h)
real_part false a b r h =
    let g = number 16384 in let s = number 21845 in let o = number 0 in let a' = itself a in let b' = itself b in let r' = itself r in
    let is : pos 16384 *ℤ r -ℤ (a *ℤ pos 21845 -ℤ b *ℤ pos 0) ≡ pos 16384 *ℤ r -ℤ pos 21845 *ℤ a =
    same (less (times g r') (less (times a' s) (times b' o))) (less (times g r') (times s a')) (omega arith) in
    subst (λ (z : ℤ). Below z 16384) is h

imaginary_part : (w : Bool) (a b i : ℤ) → Below (pos 16384 *ℤ i -ℤ (a *ℤ pos 0 +ℤ b *ℤ unturned w (pos 21845))) 16384 → Below (pos 16384 *ℤ unturned w i -ℤ pos 21845 *ℤ b) 16384
imaginary_part true a b i h =
    let g = number 16384 in let s = number 21845 in let o = number 0 in let a' = itself a in let b' = itself b in let i' = itself i in
    let is : neg_ℤ (pos 16384 *ℤ i -ℤ (a *ℤ pos 0 +ℤ b *ℤ neg_ℤ (pos 21845))) ≡ pos 16384 *ℤ neg_ℤ i -ℤ pos 21845 *ℤ b =
    same (opposite (less (times g i') (plus (times a' o) (times b' (opposite s))))) (less (times g (opposite i')) (times s b')) (omega arith) in
    subst (λ (z : ℤ). Below z 16384) is (opposite_below h)
imaginary_part false a b i h =
    let g = number 16384 in let s = number 21845 in let o = number 0 in let a' = itself a in let b' = itself b in let i' = itself i in
    let is : pos 16384 *ℤ i -ℤ (a *ℤ pos 0 +ℤ b *ℤ pos 21845) ≡ pos 16384 *ℤ i -ℤ pos 21845 *ℤ b =
    same (less (times g i') (plus (times a' o) (times b' s))) (less (times g i') (times s b')) (omega arith) in
    subst (λ (z : ℤ). Below z 16384) is h

is_pilot_of : (a b : ℤ) (cells : List Cell) (j : ℕ) (sent : Cell) → sent ≡ pilot_cell (3 * j) → IsReceived a b sent.re sent.im (cell_of cells (3 * j)).re (cell_of cells (3 * j)).im → IsPilotOf a b (pilot cells j)
unfolding pilot
is_pilot_of a b cells j sent is came =
    let c = cell_of cells (3 * j) in
    let through : IsReceived a b (pilot_cell (3 * j)).re (pilot_cell (3 * j)).im c.re c.im = subst (λ (x : Cell). IsReceived a b x.re x.im c.re c.im) is came in
    record { re = real_part (reference (3 * j)) a b c.re through.re; im = imaginary_part (reference (3 * j)) a b c.im through.im }

cells_at : (symbols : List Symbol) (t : ℕ) → (get_or symbols t no_symbol).cells ≡ get_or (map (λ (x : Symbol). x.cells) symbols) t []
cells_at [] t = refl
cells_at (x ∷ xs) zero = refl
cells_at (x ∷ xs) (suc t) = cells_at xs t

carrier_below : (m : Mode) (j : ℕ) → j < points m → 3 * j < carriers m
carrier_below m j h = omega (arith, h)

count_is : (symbols : List Symbol) → length (map (λ (x : Symbol). x.cells) symbols) ≡ length symbols
count_is [] = refl
count_is (x ∷ xs) = ap suc (count_is xs)

module _ (s : Settings) (a b : ℤ) (sent : ℕ → ℕ → Cell) (symbols : List Symbol) (h : HaveArrived s a b sent symbols) where
  through_comb : HasThrough a b (comb s symbols)
  unfolding comb_of
  through_comb = record {
    pilot = λ t j ht hj p.
        let here : t < length symbols = omega (arith, ht, count_is symbols) in
        let few = carrier_below s.mode j hj in
        subst (λ (cells : List Cell). IsPilotOf a b (pilot cells j)) (cells_at symbols t) (is_pilot_of a b (get_or symbols t no_symbol).cells j (sent t (3 * j)) (h.pilots t (3 * j) p) (h.through t (3 * j) here few));
  }

  gain_near : (r m k : ℕ) → IsAmplitude a b r → 4 ≤ length symbols → m < length symbols → k < carriers s.mode → IsNear 16384 (1233 * r) (gain s (comb s symbols) m k) (true_gain a b)
  unfolding gain comb_of
  gain_near r m k amp wide hm hk =
      let n = count_is symbols in
      carrier_near a b r amp s.guard s.mode (point_gain s.guard (comb s symbols) m) k hk (λ j lt. point_near a b r amp (comb s symbols) through_comb s.guard m j (omega (arith, wide, n)) (omega (arith, hm, n)) lt)

-- ---- the power that a symbol's weights are compared with
sum_most : (is : List ℕ) (f : ℕ → ℕ) (n : ℕ) → ((i : ℕ) → i < length is → f (get_or is i 0) ≤ n) → sum_by f is ≤ length is * n
sum_most [] f n h = omega arith
sum_most (i ∷ is) f n h =
    let rest = sum_most is f n (λ k l. h (suc k) (omega (arith, l))) in
    let first : f i ≤ n = h 0 (omega arith) in
    let e = sum_by-cons f i is in
    omega (arith, e, first, rest)

quotient_most : (m : Mode) (x n : ℕ) → x ≤ carriers m * n → x / carriers m ≤ n
quotient_most M2k x n h = omega (arith, h)
quotient_most M8k x n h = omega (arith, h)

mean_most : (m : Mode) (g : ℕ → Complex) (n : ℕ) → 1 ≤ n → ((k : ℕ) → k < carriers m → power (g k) ≤ n) → mean_power m g ≤ n
unfolding mean_power
mean_most m g n some h =
    let is = numbers (carriers m) in
    let long = length-numbers (carriers m) in
    let each : (i : ℕ) → i < length is → power (g (get_or is i 0)) ≤ n = λ i l.
    let lt : i < carriers m = omega (arith, l, long) in subst (λ (k : ℕ). power (g k) ≤ n) (sym (get_or-numbers (carriers m) i lt)) (h i lt) in
    let sum = sum_most is (λ k. power (g k)) n each in
    let all : sum_by (λ k. power (g k)) is ≤ carriers m * n = subst (λ (c : ℕ). sum_by (λ k. power (g k)) is ≤ c * n) long sum in
    let q = quotient_most m (sum_by (λ k. power (g k)) is) n all in
    omega (arith, q, some)

mean_some : (m : Mode) (g : ℕ → Complex) → 1 ≤ mean_power m g
unfolding mean_power
mean_some m g = omega arith

record IsModest (p full : ℕ) : Type 0 where
  pub some : 1 ≤ full
  pub most : full ≤ 690 * p

full_modest : (mean x p : ℕ) → 1 ≤ p → mean ≤ 460 * p → IsModest p (max 1 (min (3 * mean / 2) x))
full_modest mean x p some h = record { some = omega arith; most = omega (arith, some, h) }

either_modest : (alone : Bool) (shape : Shape) (mean noise pilots p : ℕ) → 1 ≤ p → 1 ≤ mean → mean ≤ 460 * p → IsModest p (if alone then mean else full_power shape mean noise pilots)
either_modest true shape mean noise pilots p some least h = record { some = least; most = omega (arith, h) }
either_modest false shape mean noise pilots p some least h = full_modest mean (4096 * (full_ratio shape * noise) / (9 * pilots)) p some h

reference_modest : (s : Settings) (c : Comb) (m p : ℕ) → 1 ≤ p → ((k : ℕ) → k < carriers s.mode → power (gain s c m k) ≤ 460 * p) → IsModest p (reference_power s c m)
unfolding reference_power
reference_modest s c m p some h =
    either_modest (length (window c m) == 1) (entry s (m / 272)).shape (mean_power s.mode (gain s c m)) (noise c m) (length (continual_points s.mode)) p some
    (mean_some s.mode (gain s c m)) (mean_most s.mode (gain s c m) (460 * p) (omega (arith, some)) h)

-- ---- each cell is corrected
pub all_corrected : (s : Settings) (a b : ℤ) (sent : ℕ → ℕ → Cell) (symbols : List Symbol) → 2 ^ 26 ≤ nat_abs a * nat_abs a + nat_abs b * nat_abs b → HaveArrived s a b sent symbols → 4 ≤ length symbols
    → (m k : ℕ) → m < length symbols → k < carriers s.mode → IsCorrected (sent m k) (tracked s symbols m k)
unfolding tracked
all_corrected s a b sent symbols strong h wide m k hm hk =
    let p = nat_abs a * nat_abs a + nat_abs b * nat_abs b in
    let r = root p in
    let amp = amplitude a b strong in
    let c = comb s symbols in
    let near = λ (k : ℕ) (lt : k < carriers s.mode). gain_near s a b sent symbols h r m k amp wide hm lt in
    let modest = reference_modest s c m p (omega (arith, strong)) (λ k lt. (power_near a b r (gain s c m k) amp (near k lt)).most) in
    let x = get_or symbols m no_symbol in
    cell_corrected a b r (reference_power s c m) (gain s c m k) (sent m k) (cell_of x.cells k) (slice_index x.weights k) amp (near k hk) (h.re m k) (h.im m k) (h.through m k hm hk) modest.some modest.most (h.counts m k hm hk)
