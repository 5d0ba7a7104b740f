-- The power with which a cell counts whole.
use Rattle.std.proofs.Common.{◌≡◌, ℕ, ◌+◌, ◌-◌, ◌/◌, ◌<◌, ◌≤◌, List, length, get_or, Bool, refl, ap, sym, ◌∙◌, subst, arith}
use Rattle.std.specs.Prelude.{if◌then◌else◌, max, Option}
use Rattle.std.proofs.lemmas.Bool.{ne_eqb, eq-eqb}
use Rattle.std.proofs.lemmas.List.{length-map}
use Rattle.std.proofs.lemmas.List.FromFn.{length-range_with_len}
use Rattle.spec_words.specs.Words.{numbers}
use Rattle.spec_words.proofs.Counting.{length-numbers, get_or-numbers}
use Rattle.mode_set.specs.Entries.{entry}
use Rattle.mode_set.specs.StreamTable.{carriers}
use Rattle.mode_set.specs.declared.modes.Mode.{Mode}
use Rattle.mode_set.specs.declared.modes.Shape.{Shape}
use Rattle.mode_set.specs.declared.settings.Settings.{Settings}
use Rattle.tracking.specs.BadSymbols.{middle}
use Rattle.tracking.specs.Comb.{Comb, comb_of, continual_points, window, window_end}
use Rattle.tracking.specs.Correction.{full_power, mean_power}
use Rattle.tracking.specs.Moving.{mean_residue}
use Rattle.tracking.specs.Tracking.{Symbol, comb, gain, noise, noise_by, reference_power}
use Rattle.tracking.specs.declared.motion.Motion.TheVariants.{Slow, Fast}
use Rattle.tracking.proofs.Same.{total_same}
use Rattle.track_motion.specs.Means.{AreMeans, slow_of, fast_of}
use Rattle.track_motion.specs.declared.residues.Residues.{Residues}
use Rattle.track_arithmetic.specs.Numbers.{power}
use Rattle.track_cells.specs.Gains.{gain_of}
use Rattle.track_arithmetic.specs.declared.complex.Complex.{Complex}

pub same_mean : (m : Mode) (g h : ℕ → Complex) → ((k : ℕ) → k < carriers m → g k ≡ h k) → mean_power m g ≡ mean_power m h
unfolding mean_power
same_mean m g h e =
    let ks = numbers (carriers m) in
    ap (λ (z : ℕ). max 1 (z / carriers m)) (total_same ks (λ (k : ℕ). power (g k)) (λ (k : ℕ). power (h k)) (λ i lt.
    let less : i < carriers m = omega (arith, lt, length-numbers (carriers m)) in
    let at = get_or-numbers (carriers m) i less in
    ap power (e (get_or ks i 0) (omega (arith, at, less)))))

-- the symbols of a file are those of its comb
pub count_is : (s : Settings) (symbols : List Symbol) → (comb s symbols).count ≡ length symbols
unfolding comb_of
count_is s symbols = length-map symbols (λ (x : Symbol). x.cells)

pub mode_is : (s : Settings) (symbols : List Symbol) → (comb s symbols).mode ≡ s.mode
unfolding comb_of
mode_is s symbols = refl

window_length : (c : Comb) (m : ℕ) → length (window c m) ≡ window_end c m - (m - 7)
unfolding window
window_length c m = length-range_with_len (m - 7) (window_end c m - (m - 7))

abbrev by_length : Bool → ℕ → ℕ → ℕ
by_length one mean full = if one then mean else full

module _ (s : Settings) (c : Comb) (m : ℕ) where
  pub of_one : (mean : ℕ) → m < c.count → c.count ≡ 1 → mean ≡ mean_power s.mode (gain s c m) → mean ≡ reference_power s c m
  unfolding reference_power
  of_one mean some one e =
      let long = window_length c m in
      let is : length (window c m) ≡ 1 = omega (arith, long, some, one) in
      e ∙ ap (λ (z : Bool). by_length z (mean_power s.mode (gain s c m)) (full_power (entry s (m / 272)).shape (mean_power s.mode (gain s c m)) (noise c m) (length (continual_points s.mode)))) (sym (eq-eqb (length (window c m)) 1 is))

  noise_is : (means : Option Residues) (mid : ℕ) → AreMeans c m means → mid ≡ middle c m → noise_by (slow_of means) (fast_of means) mid ≡ noise c m
  unfolding noise
  noise_is means mid are e =
      ap (λ (z : Option ℕ). noise_by z (fast_of means) mid) are.slow ∙ ap (λ (z : Option ℕ). noise_by (mean_residue c Slow m) z mid) are.fast ∙ ap (noise_by (mean_residue c Slow m) (mean_residue c Fast m)) e

  pub of_more : (means : Option Residues) (mid mean n pilots x : ℕ) (shape : Shape) → m < c.count → c.count ≤ m + 8 → (c.count ≡ 1 → ⊥) → AreMeans c m means → mid ≡ middle c m
      → mean ≡ mean_power s.mode (gain s c m) → shape ≡ (entry s (m / 272)).shape → n ≡ noise_by (slow_of means) (fast_of means) mid → pilots ≡ length (continual_points s.mode)
      → x ≡ full_power shape mean n pilots → x ≡ reference_power s c m
  unfolding reference_power
  of_more means mid mean n pilots x shape some late more are em e es en ep ex =
      let long = window_length c m in
      let not_one : length (window c m) ≡ 1 → ⊥ = λ h. omega (arith, long, some, late, more, h) in
      let g = gain s c m in
      ex ∙ ap (λ (z : Shape). full_power z mean n pilots) es
      ∙ ap (λ (z : ℕ). full_power (entry s (m / 272)).shape z n pilots) e
      ∙ ap (λ (z : ℕ). full_power (entry s (m / 272)).shape (mean_power s.mode g) z pilots) (en ∙ noise_is means mid are em)
      ∙ ap (full_power (entry s (m / 272)).shape (mean_power s.mode g) (noise c m)) ep
      ∙ ap (λ (z : Bool). by_length z (mean_power s.mode g) (full_power (entry s (m / 272)).shape (mean_power s.mode g) (noise c m) (length (continual_points s.mode)))) (sym (ne_eqb (length (window c m)) 1 not_one))

pub mean_of : (s : Settings) (symbols : List Symbol) (m : ℕ) (mode given : Mode) (gains : List Complex) (mean : ℕ) → given ≡ mode → s.mode ≡ mode → mean ≡ mean_power given (gain_of gains)
    → ((k : ℕ) → k < carriers mode → gain_of gains k ≡ gain s (comb s symbols) m k) → mean ≡ mean_power s.mode (gain s (comb s symbols) m)
mean_of s symbols m mode given gains mean eg es em is =
    em ∙ ap (λ (z : Mode). mean_power z (gain_of gains)) (eg ∙ sym es)
    ∙ same_mean s.mode (gain_of gains) (gain s (comb s symbols) m) (λ k lt. is k (subst (λ (z : Mode). k < carriers z) es lt))
