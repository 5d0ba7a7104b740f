-- The sums of a super-frame so far.
use Rattle.std.specs.Prelude.{◌≡◌, ℕ, ◌+◌, ◌-◌, ◌*◌, ◌<◌, ◌≤◌, if◌then◌else◌, List, Option, None, Some, count_by}
use Rattle.std.specs.Prelude.{sum_by}
use Rattle.std.specs.List.{range_with_len}
use Rattle.mode_set.specs.declared.modes.Stream.{Stream}
use Rattle.mode_set.specs.declared.modes.Stream.TheVariants.{Hp, Lp}
use Rattle.mode_set.specs.declared.settings.Settings.{Settings}
use Rattle.measure_sums.specs.Comparing.{Comparison, cells_in, muted_in, power_in, error_in, bits_in, wrong_in}
use Rattle.measurement.specs.Known.{IsKnown, is_compared, comparison}
use Rattle.measurement.specs.SuperFrames.{Knowns}
use Rattle.measure_report.specs.declared.sums.SymbolSums.{SymbolSums}
use Rattle.measure_sums.specs.Tables.{plus, no_sums}
use Rattle.measurer.specs.declared.current.Current.{Current}

-- super-frame j before its first symbol, with these counts of the frames before it
abbrev pub nothing_of : ℕ → ℕ → ℕ → Current
nothing_of j read bad = record { number = j; symbols = 0; sums = no_sums; read_before = read; bad_before = bad }

-- one more symbol, if it is compared
abbrev pub with_symbol : Current → Option SymbolSums → Current
with_symbol x None = x
with_symbol x (Some sums) = record x { symbols = x.symbols + 1; sums = plus x.sums sums }

-- the first k symbols of super-frame j
abbrev pub first_of : ℕ → ℕ → List ℕ
first_of j k = range_with_len (272 * j) k

-- the sum of a quantity over those of them that are compared
abbrev pub over_first : Settings → List ℕ → Knowns → ℕ → ℕ → (Comparison → ℕ) → ℕ
over_first s bytes known j k f = sum_by (λ m. if is_compared s m (known m) then f (comparison s bytes (known m) m) else
    0) (first_of j k)

-- the sums are those of the first k symbols of super-frame j
pub record AreFirstSums (s : Settings) (bytes : List ℕ) (known : Knowns) (j k : ℕ) (x : Current) : Type 0 where
  pub symbols : x.symbols ≡ count_by (λ m. is_compared s m (known m)) (first_of j k)
  pub cells : x.sums.cells ≡ over_first s bytes known j k cells_in
  pub muted : x.sums.muted ≡ over_first s bytes known j k muted_in
  pub power : x.sums.power ≡ over_first s bytes known j k power_in
  pub error : x.sums.error ≡ over_first s bytes known j k error_in
  pub hp_bits : x.sums.hp.bits ≡ over_first s bytes known j k (λ c. bits_in c Hp)
  pub hp_wrong : x.sums.hp.wrong ≡ over_first s bytes known j k (λ c. wrong_in c Hp)
  pub lp_bits : x.sums.lp.bits ≡ over_first s bytes known j k (λ c. bits_in c Lp)
  pub lp_wrong : x.sums.lp.wrong ≡ over_first s bytes known j k (λ c. wrong_in c Lp)

-- the bits known for the symbols from number `from` on and below `to`
abbrev pub AreKnown : Settings → List ℕ → ℕ → ℕ → Knowns → Type 0
AreKnown s bytes from to known = (m : ℕ) (σ : Stream) → from ≤ m → m < to → IsKnown s bytes σ m (known m σ)

-- by the known bits, the sums are those of the symbols of the super-frame below number `next`
abbrev pub AreSummed : Settings → List ℕ → ℕ → Current → Type 0
AreSummed s bytes next x = (known : Knowns) → AreKnown s bytes (272 * x.number) next known
    → AreFirstSums s bytes known x.number (next - 272 * x.number) x
