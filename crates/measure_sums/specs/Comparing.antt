-- The sums of a symbol: its received cells compared with those of its remade labels (ETSI TR 101 290, 9.15 to 9.18;
-- which cells count is this project's profile).
use Rattle.std.specs.Prelude.{◌≡◌, ℕ, ◌+◌, ◌^◌, ◌<◌, nat_lt, ◌&&◌, not, if◌then◌else◌, Bool, true, false, List, sum_by}
use Rattle.std.specs.Prelude.{count_by, slice_index, get_or, nat_abs}
use Rattle.std.specs.Bool.{beq}
use Rattle.spec_words.specs.Words.{numbers}
use Rattle.mode_set.specs.StreamTable.{payload, label_bits}
use Rattle.mode_set.specs.declared.modes.Stream.{Stream}
use Rattle.mode_set.specs.declared.modes.Stream.TheVariants.{Hp, Lp}
use Rattle.mode_set.specs.declared.settings.Settings.{Settings}
use Rattle.bit_interleave.specs.Place.{stream_at}
use Rattle.pilots.specs.Carriers.{payload_carriers}
use Rattle.qam_map.specs.Cells.{cell_of}
use Rattle.qam_map.specs.Points.{distance, map_cell}
use Rattle.qam_map.specs.declared.cell.Cell.{Cell}
use Rattle.soft_metric.specs.Weights.{full_weight, weight_of_byte}
use Rattle.measure_report.specs.declared.sums.BitSums.{BitSums}
use Rattle.measure_report.specs.declared.sums.SymbolSums.{SymbolSums}
use Rattle.hard_decision.specs.Hard.{hard_bit}

-- a symbol and its remade labels: the parameters, its received cells and their weights, its number in the frame, and
-- bit e of the remade label on payload carrier q
pub record Comparison : Type 0 where
  pub settings : Settings
  pub cells : List Cell
  pub weights : List ℕ
  pub symbol : ℕ
  pub labels : ℕ → ℕ → Bool

-- payload carrier q as a carrier of the symbol
abbrev pub carrier_at : Comparison → ℕ → ℕ
carrier_at x q = slice_index (payload_carriers x.settings.mode x.symbol) q

-- the received cell of payload carrier q
abbrev pub received : Comparison → ℕ → Cell
received x q = cell_of x.cells (carrier_at x q)

-- the weight of this cell
abbrev pub weight_at : Comparison → ℕ → ℕ
weight_at x q = weight_of_byte (get_or x.weights (carrier_at x q) full_weight)

-- the remade cell: the point of the remade label
abbrev pub remade : Comparison → ℕ → Cell
remade x q = map_cell x.settings.shape x.settings.hierarchy (x.labels q)

-- a payload carrier counts if its cell has a weight of at least 1
abbrev pub counts : Comparison → ℕ → Bool
counts x q = nat_lt 0 (weight_at x q)

-- the payload carriers of a symbol
abbrev pub places : Comparison → List ℕ
places x = numbers (payload x.settings.mode)

-- the sum of a quantity over the payload carriers that count
abbrev pub over_counted : Comparison → (ℕ → ℕ) → ℕ
over_counted x f = sum_by (λ q. if counts x q then f q else 0) (places x)

-- the number of payload carriers that count
abbrev pub cells_in : Comparison → ℕ
cells_in x = count_by (counts x) (places x)

-- the number of the other ones
abbrev pub muted_in : Comparison → ℕ
muted_in x = count_by (λ q. not (counts x q)) (places x)

-- the power of a cell
abbrev pub power_of : Cell → ℕ
power_of c = nat_abs c.re ^ 2 + nat_abs c.im ^ 2

-- the squared distance between two cells
abbrev pub squared_distance : Cell → Cell → ℕ
squared_distance c d = distance c.re d.re ^ 2 + distance c.im d.im ^ 2

-- the power of the remade cells
abbrev pub power_in : Comparison → ℕ
power_in x = over_counted x (λ q. power_of (remade x q))

-- the squared error of the received cells
abbrev pub error_in : Comparison → ℕ
error_in x = over_counted x (λ q. squared_distance (received x q) (remade x q))

-- two streams are the same
abbrev pub is_same : Stream → Stream → Bool
is_same Hp Hp = true
is_same Hp Lp = false
is_same Lp Hp = false
is_same Lp Lp = true

-- label bit e carries the stream
abbrev pub carries : Comparison → Stream → ℕ → Bool
carries x σ e = is_same (stream_at x.settings.hierarchy e) σ

-- the bits of a label
abbrev pub label_places : Comparison → List ℕ
label_places x = numbers (label_bits x.settings.shape)

-- the number of remade bits of a stream
abbrev pub bits_in : Comparison → Stream → ℕ
bits_in x σ = over_counted x (λ q. count_by (carries x σ) (label_places x))

-- whether the hard decision differs from the remade bit
abbrev pub is_wrong : Comparison → ℕ → ℕ → Bool
is_wrong x q e = not (beq (hard_bit x.settings.shape x.settings.hierarchy (received x q) e) (x.labels q e))

-- the number of bits with a wrong hard decision
abbrev pub wrong_in : Comparison → Stream → ℕ
wrong_in x σ = over_counted x (λ q. count_by (λ e. carries x σ e && is_wrong x q e) (label_places x))

-- the bits of a stream, and those with a wrong hard decision
abbrev pub bit_sums : Comparison → Stream → BitSums
bit_sums x σ = record { bits = bits_in x σ; wrong = wrong_in x σ }

-- all sums of the symbol
abbrev pub symbol_sums : Comparison → SymbolSums
symbol_sums x = record {
  cells = cells_in x;
  muted = muted_in x;
  power = power_in x;
  error = error_in x;
  hp
      = bit_sums x Hp;
  lp = bit_sums x Lp;
}

-- two symbols that differ only in how their labels are written
pub record AreAlike (x y : Comparison) : Type 0 where
  pub settings : x.settings ≡ y.settings
  pub cells : x.cells ≡ y.cells
  pub weights : x.weights ≡ y.weights
  pub symbol : x.symbol ≡ y.symbol
  pub labels : (q e : ℕ) → q < payload x.settings.mode → e < label_bits x.settings.shape → x.labels q e ≡ y.labels q e

-- they have the same sums
abbrev pub AlikeAreSummedAlike : Type 0
AlikeAreSummedAlike = (x y : Comparison) → AreAlike x y → symbol_sums x ≡ symbol_sums y
