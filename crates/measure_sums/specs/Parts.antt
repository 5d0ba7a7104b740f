-- The sums of the first payload places of a symbol.
use Rattle.std.specs.Prelude.{ℕ, ◌&&◌, not, if◌then◌else◌, List, sum_by, count_by, slice_index}
use Rattle.spec_words.specs.Words.{numbers}
use Rattle.spec_words.specs.Bits.{is_set}
use Rattle.mode_set.specs.declared.modes.Stream.{Stream}
use Rattle.mode_set.specs.declared.modes.Stream.TheVariants.{Hp, Lp}
use Rattle.mode_set.specs.declared.settings.Settings.{Settings}
use Rattle.qam_map.specs.declared.cell.Cell.{Cell}
use Rattle.measure_report.specs.declared.sums.SymbolSums.{SymbolSums}
use Rattle.measure_sums.specs.Comparing.{Comparison, counts, carries, is_wrong, label_places, received, remade}
use Rattle.measure_sums.specs.Comparing.{power_of, squared_distance}

-- sums by their fields
abbrev pub all : ℕ → ℕ → ℕ → ℕ → ℕ → ℕ → ℕ → ℕ → SymbolSums
all c m p e hb hw lb lw = record {
  cells = c;
  muted = m;
  power = p;
  error = e;
  hp = record { bits = hb; wrong = hw };
  lp
      = record { bits = lb; wrong = lw };
}

-- the number of bits of a stream at place q
abbrev pub bits_at : Comparison → Stream → ℕ → ℕ
bits_at x σ q = if counts x q then count_by (carries x σ) (label_places x) else 0

-- the number of wrong bits of a stream at place q
abbrev pub wrong_at : Comparison → Stream → ℕ → ℕ
wrong_at x σ q = if counts x q then count_by (λ e. carries x σ e && is_wrong x q e) (label_places x) else 0

-- the power of the remade cell at place q
abbrev pub power_at : Comparison → ℕ → ℕ
power_at x q = if counts x q then power_of (remade x q) else 0

-- the squared error of the received cell at place q
abbrev pub error_at : Comparison → ℕ → ℕ
error_at x q = if counts x q then squared_distance (received x q) (remade x q) else 0

-- 1 if the cell at place q counts
abbrev pub cell_at : Comparison → ℕ → ℕ
cell_at x q = if counts x q then 1 else 0

-- 1 if the cell at place q is muted
abbrev pub mute_at : Comparison → ℕ → ℕ
mute_at x q = if not (counts x q) then 1 else 0

-- a quantity over the first n places
abbrev pub over : (ℕ → ℕ) → ℕ → ℕ
over f n = sum_by f (numbers n)

-- all sums over the first n places
abbrev pub sums_to : Comparison → ℕ → SymbolSums
sums_to x n = all (over (cell_at x) n) (over (mute_at x) n) (over (power_at x) n) (over (error_at x) n)
    (over (bits_at x Hp) n) (over (wrong_at x Hp) n) (over (bits_at x Lp) n) (over (wrong_at x Lp) n)

-- what place q adds to all sums
abbrev pub place_of : Comparison → ℕ → SymbolSums
place_of x q = all (cell_at x q) (mute_at x q) (power_at x q) (error_at x q) (bits_at x Hp q) (wrong_at x Hp q)
    (bits_at x Lp q) (wrong_at x Lp q)

-- a symbol beside labels that are kept as numbers
abbrev pub symbol_of : Settings → List Cell → List ℕ → ℕ → List ℕ → Comparison
symbol_of s cells weights l labels = record {
  settings = s;
  cells = cells;
  weights = weights;
  symbol = l;
  labels = λ q.
      is_set (slice_index labels q);
}
