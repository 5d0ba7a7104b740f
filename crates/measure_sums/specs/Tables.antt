-- The tables of the code, what one payload carrier adds, and bounds of the sums.
use Rattle.std.specs.Prelude.{◌≡◌, ℕ, ◌+◌, ◌*◌, ◌^◌, ◌<◌, ◌≤◌, nat_lt, ◌&&◌, not, if◌then◌else◌, Bool, false, List}
use Rattle.std.specs.Prelude.{length, slice_index_or, count_by}
use Rattle.std.specs.Bool.{beq}
use Rattle.spec_words.specs.Words.{numbers}
use Rattle.mode_set.specs.StreamTable.{label_bits}
use Rattle.mode_set.specs.declared.modes.Stream.{Stream}
use Rattle.mode_set.specs.declared.modes.Stream.TheVariants.{Hp, Lp}
use Rattle.bit_interleave.specs.Place.{stream_at}
use Rattle.hard_decision.specs.Hard.{hard_bit}
use Rattle.measure_sums.specs.Comparing.{is_same, power_of, squared_distance}
use Rattle.spec_words.specs.Bits.{is_set}
use Rattle.mode_set.specs.declared.modes.Shape.{Shape}
use Rattle.mode_set.specs.declared.modes.Hierarchy.{Hierarchy}
use Rattle.qam_map.specs.Points.{map_cell}
use Rattle.qam_map.specs.declared.cell.Cell.{Cell}
use Rattle.measure_report.specs.declared.sums.BitSums.{BitSums}
use Rattle.measure_report.specs.declared.sums.SymbolSums.{SymbolSums}

-- the cells of the labels below n
pub record ArePoints (s : Shape) (h : Hierarchy) (n : ℕ) (list : List Cell) : Type 0 where
  pub long : length list ≡ 64
  pub at : (label : ℕ) (d : Cell) → label < n → slice_index_or list label d ≡ map_cell s h (is_set label)

-- the sum of two counts of bits
abbrev pub plus_bits : BitSums → BitSums → BitSums
plus_bits a b = record { bits = a.bits + b.bits; wrong = a.wrong + b.wrong }

-- the sums of two parts
abbrev pub plus : SymbolSums → SymbolSums → SymbolSums
plus a b = record {
  cells = a.cells + b.cells;
  muted = a.muted + b.muted;
  power = a.power + b.power;
  error = a.error + b.error;
  hp = plus_bits a.hp b.hp;
  lp = plus_bits a.lp b.lp;
}

-- at most six bits for each of n carriers
abbrev pub IsLittle : BitSums → ℕ → Type 0
IsLittle b n = (b.bits ≤ 6 * n) × (b.wrong ≤ 6 * n)

-- the greatest sums of n payload carriers; a value of an axis has 16 bits
pub record AreLittle (a : SymbolSums) (n : ℕ) : Type 0 where
  pub cells : a.cells ≤ n
  pub muted : a.muted ≤ n
  pub power : a.power ≤ 2 ^ 31 * n
  pub error : a.error ≤ 2 ^ 33 * n
  pub hp : IsLittle a.hp n
  pub lp : IsLittle a.lp n

-- the number of label bits that carry a stream
abbrev pub bits_of_label : Shape → Hierarchy → Stream → ℕ
bits_of_label s h σ = count_by (λ e. is_same (stream_at h e) σ) (numbers (label_bits s))

-- the number of these that differ in two lists of bits
abbrev pub wrong_among : Shape → Hierarchy → Stream → List Bool → List Bool → ℕ
wrong_among s h σ hard sent = count_by (λ e. is_same (stream_at h e) σ && not
    (beq (slice_index_or hard e false) (slice_index_or sent e false))) (numbers (label_bits s))

-- the bits of a stream that one payload carrier adds
abbrev pub counted_bits : Shape → Hierarchy → ℕ → Cell → Stream → BitSums
counted_bits s h label c σ = record {
  bits = bits_of_label s h σ;
  wrong = count_by (λ e. is_same (stream_at h e) σ && not (beq (hard_bit s h c e) (is_set label e)))
      (numbers (label_bits s));
}

-- what a carrier adds if its received cell c counts
abbrev pub counted_sums : Shape → Hierarchy → ℕ → Cell → SymbolSums
counted_sums s h label c = record {
  cells = 1;
  muted = 0;
  power = power_of (map_cell s h (is_set label));
  error = squared_distance c (map_cell s h (is_set label));
  hp = counted_bits s h label c Hp;
  lp = counted_bits s h label c Lp;
}

-- no bits
abbrev pub no_bits : BitSums
no_bits = record { bits = 0; wrong = 0 }

-- no sums
abbrev pub no_sums : SymbolSums
no_sums = record { cells = 0; muted = 0; power = 0; error = 0; hp = no_bits; lp = no_bits }

-- what a carrier adds if its cell has weight 0
abbrev pub muted_sums : SymbolSums
muted_sums = record { cells = 0; muted = 1; power = 0; error = 0; hp = no_bits; lp = no_bits }

-- what one payload carrier adds: its sums if its cell counts, otherwise one muted cell
abbrev pub place_adds : Shape → Hierarchy → ℕ → Cell → ℕ → SymbolSums
place_adds s h label c weight = if nat_lt 0 weight then counted_sums s h label c else muted_sums

-- the invariant of a constellation
pub record IsConstellation (s : Shape) (h : Hierarchy) (decision : Shape × Hierarchy) (points : List Cell)
    (hp_bits lp_bits : ℕ) : Type 0 where
  pub decision_is : decision ≡ (s, h)
  pub points_are : ArePoints s h (2 ^ label_bits s) points
  pub hp_are : hp_bits ≡ bits_of_label s h Hp
  pub lp_are : lp_bits ≡ bits_of_label s h Lp
  pub hp_few : hp_bits ≤ 6
  pub lp_few : lp_bits ≤ 6
