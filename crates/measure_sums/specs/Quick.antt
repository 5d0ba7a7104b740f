-- What is kept of the points, and how near to its point a cell has no wrong bit.
use Rattle.std.specs.Prelude.{◌≡◌, ℕ, ◌^◌, ◌<◌, ◌≤◌, List, length, slice_index_or}
use Rattle.spec_words.specs.Bits.{is_set}
use Rattle.mode_set.specs.StreamTable.{label_bits}
use Rattle.mode_set.specs.declared.modes.Shape.{Shape}
use Rattle.mode_set.specs.declared.modes.Hierarchy.{Hierarchy}
use Rattle.mode_set.specs.declared.modes.Stream.TheVariants.{Hp, Lp}
use Rattle.qam_map.specs.Points.{map_cell}
use Rattle.qam_map.specs.declared.cell.Cell.{Cell}
use Rattle.hard_decision.specs.Hard.{hard_bit}
use Rattle.measure_report.specs.declared.sums.BitSums.{BitSums}
use Rattle.measure_report.specs.declared.sums.SymbolSums.{SymbolSums}
use Rattle.measure_sums.specs.Comparing.{power_of, squared_distance}
use Rattle.measure_sums.specs.Tables.{bits_of_label}
use Rattle.measure_sums.specs.declared.sent.Sent.{Sent}

-- the point of a label and its power
abbrev pub sent_for : Shape → Hierarchy → ℕ → Sent
sent_for s h label = record { point = map_cell s h (is_set label); power = power_of (map_cell s h (is_set label)) }

-- the same for the labels below n
pub record AreSent (s : Shape) (h : Hierarchy) (n : ℕ) (list : List Sent) : Type 0 where
  pub long : length list ≡ 64
  pub at : (label : ℕ) (d : Sent) → label < n → slice_index_or list label d ≡ sent_for s h label
  pub few : (label : ℕ) (d : Sent) → label < n → (slice_index_or list label d).power ≤ 2 ^ 31

-- a cell whose squared distance from the point of a label is less than this is decided as that label
abbrev pub IsSafe : Shape → Hierarchy → ℕ → Type 0
IsSafe s h safe = (label e : ℕ) (c : Cell) → squared_distance c (map_cell s h (is_set label)) < safe → e < label_bits s
    → hard_bit s h c e ≡ is_set label e

-- the bits of a stream at a place whose cell counts and has no wrong bit
abbrev pub right_bits : ℕ → BitSums
right_bits bits = record { bits = bits; wrong = 0 }

-- what such a place adds to all sums
abbrev pub right_sums : Shape → Hierarchy → ℕ → ℕ → SymbolSums
right_sums s h power error = record {
  cells = 1;
  muted = 0;
  power = power;
  error = error;
  hp = right_bits
      (bits_of_label s h Hp);
  lp = right_bits (bits_of_label s h Lp);
}

-- what a table of points keeps
pub record IsPointTable (s : Shape) (h : Hierarchy) (sent : List Sent) (hp_bits lp_bits safe : ℕ) : Type 0 where
  pub sent_are : AreSent s h (2 ^ label_bits s) sent
  pub hp_are : hp_bits ≡ bits_of_label s h Hp
  pub lp_are : lp_bits ≡ bits_of_label s h Lp
  pub hp_few : hp_bits ≤ 6
  pub lp_few : lp_bits ≤ 6
  pub safe_is : IsSafe s h safe
