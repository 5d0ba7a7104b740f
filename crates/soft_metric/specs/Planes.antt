-- The weighted costs of all label bits of many cells, in one list.
use Rattle.std.specs.Prelude.{◌≡◌, ℕ, ◌+◌, ◌*◌, ◌<◌, ◌≤◌, List, length, slice_index, slice_index_or}
use Rattle.mode_set.specs.StreamTable.{label_bits}
use Rattle.mode_set.specs.declared.modes.Shape.{Shape}
use Rattle.mode_set.specs.declared.modes.Hierarchy.{Hierarchy}
use Rattle.qam_map.specs.declared.cell.Cell.{Cell}
use Rattle.soft_metric.specs.Costs.{costs_at_place}
use Rattle.soft_metric.specs.Squares.{IsSmallPair, pair_at}
use Rattle.soft_metric.specs.Weights.{weighted}

-- pair e * n + k of a list is the weighted costs of label bit e of cell k, of n cells
abbrev pub IsWrittenAt : Shape → Hierarchy → List Cell → List ℕ → List (ℕ × ℕ) → ℕ → ℕ → Type 0
IsWrittenAt s h cells weights costs e k = (d : Cell) → pair_at costs (e * length cells + k)
    ≡ weighted (costs_at_place s h (slice_index_or cells k d) e) (slice_index weights k)

-- only weighted costs of these cells were written to a list of costs, each at its index
pub record WritesCosts (s : Shape) (h : Hierarchy) (cells : List Cell) (weights : List ℕ) (old new : List (ℕ × ℕ)) :
    Type 0 where
  pub long : length new ≡ length old
  pub kept : (e k : ℕ) → e < label_bits s → k < length cells → IsWrittenAt s h cells weights old e k
      → IsWrittenAt s h cells weights new e k
  pub small : (i : ℕ) → IsSmallPair (pair_at old i) → IsSmallPair (pair_at new i)
  pub rest : (i : ℕ) → label_bits s * length cells ≤ i → pair_at new i ≡ pair_at old i
