-- What the last twelve words of coded bytes hold of the delay lines.
use Rattle.std.specs.Prelude.{◌≡◌, ℕ, ◌+◌, ◌-◌, ◌*◌, ◌<◌, List, [], ◌∷◌, length, map, slice_index}
use Rattle.circular_buffer.specs.Buffer.{Buffer, buffer}
use Rattle.forney.specs.Values.{values}

-- the twelve branches of the interleaver
abbrev pub branches : List ℕ
branches = 0 ∷ 1 ∷ 2 ∷ 3 ∷ 4 ∷ 5 ∷ 6 ∷ 7 ∷ 8 ∷ 9 ∷ 10 ∷ 11 ∷ []

-- byte k of the line of a branch: the one that the branch gives after k others
abbrev pub window_byte : List ℕ → ℕ → ℕ → ℕ
window_byte window branch k = slice_index window (2448 + branch + 12 * k - 204 * branch)

-- the line of a branch
abbrev pub window_line : List ℕ → ℕ → Buffer ℕ
window_line window branch = buffer (values (window_byte window branch) 0 (17 * branch)) (17 * branch)

-- the lines of an interleaver that has the last twelve words
unfoldable pub window_lines : List ℕ → List (Buffer ℕ)
window_lines window = map (window_line window) branches

-- a window after one more word
pub record HasTaken (old word new : List ℕ) : Type 0 where
  pub size : length new ≡ 2448
  pub kept : (i : ℕ) → i < 2244 → slice_index new i ≡ slice_index old (i + 204)
  pub taken : (j : ℕ) → j < 204 → slice_index new (2244 + j) ≡ slice_index word j
